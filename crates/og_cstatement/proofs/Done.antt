-- What statements do, by the values of their parts.
use Rattle.std.proofs.Common.{◌≡◌, ℕ, ℤ, List, Bool, Option, Ok, Err, ◌∙◌}
use Rattle.og_ir.specs.Arithmetic.{Trouble, ◌>>=◌}
use Rattle.og_cstatement.specs.declared.code.Expression.{Expression}
use Rattle.og_cstatement.specs.declared.code.Place.{Place}
use Rattle.og_cstatement.specs.declared.code.Test.{Test}
use Rattle.og_cstatement.specs.declared.code.Case.{Case}
use Rattle.og_cstatement.specs.Meaning.{Put, Copy, value_of, place_of, holds, assigned, copied_from, branched, switched}
use Rattle.og_cstatement.proofs.Valued.{bound, stopped}

pub assigned_put : (G : List ℤ) (p : Place) (e : Expression) (at : ℕ) (z : ℤ) → place_of G p ≡ Ok at → value_of G e ≡ Ok z → assigned G p e ≡ Ok (Put at z)
assigned_put G p e at z found value = bound (place_of G p) (λ k. value_of G e >>= λ z. Ok (Put k z)) at found ∙ bound (value_of G e) (λ z. Ok (Put at z)) z value

pub assigned_halts : (x : Trouble) (G : List ℤ) (p : Place) (e : Expression) → place_of G p ≡ Err x → assigned G p e ≡ Err x
assigned_halts x G p e found = stopped x (place_of G p) (λ k. value_of G e >>= λ z. Ok (Put k z)) found

pub number_halts : (x : Trouble) (G : List ℤ) (p : Place) (e : Expression) (at : ℕ) → place_of G p ≡ Ok at → value_of G e ≡ Err x → assigned G p e ≡ Err x
number_halts x G p e at found value = bound (place_of G p) (λ k. value_of G e >>= λ z. Ok (Put k z)) at found ∙ stopped x (value_of G e) (λ z. Ok (Put at z)) value

pub copied_put : (G : List ℤ) (p from : Place) (width at source : ℕ) → place_of G p ≡ Ok at → place_of G from ≡ Ok source → copied_from G p from width ≡ Ok (Copy at source width)
copied_put G p from width at source found led =
    bound (place_of G p) (λ k. place_of G from >>= λ s. Ok (Copy k s width)) at found ∙ bound (place_of G from) (λ s. Ok (Copy at s width)) source led

pub copied_halts : (x : Trouble) (G : List ℤ) (p from : Place) (width : ℕ) → place_of G p ≡ Err x → copied_from G p from width ≡ Err x
copied_halts x G p from width found = stopped x (place_of G p) (λ k. place_of G from >>= λ s. Ok (Copy k s width)) found

pub source_halts : (x : Trouble) (G : List ℤ) (p from : Place) (width at : ℕ) → place_of G p ≡ Ok at → place_of G from ≡ Err x → copied_from G p from width ≡ Err x
source_halts x G p from width at found led =
    bound (place_of G p) (λ k. place_of G from >>= λ s. Ok (Copy k s width)) at found ∙ stopped x (place_of G from) (λ s. Ok (Copy at s width)) led

pub branched_by : (G : List ℤ) (t : Test) (place : Option ℕ) (b : Bool) → holds G t ≡ Ok b → (holds G t >>= branched place) ≡ branched place b
branched_by G t place b e = bound (holds G t) (branched place) b e

pub branch_halts : (x : Trouble) (G : List ℤ) (t : Test) (place : Option ℕ) → holds G t ≡ Err x → (holds G t >>= branched place) ≡ Err x
branch_halts x G t place e = stopped x (holds G t) (branched place) e

pub switched_by : (G : List ℤ) (e : Expression) (cases : List Case) (otherwise : Option ℕ) (z : ℤ) → value_of G e ≡ Ok z
    → (value_of G e >>= switched cases otherwise) ≡ switched cases otherwise z
switched_by G e cases otherwise z value = bound (value_of G e) (switched cases otherwise) z value

pub switch_halts : (x : Trouble) (G : List ℤ) (e : Expression) (cases : List Case) (otherwise : Option ℕ) → value_of G e ≡ Err x → (value_of G e >>= switched cases otherwise) ≡ Err x
switch_halts x G e cases otherwise value = stopped x (value_of G e) (switched cases otherwise) value

pub ruleset done = (assigned_put, assigned_halts, number_halts, copied_put, copied_halts, source_halts, branched_by, branch_halts, switched_by, switch_halts)
