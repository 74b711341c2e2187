-- The types of modules that violate no rule on names are a table.
use Rattle.std.proofs.Common.{◌≡◌, ℕ, zero, suc, ◌+◌, ◌<◌, ◌≤◌, true, List, [], ◌∷◌, ◌++◌, map, length, take, slice_get, Option, Some, None, refl, sym, ap, ◌∙◌, subst, arith}
use Rattle.og_types.specs.declared.Sort.{Sort}
use Rattle.og_types.specs.Table.{is_table}
use Rattle.og_flat.specs.declared.flat.Flat.{Flat}
use Rattle.og_dataview.specs.View.{in_order, sort_of}
use Rattle.og_datatypes.specs.Fitting.{Fits, IsFew, AreFew}
use Rattle.og_datatypes.proofs.Behind.{Standing, standing_first, one_more, standing_all}

-- what stands at a place that is there
got : {X : Type 0} (xs : List X) (i : ℕ) → i < length xs → (x : X) × (slice_get xs i ≡ Some x)
got [] i lt = absurd (omega (arith, lt))
got (x ∷ xs) zero lt = (x, refl)
got (x ∷ xs) (suc i) lt = got xs i (omega (arith, lt))

mapped : {X Y : Type 0} (f : X → Y) (xs : List X) (i : ℕ) (x : X) → slice_get xs i ≡ Some x → slice_get (map f xs) i ≡ Some (f x)
mapped f [] i x e = absurd (let no : ⊥ = cc in no)
mapped f (y ∷ ys) zero x e = ap Some (ap f (let same : y ≡ x = cc in same))
mapped f (y ∷ ys) (suc i) x e = mapped f ys i x e

up_to : (flat : Flat) (names : List (List ℕ)) → Fits names flat → AreFew (map (sort_of flat names) (in_order flat)) → (i : ℕ) → i ≤ length (in_order flat)
    → (types : List Sort) × Standing flat names i types
up_to flat names fits few zero le = ([], standing_first flat names)
up_to flat names fits few (suc i) le =
    let before = up_to flat names fits few i (omega (arith, le)) in
    let at = got (in_order flat) i (omega (arith, le)) in
    let s : Sort = sort_of flat names at.0 in
    let is_few = few i s (mapped (sort_of flat names) (in_order flat) i at.0 at.1) in
    let more = one_more flat names i at.0 before.0 (before.0 ++ s ∷ []) s fits at.1 refl is_few refl before.1 in
    (before.0 ++ s ∷ [], subst (λ (n : ℕ). Standing flat names n (before.0 ++ s ∷ [])) (let e : i + 1 ≡ suc i = omega arith in e) more)

pub all_stand : (flat : Flat) (names : List (List ℕ)) → Fits names flat → AreFew (map (sort_of flat names) (in_order flat)) → is_table (map (sort_of flat names) (in_order flat)) ≡ true
all_stand flat names fits few =
    let whole = up_to flat names fits few (length (in_order flat)) (omega arith) in
    ap is_table (sym (standing_all flat names (length (in_order flat)) whole.0 (omega arith) whole.1)) ∙ whole.1.table
