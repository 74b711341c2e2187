-- Names of words.
use Rattle.std.proofs.Common.{◌≡◌, ℕ, Bool, true, false, List, [], ◌∷◌, refl, sym, ap, subst, arith}
use mathlib.Core.Bool.{Bool-set}
use Rattle.og_base.specs.declared.Place.{Place}
use Rattle.og_names.specs.declared.Word.{Word}
use Rattle.og_ast.specs.declared.ground.Name.{Name}
use Rattle.og_ast.specs.Names.{is_name}
use Rattle.og_reading.specs.Reading.{named_by, named}

-- there is one proof that a word is a name
one_spelling : (bytes : List ℕ) (p q : is_name bytes ≡ true) → p ≡ q
one_spelling bytes p q = let one : IsProp (is_name bytes ≡ true) = hlevel Bool-set in one p q

-- names of one place and word are one name
pub same_name : (place : Place) (v w : Word) → v ≡ w → (p : is_name v.bytes ≡ true) (q : is_name w.bytes ≡ true)
    → ◌≡◌ {A = Name} (record { place = place; word = v; spelling = p }) (record { place = place; word = w; spelling = q })
same_name place v w e p =
    subst (λ (u : Word). (q : is_name u.bytes ≡ true) → ◌≡◌ {A = Name} (record { place = place; word = v; spelling = p }) (record { place = place; word = u; spelling = q })) e
    (λ q. ap (λ (s : is_name v.bytes ≡ true). record { place = place; word = v; spelling = s }) (one_spelling v.bytes p q))

-- what is spelt like a name is one
pub named_so : (place : Place) (word : Word) (p : is_name word.bytes ≡ true) → ◌≡◌ {A = Name} (record { place = place; word = word; spelling = p }) (named place word)
unfolding named
named_so place word p = by (is_name word.bytes) refl p
  where
    by : (b : Bool) (e : is_name word.bytes ≡ b) → b ≡ true → ◌≡◌ {A = Name} (record { place = place; word = word; spelling = p }) (named_by place word b e)
    by true e t = same_name place word word refl p e
    by false e t = absurd cc

-- and what is not is `x`
pub not_named_so : (place : Place) (word x : Word) (p : is_name x.bytes ≡ true) → x.bytes ≡ 120 ∷ [] → is_name word.bytes ≡ false
    → ◌≡◌ {A = Name} (record { place = place; word = x; spelling = p }) (named place word)
unfolding named
not_named_so place word x p is f = by (is_name word.bytes) refl f
  where
    by : (b : Bool) (e : is_name word.bytes ≡ b) → b ≡ false → ◌≡◌ {A = Name} (record { place = place; word = x; spelling = p }) (named_by place word b e)
    by true e t = absurd cc
    by false e t = same_name place x (record { bytes = 120 ∷ [] }) (ap (λ (b : List ℕ). record { bytes = b }) is) p refl
