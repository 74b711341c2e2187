-- What an iterator over words gives, in lists.
use Rattle.std.proofs.Common.{◌≡◌, ◌∙◌, ℕ, ◌+◌, List, [], ◌∷◌, ◌++◌, Option, Some, None, MatchOption, length, drop, refl, sym, ap, arith}
use Rattle.std.proofs.lemmas.Grind.{common_steps}

-- an empty list, by its length
no_more : {X : Type 0} (xs : List X) (n : ℕ) → n ≡ length xs → n ≡ 0 → xs ≡ []
no_more [] n len none = refl
no_more (x ∷ xs) n len none = grind (arith, common_steps)

-- what is left after the first item is all but the first
pub first_gone : {X : Type 0} (r : Option X) (old new : List X) (m n : ℕ) → m ≡ length old → n ≡ length new → MatchOption r ((m ≡ 0) × (n ≡ 0)) (λ x. (old ≡ x ∷ new) × (n + 1 ≡ m)) → new ≡ drop 1 old
first_gone None old new m n old_len new_len none = no_more new n new_len none.1 ∙ ap (λ xs. drop 1 xs) (sym (no_more old m old_len none.0))
first_gone (Some x) old new m n old_len new_len some = sym (ap (λ xs. drop 1 xs) some.0)

-- once nothing is left, all was taken
pub all_taken : {X : Type 0} (taken rest all : List X) (n : ℕ) → n ≡ length rest → n ≡ 0 → taken ++ rest ≡ all → taken ≡ all
all_taken taken rest all n len none joined = let e = no_more rest n len none in grind (arith, common_steps)

-- the same, where nothing was taken yet
pub none_taken : {X : Type 0} (taken rest all : List X) → taken ≡ [] → rest ≡ all → taken ++ rest ≡ all
none_taken taken rest all none e = grind (arith, common_steps)
