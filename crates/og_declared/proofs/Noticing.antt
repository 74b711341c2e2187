-- Loops that keep in mind the first of the violations so far.
use Rattle.std.proofs.Common.{◌≡◌, ℕ, ◌≤◌, List, [], ◌∷◌, ◌++◌, length, Option, refl, sym, ap, ◌∙◌, append_assoc}
use Rattle.std.specs.List.{flat_map}
use Rattle.og_base.specs.declared.Violation.{Violation}
use Rattle.og_base.specs.Order.{first_from}
use Rattle.og_system.proofs.Noticed.{first_from_both, Noted, noted_first, noted_more, noted_all}

split : {X A : Type 0} (f : X → List A) (xs ys : List X) → flat_map f (xs ++ ys) ≡ flat_map f xs ++ flat_map f ys
split f [] ys = refl
split f (x ∷ xs) ys = ap (λ zs. f x ++ zs) (split f xs ys) ∙ sym (append_assoc (f x) (flat_map f xs) (flat_map f ys))

-- what stands in the parts of parts
pub nested : {X Y A : Type 0} (f : Y → List A) (g : X → List Y) (xs : List X) → flat_map (λ x. flat_map f (g x)) xs ≡ flat_map f (flat_map g xs)
nested f g [] = refl
nested f g (x ∷ xs) = ap (λ zs. flat_map f (g x) ++ zs) (nested f g xs) ∙ sym (split f (g x) (flat_map g xs))

pub noted_nested : {X Y : Type 0} (f : Y → List Violation) (g : X → List Y) (xs : List X) (i : ℕ) (now first : Option Violation)
    → length xs ≤ i → Noted (λ x. flat_map f (g x)) xs i now first → now ≡ first_from first (flat_map f (flat_map g xs))
noted_nested f g xs i now first le noted = noted_all (λ x. flat_map f (g x)) xs i now first le noted ∙ ap (first_from first) (nested f g xs)

pub ruleset notes = (first_from_both, noted_first, noted_more, noted_all)
