-- Three appends, one behind the other.
use Rattle.std.proofs.Common.{◌≡◌, ℕ, List, ◌++◌, ap, ◌∙◌, append_assoc}
use Rattle.std.specs.Prelude.{OnOk, Result, Ok, Err}

pub joined : (a b c d p q r : List ℕ) → b ≡ a ++ p → c ≡ b ++ q → d ≡ c ++ r → d ≡ a ++ ((p ++ q) ++ r)
joined a b c d p q r f g h =
    h ∙ ap (λ x. x ++ r) (g ∙ ap (λ x. x ++ q) f ∙ append_assoc a p q) ∙ append_assoc a (p ++ q) r

-- what holds after a call that went well, and what follows from it
pub after : {A E : Type 0} (result : Result A E) (P Q : Type 0) → (P → Q) → OnOk result P → OnOk result Q
after (Ok x) P Q f h = f h
after (Err e) P Q f h = h
