-- Loops that put the parts of a name behind one another.
use Rattle.std.proofs.Common.{◌≡◌, ℕ, ◌+◌, ◌≤◌, ◌<◌, List, ◌++◌, length, get_or, sym, ap, ◌∙◌, append_assoc}
use Rattle.std.specs.List.{flat_map}
use Rattle.std.proofs.lemmas.List.{append-nil}
use Rattle.og_names.proofs.Loops.{Left, left_first, left_more, left_all}

-- after the items before the i-th
pub record Joining {X Y : Type 0} (f : X → List Y) (xs : List X) (i : ℕ) (now first : List Y) : Type 0 where
  pub left : Left (λ ys. now ++ flat_map f ys) xs i (first ++ flat_map f xs)

pub joining_first : {X Y : Type 0} (f : X → List Y) (xs : List X) (first : List Y) → Joining f xs 0 first first
joining_first f xs first = record { left = left_first (λ ys. first ++ flat_map f ys) xs }

pub joining_more : {X Y : Type 0} (f : X → List Y) (xs : List X) (i : ℕ) (x : X) (now next first : List Y)
    → i < length xs → x ≡ get_or xs i x → next ≡ now ++ f x → Joining f xs i now first → Joining f xs (i + 1) next first
joining_more f xs i x now next first lt at is so_far = record {
  left = left_more (λ ys. now ++ flat_map f ys) (λ ys. next ++ flat_map f ys) xs i x _ lt at
      (λ ys. sym (append_assoc now (f x) (flat_map f ys)) ∙ ap (λ zs. zs ++ flat_map f ys) (sym is)) so_far.left;
}

pub joining_all : {X Y : Type 0} (f : X → List Y) (xs : List X) (i : ℕ) (now first : List Y)
    → length xs ≤ i → Joining f xs i now first → now ≡ first ++ flat_map f xs
joining_all f xs i now first le so_far = sym (append-nil now) ∙ left_all (λ ys. now ++ flat_map f ys) xs i _ le so_far.left

pub ruleset joins = (append_assoc, joining_first, joining_more, joining_all)
