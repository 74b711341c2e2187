-- Loops that add to a list what each item gives.
use Rattle.std.proofs.Common.{◌≡◌, ℕ, ◌+◌, ◌≤◌, ◌<◌, List, [], ◌∷◌, ◌++◌, length, get_or, sym, ap, ◌∙◌, append_assoc}
use Rattle.std.specs.List.{flat_map}
use Rattle.std.proofs.lemmas.List.{append-nil}
use Rattle.og_names.proofs.Loops.{Left, left_first, left_more, left_all}
use Rattle.og_ast.specs.declared.ground.Name.{Name}
use Rattle.og_outline.specs.Outlines.{hyphened}

-- after the items before the i-th
pub record Pieces {X Y : Type 0} (f : X → List Y) (xs : List X) (i : ℕ) (now first : List Y) : Type 0 where
  pub left : Left (λ ys. now ++ flat_map f ys) xs i (first ++ flat_map f xs)

pub pieces_first : {X Y : Type 0} (f : X → List Y) (xs : List X) (first : List Y) → Pieces f xs 0 first first
pieces_first f xs first = record { left = left_first (λ ys. first ++ flat_map f ys) xs }

pub pieces_more : {X Y : Type 0} (f : X → List Y) (xs : List X) (i : ℕ) (x : X) (now next first : List Y)
    → i < length xs → x ≡ get_or xs i x → next ≡ now ++ f x → Pieces f xs i now first → Pieces f xs (i + 1) next first
pieces_more f xs i x now next first lt at is so_far = record {
  left = left_more (λ ys. now ++ flat_map f ys) (λ ys. next ++ flat_map f ys) xs i x _ lt at
      (λ ys. sym (append_assoc now (f x) (flat_map f ys)) ∙ ap (λ zs. zs ++ flat_map f ys) (sym is)) so_far.left;
}

pub pieces_all : {X Y : Type 0} (f : X → List Y) (xs : List X) (i : ℕ) (now first : List Y)
    → length xs ≤ i → Pieces f xs i now first → now ≡ first ++ flat_map f xs
pieces_all f xs i now first le so_far = sym (append-nil now) ∙ left_all (λ ys. now ++ flat_map f ys) xs i _ le so_far.left

-- the bytes of names, each behind a hyphen
pub record Hyphened (xs : List Name) (i : ℕ) (now first : List ℕ) : Type 0 where
  pub left : Left (λ ys. now ++ hyphened ys) xs i (first ++ hyphened xs)

pub hyphened_first : (xs : List Name) (first : List ℕ) → Hyphened xs 0 first first
hyphened_first xs first = record { left = left_first (λ ys. first ++ hyphened ys) xs }

pub hyphened_more : (xs : List Name) (i : ℕ) (x : Name) (now marked next first : List ℕ)
    → i < length xs → x ≡ get_or xs i x → marked ≡ now ++ 45 ∷ [] → next ≡ marked ++ x.word.bytes → Hyphened xs i now first → Hyphened xs (i + 1) next first
hyphened_more xs i x now marked next first lt at mark is so_far = record {
  left = left_more (λ ys. now ++ hyphened ys) (λ ys. next ++ hyphened ys) xs i x _ lt at (λ ys. step ys) so_far.left;
}
  where
    step : (ys : List Name) → now ++ 45 ∷ (x.word.bytes ++ hyphened ys) ≡ next ++ hyphened ys
    step ys =
        sym (append_assoc now (45 ∷ []) (x.word.bytes ++ hyphened ys))
        ∙ ap (λ zs. zs ++ (x.word.bytes ++ hyphened ys)) (sym mark)
        ∙ sym (append_assoc marked x.word.bytes (hyphened ys))
        ∙ ap (λ zs. zs ++ hyphened ys) (sym is)

pub hyphened_all : (xs : List Name) (i : ℕ) (now first : List ℕ) → length xs ≤ i → Hyphened xs i now first → now ≡ first ++ hyphened xs
hyphened_all xs i now first le so_far = sym (append-nil now) ∙ left_all (λ ys. now ++ hyphened ys) xs i _ le so_far.left

pub ruleset pieces = (pieces_first, pieces_more, pieces_all, hyphened_first, hyphened_more, hyphened_all)
