-- Loops that count bodies, and the violation of their count.
use Rattle.std.proofs.Common.{◌≡◌, ℕ, ◌+◌, ◌≤◌, ◌<◌, List, [], ◌∷◌, ◌++◌, length, get_or, refl, sym, ap, ◌∙◌}
use Rattle.std.specs.List.{flat_map}
use Rattle.og_base.specs.declared.Place.{Place}
use Rattle.og_names.proofs.Loops.{Left, left_first, left_more, left_all}
use Rattle.og_system.specs.declared.counting.Count.{Count}
use Rattle.og_system.specs.declared.counting.Count.TheVariants as count
use Rattle.og_system.specs.Bodies.{Body, miscounted}
use Rattle.og_system.specs.Counting.{one_more, counted, as_violations}

pub counted_both : (so_far : Count) (xs ys : List Body) → counted so_far (xs ++ ys) ≡ counted (counted so_far xs) ys
counted_both so_far [] ys = refl
counted_both so_far (x ∷ xs) ys = counted_both (one_more so_far x) xs ys

-- after what stands before the i-th
pub record Counting {X : Type 0} (f : X → List Body) (xs : List X) (i : ℕ) (now first : Count) : Type 0 where
  pub left : Left (λ ys. counted now (flat_map f ys)) xs i (counted first (flat_map f xs))

pub counting_first : {X : Type 0} (f : X → List Body) (xs : List X) (first : Count) → Counting f xs 0 first first
counting_first f xs first = record { left = left_first (λ ys. counted first (flat_map f ys)) xs }

pub counting_more : {X : Type 0} (f : X → List Body) (xs : List X) (i : ℕ) (x : X) (now next first : Count)
    → i < length xs → x ≡ get_or xs i x → next ≡ counted now (f x) → Counting f xs i now first → Counting f xs (i + 1) next first
counting_more f xs i x now next first lt at is counting =
    record {
      left = left_more (λ ys. counted now (flat_map f ys)) (λ ys. counted next (flat_map f ys)) xs i x (counted first (flat_map f xs)) lt at
          (λ ys. counted_both now (f x) (flat_map f ys) ∙ ap (λ v. counted v (flat_map f ys)) (sym is)) counting.left;
    }

pub counting_all : {X : Type 0} (f : X → List Body) (xs : List X) (i : ℕ) (now first : Count)
    → length xs ≤ i → Counting f xs i now first → now ≡ counted first (flat_map f xs)
counting_all f xs i now first le counting = left_all (λ ys. counted now (flat_map f ys)) xs i (counted first (flat_map f xs)) le counting.left

stays : (place : Place) (bodies : List Body) → counted (count.More place) bodies ≡ count.More place
stays place [] = refl
stays place (b ∷ bs) = stays place bs

pub miscount : (file : ℕ) (bodies : List Body) → as_violations file (counted count.Nothing bodies) ≡ miscounted file bodies
miscount file [] = refl
miscount file (b ∷ []) = refl
miscount file (b ∷ c ∷ more) = ap (as_violations file) (stays c.process.name.place more)

pub ruleset counts = (counted_both, counting_first, counting_more, counting_all, miscount)
