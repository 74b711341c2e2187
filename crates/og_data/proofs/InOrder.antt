-- Types that are added to a table in the order of their numbers.
use Rattle.std.proofs.Common.{◌≡◌, ℕ, ◌+◌, ◌-◌, ◌^◌, ◌≤◌, ◌<◌, List, [], ◌∷◌, ◌++◌, length, get_or, map, slice_get, Some, sym, ap, ◌∙◌, subst, arith}
use Rattle.std.proofs.lemmas.Option.{slice_get-get_or}
use Rattle.og_types.specs.declared.Sort.{Sort}
use Rattle.og_types.specs.Table.{MayStandBehind}
use Rattle.og_flat.specs.declared.flat.Flat.{Flat}
use Rattle.og_dataview.specs.View.{in_order, sort_of}
use Rattle.og_datatypes.specs.Fitting.{Fits, IsFew}
use Rattle.og_datatypes.proofs.Behind.{Standing, standing_first, may_stand, one_more, few_types, standing_all}

pub none_yet : (flat : Flat) (names : List (List ℕ)) (types : List Sort) → types ≡ [] → Standing flat names 0 types
none_yet flat names types e = subst (Standing flat names 0) (sym e) (standing_first flat names)

-- a slice of the order, of which one type comes next
module _ (flat : Flat) (names : List (List ℕ)) (order slice : List ℕ) (same : slice ≡ order) (whole : order ≡ in_order flat) (i d : ℕ) (lt : i < length slice) where
  within : i < length (in_order flat)
  within = subst (λ (xs : List ℕ). i < length xs) (same ∙ whole) lt

  at : slice_get (in_order flat) i ≡ Some (get_or slice i d)
  at = slice_get-get_or (in_order flat) i d within ∙ ap (λ (xs : List ℕ). Some (get_or xs i d)) (sym (same ∙ whole))

  pub next_may : (types : List Sort) (s : Sort) → Fits names flat → s ≡ sort_of flat names (get_or slice i d) → IsFew s → Standing flat names i types → MayStandBehind types s
  next_may types s fits is few standing = may_stand flat names i (get_or slice i d) types s fits at is few standing

  pub next_added : (types next : List Sort) (s : Sort) → Fits names flat → s ≡ sort_of flat names (get_or slice i d) → IsFew s → next ≡ types ++ s ∷ [] → Standing flat names i types
      → Standing flat names (i + 1) next
  next_added types next s fits is few more standing = one_more flat names i (get_or slice i d) types next s fits at is few more standing

  pub next_fits : (types : List Sort) (count : ℕ) → count ≡ length order → count < 2 ^ 32 → Standing flat names i types → length types < 2 ^ 32 - 1
  next_fits types count many small standing =
      let a : length types ≡ i = few_types flat names i types within standing in
      let b : length slice ≡ length order = ap length same in
      omega (arith, a, b, lt, many, small)

pub all_added : (flat : Flat) (names : List (List ℕ)) (order slice : List ℕ) → slice ≡ order → order ≡ in_order flat → (i : ℕ) (types : List Sort) → length slice ≤ i → Standing flat names i types
    → types ≡ map (sort_of flat names) (in_order flat)
all_added flat names order slice same whole i types le standing =
    let e : length slice ≡ length (in_order flat) = ap length (same ∙ whole) in
    standing_all flat names i types (omega (arith, e, le)) standing

pub ruleset in_turn = (none_yet, next_may, next_added, next_fits, all_added)
