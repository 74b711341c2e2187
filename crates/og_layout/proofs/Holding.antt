-- What slots hold that stand for a process.
use Rattle.std.proofs.Common.{ℕ, zero, suc, pos, Bool, if◌then◌else◌, List, [], ◌∷◌, ◌++◌, slice_get, Some, ◌≡◌, subst}
use Rattle.std.proofs.lemmas.Option.{none-some}
use Rattle.og_types.specs.declared.Sort.{Sort}
use Rattle.og_types.specs.declared.Value.{Value}
use Rattle.og_model.specs.declared.Model.{Model}
use Rattle.og_model.specs.declared.Variable.{Variable}
use Rattle.og_model.specs.Units.{State}
use Rattle.og_ir.specs.Cells.{Cells}
use Rattle.og_layout.specs.Layout.{Layout, A_value, A_number, Anything, Expected, HoldsAt, AllHold, Mark, Number, held_number, variables_in, timers_in, regions_in, anything_in, besides, region_numbers, StandsFor}
use Rattle.og_names.proofs.Truths.{same_value as some_is}

pub first_hold : (sorts : List Sort) (slots : List Cells) (xs ys : List Expected) → AllHold sorts slots (xs ++ ys) → AllHold sorts slots xs
first_hold sorts slots [] ys all = tt
first_hold sorts slots (x ∷ xs) ys all = (all.0, first_hold sorts slots xs ys all.1)

pub others_hold : (sorts : List Sort) (slots : List Cells) (xs ys : List Expected) → AllHold sorts slots (xs ++ ys) → AllHold sorts slots ys
others_hold sorts slots [] ys all = all
others_hold sorts slots (x ∷ xs) ys all = others_hold sorts slots xs ys all.1

-- ---- one of each kind

in_variables : (sorts : List Sort) (slots : List Cells) (ks : List ℕ) (xs : List Variable) (vs : List Value) → AllHold sorts slots (variables_in ks xs vs) → (i k : ℕ) (x : Variable) (v : Value) → slice_get ks i ≡ Some k → slice_get xs i ≡ Some x → slice_get vs i ≡ Some v
    → HoldsAt sorts slots (record { slot = k; held = A_value x.sort v })
in_variables sorts slots [] xs vs all i k x v at x_at v_at = absurd (none-some k at)
in_variables sorts slots (j ∷ ks) [] vs all i k x v at x_at v_at = absurd (none-some x x_at)
in_variables sorts slots (j ∷ ks) (y ∷ xs) [] all i k x v at x_at v_at = absurd (none-some v v_at)
in_variables sorts slots (j ∷ ks) (y ∷ xs) (w ∷ vs) all zero k x v at x_at v_at =
    subst (λ a. HoldsAt sorts slots (record { slot = a; held = A_value x.sort v })) (some_is j k at)
    (subst (λ (z : Variable). HoldsAt sorts slots (record { slot = j; held = A_value z.sort v })) (some_is y x x_at)
    (subst (λ u. HoldsAt sorts slots (record { slot = j; held = A_value y.sort u })) (some_is w v v_at) all.0))
in_variables sorts slots (j ∷ ks) (y ∷ xs) (w ∷ vs) all (suc i) k x v at x_at v_at = in_variables sorts slots ks xs vs all.1 i k x v at x_at v_at

in_timers : (sorts : List Sort) (slots : List Cells) (ks : List ℕ) (bs : List Bool) → AllHold sorts slots (timers_in ks bs) → (i k : ℕ) (b : Bool) → slice_get ks i ≡ Some k → slice_get bs i ≡ Some b
    → HoldsAt sorts slots (record { slot = k; held = A_number (pos (if b then 1 else 0)) })
in_timers sorts slots [] bs all i k b at b_at = absurd (none-some k at)
in_timers sorts slots (j ∷ ks) [] all i k b at b_at = absurd (none-some b b_at)
in_timers sorts slots (j ∷ ks) (c ∷ bs) all zero k b at b_at =
    subst (λ a. HoldsAt sorts slots (record { slot = a; held = A_number (pos (if b then 1 else 0)) })) (some_is j k at)
    (subst (λ d. HoldsAt sorts slots (record { slot = j; held = A_number (pos (if d then 1 else 0)) })) (some_is c b b_at) all.0)
in_timers sorts slots (j ∷ ks) (c ∷ bs) all (suc i) k b at b_at = in_timers sorts slots ks bs all.1 i k b at b_at

in_regions : (sorts : List Sort) (slots : List Cells) (ks : List ℕ) (ns : List Number) → AllHold sorts slots (regions_in ks ns) → (i k : ℕ) (n : Number) → slice_get ks i ≡ Some k → slice_get ns i ≡ Some n
    → HoldsAt sorts slots (record { slot = k; held = held_number n })
in_regions sorts slots [] ns all i k n at n_at = absurd (none-some k at)
in_regions sorts slots (j ∷ ks) [] all i k n at n_at = absurd (none-some n n_at)
in_regions sorts slots (j ∷ ks) (m ∷ ns) all zero k n at n_at =
    subst (λ a. HoldsAt sorts slots (record { slot = a; held = held_number n })) (some_is j k at)
    (subst (λ o. HoldsAt sorts slots (record { slot = j; held = held_number o })) (some_is m n n_at) all.0)
in_regions sorts slots (j ∷ ks) (m ∷ ns) all (suc i) k n at n_at = in_regions sorts slots ks ns all.1 i k n at n_at

in_others : (sorts : List Sort) (slots : List Cells) (ks : List ℕ) → AllHold sorts slots (anything_in ks) → (i k : ℕ) → slice_get ks i ≡ Some k → HoldsAt sorts slots (record { slot = k; held = Anything })
in_others sorts slots [] all i k at = absurd (none-some k at)
in_others sorts slots (j ∷ ks) all zero k at = subst (λ a. HoldsAt sorts slots (record { slot = a; held = Anything })) (some_is j k at) all.0
in_others sorts slots (j ∷ ks) all (suc i) k at = in_others sorts slots ks all.1 i k at

-- ---- the whole

module _ (M : Model) (layout : Layout) (mark : Mark) (s : State) (slots : List Cells) (stands : StandsFor M layout mark s slots) where
  abbrev vs : List Expected
  vs = variables_in layout.variables M.variables s.store.variables

  abbrev ts : List Expected
  ts = timers_in layout.timers s.timers

  abbrev rs : List Expected
  rs = regions_in layout.regions (region_numbers M mark)

  behind_variables : AllHold M.types slots (ts ++ (rs ++ besides layout))
  behind_variables = others_hold M.types slots vs (ts ++ (rs ++ besides layout)) stands

  behind_timers : AllHold M.types slots (rs ++ besides layout)
  behind_timers = others_hold M.types slots ts (rs ++ besides layout) behind_variables

  behind_regions : AllHold M.types slots (besides layout)
  behind_regions = others_hold M.types slots rs (besides layout) behind_timers

  pub variable_held : (i k : ℕ) (x : Variable) (v : Value) → slice_get layout.variables i ≡ Some k → slice_get M.variables i ≡ Some x → slice_get s.store.variables i ≡ Some v
      → HoldsAt M.types slots (record { slot = k; held = A_value x.sort v })
  variable_held = in_variables M.types slots layout.variables M.variables s.store.variables (first_hold M.types slots vs (ts ++ (rs ++ besides layout)) stands)

  pub timer_held : (i k : ℕ) (b : Bool) → slice_get layout.timers i ≡ Some k → slice_get s.timers i ≡ Some b
      → HoldsAt M.types slots (record { slot = k; held = A_number (pos (if b then 1 else 0)) })
  timer_held = in_timers M.types slots layout.timers s.timers (first_hold M.types slots ts (rs ++ besides layout) behind_variables)

  pub region_held : (i k : ℕ) (n : Number) → slice_get layout.regions i ≡ Some k → slice_get (region_numbers M mark) i ≡ Some n
      → HoldsAt M.types slots (record { slot = k; held = held_number n })
  region_held = in_regions M.types slots layout.regions (region_numbers M mark) (first_hold M.types slots rs (besides layout) behind_timers)

  pub stopped_held : HoldsAt M.types slots (record { slot = layout.stopped; held = A_number (pos 0) })
  stopped_held = behind_regions.0

  pub fault_held : HoldsAt M.types slots (record { slot = layout.fault; held = A_number (pos 0) })
  fault_held = behind_regions.1.0

  pub others_held : (i k : ℕ) → slice_get (layout.locals ++ (layout.durations ++ layout.parameters)) i ≡ Some k → HoldsAt M.types slots (record { slot = k; held = Anything })
  others_held = in_others M.types slots (layout.locals ++ (layout.durations ++ layout.parameters)) behind_regions.1.1
