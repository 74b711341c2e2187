-- Slots that stand for a process at rest, with the names of the interface, are read as its end.
use Rattle.std.proofs.Common.{◌≡◌, ℕ, ◌+◌, ℤ, pos, Bool, true, false, if◌then◌else◌, List, [], ◌∷◌, ◌++◌, map, length, unwrap_or, Option, Some, None, refl, sym, ap, ◌∙◌, arith}
use Rattle.std.proofs.lemmas.Option.{none-some}
use Rattle.og_names.specs.declared.NameId.{NameId}
use Rattle.og_types.specs.declared.Sort.{Sort}
use Rattle.og_types.specs.declared.Value.{Value}
use Rattle.og_model.specs.declared.Model.{Model}
use Rattle.og_model.specs.declared.StuckRule.TheVariants as stuck
use Rattle.og_model.specs.declared.Variable.{Variable}
use Rattle.og_model.specs.Configuration as Tree
use Rattle.og_model.specs.Configuration.{paths_of}
use Rattle.og_model.specs.RegionTypes.{Region}
use Rattle.og_model.specs.Regions.{regions}
use Rattle.og_model.specs.Shown as Shows
use Rattle.og_model.specs.Units.{State}
use Rattle.og_ir.specs.Cells.{◌>>=◌, Cells, number_in, global}
use Rattle.og_ir.specs.Reading.{truth_in}
use Rattle.og_csubset.specs.Interface as interface
use Rattle.og_csubset.specs.Interface.{Field, variable_field, timer_field, region_field, stopped_name, kind_name}
use Rattle.og_csubset.specs.Kinds.{place_in}
use Rattle.og_csubset.specs.Reads.{Globals, cells_named, number_named, value_of_field, value_of_shape, all_of, path_of, active_path, paths_in, end_without_fault, end_by_kind, end_of}
use Rattle.og_layout.specs.Layout.{Layout, Held, A_value, A_number, Negative, Expected, HoldsAt, AllHold, Number, Leaf, NoLeaf, AnyLeaf, held_number, variables_in, timers_in, regions_in, besides, region_numbers, marked, told_path, told_by, told_paths, IsActive, StandsFor}
use Rattle.og_layout.specs.Named.{AllNamed, IsNamed, HasAll, IsNumberOf, AreNumbersOf}
use Rattle.og_layout.proofs.Holding.{first_hold, others_hold}
use Rattle.og_layout.proofs.Telling.{numbers_tell, numbers_known}

module _ (M : Model) (names : List (List ℕ)) (slots : List Cells) where
  abbrev globals : Globals
  globals = record { names = names; cells = slots }

  cells_are : (name : List ℕ) (k : ℕ) (held : Held) → place_in name names ≡ Some k → (x : HoldsAt M.types slots (record { slot = k; held = held })) → cells_named globals name ≡ Some x.cells
  cells_are name k held at x = ap (λ o. o >>= λ j. global j slots) at ∙ x.there

  number_is : (name : List ℕ) (k : ℕ) (n : ℤ) → place_in name names ≡ Some k → HoldsAt M.types slots (record { slot = k; held = A_number n }) → number_named globals name ≡ Some n
  number_is name k n at x = ap (λ o. o >>= number_in) (cells_are name k (A_number n) at x) ∙ ap number_in x.holds

  -- ---- variables and timers

  variables_are : (xs : List Variable) (ks : List ℕ) (vs : List Value) → AllNamed names (map (variable_field M) xs) ks → length vs ≡ length xs → AllHold M.types slots (variables_in ks xs vs)
      → all_of (value_of_field M globals) (map (variable_field M) xs) ≡ Some vs
  variables_are [] ks [] named e all = refl
  variables_are [] ks (v ∷ vs) named e all = absurd (omega (arith, e))
  variables_are (x ∷ xs) [] vs named e all = absurd named
  variables_are (x ∷ xs) (k ∷ ks) [] named e all = absurd (omega (arith, e))
  variables_are (x ∷ xs) (k ∷ ks) (v ∷ vs) named e all =
      let here : value_of_field M globals (variable_field M x) ≡ Some v =
      ap (λ o. o >>= value_of_shape M (interface.Typed x.sort)) (cells_are (variable_field M x).name k (A_value x.sort v) named.0 all.0) ∙ all.0.holds in
      ap (λ o. o >>= λ y. all_of (value_of_field M globals) (map (variable_field M) xs) >>= λ ys. Some (y ∷ ys)) here
      ∙ ap (λ o. o >>= λ ys. Some (v ∷ ys)) (variables_are xs ks vs named.1 (omega (arith, e)) all.1)

  truth_is : (b : Bool) → truth_in (pos (if b then 1 else 0)) ≡ Some b
  truth_is true = refl
  truth_is false = refl

  timers_are : (ts : List NameId) (ks : List ℕ) (bs : List Bool) → AllNamed names (map (timer_field M) ts) ks → length bs ≡ length ts → AllHold M.types slots (timers_in ks bs)
      → all_of (λ (field : Field). number_named globals field.name >>= truth_in) (map (timer_field M) ts) ≡ Some bs
  timers_are [] ks [] named e all = refl
  timers_are [] ks (b ∷ bs) named e all = absurd (omega (arith, e))
  timers_are (t ∷ ts) [] bs named e all = absurd named
  timers_are (t ∷ ts) (k ∷ ks) [] named e all = absurd (omega (arith, e))
  timers_are (t ∷ ts) (k ∷ ks) (b ∷ bs) named e all =
      let here : (number_named globals (timer_field M t).name >>= truth_in) ≡ Some b =
      ap (λ o. o >>= truth_in) (number_is (timer_field M t).name k (pos (if b then 1 else 0)) named.0 all.0) ∙ truth_is b in
      ap (λ o. o >>= λ y. all_of (λ (field : Field). number_named globals field.name >>= truth_in) (map (timer_field M) ts) >>= λ ys. Some (y ∷ ys)) here
      ∙ ap (λ o. o >>= λ ys. Some (b ∷ ys)) (timers_are ts ks bs named.1 (omega (arith, e)) all.1)

  -- ---- regions

  one_path : (r : Region) (k : ℕ) (n : Number) → place_in (region_field M r).name names ≡ Some k → IsNumberOf r n → HoldsAt M.types slots (record { slot = k; held = held_number n })
      → (number_named globals (region_field M r).name >>= active_path r) ≡ Some (told_by r n)
  one_path r k (Leaf n) at known x =
      ap (λ o. o >>= active_path r) (number_is (region_field M r).name k (pos n) at x)
      ∙ ap (λ o. o >>= λ leaf. Some (path_of r leaf)) known.1
      ∙ ap (λ o. Some (told_path r o)) (sym known.1)
  one_path r k NoLeaf at known x =
      ap (λ o. (o >>= number_in) >>= active_path r) (cells_are (region_field M r).name k Negative at x)
      ∙ ap (λ cells. number_in cells >>= active_path r) x.holds.1
  one_path r k AnyLeaf at known x = absurd known

  next_path : (r : Region) (z : Option ℤ) (here : List (List NameId)) (others : Option (List (List NameId))) (more : List (List NameId)) → (z >>= active_path r) ≡ Some here → others ≡ Some more
      → (z >>= λ n. active_path r n >>= λ first. others >>= λ rest. Some (first ++ rest)) ≡ Some (here ++ more)
  next_path r None here others more one two = absurd (none-some here one)
  next_path r (Some n) here others more one two =
      ap (λ o. o >>= λ first. others >>= λ rest. Some (first ++ rest)) one ∙ ap (λ o. o >>= λ rest. Some (here ++ rest)) two

  paths_are : (rs : List Region) (ks : List ℕ) (ns : List Number) → AllNamed names (map (region_field M) rs) ks → AreNumbersOf rs ns → AllHold M.types slots (regions_in ks ns) → paths_in M globals rs ≡ Some (told_paths rs ns)
  paths_are [] ks [] named known all = refl
  paths_are [] ks (n ∷ ns) named known all = absurd known
  paths_are (r ∷ rs) ks [] named known all = absurd known
  paths_are (r ∷ rs) [] (n ∷ ns) named known all = absurd named
  paths_are (r ∷ rs) (k ∷ ks) (n ∷ ns) named known all =
      next_path r (number_named globals (region_field M r).name) (told_by r n) (paths_in M globals rs) (told_paths rs ns)
      (one_path r k n named.0 known.0 all.0) (paths_are rs ks ns named.1 known.1 all.1)

  -- ---- the whole

  pub rest_is_read : (layout : Layout) (a : Tree.Active) (s : State) → IsNamed M layout names → IsActive M.root a → HasAll M s → StandsFor M layout (marked a) s slots → end_of M names slots ≡ Shows.Rest (paths_of M.root a) s.store.variables s.timers
  unfolding end_of
  rest_is_read layout a s named active has stands =
      let vs = variables_in layout.variables M.variables s.store.variables in
      let ts = timers_in layout.timers s.timers in
      let rs = regions_in layout.regions (region_numbers M (marked a)) in
      let behind_variables = others_hold M.types slots vs (ts ++ (rs ++ besides layout)) stands in
      let behind_timers = others_hold M.types slots ts (rs ++ besides layout) behind_variables in
      let control = others_hold M.types slots rs (besides layout) behind_timers in
      let variables = variables_are M.variables layout.variables s.store.variables named.variables has.variables (first_hold M.types slots vs (ts ++ (rs ++ besides layout)) stands) in
      let timers = timers_are M.timers layout.timers s.timers named.timers has.timers (first_hold M.types slots ts (rs ++ besides layout) behind_variables) in
      let paths = paths_are (regions M) layout.regions (region_numbers M (marked a)) named.regions (numbers_known M a active) (first_hold M.types slots rs (besides layout) behind_timers) in
      ap (λ o. unwrap_or (o >>= end_by_kind M globals) (Shows.Stuck stuck.Value)) (number_is kind_name layout.fault (pos 0) named.fault control.1.0)
      ∙ ap (λ o. unwrap_or (o >>= end_without_fault M globals) (Shows.Stuck stuck.Value)) (number_is stopped_name layout.stopped (pos 0) named.stopped control.0)
      ∙ ap (λ o. unwrap_or (o >>= λ ps. all_of (value_of_field M globals) (map (variable_field M) M.variables) >>= λ vs. all_of (λ (field : Field). number_named globals field.name >>= truth_in) (map (timer_field M) M.timers) >>= λ ts. Some (Shows.Rest ps vs ts)) (Shows.Stuck stuck.Value)) paths
      ∙ ap (λ o. unwrap_or (o >>= λ vs. all_of (λ (field : Field). number_named globals field.name >>= truth_in) (map (timer_field M) M.timers) >>= λ ts. Some (Shows.Rest (told_paths (regions M) (region_numbers M (marked a))) vs ts)) (Shows.Stuck stuck.Value)) variables
      ∙ ap (λ o. unwrap_or (o >>= λ ts. Some (Shows.Rest (told_paths (regions M) (region_numbers M (marked a))) s.store.variables ts)) (Shows.Stuck stuck.Value)) timers
      ∙ ap (λ ps. Shows.Rest ps s.store.variables s.timers) (numbers_tell M a active)
