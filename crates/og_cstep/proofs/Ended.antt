-- What globals say by their numbers is what they say by their names.
use Rattle.std.proofs.Common.{◌≡◌, ◌≢◌, ℕ, zero, suc, ◌+◌, ◌<◌, ◌≤◌, ℤ, pos, negsuc, List, [], ◌∷◌, ◌++◌, length, map, Bool, true, false, not, ◌&&◌, nat_lt, nat_le, is_some, inl, inr, codes, unwrap_or, Option, Some, None, slice_get, refl, sym, ap, ◌∙◌, arith}
use Rattle.std.specs.List.{list_all, range_with_len}
use Rattle.std.specs.Option.{option_map}
use Rattle.std.proofs.lemmas.Option.{slice_get-map, slice_get_cases}
use Rattle.std.proofs.lemmas.Bool.Decides.{nat_tests}
use Rattle.og_base.specs.declared.Place.{Place}
use Rattle.og_types.specs.declared.Value.TheVariants.{Int}
use Rattle.og_types.specs.declared.Value.{Value}
use Rattle.og_names.specs.declared.NameId.{NameId}
use Rattle.og_model.specs.declared.Model.{Model}
use Rattle.og_model.specs.declared.Region.{Region}
use Rattle.og_model.specs.declared.EventId.{EventId}
use Rattle.og_model.specs.declared.EventId.TheVariants as event
use Rattle.og_model.specs.declared.FaultKind.{FaultKind}
use Rattle.og_model.specs.declared.StuckRule.TheVariants as stuck
use Rattle.og_model.specs.Regions.{regions}
use Rattle.og_model.specs.Shown as shown
use Rattle.og_ir.specs.Cells.{◌>>=◌, Cells, number_in}
use Rattle.og_ir.specs.Reading.{truth_in}
use Rattle.og_csubset.specs.Loading.{passes}
use Rattle.og_csubset.specs.Interface as interface
use Rattle.og_csubset.specs.Interface.{Field, numbers_below}
use Rattle.og_csubset.specs.Reads.{Globals, cells_named, number_named, value_of_shape, value_of_field, all_of, values_of, variables_in, timers_in, active_path, path_of, paths_in, kind_numbered, place_of_fault, fault_end, stopped_end, rest_end, end_without_fault, end_by_kind, end_of, event_shown}
use Rattle.og_cstep.specs.declared.Advance.{Advance}
use Rattle.og_cstep.specs.declared.Advance.TheVariants as advance
use Rattle.og_cstep.specs.declared.interface.Interface.{Interface}
use Rattle.og_cstep.specs.Answered.{answer_at_end}
use Rattle.og_cstep.specs.Interfaces.{slot_named, slots_named, region_slot, signal_slots, duration_place, no_duration_name, interface_among, kept_shape}
use Rattle.og_csubset.specs.Kinds.{place_in}
use Rattle.og_cstep.proofs.Fitted.{range_get}
use Rattle.og_cstep.specs.Machines.{is_not_zero, leaf_of}
use Rattle.og_cstep.specs.Slots.{Sight, in_trees, shape_value, cells_at, are_held, holds_truth, is_leaf, rests_in, answer_if, fault_of, fault_answer, rest_answer, stopped_answer, by_stopped, by_kind, end_answer, outputs_at, inputs_at, duration_slot, duration_at, shows, timer_number, leaf_in, leaf_at, variables_held, timers_held, regions_held}

-- ---- options

there : {A B C : Type 0} (f : A → B → C) (a : Option A) (b : Option B) → is_some (a >>= λ x. b >>= λ y. Some (f x y)) ≡ (is_some a && is_some b)
there f None b = refl
there f (Some x) None = refl
there f (Some x) (Some y) = refl

passed : {A B : Type 0} (a : Option A) (f : A → Option B) → is_some (a >>= f) ≡ passes (λ x. is_some (f x)) a
passed None f = refl
passed (Some x) f = refl

all_is : {A B S : Type 0} (f : A → Option B) (p : S → Bool) (g : A → S) → ((x : A) → is_some (f x) ≡ p (g x)) → (xs : List A) → is_some (all_of f xs) ≡ list_all p (map g xs)
all_is f p g one [] = refl
all_is f p g one (x ∷ xs) = there (λ y ys. y ∷ ys) (f x) (all_of f xs) ∙ ap (λ b. b && is_some (all_of f xs)) (one x) ∙ ap (λ b. p (g x) && b) (all_is f p g one xs)

-- ---- values

shape_same : (model : Model) (s : interface.Shape) (c : Cells) → value_of_shape model s c ≡ shape_value model.types (kept_shape s) c
shape_same model interface.Number c = refl
shape_same model (interface.Typed t) c = refl

cells_same : (model : Model) (s : interface.Shape) (a : Option Cells) → (a >>= value_of_shape model s) ≡ (a >>= shape_value model.types (kept_shape s))
cells_same model s None = refl
cells_same model s (Some c) = shape_same model s c

-- the value of a field, by its name and by its slot
pub field_same : (model : Model) (globals : Globals) (field : Field) → value_of_field model globals field ≡ (in_trees model.types globals.cells).value (slot_named globals.names field)
field_same model globals field = cells_same model field.shape (cells_named globals field.name)

abbrev seen : Model → Globals → Sight
seen model globals = in_trees model.types globals.cells

pub values_there : (model : Model) (globals : Globals) (fields : List Field) → is_some (values_of model globals fields) ≡ are_held (seen model globals) (slots_named globals.names fields)
values_there model globals fields =
    all_is (value_of_field model globals) (λ slot. is_some ((seen model globals).value slot)) (slot_named globals.names) (λ field. ap is_some (field_same model globals field)) fields

pub timers_there : (model : Model) (globals : Globals) → is_some (timers_in model globals) ≡ list_all (holds_truth (seen model globals).number) (slots_named globals.names (interface.timer_fields model))
timers_there model globals =
    all_is (λ field. number_named globals field.name >>= truth_in) (holds_truth (seen model globals).number) (slot_named globals.names) (λ field. passed (number_named globals field.name) truth_in) (interface.timer_fields model)

-- ---- regions

lt_none : (n : ℕ) → false ≡ nat_lt n 0
lt_none n = grind (arith, nat_tests)

lt_first : (n : ℕ) → true ≡ nat_lt 0 (suc n)
lt_first n = grind (arith, nat_tests)

lt_more : (n m : ℕ) → nat_lt n m ≡ nat_lt (suc n) (suc m)
lt_more n m = grind (arith, nat_tests)

get_there : {A : Type 0} (xs : List A) (n : ℕ) → is_some (slice_get xs n) ≡ nat_lt n (length xs)
get_there [] zero = lt_none 0
get_there [] (suc n) = lt_none (suc n)
get_there (x ∷ xs) zero = lt_first (length xs)
get_there (x ∷ xs) (suc n) = get_there xs n ∙ lt_more n (length xs)

leaf_there : {A B : Type 0} (o : Option A) (f : A → B) → is_some (o >>= λ x. Some (f x)) ≡ is_some o
leaf_there None f = refl
leaf_there (Some x) f = refl

path_there : (region : Region) (z : ℤ) → is_some (active_path region z) ≡ is_leaf (length region.leaves) z
path_there region (pos n) = leaf_there (slice_get region.leaves n) (path_of region) ∙ get_there region.leaves n
path_there region (negsuc n) = refl

region_there : (region : Region) (a : Option ℤ) (more : Option (List (List NameId)))
    → is_some (a >>= λ z. active_path region z >>= λ here. more >>= λ others. Some (here ++ others)) ≡ (passes (is_leaf (length region.leaves)) a && is_some more)
region_there region None more = refl
region_there region (Some z) more = there (λ here others. here ++ others) (active_path region z) more ∙ ap (λ b. b && is_some more) (path_there region z)

pub paths_there : (model : Model) (globals : Globals) (rs : List Region) → is_some (paths_in model globals rs) ≡ list_all (rests_in (seen model globals).number) (map (region_slot globals.names model) rs)
paths_there model globals [] = refl
paths_there model globals (r ∷ rs) =
    region_there r (number_named globals (interface.region_field model r).name) (paths_in model globals rs)
    ∙ ap (λ b. rests_in (seen model globals).number (region_slot globals.names model r) && b) (paths_there model globals rs)

-- ---- ends

abbrev told : Option shown.End → Advance
told o = answer_at_end (unwrap_or o (shown.Stuck stuck.Value))

told_rest : (a : Option (List (List NameId))) (b : Option (List Value)) (c : Option (List Bool))
    → answer_if (is_some a && (is_some b && is_some c)) advance.Rest ≡ told (a >>= λ paths. b >>= λ variables. c >>= λ timers. Some (shown.Rest paths variables timers))
told_rest None b c = refl
told_rest (Some p) None c = refl
told_rest (Some p) (Some v) None = refl
told_rest (Some p) (Some v) (Some t) = refl

told_stopped : (b : Option (List Value)) → answer_if (is_some b) advance.Stopped ≡ told (b >>= λ variables. Some (shown.Stopped variables))
told_stopped None = refl
told_stopped (Some v) = refl

told_fault : (k : Option FaultKind) (p : Option Place) (b : Option (List Value)) (c : Option (List Bool))
    → fault_of (is_some b && is_some c) k p ≡ told (k >>= λ kind. p >>= λ place. b >>= λ variables. c >>= λ timers. Some (shown.Fault kind place variables timers))
told_fault None p b c = refl
told_fault (Some k) None b c = refl
told_fault (Some k) (Some p) None c = refl
told_fault (Some k) (Some p) (Some v) None = refl
told_fault (Some k) (Some p) (Some v) (Some t) = refl

abbrev among : Globals → Model → Interface
among globals model = interface_among globals.names model

variables_same : (model : Model) (globals : Globals) → variables_held (seen model globals) (among globals model) ≡ is_some (variables_in model globals)
variables_same model globals = sym (values_there model globals (interface.variable_fields model))

timers_same : (model : Model) (globals : Globals) → timers_held (seen model globals).number (among globals model) ≡ is_some (timers_in model globals)
timers_same model globals = sym (timers_there model globals)

regions_same : (model : Model) (globals : Globals) → regions_held (seen model globals).number (among globals model) ≡ is_some (paths_in model globals (regions model))
regions_same model globals = sym (paths_there model globals (regions model))

rest_same : (model : Model) (globals : Globals) → rest_answer (seen model globals) (among globals model) ≡ told (rest_end model globals)
rest_same model globals =
    ap (λ b. answer_if (b && (variables_held (seen model globals) (among globals model) && timers_held (seen model globals).number (among globals model))) advance.Rest) (regions_same model globals)
    ∙ ap (λ b. answer_if (is_some (paths_in model globals (regions model)) && (b && timers_held (seen model globals).number (among globals model))) advance.Rest) (variables_same model globals)
    ∙ ap (λ b. answer_if (is_some (paths_in model globals (regions model)) && (is_some (variables_in model globals) && b)) advance.Rest) (timers_same model globals)
    ∙ told_rest (paths_in model globals (regions model)) (variables_in model globals) (timers_in model globals)

stopped_same : (model : Model) (globals : Globals) → stopped_answer (seen model globals) (among globals model) ≡ told (stopped_end model globals)
stopped_same model globals =
    ap (λ b. answer_if b advance.Stopped) (variables_same model globals) ∙ told_stopped (variables_in model globals)

fault_same : (model : Model) (globals : Globals) (z : ℤ) → fault_answer (seen model globals) (among globals model) z ≡ told (fault_end model globals z)
fault_same model globals z =
    ap (λ b. fault_of (b && timers_held (seen model globals).number (among globals model)) (kind_numbered z) (place_of_fault globals)) (variables_same model globals)
    ∙ ap (λ b. fault_of (is_some (variables_in model globals) && b) (kind_numbered z) (place_of_fault globals)) (timers_same model globals)
    ∙ told_fault (kind_numbered z) (place_of_fault globals) (variables_in model globals) (timers_in model globals)

by_stopped_same : (model : Model) (globals : Globals) (a : Option ℤ) → by_stopped (seen model globals) (among globals model) a ≡ told (a >>= end_without_fault model globals)
by_stopped_same model globals None = refl
by_stopped_same model globals (Some (pos zero)) = rest_same model globals
by_stopped_same model globals (Some (pos (suc n))) = stopped_same model globals
by_stopped_same model globals (Some (negsuc n)) = stopped_same model globals

by_kind_same : (model : Model) (globals : Globals) (a : Option ℤ) → by_kind (seen model globals) (among globals model) a ≡ told (a >>= end_by_kind model globals)
by_kind_same model globals None = refl
by_kind_same model globals (Some (pos zero)) = by_stopped_same model globals (number_named globals interface.stopped_name)
by_kind_same model globals (Some (pos (suc n))) = fault_same model globals (pos (suc n))
by_kind_same model globals (Some (negsuc n)) = fault_same model globals (negsuc n)

pub end_same : (model : Model) (names : List (List ℕ)) (cells : List Cells) → end_answer (in_trees model.types cells) (interface_among names model) ≡ answer_at_end (end_of model names cells)
unfolding end_of
end_same model names cells =
    let globals : Globals = record { names = names; cells = cells } in by_kind_same model globals (number_named globals interface.kind_name)

-- ---- numbers below a bound

range_past : {B : Type 0} (f : ℕ → B) (a n k : ℕ) → n ≤ k → slice_get (map f (range_with_len a n)) k ≡ None
range_past f a zero zero le = refl
range_past f a zero (suc k) le = refl
range_past f a (suc n) zero le = absurd (omega arith)
range_past f a (suc n) (suc k) le = range_past f (a + 1) n k (omega arith)

-- a function of a place, by the list that has so many places
by_place : {A B C : Type 0} (xs : List A) (f : ℕ → B) (g : Option B → C) (h : ℕ → C) → ((k : ℕ) → g (Some (f k)) ≡ h k) → ((k : ℕ) → slice_get xs k ≡ None → g None ≡ h k)
    → (k : ℕ) → g (slice_get (map f (numbers_below (length xs))) k) ≡ h k
by_place xs f g h within past k =
    elim (slice_get_cases xs k).1 [
      | inl found ↦ ap g (range_get f 0 (length xs) k k found.1 (omega arith)) ∙ within k
      | inr none ↦ ap g (range_past f 0 (length xs) k none.0) ∙ past k none.1
    ]

no_outputs : (model : Model) (names : List (List ℕ)) (k : ℕ) → slice_get model.signals k ≡ None → [] ≡ slots_named names (interface.outputs_of model k)
no_outputs model names k e =
    ap (λ o. slots_named names (interface.parameters_from 1 (codes "o_" ++ interface.signal_name model k) (interface.sorts_of o))) (sym e)

no_inputs : (model : Model) (names : List (List ℕ)) (k : ℕ) → slice_get model.signals k ≡ None → [] ≡ slots_named names (interface.inputs_of model k)
no_inputs model names k e =
    ap (λ o. slots_named names (interface.parameters_from 1 (codes "i_" ++ interface.signal_name model k) (interface.sorts_of o))) (sym e)

pub outputs_same : (model : Model) (names : List (List ℕ)) (k : ℕ) → outputs_at (slice_get (interface_among names model).signals k) ≡ slots_named names (interface.outputs_of model k)
outputs_same model names k =
    by_place model.signals (signal_slots names model) outputs_at (λ i. slots_named names (interface.outputs_of model i)) (λ i. refl) (no_outputs model names) k

pub inputs_same : (model : Model) (names : List (List ℕ)) (k : ℕ) → inputs_at (slice_get (interface_among names model).signals k) ≡ slots_named names (interface.inputs_of model k)
inputs_same model names k =
    by_place model.signals (signal_slots names model) inputs_at (λ i. slots_named names (interface.inputs_of model i)) (λ i. refl) (no_inputs model names) k

no_duration_at : (model : Model) (names : List (List ℕ)) (k : ℕ) → slice_get model.timers k ≡ None → place_in no_duration_name names ≡ duration_place names model k
no_duration_at model names k e = ap (λ o. place_in (codes "d_" ++ interface.name_if model o) names) (sym e)

pub duration_same : (model : Model) (names : List (List ℕ)) (k : ℕ) → duration_slot (interface_among names model) k ≡ duration_place names model k
duration_same model names k =
    by_place model.timers (duration_place names model) (λ o. unwrap_or o (place_in no_duration_name names)) (duration_place names model) (λ i. refl) (no_duration_at model names) k

-- ---- events

shown_there : {A B : Type 0} (o : Option A) (f : A → B) → is_some o ≡ is_some (o >>= λ x. Some (f x))
shown_there o f = sym (leaf_there o f)

pub shows_same : (model : Model) (names : List (List ℕ)) (cells : List Cells) (e : EventId)
    → shows (in_trees model.types cells) (interface_among names model) e ≡ is_some (event_shown model (record { names = names; cells = cells }) e)
shows_same model names cells (event.Output k) =
    let globals : Globals = record { names = names; cells = cells } in
    ap (λ slots. are_held (in_trees model.types cells) slots) (outputs_same model names k)
    ∙ sym (values_there model globals (interface.outputs_of model k))
    ∙ shown_there (values_of model globals (interface.outputs_of model k)) (λ vs. shown.Output k vs)
shows_same model names cells (event.Set k) =
    let globals : Globals = record { names = names; cells = cells } in
    ap (λ place. is_some (duration_at (in_trees model.types cells).number place)) (duration_same model names k)
    ∙ shown_there (duration_at (in_trees model.types cells).number (duration_place names model k)) (λ d. shown.Set k d)
shows_same model names cells (event.Reset k) = refl

-- ---- timers

timer_by : (model : Model) (names : List (List ℕ)) (cells : List Cells) (o : Option NameId)
    → (option_map (λ id. slot_named names (interface.timer_field model id)) o >>= λ slot. (in_trees model.types cells).number slot.place)
    ≡ (o >>= λ timer. number_named (record { names = names; cells = cells }) (interface.timer_field model timer).name)
timer_by model names cells None = refl
timer_by model names cells (Some id) = refl

map_twice : {A B C : Type 0} (f : A → B) (g : B → C) (xs : List A) → map g (map f xs) ≡ map (λ x. g (f x)) xs
map_twice f g [] = refl
map_twice f g (x ∷ xs) = ap (λ ys. g (f x) ∷ ys) (map_twice f g xs)

pub timer_same : (model : Model) (names : List (List ℕ)) (cells : List Cells) (k : ℕ)
    → timer_number (in_trees model.types cells).number (interface_among names model) k
    ≡ (slice_get model.timers k >>= λ timer. number_named (record { names = names; cells = cells }) (interface.timer_field model timer).name)
timer_same model names cells k =
    ap (λ slots. slice_get slots k >>= λ slot. (in_trees model.types cells).number slot.place) (map_twice (interface.timer_field model) (slot_named names) model.timers)
    ∙ ap (λ o. o >>= λ slot. (in_trees model.types cells).number slot.place) (slice_get-map (λ id. slot_named names (interface.timer_field model id)) model.timers k)
    ∙ timer_by model names cells (slice_get model.timers k)

-- ---- regions by their numbers

leaf_is : (region : Region) (a : Option ℤ) → (a >>= leaf_in (length region.leaves)) ≡ (a >>= leaf_of region)
leaf_is region None = refl
leaf_is region (Some (pos n)) = refl
leaf_is region (Some (negsuc n)) = refl

leaf_by : (model : Model) (names : List (List ℕ)) (cells : List Cells) (o : Option Region)
    → (option_map (region_slot names model) o >>= λ slot. (in_trees model.types cells).number slot.place >>= leaf_in slot.leaves)
    ≡ (o >>= λ region. number_named (record { names = names; cells = cells }) (interface.region_field model region).name >>= leaf_of region)
leaf_by model names cells None = refl
leaf_by model names cells (Some region) = leaf_is region (number_named (record { names = names; cells = cells }) (interface.region_field model region).name)

pub leaf_same : (model : Model) (names : List (List ℕ)) (cells : List Cells) (k : ℕ)
    → leaf_at (in_trees model.types cells).number (interface_among names model) k
    ≡ (slice_get (regions model) k >>= λ region. number_named (record { names = names; cells = cells }) (interface.region_field model region).name >>= leaf_of region)
leaf_same model names cells k =
    ap (λ o. o >>= λ slot. (in_trees model.types cells).number slot.place >>= leaf_in slot.leaves) (slice_get-map (region_slot names model) (regions model) k)
    ∙ leaf_by model names cells (slice_get (regions model) k)

le_none : (n : ℕ) → false ≡ nat_le (suc n) 0
le_none n = grind (arith, nat_tests)

pub is_zero : (z : ℤ) → z ≡ pos 0 → false ≡ is_not_zero (Some z)
is_zero z e = ap (λ x. is_not_zero (Some x)) (sym e)

pub not_zero : (z : ℤ) → z ≢ pos 0 → true ≡ is_not_zero (Some z)
not_zero (pos zero) ne = absurd (ne refl)
not_zero (pos (suc n)) ne = ap (λ b. not (b && nat_le 0 (suc n))) (le_none n)
not_zero (negsuc n) ne = refl
