-- What a program of a model that has more variables shows over the model without them.
use Rattle.std.proofs.Common.{◌≡◌, ℕ, zero, suc, ℤ, pos, negsuc, List, [], ◌∷◌, ◌++◌, Bool, true, false, cond, ◌||◌, Option, Some, None, length, take, refl, sym, ap, ◌∙◌}
use Rattle.std.specs.Prelude.{unwrap_or}
use Rattle.std.specs.List.{AllByRecursion}
use Rattle.std.specs.Str.{bytes_eq}
use Rattle.std.proofs.lemmas.Bool.{false≢true}
use Rattle.std.proofs.lemmas.List.{length-map}
use Rattle.og_types.specs.declared.Sort.{Sort}
use Rattle.og_types.specs.declared.Value.{Value}
use Rattle.og_model.specs.declared.Model.{Model}
use Rattle.og_model.specs.declared.Region.{Region}
use Rattle.og_model.specs.declared.EventId.{EventId}
use Rattle.og_model.specs.declared.EventId.TheVariants as event
use Rattle.og_model.specs.declared.StuckRule.TheVariants as stuck
use Rattle.og_model.specs.Regions.{regions}
use Rattle.og_model.specs.Shown.{Event, Output, Set, End, Rest, Fault, Stopped, Past, Stuck, Shown, Stimulus, Signal, Expiry, is_stuck, has_stuck}
use Rattle.og_ir.specs.Cells.{Cells, ◌>>=◌}
use Rattle.og_ir.specs.Reading.{value_in, cells_of, truth_in}
use Rattle.og_ir.specs.Steps.{Config, Running, Over, Broken, exec}
use Rattle.og_ir.proofs.ValueRead.{bound}
use Rattle.og_csubset.specs.declared.CProgram.{CProgram}
use Rattle.og_csubset.specs.Kinds.{place_in, global_names, function_names, first_globals}
use Rattle.og_csubset.specs.Interface.{Shape, Number, Typed, Field, events_of, event_name, inputs_of, outputs_of, signal_function, variable_field, variable_fields, region_field, kind_name, stopped_name}
use Rattle.og_csubset.specs.Reads.{Globals, cells_named, number_named, value_of_shape, value_of_field, all_of, values_of, duration_in, event_shown, event_named, event_of, variables_in, timers_in, active_path, paths_in, kind_numbered, place_of_fault, fault_end, stopped_end, rest_end, end_without_fault, end_by_kind, end_of, put_named, cells_of_shape, inputs_set}
use Rattle.og_csubset.specs.Step.{cstep}
use Rattle.og_csubset.specs.Run.{goes_on, shown_by, shown_of, runs, all_stimuli, entered, begun, c_machine, c}
use Rattle.og_csubset.specs.Extension.{SameName, Extends, end_over, shown_over}
use Rattle.og_csubset.proofs.Extension.{inputs_same, outputs_same, durations_same, signal_functions_same, timer_functions_same, event_names_same, events_same, variable_fields_same, timer_fields_same, region_field_same, further}
use Rattle.og_names.proofs.Truths.{neither_first as or_left, neither_second as or_right, same_value}

bind_on : {A B : Type 0} (o : Option A) (f g : A → Option B) → ((x : A) → f x ≡ g x) → (o >>= f) ≡ (o >>= g)
bind_on None f g h = refl
bind_on (Some x) f g h = h x

all_of_same : {A B : Type 0} (f g : A → Option B) → ((x : A) → f x ≡ g x) → (xs : List A) → all_of f xs ≡ all_of g xs
all_of_same f g h [] = refl
all_of_same f g h (x ∷ xs) =
    ap (λ o. o >>= λ y. all_of f xs >>= λ ys. Some (y ∷ ys)) (h x)
    ∙ bind_on (g x) _ _ (λ y. ap (λ o. o >>= λ ys. Some (y ∷ ys)) (all_of_same f g h xs))

-- where all are there, those of the first are
all_of_front : {A B : Type 0} (f : A → Option B) (xs ys : List A) (vs : List B) → all_of f (xs ++ ys) ≡ Some vs → all_of f xs ≡ Some (take (length xs) vs)
all_of_front f [] ys vs h = refl
all_of_front f (x ∷ xs) ys vs h =
    let one = bound (f x) _ vs h in
    let more = bound (all_of f (xs ++ ys)) _ vs one.gives in
    ap (λ o. o >>= λ y. all_of f xs >>= λ zs. Some (y ∷ zs)) one.is
    ∙ ap (λ o. o >>= λ zs. Some (one.value ∷ zs)) (all_of_front f xs ys more.value more.is)
    ∙ ap (λ list. Some (take (suc (length xs)) list)) (same_value _ vs more.gives)

module _ (M L : Model) (ext : Extends M L) where
  abbrev n : ℕ
  n = length M.variables

  shape_same : (shape : Shape) (cells : Cells) → value_of_shape L shape cells ≡ value_of_shape M shape cells
  shape_same Number cells = refl
  shape_same (Typed t) cells = ap (λ (sorts : List Sort). value_in sorts t cells) ext.types

  values_same : (g : Globals) (fields : List Field) → values_of L g fields ≡ values_of M g fields
  values_same g fields =
      all_of_same (value_of_field L g) (value_of_field M g) (λ field. bind_on (cells_named g field.name) _ _ (shape_same field.shape)) fields

  shown_same : (g : Globals) (id : EventId) → event_shown L g id ≡ event_shown M g id
  shown_same g (event.Output k) =
      ap (λ o. o >>= λ vs. Some (Output k vs)) (ap (values_of L g) (outputs_same M L ext k) ∙ values_same g (outputs_of M k))
  shown_same g (event.Set k) = ap (λ field. duration_in g field >>= λ d. Some (Set k d)) (durations_same M L ext k)
  shown_same g (event.Reset k) = refl

  named_same : (name : List ℕ) (ids : List EventId) → event_named L name ids ≡ event_named M name ids
  named_same name [] = refl
  named_same name (id ∷ ids) =
      ap (λ other. cond (bytes_eq name other) (Some id) (event_named L name ids)) (event_names_same M L ext id)
      ∙ ap (λ o. cond (bytes_eq name (event_name M id)) (Some id) o) (named_same name ids)

  event_same : (names : List (List ℕ)) (name : List ℕ) (cells : List Cells) → event_of L names name cells ≡ event_of M names name cells
  unfolding event_of
  event_same names name cells =
      let g : Globals = record { names = names; cells = cells } in
      ap (λ o. o >>= event_shown L g) (named_same name (events_of L) ∙ ap (event_named M name) (events_same M L ext))
      ∙ bind_on (event_named M name (events_of M)) _ _ (shown_same g)

  inputs_set_same : (names : List (List ℕ)) (fields : List Field) (vs : List Value) (cells : List Cells) → inputs_set L names fields vs cells ≡ inputs_set M names fields vs cells
  inputs_set_same names [] vs cells = refl
  inputs_set_same names (field ∷ fields) [] cells = refl
  inputs_set_same names (field ∷ fields) (v ∷ vs) cells =
      ap (λ new. inputs_set L names fields vs (put_named names field.name new cells)) (cells_same field.shape)
      ∙ inputs_set_same names fields vs (put_named names field.name (cells_of_shape M field.shape v) cells)
    where
      cells_same : (shape : Shape) → cells_of_shape L shape v ≡ cells_of_shape M shape v
      cells_same Number = refl
      cells_same (Typed t) = ap (λ (sorts : List Sort). cells_of sorts t v) ext.types

  begun_same : (functions names : List (List ℕ)) (s : Option Stimulus) (cells : List Cells) → begun L functions names s cells ≡ begun M functions names s cells
  begun_same functions names None cells = refl
  begun_same functions names (Some (Signal k vs)) cells =
      ap (λ f. entered (place_in f functions) (inputs_set L names (inputs_of L k) vs cells)) (signal_functions_same M L ext k)
      ∙ ap (λ fields. entered (place_in (signal_function M k) functions) (inputs_set L names fields vs cells)) (inputs_same M L ext k)
      ∙ ap (entered (place_in (signal_function M k) functions)) (inputs_set_same names (inputs_of M k) vs cells)
  begun_same functions names (Some (Expiry k)) cells = ap (λ f. entered (place_in f functions) cells) (timer_functions_same M L ext k)

  -- ---- ends

  variables_keep : (g : Globals) (vs : List Value) → variables_in L g ≡ Some vs → variables_in M g ≡ Some (take n vs)
  variables_keep g vs h =
      let all : values_of M g (variable_fields M ++ further M L ext) ≡ Some vs =
      ap (values_of M g) (sym (variable_fields_same M L ext)) ∙ sym (values_same g (variable_fields L)) ∙ h in
      all_of_front (value_of_field M g) (variable_fields M) (further M L ext) vs all
      ∙ ap (λ k. Some (take k vs)) (length-map M.variables (variable_field M))

  timers_same : (g : Globals) → timers_in L g ≡ timers_in M g
  timers_same g = ap (all_of (λ (field : Field). number_named g field.name >>= truth_in)) (timer_fields_same M L ext)

  paths_by : (g : Globals) (list : List Region) → AllByRecursion (λ (r : Region). AllByRecursion (SameName M L) r.path) list → paths_in L g list ≡ paths_in M g list
  paths_by g [] h = refl
  paths_by g (r ∷ list) h =
      ap (λ (field : Field). number_named g field.name >>= λ z. active_path r z >>= λ here. paths_in L g list >>= λ others. Some (here ++ others)) (region_field_same M L ext r h.0)
      ∙ bind_on (number_named g ((region_field M r).name)) _ _ (λ z. bind_on (active_path r z) _ _ (λ here.
      ap (λ o. o >>= λ others. Some (here ++ others)) (paths_by g list h.1)))

  paths_same : (g : Globals) → paths_in L g (regions L) ≡ paths_in M g (regions M)
  paths_same g = ap (paths_in L g) ext.regions_same ∙ paths_by g (regions M) ext.region_names

  fault_keeps : (g : Globals) (z : ℤ) (e : End) → fault_end L g z ≡ Some e → fault_end M g z ≡ Some (end_over n e)
  fault_keeps g z e h =
      let k = bound (kind_numbered z) _ e h in
      let p = bound (place_of_fault g) _ e k.gives in
      let v = bound (variables_in L g) _ e p.gives in
      let t = bound (timers_in L g) _ e v.gives in
      ap (λ o. o >>= λ kind. place_of_fault g >>= λ place. variables_in M g >>= λ vs. timers_in M g >>= λ ts. Some (Fault kind place vs ts)) k.is
      ∙ ap (λ o. o >>= λ place. variables_in M g >>= λ vs. timers_in M g >>= λ ts. Some (Fault k.value place vs ts)) p.is
      ∙ ap (λ o. o >>= λ vs. timers_in M g >>= λ ts. Some (Fault k.value p.value vs ts)) (variables_keep g v.value v.is)
      ∙ ap (λ o. o >>= λ ts. Some (Fault k.value p.value (take n v.value) ts)) (sym (timers_same g) ∙ t.is)
      ∙ ap (λ f. Some (end_over n f)) (same_value _ e t.gives)

  stopped_keeps : (g : Globals) (e : End) → stopped_end L g ≡ Some e → stopped_end M g ≡ Some (end_over n e)
  stopped_keeps g e h =
      let v = bound (variables_in L g) _ e h in
      ap (λ o. o >>= λ vs. Some (Stopped vs)) (variables_keep g v.value v.is)
      ∙ ap (λ f. Some (end_over n f)) (same_value _ e v.gives)

  rest_keeps : (g : Globals) (e : End) → rest_end L g ≡ Some e → rest_end M g ≡ Some (end_over n e)
  rest_keeps g e h =
      let p = bound (paths_in L g (regions L)) _ e h in
      let v = bound (variables_in L g) _ e p.gives in
      let t = bound (timers_in L g) _ e v.gives in
      ap (λ o. o >>= λ paths. variables_in M g >>= λ vs. timers_in M g >>= λ ts. Some (Rest paths vs ts)) (sym (paths_same g) ∙ p.is)
      ∙ ap (λ o. o >>= λ vs. timers_in M g >>= λ ts. Some (Rest p.value vs ts)) (variables_keep g v.value v.is)
      ∙ ap (λ o. o >>= λ ts. Some (Rest p.value (take n v.value) ts)) (sym (timers_same g) ∙ t.is)
      ∙ ap (λ f. Some (end_over n f)) (same_value _ e t.gives)

  without_fault_keeps : (g : Globals) (z : ℤ) (e : End) → end_without_fault L g z ≡ Some e → end_without_fault M g z ≡ Some (end_over n e)
  without_fault_keeps g (pos zero) e h = rest_keeps g e h
  without_fault_keeps g (pos (suc k)) e h = stopped_keeps g e h
  without_fault_keeps g (negsuc k) e h = stopped_keeps g e h

  by_kind_keeps : (g : Globals) (z : ℤ) (e : End) → end_by_kind L g z ≡ Some e → end_by_kind M g z ≡ Some (end_over n e)
  by_kind_keeps g (pos zero) e h =
      let s = bound (number_named g stopped_name) _ e h in
      ap (λ o. o >>= end_without_fault M g) s.is ∙ without_fault_keeps g s.value e s.gives
  by_kind_keeps g (pos (suc k)) e h = fault_keeps g (pos (suc k)) e h
  by_kind_keeps g (negsuc k) e h = fault_keeps g (negsuc k) e h

  read_keeps : (o' o : Option End) → ((e : End) → o' ≡ Some e → o ≡ Some (end_over n e)) → is_stuck (unwrap_or o' (Stuck stuck.Value)) ≡ false → unwrap_or o (Stuck stuck.Value) ≡ end_over n (unwrap_or o' (Stuck stuck.Value))
  read_keeps None o h free = absurd (false≢true (sym free))
  read_keeps (Some e) o h free = ap (λ x. unwrap_or x (Stuck stuck.Value)) (h e refl)

  end_keeps : (names : List (List ℕ)) (cells : List Cells) → is_stuck (end_of L names cells) ≡ false → end_of M names cells ≡ end_over n (end_of L names cells)
  unfolding end_of
  end_keeps names cells free =
      let g : Globals = record { names = names; cells = cells } in
      read_keeps (number_named g kind_name >>= end_by_kind L g) (number_named g kind_name >>= end_by_kind M g)
      (λ e h. let k = bound (number_named g kind_name) _ e h in ap (λ o. o >>= end_by_kind M g) k.is ∙ by_kind_keeps g k.value e k.gives)
      free

-- what goes on is seen over the first variables
on_keeps : (M : Model) (e : End) (more more' : List Shown) → (has_stuck more' ≡ false → more ≡ shown_over M more') → has_stuck (goes_on e more' []) ≡ false → goes_on (end_over (length M.variables) e) more [] ≡ shown_over M (goes_on e more' [])
on_keeps M (Rest paths variables timers) more more' h free = h free
on_keeps M (Fault kind place variables timers) more more' h free = refl
on_keeps M (Stopped variables) more more' h free = h free
on_keeps M Past more more' h free = refl
on_keeps M (Stuck rule) more more' h free = refl

by_keeps : (M : Model) (ending ending' : List Cells → End) (more more' : List Cells → List Shown) → ((g : List Cells) → is_stuck (ending' g) ≡ false → ending g ≡ end_over (length M.variables) (ending' g)) → ((g : List Cells) → has_stuck (more' g) ≡ false → more g ≡ shown_over M (more' g)) → (events : List Event) (config : Config) → has_stuck (shown_by ending' more' events config) ≡ false → shown_by ending more events config ≡ shown_over M (shown_by ending' more' events config)
by_keeps M ending ending' more more' ends h events (Running g frame callers) free = refl
by_keeps M ending ending' more more' ends h events (Broken trouble) free = absurd (false≢true (sym free))
by_keeps M ending ending' more more' ends h events (Over g) free =
    let here : is_stuck (ending' g) ≡ false = or_left (is_stuck (ending' g)) (has_stuck (goes_on (ending' g) (more' g) [])) free in
    let later : has_stuck (goes_on (ending' g) (more' g) []) ≡ false = or_right (is_stuck (ending' g)) (has_stuck (goes_on (ending' g) (more' g) [])) free in
    ap (λ e. let entry : Shown = record { events = events; end = e } in entry ∷ goes_on e (more g) []) (ends g here)
    ∙ ap (λ rest. let entry : Shown = record { events = events; end = end_over (length M.variables) (ending' g) } in entry ∷ rest) (on_keeps M (ending' g) (more g) (more' g) (h g) later)

module _ (P : CProgram) (M L : Model) (ext : Extends M L) where
  ran_same : (m : ℕ) (s : Option Stimulus) (cells : List Cells) → exec (c_machine P M).step m ((c_machine P M).begin s cells) ≡ exec (c_machine P L).step m ((c_machine P L).begin s cells)
  ran_same m s cells =
      ap (exec (c_machine P M).step m) (sym (begun_same M L ext (function_names P) (global_names P) s cells))
      ∙ ap (λ shows. exec (cstep shows P) m ((c_machine P L).begin s cells)) (sym shows)
    where
      shows : event_of L (global_names P) ≡ event_of M (global_names P)
      shows = λ i. λ name cells. event_same M L ext (global_names P) name cells i

  runs_keep : (m : ℕ) (stimuli : List (Option Stimulus)) (cells : List Cells) → has_stuck (runs (c_machine P L) m stimuli cells) ≡ false → runs (c_machine P M) m stimuli cells ≡ shown_over M (runs (c_machine P L) m stimuli cells)
  runs_keep m [] cells free = refl
  runs_keep m (s ∷ stimuli) cells free =
      let ran = exec (c_machine P L).step m ((c_machine P L).begin s cells) in
      ap (shown_of (c_machine P M).ending (runs (c_machine P M) m stimuli)) (ran_same m s cells)
      ∙ by_keeps M (c_machine P M).ending (c_machine P L).ending (runs (c_machine P M) m stimuli) (runs (c_machine P L) m stimuli)
      (end_keeps M L ext (global_names P)) (runs_keep m stimuli) ran.events ran.config free

  -- the same list over the first variables, where the run is not stuck
  pub c_keeps : (stimuli : List Stimulus) (m : ℕ) → has_stuck (c P L stimuli m) ≡ false → c P M stimuli m ≡ shown_over M (c P L stimuli m)
  unfolding c
  c_keeps stimuli m free = runs_keep m (all_stimuli stimuli) (first_globals P) free
