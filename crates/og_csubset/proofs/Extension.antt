-- A program of a model that has more variables is one of the model without them.
use Rattle.std.proofs.Common.{◌≡◌, ℕ, zero, suc, List, [], ◌∷◌, ◌++◌, Bool, true, false, cond, not, ◌&&◌, ◌||◌, Option, Some, None, map, length, slice_get, refl, sym, ap, ◌∙◌}
use Rattle.std.specs.Prelude.{flat_map, codes}
use Rattle.std.specs.List.{list_all, AllByRecursion}
use Rattle.std.proofs.lemmas.Bool.{false≢true}
use Rattle.std.proofs.lemmas.List.{map-append}
use Rattle.std.proofs.lemmas.List.Folds.{list_all-append}
use Rattle.og_names.specs.declared.NameId.{NameId}
use Rattle.og_model.specs.declared.Model.{Model}
use Rattle.og_model.specs.declared.Signal.{Signal}
use Rattle.og_model.specs.declared.Variable.{Variable}
use Rattle.og_model.specs.declared.Region.{Region}
use Rattle.og_model.specs.declared.EventId.{EventId}
use Rattle.og_model.specs.declared.EventId.TheVariants as event
use Rattle.og_model.specs.Regions.{regions}
use Rattle.og_csubset.specs.Interface.{Typed, Field, name_of, name_if, numbers_below, signal_id, signal_name, sorts_of, signal_sorts, timer_name, parameters_from, inputs_of, outputs_of, duration_of, start_function, signal_function, timer_function, incoming_from, incoming, functions_of, events_of, event_name, event_globals, variable_field, variable_fields, timer_field, timer_fields, region_field, number_field, stopped_name, kind_name, file_name, line_name, column_name, control_fields, fields_of}
use Rattle.og_types.specs.declared.Sort.{Sort}
use Rattle.og_csubset.specs.declared.CProgram.{CProgram}
use Rattle.og_csubset.specs.Kinds.{Kind, is_in, event_names, function_names, global_kind}
use Rattle.og_csubset.specs.Loading.{passes, is_shaped, has_field, is_free, has_event, breaks_K3, breaks_K4, breaks_K5, breaks_K6, breaks_K7, breaks_K8, breaks_K9, first_load_rule, Loads}
use Rattle.og_csubset.specs.declared.LoadRule.TheVariants as rule
use Rattle.std.proofs.lemmas.Option.{none-some}
use Rattle.og_csubset.specs.Extension.{SameName, Extends}
use Rattle.og_names.proofs.Truths.{both_first as left_of, both_second as right_of}

-- equal lists made by functions that agree on the elements
map_all : {A B : Type 0} (f g : A → B) (xs : List A) → AllByRecursion (λ x. f x ≡ g x) xs → map f xs ≡ map g xs
map_all f g [] h = refl
map_all f g (x ∷ xs) h = ap (λ y. y ∷ map f xs) h.0 ∙ ap (λ ys. g x ∷ ys) (map_all f g xs h.1)

map_same : {A B : Type 0} (f g : A → B) → ((x : A) → f x ≡ g x) → (xs : List A) → map f xs ≡ map g xs
map_same f g h [] = refl
map_same f g h (x ∷ xs) = ap (λ y. y ∷ map f xs) (h x) ∙ ap (λ ys. g x ∷ ys) (map_same f g h xs)

flat_map_all : {A B : Type 0} (f g : A → List B) (xs : List A) → AllByRecursion (λ x. f x ≡ g x) xs → flat_map f xs ≡ flat_map g xs
flat_map_all f g [] h = refl
flat_map_all f g (x ∷ xs) h = ap (λ ys. ys ++ flat_map f xs) h.0 ∙ ap (λ ys. g x ++ ys) (flat_map_all f g xs h.1)

flat_map_same : {A B : Type 0} (f g : A → List B) → ((x : A) → f x ≡ g x) → (xs : List A) → flat_map f xs ≡ flat_map g xs
flat_map_same f g h [] = refl
flat_map_same f g h (x ∷ xs) = ap (λ ys. ys ++ flat_map f xs) (h x) ∙ ap (λ ys. g x ++ ys) (flat_map_same f g h xs)

all_map : {A : Type 0} (P Q : A → Type 0) → ((x : A) → P x → Q x) → (xs : List A) → AllByRecursion P xs → AllByRecursion Q xs
all_map P Q h [] all = all
all_map P Q h (x ∷ xs) all = (h x all.0, all_map P Q h xs all.1)

list_all_same : {A : Type 0} (f g : A → Bool) → ((x : A) → f x ≡ g x) → (xs : List A) → list_all f xs ≡ list_all g xs
list_all_same f g h [] = refl
list_all_same f g h (x ∷ xs) = ap (λ b. b && list_all f xs) (h x) ∙ ap (λ b. g x && b) (list_all_same f g h xs)

-- what holds of each element holds of the one at a place
name_at : (M L : Model) (signals : List Signal) (k : ℕ) → AllByRecursion (λ (s : Signal). SameName M L s.name) signals → name_if L (signal_id (slice_get signals k)) ≡ name_if M (signal_id (slice_get signals k))
name_at M L [] k h = refl
name_at M L (s ∷ signals) zero h = h.0
name_at M L (s ∷ signals) (suc k) h = name_at M L signals k h.1

id_at : (M L : Model) (ids : List NameId) (k : ℕ) → AllByRecursion (SameName M L) ids → name_if L (slice_get ids k) ≡ name_if M (slice_get ids k)
id_at M L [] k h = refl
id_at M L (id ∷ ids) zero h = h.0
id_at M L (id ∷ ids) (suc k) h = id_at M L ids k h.1

module _ (M L : Model) (ext : Extends M L) where
  signal_names_same : (k : ℕ) → signal_name L k ≡ signal_name M k
  signal_names_same k =
      ap (λ (signals : List Signal). name_if L (signal_id (slice_get signals k))) ext.signals ∙ name_at M L M.signals k ext.signal_names

  timer_names_same : (k : ℕ) → timer_name L k ≡ timer_name M k
  timer_names_same k = ap (λ (ids : List NameId). name_if L (slice_get ids k)) ext.timers ∙ id_at M L M.timers k ext.timer_names

  sorts_same : (k : ℕ) → signal_sorts L k ≡ signal_sorts M k
  sorts_same k = ap (λ (signals : List Signal). sorts_of (slice_get signals k)) ext.signals

  pub inputs_same : (k : ℕ) → inputs_of L k ≡ inputs_of M k
  inputs_same k =
      ap (λ n. parameters_from 1 (codes "i_" ++ n) (signal_sorts L k)) (signal_names_same k)
      ∙ ap (parameters_from 1 (codes "i_" ++ signal_name M k)) (sorts_same k)

  pub outputs_same : (k : ℕ) → outputs_of L k ≡ outputs_of M k
  outputs_same k =
      ap (λ n. parameters_from 1 (codes "o_" ++ n) (signal_sorts L k)) (signal_names_same k)
      ∙ ap (parameters_from 1 (codes "o_" ++ signal_name M k)) (sorts_same k)

  pub durations_same : (k : ℕ) → duration_of L k ≡ duration_of M k
  durations_same k = ap (λ n. number_field (codes "d_" ++ n)) (timer_names_same k)

  pub signal_functions_same : (k : ℕ) → signal_function L k ≡ signal_function M k
  signal_functions_same k = ap (λ n. codes "on_" ++ n) (signal_names_same k)

  pub timer_functions_same : (k : ℕ) → timer_function L k ≡ timer_function M k
  timer_functions_same k = ap (λ n. codes "at_" ++ n) (timer_names_same k)

  pub event_names_same : (id : EventId) → event_name L id ≡ event_name M id
  event_names_same (event.Output k) = ap (λ n. codes "o_" ++ n) (signal_names_same k)
  event_names_same (event.Set k) = ap (λ n. codes "s_" ++ n) (timer_names_same k)
  event_names_same (event.Reset k) = ap (λ n. codes "x_" ++ n) (timer_names_same k)

  event_globals_same : (id : EventId) → event_globals L id ≡ event_globals M id
  event_globals_same (event.Output k) = outputs_same k
  event_globals_same (event.Set k) = ap (λ field. field ∷ []) (durations_same k)
  event_globals_same (event.Reset k) = refl

  incoming_same : incoming L ≡ incoming M
  incoming_same = ap (λ (signals : List Signal). incoming_from 0 signals) ext.signals

  functions_same : functions_of L ≡ functions_of M
  functions_same =
      ap (λ names. start_function ∷ (names ++ map (timer_function L) (numbers_below (length L.timers))))
      (map_same (signal_function L) (signal_function M) signal_functions_same (incoming L) ∙ ap (map (signal_function M)) incoming_same)
      ∙ ap (λ names. start_function ∷ (map (signal_function M) (incoming M) ++ names))
      (map_same (timer_function L) (timer_function M) timer_functions_same (numbers_below (length L.timers))
      ∙ ap (λ (ids : List NameId). map (timer_function M) (numbers_below (length ids))) ext.timers)

  pub events_same : events_of L ≡ events_of M
  events_same =
      ap (λ (signals : List Signal). map event.Output (numbers_below (length signals)) ++ flat_map (λ k. event.Set k ∷ event.Reset k ∷ []) (numbers_below (length L.timers))) ext.signals
      ∙ ap (λ (ids : List NameId). map event.Output (numbers_below (length M.signals)) ++ flat_map (λ k. event.Set k ∷ event.Reset k ∷ []) (numbers_below (length ids))) ext.timers

  pub timer_fields_same : timer_fields L ≡ timer_fields M
  timer_fields_same =
      ap (λ (ids : List NameId). map (timer_field L) ids) ext.timers
      ∙ map_all (timer_field L) (timer_field M) M.timers
      (all_map (SameName M L) _ (λ id same. ap (λ n. number_field (codes "t_" ++ n)) same) M.timers ext.timer_names)

  -- the fields of the further variables
  abbrev pub further : List Field
  further = map (variable_field L) ext.variables.0

  pub variable_fields_same : variable_fields L ≡ variable_fields M ++ further
  variable_fields_same =
      ap (λ (variables : List Variable). map (variable_field L) variables) ext.variables.1
      ∙ map-append (variable_field L) M.variables ext.variables.0
      ∙ ap (λ fields. fields ++ further)
      (map_all (variable_field L) (variable_field M) M.variables
      (all_map (λ (v : Variable). SameName M L v.name) _ (λ v same. ap (λ n. let field : Field = record { name = codes "v_" ++ n; shape = Typed v.sort } in field) same) M.variables ext.variable_names))

  pub region_field_same : (r : Region) → AllByRecursion (SameName M L) r.path → region_field L r ≡ region_field M r
  region_field_same r same =
      ap (λ text. number_field (codes "r" ++ text))
      (flat_map_all (λ id. codes "__" ++ name_of L id) (λ id. codes "__" ++ name_of M id) r.path
      (all_map (SameName M L) _ (λ id e. ap (λ n. codes "__" ++ n) e) r.path same))

  control_same : control_fields L ≡ control_fields M
  control_same =
      ap (λ fields. fields ++ map number_field (stopped_name ∷ kind_name ∷ file_name ∷ line_name ∷ column_name ∷ []))
      (ap (λ (list : List Region). map (region_field L) list) ext.regions_same
      ∙ map_all (region_field L) (region_field M) (regions M) (all_map _ _ region_field_same (regions M) ext.region_names))

  all_inputs_same : flat_map (inputs_of L) (incoming L) ≡ flat_map (inputs_of M) (incoming M)
  all_inputs_same = flat_map_same (inputs_of L) (inputs_of M) inputs_same (incoming L) ∙ ap (flat_map (inputs_of M)) incoming_same

-- ---- loading

-- where a chain of tests comes to nothing, so does one whose later tests come to nothing as well
chain_keeps : {A : Type 0} (b : Bool) (x : A) (rest rest' : Option A) → (rest ≡ None → rest' ≡ None) → cond b (Some x) rest ≡ None → cond b (Some x) rest' ≡ None
chain_keeps true x rest rest' h e = e
chain_keeps false x rest rest' h e = h e

both_hold : {a b : Bool} → a ≡ true → b ≡ true → (a && b) ≡ true
both_hold {a} {b} p q = ap (λ t. t && b) p ∙ q

-- a test that does not fail holds
pub not_false : (b : Bool) → not b ≡ false → b ≡ true
not_false true e = refl
not_false false e = absurd (false≢true (sym e))

first_chosen : {A : Type 0} (b : Bool) (x : A) → cond b (Some x) None ≡ None → b ≡ false
first_chosen true x e = absurd (none-some x (sym e))
first_chosen false x e = refl

-- a part is left out
all_but : {A : Type 0} (F : A → Bool) (C V X T I : List A) → list_all F (C ++ (V ++ X) ++ T ++ I) ≡ true → list_all F (C ++ V ++ T ++ I) ≡ true
all_but F C V X T I h =
    let cvt : (list_all F (C ++ (V ++ X) ++ T) && list_all F I) ≡ true = sym (list_all-append F (C ++ (V ++ X) ++ T) I) ∙ h in
    let cv : (list_all F (C ++ (V ++ X)) && list_all F T) ≡ true = sym (list_all-append F (C ++ (V ++ X)) T) ∙ left_of (list_all F (C ++ (V ++ X) ++ T)) (list_all F I) cvt in
    let c : (list_all F C && list_all F (V ++ X)) ≡ true = sym (list_all-append F C (V ++ X)) ∙ left_of (list_all F (C ++ (V ++ X))) (list_all F T) cv in
    let v : (list_all F V && list_all F X) ≡ true = sym (list_all-append F V X) ∙ right_of (list_all F C) (list_all F (V ++ X)) c in
    let all_C : list_all F C ≡ true = left_of (list_all F C) (list_all F (V ++ X)) c in
    let all_V : list_all F V ≡ true = left_of (list_all F V) (list_all F X) v in
    let all_T : list_all F T ≡ true = right_of (list_all F (C ++ (V ++ X))) (list_all F T) cv in
    let all_I : list_all F I ≡ true = right_of (list_all F (C ++ (V ++ X) ++ T)) (list_all F I) cvt in
    let first : list_all F (C ++ V) ≡ true = list_all-append F C V ∙ both_hold all_C all_V in
    let second : list_all F (C ++ V ++ T) ≡ true = list_all-append F (C ++ V) T ∙ both_hold first all_T in
    list_all-append F (C ++ V ++ T) I ∙ both_hold second all_I

module _ (P : CProgram) (M L : Model) (ext : Extends M L) where
  field_same : (field : Field) → has_field P L field ≡ has_field P M field
  field_same field =
      ap (λ (sorts : List Sort). passes (λ (kind : Kind). is_shaped P.structs sorts field.shape kind.type) (global_kind P field.name)) ext.types

  event_same : (id : EventId) → has_event P L id ≡ has_event P M id
  event_same id =
      ap (λ n. cond (is_in n (event_names P)) (list_all (has_field P L) (event_globals L id)) (is_free P n && list_all (λ field. is_free P field.name || has_field P L field) (event_globals L id))) (event_names_same M L ext id)
      ∙ ap (λ fields. cond (is_in (event_name M id) (event_names P)) (list_all (has_field P L) fields) (is_free P (event_name M id) && list_all (λ field. is_free P field.name || has_field P L field) fields)) (event_globals_same M L ext id)
      ∙ ap (λ b. cond (is_in (event_name M id) (event_names P)) b (is_free P (event_name M id) && list_all (λ field. is_free P field.name || has_field P L field) (event_globals M id)))
      (list_all_same (has_field P L) (has_field P M) field_same (event_globals M id))
      ∙ ap (λ b. cond (is_in (event_name M id) (event_names P)) (list_all (has_field P M) (event_globals M id)) (is_free P (event_name M id) && b))
      (list_all_same _ _ (λ field. ap (λ b. is_free P field.name || b) (field_same field)) (event_globals M id))

  all_functions : list_all (λ n. is_in n (function_names P)) (functions_of L) ≡ list_all (λ n. is_in n (function_names P)) (functions_of M)
  all_functions = ap (list_all (λ n. is_in n (function_names P))) (functions_same M L ext)

  all_events : list_all (has_event P L) (events_of L) ≡ list_all (has_event P M) (events_of M)
  all_events = list_all_same (has_event P L) (has_event P M) event_same (events_of L) ∙ ap (list_all (has_event P M)) (events_same M L ext)

  known_events : list_all (λ n. is_in n (map (event_name L) (events_of L))) (event_names P) ≡ list_all (λ n. is_in n (map (event_name M) (events_of M))) (event_names P)
  known_events =
      ap (λ names. list_all (λ n. is_in n names) (event_names P))
      (map_same (event_name L) (event_name M) (event_names_same M L ext) (events_of L) ∙ ap (map (event_name M)) (events_same M L ext))

  -- the fields of the smaller model are among those of the larger one
  all_fields : list_all (has_field P L) (fields_of L) ≡ true → list_all (has_field P M) (fields_of M) ≡ true
  all_fields h =
      let F : Field → Bool = has_field P M in
      let C : List Field = control_fields M in
      let V : List Field = variable_fields M in
      let X : List Field = further M L ext in
      let T : List Field = timer_fields M in
      let I : List Field = flat_map (inputs_of M) (incoming M) in
      let whole : list_all F (C ++ (V ++ X) ++ T ++ I) ≡ true =
      ap (list_all F) (sym
      (ap (λ fields. fields ++ variable_fields L ++ timer_fields L ++ flat_map (inputs_of L) (incoming L)) (control_same M L ext)
      ∙ ap (λ fields. C ++ fields ++ timer_fields L ++ flat_map (inputs_of L) (incoming L)) (variable_fields_same M L ext)
      ∙ ap (λ fields. C ++ (V ++ X) ++ fields ++ flat_map (inputs_of L) (incoming L)) (timer_fields_same M L ext)
      ∙ ap (λ fields. C ++ (V ++ X) ++ T ++ fields) (all_inputs_same M L ext)))
      ∙ sym (list_all_same (has_field P L) F field_same (fields_of L)) ∙ h in
      all_but F C V X T I whole

  interface_keeps : breaks_K9 P L ≡ false → breaks_K9 P M ≡ false
  interface_keeps h =
      let a : Bool = list_all (λ n. is_in n (function_names P)) (functions_of L) in
      let b : Bool = list_all (has_field P L) (fields_of L) in
      let c : Bool = list_all (has_event P L) (events_of L) in
      let d : Bool = list_all (λ n. is_in n (map (event_name L) (events_of L))) (event_names P) in
      let all : (a && b && c && d) ≡ true = not_false (a && b && c && d) h in
      let three : (a && b && c) ≡ true = left_of (a && b && c) d all in
      let two : (a && b) ≡ true = left_of (a && b) c three in
      let known : list_all (λ n. is_in n (map (event_name M) (events_of M))) (event_names P) ≡ true = sym known_events ∙ right_of (a && b && c) d all in
      let each : list_all (has_event P M) (events_of M) ≡ true = sym all_events ∙ right_of (a && b) c three in
      let fields : list_all (has_field P M) (fields_of M) ≡ true = all_fields (right_of a b two) in
      let functions : list_all (λ n. is_in n (function_names P)) (functions_of M) ≡ true = sym all_functions ∙ left_of a b two in
      ap not (both_hold (both_hold (both_hold functions fields) each) known)

  -- what loads with the larger model loads with the other
  pub loads_keeps : Loads P L → Loads P M
  unfolding first_load_rule
  loads_keeps =
      chain_keeps (breaks_K3 P) _ _ _
      (chain_keeps (breaks_K4 P) _ _ _
      (chain_keeps (breaks_K5 P) _ _ _
      (chain_keeps (breaks_K6 P) _ _ _
      (chain_keeps (breaks_K7 P) _ _ _
      (chain_keeps (breaks_K8 P) _ _ _
      (λ h. ap (λ b. cond b (Some rule.K9) None) (interface_keeps (first_chosen (breaks_K9 P L) rule.K9 h))))))))
