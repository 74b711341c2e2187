-- No name of the code stands for two things.
use Rattle.std.proofs.Common.{◌≡◌, ℕ, zero, suc, ◌+◌, ◌<◌, List, [], ◌∷◌, ◌++◌, Bool, true, false, cond, not, ◌||◌, map, length, slice_get, append-nil, append_assoc, Option, Some, None, refl, sym, ap, ◌∙◌, arith}
use Rattle.std.specs.Prelude.{codes, decimal, unwrap_or}
use Rattle.std.specs.List.{AllByRecursion, list_all, list_any}
use Rattle.std.specs.Str.{bytes_eq}
use Rattle.std.specs.Cmp.Lexicographic.{bytes_decides}
use Rattle.std.proofs.lemmas.Bool.{false≢true, ltb-true, eq-eqb}
use Rattle.std.proofs.lemmas.List.{map-append}
use Rattle.og_names.specs.declared.NameId.{NameId}
use Rattle.og_names.specs.declared.Word.{Word}
use Rattle.og_names.specs.Folding.{place_of}
use Rattle.og_types.specs.Table.{all_differ, same_name}
use Rattle.og_model.specs.declared.Model.{Model}
use Rattle.og_model.specs.declared.Signal.{Signal}
use Rattle.og_model.specs.Resolved.{is_known, is_declared_signal}
use Rattle.og_model.specs.Rules.{has_double_underscore, is_plain_text, is_plain_name}
use Rattle.og_ir.specs.declared.FlatFn.{FlatFn}
use Rattle.og_csubset.specs.Interface.{Field, name_of}
use Rattle.og_csubset.specs.FlatRun.{slot_names}
use Rattle.og_csubset.specs.Kinds.{is_in}
use Rattle.og_csubset.specs.Loading.{has_twice}
use Rattle.og_csubset.specs.Fair.{names_of}
use Rattle.og_flatten.specs.FlatCode.{event_word, signal_function, signal_functions}
use Rattle.og_flatten.specs.Slots.{slots_of, control_of}
use Rattle.og_flatten.proofs.PlainSlots.{field_names, def_names, names_of_fields, input_fields, output_fields, parameter_fields, plain_code}
use Rattle.og_flatten.proofs.Parameters.{HasFew, few_parameters}
use Rattle.og_flatten.proofs.ParameterNames.{other_name, parameter, parameter_underscores, NamesDiffer, not_parameter, parameters_once}
use Rattle.og_flatten.proofs.Made.{IsMade}
use Rattle.og_flatten.proofs.Tests.{neither, all_by, any_append, front_all}
use Rattle.og_names.proofs.Truths.{both_first as left_of, both_second as right_of, not_true}

-- ---- tests that fail

twice_one : (name : List ℕ) (names : List (List ℕ)) → is_in name names ≡ false → has_twice names ≡ false → has_twice (name ∷ names) ≡ false
twice_one name names new twice = ap (λ b. b || has_twice names) new ∙ twice

fewer : (name : List ℕ) (xs ys : List (List ℕ)) → is_in name (xs ++ ys) ≡ false → is_in name xs ≡ false
fewer name [] ys new = refl
fewer name (x ∷ xs) ys new = let both : (bytes_eq name x ≡ false) × (is_in name (xs ++ ys) ≡ false) = neither _ _ new in ap (λ b. b || is_in name xs) both.0 ∙ fewer name xs ys both.1

once_front : (xs ys : List (List ℕ)) → has_twice (xs ++ ys) ≡ false → has_twice xs ≡ false
once_front [] ys once = refl
once_front (x ∷ xs) ys once = let both : (is_in x (xs ++ ys) ≡ false) × (has_twice (xs ++ ys) ≡ false) = neither _ _ once in twice_one x xs (fewer x xs ys both.0) (once_front xs ys both.1)

-- ---- names of signals

abbrev names_of_functions : List FlatFn → List (List ℕ)
names_of_functions functions = map (λ (f : FlatFn). f.name.bytes) functions

abbrev names_of_events : Model → List Signal → List (List ℕ)
names_of_events model signals = map (λ (e : Word). e.bytes) (map (event_word model) signals)

abbrev ids_of : List Signal → List NameId
ids_of signals = map (λ (s : Signal). s.name) signals

abbrev are_known : Model → List Signal → Bool
are_known model signals = list_all (λ (s : Signal). is_known model s.name) signals

abbrev all_functions : Model → List (List ℕ)
all_functions model = codes "transition" ∷ codes "start" ∷ names_of_functions (signal_functions (control_of model) model 0 model.signals)

-- the name that stands at a number
there : (names : List (List ℕ)) (k : ℕ) → k < length names → slice_get names k ≡ Some (unwrap_or (slice_get names k) [])
there [] k less = absurd (omega (arith, less))
there (name ∷ names) zero less = refl
there (name ∷ names) (suc k) less = there names k (omega (arith, less))

module _ (model : Model) (made : IsMade model) where
  -- two known names with the same bytes are one
  one_number : (a b : NameId) → is_known model a ≡ true → is_known model b ≡ true → name_of model a ≡ name_of model b → a.0 ≡ b.0
  one_number a b known other same =
      let at : place_of model.names (name_of model a) ≡ Some a.0 = made.table.own a.0 (name_of model a) (there model.names a.0 (ltb-true a.0 (length model.names) known)) in
      let on : place_of model.names (name_of model b) ≡ Some b.0 = made.table.own b.0 (name_of model b) (there model.names b.0 (ltb-true b.0 (length model.names) other)) in
      ap (λ (o : Option ℕ). unwrap_or o 0) (sym at ∙ ap (place_of model.names) same ∙ on)

  other_bytes : (a b : NameId) → is_known model a ≡ true → is_known model b ≡ true → same_name a b ≡ false → bytes_eq (name_of model a) (name_of model b) ≡ false
  other_bytes a b known other differ = go (bytes_eq (name_of model a) (name_of model b)) refl
    where
      go : (r : Bool) → bytes_eq (name_of model a) (name_of model b) ≡ r → r ≡ false
      go true is =
          let same : same_name a b ≡ true = eq-eqb a.0 b.0 (one_number a b known other ((bytes_decides (name_of model a) (name_of model b)).0 is)) in
          sym same ∙ differ
      go false is = refl

  -- names of signals that differ are spelt differently
  spelt_differently : (s : Signal) → is_known model s.name ≡ true → (signals : List Signal) → are_known model signals ≡ true → list_any (same_name s.name) (ids_of signals) ≡ false
      → AllByRecursion (λ (t : Signal). name_of model s.name ≡ name_of model t.name → ⊥) signals
  spelt_differently s known [] all new = tt
  spelt_differently s known (t ∷ signals) all new =
      let apart : (same_name s.name t.name ≡ false) × (list_any (same_name s.name) (ids_of signals) ≡ false) = neither _ _ new in (
        λ e. false≢true (sym apart.0 ∙ eq-eqb s.name.0 t.name.0 (one_number s.name t.name known (left_of _ _ all) e)),
        spelt_differently s known signals (right_of _ _ all) apart.1,
      )

  names_differ : (signals : List Signal) → are_known model signals ≡ true → all_differ same_name (ids_of signals) ≡ true → (has : Signal → Bool) (prefix : List ℕ) → NamesDiffer model has prefix signals
  names_differ [] all differ has prefix = tt
  names_differ (s ∷ signals) all differ has prefix = (
    spelt_differently s (left_of _ _ all) signals (right_of _ _ all) (not_true _ (left_of _ _ differ)),
    names_differ signals (right_of _ _ all) (right_of _ _ differ) has prefix,
  )

  -- ---- no other is the same

  event_new : (s : Signal) → is_known model s.name ≡ true → (signals : List Signal) → are_known model signals ≡ true
      → list_any (same_name s.name) (ids_of signals) ≡ false
      → is_in (codes "o_" ++ name_of model s.name) (names_of_events model signals) ≡ false
  event_new s known [] all new = refl
  event_new s known (t ∷ signals) all new =
      let apart : (same_name s.name t.name ≡ false) × (list_any (same_name s.name) (ids_of signals) ≡ false) = neither _ _ new in
      ap (λ b. b || is_in (codes "o_" ++ name_of model s.name) (names_of_events model signals))
      (other_bytes s.name t.name known (left_of _ _ all) apart.0)
      ∙ event_new s known signals (right_of _ _ all) apart.1

  events_apart : (others : List (List ℕ)) → ((w : List ℕ) → is_in (codes "o_" ++ w) others ≡ false) → has_twice others ≡ false
      → (signals : List Signal) → are_known model signals ≡ true → all_differ same_name (ids_of signals) ≡ true
      → has_twice (names_of_events model signals ++ others) ≡ false
  events_apart others free twice [] all differ = twice
  events_apart others free twice (s ∷ signals) all differ =
      twice_one (codes "o_" ++ name_of model s.name) (names_of_events model signals ++ others)
      (any_append (bytes_eq (codes "o_" ++ name_of model s.name)) (names_of_events model signals) others
      (event_new s (left_of _ _ all) signals (right_of _ _ all) (not_true _ (left_of _ _ differ))) (free (name_of model s.name)))
      (events_apart others free twice signals (right_of _ _ all) (right_of _ _ differ))

  function_if_new : (name : List ℕ) (k : ℕ) (s : Signal) (b : Bool) (functions : List FlatFn) → bytes_eq name (codes "on_" ++ name_of model s.name) ≡ false
      → is_in name (names_of_functions functions) ≡ false → is_in name (names_of_functions (cond b (signal_function (control_of model) model k s ∷ []) [] ++ functions)) ≡ false
  function_if_new name k s true functions this others = ap (λ b. b || is_in name (names_of_functions functions)) this ∙ others
  function_if_new name k s false functions this others = others

  -- a name that no event has
  not_o : (name : List ℕ) → ((w : List ℕ) → bytes_eq name (codes "o_" ++ w) ≡ false) → (signals : List Signal)
      → is_in name (names_of_events model signals) ≡ false
  not_o name free [] = refl
  not_o name free (s ∷ signals) =
      ap (λ b. b || is_in name (names_of_events model signals)) (free (name_of model s.name)) ∙ not_o name free signals

  -- a name that no function of a signal has
  not_on : (name : List ℕ) → ((w : List ℕ) → bytes_eq name (codes "on_" ++ w) ≡ false) → (k : ℕ) (signals : List Signal)
      → is_in name (names_of_functions (signal_functions (control_of model) model k signals)) ≡ false
  not_on name free k [] = refl
  not_on name free k (s ∷ signals) =
      function_if_new name k s s.incoming (signal_functions (control_of model) model (k + 1) signals) (free (name_of model s.name)) (not_on name free (k + 1) signals)

  function_new : (s : Signal) → is_known model s.name ≡ true → (k : ℕ) (signals : List Signal) → are_known model signals ≡ true
      → list_any (same_name s.name) (ids_of signals) ≡ false
      → is_in (codes "on_" ++ name_of model s.name) (names_of_functions (signal_functions (control_of model) model k signals)) ≡ false
  function_new s known k [] all new = refl
  function_new s known k (t ∷ signals) all new =
      let apart : (same_name s.name t.name ≡ false) × (list_any (same_name s.name) (ids_of signals) ≡ false) = neither _ _ new in
      function_if_new (codes "on_" ++ name_of model s.name) k t t.incoming (signal_functions (control_of model) model (k + 1) signals)
      (other_bytes s.name t.name known (left_of _ _ all) apart.0) (function_new s known (k + 1) signals (right_of _ _ all) apart.1)

  function_if_apart : (k : ℕ) (s : Signal) (b : Bool) (functions : List FlatFn) → is_in (codes "on_" ++ name_of model s.name) (names_of_functions functions) ≡ false
      → has_twice (names_of_functions functions) ≡ false → has_twice (names_of_functions (cond b (signal_function (control_of model) model k s ∷ []) [] ++ functions)) ≡ false
  function_if_apart k s true functions new others = twice_one (codes "on_" ++ name_of model s.name) (names_of_functions functions) new others
  function_if_apart k s false functions new others = others

  functions_apart : (k : ℕ) (signals : List Signal) → are_known model signals ≡ true
      → all_differ same_name (ids_of signals) ≡ true → has_twice (names_of_functions (signal_functions (control_of model) model k signals)) ≡ false
  functions_apart k [] all differ = refl
  functions_apart k (s ∷ signals) all differ =
      function_if_apart k s s.incoming (signal_functions (control_of model) model (k + 1) signals)
      (function_new s (left_of _ _ all) (k + 1) signals (right_of _ _ all) (not_true _ (left_of _ _ differ)))
      (functions_apart (k + 1) signals (right_of _ _ all) (right_of _ _ differ))

  -- ---- all names

  known_signals : are_known model model.signals ≡ true
  known_signals =
      all_by (is_declared_signal model) (λ (s : Signal). is_known model s.name) (λ s is. left_of _ _ is) model.signals made.formed.resolved.signals

  different_signals : all_differ same_name (ids_of model.signals) ≡ true
  different_signals =
      ap (all_differ same_name) (sym (append-nil (ids_of model.signals)))
      ∙ sym (ap (λ (ts : List NameId). all_differ same_name (ids_of model.signals ++ ts)) made.basic.no_timers)
      ∙ made.formed.rules.signals_differ

  -- a name of a signal has no two underscores together, so no parameter is an event
  plain_bytes : (id : NameId) → is_plain_name model id ≡ true → has_double_underscore (name_of model id) ≡ false
  plain_bytes id plain = by (slice_get model.names id.0) plain
    where
      by : (o : Option (List ℕ)) → is_plain_text o ≡ true → has_double_underscore (unwrap_or o []) ≡ false
      by None is = refl
      by (Some text) is = not_true (has_double_underscore text) is

  not_event : (s : Signal) (m : ℕ) (t : Signal) → is_plain_name model t.name ≡ true → bytes_eq (parameter (codes "o_" ++ name_of model s.name) m) (codes "o_" ++ name_of model t.name) ≡ false
  not_event s m t plain =
      other_name (parameter (name_of model s.name) m) (name_of model t.name)
      (λ e. false≢true (sym (plain_bytes t.name plain) ∙ sym (ap has_double_underscore e) ∙ parameter_underscores (name_of model s.name) m))

  no_event : (s : Signal) (m : ℕ) (signals : List Signal) → list_all (is_plain_name model) (ids_of signals) ≡ true → is_in (parameter (codes "o_" ++ name_of model s.name) m) (names_of_events model signals) ≡ false
  no_event s m [] plain = refl
  no_event s m (t ∷ signals) plain =
      ap (λ b. b || is_in (parameter (codes "o_" ++ name_of model s.name) m) (names_of_events model signals)) (not_event s m t (left_of _ _ plain))
      ∙ no_event s m signals (right_of _ _ plain)

  plain_signals : list_all (is_plain_name model) (ids_of model.signals) ≡ true
  plain_signals = front_all (is_plain_name model) (ids_of model.signals) model.timers made.formed.rules.plain_signals

  abbrev inputs : List (List ℕ)
  inputs = field_names (input_fields model)

  abbrev outputs : List (List ℕ)
  outputs = field_names (output_fields model)

  -- events and functions, and the outputs' parameters before them
  abbrev events_and_functions : List (List ℕ)
  events_and_functions = names_of_events model model.signals ++ all_functions model

  abbrev behind_inputs : List (List ℕ)
  behind_inputs = outputs ++ events_and_functions

  abbrev behind_control : List (List ℕ)
  behind_control = inputs ++ behind_inputs

  abbrev Other : List ℕ → List ℕ → Type 0
  Other name prefix = (w : List ℕ) → bytes_eq name (prefix ++ w) ≡ false

  -- a name that begins as no parameter, no event and no function of a signal does
  free : (name : List ℕ) → Other name (codes "i_") → Other name (codes "o_") → Other name (codes "on_")
      → bytes_eq name (codes "transition") ≡ false → bytes_eq name (codes "start") ≡ false → is_in name behind_control ≡ false
  free name input event function transition start =
      any_append (bytes_eq name) inputs behind_inputs (not_parameter model (λ (s : Signal). s.incoming) (codes "i_") name input model.signals)
      (any_append (bytes_eq name) outputs events_and_functions (not_parameter model (λ (s : Signal). true) (codes "o_") name event model.signals)
      (any_append (bytes_eq name) (names_of_events model model.signals) (all_functions model)
      (not_o name event model.signals)
      (ap (λ b. b || (bytes_eq name (codes "start") || is_in name (names_of_functions (signal_functions (control_of model) model 0 model.signals)))) transition
      ∙ ap (λ b. b || is_in name (names_of_functions (signal_functions (control_of model) model 0 model.signals))) start ∙ not_on name function 0 model.signals)))

  few : AllByRecursion HasFew model.signals
  few = few_parameters model made.formed.rules.supported_parameters made.formed.rules.few_cells

  events_once : has_twice events_and_functions ≡ false
  events_once =
      let functions : List (List ℕ) = names_of_functions (signal_functions (control_of model) model 0 model.signals) in
      let one : has_twice (codes "start" ∷ functions) ≡ false =
      twice_one (codes "start") functions (not_on (codes "start") (λ w. refl) 0 model.signals) (functions_apart 0 model.signals known_signals different_signals) in
      let two : has_twice (all_functions model) ≡ false =
      twice_one (codes "transition") (codes "start" ∷ functions) (not_on (codes "transition") (λ w. refl) 0 model.signals) one in
      events_apart (all_functions model) (λ w. not_on (codes "o_" ++ w) (λ v. refl) 0 model.signals) two model.signals known_signals different_signals

  outputs_once : has_twice behind_inputs ≡ false
  outputs_once =
      parameters_once model (λ (s : Signal). true) (codes "o_") events_and_functions events_once
      (λ s m.
      any_append (bytes_eq (parameter (codes "o_" ++ name_of model s.name) m)) (names_of_events model model.signals) (all_functions model)
      (no_event s m model.signals plain_signals) (not_on (parameter (codes "o_" ++ name_of model s.name) m) (λ v. refl) 0 model.signals))
      model.signals (names_differ model.signals known_signals different_signals (λ (s : Signal). true) (codes "o_")) few

  inputs_once : has_twice behind_control ≡ false
  inputs_once =
      parameters_once model (λ (s : Signal). s.incoming) (codes "i_") behind_inputs outputs_once
      (λ s m.
      let name : List ℕ = parameter (codes "i_" ++ name_of model s.name) m in
      any_append (bytes_eq name) outputs events_and_functions (not_parameter model (λ (t : Signal). true) (codes "o_") name (λ w. refl) model.signals)
      (any_append (bytes_eq name) (names_of_events model model.signals) (all_functions model) (not_o name (λ w. refl) model.signals) (not_on name (λ v. refl) 0 model.signals)))
      model.signals (names_differ model.signals known_signals different_signals (λ (s : Signal). s.incoming) (codes "i_")) few

  -- the names behind those of the control
  names_behind : (def_names (slots_of (parameter_fields model)) ++ names_of_events model model.signals) ++ all_functions model ≡ behind_control
  names_behind =
      append_assoc (def_names (slots_of (parameter_fields model))) (names_of_events model model.signals) (all_functions model)
      ∙ ap (λ ns. ns ++ events_and_functions) (names_of_fields (parameter_fields model) ∙ map-append (λ (f : Field). f.name) (input_fields model) (output_fields model))
      ∙ append_assoc inputs outputs events_and_functions

  pub apart : not (has_twice (names_of (plain_code model))) ≡ true
  apart =
      let names = behind_control in
      ap (λ ns. not (has_twice (codes "r" ∷ codes "stopped" ∷ codes "f_kind" ∷ codes "f_file" ∷ codes "f_line" ∷ codes "f_column" ∷ codes "chosen" ∷ ns))) names_behind
      ∙ ap not
      (twice_one (codes "r") (codes "stopped" ∷ codes "f_kind" ∷ codes "f_file" ∷ codes "f_line" ∷ codes "f_column" ∷ codes "chosen" ∷ names)
      (free (codes "r") (λ w. refl) (λ w. refl) (λ w. refl) refl refl)
      (twice_one (codes "stopped") (codes "f_kind" ∷ codes "f_file" ∷ codes "f_line" ∷ codes "f_column" ∷ codes "chosen" ∷ names)
      (free (codes "stopped") (λ w. refl) (λ w. refl) (λ w. refl) refl refl)
      (twice_one (codes "f_kind") (codes "f_file" ∷ codes "f_line" ∷ codes "f_column" ∷ codes "chosen" ∷ names) (free (codes "f_kind") (λ w. refl) (λ w. refl) (λ w. refl) refl refl)
      (twice_one (codes "f_file") (codes "f_line" ∷ codes "f_column" ∷ codes "chosen" ∷ names) (free (codes "f_file") (λ w. refl) (λ w. refl) (λ w. refl) refl refl)
      (twice_one (codes "f_line") (codes "f_column" ∷ codes "chosen" ∷ names) (free (codes "f_line") (λ w. refl) (λ w. refl) (λ w. refl) refl refl)
      (twice_one (codes "f_column") (codes "chosen" ∷ names) (free (codes "f_column") (λ w. refl) (λ w. refl) (λ w. refl) refl refl)
      (twice_one (codes "chosen") names (free (codes "chosen") (λ w. refl) (λ w. refl) (λ w. refl) refl refl) inputs_once)))))))

  -- so no slot has the name of another
  pub slots_apart : has_twice (slot_names (plain_code model)) ≡ false
  slots_apart =
      once_front (slot_names (plain_code model)) (names_of_events model model.signals)
      (once_front (slot_names (plain_code model) ++ names_of_events model model.signals) (all_functions model) (not_true _ apart))
