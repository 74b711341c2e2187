-- The names and the labels of the code are words, and its names are names of C.
use Rattle.std.proofs.Common.{◌≡◌, ℕ, zero, suc, ◌+◌, ◌*◌, ◌<◌, List, [], ◌∷◌, ◌++◌, Bool, true, false, cond, map, length, slice_get, Option, Some, None, refl, arith, length-append, eq-eqb}
use Rattle.std.specs.Prelude.{codes, decimal, unwrap_or, slice_set}
use Rattle.std.specs.List.{list_all}
use Rattle.std.specs.Char.{is_ascii_alphabetic}
use Rattle.std.proofs.lemmas.Bool.{and_from, ltb-true}
use Rattle.std.proofs.lemmas.Bool.Decides.{nat_tests}
use Rattle.std.proofs.lemmas.List.{length-map}
use Rattle.og_names.specs.declared.NameId.{NameId}
use Rattle.og_names.specs.declared.Word.{Word}
use Rattle.og_model.specs.declared.Model.{Model}
use Rattle.og_model.specs.declared.Signal.{Signal}
use Rattle.og_model.specs.declared.Handler.{Handler}
use Rattle.og_model.specs.declared.Trigger.{Trigger}
use Rattle.og_model.specs.declared.Trigger.TheVariants as trigger
use Rattle.og_model.specs.declared.StateDef.{StateDef}
use Rattle.og_model.specs.declared.Body.{Body}
use Rattle.og_model.specs.declared.Step.{Step}
use Rattle.og_model.specs.Resolved as model_names
use Rattle.og_model.specs.Resolved.{is_known, is_name_byte}
use Rattle.og_types.specs.declared.TypeId.{TypeId}
use Rattle.og_ir.specs.declared.FlatFn.{FlatFn}
use Rattle.og_ir.specs.declared.SlotDef.{SlotDef}
use Rattle.og_csubset.specs.Tokens.{is_letter, is_digit, is_word_byte, is_word, is_name}
use Rattle.og_csubset.specs.Interface.{Field, name_of, name_if, signal_id}
use Rattle.og_csubset.specs.Fair.{is_label, is_labelled, names_of}
use Rattle.og_csubset.specs.FlatRun.{flat_function_names}
use Rattle.og_csubset.proofs.Digits.{decimal_digits}
use Rattle.og_flatten.specs.FlatCode.{bodies_of, states_of, steps_of, handler_in, word, no_label, trigger_name, handler_label, with_handlers, with_states, start_words, body_labels, labels_of_body, word_at, labels_of_bodies, entering_labels, end_label, transition_labels, handled_labels, choices_labels, signal_labels, length_of_bodies, transition_function, handled_code, choices_code, transition_code, signal_code, event_word, signal_function, signal_functions, functions_of}
use Rattle.og_flatten.specs.Slots.{slot_of, slots_of, control_of}
use Rattle.og_flatten.proofs.PlainSlots.{def_names, parameter_fields, plain_code}
use Rattle.og_flatten.proofs.Parameters.{typed_fields}
use Rattle.og_flatten.proofs.Made.{IsMade}
use Rattle.og_flatten.proofs.Tests.{all_append, all_always, all_map, all_by}
use Rattle.og_flatten.proofs.Parts.{parts}
use Rattle.og_flatten.proofs.Right.{length-transition_code, length-signal_code}
use Rattle.og_names.proofs.Truths.{both_first as left_of, both_second as right_of}

-- ---- names of a model

letter_is : (b : ℕ) → is_ascii_alphabetic b ≡ true → is_letter b ≡ true
letter_is b is = is

byte_is : (b : ℕ) → is_name_byte b ≡ true → is_word_byte b ≡ true
byte_is b is = grind (arith, nat_tests)

letter_byte : (b : ℕ) → is_ascii_alphabetic b ≡ true → is_word_byte b ≡ true
letter_byte b is = grind (arith, nat_tests)

bytes_of_name : (name : List ℕ) → model_names.is_name name ≡ true → list_all is_word_byte name ≡ true
bytes_of_name [] is = cc
bytes_of_name (b ∷ bs) is =
    and_from _ _ (letter_byte b (left_of _ _ is)) (all_by is_name_byte is_word_byte byte_is bs (right_of _ _ is))

word_of_name : (name : List ℕ) → model_names.is_name name ≡ true → is_word name ≡ true
word_of_name [] is = cc
word_of_name (b ∷ bs) is = and_from _ _ (letter_is b (left_of _ _ is)) (all_by is_name_byte is_word_byte byte_is bs (right_of _ _ is))

bytes_at : (names : List (List ℕ)) → list_all model_names.is_name names ≡ true → (k : ℕ) → list_all is_word_byte (unwrap_or (slice_get names k) []) ≡ true
bytes_at [] all k = refl
bytes_at (name ∷ names) all zero = bytes_of_name name (left_of _ _ all)
bytes_at (name ∷ names) all (suc k) = bytes_at names (right_of _ _ all) k

word_in : (names : List (List ℕ)) → list_all model_names.is_name names ≡ true → (k : ℕ) → k < length names → is_word (unwrap_or (slice_get names k) []) ≡ true
word_in [] all k less = absurd (omega (arith, less))
word_in (name ∷ names) all zero less = word_of_name name (left_of _ _ all)
word_in (name ∷ names) all (suc k) less = word_in names (right_of _ _ all) k (omega (arith, less))

-- a word with more bytes behind it
word_more : (w more : List ℕ) → is_word w ≡ true → list_all is_word_byte more ≡ true → is_word (w ++ more) ≡ true
word_more [] more is all = cc
word_more (b ∷ bs) more is all = and_from _ _ (left_of _ _ is) (all_append is_word_byte bs more (right_of _ _ is) all)

label_of_word : (w : List ℕ) → is_word w ≡ true → is_label w ≡ true
label_of_word [] is = cc
label_of_word (b ∷ bs) is = is

-- ---- the names of the code

name_bytes : (model : Model) → IsMade model → (id : NameId) → list_all is_word_byte (name_of model id) ≡ true
name_bytes model made id = bytes_at model.names made.formed.resolved.names id.0

event_named : (model : Model) → IsMade model → (id : NameId) → is_name (codes "o_" ++ name_of model id) ≡ true
event_named model made id = and_from _ _ (name_bytes model made id) refl

function_named : (model : Model) → IsMade model → (id : NameId) → is_name (codes "on_" ++ name_of model id) ≡ true
function_named model made id = and_from _ _ (name_bytes model made id) refl

abbrev are_named : List FlatFn → Bool
are_named functions = list_all (λ (f : FlatFn). is_name f.name.bytes) functions

if_named : (model : Model) → IsMade model → (k : ℕ) (s : Signal) (b : Bool) (functions : List FlatFn) → are_named functions ≡ true
    → are_named (cond b (signal_function (control_of model) model k s ∷ []) [] ++ functions) ≡ true
if_named model made k s true functions others = and_from _ _ (function_named model made s.name) others
if_named model made k s false functions others = others

functions_named : (model : Model) → IsMade model → (k : ℕ) (signals : List Signal) → are_named (signal_functions (control_of model) model k signals) ≡ true
functions_named model made k [] = refl
functions_named model made k (s ∷ signals) =
    if_named model made k s s.incoming (signal_functions (control_of model) model (k + 1) signals) (functions_named model made (k + 1) signals)

-- the names of parameters
digit_byte : (b : ℕ) → is_digit b ≡ true → is_word_byte b ≡ true
digit_byte b is = grind (arith, nat_tests)

parameter_bytes : (model : Model) → IsMade model → (id : NameId) (m : ℕ) → list_all is_word_byte (name_of model id ++ codes "__" ++ decimal m) ≡ true
parameter_bytes model made id m =
    all_append is_word_byte (name_of model id ++ codes "__") (decimal m) (all_append is_word_byte (name_of model id) (codes "__") (name_bytes model made id) refl)
    (all_by is_digit is_word_byte digit_byte (decimal m) (decimal_digits m))

no_test : (sorts : List TypeId) → list_all (λ (t : TypeId). true) sorts ≡ true
no_test sorts = all_always (λ (t : TypeId). true) (λ t. refl) sorts

parameters_named : (model : Model) → IsMade model → list_all is_name (def_names (slots_of (parameter_fields model))) ≡ true
parameters_named model made =
    all_map is_name (λ (d : SlotDef). d.name.bytes) (slots_of (parameter_fields model))
    (all_map (λ (d : SlotDef). is_name d.name.bytes) slot_of (parameter_fields model)
    (typed_fields (λ (f : Field). is_name f.name) (λ (t : TypeId). true) model
    (λ s m t is. and_from _ _ (parameter_bytes model made s.name m) refl) (λ s m t is. and_from _ _ (parameter_bytes model made s.name m) refl)
    (all_always (λ (s : Signal). list_all (λ (t : TypeId). true) s.sorts) (λ s. no_test s.sorts) model.signals)))

pub named : (model : Model) → IsMade model → list_all is_name (names_of (plain_code model)) ≡ true
named model made =
    all_append is_name (def_names (slots_of (parameter_fields model)) ++ map (λ (e : Word). e.bytes) (map (event_word model) model.signals)) (flat_function_names (plain_code model))
    (all_append is_name (def_names (slots_of (parameter_fields model))) (map (λ (e : Word). e.bytes) (map (event_word model) model.signals))
    (parameters_named model made)
    (all_map is_name (λ (e : Word). e.bytes) (map (event_word model) model.signals)
    (all_map (λ (e : Word). is_name e.bytes) (event_word model) model.signals
    (all_always (λ (s : Signal). is_name (event_word model s).bytes) (λ s. event_named model made s.name) model.signals))))
    (all_map is_name (λ (f : FlatFn). f.name.bytes) (signal_functions (control_of model) model 0 model.signals) (functions_named model made 0 model.signals))

-- ---- labels

abbrev are_known : Model → List StateDef → Bool
are_known model states = list_all (λ (d : StateDef). is_known model d.name) states

abbrev is_labelling : Word → Bool
is_labelling label = is_label label.bytes

abbrev are_labels : List Word → Bool
are_labels labels = list_all is_labelling labels

module _ (model : Model) (made : IsMade model) where
  bytes_if : (o : Option NameId) → list_all is_word_byte (name_if model o) ≡ true
  bytes_if None = refl
  bytes_if (Some id) = name_bytes model made id

  trigger_bytes : (t : Trigger) → list_all is_word_byte (trigger_name model t) ≡ true
  trigger_bytes (trigger.Input k into) = bytes_if (signal_id (slice_get model.signals k))
  trigger_bytes _ = refl

  handler_labels : (d : StateDef) → is_known model d.name ≡ true → (h : Handler) → is_labelling (handler_label model d h) ≡ true
  handler_labels d known h =
      let name : List ℕ = name_of model d.name in
      label_of_word ((name ++ codes "__") ++ trigger_name model h.trigger)
      (word_more (name ++ codes "__") (trigger_name model h.trigger) (word_more name (codes "__") (word_in model.names made.formed.resolved.names d.name.0 (ltb-true d.name.0 (length model.names) known)) refl)
      (trigger_bytes h.trigger))

  set_labels : (labels : List Word) (k : ℕ) (label : Word) → are_labels labels ≡ true → is_labelling label ≡ true → are_labels (slice_set labels k label) ≡ true
  set_labels [] k label all is = refl
  set_labels (l ∷ labels) zero label all is = and_from _ _ is (right_of _ _ all)
  set_labels (l ∷ labels) (suc k) label all is = and_from _ _ (left_of _ _ all) (set_labels labels k label (right_of _ _ all) is)

  with_handlers_labels : (d : StateDef) → is_known model d.name ≡ true → (handlers : List Handler) (labels : List Word) → are_labels labels ≡ true
      → are_labels (with_handlers model d handlers labels) ≡ true
  with_handlers_labels d known [] labels all = all
  with_handlers_labels d known (h ∷ handlers) labels all =
      with_handlers_labels d known handlers (slice_set labels h.body (handler_label model d h)) (set_labels labels h.body (handler_label model d h) all (handler_labels d known h))

  with_states_labels : (states : List StateDef) → are_known model states ≡ true → (labels : List Word) → are_labels labels ≡ true
      → are_labels (with_states model states labels) ≡ true
  with_states_labels [] known labels all = all
  with_states_labels (d ∷ states) known labels all =
      with_states_labels states (right_of _ _ known) (with_handlers model d d.handlers labels) (with_handlers_labels d (left_of _ _ known) d.handlers labels all)

  body_labels_are : are_labels (body_labels model) ≡ true
  body_labels_are =
      with_states_labels (states_of model) (parts model made).named (start_words (bodies_of model))
      (all_map is_labelling (λ (b : Body). word (codes "start")) (bodies_of model) (all_always (λ (b : Body). is_labelling (word (codes "start"))) (λ b. refl) (bodies_of model)))

  label_at : (words : List Word) → are_labels words ≡ true → (n : ℕ) → is_labelling (word_at words n) ≡ true
  label_at [] all n = refl
  label_at (w ∷ words) all zero = left_of _ _ all
  label_at (w ∷ words) all (suc n) = label_at words (right_of _ _ all) n

  labels_are : (words : List Word) → are_labels words ≡ true → (n : ℕ) (bodies : List Body) → are_labels (labels_of_bodies words n bodies) ≡ true
  labels_are words all n [] = refl
  labels_are words all n (b ∷ bodies) =
      all_append is_labelling (labels_of_body (word_at words n) b) (labels_of_bodies words (n + 1) bodies)
      (and_from _ _ (label_at words all n) (all_map is_labelling (λ (s : Step). no_label) (steps_of b) (all_always (λ (s : Step). is_labelling no_label) (λ s. refl) (steps_of b))))
      (labels_are words all (n + 1) bodies)

  entering_are : (states : List StateDef) → are_labels (entering_labels model states) ≡ true
  entering_are [] = refl
  entering_are (d ∷ states) = and_from _ _ (name_bytes model made d.name) (entering_are states)

  handled_are : (d : StateDef) → is_known model d.name ≡ true → (o : Option Handler) → are_labels (handled_labels model d o) ≡ true
  handled_are d known None = refl
  handled_are d known (Some h) = and_from _ _ (handler_labels d known h) refl

  choices_are : (signal : ℕ) (states : List StateDef) → are_known model states ≡ true
      → are_labels (choices_labels model signal states) ≡ true
  choices_are signal [] known = refl
  choices_are signal (d ∷ states) known =
      all_append is_labelling (handled_labels model d (handler_in signal d.handlers)) (choices_labels model signal states)
      (handled_are d (left_of _ _ known) (handler_in signal d.handlers)) (choices_are signal states (right_of _ _ known))

  -- ---- as many as instructions

  length-labels_of_bodies : (words : List Word) (n : ℕ) (bodies : List Body) → length (labels_of_bodies words n bodies) ≡ length_of_bodies bodies
  length-labels_of_bodies words n [] = refl
  length-labels_of_bodies words n (b ∷ bodies) =
      let here = length-map (steps_of b) (λ (s : Step). no_label) in
      let more = length-labels_of_bodies words (n + 1) bodies in
      let both = length-append (labels_of_body (word_at words n) b) (labels_of_bodies words (n + 1) bodies) in
      omega (arith, here, more, both)

  length-entering_labels : (states : List StateDef) → length (entering_labels model states) ≡ 2 * length states
  length-entering_labels [] = refl
  length-entering_labels (d ∷ states) = let more = length-entering_labels states in omega (arith, more)

  length-transition_labels : length (transition_labels model) ≡ length (transition_code (control_of model) model)
  length-transition_labels =
      let bodies : List Word = labels_of_bodies (body_labels model) 0 (bodies_of model) in
      let entering : List Word = entering_labels model (states_of model) in
      let both = length-append bodies (entering ++ end_label) in
      let last = length-append entering end_label in
      let one = length-labels_of_bodies (body_labels model) 0 (bodies_of model) in
      let two = length-entering_labels (states_of model) in
      let code = length-transition_code model in
      omega (arith, both, last, one, two, code)

  length-handled_labels : (d : StateDef) (o : Option Handler) → length (handled_labels model d o) ≡ length (handled_code (control_of model) o)
  length-handled_labels d None = refl
  length-handled_labels d (Some h) = refl

  length-choices_labels : (signal : ℕ) (states : List StateDef) → length (choices_labels model signal states) ≡ length (choices_code (control_of model) signal states)
  length-choices_labels signal [] = refl
  length-choices_labels signal (d ∷ states) =
      let o : Option Handler = handler_in signal d.handlers in
      let here = length-handled_labels d o in
      let more = length-choices_labels signal states in
      let labels = length-append (handled_labels model d o) (choices_labels model signal states) in
      let code = length-append (handled_code (control_of model) o) (choices_code (control_of model) signal states) in
      omega (arith, here, more, labels, code)

  length-signal_labels : (signal : ℕ) → length (signal_labels model signal) ≡ length (signal_code (control_of model) model signal)
  length-signal_labels signal =
      let labels = length-append (choices_labels model signal (states_of model)) end_label in
      let same = length-choices_labels signal (states_of model) in
      let code = length-signal_code model signal in
      omega (arith, labels, same, code)

  transition_labelled : is_labelled (transition_function (control_of model) model) ≡ true
  transition_labelled =
      and_from _ _ (eq-eqb (length (transition_labels model)) (length (transition_code (control_of model) model)) length-transition_labels)
      (all_append is_labelling (labels_of_bodies (body_labels model) 0 (bodies_of model)) (entering_labels model (states_of model) ++ end_label)
      (labels_are (body_labels model) body_labels_are 0 (bodies_of model))
      (all_append is_labelling (entering_labels model (states_of model)) end_label (entering_are (states_of model)) refl))

  signal_labelled : (k : ℕ) (s : Signal) → is_labelled (signal_function (control_of model) model k s) ≡ true
  signal_labelled k s =
      and_from _ _ (eq-eqb (length (signal_labels model k)) (length (signal_code (control_of model) model k)) (length-signal_labels k))
      (all_append is_labelling (choices_labels model k (states_of model)) end_label (choices_are k (states_of model) (parts model made).named) refl)

  if_labelled : (k : ℕ) (s : Signal) (b : Bool) (functions : List FlatFn) → list_all is_labelled functions ≡ true
      → list_all is_labelled (cond b (signal_function (control_of model) model k s ∷ []) [] ++ functions) ≡ true
  if_labelled k s true functions others = and_from _ _ (signal_labelled k s) others
  if_labelled k s false functions others = others

  signals_labelled : (k : ℕ) (signals : List Signal) → list_all is_labelled (signal_functions (control_of model) model k signals) ≡ true
  signals_labelled k [] = refl
  signals_labelled k (s ∷ signals) = if_labelled k s s.incoming (signal_functions (control_of model) model (k + 1) signals) (signals_labelled (k + 1) signals)

  pub labelled : list_all is_labelled (functions_of (control_of model) model) ≡ true
  labelled = and_from _ _ transition_labelled (signals_labelled 0 model.signals)
