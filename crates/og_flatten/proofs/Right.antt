-- Whatever the code of a model names is there, and is used as what it is.
use Rattle.std.proofs.Common.{◌≡◌, ℕ, ◌+◌, ◌*◌, ◌^◌, ◌<◌, ◌≤◌, List, [], ◌∷◌, ◌++◌, Bool, true, false, cond, not, ◌&&◌, ◌||◌, map, length, Option, Some, None, ℤ, pos, negsuc, refl, ap, ◌∙◌, arith, length-append}
use Rattle.std.specs.Prelude.{nat_lt}
use Rattle.std.specs.List.{list_all, list_any}
use Rattle.std.proofs.lemmas.Bool.{and_from, lt-ltb, ltb-true}
use Rattle.std.proofs.lemmas.Bool.Decides.{nat_tests}
use Rattle.std.proofs.lemmas.List.{length-map}
use Rattle.og_model.specs.declared.Model.{Model}
use Rattle.og_model.specs.declared.Signal.{Signal}
use Rattle.og_model.specs.Forms.{UsesBasicStatesOnly}
use Rattle.og_model.specs.declared.Handler.{Handler}
use Rattle.og_model.specs.declared.StateDef.{StateDef}
use Rattle.og_model.specs.declared.Start.{Start}
use Rattle.og_model.specs.declared.Body.{Body}
use Rattle.og_model.specs.declared.Branch.{Branch}
use Rattle.og_model.specs.declared.Block.{Block}
use Rattle.og_model.specs.declared.Step.{Step}
use Rattle.og_model.specs.declared.Action.{Action, Action-F, out-Action}
use Rattle.og_model.specs.declared.Action.TheOpen as action
use Rattle.og_model.specs.declared.Ending.{Ending}
use Rattle.og_model.specs.declared.EndKind.{EndKind}
use Rattle.og_model.specs.declared.EndKind.TheVariants as ends
use Rattle.og_model.specs.Resolved.{if_any, is_action, is_step, is_end, is_ending, is_body, in_states}
use Rattle.og_ir.specs.declared.FlatFn.{FlatFn}
use Rattle.og_ir.specs.declared.Instr.{Instr}
use Rattle.og_ir.specs.declared.Instr.TheVariants as instr
use Rattle.og_ir.specs.declared.Case.{Case}
use Rattle.og_ir.specs.declared.Flat.{Flat}
use Rattle.og_ir.specs.Arithmetic.{in_64_bits, is_same}
use Rattle.og_csubset.specs.Fair.{is_one, held_at, is_number, has_equal_cases, is_right, are_right}
use Rattle.og_flatten.specs.FlatCode.{bodies_of, states_of, starts_of, steps_of, end_of, is_input, handler_in, start_body, region, slot, number, read, sets, case, body_length, length_of_bodies, first_entering, end_place, body_cases, action_at, step_at, kind_at, ending_at, body_at, bodies_at, entering_code, transition_code, choice_code, start_code, handled_length, handled_code, choices_code, handled_case, choice_cases, signal_end, signal_code, signal_function, signal_functions, functions_of}
use Rattle.og_flatten.proofs.Computing.{instructions}
use Rattle.og_flatten.specs.declared.code.Control.{Control}
use Rattle.og_flatten.specs.Slots.{control_behind, control_of}
use Rattle.og_flatten.proofs.PlainSlots.{plain_code, by_control}
use Rattle.og_flatten.proofs.Made.{IsMade}
use Rattle.og_flatten.proofs.Tests.{all_append, all_map, all_by, any_append}
use Rattle.og_flatten.proofs.Places.{length_of_handled}
use Rattle.og_flatten.proofs.Parts.{Steps, steps_in, has_bodies, parts}
use Rattle.og_names.proofs.Truths.{both_first as left_of, both_second as right_of}

-- ---- numbers

pub in_32_bits : (n : ℕ) → n < 2 ^ 32 → in_64_bits (pos n) ≡ true
in_32_bits n small = lt-ltb n 9223372036854775808 (omega (arith, small))

module _ (model : Model) where
  pub number_right : (n : ℤ) → in_64_bits n ≡ true → is_number model.types (plain_code model) (number n) ≡ true
  unfolding instructions
  number_right n is = is

  region_right : is_number model.types (plain_code model) (read region) ≡ true
  unfolding instructions
  region_right = refl

  stopped_plain : is_number model.types (plain_code model) (read (control_behind 1).stopped) ≡ true
  unfolding instructions
  stopped_plain = refl

  chosen_plain : is_number model.types (plain_code model) (read (control_behind 1).chosen) ≡ true
  unfolding instructions
  chosen_plain = refl

  module _ (basic : UsesBasicStatesOnly model) where
    stopped_right : is_number model.types (plain_code model) (read (control_of model).stopped) ≡ true
    stopped_right = by_control model basic (λ control. is_number model.types (plain_code model) (read control.stopped) ≡ true) stopped_plain

    chosen_right : is_number model.types (plain_code model) (read (control_of model).chosen) ≡ true
    chosen_right = by_control model basic (λ control. is_number model.types (plain_code model) (read control.chosen) ≡ true) chosen_plain

    -- a number can be put there
    chosen_is_one : is_one (held_at model.types (plain_code model) (slot (control_of model).chosen)) ≡ true
    chosen_is_one = by_control model basic (λ control. is_one (held_at model.types (plain_code model) (slot control.chosen)) ≡ true) refl

-- ---- lengths

pub length-bodies_at : (entering end : ℕ) (bodies : List Body) → length (bodies_at entering end bodies) ≡ length_of_bodies bodies
length-bodies_at entering end [] = refl
length-bodies_at entering end (b ∷ bodies) =
    let here : length (body_at entering end b) ≡ body_length b =
    length-append (map (step_at end) (steps_of b)) (instr.Goto (ending_at entering end (end_of b)) ∷ []) ∙ ap (λ n. n + 1) (length-map (steps_of b) (step_at end)) in
    let more = length-bodies_at entering end bodies in
    let both = length-append (body_at entering end b) (bodies_at entering end bodies) in
    omega (arith, here, more, both)

pub length-entering_code : (k : ℕ) (states : List StateDef) → length (entering_code k states) ≡ 2 * length states
length-entering_code k [] = refl
length-entering_code k (d ∷ states) = let more = length-entering_code (k + 1) states in omega (arith, more)

pub length-transition_code : (model : Model) → length (transition_code (control_of model) model) ≡ end_place model + 1
length-transition_code model =
    let bodies : List Instr = bodies_at (first_entering model) (end_place model) (bodies_of model) in
    let entering : List Instr = entering_code 0 (states_of model) in
    let both = length-append bodies (entering ++ instr.Back ∷ []) in
    let last = length-append entering (instr.Back ∷ []) in
    let one = length-bodies_at (first_entering model) (end_place model) (bodies_of model) in
    let two = length-entering_code 0 (states_of model) in
    omega (arith, both, last, one, two)

pub length-signal_code : (model : Model) (signal : ℕ) → length (signal_code (control_of model) model signal) ≡ signal_end (control_of model) model signal + 1
length-signal_code model signal =
    let last = length-append (choices_code (control_of model) signal (states_of model)) (instr.Back ∷ []) in omega (arith, last)

-- there are no more bodies than instructions for them
pub few_bodies : (bodies : List Body) → length bodies ≤ length_of_bodies bodies
few_bodies [] = omega arith
few_bodies (b ∷ bodies) = let more = few_bodies bodies in omega (arith, more)

-- ---- the cases of tables

abbrev is_case : ℕ → Case → Bool
is_case places c = in_64_bits c.value && nat_lt c.to places

case_right : (places n place : ℕ) → n < 2 ^ 32 → place < places → is_case places (case n place) ≡ true
case_right places n place small below = and_from _ _ (in_32_bits n small) (lt-ltb place places below)

-- a case of a smaller number is none of these
other_case : (n m : ℕ) → n < m → is_same (pos n) (pos m) ≡ false
other_case n m less = grind (arith, nat_tests)

body_cases_right : (places n place : ℕ) (bodies : List Body) → n + length bodies ≤ 2 ^ 32 → place + length_of_bodies bodies ≤ places
    → list_all (is_case places) (body_cases n place bodies) ≡ true
body_cases_right places n place [] small below = refl
body_cases_right places n place (b ∷ bodies) small below =
    and_from _ _ (case_right places n place (omega (arith, small)) (omega (arith, below)))
    (body_cases_right places (n + 1) (place + body_length b) bodies (omega (arith, small)) (omega (arith, below)))

body_case_new : (n m place : ℕ) (bodies : List Body) → n < m → list_any (λ (other : Case). is_same (pos n) other.value) (body_cases m place bodies) ≡ false
body_case_new n m place [] less = refl
body_case_new n m place (b ∷ bodies) less =
    ap (λ x. x || list_any (λ (other : Case). is_same (pos n) other.value) (body_cases (m + 1) (place + body_length b) bodies)) (other_case n m less)
    ∙ body_case_new n (m + 1) (place + body_length b) bodies (omega (arith, less))

body_cases_differ : (n place : ℕ) (bodies : List Body) → has_equal_cases (body_cases n place bodies) ≡ false
body_cases_differ n place [] = refl
body_cases_differ n place (b ∷ bodies) =
    ap (λ x. x || has_equal_cases (body_cases (n + 1) (place + body_length b) bodies)) (body_case_new n (n + 1) (place + body_length b) bodies (omega arith))
    ∙ body_cases_differ (n + 1) (place + body_length b) bodies

handled_right : (places k place : ℕ) (o : Option Handler) → k < 2 ^ 32 → place + handled_length o ≤ places → list_all (is_case places) (handled_case k place o) ≡ true
handled_right places k place None small below = refl
handled_right places k place (Some h) small below = and_from _ _ (case_right places k place small (omega (arith, below))) refl

choice_cases_right : (control : Control) (places signal k place : ℕ) (states : List StateDef) → k + length states ≤ 2 ^ 32 → place + length (choices_code control signal states) ≤ places
    → list_all (is_case places) (choice_cases signal k place states) ≡ true
choice_cases_right control places signal k place [] small below = refl
choice_cases_right control places signal k place (d ∷ states) small below =
    let o : Option Handler = handler_in signal d.handlers in
    let both = length-append (handled_code control o) (choices_code control signal states) in
    let here = length_of_handled control o in
    all_append (is_case places) (handled_case k place o) (choice_cases signal (k + 1) (place + handled_length o) states)
    (handled_right places k place o (omega (arith, small)) (omega (arith, below, both, here)))
    (choice_cases_right control places signal (k + 1) (place + handled_length o) states (omega (arith, small)) (omega (arith, below, both, here)))

handled_new : (n k place : ℕ) (o : Option Handler) → n < k → list_any (λ (other : Case). is_same (pos n) other.value) (handled_case k place o) ≡ false
handled_new n k place None less = refl
handled_new n k place (Some h) less = ap (λ x. x || false) (other_case n k less)

choice_new : (n signal k place : ℕ) (states : List StateDef) → n < k → list_any (λ (other : Case). is_same (pos n) other.value) (choice_cases signal k place states) ≡ false
choice_new n signal k place [] less = refl
choice_new n signal k place (d ∷ states) less =
    let o : Option Handler = handler_in signal d.handlers in
    any_append (λ (other : Case). is_same (pos n) other.value) (handled_case k place o) (choice_cases signal (k + 1) (place + handled_length o) states)
    (handled_new n k place o less) (choice_new n signal (k + 1) (place + handled_length o) states (omega (arith, less)))

-- at most one case, and then those of other numbers
handled_differ : (k place : ℕ) (o : Option Handler) (cases : List Case) → list_any (λ (other : Case). is_same (pos k) other.value) cases ≡ false → has_equal_cases cases ≡ false
    → has_equal_cases (handled_case k place o ++ cases) ≡ false
handled_differ k place None cases new differ = differ
handled_differ k place (Some h) cases new differ = ap (λ x. x || has_equal_cases cases) new ∙ differ

choice_cases_differ : (signal k place : ℕ) (states : List StateDef) → has_equal_cases (choice_cases signal k place states) ≡ false
choice_cases_differ signal k place [] = refl
choice_cases_differ signal k place (d ∷ states) =
    let o : Option Handler = handler_in signal d.handlers in
    handled_differ k place o (choice_cases signal (k + 1) (place + handled_length o) states)
    (choice_new k signal (k + 1) (place + handled_length o) states (omega arith)) (choice_cases_differ signal (k + 1) (place + handled_length o) states)

-- ---- instructions

module _ (model : Model) (earlier places : ℕ) where
  abbrev right : Instr → Bool
  right i = is_right model.types (plain_code model) earlier places i

  sets_region : (n : ℤ) → in_64_bits n ≡ true → right (sets region n) ≡ true
  sets_region n is = number_right model n is

  sets_chosen : UsesBasicStatesOnly model → (n : ℕ) → n < 2 ^ 32 → right (sets (control_of model).chosen (pos n)) ≡ true
  sets_chosen basic n small = and_from _ _ (chosen_is_one model basic) (number_right model (pos n) (in_32_bits n small))

  goes_right : (place : ℕ) → place < places → right (instr.Goto place) ≡ true
  goes_right place below = lt-ltb place places below

  table_right : (e : Flat) (cases : List Case) (otherwise : ℕ) → is_number model.types (plain_code model) e ≡ true → list_all (is_case places) cases ≡ true
      → has_equal_cases cases ≡ false → otherwise < places → right (instr.Table e cases otherwise) ≡ true
  table_right e cases otherwise number all differ below =
      and_from _ _ (and_from _ _ (and_from _ _ number all) (ap not differ)) (lt-ltb otherwise places below)

  action_right : (end : ℕ) → end < places → (states : List StateDef) (inner : Block → Bool) (a : Action-F Action Block Branch Step)
      → is_action model (in_states states) inner a ≡ true → right (action_at end a) ≡ true
  action_right end below states inner (action.Output k es) is =
      ap (nat_lt k) (length-map model.signals _) ∙ left_of _ _ is
  action_right end below states inner _ is = lt-ltb end places below

  step_right : (end : ℕ) → end < places → (states : List StateDef) (inner : Block → Bool) (s : Step)
      → is_step model (in_states states) inner s ≡ true → right (step_at end s) ≡ true
  step_right end below states inner s is = action_right end below states inner (out-Action s.action) (right_of _ _ (right_of _ _ is))

  kind_right : (entering end : ℕ) (states : List StateDef) → entering + 2 * length states ≤ end → end < places → (kind : EndKind)
      → is_end model (in_states states) kind ≡ true → kind_at entering end kind < places
  kind_right entering end states fits below (ends.Next k entry) is =
      let less = ltb-true k (length states) (left_of _ _ is) in omega (arith, less, fits, below)
  kind_right entering end states fits below _ is = below

  ending_right : (entering end : ℕ) (states : List StateDef) → entering + 2 * length states ≤ end → end < places → (o : Option Ending)
      → if_any (is_ending model (in_states states)) o ≡ true → ending_at entering end o < places
  ending_right entering end states fits below None is = below
  ending_right entering end states fits below (Some e) is = kind_right entering end states fits below e.kind (right_of _ _ (right_of _ _ is))

  body_right : (entering end : ℕ) (states : List StateDef) → entering + 2 * length states ≤ end → end < places → (b : Body)
      → is_body model (in_states states) b ≡ true → list_all right (body_at entering end b) ≡ true
  body_right entering end states fits below b is =
      let inside : (inner : Block → Bool) × Steps model inner states b = steps_in model states b is in
      all_append right (map (step_at end) (steps_of b)) (instr.Goto (ending_at entering end (end_of b)) ∷ [])
      (all_map right (step_at end) (steps_of b)
      (all_by (is_step model (in_states states) inside.0) (λ s. right (step_at end s)) (step_right end below states inside.0) (steps_of b) inside.1.steps))
      (and_from _ _ (goes_right _ (ending_right entering end states fits below (end_of b) inside.1.end)) refl)

  bodies_right : (entering end : ℕ) (states : List StateDef) → entering + 2 * length states ≤ end → end < places → (bodies : List Body)
      → list_all (is_body model (in_states states)) bodies ≡ true → list_all right (bodies_at entering end bodies) ≡ true
  bodies_right entering end states fits below [] all = refl
  bodies_right entering end states fits below (b ∷ bodies) all =
      all_append right (body_at entering end b) (bodies_at entering end bodies)
      (body_right entering end states fits below b (left_of _ _ all)) (bodies_right entering end states fits below bodies (right_of _ _ all))

  entering_right : (k : ℕ) (states : List StateDef) → k + length states ≤ 2 ^ 32 → list_all right (entering_code k states) ≡ true
  entering_right k [] small = refl
  entering_right k (d ∷ states) small =
      and_from _ _ (sets_region (pos k) (in_32_bits k (omega (arith, small)))) (and_from _ _ refl (entering_right (k + 1) states (omega (arith, small))))

  choice_right : UsesBasicStatesOnly model → (body : ℕ) → body < 2 ^ 32 → 0 < earlier → list_all right (choice_code (control_of model) body) ≡ true
  choice_right basic body small later = and_from _ _ (sets_chosen basic body small) (and_from _ _ (lt-ltb 0 earlier later) refl)

  module _ (basic : UsesBasicStatesOnly model) (bodies : ℕ) (small : bodies < 2 ^ 32) (later : 0 < earlier) where
    chosen_of : (h : Handler) (o : Option Handler) (b : Bool) → nat_lt h.body bodies ≡ true → list_all right (handled_code (control_of model) o) ≡ true
        → list_all right (handled_code (control_of model) (cond b (Some h) o)) ≡ true
    chosen_of h o true named others = let less = ltb-true h.body bodies named in choice_right basic h.body (omega (arith, less, small)) later
    chosen_of h o false named others = others

    found_right : (signal : ℕ) (handlers : List Handler) → list_all (λ (h : Handler). nat_lt h.body bodies) handlers ≡ true
        → list_all right (handled_code (control_of model) (handler_in signal handlers)) ≡ true
    found_right signal [] all = refl
    found_right signal (h ∷ handlers) all =
        chosen_of h (handler_in signal handlers) (is_input signal h.trigger) (left_of _ _ all) (found_right signal handlers (right_of _ _ all))

    choices_right : (signal : ℕ) (states : List StateDef) → list_all (has_bodies bodies) states ≡ true
        → list_all right (choices_code (control_of model) signal states) ≡ true
    choices_right signal [] all = refl
    choices_right signal (d ∷ states) all =
        all_append right (handled_code (control_of model) (handler_in signal d.handlers)) (choices_code (control_of model) signal states)
        (found_right signal d.handlers (left_of _ _ all)) (choices_right signal states (right_of _ _ all))

-- ---- functions

module _ (model : Model) (made : IsMade model) where
  few : length (bodies_of model) < 2 ^ 32
  few = let fewer = few_bodies (bodies_of model) in let end = made.few in omega (arith, fewer, end)

  transition_right : (earlier : ℕ) → list_all (is_right model.types (plain_code model) earlier (length (transition_code (control_of model) model))) (transition_code (control_of model) model) ≡ true
  transition_right earlier =
      let places : ℕ = length (transition_code (control_of model) model) in
      let long : places ≡ end_place model + 1 = length-transition_code model in
      let end = made.few in
      let bodies = few in
      and_from _ _
      (table_right model earlier places (read (control_of model).chosen) (body_cases 0 1 (bodies_of model)) (end_place model) (chosen_right model made.basic)
      (body_cases_right places 0 1 (bodies_of model) (omega (arith, bodies)) (omega (arith, long))) (body_cases_differ 0 1 (bodies_of model)) (omega (arith, long)))
      (all_append _ (bodies_at (first_entering model) (end_place model) (bodies_of model)) (entering_code 0 (states_of model) ++ instr.Back ∷ [])
      (bodies_right model earlier places (first_entering model) (end_place model) (states_of model) (omega arith) (omega (arith, long)) (bodies_of model) (parts model made).bodies)
      (all_append _ (entering_code 0 (states_of model)) (instr.Back ∷ []) (entering_right model earlier places 0 (states_of model) (omega (arith, end))) refl))

  start_small : (starts : List Start) → list_all (λ (s : Start). nat_lt s.body (length (bodies_of model))) starts ≡ true → start_body starts < 2 ^ 32
  start_small [] all = omega arith
  start_small (s ∷ starts) all = let less = ltb-true s.body (length (bodies_of model)) (left_of _ _ all) in let bodies = few in omega (arith, less, bodies)

  start_right : (earlier places : ℕ) → 0 < earlier → list_all (is_right model.types (plain_code model) earlier places) (start_code (control_of model) model) ≡ true
  start_right earlier places later =
      and_from _ _ (sets_region model earlier places (negsuc 0) refl)
      (choice_right model earlier places made.basic (start_body (starts_of model)) (start_small (starts_of model) (parts model made).starts) later)

  signal_right : (earlier signal : ℕ) → 0 < earlier → list_all (is_right model.types (plain_code model) earlier (length (signal_code (control_of model) model signal))) (signal_code (control_of model) model signal) ≡ true
  signal_right earlier signal later =
      let places : ℕ = length (signal_code (control_of model) model signal) in
      let long : places ≡ signal_end (control_of model) model signal + 1 = length-signal_code model signal in
      let end = made.few in
      and_from _ _ (and_from _ _ (and_from _ _ (stopped_right model made.basic) (number_right model (pos 0) refl)) (lt-ltb (signal_end (control_of model) model signal) places (omega (arith, long))))
      (and_from _ _
      (table_right model earlier places (read region) (choice_cases signal 0 2 (states_of model)) (signal_end (control_of model) model signal) (region_right model)
      (choice_cases_right (control_of model) places signal 0 2 (states_of model) (omega (arith, end)) (omega (arith, long))) (choice_cases_differ signal 0 2 (states_of model)) (omega (arith, long)))
      (all_append _ (choices_code (control_of model) signal (states_of model)) (instr.Back ∷ [])
      (choices_right model earlier places made.basic (length (bodies_of model)) few later signal (states_of model) (parts model made).handlers) refl))

  if_right : (earlier k : ℕ) (s : Signal) (functions : List FlatFn) (b : Bool) → 0 < earlier
      → ((later : ℕ) → 0 < later → are_right model.types (plain_code model) later functions ≡ true)
      → are_right model.types (plain_code model) earlier (cond b (signal_function (control_of model) model k s ∷ []) [] ++ functions) ≡ true
  if_right earlier k s functions true later others = and_from _ _ (signal_right earlier k later) (others (earlier + 1) (omega arith))
  if_right earlier k s functions false later others = others earlier later

  signals_right : (k : ℕ) (signals : List Signal) (earlier : ℕ) → 0 < earlier → are_right model.types (plain_code model) earlier (signal_functions (control_of model) model k signals) ≡ true
  signals_right k [] earlier later = refl
  signals_right k (s ∷ signals) earlier later = if_right earlier k s (signal_functions (control_of model) model (k + 1) signals) s.incoming later (signals_right (k + 1) signals)

  pub functions_right : are_right model.types (plain_code model) 0 (functions_of (control_of model) model) ≡ true
  functions_right =
      and_from _ _ (transition_right 0) (and_from _ _ (start_right 1 (length (start_code (control_of model) model)) (omega arith)) (signals_right 0 model.signals 2 (omega arith)))
