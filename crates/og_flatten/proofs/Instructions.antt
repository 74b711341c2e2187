-- The instructions that stand in the code of a model: what holds of each of their forms holds of the whole code.
use Rattle.std.proofs.Common.{◌≡◌, ℕ, ◌+◌, ◌≤◌, List, [], ◌∷◌, ◌++◌, Bool, true, false, cond, map, Option, Some, None, slice_get, ℤ, pos, refl, arith}
use Rattle.std.specs.Prelude.{nat_le}
use Rattle.std.specs.List.{list_all}
use Rattle.std.proofs.lemmas.Bool.{and_from, le-leb}
use Rattle.og_model.specs.declared.Model.{Model}
use Rattle.og_model.specs.declared.Signal.{Signal}
use Rattle.og_model.specs.declared.Handler.{Handler}
use Rattle.og_model.specs.declared.StateDef.{StateDef}
use Rattle.og_model.specs.declared.Body.{Body}
use Rattle.og_model.specs.declared.Branch.{Branch}
use Rattle.og_model.specs.declared.Block.{Block}
use Rattle.og_model.specs.declared.Step.{Step}
use Rattle.og_model.specs.declared.Action.{Action, Action-F, out-Action}
use Rattle.og_model.specs.declared.Action.TheOpen as action
use Rattle.og_ir.specs.declared.Ir.{Ir}
use Rattle.og_ir.specs.declared.FlatFn.{FlatFn}
use Rattle.og_ir.specs.declared.Instr.{Instr}
use Rattle.og_ir.specs.declared.Instr.TheVariants as instr
use Rattle.og_ir.specs.declared.Case.{Case}
use Rattle.og_ir.specs.WholeSlots.{is_plain_instruction, UsesWholeSlots}
use Rattle.og_csubset.specs.Tokens.{Token, name, keyword, mark, switch_, default_, open_brace, close_brace, open_round, close_round, semicolon, colon, equals}
use Rattle.og_csubset.specs.Nesting.{nesting_from, nesting}
use Rattle.og_csubset.specs.Plain.{plain_constant, each, jump}
use Rattle.og_csubset.specs.FlatText.{no_name, slot_word, case_text, nesting_of_instruction}
use Rattle.og_csubset.specs.Fair.{is_shallow}
use Rattle.og_csubset.proofs.FlatTexts.{in_function, table_shallow, set_shallow}
use Rattle.og_flatten.specs.FlatCode.{bodies_of, states_of, starts_of, steps_of, end_of, handler_in, start_body, read, sets, is_stopped, first_entering, end_place, action_at, step_at, ending_at, body_at, bodies_at, entering_code, transition_code, choice_code, start_code, handled_code, choices_code, signal_code, signal_function, signal_functions, functions_of, code_of}
use Rattle.og_flatten.specs.declared.code.Control.{Control}
use Rattle.og_flatten.specs.Slots.{control_of}
use Rattle.og_flatten.proofs.Computing.{instructions}
use Rattle.og_flatten.proofs.PlainSlots.{plain_code}
use Rattle.og_flatten.proofs.Tests.{all_append, all_always, all_map}

-- a test that each form of an instruction passes
pub record OfEachForm (p : Instr → Bool) : Type 0 where
  pub sets : (base : ℕ) (n : ℤ) → p (sets base n) ≡ true
  pub branch : (control : Control) (place : ℕ) → p (instr.Branch (is_stopped control) place) ≡ true
  pub goto : (place : ℕ) → p (instr.Goto place) ≡ true
  pub table : (base : ℕ) (cases : List Case) (otherwise : ℕ) → p (instr.Table (read base) cases otherwise) ≡ true
  pub call : (function : ℕ) → p (instr.Call function) ≡ true
  pub emit : (event : ℕ) → p (instr.Emit event) ≡ true
  pub back : p instr.Back ≡ true

module _ (p : Instr → Bool) (form : OfEachForm p) where
  of_action : (end : ℕ) (a : Action-F Action Block Branch Step) → p (action_at end a) ≡ true
  of_action end (action.Output k es) = form.emit k
  of_action end _ = form.goto end

  of_body : (entering end : ℕ) (b : Body) → list_all p (body_at entering end b) ≡ true
  of_body entering end b =
      all_append p (map (step_at end) (steps_of b)) (instr.Goto (ending_at entering end (end_of b)) ∷ [])
      (all_map p (step_at end) (steps_of b) (all_always (λ (s : Step). p (step_at end s)) (λ s. of_action end (out-Action s.action)) (steps_of b)))
      (and_from _ _ (form.goto _) refl)

  of_bodies : (entering end : ℕ) (bodies : List Body) → list_all p (bodies_at entering end bodies) ≡ true
  of_bodies entering end [] = refl
  of_bodies entering end (b ∷ bodies) =
      all_append p (body_at entering end b) (bodies_at entering end bodies) (of_body entering end b) (of_bodies entering end bodies)

  of_entering : (k : ℕ) (states : List StateDef) → list_all p (entering_code k states) ≡ true
  of_entering k [] = refl
  of_entering k (d ∷ states) = and_from _ _ (form.sets 0 (pos k)) (and_from _ _ form.back (of_entering (k + 1) states))

  of_choice : (control : Control) (body : ℕ) → list_all p (choice_code control body) ≡ true
  of_choice control body = and_from _ _ (form.sets control.chosen (pos body)) (and_from _ _ (form.call 0) (and_from _ _ form.back refl))

  of_handled : (control : Control) (o : Option Handler) → list_all p (handled_code control o) ≡ true
  of_handled control None = refl
  of_handled control (Some h) = of_choice control h.body

  of_choices : (control : Control) (signal : ℕ) (states : List StateDef) → list_all p (choices_code control signal states) ≡ true
  of_choices control signal [] = refl
  of_choices control signal (d ∷ states) =
      all_append p (handled_code control (handler_in signal d.handlers)) (choices_code control signal states) (of_handled control (handler_in signal d.handlers)) (of_choices control signal states)

  of_back : list_all p (instr.Back ∷ []) ≡ true
  of_back = and_from _ _ form.back refl

  module _ (model : Model) where
    of_transition : list_all p (transition_code (control_of model) model) ≡ true
    of_transition =
        and_from _ _ (form.table (control_of model).chosen _ _)
        (all_append p (bodies_at (first_entering model) (end_place model) (bodies_of model)) (entering_code 0 (states_of model) ++ instr.Back ∷ [])
        (of_bodies (first_entering model) (end_place model) (bodies_of model))
        (all_append p (entering_code 0 (states_of model)) (instr.Back ∷ []) (of_entering 0 (states_of model)) of_back))

    of_start : list_all p (start_code (control_of model) model) ≡ true
    of_start = and_from _ _ (form.sets 0 _) (of_choice (control_of model) (start_body (starts_of model)))

    of_signal : (signal : ℕ) → list_all p (signal_code (control_of model) model signal) ≡ true
    of_signal signal =
        and_from _ _ (form.branch (control_of model) _) (and_from _ _ (form.table 0 _ _)
        (all_append p (choices_code (control_of model) signal (states_of model)) (instr.Back ∷ []) (of_choices (control_of model) signal (states_of model)) of_back))

    of_if : (k : ℕ) (s : Signal) (b : Bool) (functions : List FlatFn) → list_all (λ (f : FlatFn). list_all p f.code) functions ≡ true
        → list_all (λ (f : FlatFn). list_all p f.code) (cond b (signal_function (control_of model) model k s ∷ []) [] ++ functions) ≡ true
    of_if k s true functions others = and_from _ _ (of_signal k) others
    of_if k s false functions others = others

    of_signals : (k : ℕ) (signals : List Signal) → list_all (λ (f : FlatFn). list_all p f.code) (signal_functions (control_of model) model k signals) ≡ true
    of_signals k [] = refl
    of_signals k (s ∷ signals) = of_if k s s.incoming (signal_functions (control_of model) model (k + 1) signals) (of_signals (k + 1) signals)

    pub of_functions : list_all (λ (f : FlatFn). list_all p f.code) (functions_of (control_of model) model) ≡ true
    of_functions = and_from _ _ of_transition (and_from _ _ of_start (of_signals 0 model.signals))

behind_brace : (tokens : List Token) → nesting_from in_function tokens ≤ 256 → nat_le (nesting (mark open_brace ∷ tokens)) 256 ≡ true
behind_brace tokens h = le-leb (nesting (mark open_brace ∷ tokens)) 256 (omega (arith, h))

shallow_forms : (ir : Ir) → OfEachForm (λ i. nat_le (nesting_of_instruction ir i) 256)
unfolding instructions
shallow_forms ir = record {
  sets = λ base n.
      let w = (slot_word (slice_get ir.slots base)).bytes in
      behind_brace (name w ∷ mark equals ∷ plain_constant n (mark semicolon ∷ [])) (set_shallow w n);
  branch = λ control place. refl;
  goto = λ place. refl;
  table = λ base cases otherwise.
      let w = (slot_word (slice_get ir.slots base)).bytes in
      let inner = table_shallow cases in
      behind_brace
      (keyword switch_ ∷ mark open_round ∷ name w ∷ mark close_round ∷ mark open_brace
      ∷ each case_text cases (keyword default_ ∷ mark colon ∷ jump no_name (mark close_brace ∷ [])))
      (omega (arith, inner));
  call = λ function. refl;
  emit = λ event. refl;
  back = refl;
}

pub shallow : (model : Model) → list_all (is_shallow (plain_code model)) (functions_of (control_of model) model) ≡ true
shallow model = of_functions (λ i. nat_le (nesting_of_instruction (plain_code model) i) 256) (shallow_forms (plain_code model)) model

plain_forms : OfEachForm is_plain_instruction
unfolding instructions
plain_forms = record {
  sets = λ base n. refl;
  branch = λ control place. refl;
  goto = λ place. refl;
  table = λ base cases otherwise. refl;
  call = λ function. refl;
  emit = λ event. refl;
  back = refl;
}

-- each slot is read and set whole
pub whole : (model : Model) → UsesWholeSlots (code_of model)
whole model = record { code = of_functions is_plain_instruction plain_forms model }
