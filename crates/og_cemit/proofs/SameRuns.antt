-- The program shows what the code shows at its pace.
use Rattle.std.proofs.Common.{◌≡◌, ℕ, zero, suc, ◌+◌, ◌<◌, ◌≤◌, pos, List, [], ◌∷◌, ◌++◌, Bool, true, false, cond, ◌&&◌, Option, Some, None, map, length, slice_get, nat_lt, refl, sym, ap, ◌∙◌, arith}
use Rattle.std.specs.Prelude.{⊤}
use Rattle.std.specs.List.{list_all}
use Rattle.std.specs.Str.{bytes_eq}
use Rattle.std.proofs.lemmas.Bool.{false≢true, ltb-true, ltb-false}
use Rattle.std.proofs.lemmas.Option.{none-some}
use Rattle.og_types.specs.declared.Sort.{Sort}
use Rattle.og_types.specs.declared.Value.{Value}
use Rattle.og_model.specs.declared.Model.{Model}
use Rattle.og_model.specs.declared.Signal.{Signal}
use Rattle.og_model.specs.Shown as shown
use Rattle.og_model.specs.Shown.{Event, End, Shown, Stimulus}
use Rattle.og_ir.specs.declared.Ir.{Ir}
use Rattle.og_ir.specs.declared.SlotDef.{SlotDef}
use Rattle.og_ir.specs.declared.SlotSort.{SlotSort}
use Rattle.og_ir.specs.declared.SlotSort.TheVariants as slot_sort
use Rattle.og_ir.specs.declared.FlatFn.{FlatFn}
use Rattle.og_ir.specs.declared.Instr.{Instr}
use Rattle.og_ir.specs.Cells.{◌>>=◌, Cells, Cell}
use Rattle.og_ir.specs.Arithmetic.{in_64_bits}
use Rattle.og_ir.specs.Steps.{Config, Running, Over, Broken, Ran, quiet, joined, and_then, exec}
use Rattle.og_ir.specs.FlatSteps.{flat_step, blank_slot, first_slots}
use Rattle.og_csubset.specs.declared.CGlobal.{CGlobal}
use Rattle.og_csubset.specs.declared.CFunction.{CFunction}
use Rattle.og_csubset.specs.declared.CStmt.{CStmt}
use Rattle.og_csubset.specs.Kinds.{place_in, global_names, function_names, first_globals, total}
use Rattle.og_csubset.specs.Interface.{inputs_of, start_function, signal_function, timer_function}
use Rattle.og_csubset.specs.Reads.{event_of, end_of, inputs_set}
use Rattle.og_csubset.specs.Step.{cstep}
use Rattle.og_csubset.specs.Run.{goes_on, shown_by, shown_of, runs, all_stimuli, entered, begun, c_machine, c}
use Rattle.og_csubset.specs.FlatRun.{slot_names, flat_function_names, flat_event, flat_machine}
use Rattle.og_csubset.specs.Agreement.{is_sent, is_stimulus, are_in, AreStimuli}
use Rattle.og_csubset.specs.Paced.{statements_at, exec_paced, paced_runs, paced, statements_below, paced_size_from}
use Rattle.og_csubset.specs.Fair.{Fair}
use Rattle.og_cemit.specs.Marks.{is_marked}
use Rattle.og_cemit.specs.Emitted.{global_of, function_of, targets, label_before, statement_at, statements_from, body_of, program_of, AreShort}
use Rattle.og_cemit.specs.Structs.{AreFew}
use Rattle.og_cemit.specs.Program.{ShowsAtAPace}
use Rattle.og_cemit.proofs.Parts.{global_names_are, function_names_are}
use Rattle.og_cemit.proofs.Values.{HoldShapes}
use Rattle.og_cemit.proofs.Shapes.{zeroed, blank_zeroed}
use Rattle.og_cemit.proofs.StructCells.{cells_at_load}
use Rattle.og_cemit.proofs.Bodies.{width, width_of, before, before_none, before_next}
use Rattle.og_cemit.proofs.Configurations.{before_in, pace_in, pace_of, begun_config, IsGood, Same}
use Rattle.og_cemit.proofs.SameSteps.{step_last, step_label}
use Rattle.og_cemit.proofs.Inputs.{signal_holds}
use Rattle.og_names.proofs.Truths.{both_first as left_of, both_second as right_of}

names_length : (functions : List FlatFn) → length (map (λ (g : FlatFn). g.name.bytes) functions) ≡ length functions
names_length [] = refl
names_length (g ∷ functions) = ap suc (names_length functions)

-- ---- the pace

pace_positive : (o : Option FlatFn) (place : ℕ) → 1 ≤ pace_in o place
pace_positive None place = omega arith
pace_positive (Some g) place = by_width (is_marked (targets g.code) place) (slice_get g.code place)
  where
    by_width : (b : Bool) (i : Option Instr) → 1 ≤ width_of b i
    by_width b None = omega arith
    by_width false (Some i) = omega arith
    by_width true (Some i) = omega arith

pace_few : (o : Option FlatFn) (place : ℕ) → pace_in o place ≤ 4
pace_few None place = omega arith
pace_few (Some g) place = by_width (is_marked (targets g.code) place) (slice_get g.code place)
  where
    by_width : (b : Bool) (i : Option Instr) → width_of b i ≤ 4
    by_width b None = omega arith
    by_width false (Some i) = omega arith
    by_width true (Some i) = omega arith

statements_positive : (ir : Ir) (config : Config) → 0 < statements_at (pace_of ir) config
statements_positive ir (Running slots frame callers) = let one = pace_positive (slice_get ir.functions frame.function) frame.place in omega (arith, one)
statements_positive ir (Over slots) = omega arith
statements_positive ir (Broken trouble) = omega arith

-- ---- runs

-- a run of statements has come to where one of steps has, with some of the next statements carried out
record Come (ir : Ir) (model : Model) (statements steps : Ran Event) : Type 0 where
  begins : ℕ
  same : statements ≡ record { events = steps.events; config = begun_config ir begins steps.config }
  good : IsGood ir model steps.config

module _ (ir : Ir) (model : Model) (fair : Fair ir model) (short : AreShort ir.functions) (few : AreFew model.types) where
  abbrev step_of : Config → Ran Event
  step_of = flat_step (flat_event model ir) in_64_bits ir

  abbrev cstep_of : Config → Ran Event
  cstep_of = cstep (event_of model (global_names (program_of ir model))) (program_of ir model)

  label_run : (n b : ℕ) (config : Config) → cstep_of (begun_config ir b config) ≡ quiet (begun_config ir (b + 1) config)
      → {steps : Ran Event} → Come ir model (exec cstep_of n (begun_config ir (b + 1) config)) steps
      → Come ir model (exec cstep_of (suc n) (begun_config ir b config)) steps
  label_run n b config e come = record {
    begins = come.begins;
    same = ap (λ ran. and_then ran (exec cstep_of n)) e ∙ come.same;
    good = come.good;
  }

  step_run : (n b : ℕ) (config : Config) → Same ir model (cstep_of (begun_config ir b config)) (step_of config) → {steps : Ran Event}
      → Come ir model (exec cstep_of n (begun_config ir 0 (step_of config).config)) steps
      → Come ir model (exec cstep_of (suc n) (begun_config ir b config)) (joined (step_of config).events steps)
  step_run n b config h come = record {
    begins = come.begins;
    same = ap (λ ran. and_then ran (exec cstep_of n)) h.same ∙ ap (joined (step_of config).events) come.same;
    good = come.good;
  }

  exec_same : (n b : ℕ) (config : Config) → IsGood ir model config → b < statements_at (pace_of ir) config
      → Come ir model (exec cstep_of n (begun_config ir b config)) (exec_paced (pace_of ir) step_of n b config)
  exec_same zero b config good less = record { begins = b; same = refl; good = good }
  exec_same (suc n) b config good less =
      by_test (nat_lt (b + 1) (statements_at (pace_of ir) config)) refl
      (λ early. exec_same n (b + 1) config good early)
      (λ h. exec_same n 0 (step_of config).config h.good (statements_positive ir (step_of config).config))
    where
      by_test : (t : Bool) → nat_lt (b + 1) (statements_at (pace_of ir) config) ≡ t
          → (b + 1 < statements_at (pace_of ir) config → Come ir model (exec cstep_of n (begun_config ir (b + 1) config)) (exec_paced (pace_of ir) step_of n (b + 1) config))
          → (Same ir model (cstep_of (begun_config ir b config)) (step_of config) → Come ir model (exec cstep_of n (begun_config ir 0 (step_of config).config)) (exec_paced (pace_of ir) step_of n 0 (step_of config).config))
          → Come ir model (exec cstep_of (suc n) (begun_config ir b config)) (cond t (exec_paced (pace_of ir) step_of n (b + 1) config) (and_then (step_of config) (exec_paced (pace_of ir) step_of n 0)))
      by_test true e label' last =
          let early = ltb-true (b + 1) (statements_at (pace_of ir) config) e in
          label_run n b config (step_label ir model fair short few config good b early) (label' early)
      by_test false e label' last =
          let late = ltb-false (b + 1) (statements_at (pace_of ir) config) e in
          let h = step_last ir model fair short few config good b (omega (arith, less, late)) in
          step_run n b config h (last h)

  shown_same : (ending : List Cells → End) (more more' : List Cells → List Shown)
      → ((slots : List Cells) → HoldShapes ir model slots → more slots ≡ more' slots) → (b : ℕ) (events : List Event) (config : Config)
      → IsGood ir model config → shown_by ending more events (begun_config ir b config) ≡ shown_by ending more' events config
  shown_same ending more more' same b events (Running slots frame callers) good = refl
  shown_same ending more more' same b events (Over slots) good =
      ap (λ l. record { events = events; end = ending slots } ∷ goes_on (ending slots) l []) (same slots good)
  shown_same ending more more' same b events (Broken trouble) good = refl

  -- ---- how a stimulus begins

  place_within : (name : List ℕ) (names : List (List ℕ)) (k : ℕ) → place_in name names ≡ Some k → k < length names
  place_within name [] k e = absurd (none-some k e)
  place_within name (x ∷ names) k e = by_test (bytes_eq name x) e (place_within name names)
    where
      by_rest : (o : Option ℕ) → place_in name names ≡ o → (o >>= λ j. Some (j + 1)) ≡ Some k
          → ((j : ℕ) → place_in name names ≡ Some j → j < length names) → k < length (x ∷ names)
      by_rest None e' h more = absurd (none-some k h)
      by_rest (Some j) e' h more = let same : j + 1 ≡ k = cc (h) in let less = more j e' in omega (arith, same, less)

      by_test : (b : Bool) → cond b (Some 0) (place_in name names >>= λ j. Some (j + 1)) ≡ Some k
          → ((j : ℕ) → place_in name names ≡ Some j → j < length names) → k < length (x ∷ names)
      by_test true h more = let same : 0 ≡ k = cc (h) in omega (arith, same)
      by_test false h more = by_rest (place_in name names) refl h more

  record Begins (config : Config) : Type 0 where
    same : begun_config ir 0 config ≡ config
    good : IsGood ir model config

  entered_begins : (name : List ℕ) (o : Option ℕ) → place_in name (flat_function_names ir) ≡ o → (slots : List Cells)
      → HoldShapes ir model slots → Begins (entered o slots)
  entered_begins name None e slots hold = record { same = refl; good = tt }
  entered_begins name (Some k) e slots hold = record {
    same = ap (λ n. Running slots (record { function = k; place = n }) []) (start (slice_get ir.functions k));
    good = (hold, less, tt);
  }
    where
      start : (o : Option FlatFn) → before_in o 0 + 0 ≡ 0
      start None = refl
      start (Some h) = let none = before_none (targets h.code) 0 h.code in omega (arith, none)

      less : k < length ir.functions
      less = let long = names_length ir.functions in let inside = place_within name (flat_function_names ir) k e in omega (arith, long, inside)

  abbrev IsSent : Option Stimulus → Type 0
  IsSent None = ⊤
  IsSent (Some stimulus) = is_stimulus model stimulus ≡ true

  sent_holds : (k : ℕ) (vs : List Value) (o : Option Signal) → slice_get model.signals k ≡ o → is_sent model o vs ≡ true
      → (slots : List Cells) → HoldShapes ir model slots → HoldShapes ir model (inputs_set model (slot_names ir) (inputs_of model k) vs slots)
  sent_holds k vs None e h slots hold = absurd (false≢true h)
  sent_holds k vs (Some signal) e h slots hold = signal_holds ir model fair k signal e (left_of signal.incoming (are_in model signal.sorts vs) h) vs slots hold

  stimulus_begins : (stimulus : Option Stimulus) → IsSent stimulus → (slots : List Cells) → HoldShapes ir model slots
      → Begins (begun model (flat_function_names ir) (slot_names ir) stimulus slots)
  stimulus_begins None sent slots hold = entered_begins start_function _ refl slots hold
  stimulus_begins (Some (shown.Signal k vs)) sent slots hold = entered_begins (signal_function model k) _ refl _ (sent_holds k vs (slice_get model.signals k) refl sent slots hold)
  stimulus_begins (Some (shown.Expiry k)) sent slots hold = entered_begins (timer_function model k) _ refl slots hold

  -- ---- all stimuli

  abbrev AllSent : List (Option Stimulus) → Type 0
  AllSent [] = ⊤
  AllSent (stimulus ∷ stimuli) = IsSent stimulus × AllSent stimuli

  runs_same : (n : ℕ) (stimuli : List (Option Stimulus)) → AllSent stimuli → (slots : List Cells) → HoldShapes ir model slots
      → runs (c_machine (program_of ir model) model) n stimuli slots ≡ paced_runs (flat_machine in_64_bits ir model) (pace_of ir) n stimuli slots
  runs_same n [] sent slots hold = refl
  runs_same n (stimulus ∷ stimuli) sent slots hold =
      ap (λ config. shown_of (end_of model (global_names (program_of ir model))) more (exec cstep_of n config)) begin
      ∙ ap (λ names. shown_of (end_of model names) more (exec cstep_of n (begun_config ir 0 config'))) (global_names_are ir model)
      ∙ ap (shown_of (end_of model (slot_names ir)) more) come.same
      ∙ shown_same (end_of model (slot_names ir)) more more' (λ slots' hold'. runs_same n stimuli sent.1 slots' hold') come.begins steps.events steps.config come.good
    where
      more : List Cells → List Shown
      more = runs (c_machine (program_of ir model) model) n stimuli

      more' : List Cells → List Shown
      more' = paced_runs (flat_machine in_64_bits ir model) (pace_of ir) n stimuli

      config' : Config
      config' = begun model (flat_function_names ir) (slot_names ir) stimulus slots

      start : Begins config'
      start = stimulus_begins stimulus sent.0 slots hold

      begin : begun model (function_names (program_of ir model)) (global_names (program_of ir model)) stimulus slots ≡ begun_config ir 0 config'
      begin =
          ap (λ names. begun model names (global_names (program_of ir model)) stimulus slots) (function_names_are ir model)
          ∙ ap (λ names. begun model (flat_function_names ir) names stimulus slots) (global_names_are ir model)
          ∙ sym start.same

      steps : Ran Event
      steps = exec_paced (pace_of ir) step_of n 0 config'

      come : Come ir model (exec cstep_of n (begun_config ir 0 config')) steps
      come = exec_same n 0 config' start.good (statements_positive ir config')

-- ---- the cells at load

first_same : (ir : Ir) (model : Model) → Fair ir model → AreFew model.types → first_globals (program_of ir model) ≡ first_slots model.types ir
first_same ir model fair few = cells_at_load ir model fair few

blank_slots : (sorts : List Sort) (slots : List SlotDef) → map zeroed (map (λ (x : SlotDef). blank_slot sorts x.sort) slots) ≡ map (λ (x : SlotDef). blank_slot sorts x.sort) slots
blank_slots sorts [] = refl
blank_slots sorts (x ∷ slots) = ap (λ y. y ∷ map zeroed (map (λ (z : SlotDef). blank_slot sorts z.sort) slots)) (one x.sort) ∙ ap (λ l. blank_slot sorts x.sort ∷ l) (blank_slots sorts slots)
  where
    one : (s : SlotSort) → zeroed (blank_slot sorts s) ≡ blank_slot sorts s
    one slot_sort.Cell = refl
    one (slot_sort.Shaped t) = blank_zeroed sorts t

-- ---- the sizes

body_length : (ir : Ir) (model : Model) (g : FlatFn) (marks : List Bool) (place : ℕ) (code : List Instr)
    → length (statements_from ir model g marks place code) ≡ before marks place code (length code)
body_length ir model g marks place [] = refl
body_length ir model g marks place (i ∷ code) =
    let rest = body_length ir model g marks (place + 1) code in
    let here = one (is_marked marks place) (statements_from ir model g marks (place + 1) code) in
    omega (arith, rest, here)
  where
    one : (mark : Bool) (others : List CStmt)
        → length ((label_before mark g place ++ statement_at ir model g i ∷ []) ++ others) ≡ width mark + length others
    one false others = omega arith
    one true others = omega arith

past_end : {A : Type 0} (xs : List A) → slice_get xs (length xs) ≡ None
past_end [] = refl
past_end (x ∷ xs) = past_end xs

module _ (ir : Ir) (model : Model) (k : ℕ) (g : FlatFn) (stands : slice_get ir.functions k ≡ Some g) where
  pace_here : (place : ℕ) → pace_of ir k place ≡ width_of (is_marked (targets g.code) place) (slice_get g.code place)
  pace_here place = ap (λ o. pace_in o place) stands

  below_is : (n : ℕ) → statements_below (pace_of ir k) n ≡ before (targets g.code) 0 g.code n
  below_is zero = sym (before_none (targets g.code) 0 g.code)
  below_is (suc n) =
      let here = below_is n in
      let next = before_next (targets g.code) 0 g.code n in
      let pace = pace_here n in
      let same : width_of (is_marked (targets g.code) n) (slice_get g.code n) ≡ width_of (is_marked (targets g.code) (0 + n)) (slice_get g.code n) =
      ap (λ m. width_of (is_marked (targets g.code) m) (slice_get g.code n)) (omega arith) in
      omega (arith, here, next, pace, same)

  function_size : length (body_of ir model g) + 1 ≡ statements_below (pace_of ir k) (length g.code + 1)
  function_size =
      let one : length g.code + 1 ≡ suc (length g.code) = omega arith in
      let whole : statements_below (pace_of ir k) (length g.code + 1) ≡ statements_below (pace_of ir k) (length g.code) + pace_of ir k (length g.code) =
      ap (statements_below (pace_of ir k)) one in
      let ends : pace_of ir k (length g.code) ≡ 1 =
      pace_here (length g.code) ∙ ap (width_of (is_marked (targets g.code) (length g.code))) (past_end g.code) in
      let long = body_length ir model g (targets g.code) 0 g.code in
      let below = below_is (length g.code) in
      omega (arith, whole, ends, long, below)

sizes_from : (ir : Ir) (model : Model) (k : ℕ) (functions : List FlatFn) → ((j : ℕ) → slice_get ir.functions (k + j) ≡ slice_get functions j)
    → total (map (λ (f : CFunction). length f.body + 1) (map (function_of ir model) functions)) ≡ paced_size_from (pace_of ir) k functions
sizes_from ir model k [] same = refl
sizes_from ir model k (g ∷ functions) same =
    let zero_plus : k ≡ k + 0 = omega arith in
    let here = function_size ir model k g (ap (slice_get ir.functions) zero_plus ∙ same 0) in
    let rest = sizes_from ir model (k + 1) functions (λ j. let next : k + 1 + j ≡ k + suc j = omega arith in ap (slice_get ir.functions) next ∙ same (suc j)) in
    omega (arith, here, rest)

-- ---- the whole

runs_alike : (ir : Ir) (model : Model) → Fair ir model → AreShort ir.functions → AreFew model.types → (stimuli : List Stimulus)
    → AreStimuli model stimuli → (n : ℕ) → c (program_of ir model) model stimuli n ≡ paced (pace_of ir) ir model stimuli n
unfolding c paced
runs_alike ir model fair short few stimuli are n =
    ap (runs (c_machine (program_of ir model) model) n (all_stimuli stimuli)) (first_same ir model fair few)
    ∙ runs_same ir model fair short few n (all_stimuli stimuli) (tt, sent stimuli are) (first_slots model.types ir) (blank_slots model.types ir.slots)
  where
    sent : (list : List Stimulus) → list_all (is_stimulus model) list ≡ true → AllSent ir model fair short few (map Some list)
    sent [] h = tt
    sent (stimulus ∷ list) h = (
      left_of (is_stimulus model stimulus) (list_all (is_stimulus model) list) h,
      sent list (right_of (is_stimulus model stimulus) (list_all (is_stimulus model) list) h),
    )

pub shows_at_a_pace : (ir : Ir) (model : Model) → Fair ir model → AreShort ir.functions → AreFew model.types
    → ShowsAtAPace ir model (program_of ir model)
shows_at_a_pace ir model fair short few = record {
  pace = pace_of ir;
  is_pace = λ k place. pace_positive (slice_get ir.functions k) place;
  few = λ k place. pace_few (slice_get ir.functions k) place;
  sizes = sizes_from ir model 0 ir.functions (λ j. let zero_plus : 0 + j ≡ j = omega arith in ap (slice_get ir.functions) zero_plus);
  shows = runs_alike ir model fair short few;
}
