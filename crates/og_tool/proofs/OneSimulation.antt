-- Two simulations that are not cut short show the same, and a run of a program that agrees with a model is not cut short where it
-- has enough statements for units of work with which the model comes to an end.
use Rattle.std.proofs.Common.{◌≡◌, ◌∙◌, ℕ, ◌≤◌, Bool, true, false, List, [], ◌∷◌, ◌++◌, map, Option, Some, None, sym, ap, subst, inl, inr, refl, arith}
use Rattle.std.specs.Prelude.{◌||◌, nat_lt}
use Rattle.std.proofs.lemmas.Bool.{false≢true, ltb-true, ltb-false}
use Rattle.og_base.specs.Store.{Files}
use Rattle.og_types.specs.Table.{is_table}
use Rattle.og_model.specs.declared.Model.{Model}
use Rattle.og_model.specs.Run.{sdl}
use Rattle.og_model.specs.Shown.{Event, Shown, End, Rest, Fault, Stopped, Past, Stuck, Stimulus, is_past, has_past}
use Rattle.og_ir.specs.Cells.{Cells}
use Rattle.og_ir.specs.Steps.{Config, Running, Over, Broken, exec}
use Rattle.og_csubset.specs.declared.CProgram.{CProgram}
use Rattle.og_csubset.specs.Agreement.{AreStimuli, SameBehaviour, enough}
use Rattle.og_csubset.specs.Kinds.{first_globals}
use Rattle.og_csubset.specs.Run.{Machine, goes_on, shown_by, runs, all_stimuli, c_machine, c}
use Rattle.og_trace.specs.declared.Outcome.{Outcome}
use Rattle.og_trace.specs.declared.Outcome.TheVariants as outcome
use Rattle.og_trace.specs.Stims.{BadLine, stims_of, start, given}
use Rattle.og_trace.specs.Traces.{trace_of, outcome_by, outcome_of, at_file_end, line_if_bad, run_outcome, run_text, shown_over_file}
use Rattle.og_tool.specs.declared.status.Status.{Status}
use Rattle.og_tool.specs.declared.status.Status.TheVariants as status
use Rattle.og_tool.specs.Answers.{as_word, IsTrace, IsOutputFor, status_of}
use Rattle.og_words.specs.Words.{Simulate}
use Rattle.og_tool.proofs.OneOutput.{Laws, same_bytes, same_model, never_reported, same_report}
use Rattle.og_tool.proofs.GivenStimuli.{stimuli_are_taken, types_of_tree}

-- a run with more statements shows the same where nothing was cut short
abbrev pub MoreGoOn : Type 0
MoreGoOn = (program : CProgram) (model : Model) (stimuli : List Stimulus) (m n : ℕ) → m ≤ n → has_past (c program model stimuli m) ≡ false
    → c program model stimuli n ≡ c program model stimuli m

-- what the laws of runs say
pub record RunLaws : Type 0 where
  pub shown : (model : Model) (P Q : CProgram) → SameBehaviour model P → SameBehaviour model Q → (stimuli : List Stimulus) → AreStimuli model stimuli
      → (m : ℕ) → has_past (c P model stimuli m) ≡ false → (k : ℕ) × (c Q model stimuli k ≡ c P model stimuli m)
  pub more : MoreGoOn

-- ---- what is cut short is told as such

by_end : (behind : Outcome) (events : List Event) (end : End) (later : List Shown) → (has_past later ≡ true → outcome_of behind later ≡ outcome.Past)
    → has_past (record { events = events; end = end } ∷ goes_on end later []) ≡ true
    → outcome_of behind (record { events = events; end = end } ∷ goes_on end later []) ≡ outcome.Past
by_end behind events (Rest paths variables timers) later h e = h e
by_end behind events (Stopped variables) later h e = h e
by_end behind events (Fault kind place variables timers) later h e = absurd (false≢true e)
by_end behind events Past later h e = refl
by_end behind events (Stuck rule) later h e = absurd (false≢true e)

by_config : (behind : Outcome) (ending : List Cells → End) (later : List Cells → List Shown)
    → ((globals : List Cells) → has_past (later globals) ≡ true → outcome_of behind (later globals) ≡ outcome.Past)
    → (events : List Event) (config : Config)
    → has_past (shown_by ending later events config) ≡ true → outcome_of behind (shown_by ending later events config) ≡ outcome.Past
by_config behind ending later h events (Running globals frame callers) e = refl
by_config behind ending later h events (Broken trouble) e = absurd (false≢true e)
by_config behind ending later h events (Over globals) e = by_end behind events (ending globals) (later globals) (h globals) e

past_told : (machine : Machine) (steps : ℕ) (behind : Outcome) (stimuli : List (Option Stimulus)) (globals : List Cells)
    → has_past (runs machine steps stimuli globals) ≡ true → outcome_of behind (runs machine steps stimuli globals) ≡ outcome.Past
past_told machine steps behind [] globals e = absurd (false≢true e)
past_told machine steps behind (x ∷ stimuli) globals e =
    let ran = exec machine.step steps (machine.begin x globals) in
    by_config behind machine.ending (runs machine steps stimuli) (past_told machine steps behind stimuli) ran.events ran.config e

past_of_run : (behind : Outcome) (P : CProgram) (M : Model) (stimuli : List Stimulus) (steps : ℕ)
    → has_past (c P M stimuli steps) ≡ true → outcome_of behind (c P M stimuli steps) ≡ outcome.Past
unfolding c
past_of_run behind P M stimuli steps e = past_told (c_machine P M) steps behind (all_stimuli stimuli) (first_globals P) e

not_true : (b : Bool) → (b ≡ true → ⊥) → b ≡ false
not_true true h = absurd (h refl)
not_true false h = refl

-- a run that is not told as cut short is not cut short
not_past : (M : Model) (P : CProgram) (text : List ℕ) (steps : ℕ) → (run_outcome M P text steps ≡ outcome.Past → ⊥) → has_past (shown_over_file M P text steps) ≡ false
not_past M P text steps not =
    not_true (has_past (shown_over_file M P text steps)) (λ e. not (past_of_run (at_file_end (stims_of M text).bad) P M (given (stims_of M text).list) steps e))

-- ---- two programs that agree with a model

module _ (laws : RunLaws) (M : Model) (table : is_table M.types ≡ true) (P Q : CProgram) (agrees : SameBehaviour M P) (other : SameBehaviour M Q) where
  same_shown : (stimuli : List Stimulus) → AreStimuli M stimuli → (m : ℕ) → has_past (c P M stimuli m) ≡ false → has_past (c Q M stimuli m) ≡ false
      → c P M stimuli m ≡ c Q M stimuli m
  same_shown stimuli are m p q = by_order (nat_lt m found.0) refl
    where
      found : (k : ℕ) × (c Q M stimuli k ≡ c P M stimuli m)
      found = laws.shown M P Q agrees other stimuli are m p

      by_order : (b : Bool) → nat_lt m found.0 ≡ b → c P M stimuli m ≡ c Q M stimuli m
      by_order true e =
          let less = ltb-true m found.0 e in
          sym found.1 ∙ laws.more Q M stimuli m found.0 (omega (arith, less)) q
      by_order false e =
          sym found.1 ∙ sym (laws.more Q M stimuli found.0 m (ltb-false m found.0 e) (ap has_past found.1 ∙ p))

  same_over_file : (text : List ℕ) (steps : ℕ) → (run_outcome M P text steps ≡ outcome.Past → ⊥) → (run_outcome M Q text steps ≡ outcome.Past → ⊥)
      → shown_over_file M P text steps ≡ shown_over_file M Q text steps
  same_over_file text steps p q =
      same_shown (given (stims_of M text).list) (stimuli_are_taken M table text) steps (not_past M P text steps p) (not_past M Q text steps q)

  same_traces : (files : Files) (names : List (List ℕ)) (stimuli : List ℕ) (steps : ℕ) (one two : Status) (text more : List ℕ)
      → IsTrace (Some files) M P names stimuli steps one text → IsTrace (Some files) M Q names stimuli steps two more
      → (one ≡ status.Past → ⊥) → (two ≡ status.Past → ⊥) → (one ≡ two) × (text ≡ more)
  same_traces files names stimuli steps one two text more x y p q =
      let bytes : y.bytes ≡ x.bytes = same_bytes files stimuli y.bytes x.bytes y.read x.read in
      let ends : two ≡ status_of (run_outcome M Q x.bytes steps) = y.ends ∙ ap (λ bs. status_of (run_outcome M Q bs steps)) bytes in
      let is : more ≡ run_text M Q (map as_word names) stimuli x.bytes steps = y.is ∙ ap (λ bs. run_text M Q (map as_word names) stimuli bs steps) bytes in
      let bad = (stims_of M x.bytes).bad in
      let same = same_over_file x.bytes steps (λ e. p (x.ends ∙ ap status_of e)) (λ e. q (ends ∙ ap status_of e)) in (
        x.ends ∙ ap (λ shown. status_of (outcome_of (at_file_end bad) shown)) same ∙ sym ends,
        x.is
            ∙ ap (λ shown. trace_of M (map as_word names) (start ∷ (stims_of M x.bytes).list) shown ++ line_if_bad (outcome_of (at_file_end bad) shown) stimuli bad) same
            ∙ sym is,
      )

pub one_simulation : Laws → RunLaws → (files : Files) (names : List (List ℕ)) (stimuli : List ℕ) (steps : ℕ) (one two : Status) (text more : List ℕ)
    → IsOutputFor (Some files) (Simulate names stimuli steps) one text → IsOutputFor (Some files) (Simulate names stimuli steps) two more
    → (one ≡ status.Past → ⊥) → (two ≡ status.Past → ⊥) → (one ≡ two) × (text ≡ more)
one_simulation laws more files names stimuli steps one two text other (inl x) (inl y) p q = same_report laws files names text other one two x y
one_simulation laws more files names stimuli steps one two text other (inl x) (inr y) p q = absurd (never_reported laws files names text y.model one y.has_model x)
one_simulation laws more files names stimuli steps one two text other (inr x) (inl y) p q = absurd (never_reported laws files names other x.model two x.has_model y)
one_simulation laws more files names stimuli steps one two text other (inr x) (inr y) p q =
    let models : y.model ≡ x.model = same_model laws files names y.model x.model y.has_model x.has_model in
    let A : Model → Type 0 = λ model. SameBehaviour model y.program in
    let T : Model → Type 0 = λ model. IsTrace (Some files) model y.program names stimuli steps two other in
    let table : is_table x.model.types ≡ true = ap (λ (model : Model). is_table model.types) x.has_model.have.is ∙ types_of_tree x.has_model.have.system in
    same_traces more x.model table x.program y.program x.agrees (subst A models y.agrees) files names stimuli steps one two text other x.traces (subst T models y.traces) p q

-- ---- enough statements

by_kind : (end : End) (later : Outcome) → is_past end ≡ false → (later ≡ outcome.Past → ⊥) → outcome_by end later ≡ outcome.Past → ⊥
by_kind (Rest paths variables timers) later fine not e = not e
by_kind (Stopped variables) later fine not e = not e
by_kind (Fault kind place variables timers) later fine not e = let h : outcome.Faulted ≡ outcome.Past = e in cc
by_kind Past later fine not e = false≢true (sym fine)
by_kind (Stuck rule) later fine not e = let h : outcome.Stuck ≡ outcome.Past = e in cc

first_false : (a b : Bool) → (a || b) ≡ false → a ≡ false
first_false true b e = e
first_false false b e = refl

second_false : (a b : Bool) → (a || b) ≡ false → b ≡ false
second_false true b e = absurd (false≢true (sym e))
second_false false b e = e

none_cut : (behind : Outcome) (list : List Shown) → (behind ≡ outcome.Past → ⊥) → has_past list ≡ false → outcome_of behind list ≡ outcome.Past → ⊥
none_cut behind [] not fine e = not e
none_cut behind (s ∷ list) not fine e =
    by_kind s.end (outcome_of behind list) (first_false (is_past s.end) (has_past list) fine)
    (none_cut behind list not (second_false (is_past s.end) (has_past list) fine)) e

file_end_is_no_cut : (bad : Option BadLine) → at_file_end bad ≡ outcome.Past → ⊥
file_end_is_no_cut None e = let h : outcome.Done ≡ outcome.Past = e in cc
file_end_is_no_cut (Some bad) e = let h : outcome.BadFile ≡ outcome.Past = e in cc

pub enough_is_enough : MoreGoOn → (M : Model) (P : CProgram) → SameBehaviour M P → is_table M.types ≡ true → (text : List ℕ) (n : ℕ) → 1 ≤ n
    → has_past (sdl M (given (stims_of M text).list) n) ≡ false → (steps : ℕ) → enough P n ≤ steps → run_outcome M P text steps ≡ outcome.Past → ⊥
enough_is_enough more M P same table text n some ends steps less e =
    let stimuli = given (stims_of M text).list in
    let shows = same.runs.shows stimuli (stimuli_are_taken M table text) n some ends in
    let whole : has_past (c P M stimuli (enough P n)) ≡ false = ap has_past shows ∙ ends in
    let longer : has_past (c P M stimuli steps) ≡ false = ap has_past (more P M stimuli (enough P n) steps less whole) ∙ whole in
    none_cut (at_file_end (stims_of M text).bad) (shown_over_file M P text steps) (file_end_is_no_cut (stims_of M text).bad) longer e
