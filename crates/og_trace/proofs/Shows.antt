-- What a run over stimuli writes, one stimulus after the other.
use Rattle.std.proofs.Common.{◌≡◌, ℕ, ◌+◌, ◌<◌, ◌++◌, List, [], ◌∷◌, Option, Some, None, drop, length, map, get_or, refl, sym, ap, subst, ◌∙◌}
use Rattle.std.specs.Prelude.{unwrap_or}
use Rattle.std.proofs.lemmas.List.{append_assoc, append-nil, at_drop_more}
use Rattle.og_names.specs.declared.Word.{Word}
use Rattle.og_model.specs.declared.Model.{Model}
use Rattle.og_stim.specs.declared.stimuli.Stimulus.{Stimulus}
use Rattle.og_model.specs.Shown as shown
use Rattle.og_model.specs.Shown.{Event, End, Shown}
use Rattle.og_ir.specs.Cells.{Cells}
use Rattle.og_ir.specs.Steps.{Config, Running, Over, Broken, exec}
use Rattle.og_csubset.specs.declared.CProgram.{CProgram}
use Rattle.og_csubset.specs.Kinds.{first_globals}
use Rattle.og_csubset.specs.Run.{goes_on, shown_by, runs, c_machine, c}
use Rattle.og_cstep.specs.Answered.{answer_at_end}
use Rattle.og_cstep.specs.Machines.{Run}
use Rattle.std.specs.List.{flat_map}
use Rattle.og_stim.specs.Trace.{Bytes, stimulus_line, event_line, end_lines}
use Rattle.og_trace.specs.declared.Outcome.{Outcome}
use Rattle.og_trace.specs.Stims.{BadLine, stims_of, start}
use Rattle.og_trace.specs.Traces.{shown_lines, trace_of, outcome_by, outcome_of, shown_over_file, at_file_end, run_text, run_outcome, line_if_bad}
use Rattle.og_trace.specs.Entries.{IsReady, IsReadyAt, end_at, entry_of, lines_for, outcome_for, outcome_told, given_as, ran_for, shown_for}
use Rattle.og_trace.proofs.Lines.{stimuli_given}

-- ---- one stimulus and the further ones

more_goes_on : {A : Type 0} (e : End) (more none : A) → outcome_told (answer_at_end e) ≡ None → goes_on e more none ≡ more
more_goes_on (shown.Rest paths variables timers) more none is = refl
more_goes_on (shown.Fault kind place variables timers) more none is = absurd (cc)
more_goes_on (shown.Stopped variables) more none is = refl
more_goes_on shown.Past more none is = absurd (cc)
more_goes_on (shown.Stuck rule) more none is = absurd (cc)

none_goes_on : {A : Type 0} (e : End) (more none : A) (o : Outcome) → outcome_told (answer_at_end e) ≡ Some o → goes_on e more none ≡ none
none_goes_on (shown.Rest paths variables timers) more none o is = absurd (cc)
none_goes_on (shown.Fault kind place variables timers) more none o is = refl
none_goes_on (shown.Stopped variables) more none o is = absurd (cc)
none_goes_on shown.Past more none o is = refl
none_goes_on (shown.Stuck rule) more none o is = refl

-- the outcome of one entry
by_told : (e : End) (later : Outcome) → outcome_by e later ≡ unwrap_or (outcome_told (answer_at_end e)) later
by_told (shown.Rest paths variables timers) later = refl
by_told (shown.Fault kind place variables timers) later = refl
by_told (shown.Stopped variables) later = refl
by_told shown.Past later = refl
by_told (shown.Stuck rule) later = refl

shown_more : (ending : List Cells → End) (more : List Cells → List Shown) (events : List Event) (globals : List Cells) → outcome_told (answer_at_end (ending globals)) ≡ None
    → shown_by ending more events (Over globals) ≡ record { events = events; end = ending globals } ∷ more globals
shown_more ending more events globals is =
    ap (λ later. record { events = events; end = ending globals } ∷ later) (more_goes_on (ending globals) (more globals) [] is)

shown_last : (ending : List Cells → End) (more : List Cells → List Shown) (events : List Event) (config : Config) (o : Outcome) → outcome_told (answer_at_end (end_at ending config)) ≡ Some o
    → shown_by ending more events config ≡ record { events = events; end = end_at ending config } ∷ []
shown_last ending more events (Running globals frame callers) o is = refl
shown_last ending more events (Over globals) o is =
    ap (λ later. record { events = events; end = ending globals } ∷ later) (none_goes_on (ending globals) (more globals) [] o is)
shown_last ending more events (Broken trouble) o is = refl

nothing_shown : (M : Model) (files : List Word) (xs : List Stimulus) → trace_of M files xs [] ≡ []
nothing_shown M files [] = refl
nothing_shown M files (x ∷ xs) = refl

-- ---- where the next one comes

-- what one stimulus writes
abbrev pub lines_of_one : CProgram → Model → List Word → ℕ → Stimulus → List Cells → Bytes
lines_of_one P M files steps x globals =
    stimulus_line M x ++ shown_lines M files (entry_of (c_machine P M).ending (ran_for P M steps x globals))

-- the line of a stimulus, its events and its end, written one behind the other by a machine whose program and config are these
pub shown_text : (P : CProgram) (M : Model) (files : List Word) (steps : ℕ) (x : Stimulus) (globals : List Cells) (p q : CProgram) (first last : Config)
    (out named shown after : Bytes)
    → p ≡ P → first ≡ (c_machine P M).begin (given_as x) globals → q ≡ p → last ≡ (exec (c_machine p M).step steps first).config
    → named ≡ out ++ stimulus_line M x → shown ≡ named ++ flat_map (event_line M) (exec (c_machine p M).step steps first).events
    → after ≡ shown ++ end_lines M files (end_at (c_machine q M).ending last) → after ≡ out ++ lines_of_one P M files steps x globals
shown_text P M files steps x globals p q first last out named shown after program begun same place one two three =
    let E : CProgram → Config → Bytes = λ r config. end_lines M files (end_at (c_machine r M).ending config) in
    let V : CProgram → Config → Bytes = λ r config. flat_map (event_line M) (exec (c_machine r M).step steps config).events in
    let start_of = (c_machine P M).begin (given_as x) globals in
    let end = (exec (c_machine P M).step steps start_of).config in
    three
    ∙ (λ j. two j ++ E (same j) (place j))
    ∙ (λ j. (one j ++ V (program j) (begun j)) ++ E (program j) (exec (c_machine (program j) M).step steps (begun j)).config)
    ∙ append_assoc (out ++ stimulus_line M x) (V P start_of) (E P end)
    ∙ append_assoc out (stimulus_line M x) (V P start_of ++ E P end)

shown_next : (P : CProgram) (M : Model) (steps : ℕ) (x : Stimulus) (xs : List Stimulus) (globals next : List Cells) (config : Config) → (ran_for P M steps x globals).config ≡ config → config ≡ Over next
    → outcome_told (answer_at_end (end_at (c_machine P M).ending config)) ≡ None
    → shown_for P M steps (x ∷ xs) globals ≡ entry_of (c_machine P M).ending (ran_for P M steps x globals) ∷ shown_for P M steps xs next
shown_next P M steps x xs globals next config at over is =
    let machine = c_machine P M in
    let ran = ran_for P M steps x globals in
    ap (shown_by machine.ending (runs machine steps (map given_as xs)) ran.events) (at ∙ over)
    ∙ shown_more machine.ending (runs machine steps (map given_as xs)) ran.events next (ap (λ k. outcome_told (answer_at_end (end_at machine.ending k))) (sym over) ∙ is)
    ∙ ap (λ k. record { events = ran.events; end = end_at machine.ending k } ∷ runs machine steps (map given_as xs) next) (sym (at ∙ over))

pub lines_next : (P : CProgram) (M : Model) (files : List Word) (steps : ℕ) (x : Stimulus) (xs : List Stimulus) (globals next : List Cells) → (ran_for P M steps x globals).config ≡ Over next
    → outcome_told (answer_at_end (end_at (c_machine P M).ending (ran_for P M steps x globals).config)) ≡ None
    → lines_for P M files steps (x ∷ xs) globals ≡ lines_of_one P M files steps x globals ++ lines_for P M files steps xs next
lines_next P M files steps x xs globals next over is =
    ap (trace_of M files (x ∷ xs)) (shown_next P M steps x xs globals next (ran_for P M steps x globals).config refl over is)

pub outcome_next : (P : CProgram) (M : Model) (steps : ℕ) (x : Stimulus) (xs : List Stimulus) (globals next : List Cells) (behind : Outcome) → (ran_for P M steps x globals).config ≡ Over next
    → outcome_told (answer_at_end (end_at (c_machine P M).ending (ran_for P M steps x globals).config)) ≡ None
    → outcome_for P M steps (x ∷ xs) globals behind ≡ outcome_for P M steps xs next behind
outcome_next P M steps x xs globals next behind over is =
    ap (outcome_of behind) (shown_next P M steps x xs globals next (ran_for P M steps x globals).config refl over is)
    ∙ by_told (end_at (c_machine P M).ending (ran_for P M steps x globals).config) (outcome_for P M steps xs next behind)
    ∙ ap (λ o. unwrap_or o (outcome_for P M steps xs next behind)) is

-- ---- where none comes

shown_end : (P : CProgram) (M : Model) (steps : ℕ) (x : Stimulus) (xs : List Stimulus) (globals : List Cells) (o : Outcome)
    → outcome_told (answer_at_end (end_at (c_machine P M).ending (ran_for P M steps x globals).config)) ≡ Some o
    → shown_for P M steps (x ∷ xs) globals ≡ entry_of (c_machine P M).ending (ran_for P M steps x globals) ∷ []
shown_end P M steps x xs globals o is =
    let machine = c_machine P M in
    shown_last machine.ending (runs machine steps (map given_as xs)) (ran_for P M steps x globals).events (ran_for P M steps x globals).config o is

pub lines_end : (P : CProgram) (M : Model) (files : List Word) (steps : ℕ) (x : Stimulus) (xs : List Stimulus) (globals : List Cells) (o : Outcome)
    → outcome_told (answer_at_end (end_at (c_machine P M).ending (ran_for P M steps x globals).config)) ≡ Some o
    → lines_for P M files steps (x ∷ xs) globals ≡ lines_of_one P M files steps x globals
lines_end P M files steps x xs globals o is =
    ap (trace_of M files (x ∷ xs)) (shown_end P M steps x xs globals o is)
    ∙ ap (λ bytes. lines_of_one P M files steps x globals ++ bytes) (nothing_shown M files xs)
    ∙ append-nil (lines_of_one P M files steps x globals)

pub outcome_end : (P : CProgram) (M : Model) (steps : ℕ) (x : Stimulus) (xs : List Stimulus) (globals : List Cells) (o behind : Outcome)
    → outcome_told (answer_at_end (end_at (c_machine P M).ending (ran_for P M steps x globals).config)) ≡ Some o
    → outcome_for P M steps (x ∷ xs) globals behind ≡ o
outcome_end P M steps x xs globals o behind is =
    ap (outcome_of behind) (shown_end P M steps x xs globals o is)
    ∙ by_told (end_at (c_machine P M).ending (ran_for P M steps x globals).config) behind
    ∙ ap (λ t. unwrap_or t behind) is

-- ---- the stimuli of a file

-- the invariant of the loop: what is still written from here, behind what was written so far, and the outcome from here
pub record Coming (P : CProgram) (M : Model) (files : List Word) (steps : ℕ) (xs : List Stimulus) (i : ℕ) (globals : List Cells) (out : Bytes) (first : List Cells) (initial : Bytes) : Type 0 where
  pub lines : out ++ lines_for P M files steps (drop i xs) globals ≡ initial ++ lines_for P M files steps xs first
  pub outcome : (behind : Outcome) → outcome_for P M steps (drop i xs) globals behind ≡ outcome_for P M steps xs first behind

-- the machine is ready at a config that is over
ready_over : (P : CProgram) (M : Model) (config : Config) (run : Run) → IsReadyAt P M config run → (config ≡ Over run.cells) × IsReady P M run.cells run
ready_over P M (Running globals frame callers) run ready = absurd ready
ready_over P M (Over globals) run ready = (ap Over (sym ready.cells), subst (λ cells. IsReady P M cells run) (sym ready.cells) ready)
ready_over P M (Broken trouble) run ready = absurd ready

-- what a machine has shown for one stimulus, and where it stands
pub record ShownOne (P : CProgram) (M : Model) (files : List Word) (steps : ℕ) (x : Stimulus) (globals : List Cells) (out after : Bytes) (ended : Option Outcome) (run : Run) : Type 0 where
  pub lines : after ≡ out ++ lines_of_one P M files steps x globals
  pub outcome : ended ≡ outcome_told (answer_at_end (end_at (c_machine P M).ending (ran_for P M steps x globals).config))
  pub ready : ended ≡ None → IsReadyAt P M (ran_for P M steps x globals).config run

pub coming_next : (P : CProgram) (M : Model) (files : List Word) (steps : ℕ) (xs : List Stimulus) (i : ℕ) (x : Stimulus) (globals : List Cells) (out after : Bytes) (first : List Cells) (initial : Bytes) (ended : Option Outcome) (run : Run)
    → i < length xs → x ≡ get_or xs i start → ShownOne P M files steps x globals out after ended run → ended ≡ None
    → Coming P M files steps xs i globals out first initial → Coming P M files steps xs (i + 1) run.cells after first initial
coming_next P M files steps xs i x globals out after first initial ended run lt at one none coming =
    let over = (ready_over P M (ran_for P M steps x globals).config run (one.ready none)).0 in
    let is = sym one.outcome ∙ none in
    record {
      lines =
          ap (λ bytes. bytes ++ lines_for P M files steps (drop (i + 1) xs) run.cells) one.lines
          ∙ append_assoc out (lines_of_one P M files steps x globals) (lines_for P M files steps (drop (i + 1) xs) run.cells)
          ∙ ap (λ bytes. out ++ bytes) (sym (lines_next P M files steps x (drop (i + 1) xs) globals run.cells over is))
          ∙ ap (λ y. out ++ lines_for P M files steps (y ∷ drop (i + 1) xs) globals) at
          ∙ ap (λ bytes. out ++ bytes) (sym (at_drop_more (λ ys. lines_for P M files steps ys globals) xs i start lt))
          ∙ coming.lines;
      outcome = λ behind.
          sym (outcome_next P M steps x (drop (i + 1) xs) globals run.cells behind over is)
          ∙ ap (λ y. outcome_for P M steps (y ∷ drop (i + 1) xs) globals behind) at
          ∙ sym (at_drop_more (λ ys. outcome_for P M steps ys globals behind) xs i start lt)
          ∙ coming.outcome behind;
    }

pub coming_again : (P : CProgram) (M : Model) (files : List Word) (steps : ℕ) (x : Stimulus) (globals : List Cells) (out after : Bytes) (ended : Option Outcome) (run : Run)
    → ShownOne P M files steps x globals out after ended run → ended ≡ None → IsReady P M run.cells run
coming_again P M files steps x globals out after ended run one none = (ready_over P M (ran_for P M steps x globals).config run (one.ready none)).1

pub coming_lines : (P : CProgram) (M : Model) (files : List Word) (steps : ℕ) (xs : List Stimulus) (i : ℕ) (x : Stimulus) (globals : List Cells) (out after : Bytes) (first : List Cells) (initial : Bytes) (ended : Option Outcome) (run : Run) (o : Outcome)
    → i < length xs → x ≡ get_or xs i start → ShownOne P M files steps x globals out after ended run → ended ≡ Some o
    → Coming P M files steps xs i globals out first initial → after ≡ initial ++ lines_for P M files steps xs first
coming_lines P M files steps xs i x globals out after first initial ended run o lt at one some coming =
    one.lines
    ∙ ap (λ bytes. out ++ bytes) (sym (lines_end P M files steps x (drop (i + 1) xs) globals o (sym one.outcome ∙ some)))
    ∙ ap (λ y. out ++ lines_for P M files steps (y ∷ drop (i + 1) xs) globals) at
    ∙ ap (λ bytes. out ++ bytes) (sym (at_drop_more (λ ys. lines_for P M files steps ys globals) xs i start lt))
    ∙ coming.lines

pub coming_outcome : (P : CProgram) (M : Model) (files : List Word) (steps : ℕ) (xs : List Stimulus) (i : ℕ) (x : Stimulus) (globals : List Cells) (out after : Bytes) (first : List Cells) (initial : Bytes) (ended : Option Outcome) (run : Run) (o behind : Outcome)
    → i < length xs → x ≡ get_or xs i start → ShownOne P M files steps x globals out after ended run → ended ≡ Some o
    → Coming P M files steps xs i globals out first initial → o ≡ outcome_for P M steps xs first behind
coming_outcome P M files steps xs i x globals out after first initial ended run o behind lt at one some coming =
    sym (outcome_end P M steps x (drop (i + 1) xs) globals o behind (sym one.outcome ∙ some))
    ∙ ap (λ y. outcome_for P M steps (y ∷ drop (i + 1) xs) globals behind) at
    ∙ sym (at_drop_more (λ ys. outcome_for P M steps ys globals behind) xs i start lt)
    ∙ coming.outcome behind

-- ---- the whole file

shown_is : (P : CProgram) (M : Model) (text : Bytes) (steps : ℕ) → shown_for P M steps (start ∷ (stims_of M text).list) (first_globals P) ≡ shown_over_file M P text steps
unfolding c
shown_is P M text steps = ap (λ xs. runs (c_machine P M) steps (None ∷ xs) (first_globals P)) (sym (stimuli_given M text))

pub file_outcome : (P : CProgram) (M : Model) (text : Bytes) (steps : ℕ) (ids : List Stimulus) (globals : List Cells) (bad : Option BadLine)
    → ids ≡ start ∷ (stims_of M text).list → globals ≡ first_globals P → bad ≡ (stims_of M text).bad
    → outcome_for P M steps ids globals (at_file_end bad) ≡ run_outcome M P text steps
file_outcome P M text steps ids globals bad are first is =
    ap (λ xs. outcome_for P M steps xs globals (at_file_end bad)) are
    ∙ ap (λ g. outcome_for P M steps (start ∷ (stims_of M text).list) g (at_file_end bad)) first
    ∙ ap (outcome_of (at_file_end bad)) (shown_is P M text steps)
    ∙ ap (λ b. outcome_of (at_file_end b) (shown_over_file M P text steps)) is

pub file_lines : (P : CProgram) (M : Model) (text : Bytes) (files : List Word) (steps : ℕ) (ids : List Stimulus) (globals : List Cells)
    → ids ≡ start ∷ (stims_of M text).list → globals ≡ first_globals P
    → lines_for P M files steps ids globals ≡ trace_of M files (start ∷ (stims_of M text).list) (shown_over_file M P text steps)
file_lines P M text files steps ids globals are first =
    ap (λ xs. lines_for P M files steps xs globals) are
    ∙ ap (λ g. lines_for P M files steps (start ∷ (stims_of M text).list) g) first
    ∙ ap (trace_of M files (start ∷ (stims_of M text).list)) (shown_is P M text steps)

pub file_text : (P : CProgram) (M : Model) (name text : Bytes) (files : List Word) (steps : ℕ) (ids : List Stimulus) (globals : List Cells) (bad : Option BadLine) (ended : Outcome)
    → ids ≡ start ∷ (stims_of M text).list → globals ≡ first_globals P → bad ≡ (stims_of M text).bad → ended ≡ run_outcome M P text steps
    → lines_for P M files steps ids globals ++ line_if_bad ended name bad ≡ run_text M P files name text steps
file_text P M name text files steps ids globals bad ended are first is told =
    ap (λ bytes. bytes ++ line_if_bad ended name bad) (file_lines P M text files steps ids globals are first)
    ∙ ap (λ b. trace_of M files (start ∷ (stims_of M text).list) (shown_over_file M P text steps) ++ line_if_bad ended name b) is
    ∙ ap (λ o. trace_of M files (start ∷ (stims_of M text).list) (shown_over_file M P text steps) ++ line_if_bad o name (stims_of M text).bad) told
