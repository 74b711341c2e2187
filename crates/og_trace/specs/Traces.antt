-- What a run of a program over a model and a file of stimuli writes, and how it ends: for the start and for each stimulus, as far as
-- the run goes, its line, the lines of its events and those of its end; then the line that is bad, where the run has come to it.
-- A run comes to a line where everything before it has rested or stopped.
use Rattle.std.specs.Prelude.{ℕ, List, [], ◌∷◌, ◌++◌, Option, Some, None, codes, decimal}
use Rattle.std.specs.List.{flat_map}
use Rattle.og_names.specs.declared.Word.{Word}
use Rattle.og_model.specs.declared.Model.{Model}
use Rattle.og_model.specs.Shown.{End, Rest, Fault, Stopped, Past, Stuck, Shown}
use Rattle.og_csubset.specs.declared.CProgram.{CProgram}
use Rattle.og_csubset.specs.Run.{c}
use Rattle.og_stim.specs.declared.stimuli.Stimulus.{Stimulus}
use Rattle.og_stim.specs.declared.stimuli.StimRule.{StimRule}
use Rattle.og_stim.specs.declared.stimuli.StimRule.TheVariants as rule
use Rattle.og_stim.specs.Trace.{Bytes, line, stimulus_line, event_line, end_lines}
use Rattle.og_trace.specs.declared.Outcome.{Outcome}
use Rattle.og_trace.specs.declared.Outcome.TheVariants as outcome
use Rattle.og_trace.specs.Stims.{BadLine, stims_of, start, given}

-- ---- the lines of a run

-- the events of one stimulus, and how it has ended
abbrev pub shown_lines : Model → List Word → Shown → Bytes
shown_lines M files s = flat_map (event_line M) s.events ++ end_lines M files s.end

-- each stimulus that was taken, with what it shows
abbrev pub trace_of : Model → List Word → List Stimulus → List Shown → Bytes
trace_of M files [] shown = []
trace_of M files (x ∷ xs) [] = []
trace_of M files (x ∷ xs) (s ∷ shown) = stimulus_line M x ++ shown_lines M files s ++ trace_of M files xs shown

-- ---- how it ends

-- the first end that is neither rest nor STOP, or else what comes behind all of them
abbrev pub outcome_by : End → Outcome → Outcome
outcome_by (Rest paths variables timers) later = later
outcome_by (Stopped variables) later = later
outcome_by (Fault kind place variables timers) later = outcome.Faulted
outcome_by Past later = outcome.Past
outcome_by (Stuck rule) later = outcome.Stuck

abbrev pub outcome_of : Outcome → List Shown → Outcome
outcome_of behind [] = behind
outcome_of behind (s ∷ shown) = outcome_by s.end (outcome_of behind shown)

-- behind the last stimulus the file ends, or has a bad line
abbrev pub at_file_end : Option BadLine → Outcome
at_file_end None = outcome.Done
at_file_end (Some bad) = outcome.BadFile

abbrev pub rule_text : StimRule → Bytes
rule_text rule.Q1 = codes "Q1"
rule_text rule.Q2 = codes "Q2"
rule_text rule.Q3 = codes "Q3"
rule_text rule.Q4 = codes "Q4"
rule_text rule.Q5 = codes "Q5"
rule_text rule.Q6 = codes "Q6"

-- bad RULE FILE:LINE
abbrev pub bad_line : Bytes → BadLine → Bytes
bad_line name bad = line (codes "bad " ++ rule_text bad.rule ++ codes " " ++ name ++ codes ":" ++ decimal bad.line)

-- the bad line, where the run has come to it
abbrev pub line_if_bad : Outcome → Bytes → Option BadLine → Bytes
line_if_bad outcome.BadFile name (Some bad) = bad_line name bad
line_if_bad outcome.BadFile name None = []
line_if_bad outcome.Done name bad = []
line_if_bad outcome.Past name bad = []
line_if_bad outcome.Faulted name bad = []
line_if_bad outcome.Stuck name bad = []

-- ---- a run over a file

-- what the program shows for the start and the stimuli of the file, with so many statements for each
abbrev pub shown_over_file : Model → CProgram → Bytes → ℕ → List Shown
shown_over_file M P text steps = c P M (given (stims_of M text).list) steps

abbrev pub run_outcome : Model → CProgram → Bytes → ℕ → Outcome
run_outcome M P text steps = outcome_of (at_file_end (stims_of M text).bad) (shown_over_file M P text steps)

-- the model files and the file of stimuli go by their words
abbrev pub run_text : Model → CProgram → List Word → (name text : Bytes) → ℕ → Bytes
run_text M P files name text steps =
    trace_of M files (start ∷ (stims_of M text).list) (shown_over_file M P text steps)
    ++ line_if_bad (run_outcome M P text steps) name (stims_of M text).bad
