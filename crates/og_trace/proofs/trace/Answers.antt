use Rattle.std.proofs.Common.{◌++◌, sym, ap, subst, ◌∙◌}
use Rattle.std.specs.Option.{option_map}
use Rattle.og_cstep.specs.Machines.{Run, run_of}
use Rattle.og_trace.specs.Entries.{AreStimuli, lines_for}
use Rattle.og_trace.specs.Listed.{bad_of}
use Rattle.og_trace.specs.Traces.{at_file_end, line_if_bad}
use Rattle.og_trace.proofs.Lines.{are_stimuli}
use Rattle.og_trace.proofs.Shows.{file_outcome, file_text}
use Rattle.og_trace.proofs.trace.Goals as goal

pub show_stimuli-requires-clause-stimuli : goal.show_stimuli-requires-clause-stimuli
show_stimuli-requires-clause-stimuli c =
    subst (AreStimuli c.args.model.now) (sym (c.as_slice.ensures.value ∙ c.in_ok-listed.ensures.stimuli)) (are_stimuli c.args.model.now c.len.ensures.table c.args.stimuli.now)

pub returns-clause-text : goal.returns-clause-text
returns-clause-text c =
    let run = run_of c.args.machine.now in
    let ids = c.as_slice.ensures.value ∙ c.in_ok-listed.ensures.stimuli in
    let first = ap (λ (r : Run). r.cells) c.requires.loaded in
    let told = c.outcome_at-outcome.ensures
    ∙ c.in_ok-ended.ensures.outcome (at_file_end (option_map bad_of c.in_ok-listed.listed.bad))
    ∙ file_outcome run.program c.args.model.now c.args.stimuli.now c.args.steps c.as_slice.result.now run.cells (option_map bad_of c.in_ok-listed.listed.bad) ids first c.in_ok-listed.ensures.bad in
    c.in_ok-show_bad.ensures
    ∙ ap (λ bytes. bytes ++ line_if_bad c.outcome_at-outcome.result c.args.name.now (option_map bad_of c.in_ok-listed.listed.bad))
    (c.in_ok-ended.ensures.text ∙ ap (λ bytes. bytes ++ lines_for run.program c.args.model.now c.args.files.now c.args.steps c.as_slice.result.now run.cells) c.new-text.ensures.items)
    ∙ file_text run.program c.args.model.now c.args.name.now c.args.stimuli.now c.args.files.now c.args.steps c.as_slice.result.now run.cells (option_map bad_of c.in_ok-listed.listed.bad) c.outcome_at-outcome.result
    ids first c.in_ok-listed.ensures.bad told

pub returns-clause-outcome : goal.returns-clause-outcome
returns-clause-outcome c =
    let run = run_of c.args.machine.now in
    let ids = c.as_slice.ensures.value ∙ c.in_ok-listed.ensures.stimuli in
    let first = ap (λ (r : Run). r.cells) c.requires.loaded in
    c.outcome_at-outcome.ensures
    ∙ c.in_ok-ended.ensures.outcome (at_file_end (option_map bad_of c.in_ok-listed.listed.bad))
    ∙ file_outcome run.program c.args.model.now c.args.stimuli.now c.args.steps c.as_slice.result.now run.cells (option_map bad_of c.in_ok-listed.listed.bad) ids first c.in_ok-listed.ensures.bad
