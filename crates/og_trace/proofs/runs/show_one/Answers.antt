use Rattle.std.proofs.Common.{◌≡◌, None, sym, ap, subst, ◌∙◌}
use Rattle.og_csubset.specs.declared.CProgram.{CProgram}
use Rattle.og_csubset.specs.Run.{c_machine}
use Rattle.og_ir.specs.Steps.{exec}
use Rattle.og_cstep.specs.Answered.{answer_at_end}
use Rattle.og_cstep.specs.Machines.{run_of}
use Rattle.og_trace.specs.Entries.{end_at, outcome_told, ran_for, IsReadyAt, StandsAt}
use Rattle.og_trace.proofs.Inputs.{is_live, ready_at}
use Rattle.og_trace.proofs.Shows.{shown_text}
use Rattle.og_trace.proofs.runs.show_one.Goals as goal

pub show_events-requires-clause-live : goal.show_events-requires-clause-live
show_events-requires-clause-live c =
    is_live (run_of c.args.machine.now).program c.args.scene.now.model.now c.args.stimulus.now (run_of c.args.machine.now).cells
    (run_of c.begin_with.new.machine).config c.in_ok-begin_with.ensures.config

pub returns-clause-text : goal.returns-clause-text
returns-clause-text c =
    shown_text (run_of c.args.machine.now).program c.args.scene.now.model.now c.args.scene.now.files.now c.args.steps c.args.stimulus.now (run_of c.args.machine.now).cells
    (run_of c.begin_with.new.machine).program (run_of c.show_events.new.machine).program (run_of c.begin_with.new.machine).config (run_of c.show_events.new.machine).config
    c.args.out.now.items c.show_stimulus.new.out.items c.show_events.new.out.items c.show_ending.new.out.items
    c.in_ok-begin_with.ensures.program c.in_ok-begin_with.ensures.config c.in_ok-answer.ensures.stands.program c.in_ok-answer.ensures.stands.config
    c.in_ok-show_stimulus.ensures c.in_ok-answer.ensures.events c.in_ok-show_ending.ensures

pub returns-clause-outcome : goal.returns-clause-outcome
returns-clause-outcome c =
    let M = c.args.scene.now.model.now in
    let program = c.in_ok-begin_with.ensures.program in
    let config = c.in_ok-begin_with.ensures.config in
    c.outcome_of_answer.ensures
    ∙ ap outcome_told (c.in_ok-answer.ensures.answer
    ∙ (λ j. answer_at_end (end_at (c_machine (program j) M).ending (exec (c_machine (program j) M).step c.args.steps (config j)).config)))

pub returns-clause-ready : goal.returns-clause-ready
returns-clause-ready c none =
    let M = c.args.scene.now.model.now in
    let before = run_of c.args.machine.now in
    let after = run_of c.show_events.new.machine in
    let program = c.in_ok-begin_with.ensures.program in
    let config = c.in_ok-begin_with.ensures.config in
    let place = (exec (c_machine (run_of c.begin_with.new.machine).program M).step c.args.steps (run_of c.begin_with.new.machine).config).config in
    subst (λ k. IsReadyAt before.program M k after)
    (λ j. (exec (c_machine (program j) M).step c.args.steps (config j)).config)
    (ready_at before.program M place c.in_ok-answer.answer after
    (subst (λ (p : CProgram). StandsAt p M place c.in_ok-answer.answer after) program c.in_ok-answer.ensures.stands)
    (c.in_ok-answer.ensures.answer ∙ ap (λ (p : CProgram). answer_at_end (end_at (c_machine p M).ending place)) program)
    (sym c.outcome_of_answer.ensures ∙ none))
