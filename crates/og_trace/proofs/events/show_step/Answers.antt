use Rattle.std.proofs.Common.{◌≡◌, ◌++◌, Some, ap, ◌∙◌}
use Rattle.og_cstep.specs.Machines.{Run, run_of, advanced, answer_of}
use Rattle.og_trace.specs.Entries.{answer_lines}
use Rattle.og_trace.proofs.Steps.{statement_lines}
use Rattle.og_trace.proofs.events.show_step.Goals as goal

pub returns-clause-events : goal.returns-clause-events
returns-clause-events c =
    let run = run_of c.args.machine.now in
    let last : Some c.advance-answer.result ≡ Some (answer_of run) =
    c.advance-answer.ensures.answered ∙ ap (λ (r : Run). r.last) c.advance-answer.ensures.moved in
    let answer : c.advance-answer.result ≡ answer_of run = cc in
    c.in_ok-show_answer.ensures
    ∙ ap (λ bytes. c.args.out.now.items ++ bytes)
    (ap (λ (r : Run). answer_lines c.args.model.now r c.advance-answer.result) c.advance-answer.ensures.moved
    ∙ ap (answer_lines c.args.model.now (advanced run)) answer
    ∙ statement_lines c.args.model.now run)
