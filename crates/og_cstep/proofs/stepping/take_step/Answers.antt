use Rattle.std.proofs.Common.{List, ℤ, ap, sym, ◌∙◌, subst, length}
use Rattle.og_ccells.specs.Vectors.{trees_of}
use Rattle.og_cstatement.specs.Links.{IsStep}
use Rattle.og_cstep.specs.Answered.{Answers}
use Rattle.og_cstep.proofs.Advanced.{shown_run}
use Rattle.og_cstep.proofs.stepping.take_step.Goals as goal

pub returns-in-Some-clause-moved : goal.returns-in-Some-clause-moved
returns-in-Some-clause-moved c = λ last.
    let program = c.args.program.now in
    let model = c.args.model.now in
    let old = trees_of program c.args.cells.now.items in
    let new = trees_of program c.step.new.cells.items in
    let from = c.args.position.now in
    let to = c.step.new.position in
    let now = c.answer_of_event.new.position in
    let id = c.in-Some.event in
    shown_run program model old new from to now last id c.answer_of_event.result
    (subst (λ o. IsStep program model old from new to o) c.in-Some.is c.step.ensures.step)
    (subst (λ (l : List ℤ). Answers program model (trees_of program l) id to now c.answer_of_event.result) c.as_slice-cells-in-Some.ensures.value c.answer_of_event.ensures.answers)
