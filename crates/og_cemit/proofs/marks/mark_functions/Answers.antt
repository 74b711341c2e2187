use Rattle.std.proofs.Common.{ap, ◌∙◌}
use Rattle.std.specs.List.{flat_map}
use Rattle.og_ir.specs.declared.FlatFn.{FlatFn}
use Rattle.og_cemit.specs.Marks.{all_marked}
use Rattle.og_cemit.specs.Emitted.{shows}
use Rattle.og_cemit.proofs.Joins.{mark_more}
use Rattle.og_cemit.proofs.marks.mark_functions.Goals as goal

pub loop-function-preserved : goal.loop-function-preserved
loop-function-preserved c =
    mark_more (λ (f : FlatFn). flat_map shows f.code) c.args.functions.now c.loop-function.function-index c.function-item.result c.args.marks.now.items
    c.loop-function-test.true c.function-item.is c.loop-function.invariant
    (c.mark_events.ensures ∙ ap (λ code. all_marked (flat_map shows code) c.loop-function.marks.items) c.as_slice.ensures)
