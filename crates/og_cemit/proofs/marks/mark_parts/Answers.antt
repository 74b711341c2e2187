use Rattle.og_types.specs.declared.Part.{Part}
use Rattle.og_cemit.proofs.Joins.{mark_one_more}
use Rattle.og_cemit.proofs.marks.mark_parts.Goals as goal

pub loop-part-preserved : goal.loop-part-preserved
loop-part-preserved c =
    mark_one_more (λ (p : Part). p.sort.0) c.args.parts.now c.loop-part.part-index _ c.args.marks.now.items
    c.loop-part-test.true c.loop-part.invariant c.mark.ensures
