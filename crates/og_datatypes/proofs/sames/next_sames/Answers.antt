use Rattle.og_dataview.specs.View.{next_same}
use Rattle.og_dataview.proofs.Tables.{tabulated_more}
use Rattle.og_datatypes.proofs.sames.next_sames.Goals as goal

pub loop-place-preserved : goal.loop-place-preserved
loop-place-preserved c = tabulated_more (next_same c.args.scope.now.flat) _ _ _ _ c.in_ok-push.ensures.items c.next_same.ensures c.loop-place.invariant
