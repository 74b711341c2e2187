use Rattle.og_front.specs.Names.{declared_by}
use Rattle.og_front.proofs.Building.{names_more}
use Rattle.og_front.proofs.build.add_all_declared.Goals as goal

pub loop-signal-preserved : goal.loop-signal-preserved
loop-signal-preserved c =
    names_more declared_by c.loop-signal.names _ c.args.signals.now c.loop-signal.signal-index c.signal-item.result _ c.loop-signal-test.true c.signal-item.is c.in_ok-add_declared.ensures c.loop-signal.invariant
