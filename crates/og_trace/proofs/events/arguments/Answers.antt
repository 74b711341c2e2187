use Rattle.og_cstep.specs.Machines.{run_of}
use Rattle.og_trace.proofs.Inputs.{arguments_more}
use Rattle.og_trace.proofs.events.arguments.Goals as goal

pub loop-place-preserved : goal.loop-place-preserved
loop-place-preserved c =
    arguments_more (run_of c.args.machine.now) c.args.signal c.loop-place.values _ c.args.sorts.now c.loop-place.place _
    c.loop-place-test.true c.in_ok-add_argument.ensures c.loop-place.invariant
