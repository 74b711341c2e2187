use Rattle.og_cstep.specs.Machines.{run_of}
use Rattle.og_trace.proofs.Inputs.{setting_more, setting_end, is_parameter}
use Rattle.og_trace.proofs.runs.set_inputs.Goals as goal

pub set_input-requires-clause-value : goal.set_input-requires-clause-value
set_input-requires-clause-value c =
    is_parameter (run_of c.args.machine.now).program c.args.model.now c.args.signal c.args.values.now (run_of c.loop-place.machine) c.loop-place.place
    c.index-values-place.result c.loop-place.invariant.ready c.loop-place-test.true c.index-values-place.is c.requires.values

pub loop-place-preserved : goal.loop-place-preserved
loop-place-preserved c =
    setting_more (run_of c.args.machine.now).program c.args.model.now c.args.signal c.args.values.now (run_of c.loop-place.machine)
    (run_of c.set_input.new.self) c.loop-place.place c.index-values-place.result (run_of c.args.machine.now).cells
    c.loop-place-test.true c.index-values-place.is c.requires.values c.set_input.ensures c.loop-place.invariant

pub returns : goal.returns
returns c =
    setting_end (run_of c.args.machine.now).program c.args.model.now c.args.signal c.args.values.now (run_of c.loop-place.machine) c.loop-place.place
    (run_of c.args.machine.now).cells c.loop-place-test.false c.loop-place.invariant
