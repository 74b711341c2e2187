use Rattle.og_cstep.specs.Machines.{run_of}
use Rattle.og_trace.proofs.Inputs.{begins_with}
use Rattle.og_trace.proofs.runs.begin_with.Goals as goal

pub returns-clause-config : goal.returns-clause-config
returns-clause-config c =
    begins_with (run_of c.args.machine.now).program c.args.model.now c.args.stimulus.now (run_of c.args.machine.now).cells
    (run_of c.set_values.new.machine) (run_of c.begin.new.self) c.in_ok-set_values.ensures c.begin.ensures
