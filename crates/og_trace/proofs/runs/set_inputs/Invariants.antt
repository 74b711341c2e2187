use Rattle.og_cstep.specs.Machines.{run_of}
use Rattle.og_trace.proofs.Inputs.{Setting}
use Rattle.og_trace.proofs.runs.set_inputs.Given as goal

abbrev pub invariant-loop-place : goal.invariant-loop-place
invariant-loop-place l =
    Setting (run_of l.initial.machine).program l.model l.signal l.values l.place (run_of l.machine) (run_of l.initial.machine).cells
