use Rattle.std.proofs.Common.{◌++◌, List}
use Rattle.og_types.specs.declared.TypeId.{TypeId}
use Rattle.og_names.proofs.Loops.{Left}
use Rattle.og_cstep.specs.Machines.{run_of}
use Rattle.og_trace.specs.Entries.{arguments_from}
use Rattle.og_trace.proofs.events.arguments.Given as goal

abbrev pub invariant-loop-place : goal.invariant-loop-place
invariant-loop-place l =
    Left (λ (ts : List TypeId). l.values ++ arguments_from (run_of l.machine) l.signal l.place ts) l.sorts l.place
    (arguments_from (run_of l.machine) l.signal 0 l.sorts)
