use Rattle.std.proofs.Common.{◌≡◌, ◌++◌, List}
use Rattle.og_model.specs.declared.Region.{Region}
use Rattle.og_names.proofs.Loops.{Left}
use Rattle.og_cstep.specs.Machines.{run_of}
use Rattle.og_trace.specs.Leaves.{leaves_from}
use Rattle.og_trace.proofs.ending.active_leaves.Given as goal

abbrev pub invariant-loop-region : goal.invariant-loop-region
invariant-loop-region l = record {
  counted : l.number ≡ l.region-index;
  left : Left (λ (rs : List Region). l.leaves ++ leaves_from (run_of l.machine) l.number rs) l.regions l.region-index (leaves_from (run_of l.machine) 0 l.regions);
}
