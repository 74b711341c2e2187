use Rattle.std.proofs.Common.{◌≡◌}
use Rattle.og_csubset.specs.Run.{c_machine}
use Rattle.og_cstep.specs.Machines.{run_of}
use Rattle.og_trace.specs.Entries.{IsLive}
use Rattle.og_trace.proofs.Steps.{Going}
use Rattle.og_trace.proofs.events.show_events.Given as goal

abbrev pub invariant-loop-left : goal.invariant-loop-left
invariant-loop-left l = record {
  going : Going l.model (c_machine (run_of l.initial.machine).program l.model).step l.left (run_of l.machine).config l.out.items l.steps (run_of l.initial.machine).config l.initial.out.items;
  program : (run_of l.machine).program ≡ (run_of l.initial.machine).program;
  model : (run_of l.machine).model ≡ l.model;
  live : IsLive (run_of l.machine).config;
}

abbrev pub decreases-loop-left : goal.decreases-loop-left
decreases-loop-left l = l.left
