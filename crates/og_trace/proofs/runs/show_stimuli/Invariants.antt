use Rattle.og_cstep.specs.Machines.{run_of}
use Rattle.og_trace.specs.Entries.{IsReady}
use Rattle.og_trace.proofs.Shows.{Coming}
use Rattle.og_trace.proofs.runs.show_stimuli.Given as goal

abbrev pub invariant-loop-stimulus : goal.invariant-loop-stimulus
invariant-loop-stimulus l = record {
  coming : Coming (run_of l.initial.machine).program l.scene.model.now l.scene.files.now l.steps l.stimuli l.stimulus-index (run_of l.machine).cells l.out.items (run_of l.initial.machine).cells l.initial.out.items;
  ready : IsReady (run_of l.initial.machine).program l.scene.model.now (run_of l.machine).cells (run_of l.machine);
}
