use Rattle.std.proofs.Common.{◌≡◌, take}
use Rattle.og_model.proofs.copy.copy_procs.Given as goal

abbrev pub invariant-loop-proc : goal.invariant-loop-proc
invariant-loop-proc l = l.copied ≡ take l.proc-index l.procs
