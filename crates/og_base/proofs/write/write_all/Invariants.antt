use Rattle.std.proofs.Common.{◌≤◌, length}
use Rattle.og_base.proofs.Writing.{WrittenSoFar}
use Rattle.og_base.proofs.write.write_all.Given as goal

abbrev pub invariant-loop-rest : goal.invariant-loop-rest
invariant-loop-rest g l = record {
  front : WrittenSoFar l.fn.bytes l.rest (g.K.Sink.written l.fn.sink) (g.K.Sink.written l.sink);
  counts : g.K.Sink.faults l.fn.sink ≤ g.K.Sink.faults l.sink;
}

abbrev pub decreases-loop-rest : goal.decreases-loop-rest
decreases-loop-rest g l = length l.rest
