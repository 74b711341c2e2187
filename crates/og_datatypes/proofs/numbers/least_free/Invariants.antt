use Rattle.og_datatypes.proofs.Free.{Searching}
use Rattle.og_datatypes.proofs.numbers.least_free.Given as goal

abbrev pub invariant-loop-step : goal.invariant-loop-step
invariant-loop-step l = Searching l.written.keys l.count l.from l.step
