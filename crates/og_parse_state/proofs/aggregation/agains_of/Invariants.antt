use Rattle.std.proofs.Common.{◌-◌}
use Rattle.og_reading.specs.Reading.{rest_of, onto}
use Rattle.og_reading.proofs.Turns.{SoFar}
use Rattle.og_parse_state.specs.Reading.{again_at}
use Rattle.og_parse_state.proofs.aggregation.agains_of.Given as goal

abbrev pub invariant-loop : goal.invariant-loop
invariant-loop l = SoFar (again_at l.fuel) l.so_far (l.end - l.counter) (rest_of l.rest) (onto (again_at l.fuel) l.fn.first (rest_of l.from))
