use Rattle.std.proofs.Common.{◌-◌}
use Rattle.og_grammar.specs.Reading.{many}
use Rattle.og_grammar.proofs.Repeats.{SoFar}
use Rattle.og_front.specs.Reading.{state_at}
use Rattle.og_front.proofs.parse.states_of.Given as goal

abbrev pub invariant-loop : goal.invariant-loop
invariant-loop l = SoFar state_at l.states (l.end - l.counter) l.left l.rest (many state_at l.choices l.tokens)
