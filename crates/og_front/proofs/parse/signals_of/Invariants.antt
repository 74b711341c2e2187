use Rattle.std.proofs.Common.{◌-◌}
use Rattle.og_grammar.specs.Reading.{many}
use Rattle.og_grammar.proofs.Repeats.{SoFar}
use Rattle.og_front.specs.Reading.{signal_at}
use Rattle.og_front.proofs.parse.signals_of.Given as goal

abbrev pub invariant-loop : goal.invariant-loop
invariant-loop l = SoFar signal_at l.signals (l.end - l.counter) l.left l.rest (many signal_at l.choices l.tokens)
