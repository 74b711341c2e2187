use Rattle.std.proofs.Common.{◌-◌}
use Rattle.og_grammar.specs.Reading.{many}
use Rattle.og_grammar.proofs.Repeats.{SoFar}
use Rattle.og_front.specs.Reading.{output_at}
use Rattle.og_front.proofs.parse.outputs_of.Given as goal

abbrev pub invariant-loop : goal.invariant-loop
invariant-loop l = SoFar output_at l.outputs (l.end - l.counter) l.left l.rest (many output_at l.choices l.tokens)
