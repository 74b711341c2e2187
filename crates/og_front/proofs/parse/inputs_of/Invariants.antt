use Rattle.std.proofs.Common.{◌-◌}
use Rattle.og_grammar.specs.Reading.{many}
use Rattle.og_grammar.proofs.Repeats.{SoFar}
use Rattle.og_front.specs.Reading.{input_at}
use Rattle.og_front.proofs.parse.inputs_of.Given as goal

abbrev pub invariant-loop : goal.invariant-loop
invariant-loop l = SoFar input_at l.inputs (l.end - l.counter) l.left l.rest (many input_at l.choices l.tokens)
