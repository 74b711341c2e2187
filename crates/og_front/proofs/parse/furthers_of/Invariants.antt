use Rattle.std.proofs.Common.{◌-◌}
use Rattle.og_grammar.specs.Reading.{many}
use Rattle.og_grammar.proofs.Repeats.{SoFar}
use Rattle.og_front.specs.Reading.{further_at}
use Rattle.og_front.proofs.parse.furthers_of.Given as goal

abbrev pub invariant-loop : goal.invariant-loop
invariant-loop l = SoFar further_at l.others (l.end - l.counter) l.left l.rest (many further_at l.choices l.tokens)
