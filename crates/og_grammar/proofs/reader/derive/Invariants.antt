use Rattle.std.proofs.Common.{reverse, take}
use Rattle.og_grammar.specs.Standing.{Stands}
use Rattle.og_grammar.proofs.reader.derive.Given as goal

abbrev pub invariant-loop-at : goal.invariant-loop-at
invariant-loop-at l = Stands l.table l.parts l.last l.limit (take l.at l.kinds) (reverse l.run.due) l.run.count l.run.choices
