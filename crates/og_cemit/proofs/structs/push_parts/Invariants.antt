use Rattle.std.proofs.Common.{◌+◌, ◌++◌}
use Rattle.og_cemit.specs.Structs.{part_members}
use Rattle.og_names.proofs.Loops.{Left}
use Rattle.og_cemit.proofs.structs.push_parts.Given as goal

abbrev pub invariant-loop-number : goal.invariant-loop-number
invariant-loop-number l = Left (λ ys. l.members ++ part_members l.prefix l.sorts l.words (l.from + l.number) ys) l.parts l.number (l.initial.members ++ part_members l.prefix l.sorts l.words l.from l.parts)
