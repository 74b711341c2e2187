use Rattle.std.proofs.Common.{◌++◌}
use Rattle.og_cemit.specs.Structs.{structs_from}
use Rattle.og_names.proofs.Loops.{Left}
use Rattle.og_cemit.proofs.structs.marked_structs.Given as goal

abbrev pub invariant-loop-number : goal.invariant-loop-number
invariant-loop-number l = Left (λ ys. l.structs ++ structs_from l.prefix l.sorts l.words l.marks l.number ys) l.sorts l.number (structs_from l.prefix l.sorts l.words l.marks 0 l.sorts)
