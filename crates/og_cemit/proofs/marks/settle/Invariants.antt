use Rattle.std.proofs.Common.{◌≡◌, ◌-◌, length}
use Rattle.og_cemit.specs.Structs.{settled}
use Rattle.og_cemit.proofs.marks.settle.Given as goal

abbrev pub invariant-loop-later : goal.invariant-loop-later
invariant-loop-later l = settled l.sorts (length l.sorts - l.later) l.marks.items ≡ settled l.sorts (length l.sorts) l.initial.marks.items
