use Rattle.std.proofs.Common.{[]}
use Rattle.og_declared.specs.Tables.{named_in_system}
use Rattle.og_declared.proofs.Spacing.{Spacing}
use Rattle.og_declared.proofs.spaces.note_in_system.Given as goal

abbrev pub invariant-loop-part : goal.invariant-loop-part
invariant-loop-part l = Spacing (named_in_system l.space) l.parts l.part-index l.table [] l.first l.initial.first
