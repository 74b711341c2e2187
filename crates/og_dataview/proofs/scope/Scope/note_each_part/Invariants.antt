use Rattle.og_dataview.specs.Violations.{used_by_part}
use Rattle.og_dataview.proofs.Noting.{Noted}
use Rattle.og_dataview.proofs.scope.Scope.note_each_part.Given as goal

abbrev pub invariant-loop-part : goal.invariant-loop-part
invariant-loop-part l = Noted (used_by_part l.self.flat) l.parts l.part-index l.first l.initial.first
