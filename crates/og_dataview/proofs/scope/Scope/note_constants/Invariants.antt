use Rattle.og_dataview.specs.Violations.{used_by_constant}
use Rattle.og_dataview.proofs.Noting.{Noted}
use Rattle.og_dataview.proofs.scope.Scope.note_constants.Given as goal

abbrev pub invariant-loop-constant : goal.invariant-loop-constant
invariant-loop-constant l = Noted (used_by_constant l.self.flat) l.constants l.constant-index l.first l.initial.first
