use Rattle.std.proofs.Common.{◌≡◌}
use Rattle.og_dataview.specs.Scope.{key}
use Rattle.og_dataview.specs.Exported.{is_type_of, is_constant_of}
use Rattle.og_dataview.proofs.Exports.{Declaring}
use Rattle.og_dataview.proofs.imports.Exported.add_all.Given as goal

abbrev pub invariant-loop-assignment : goal.invariant-loop-assignment
invariant-loop-assignment l = record {
  modules : l.self.modules ≡ l.initial.self.modules;
  types : Declaring l.initial.self.types l.self.types (key l.of) is_type_of l.assignments l.assignment-index;
  constants : Declaring l.initial.self.constants l.self.constants (key l.of) is_constant_of l.assignments l.assignment-index;
}
