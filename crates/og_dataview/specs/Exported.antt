-- What modules declare, by their folded names, and what is wrong with IMPORTS where that is known.
use Rattle.std.specs.Prelude.{◌≡◌, ℕ, Bool, false, ◌&&◌, List, [], Option, Some, None, is_some, if◌then◌else◌}
use Rattle.std.specs.List.{list_any, flat_map}
use Rattle.std.specs.Str.{bytes_eq}
use Rattle.og_base.specs.declared.Violation.{Violation}
use Rattle.og_names.specs.Folding.{place_of}
use Rattle.og_asn1.specs.declared.syntax.Name.{Name}
use Rattle.og_asn1.specs.declared.syntax.ModuleTree.{ModuleTree}
use Rattle.og_asn1.specs.declared.syntax.ImportsTree.{ImportsTree}
use Rattle.og_asn1.specs.declared.syntax.ImportTree.{ImportTree}
use Rattle.og_asn1.specs.declared.syntax.SymbolTree.{SymbolTree}
use Rattle.og_asn1.specs.declared.syntax.SymbolTree.TheVariants as symbol
use Rattle.og_asn1.specs.declared.syntax.AssignmentTree.{AssignmentTree}
use Rattle.og_asn1.specs.declared.syntax.AssignmentTree.TheVariants as assignment
use Rattle.og_dataview.specs.declared.imports.Exported.{Exported}
use Rattle.og_dataview.specs.Scope.{key}
use Rattle.og_dataview.specs.Violations.{looked_up, first_symbol}

-- whether a pair is of this module and of this name
abbrev pub has : List (List ℕ × List ℕ) → List ℕ → List ℕ → Bool
has pairs a b = list_any (λ (pair : List ℕ × List ℕ). bytes_eq a pair.0 && bytes_eq b pair.1) pairs

abbrev pub is_type_of : List ℕ → AssignmentTree → Bool
is_type_of b (assignment.Type declared is) = bytes_eq b (key declared)
is_type_of b (assignment.Value declared of is) = false

abbrev pub is_constant_of : List ℕ → AssignmentTree → Bool
is_constant_of b (assignment.Type declared is) = false
is_constant_of b (assignment.Value declared of is) = bytes_eq b (key declared)

-- whether the module has this name, and declares that one
abbrev pub types_in : List ℕ → List ℕ → ModuleTree → Bool
types_in a b m = bytes_eq a (key m.name) && list_any (is_type_of b) m.assignments

abbrev pub constants_in : List ℕ → List ℕ → ModuleTree → Bool
constants_in a b m = bytes_eq a (key m.name) && list_any (is_constant_of b) m.assignments

-- these are the modules with their types and constants
pub record IsExported (all : List ModuleTree) (exported : Exported) : Type 0 where
  pub modules : (a : List ℕ) → is_some (place_of exported.modules a) ≡ list_any (λ (m : ModuleTree). bytes_eq a (key m.name)) all
  pub types : (a b : List ℕ) → has exported.types a b ≡ list_any (types_in a b) all
  pub constants : (a b : List ℕ) → has exported.constants a b ≡ list_any (constants_in a b) all

-- ---- violations

abbrev pub symbol_by : Exported → Name → SymbolTree → List Violation
symbol_by exported module_name (symbol.Type name) =
    looked_up (has exported.types (key module_name) (key name)) (has exported.constants (key module_name) (key name)) name
symbol_by exported module_name (symbol.Value name) =
    looked_up (has exported.constants (key module_name) (key name)) (has exported.types (key module_name) (key name)) name

abbrev pub import_by : Exported → ImportTree → List Violation
import_by exported import =
    if is_some (place_of exported.modules (key import.module)) then flat_map (symbol_by exported import.module) import.symbols else first_symbol import.symbols

abbrev pub imports_by : Exported → Option ImportsTree → List Violation
imports_by exported None = []
imports_by exported (Some i) = flat_map (import_by exported) i.imports

abbrev pub module_by : Exported → ModuleTree → List Violation
module_by exported m = imports_by exported m.imports
