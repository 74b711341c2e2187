-- The rules on names that modules of ASN.1 keep (after X.680 clauses 12, 13, 20, 25 and 29, where names are compared as this project's
-- own): for each rule, the violations in the modules of all files. N2 and N7: names of one list, each against those before it. N1 and
-- N3: names that are used, each looked for where names of its kind are declared.
use Rattle.std.specs.Prelude.{ℕ, Bool, false, ◌||◌, List, [], ◌∷◌, ◌++◌, map, Option, Some, None, ℤ, filter, flat_map, if◌then◌else◌}
use Rattle.std.specs.List.{list_any}
use Rattle.std.specs.Str.{bytes_eq}
use Rattle.std.specs.Ordering.{int_eq}
use Rattle.og_base.specs.declared.Rule.{Rule}
use Rattle.og_base.specs.declared.Rule.TheVariants.{N1, N2, N3, N7}
use Rattle.og_base.specs.declared.Violation.{Violation}
use Rattle.og_base.specs.Order.{first_of}
use Rattle.og_flat.specs.declared.flat.Bound.{Bound}
use Rattle.og_flat.specs.declared.flat.Bound.TheVariants as bound
use Rattle.og_flat.specs.declared.flat.Range.{Range}
use Rattle.og_flat.specs.declared.flat.Limits.{Limits}
use Rattle.og_flat.specs.declared.flat.Limits.TheVariants as limits
use Rattle.og_flat.specs.declared.flat.Enumerator.{Enumerator}
use Rattle.og_flat.specs.declared.flat.Written.{Written}
use Rattle.og_flat.specs.declared.flat.PartNode.{PartNode}
use Rattle.og_flat.specs.declared.flat.Node.{Node}
use Rattle.og_flat.specs.declared.flat.Node.TheVariants as node
use Rattle.og_flat.specs.declared.flat.TypeNode.{TypeNode}
use Rattle.og_flat.specs.declared.flat.ConstantNode.{ConstantNode}
use Rattle.og_flat.specs.declared.flat.ConstantValue.{ConstantValue}
use Rattle.og_flat.specs.declared.flat.ConstantValue.TheVariants as value
use Rattle.og_flat.specs.declared.flat.Flat.{Flat}
use Rattle.og_asn1.specs.declared.syntax.Name.{Name}
use Rattle.og_asn1.specs.declared.syntax.ModuleTree.{ModuleTree}
use Rattle.og_asn1.specs.declared.syntax.ImportsTree.{ImportsTree}
use Rattle.og_asn1.specs.declared.syntax.ImportTree.{ImportTree}
use Rattle.og_asn1.specs.declared.syntax.SymbolTree.{SymbolTree}
use Rattle.og_asn1.specs.declared.syntax.SymbolTree.TheVariants as symbol
use Rattle.og_asn1.specs.declared.syntax.AssignmentTree.{AssignmentTree}
use Rattle.og_asn1.specs.declared.syntax.AssignmentTree.TheVariants as assignment
use Rattle.og_flat.specs.Flattening.{flat_of}
use Rattle.og_dataview.specs.Scope.{key, is_declared_type, is_declared_constant, is_built_in, is_predefined, is_procedure, is_operator}
use Rattle.og_dataview.specs.Following.{is_integer_type, as_number}

abbrev pub violated : Rule → Name → Violation
violated rule name = record { rule = rule; place = name.place }

-- the violation, if the rule is broken
abbrev pub violated_if : Bool → Rule → Name → List Violation
violated_if broken rule name = if broken then violated rule name ∷ [] else []

-- ---- declared names

abbrev pub is_spelt_as : Name → Name → Bool
is_spelt_as a b = bytes_eq a.word.bytes b.word.bytes

abbrev pub folds_as : Name → Name → Bool
folds_as a b = bytes_eq (key a) (key b)

-- N2: an earlier name of the list is spelt the same. N7: one is spelt differently and folds alike
abbrev pub repeated : List Name → Name → List Violation
repeated earlier name = if list_any (is_spelt_as name) earlier then violated N2 name ∷ [] else violated_if (list_any (folds_as name) earlier) N7 name

abbrev pub repeated_behind : List Name → List Name → List Violation
repeated_behind earlier [] = []
repeated_behind earlier (name ∷ names) = repeated earlier name ++ repeated_behind (earlier ++ name ∷ []) names

abbrev pub repeated_names : List Name → List Violation
repeated_names names = repeated_behind [] names

-- N7: a type with the name of one that needs no declaration
abbrev pub built_in_again : TypeNode → List Violation
built_in_again t = violated_if (is_built_in t.name) N7 t.name

-- N2: an enumerator with a number that an earlier one has
abbrev pub given : Enumerator → List ℤ
given e = by e.number
  where
    by : Option Written → List ℤ
    by None = []
    by (Some n) = as_number n ∷ []

abbrev pub is_given : List ℤ → ℤ → Bool
is_given numbers z = list_any (int_eq z) numbers

abbrev pub given_again : List ℤ → Enumerator → List Violation
given_again earlier e = violated_if (list_any (is_given earlier) (given e)) N2 e.name

abbrev pub given_behind : List ℤ → List Enumerator → List Violation
given_behind earlier [] = []
given_behind earlier (e ∷ es) = given_again earlier e ++ given_behind (earlier ++ given e) es

abbrev pub repeated_numbers : List Enumerator → List Violation
repeated_numbers items = given_behind [] items

-- ---- used names

-- a name that is used where another kind of names is declared violates N3, one that is declared nowhere N1
abbrev pub looked_up : Bool → Bool → Name → List Violation
looked_up own other name = if own then [] else (if other then violated N3 name ∷ [] else violated N1 name ∷ [])

abbrev pub used_type : Flat → Name → List Violation
used_type flat name =
    looked_up (is_declared_type flat name || (is_built_in name || is_predefined name)) (is_declared_constant flat name || (is_procedure name || is_operator name)) name

abbrev pub used_constant : Flat → Name → List Violation
used_constant flat name =
    looked_up (is_declared_constant flat name || is_operator name) (is_declared_type flat name || (is_built_in name || is_procedure name)) name

abbrev pub used_by_bound : Flat → Bound → List Violation
used_by_bound flat (bound.Number is_negative digits) = []
used_by_bound flat (bound.Named name) = used_constant flat name

-- of one bound, which is both ends, both violations are one
abbrev pub used_by_range : Flat → Range → List Violation
used_by_range flat range = used_by_bound flat range.lo ++ used_by_bound flat range.hi

abbrev pub used_by_limits : Flat → Limits → List Violation
used_by_limits flat limits.Absent = []
used_by_limits flat (limits.Range range) = used_by_range flat range
used_by_limits flat (limits.Size range) = used_by_range flat range
used_by_limits flat limits.Other = []

-- a name as the value of a type is one of a constant where that type is INTEGER
abbrev pub used_as_value : Flat → ℕ → Option Name → List Violation
used_as_value flat p None = []
used_as_value flat p (Some name) = if is_integer_type flat p then used_constant flat name else []

abbrev pub used_by_part : Flat → PartNode → List Violation
used_by_part flat part = used_as_value flat part.node part.default

abbrev pub name_in_value : ConstantValue → Option Name
name_in_value (value.Named name) = Some name
name_in_value (value.Number number) = None
name_in_value value.Other = None

abbrev pub used_by_constant : Flat → ConstantNode → List Violation
used_by_constant flat c = used_as_value flat c.node (name_in_value c.value)

-- ---- types

abbrev pub in_parts : Flat → List PartNode → List Violation
in_parts flat parts = repeated_names (map (λ (p : PartNode). p.name) parts) ++ flat_map (used_by_part flat) parts

abbrev pub in_enumerators : List Enumerator → List Violation
in_enumerators items = repeated_names (map (λ (e : Enumerator). e.name) items) ++ repeated_numbers items

abbrev pub in_node : Flat → Node → List Violation
in_node flat (node.Integer limits) = used_by_limits flat limits
in_node flat node.Boolean = []
in_node flat (node.Reference name limits) = used_type flat name ++ used_by_limits flat limits
in_node flat (node.Enumerated items is_open) = in_enumerators items
in_node flat (node.Choice parts is_plain) = in_parts flat parts
in_node flat (node.Sequence parts is_plain) = in_parts flat parts
in_node flat (node.SequenceOf limits item) = used_by_limits flat limits
in_node flat (node.Other limits) = used_by_limits flat limits

-- ---- imports

abbrev pub declares_type : Name → AssignmentTree → Bool
declares_type name (assignment.Type declared is) = folds_as name declared
declares_type name (assignment.Value declared of is) = false

abbrev pub declares_constant : Name → AssignmentTree → Bool
declares_constant name (assignment.Type declared is) = false
declares_constant name (assignment.Value declared of is) = folds_as name declared

abbrev pub has_type : List ModuleTree → Name → Bool
has_type modules name = list_any (λ (m : ModuleTree). list_any (declares_type name) m.assignments) modules

abbrev pub has_constant : List ModuleTree → Name → Bool
has_constant modules name = list_any (λ (m : ModuleTree). list_any (declares_constant name) m.assignments) modules

-- the modules of this name, which may be several
abbrev pub modules_named : List ModuleTree → Name → List ModuleTree
modules_named modules name = filter (λ (m : ModuleTree). folds_as name m.name) modules

-- N1: a symbol that the module lacks. N3: one that is of the other kind there
abbrev pub imported_symbol : List ModuleTree → SymbolTree → List Violation
imported_symbol modules (symbol.Type name) = looked_up (has_type modules name) (has_constant modules name) name
imported_symbol modules (symbol.Value name) = looked_up (has_constant modules name) (has_type modules name) name

abbrev pub symbol_name : SymbolTree → Name
symbol_name (symbol.Type name) = name
symbol_name (symbol.Value name) = name

-- N1 at the first symbol, where the module is not there
abbrev pub first_symbol : List SymbolTree → List Violation
first_symbol [] = []
first_symbol (s ∷ ss) = violated N1 (symbol_name s) ∷ []

abbrev pub imported_from : List ModuleTree → List SymbolTree → List Violation
imported_from [] symbols = first_symbol symbols
imported_from (m ∷ ms) symbols = flat_map (imported_symbol (m ∷ ms)) symbols

abbrev pub in_import : List ModuleTree → ImportTree → List Violation
in_import modules import = imported_from (modules_named modules import.module) import.symbols

abbrev pub in_imports : List ModuleTree → Option ImportsTree → List Violation
in_imports modules None = []
in_imports modules (Some i) = flat_map (in_import modules) i.imports

abbrev pub in_module : List ModuleTree → ModuleTree → List Violation
in_module modules m = in_imports modules m.imports

-- ---- all of them

abbrev pub in_flat : Flat → List Violation
in_flat flat =
    repeated_names (map (λ (t : TypeNode). t.name) flat.types)
    ++ (flat_map built_in_again flat.types
    ++ (repeated_names (map (λ (c : ConstantNode). c.name) flat.constants)
    ++ (flat_map (in_node flat) flat.nodes
    ++ flat_map (used_by_constant flat) flat.constants)))

-- the violations of the rules on names
abbrev pub violations : List ModuleTree → List Violation
violations modules = in_flat (flat_of modules) ++ flat_map (in_module modules) modules

-- the first one
abbrev pub first_violation : List ModuleTree → Option Violation
first_violation modules = first_of (violations modules)
