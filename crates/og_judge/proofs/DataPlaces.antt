-- A violation of the rules on names in modules stands at one of their tokens.
use Rattle.std.proofs.Common.{◌≡◌, ◌∙◌, ℕ, zero, suc, ◌+◌, Bool, true, false, if◌then◌else◌, List, [], ◌∷◌, ◌++◌, length, map, Option, Some, None, refl, sym, ap, subst}
use Rattle.std.specs.Prelude.{◌||◌, ◌&&◌, ℤ, filter, flat_map}
use Rattle.std.specs.List.{AllByRecursion, list_any}
use Rattle.og_base.specs.declared.Place.{Place}
use Rattle.og_base.specs.declared.Rule.{Rule}
use Rattle.og_base.specs.declared.Rule.TheVariants.{N1, N2, N3, N7}
use Rattle.og_base.specs.declared.Violation.{Violation}
use Rattle.og_base.specs.Order.{comes_before, sooner, first_from, first_of}
use Rattle.og_flat.specs.declared.flat.Bound.{Bound}
use Rattle.og_flat.specs.declared.flat.Bound.TheVariants as bound
use Rattle.og_flat.specs.declared.flat.Range.{Range}
use Rattle.og_flat.specs.declared.flat.Limits.{Limits}
use Rattle.og_flat.specs.declared.flat.Limits.TheVariants as limits
use Rattle.og_flat.specs.declared.flat.Enumerator.{Enumerator}
use Rattle.og_flat.specs.declared.flat.PartNode.{PartNode}
use Rattle.og_flat.specs.declared.flat.Node.{Node}
use Rattle.og_flat.specs.declared.flat.Node.TheVariants as node
use Rattle.og_flat.specs.declared.flat.TypeNode.{TypeNode}
use Rattle.og_flat.specs.declared.flat.ConstantNode.{ConstantNode}
use Rattle.og_flat.specs.declared.flat.ConstantValue.{ConstantValue}
use Rattle.og_flat.specs.declared.flat.ConstantValue.TheVariants as value
use Rattle.og_flat.specs.declared.flat.Flat.{Flat}
use Rattle.og_asn1.specs.declared.syntax.Name.{Name}
use Rattle.og_asn1.specs.declared.syntax.ModuleTree.{ModuleTree}
use Rattle.og_asn1.specs.declared.syntax.ImportsTree.{ImportsTree}
use Rattle.og_asn1.specs.declared.syntax.ImportTree.{ImportTree}
use Rattle.og_asn1.specs.declared.syntax.SymbolTree.{SymbolTree}
use Rattle.og_asn1.specs.declared.syntax.SymbolTree.TheVariants as symbol
use Rattle.og_front.proofs.Elements.{each_both, each_more, each_pieces}
use Rattle.og_flat.specs.Flattening.{flat_of}
use Rattle.og_dataview.specs.Following.{is_integer_type}
use Rattle.og_dataview.specs.Violations.{violated, violated_if, is_spelt_as, folds_as, repeated, repeated_behind, repeated_names, built_in_again, given, given_again, given_behind, repeated_numbers, is_given, looked_up, used_type, used_constant, used_by_bound, used_by_range, used_by_limits, used_as_value, used_by_part, name_in_value, used_by_constant, in_parts, in_node, has_type, has_constant, imported_symbol, symbol_name, first_symbol, imported_from, modules_named, in_import, in_imports, in_module, in_flat, violations, first_violation}
use Rattle.og_judge.proofs.TreeNames.{no_place, NameIn, OptIn}
use Rattle.og_judge.proofs.BoundNames.{BoundIn, RangeIn, LimitsIn}
use Rattle.og_judge.proofs.TypeNames.{EnumeratorIn, PartIn, NodeIn, ConstantValueIn, FlatIn, SymbolIn, ImportIn, ImportsIn, ModuleIn, flat_is_in}

abbrev pub ViolationIn : (Place → Type 0) → Violation → Type 0
ViolationIn P v = P v.place

abbrev pub AreIn : (Place → Type 0) → List Violation → Type 0
AreIn P vs = AllByRecursion (ViolationIn P) vs

module _ (P : Place → Type 0) where
  if_in : (broken : Bool) (rule : Rule) (name : Name) → P name.place → AreIn P (violated_if broken rule name)
  if_in true rule name p = (p, tt)
  if_in false rule name p = tt

  looked_in : (own other : Bool) (name : Name) → P name.place → AreIn P (looked_up own other name)
  looked_in true other name p = tt
  looked_in false true name p = (p, tt)
  looked_in false false name p = (p, tt)

  -- ---- declared names

  repeated_by : (spelt folds : Bool) (name : Name) → P name.place → AreIn P (if spelt then violated N2 name ∷ [] else violated_if folds N7 name)
  repeated_by true folds name p = (p, tt)
  repeated_by false folds name p = if_in folds N7 name p

  behind_in : (earlier names : List Name) → AllByRecursion (NameIn P) names → AreIn P (repeated_behind earlier names)
  behind_in earlier [] all = tt
  behind_in earlier (name ∷ names) all =
      each_both (ViolationIn P) (repeated earlier name) (repeated_behind (earlier ++ name ∷ []) names)
      (repeated_by (list_any (is_spelt_as name) earlier) (list_any (folds_as name) earlier) name all.0) (behind_in (earlier ++ name ∷ []) names all.1)

  -- the names of things
  named_in : {A : Type 0} (name : A → Name) (xs : List A) → AllByRecursion (λ x. P (name x).place) xs → AllByRecursion (NameIn P) (map name xs)
  named_in name [] all = tt
  named_in name (x ∷ xs) all = (all.0, named_in name xs all.1)

  names_in : {A : Type 0} (name : A → Name) (xs : List A) → AllByRecursion (λ x. P (name x).place) xs → AreIn P (repeated_names (map name xs))
  names_in name xs all = behind_in [] (map name xs) (named_in name xs all)

  numbers_in : (earlier : List ℤ) (items : List Enumerator) → AllByRecursion (EnumeratorIn P) items → AreIn P (given_behind earlier items)
  numbers_in earlier [] all = tt
  numbers_in earlier (e ∷ es) all =
      each_both (ViolationIn P) (given_again earlier e) (given_behind (earlier ++ given e) es)
      (if_in (list_any (is_given earlier) (given e)) N2 e.name all.0) (numbers_in (earlier ++ given e) es all.1)

  -- ---- used names

  type_in : (flat : Flat) (name : Name) → P name.place → AreIn P (used_type flat name)
  type_in flat name p = looked_in _ _ name p

  constant_in : (flat : Flat) (name : Name) → P name.place → AreIn P (used_constant flat name)
  constant_in flat name p = looked_in _ _ name p

  bound_in : (flat : Flat) (b : Bound) → BoundIn P b → AreIn P (used_by_bound flat b)
  bound_in flat (bound.Number is_negative digits) p = tt
  bound_in flat (bound.Named name) p = constant_in flat name p

  range_in : (flat : Flat) (r : Range) → RangeIn P r → AreIn P (used_by_range flat r)
  range_in flat r p = each_both (ViolationIn P) (used_by_bound flat r.lo) (used_by_bound flat r.hi) (bound_in flat r.lo p.0) (bound_in flat r.hi p.1)

  limits_in : (flat : Flat) (l : Limits) → LimitsIn P l → AreIn P (used_by_limits flat l)
  limits_in flat limits.Absent p = tt
  limits_in flat (limits.Range r) p = range_in flat r p
  limits_in flat (limits.Size r) p = range_in flat r p
  limits_in flat limits.Other p = tt

  value_by : (is_integer : Bool) (flat : Flat) (name : Name) → P name.place → AreIn P (if is_integer then used_constant flat name else [])
  value_by true flat name p = constant_in flat name p
  value_by false flat name p = tt

  value_in : (flat : Flat) (p : ℕ) (name : Option Name) → OptIn (NameIn P) name → AreIn P (used_as_value flat p name)
  value_in flat p None q = tt
  value_in flat p (Some name) q = value_by (is_integer_type flat p) flat name q

  part_in : (flat : Flat) (part : PartNode) → PartIn P part → AreIn P (used_by_part flat part)
  part_in flat part p = value_in flat part.node part.default p.1

  valued : (v : ConstantValue) → ConstantValueIn P v → OptIn (NameIn P) (name_in_value v)
  valued (value.Number number) p = tt
  valued (value.Named name) p = p
  valued value.Other p = tt

  -- ---- types

  parts_in : (flat : Flat) (parts : List PartNode) → AllByRecursion (PartIn P) parts → AreIn P (in_parts flat parts)
  parts_in flat parts all =
      each_both (ViolationIn P) (repeated_names (map (λ (p : PartNode). p.name) parts)) (flat_map (used_by_part flat) parts)
      (names_in (λ (p : PartNode). p.name) parts (each_more (PartIn P) (λ (p : PartNode). P p.name.place) parts (λ part p. p.0) all))
      (each_pieces (ViolationIn P) (used_by_part flat) parts (each_more (PartIn P) (λ part. AreIn P (used_by_part flat part)) parts (part_in flat) all))

  node_in : (flat : Flat) (n : Node) → NodeIn P n → AreIn P (in_node flat n)
  node_in flat (node.Integer l) p = limits_in flat l p
  node_in flat node.Boolean p = tt
  node_in flat (node.Reference name l) p = each_both (ViolationIn P) (used_type flat name) (used_by_limits flat l) (type_in flat name p.0) (limits_in flat l p.1)
  node_in flat (node.Enumerated items is_open) p =
      each_both (ViolationIn P) (repeated_names (map (λ (e : Enumerator). e.name) items)) (repeated_numbers items) (names_in (λ (e : Enumerator). e.name) items p) (numbers_in [] items p)
  node_in flat (node.Choice parts is_plain) p = parts_in flat parts p
  node_in flat (node.Sequence parts is_plain) p = parts_in flat parts p
  node_in flat (node.SequenceOf l item) p = limits_in flat l p
  node_in flat (node.Other l) p = limits_in flat l p

  -- ---- imports

  symbol_in : (modules : List ModuleTree) (s : SymbolTree) → SymbolIn P s → AreIn P (imported_symbol modules s)
  symbol_in modules (symbol.Type name) p = looked_in _ _ name p
  symbol_in modules (symbol.Value name) p = looked_in _ _ name p

  name_of_symbol : (s : SymbolTree) → SymbolIn P s → P (symbol_name s).place
  name_of_symbol (symbol.Type name) p = p
  name_of_symbol (symbol.Value name) p = p

  first_in : (symbols : List SymbolTree) → AllByRecursion (SymbolIn P) symbols → AreIn P (first_symbol symbols)
  first_in [] all = tt
  first_in (s ∷ ss) all = (name_of_symbol s all.0, tt)

  from_in : (modules : List ModuleTree) (symbols : List SymbolTree) → AllByRecursion (SymbolIn P) symbols → AreIn P (imported_from modules symbols)
  from_in [] symbols all = first_in symbols all
  from_in (m ∷ ms) symbols all =
      each_pieces (ViolationIn P) (imported_symbol (m ∷ ms)) symbols (each_more (SymbolIn P) (λ s. AreIn P (imported_symbol (m ∷ ms) s)) symbols (symbol_in (m ∷ ms)) all)

  imports_in : (modules : List ModuleTree) (imports : Option ImportsTree) → OptIn (ImportsIn P) imports → AreIn P (in_imports modules imports)
  imports_in modules None p = tt
  imports_in modules (Some i) p =
      each_pieces (ViolationIn P) (in_import modules) i.imports
      (each_more (ImportIn P) (λ import. AreIn P (in_import modules import)) i.imports (λ import q. from_in (modules_named modules import.module) import.symbols q) p)

  -- ---- all of them

  flat_in : (flat : Flat) → FlatIn P flat → AreIn P (in_flat flat)
  flat_in flat f =
      let a = repeated_names (map (λ (t : TypeNode). t.name) flat.types) in
      let b = flat_map built_in_again flat.types in
      let c = repeated_names (map (λ (k : ConstantNode). k.name) flat.constants) in
      let d = flat_map (in_node flat) flat.nodes in
      let e = flat_map (used_by_constant flat) flat.constants in
      let Types : TypeNode → Type 0 = λ t. P t.name.place in
      let Constants : ConstantNode → Type 0 = λ k. P k.name.place × ConstantValueIn P k.value in
      each_both (ViolationIn P) a (b ++ (c ++ (d ++ e))) (names_in (λ (t : TypeNode). t.name) flat.types f.types)
      (each_both (ViolationIn P) b (c ++ (d ++ e))
      (each_pieces (ViolationIn P) built_in_again flat.types (each_more Types (λ t. AreIn P (built_in_again t)) flat.types (λ t p. if_in _ N7 t.name p) f.types))
      (each_both (ViolationIn P) c (d ++ e) (names_in (λ (k : ConstantNode). k.name) flat.constants (each_more Constants (λ (k : ConstantNode). P k.name.place) flat.constants (λ k p. p.0) f.constants))
      (each_both (ViolationIn P) d e
      (each_pieces (ViolationIn P) (in_node flat) flat.nodes (each_more (NodeIn P) (λ n. AreIn P (in_node flat n)) flat.nodes (node_in flat) f.nodes))
      (each_pieces (ViolationIn P) (used_by_constant flat) flat.constants
      (each_more Constants (λ k. AreIn P (used_by_constant flat k)) flat.constants (λ k p. value_in flat k.node (name_in_value k.value) (valued k.value p.1)) f.constants)))))

  all_in : (modules : List ModuleTree) → AllByRecursion (ModuleIn P) modules → AreIn P (violations modules)
  all_in modules all =
      each_both (ViolationIn P) (in_flat (flat_of modules)) (flat_map (in_module modules) modules) (flat_in (flat_of modules) (flat_is_in P modules all))
      (each_pieces (ViolationIn P) (in_module modules) modules (each_more (ModuleIn P) (λ m. AreIn P (in_module modules m)) modules (λ m q. imports_in modules m.imports q.imports) all))

  abbrev IfAny : Option Violation → Type 0
  IfAny None = Unit {0}
  IfAny (Some v) = P v.place

  sooner_in : (best : Option Violation) (v : Violation) → IfAny best → P v.place → IfAny (sooner best v)
  sooner_in None v b h = h
  sooner_in (Some w) v b h = by (comes_before v w)
    where
      by : (c : Bool) → IfAny (if c then Some v else Some w)
      by true = h
      by false = b

  first_of_in : (best : Option Violation) (vs : List Violation) → IfAny best → AreIn P vs → IfAny (first_from best vs)
  first_of_in best [] b all = b
  first_of_in best (v ∷ vs) b all = first_of_in (sooner best v) vs (sooner_in best v b all.0) all.1

  -- the first violation in modules whose names are placed so
  pub violation_in : (modules : List ModuleTree) (v : Violation) → AllByRecursion (ModuleIn P) modules → first_violation modules ≡ Some v → P v.place
  violation_in modules v all first = subst IfAny first (first_of_in None (violations modules) tt (all_in modules all))
