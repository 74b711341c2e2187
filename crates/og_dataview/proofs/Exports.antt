-- What modules export, found one after the other, and that it says of IMPORTS what the modules say.
use Rattle.std.proofs.Common.{◌≡◌, ℕ, ◌+◌, ◌≤◌, ◌<◌, Bool, true, false, ◌&&◌, ◌||◌, List, [], ◌∷◌, ◌++◌, length, get_or, Option, Some, None, is_some, refl, sym, ap, ◌∙◌, if◌then◌else◌, filter}
use Rattle.std.specs.List.{list_any, flat_map}
use Rattle.std.specs.Str.{bytes_eq}
use Rattle.og_base.specs.declared.Violation.{Violation}
use Rattle.og_names.specs.Folding.{place_of}
use Rattle.og_names.proofs.Loops.{Left, left_first, left_more, left_all}
use Rattle.og_asn1.specs.declared.syntax.Name.{Name}
use Rattle.og_asn1.specs.declared.syntax.ModuleTree.{ModuleTree}
use Rattle.og_asn1.specs.declared.syntax.ImportsTree.{ImportsTree}
use Rattle.og_asn1.specs.declared.syntax.ImportTree.{ImportTree}
use Rattle.og_asn1.specs.declared.syntax.SymbolTree.{SymbolTree}
use Rattle.og_asn1.specs.declared.syntax.SymbolTree.TheVariants as symbol
use Rattle.og_asn1.specs.declared.syntax.AssignmentTree.{AssignmentTree}
use Rattle.og_asn1.specs.declared.syntax.AssignmentTree.TheVariants as assignment
use Rattle.og_dataview.specs.declared.imports.Exported.{Exported}
use Rattle.og_dataview.specs.Scope.{key}
use Rattle.og_dataview.specs.Violations.{looked_up, first_symbol, folds_as, declares_type, declares_constant, has_type, has_constant, modules_named, imported_symbol, imported_from, in_import, in_imports, in_module}
use Rattle.og_dataview.specs.Exported.{has, is_type_of, is_constant_of, types_in, constants_in, IsExported, symbol_by, import_by, imports_by, module_by}

-- ---- tests

or_assoc : (a b c : Bool) → (a || (b || c)) ≡ ((a || b) || c)
or_assoc true b c = refl
or_assoc false b c = refl

and_or : (old e x more : Bool) → (old || (e && (x || more))) ≡ ((old || (e && x)) || (e && more))
and_or true e x more = refl
and_or false true x more = refl
and_or false false x more = refl

and_nothing : (old e : Bool) → (old || (e && false)) ≡ old
and_nothing true e = refl
and_nothing false true = refl
and_nothing false false = refl

or_nothing : (old : Bool) → (old || false) ≡ old
or_nothing true = refl
or_nothing false = refl

-- ---- one module more

pub record Exporting (now : Exported) (ms : List ModuleTree) (i : ℕ) : Type 0 where
  pub modules : (a : List ℕ) → Left (λ ys. is_some (place_of now.modules a) || list_any (λ (m : ModuleTree). bytes_eq a (key m.name)) ys) ms i (list_any (λ (m : ModuleTree). bytes_eq a (key m.name)) ms)
  pub types : (a b : List ℕ) → Left (λ ys. has now.types a b || list_any (types_in a b) ys) ms i (list_any (types_in a b) ms)
  pub constants : (a b : List ℕ) → Left (λ ys. has now.constants a b || list_any (constants_in a b) ys) ms i (list_any (constants_in a b) ms)

pub exporting_more : (now next : Exported) (ms : List ModuleTree) (i : ℕ) (m : ModuleTree) → i < length ms → m ≡ get_or ms i m
    → ((a : List ℕ) → is_some (place_of next.modules a) ≡ (is_some (place_of now.modules a) || bytes_eq a (key m.name)))
    → ((a b : List ℕ) → has next.types a b ≡ (has now.types a b || types_in a b m))
    → ((a b : List ℕ) → has next.constants a b ≡ (has now.constants a b || constants_in a b m))
    → Exporting now ms i → Exporting next ms (i + 1)
exporting_more now next ms i m lt at modules types constants before = record {
  modules = λ a. left_more _ _ ms i m _ lt at (λ ys. or_assoc (is_some (place_of now.modules a)) (bytes_eq a (key m.name)) (list_any (λ (n : ModuleTree). bytes_eq a (key n.name)) ys) ∙ ap (λ (b : Bool). b || list_any (λ (n : ModuleTree). bytes_eq a (key n.name)) ys) (sym (modules a))) (before.modules a);
  types = λ a b. left_more _ _ ms i m _ lt at (λ ys. or_assoc (has now.types a b) (types_in a b m) (list_any (types_in a b) ys) ∙ ap (λ (x : Bool). x || list_any (types_in a b) ys) (sym (types a b))) (before.types a b);
  constants = λ a b. left_more _ _ ms i m _ lt at (λ ys. or_assoc (has now.constants a b) (constants_in a b m) (list_any (constants_in a b) ys) ∙ ap (λ (x : Bool). x || list_any (constants_in a b) ys) (sym (constants a b))) (before.constants a b);
}

pub exporting_all : (now : Exported) (ms : List ModuleTree) (i : ℕ) → length ms ≤ i → Exporting now ms i → IsExported ms now
exporting_all now ms i le exporting = record {
  modules = λ a. sym (or_nothing _) ∙ left_all _ ms i _ le (exporting.modules a);
  types = λ a b. sym (or_nothing _) ∙ left_all _ ms i _ le (exporting.types a b);
  constants = λ a b. sym (or_nothing _) ∙ left_all _ ms i _ le (exporting.constants a b);
}

-- ---- one declaration more, of a module with this name

pub record Declaring (first now : List (List ℕ × List ℕ)) (k : List ℕ) (is_of : List ℕ → AssignmentTree → Bool) (xs : List AssignmentTree) (i : ℕ) : Type 0 where
  pub each : (a b : List ℕ) → Left (λ ys. has now a b || (bytes_eq a k && list_any (is_of b) ys)) xs i (has first a b || (bytes_eq a k && list_any (is_of b) xs))

pub declaring_first : (first : List (List ℕ × List ℕ)) (k : List ℕ) (is_of : List ℕ → AssignmentTree → Bool) (xs : List AssignmentTree) → Declaring first first k is_of xs 0
declaring_first first k is_of xs = record { each = λ a b. left_first (λ ys. has first a b || (bytes_eq a k && list_any (is_of b) ys)) xs }

pub declaring_more : (first now next : List (List ℕ × List ℕ)) (k : List ℕ) (is_of : List ℕ → AssignmentTree → Bool) (xs : List AssignmentTree) (i : ℕ) (x : AssignmentTree) → i < length xs → x ≡ get_or xs i x
    → ((a b : List ℕ) → has next a b ≡ (has now a b || (bytes_eq a k && is_of b x))) → Declaring first now k is_of xs i → Declaring first next k is_of xs (i + 1)
declaring_more first now next k is_of xs i x lt at is before = record {
  each = λ a b. left_more (λ ys. has now a b || (bytes_eq a k && list_any (is_of b) ys)) (λ ys. has next a b || (bytes_eq a k && list_any (is_of b) ys)) xs i x _ lt at
      (λ ys. and_or (has now a b) (bytes_eq a k) (is_of b x) (list_any (is_of b) ys) ∙ ap (λ (t : Bool). t || (bytes_eq a k && list_any (is_of b) ys)) (sym (is a b))) (before.each a b);
}

pub declaring_all : (first now : List (List ℕ × List ℕ)) (k : List ℕ) (is_of : List ℕ → AssignmentTree → Bool) (xs : List AssignmentTree) (i : ℕ) → length xs ≤ i → Declaring first now k is_of xs i
    → (a b : List ℕ) → has now a b ≡ (has first a b || (bytes_eq a k && list_any (is_of b) xs))
declaring_all first now k is_of xs i le declaring a b =
    sym (and_nothing (has now a b) (bytes_eq a k)) ∙ left_all (λ ys. has now a b || (bytes_eq a k && list_any (is_of b) ys)) xs i _ le (declaring.each a b)

pub ruleset exports = (exporting_more, exporting_all, declaring_first, declaring_more, declaring_all)

-- ---- what the modules of a name declare

taken : {X : Type 0} (q : X → Bool) (b : Bool) (x : X) (ys : List X) → list_any q (if b then x ∷ ys else ys) ≡ ((b && q x) || list_any q ys)
taken q true x ys = refl
taken q false x ys = refl

any_of_filter : {X : Type 0} (p q : X → Bool) (xs : List X) → list_any q (filter p xs) ≡ list_any (λ x. p x && q x) xs
any_of_filter p q [] = refl
any_of_filter p q (x ∷ xs) = taken q (p x) x (filter p xs) ∙ ap (λ (b : Bool). (p x && q x) || b) (any_of_filter p q xs)

any_same : {X : Type 0} (p q : X → Bool) (xs : List X) → ((x : X) → p x ≡ q x) → list_any p xs ≡ list_any q xs
any_same p q [] h = refl
any_same p q (x ∷ xs) h = λ i. h x i || any_same p q xs h i

pub flat_map_same : {X Y : Type 0} (f g : X → List Y) (xs : List X) → ((x : X) → f x ≡ g x) → flat_map f xs ≡ flat_map g xs
flat_map_same f g [] h = refl
flat_map_same f g (x ∷ xs) h = λ i. h x i ++ flat_map_same f g xs h i

type_same : (name : Name) (a : AssignmentTree) → declares_type name a ≡ is_type_of (key name) a
type_same name (assignment.Type declared is) = refl
type_same name (assignment.Value declared of is) = refl

constant_same : (name : Name) (a : AssignmentTree) → declares_constant name a ≡ is_constant_of (key name) a
constant_same name (assignment.Type declared is) = refl
constant_same name (assignment.Value declared of is) = refl

has_type_by : (modules : List ModuleTree) (of name : Name) → has_type (modules_named modules of) name ≡ list_any (types_in (key of) (key name)) modules
has_type_by modules of name =
    any_of_filter (λ (m : ModuleTree). folds_as of m.name) (λ (m : ModuleTree). list_any (declares_type name) m.assignments) modules
    ∙ any_same _ (types_in (key of) (key name)) modules (λ m. ap (λ (b : Bool). bytes_eq (key of) (key m.name) && b) (any_same (declares_type name) (is_type_of (key name)) m.assignments (type_same name)))

has_constant_by : (modules : List ModuleTree) (of name : Name) → has_constant (modules_named modules of) name ≡ list_any (constants_in (key of) (key name)) modules
has_constant_by modules of name =
    any_of_filter (λ (m : ModuleTree). folds_as of m.name) (λ (m : ModuleTree). list_any (declares_constant name) m.assignments) modules
    ∙ any_same _ (constants_in (key of) (key name)) modules (λ m. ap (λ (b : Bool). bytes_eq (key of) (key m.name) && b) (any_same (declares_constant name) (is_constant_of (key name)) m.assignments (constant_same name)))

-- ---- violations

module _ (modules : List ModuleTree) (exported : Exported) (is : IsExported modules exported) where
  type_is : (of name : Name) → has exported.types (key of) (key name) ≡ has_type (modules_named modules of) name
  type_is of name = is.types (key of) (key name) ∙ sym (has_type_by modules of name)

  constant_is : (of name : Name) → has exported.constants (key of) (key name) ≡ has_constant (modules_named modules of) name
  constant_is of name = is.constants (key of) (key name) ∙ sym (has_constant_by modules of name)

  symbol_is : (of : Name) (s : SymbolTree) → symbol_by exported of s ≡ imported_symbol (modules_named modules of) s
  symbol_is of (symbol.Type name) = λ i. looked_up (type_is of name i) (constant_is of name i) name
  symbol_is of (symbol.Value name) = λ i. looked_up (constant_is of name i) (type_is of name i) name

  -- whether any module has the name is whether the list of those that have it is not empty
  from_named : (symbols : List SymbolTree) (some : List Violation) (named : List ModuleTree) (b : Bool) → list_any (λ (m : ModuleTree). true) named ≡ b → (named' : List ModuleTree) → named ≡ named'
      → some ≡ flat_map (imported_symbol named') symbols → (if b then some else first_symbol symbols) ≡ imported_from named' symbols
  from_named symbols some named b e [] same f = rw (sym e, same) refl
  from_named symbols some named b e (m ∷ ms) same f = rw (sym e, same) f

  import_is : (import : ImportTree) → import_by exported import ≡ in_import modules import
  import_is import =
      from_named import.symbols (flat_map (symbol_by exported import.module) import.symbols) (modules_named modules import.module) (is_some (place_of exported.modules (key import.module)))
      (any_of_filter (λ (m : ModuleTree). folds_as import.module m.name) (λ m. true) modules
      ∙ any_same _ (λ (m : ModuleTree). bytes_eq (key import.module) (key m.name)) modules (λ m. and_true (bytes_eq (key import.module) (key m.name)))
      ∙ sym (is.modules (key import.module)))
      (modules_named modules import.module) refl
      (flat_map_same _ _ import.symbols (symbol_is import.module))
    where
      and_true : (b : Bool) → (b && true) ≡ b
      and_true true = refl
      and_true false = refl

  imports_is : (o : Option ImportsTree) → imports_by exported o ≡ in_imports modules o
  imports_is None = refl
  imports_is (Some i) = flat_map_same (import_by exported) (in_import modules) i.imports import_is

  module_is : (m : ModuleTree) → module_by exported m ≡ in_module modules m
  module_is m = imports_is m.imports

pub imports_are : (modules : List ModuleTree) (exported : Exported) → IsExported modules exported → (ms : List ModuleTree) → flat_map (module_by exported) ms ≡ flat_map (in_module modules) ms
imports_are modules exported is ms = flat_map_same (module_by exported) (in_module modules) ms (module_is modules exported is)
