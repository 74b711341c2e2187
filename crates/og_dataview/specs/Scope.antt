-- The scope of all modules together. A name of a type or of a constant stands for the first one that is declared by it: names are
-- compared without case, and a hyphen counts as an underscore. X.680 (clauses 12.2 and 13) gives each module a scope of its own and
-- compares names with case.
use Rattle.std.specs.Prelude.{ℕ, Bool, ◌||◌, List, [], ◌∷◌, map, Option, is_some, codes}
use Rattle.std.specs.List.{list_any}
use Rattle.std.specs.Str.{bytes_eq}
use Rattle.og_names.specs.Folding.{folded, place_of}
use Rattle.og_flat.specs.declared.flat.Flat.{Flat}
use Rattle.og_flat.specs.declared.flat.TypeNode.{TypeNode}
use Rattle.og_flat.specs.declared.flat.ConstantNode.{ConstantNode}
use Rattle.og_asn1.specs.declared.syntax.Name.{Name}

-- the form in which a name is compared
abbrev pub key : Name → List ℕ
key name = folded name.word.bytes

abbrev pub type_keys : Flat → List (List ℕ)
type_keys flat = map (λ (t : TypeNode). key t.name) flat.types

abbrev pub constant_keys : Flat → List (List ℕ)
constant_keys flat = map (λ (c : ConstantNode). key c.name) flat.constants

-- the first declared type of this name, by its place among those declared
abbrev pub find_type : Flat → Name → Option ℕ
find_type flat name = place_of (type_keys flat) (key name)

abbrev pub find_constant : Flat → Name → Option ℕ
find_constant flat name = place_of (constant_keys flat) (key name)

abbrev pub is_declared_type : Flat → Name → Bool
is_declared_type flat name = is_some (find_type flat name)

abbrev pub is_declared_constant : Flat → Name → Bool
is_declared_constant flat name = is_some (find_constant flat name)

-- ---- names that are there without a declaration

abbrev pub is_boolean : Name → Bool
is_boolean name = bytes_eq (key name) (codes "boolean")

abbrev pub is_integer : Name → Bool
is_integer name = bytes_eq (key name) (codes "integer")

-- the types without a declaration whose names are compared as all names are
abbrev pub is_built_in : Name → Bool
is_built_in name = is_boolean name || is_integer name

-- strings and times, by their names with case and hyphens (X.680 clauses 41, 46 and 47)
abbrev pub predefined : List (List ℕ)
predefined = codes "NumericString" ∷ codes "PrintableString" ∷ codes "IA5String" ∷ codes "UTF8String" ∷ codes "VisibleString" ∷ codes "UTCTime" ∷ codes "GeneralizedTime" ∷ []

abbrev pub is_predefined : Name → Bool
is_predefined name = list_any (bytes_eq name.word.bytes) predefined

-- the procedures of SDL/PR that stand outside all scopes
abbrev pub procedures : List (List ℕ)
procedures = codes "set_timer" ∷ codes "reset_timer" ∷ codes "append" ∷ codes "write" ∷ codes "writeln" ∷ []

abbrev pub is_procedure : Name → Bool
is_procedure name = list_any (bytes_eq (key name)) procedures

-- its operators, whose names are of the kind of those of variables and constants
abbrev pub operators : List (List ℕ)
operators = codes "length" ∷ codes "present" ∷ []

abbrev pub is_operator : Name → Bool
is_operator name = list_any (bytes_eq (key name)) operators
