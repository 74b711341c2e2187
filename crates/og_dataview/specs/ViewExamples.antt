-- Worked examples of the data view (X.680 clauses 18 to 20, 25, 26, 29 and 49): modules with what they declare, or with the
-- violation that is told. The n-th name of a text stands in column n.
use Rattle.std.specs.Prelude.{◌≡◌, ℕ, Bool, true, false, List, [], ◌∷◌, Some, None, pos, negsuc, codes}
use Rattle.og_base.specs.declared.Place.{Place}
use Rattle.og_base.specs.declared.Rule.{Rule}
use Rattle.og_base.specs.declared.Rule.TheVariants.{N1, N2, N3, N7}
use Rattle.og_names.specs.declared.NameId.{NameId}
use Rattle.og_types.specs.declared.TypeId.{TypeId}
use Rattle.og_types.specs.declared.Part.{Part}
use Rattle.og_types.specs.declared.Sort.TheVariants as sort
use Rattle.og_lexer.specs.declared.AsnMark.TheVariants.{Range, Hyphen}
use Rattle.og_lexer.specs.declared.Spanned.{Spanned}
use Rattle.og_lexer.specs.declared.Token.{Token}
use Rattle.og_lexer.specs.declared.Token.TheVariants as token
use Rattle.og_asn1.specs.declared.syntax.Name.{Name}
use Rattle.og_asn1.specs.declared.syntax.ModuleTree.{ModuleTree}
use Rattle.og_asn1.specs.declared.syntax.SymbolTree.{SymbolTree}
use Rattle.og_asn1.specs.declared.syntax.SymbolTree.TheVariants as symbol
use Rattle.og_asn1.specs.declared.syntax.AssignmentTree.{AssignmentTree}
use Rattle.og_asn1.specs.declared.syntax.AssignmentTree.TheVariants as assignment
use Rattle.og_asn1.specs.declared.syntax.TypeTree.{TypeTree}
use Rattle.og_asn1.specs.declared.syntax.BaseTree.{BaseTree, Integer, Boolean, Reference, Enumerated, Choice, Sequence, SequenceOf, Real}
use Rattle.og_asn1.specs.declared.syntax.OfTree.{roll-OfTree}
use Rattle.og_asn1.specs.declared.syntax.SizeTree.TheVariants as size
use Rattle.og_asn1.specs.declared.syntax.EnumTree.{EnumTree}
use Rattle.og_asn1.specs.declared.syntax.EnumTree.TheVariants as item
use Rattle.og_asn1.specs.declared.syntax.CompTree.{CompTree}
use Rattle.og_asn1.specs.declared.syntax.CompTree as comp
use Rattle.og_asn1.specs.declared.syntax.PresenceTree.TheVariants as presence
use Rattle.og_asn1.specs.declared.syntax.ValueTree.{ValueTree}
use Rattle.og_asn1.specs.declared.syntax.ValueNode.{ValueNode}
use Rattle.og_asn1.specs.declared.syntax.ValueNode as written
use Rattle.og_asn1.specs.declared.syntax.RunTree.{RunTree}
use Rattle.og_dataview.specs.declared.view.NamedType.{NamedType}
use Rattle.og_dataview.specs.declared.view.Constant.{Constant}
use Rattle.og_dataview.specs.declared.view.DataView.{DataView}
use Rattle.og_asn1.specs.Reading.{named}
use Rattle.og_dataview.specs.Violations.{violations, first_violation}
use Rattle.og_dataview.specs.View.{view_of}

-- ---- texts

abbrev at : ℕ → Place
at column = record { file = 0; line = 1; column = column }

abbrev name : ℕ → List ℕ → Name
name column bytes = named (at column) (record { bytes = bytes })

abbrev token_at : ℕ → Token → Spanned
token_at column t = record { token = t; place = at column; start = 0; end = 0 }

abbrev number : ℕ → Spanned
number n = token_at 0 (token.Number n)

abbrev minus : Spanned
minus = token_at 0 (token.AsnMark Hyphen)

abbrev dots : Spanned
dots = token_at 0 (token.AsnMark Range)

abbrev word : ℕ → List ℕ → Spanned
word column bytes = token_at column (token.Name (record { bytes = bytes }))

abbrev run : List Spanned → RunTree
run tokens = record { place = at 0; tokens = tokens }

abbrev from_to : ℕ → ℕ → List Spanned
from_to lo hi = number lo ∷ dots ∷ number hi ∷ []

abbrev kind : BaseTree → TypeTree
kind base = record { place = at 0; tag = None; base = base }

abbrev integer : List Spanned → TypeTree
integer tokens = kind (Integer None (Some (run tokens)))

abbrev any_integer : TypeTree
any_integer = kind (Integer None None)

abbrev truth : TypeTree
truth = kind Boolean

abbrev real : TypeTree
real = kind (Real None)

abbrev ref : ℕ → List ℕ → TypeTree
ref column bytes = kind (Reference (name column bytes) None)

abbrev narrowed : ℕ → List ℕ → List Spanned → TypeTree
narrowed column bytes tokens = kind (Reference (name column bytes) (Some (run tokens)))

abbrev items : List Spanned → TypeTree → TypeTree
items tokens item = kind (SequenceOf (roll-OfTree (record { size = Some (size.Size (at 0) (run tokens)); item = item })))

abbrev part : ℕ → List ℕ → TypeTree → CompTree
part column bytes of = comp.Part (name column bytes) of None

abbrev optional : ℕ → List ℕ → TypeTree → CompTree
optional column bytes of = comp.Part (name column bytes) of (Some (presence.Optional (at 0)))

abbrev enumerator : ℕ → List ℕ → EnumTree
enumerator column bytes = item.Item (name column bytes) None

abbrev enumerator_with : ℕ → List ℕ → Bool → ℕ → EnumTree
enumerator_with column bytes is_negative digits = item.Item (name column bytes) (Some (record { place = at 0; is_negative = is_negative; digits = digits }))

abbrev declares : ℕ → List ℕ → TypeTree → AssignmentTree
declares column bytes of = assignment.Type (name column bytes) of

abbrev value_number : ℕ → ValueTree
value_number digits = record { place = at 0; node = written.Number false digits None }

abbrev value_name : ℕ → List ℕ → ValueTree
value_name column bytes = record { place = at column; node = written.Named (name column bytes) None }

abbrev constant : ℕ → List ℕ → TypeTree → ValueTree → AssignmentTree
constant column bytes of is = assignment.Value (name column bytes) of is

abbrev one_module : List AssignmentTree → List ModuleTree
one_module assignments = record { name = name 0 (codes "M"); object = None; tagging = None; exports = None; imports = None; assignments = assignments } ∷ []

-- ---- views

abbrev id : ℕ → TypeId
id n = record { 0 = n }

abbrev name_id : ℕ → NameId
name_id n = record { 0 = n }

abbrev type_is : ℕ → ℕ → ℕ → NamedType
type_is column n t = record { name = name_id n; sort = id t; place = at column }

abbrev number_is : ℕ → ℕ → ℕ → Constant
number_is column n value = record { name = name_id n; value = Some (pos value); place = at column }

abbrev no_number : ℕ → ℕ → Constant
no_number column n = record { name = name_id n; value = None; place = at column }

abbrev part_is : ℕ → ℕ → Part
part_is n t = record { name = name_id n; sort = id t }

abbrev Views : List AssignmentTree → DataView → Type 0
Views assignments view = (first_violation (one_module assignments) ≡ None) × (view_of [] (one_module assignments) ≡ view)

-- T ::= ENUMERATED { a (1), b, c (0), d }
abbrev pub FreeNumbersInOrder : Type 0
FreeNumbersInOrder =
    Views (declares 1 (codes "T") (kind (Enumerated (enumerator_with 2 (codes "a") false 1 ∷ enumerator 3 (codes "b") ∷ enumerator_with 4 (codes "c") false 0 ∷ enumerator 5 (codes "d") ∷ []))) ∷ [])
    (record { types = sort.Enumerated (name_id 1 ∷ name_id 2 ∷ name_id 3 ∷ name_id 4 ∷ []) (pos 1 ∷ pos 2 ∷ pos 0 ∷ pos 3 ∷ []) ∷ []; named = type_is 1 0 0 ∷ []; constants = [] })

-- ENUMERATED { a, b (-1), c (1), d }: 0, -1, 1, 2; one with the mark `...` is opaque, and its names are numbered all the same
abbrev pub NumbersBelowZeroAndOpenOnes : Type 0
NumbersBelowZeroAndOpenOnes =
    Views (declares 1 (codes "T") (kind (Enumerated (enumerator 2 (codes "a") ∷ enumerator_with 3 (codes "b") true 1 ∷ enumerator_with 4 (codes "c") false 1 ∷ enumerator 5 (codes "d") ∷ [])))
    ∷ declares 6 (codes "U") (kind (Enumerated (enumerator 7 (codes "e") ∷ item.Extension (at 0) ∷ []))) ∷ [])
    (record {
      types = sort.Enumerated (name_id 1 ∷ name_id 2 ∷ name_id 3 ∷ name_id 4 ∷ []) (pos 0 ∷ negsuc 0 ∷ pos 1 ∷ pos 2 ∷ []) ∷ sort.Opaque ∷ [];
      named = type_is 1 0 0 ∷ type_is 6 5 1 ∷ [];
      constants = [];
    })

-- T ::= INTEGER (0 .. 9)   U ::= T (5 .. 20)   V ::= T (10 .. 20)   W ::= U   X ::= INTEGER   Y ::= T (-1 .. 9223372036854775808)
abbrev pub RangesIntersect : Type 0
RangesIntersect =
    Views (declares 1 (codes "T") (integer (from_to 0 9)) ∷ declares 2 (codes "U") (narrowed 3 (codes "T") (from_to 5 20)) ∷ declares 4 (codes "V") (narrowed 5 (codes "T") (from_to 10 20))
    ∷ declares 6 (codes "W") (ref 7 (codes "U")) ∷ declares 8 (codes "X") any_integer ∷ declares 9 (codes "Y") (narrowed 10 (codes "t") (minus ∷ from_to 1 9223372036854775808)) ∷ [])
    (record {
      types = sort.Int (pos 0) (pos 9) ∷ sort.Int (pos 5) (pos 9) ∷ sort.Int (pos 0) (pos 9) ∷ sort.Opaque ∷ sort.Opaque ∷ [];
      named = type_is 1 0 0 ∷ type_is 2 1 1 ∷ type_is 4 2 3 ∷ type_is 6 3 1 ∷ type_is 8 4 4 ∷ type_is 9 5 2 ∷ [];
      constants = [];
    })

-- T ::= INTEGER (0 .. 9223372036854775808)   U ::= T (5 .. 20)   A ::= B (0 .. 5)   B ::= A   O ::= U (9 .. 5)
abbrev pub OnlyWhatIsLeftCounts : Type 0
OnlyWhatIsLeftCounts =
    Views (declares 1 (codes "T") (integer (from_to 0 9223372036854775808)) ∷ declares 2 (codes "U") (narrowed 3 (codes "T") (from_to 5 20))
    ∷ declares 4 (codes "A") (narrowed 5 (codes "B") (from_to 0 5)) ∷ declares 6 (codes "B") (ref 7 (codes "A")) ∷ declares 8 (codes "O") (narrowed 9 (codes "U") (from_to 9 5)) ∷ [])
    (record {
      types = sort.Int (pos 5) (pos 20) ∷ sort.Opaque ∷ sort.Opaque ∷ sort.Opaque ∷ [];
      named = type_is 1 0 1 ∷ type_is 2 1 0 ∷ type_is 4 2 2 ∷ type_is 6 3 2 ∷ type_is 8 4 3 ∷ [];
      constants = [];
    })

-- n T ::= 12   m INTEGER ::= n   c INTEGER ::= d   d INTEGER ::= c   b BOOLEAN ::= 1   T ::= INTEGER (0 .. n)   U ::= INTEGER (0 .. c)
abbrev pub ConstantsAreFollowed : Type 0
ConstantsAreFollowed =
    Views (constant 1 (codes "n") (ref 2 (codes "T")) (value_number 12) ∷ constant 3 (codes "m") any_integer (value_name 4 (codes "n"))
    ∷ constant 5 (codes "c") any_integer (value_name 6 (codes "d")) ∷ constant 7 (codes "d") any_integer (value_name 8 (codes "c")) ∷ constant 9 (codes "b") truth (value_number 1)
    ∷ declares 10 (codes "T") (integer (number 0 ∷ dots ∷ word 11 (codes "n") ∷ [])) ∷ declares 12 (codes "U") (integer (number 0 ∷ dots ∷ word 13 (codes "c") ∷ [])) ∷ [])
    (record {
      types = sort.Bool ∷ sort.Int (pos 0) (pos 12) ∷ sort.Opaque ∷ sort.Opaque ∷ sort.Opaque ∷ sort.Opaque ∷ [];
      named = type_is 10 5 1 ∷ type_is 12 6 5 ∷ [];
      constants = number_is 1 0 12 ∷ number_is 3 1 12 ∷ no_number 5 2 ∷ no_number 7 3 ∷ no_number 9 4 ∷ [];
    })

-- S ::= SEQUENCE { x P, y BOOLEAN }   P ::= SEQUENCE (SIZE (0 .. 3)) OF INTEGER (1 .. 2)   C ::= CHOICE { x S, z P }
abbrev pub TypesComeByDepth : Type 0
TypesComeByDepth =
    Views (declares 1 (codes "S") (kind (Sequence (part 2 (codes "x") (ref 3 (codes "P")) ∷ part 4 (codes "y") truth ∷ [])))
    ∷ declares 5 (codes "P") (items (from_to 0 3) (integer (from_to 1 2)))
    ∷ declares 6 (codes "C") (kind (Choice (part 7 (codes "x") (ref 8 (codes "S")) ∷ part 9 (codes "z") (ref 10 (codes "P")) ∷ []))) ∷ [])
    (record {
      types = sort.Bool ∷ sort.Int (pos 1) (pos 2) ∷ sort.SeqOf 0 3 (id 1) ∷ sort.Sequence (part_is 1 2 ∷ part_is 2 0 ∷ []) ∷ sort.Choice (part_is 1 3 ∷ part_is 5 2 ∷ []) ∷ [];
      named = type_is 1 0 3 ∷ type_is 5 3 2 ∷ type_is 6 4 4 ∷ [];
      constants = [];
    })

-- A ::= SEQUENCE { a A }   B ::= C   C ::= B   R ::= REAL   Q ::= SEQUENCE { r R }   O ::= SEQUENCE { b BOOLEAN OPTIONAL }
abbrev pub OpaqueTypesAreFound : Type 0
OpaqueTypesAreFound =
    Views (declares 1 (codes "A") (kind (Sequence (part 2 (codes "a") (ref 3 (codes "A")) ∷ []))) ∷ declares 4 (codes "B") (ref 5 (codes "C")) ∷ declares 6 (codes "C") (ref 7 (codes "B"))
    ∷ declares 8 (codes "R") real ∷ declares 9 (codes "Q") (kind (Sequence (part 10 (codes "r") (ref 11 (codes "R")) ∷ [])))
    ∷ declares 12 (codes "O") (kind (Sequence (optional 13 (codes "b") truth ∷ []))) ∷ [])
    (record {
      types = sort.Bool ∷ sort.Opaque ∷ sort.Opaque ∷ sort.Opaque ∷ sort.Opaque ∷ sort.Opaque ∷ sort.Opaque ∷ [];
      named = type_is 1 0 1 ∷ type_is 4 1 2 ∷ type_is 6 2 3 ∷ type_is 8 3 4 ∷ type_is 9 4 5 ∷ type_is 12 5 6 ∷ [];
      constants = [];
    })

-- B ::= Boolean   I ::= Integer   V ::= UTF8String   N ::= Integer (0 .. 9)   E ::= SEQUENCE { }
abbrev pub NamesWithoutDeclaration : Type 0
NamesWithoutDeclaration =
    Views (declares 1 (codes "B") (ref 2 (codes "Boolean")) ∷ declares 3 (codes "I") (ref 4 (codes "Integer")) ∷ declares 5 (codes "V") (ref 6 (codes "UTF8String"))
    ∷ declares 7 (codes "N") (narrowed 8 (codes "Integer") (from_to 0 9)) ∷ declares 9 (codes "E") (kind (Sequence [])) ∷ [])
    (record {
      types = sort.Bool ∷ sort.Sequence [] ∷ sort.Opaque ∷ sort.Opaque ∷ sort.Opaque ∷ [];
      named = type_is 1 0 0 ∷ type_is 3 1 2 ∷ type_is 5 2 3 ∷ type_is 7 3 4 ∷ type_is 9 4 1 ∷ [];
      constants = [];
    })

-- ---- violations

abbrev Breaks : List AssignmentTree → Rule → ℕ → Type 0
Breaks assignments rule column = first_violation (one_module assignments) ≡ Some (record { rule = rule; place = at column })

-- T ::= Tt   n INTEGER ::= m   I ::= INTEGER (0 .. k)   U ::= Utf8String   V ::= SEQUENCE { v BOOLEAN DEFAULT x }
abbrev pub UnknownNames : Type 0
UnknownNames =
    Breaks (declares 1 (codes "T") (ref 2 (codes "Tt")) ∷ []) N1 2
    × Breaks (constant 1 (codes "n") any_integer (value_name 2 (codes "m")) ∷ []) N1 2
    × Breaks (declares 1 (codes "I") (integer (number 0 ∷ dots ∷ word 2 (codes "k") ∷ [])) ∷ []) N1 2
    × Breaks (declares 1 (codes "U") (ref 2 (codes "Utf8String")) ∷ []) N1 2
    × Breaks (declares 1 (codes "T") (ref 2 (codes "N")) ∷ constant 3 (codes "n") any_integer (value_number 0) ∷ []) N3 2
    × Breaks (declares 1 (codes "T") (integer (word 2 (codes "t") ∷ [])) ∷ []) N3 2
    × Breaks (declares 1 (codes "T") (integer (word 2 (codes "write") ∷ [])) ∷ []) N3 2
    × Breaks (declares 1 (codes "T") (ref 2 (codes "Length")) ∷ []) N3 2

-- the name as the value of a constant that is no INTEGER, and words like MAX in a range, are not looked for; the operators are there
abbrev pub NamesThatAreNotLookedFor : Type 0
NamesThatAreNotLookedFor =
    (first_violation (one_module (constant 1 (codes "b") truth (value_name 2 (codes "m")) ∷ [])) ≡ None)
    × (first_violation (one_module (declares 1 (codes "T") (integer (minus ∷ word 2 (codes "k") ∷ [])) ∷ [])) ≡ None)
    × (first_violation (one_module (declares 1 (codes "T") (integer (number 0 ∷ dots ∷ word 2 (codes "MAX") ∷ [])) ∷ [])) ≡ None)
    × (first_violation (one_module (declares 1 (codes "T") (integer (number 0 ∷ dots ∷ word 2 (codes "length") ∷ [])) ∷ [])) ≡ None)

-- T-a T-a | T-a T_a | Boolean | { a, a } | { a-b, a-B } | { a (1), b (1) }
abbrev pub NamesTwice : Type 0
NamesTwice =
    Breaks (declares 1 (codes "T-a") truth ∷ declares 2 (codes "T-a") truth ∷ []) N2 2
    × Breaks (declares 1 (codes "T-a") truth ∷ declares 2 (codes "T-A") truth ∷ []) N7 2
    × Breaks (declares 1 (codes "Boolean") truth ∷ []) N7 1
    × Breaks (constant 1 (codes "n") any_integer (value_number 0) ∷ constant 2 (codes "n") any_integer (value_number 1) ∷ []) N2 2
    × Breaks (declares 1 (codes "T") (kind (Enumerated (enumerator 2 (codes "a") ∷ enumerator 3 (codes "a") ∷ []))) ∷ []) N2 3
    × Breaks (declares 1 (codes "T") (kind (Enumerated (enumerator_with 2 (codes "a") false 1 ∷ enumerator_with 3 (codes "b") false 1 ∷ []))) ∷ []) N2 3
    × Breaks (declares 1 (codes "T") (kind (Enumerated (enumerator_with 2 (codes "a") false 0 ∷ enumerator_with 3 (codes "b") true 0 ∷ []))) ∷ []) N2 3
    × Breaks (declares 1 (codes "T") (kind (Sequence (part 2 (codes "a-b") truth ∷ optional 3 (codes "a-B") truth ∷ []))) ∷ []) N7 3

-- of three names each later one is looked at beside all before it: T-a T-A T-a | { a, b (7), A (7) }
abbrev pub ThreeNames : Type 0
ThreeNames =
    (violations (one_module (declares 1 (codes "T-a") truth ∷ declares 2 (codes "T-A") truth ∷ declares 3 (codes "T-a") truth ∷ []))
    ≡ record { rule = N7; place = at 2 } ∷ record { rule = N2; place = at 3 } ∷ [])
    × (violations (one_module (declares 1 (codes "T") (kind (Enumerated (enumerator 2 (codes "a") ∷ enumerator_with 3 (codes "b") false 7 ∷ enumerator_with 4 (codes "A") false 7 ∷ []))) ∷ []))
    ≡ record { rule = N7; place = at 4 } ∷ record { rule = N2; place = at 4 } ∷ [])

-- a type and a constant, and parts of two types, may have one name
abbrev pub NamesOfDifferentLists : Type 0
NamesOfDifferentLists =
    (first_violation (one_module (declares 1 (codes "N") truth ∷ constant 2 (codes "n") any_integer (value_number 0) ∷ [])) ≡ None)
    × (first_violation (one_module (declares 1 (codes "T") (kind (Sequence (part 2 (codes "a") (kind (Sequence (part 3 (codes "a") truth ∷ []))) ∷ []))) ∷ [])) ≡ None)

-- IMPORTS of these from a module, beside the module N, which declares the type T and the constant n
abbrev imports : List SymbolTree → Name → List ModuleTree
imports symbols from =
    record {
      name = name 1 (codes "M");
      object = None;
      tagging = None;
      exports = None;
      imports = Some (record { place = at 0; imports = record { symbols = symbols; «module» = from; object = None } ∷ [] });
      assignments = [];
    }
    ∷ record {
      name = name 20 (codes "N");
      object = None;
      tagging = None;
      exports = None;
      imports = None;
      assignments = declares 21 (codes "T") truth ∷ constant 22 (codes "n") any_integer (value_number 0) ∷ [];
    } ∷ []

abbrev pub ImportsAreChecked : Type 0
ImportsAreChecked =
    (first_violation (imports (symbol.Type (name 2 (codes "T")) ∷ symbol.Value (name 3 (codes "n")) ∷ []) (name 4 (codes "N"))) ≡ None)
    × (first_violation (imports (symbol.Type (name 2 (codes "T")) ∷ symbol.Type (name 3 (codes "U")) ∷ []) (name 4 (codes "N"))) ≡ Some (record { rule = N1; place = at 3 }))
    × (first_violation (imports (symbol.Type (name 2 (codes "T")) ∷ symbol.Value (name 3 (codes "t")) ∷ []) (name 4 (codes "N"))) ≡ Some (record { rule = N3; place = at 3 }))
    × (first_violation (imports (symbol.Value (name 2 (codes "x")) ∷ symbol.Type (name 3 (codes "T")) ∷ []) (name 4 (codes "O"))) ≡ Some (record { rule = N1; place = at 2 }))
