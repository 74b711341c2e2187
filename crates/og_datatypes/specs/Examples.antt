-- Worked examples of the types of a view (X.680 clauses 18 to 20, 25, 29, 49 and 51), for modules laid out flat. The
-- names a, b and c have the numbers 0, 1 and 2.
use Rattle.std.specs.Prelude.{◌≡◌, ℕ, zero, suc, Bool, true, false, List, [], ◌∷◌, ◌++◌, map, Some, None, pos, negsuc, codes}
use Rattle.og_types.specs.declared.TypeId.{TypeId}
use Rattle.og_types.specs.declared.Sort.{Sort}
use Rattle.og_types.specs.declared.Sort.TheVariants as sort
use Rattle.og_asn1.specs.declared.syntax.Name.{Name}
use Rattle.og_asn1.specs.Reading.{named}
use Rattle.og_flat.specs.declared.flat.Flat.{Flat}
use Rattle.og_flat.specs.declared.flat.Bound.{Bound}
use Rattle.og_flat.specs.declared.flat.Bound.TheVariants as bound
use Rattle.og_flat.specs.declared.flat.Range.{Range}
use Rattle.og_flat.specs.declared.flat.Limits.TheVariants as limits
use Rattle.og_flat.specs.declared.flat.Enumerator.{Enumerator}
use Rattle.og_flat.specs.declared.flat.PartNode.{PartNode}
use Rattle.og_flat.specs.declared.flat.Node.{Node}
use Rattle.og_flat.specs.declared.flat.Node.TheVariants as node
use Rattle.og_flat.specs.declared.flat.TypeNode.{TypeNode}
use Rattle.og_flat.specs.declared.flat.ConstantValue.TheVariants as value
use Rattle.og_dataview.specs.View.{in_order, is_supported, sort_of, enumerator_numbers}

abbrev name : List ℕ → Name
name bytes = named (record { file = 0; line = 1; column = 1 }) (record { bytes = bytes })

abbrev from_to : Bound → Bound → Range
from_to lo hi = record { lo = lo; hi = hi }

abbrev number : ℕ → Bound
number n = bound.Number false n

abbrev minus : ℕ → Bound
minus n = bound.Number true n

abbrev integer : Range → Node
integer range = node.Integer (limits.Range range)

abbrev items : Range → ℕ → Node
items range item = node.SequenceOf (limits.Size range) item

abbrev type_is : List ℕ → ℕ → TypeNode
type_is bytes n = record { name = name bytes; node = n }

abbrev enumerator : List ℕ → Enumerator
enumerator bytes = record { name = name bytes; number = None }

abbrev enumerator_with : List ℕ → Bool → ℕ → Enumerator
enumerator_with bytes is_negative digits = record { name = name bytes; number = Some (record { is_negative = is_negative; digits = digits }) }

abbrev part : List ℕ → ℕ → PartNode
part bytes n = record { name = name bytes; node = n; default = None }

-- types without names
abbrev only : List Node → Flat
only nodes = record { nodes = nodes; types = []; constants = [] }

abbrev types_of : Flat → List Sort
types_of flat = map (sort_of flat (codes "a" ∷ codes "b" ∷ codes "c" ∷ [])) (in_order flat)

abbrev id : ℕ → TypeId
id n = record { 0 = n }

-- INTEGER (-2^63 .. 2^63 - 1) | (-2^63 - 1 .. 0) | (0 .. 2^63) | (5 .. 4) | (7)
abbrev pub BoundsAtTheirEdges : Type 0
BoundsAtTheirEdges =
    (types_of (only (integer (from_to (minus 9223372036854775808) (number 9223372036854775807)) ∷ integer (from_to (minus 9223372036854775809) (number 0)) ∷ []))
    ≡ sort.Int (negsuc 9223372036854775807) (pos 9223372036854775807) ∷ sort.Opaque ∷ [])
    × (types_of (only (integer (from_to (number 0) (number 9223372036854775808)) ∷ integer (from_to (number 5) (number 4)) ∷ integer (from_to (number 7) (number 7)) ∷ []))
    ≡ sort.Int (pos 7) (pos 7) ∷ sort.Opaque ∷ sort.Opaque ∷ [])

-- SEQUENCE OF BOOLEAN with SIZE (0 .. 65536) | (65537) | (3) | (4 .. 3) | (-1 .. 3)
abbrev pub SizesAtTheirEdges : Type 0
SizesAtTheirEdges =
    types_of (only (node.Boolean ∷ items (from_to (number 0) (number 65536)) 0 ∷ items (from_to (number 65537) (number 65537)) 0 ∷ items (from_to (number 3) (number 3)) 0
    ∷ items (from_to (number 4) (number 3)) 0 ∷ items (from_to (minus 1) (number 3)) 0 ∷ []))
    ≡ sort.Bool ∷ sort.SeqOf 0 65536 (id 0) ∷ sort.SeqOf 3 3 (id 0) ∷ sort.Opaque ∷ sort.Opaque ∷ sort.Opaque ∷ []

-- n INTEGER ::= 4   SEQUENCE (SIZE (1 .. n)) OF INTEGER (0 .. n)
abbrev pub ConstantsBoundTypes : Type 0
ConstantsBoundTypes =
    types_of (record {
      nodes = node.Integer limits.Absent ∷ integer (from_to (number 0) (bound.Named (name (codes "n")))) ∷ items (from_to (number 1) (bound.Named (name (codes "n")))) 1 ∷ [];
      types = [];
      constants = record { name = name (codes "n"); node = 0; value = value.Number (record { is_negative = false; digits = 4 }) } ∷ [];
    })
    ≡ sort.Int (pos 0) (pos 4) ∷ sort.SeqOf 1 4 (id 0) ∷ sort.Opaque ∷ []

-- A ::= INTEGER (0 .. 100)   B ::= A (10 .. 200)   B (-5 .. 50)
abbrev pub RangesLeaveLess : Type 0
RangesLeaveLess =
    types_of (record {
      nodes = integer (from_to (number 0) (number 100)) ∷ node.Reference (name (codes "A")) (limits.Range (from_to (number 10) (number 200)))
          ∷ node.Reference (name (codes "B")) (limits.Range (from_to (minus 5) (number 50))) ∷ [];
      types = type_is (codes "A") 0 ∷ type_is (codes "B") 1 ∷ [];
      constants = [];
    })
    ≡ sort.Int (pos 0) (pos 100) ∷ sort.Int (pos 10) (pos 100) ∷ sort.Int (pos 10) (pos 50) ∷ []

-- { a (2), b, c (0), d, e (-1), f }: 2, 1, 0, 3, -1, 4
abbrev pub GapsAreFilled : Type 0
GapsAreFilled =
    enumerator_numbers (enumerator_with (codes "a") false 2 ∷ enumerator (codes "b") ∷ enumerator_with (codes "c") false 0 ∷ enumerator (codes "d") ∷ enumerator_with (codes "e") true 1 ∷ enumerator (codes "f") ∷ [])
    ≡ pos 2 ∷ pos 1 ∷ pos 0 ∷ pos 3 ∷ negsuc 0 ∷ pos 4 ∷ []

-- ENUMERATED { a (9223372036854775807), b } | { a (9223372036854775808) }
abbrev pub NumbersAtTheirEdges : Type 0
NumbersAtTheirEdges =
    types_of (only (node.Enumerated (enumerator_with (codes "a") false 9223372036854775807 ∷ enumerator (codes "b") ∷ []) false ∷ node.Enumerated (enumerator_with (codes "a") false 9223372036854775808 ∷ []) false ∷ []))
    ≡ sort.Enumerated (record { 0 = 0 } ∷ record { 0 = 1 } ∷ []) (pos 9223372036854775807 ∷ pos 0 ∷ []) ∷ sort.Opaque ∷ []

-- REAL   CHOICE { a REAL }   SEQUENCE { a BOOLEAN, b CHOICE { a REAL } }   CHOICE { b BOOLEAN }
abbrev pub OpaquePartsAreOpaque : Type 0
OpaquePartsAreOpaque =
    types_of (only (node.Other limits.Absent ∷ node.Choice (part (codes "a") 0 ∷ []) true ∷ node.Boolean ∷ node.Sequence (part (codes "a") 2 ∷ part (codes "b") 1 ∷ []) true
    ∷ node.Choice (part (codes "b") 2 ∷ []) true ∷ []))
    ≡ sort.Bool ∷ sort.Choice (record { name = record { 0 = 1 }; sort = id 0 } ∷ []) ∷ sort.Opaque ∷ sort.Opaque ∷ sort.Opaque ∷ []

-- BOOLEAN, and so many types behind it, each of which is a sequence of items of the type before it
abbrev nested : ℕ → List Node
nested zero = node.Boolean ∷ []
nested (suc n) = nested n ++ items (from_to (number 0) (number 1)) n ∷ []

-- 64 deep | 65 deep
abbrev pub SixtyFourDeep : Type 0
SixtyFourDeep = (is_supported (only (nested 63)) 63 ≡ true) × (is_supported (only (nested 64)) 64 ≡ false)
