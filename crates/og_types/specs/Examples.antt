-- Worked examples of types, their values and their sizes (X.680 sections 18 to 20, 25, 26 and 29), each computed from the
-- definitions.
use Rattle.std.specs.Prelude.{◌≡◌, ℕ, zero, suc, true, false, List, [], ◌∷◌, ◌++◌, pos, negsuc}
use Rattle.og_names.specs.declared.NameId.{NameId}
use Rattle.og_types.specs.declared.TypeId.{TypeId}
use Rattle.og_types.specs.declared.Part.{Part}
use Rattle.og_types.specs.declared.Sort.{Sort}
use Rattle.og_types.specs.declared.Sort.TheVariants as Sorts
use Rattle.og_types.specs.declared.Value.{Value}
use Rattle.og_types.specs.declared.Value as Values
use Rattle.og_types.specs.Values.{is_in, first, cells, is_supported}
use Rattle.og_types.specs.Table.{depth, is_table}

abbrev id : ℕ → TypeId
id n = record { 0 = n }

abbrev name : ℕ → NameId
name n = record { 0 = n }

abbrev part : ℕ → ℕ → Part
part n sort = record { name = name n; sort = id sort }

abbrev number : ℕ → Value
number n = Values.Int (pos n)

-- ---- a table with each kind of type

-- INTEGER (0 .. 9)
abbrev small : TypeId
small = id 0

-- BOOLEAN
abbrev truth : TypeId
truth = id 1

-- ENUMERATED { off (0), low (5), high (-1) }
abbrev kind : TypeId
kind = id 2

-- SEQUENCE (SIZE (0 .. 2)) OF Small
abbrev list : TypeId
list = id 3

-- SEQUENCE { a Small, b Kind }
abbrev pair : TypeId
pair = id 4

-- SEQUENCE (SIZE (1 .. 3)) OF Pair
abbrev pairs : TypeId
pairs = id 5

-- CHOICE { one Small, two Pairs }
abbrev pick : TypeId
pick = id 6

-- SEQUENCE { }
abbrev nothing : TypeId
nothing = id 7

-- SEQUENCE (SIZE (0 .. 0)) OF Pick
abbrev no_items : TypeId
no_items = id 8

-- SEQUENCE (SIZE (2 .. 2)) OF List
abbrev rows : TypeId
rows = id 9

-- SEQUENCE { a REAL }, behind REAL
abbrev held : TypeId
held = id 11

-- SEQUENCE (SIZE (0 .. 65535)) OF Small, which takes 65,536 cells, and with one item more
abbrev large : TypeId
large = id 12

abbrev larger : TypeId
larger = id 13

-- SEQUENCE (SIZE (65536 .. 65536)) OF the last one
abbrev largest : TypeId
largest = id 14

abbrev sample : List Sort
sample = Sorts.Int (pos 0) (pos 9)
    ∷ Sorts.Bool
    ∷ Sorts.Enumerated (name 0 ∷ name 1 ∷ name 2 ∷ []) (pos 0 ∷ pos 5 ∷ negsuc 0 ∷ [])
    ∷ Sorts.SeqOf 0 2 small
    ∷ Sorts.Sequence (part 3 0 ∷ part 4 2 ∷ [])
    ∷ Sorts.SeqOf 1 3 pair
    ∷ Sorts.Choice (part 5 0 ∷ part 6 5 ∷ [])
    ∷ Sorts.Sequence []
    ∷ Sorts.SeqOf 0 0 pick
    ∷ Sorts.SeqOf 2 2 list
    ∷ Sorts.Opaque
    ∷ Sorts.Sequence (part 3 10 ∷ [])
    ∷ Sorts.SeqOf 0 65535 small
    ∷ Sorts.SeqOf 0 65536 small
    ∷ Sorts.SeqOf 65536 65536 larger ∷ []

-- one type of n levels, each a sequence of items of the one below
abbrev levels : ℕ → List Sort
levels zero = []
levels (suc zero) = Sorts.Bool ∷ []
levels (suc (suc n)) = levels (suc n) ++ Sorts.SeqOf 0 1 (id n) ∷ []

-- ---- what the definitions give

abbrev pub EachTypeHasItsCells : Type 0
EachTypeHasItsCells =
    (cells sample small ≡ 1) × (cells sample truth ≡ 1) × (cells sample kind ≡ 1) × (cells sample list ≡ 3) × (cells sample pair ≡ 2)
    × (cells sample pairs ≡ 7) × (cells sample pick ≡ 9) × (cells sample nothing ≡ 1) × (cells sample no_items ≡ 10) × (cells sample rows ≡ 7)
    × (cells sample held ≡ 0) × (cells sample large ≡ 65536) × (cells sample larger ≡ 65537) × (cells sample largest ≡ 65537)

abbrev pub EachTypeHasItsDepth : Type 0
EachTypeHasItsDepth =
    (depth sample small ≡ 1) × (depth sample nothing ≡ 1) × (depth sample pair ≡ 2) × (depth sample pairs ≡ 3) × (depth sample pick ≡ 4)
    × (depth sample no_items ≡ 5) × (depth (levels 64) (id 63) ≡ 64) × (depth (levels 65) (id 64) ≡ 65)

abbrev pub EachTypeHasAFirstValue : Type 0
EachTypeHasAFirstValue =
    (first sample small ≡ number 0) × (first sample truth ≡ Values.Bool false) × (first sample kind ≡ Values.Enumerated 0)
    × (first sample list ≡ Values.SeqOf []) × (first sample pair ≡ Values.Sequence (number 0 ∷ Values.Enumerated 0 ∷ []))
    × (first sample pairs ≡ Values.SeqOf (Values.Sequence (number 0 ∷ Values.Enumerated 0 ∷ []) ∷ []))
    × (first sample pick ≡ Values.Choice 0 (number 0)) × (first sample nothing ≡ Values.Sequence []) × (first sample no_items ≡ Values.SeqOf [])
    × (first sample rows ≡ Values.SeqOf (Values.SeqOf [] ∷ Values.SeqOf [] ∷ []))

abbrev pub OpaqueTypesAreFound : Type 0
OpaqueTypesAreFound = (is_supported sample held ≡ false) × (is_supported sample pick ≡ true) × (is_supported sample no_items ≡ true)

-- the values of each type, and some that just miss it
abbrev pub EachTypeHasItsValues : Type 0
EachTypeHasItsValues =
    (is_in sample small (number 9) ≡ true) × (is_in sample small (number 10) ≡ false) × (is_in sample small (Values.Int (negsuc 0)) ≡ false)
    × (is_in sample truth (Values.Bool true) ≡ true) × (is_in sample truth (number 1) ≡ false)
    × (is_in sample kind (Values.Enumerated 2) ≡ true) × (is_in sample kind (Values.Enumerated 3) ≡ false)
    × (is_in sample list (Values.SeqOf (number 4 ∷ number 5 ∷ [])) ≡ true) × (is_in sample list (Values.SeqOf (number 4 ∷ number 5 ∷ number 6 ∷ [])) ≡ false)
    × (is_in sample list (Values.SeqOf (number 10 ∷ [])) ≡ false) × (is_in sample list (Values.Sequence (number 4 ∷ [])) ≡ false)
    × (is_in sample pair (Values.Sequence (number 9 ∷ Values.Enumerated 2 ∷ [])) ≡ true) × (is_in sample pair (Values.Sequence (Values.Enumerated 2 ∷ number 9 ∷ [])) ≡ false)
    × (is_in sample pair (Values.Sequence (number 9 ∷ [])) ≡ false) × (is_in sample pair (Values.Sequence (number 9 ∷ Values.Enumerated 2 ∷ number 0 ∷ [])) ≡ false)
    × (is_in sample pairs (Values.SeqOf []) ≡ false) × (is_in sample pairs (Values.SeqOf (Values.Sequence (number 9 ∷ Values.Enumerated 2 ∷ []) ∷ [])) ≡ true)
    × (is_in sample pick (Values.Choice 0 (number 9)) ≡ true) × (is_in sample pick (Values.Choice 1 (number 9)) ≡ false) × (is_in sample pick (Values.Choice 2 (number 9)) ≡ false)
    × (is_in sample nothing (Values.Sequence []) ≡ true) × (is_in sample nothing (Values.Sequence (number 0 ∷ [])) ≡ false)
    × (is_in sample no_items (Values.SeqOf []) ≡ true) × (is_in sample no_items (Values.SeqOf (Values.Choice 0 (number 0) ∷ [])) ≡ false)
    × (is_in sample rows (Values.SeqOf (Values.SeqOf [] ∷ Values.SeqOf (number 1 ∷ []) ∷ [])) ≡ true) × (is_in sample rows (Values.SeqOf (Values.SeqOf [] ∷ [])) ≡ false)
    × (is_in sample held (Values.Sequence (number 0 ∷ [])) ≡ false) × (is_in sample (id 15) (number 0) ≡ false)

-- what is a table, and what just misses it: bounds in the wrong order or past 64 bits, no name, a number or a name that stands
-- twice, no alternative, a type that refers to itself or to a later one, a size past 65,536, and 65 levels
abbrev pub TablesAreTold : Type 0
TablesAreTold =
    (is_table sample ≡ true) × (is_table [] ≡ true) × (is_table (levels 64) ≡ true) × (is_table (levels 65) ≡ false)
    × (is_table (Sorts.Int (pos 5) (pos 4) ∷ []) ≡ false) × (is_table (Sorts.Int (pos 5) (pos 5) ∷ []) ≡ true)
    × (is_table (Sorts.Int (negsuc 9223372036854775807) (pos 9223372036854775807) ∷ []) ≡ true)
    × (is_table (Sorts.Int (pos 0) (pos 9223372036854775808) ∷ []) ≡ false) × (is_table (Sorts.Int (negsuc 9223372036854775808) (pos 0) ∷ []) ≡ false)
    × (is_table (Sorts.Enumerated [] [] ∷ []) ≡ false) × (is_table (Sorts.Enumerated (name 0 ∷ []) [] ∷ []) ≡ false)
    × (is_table (Sorts.Enumerated (name 0 ∷ name 1 ∷ []) (pos 3 ∷ pos 3 ∷ []) ∷ []) ≡ false) × (is_table (Sorts.Enumerated (name 0 ∷ name 0 ∷ []) (pos 3 ∷ pos 4 ∷ []) ∷ []) ≡ false)
    × (is_table (Sorts.Choice [] ∷ []) ≡ false) × (is_table (Sorts.Bool ∷ Sorts.Sequence (part 0 0 ∷ part 0 0 ∷ []) ∷ []) ≡ false)
    × (is_table (Sorts.SeqOf 0 1 (id 0) ∷ []) ≡ false) × (is_table (Sorts.Sequence (part 0 1 ∷ []) ∷ Sorts.Bool ∷ []) ≡ false)
    × (is_table (Sorts.Bool ∷ Sorts.SeqOf 2 1 (id 0) ∷ []) ≡ false) × (is_table (Sorts.Bool ∷ Sorts.SeqOf 0 65537 (id 0) ∷ []) ≡ false)
