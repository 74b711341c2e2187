-- Worked examples of texts of values, each computed from the definitions. The types are those of a subset of ASN.1 (X.680
-- clauses 18 to 20, 25, 26 and 29), the texts this project's own.
use Rattle.std.specs.Prelude.{◌≡◌, ℕ, zero, suc, Bool, true, false, ◌&&◌, List, [], ◌∷◌, ◌++◌, length, take, codes, pos, negsuc, Option, Some, None}
use Rattle.std.specs.Option.{is_none}
use Rattle.og_names.specs.declared.NameId.{NameId}
use Rattle.og_types.specs.declared.TypeId.{TypeId}
use Rattle.og_types.specs.declared.Part.{Part}
use Rattle.og_types.specs.declared.Sort.{Sort}
use Rattle.og_types.specs.declared.Sort.TheVariants as Sorts
use Rattle.og_types.specs.declared.Value.{Value}
use Rattle.og_types.specs.declared.Value as Values
use Rattle.og_types.specs.Table.{is_table}
use Rattle.og_value.specs.Reads.{Names}
use Rattle.og_value.specs.Scans.{form_at, found_in}
use Rattle.og_value.specs.Shows.{shown}
use Rattle.og_value.specs.Named.{has_names}

abbrev id : ℕ → TypeId
id n = record { 0 = n }

abbrev name : ℕ → NameId
name n = record { 0 = n }

abbrev part : ℕ → ℕ → Part
part n sort = record { name = name n; sort = id sort }

abbrev number : ℕ → Value
number n = Values.Int (pos n)

-- ---- a table with each kind of type

-- INTEGER (0 .. 9)
abbrev small : TypeId
small = id 0

-- BOOLEAN
abbrev truth : TypeId
truth = id 1

-- ENUMERATED { off, low, high }
abbrev kind : TypeId
kind = id 2

-- SEQUENCE (SIZE (0 .. 2)) OF Small
abbrev list : TypeId
list = id 3

-- SEQUENCE { a Small, b Kind }
abbrev pair : TypeId
pair = id 4

-- SEQUENCE (SIZE (1 .. 2)) OF Pair
abbrev pairs : TypeId
pairs = id 5

-- CHOICE { one Small, two Pairs }
abbrev pick : TypeId
pick = id 6

-- SEQUENCE { }
abbrev nothing : TypeId
nothing = id 7

-- SEQUENCE (SIZE (0 .. 0)) OF Pick
abbrev no_items : TypeId
no_items = id 8

-- INTEGER (-9223372036854775808 .. 9223372036854775807)
abbrev wide : TypeId
wide = id 9

abbrev sample : List Sort
sample = Sorts.Int (pos 0) (pos 9)
    ∷ Sorts.Bool
    ∷ Sorts.Enumerated (name 0 ∷ name 1 ∷ name 2 ∷ []) (pos 0 ∷ pos 1 ∷ pos 2 ∷ [])
    ∷ Sorts.SeqOf 0 2 small
    ∷ Sorts.Sequence (part 3 0 ∷ part 4 2 ∷ [])
    ∷ Sorts.SeqOf 1 2 pair
    ∷ Sorts.Choice (part 5 0 ∷ part 6 5 ∷ [])
    ∷ Sorts.Sequence []
    ∷ Sorts.SeqOf 0 0 pick
    ∷ Sorts.Int (negsuc 9223372036854775807) (pos 9223372036854775807) ∷ []

abbrev words : Names
words = codes "off" ∷ codes "low" ∷ codes "high" ∷ codes "a" ∷ codes "b" ∷ codes "one" ∷ codes "two" ∷ []

abbrev one_pair : Value
one_pair = Values.Sequence (number 1 ∷ Values.Enumerated 1 ∷ [])

-- what the longest text in front reads as, and how long it is
abbrev read : TypeId → List ℕ → Option (Value × ℕ)
read sort bytes = found_in sample words sort bytes

-- all of the text reads as the value
abbrev IsText : TypeId → List ℕ → Value → Type 0
IsText sort text v = read sort text ≡ Some (v, length text)

-- the longest text in front is none of the type
abbrev IsBad : TypeId → List ℕ → Type 0
IsBad sort bytes = read sort bytes ≡ None

-- a text of the type, of which no shorter front is one; it has n bytes and one
abbrev no_front : TypeId → List ℕ → ℕ → Bool
no_front sort text zero = is_none (read sort [])
no_front sort text (suc n) = is_none (read sort (take (suc n) text)) && no_front sort text n

-- ---- what the definitions give

abbrev pub TheSampleIsATable : Type 0
TheSampleIsATable = (is_table sample ≡ true) × (has_names sample words pick ≡ true)

-- bounds, zeros in front, a sign and blanks behind it, and many digits
abbrev pub NumbersAreRead : Type 0
NumbersAreRead =
    IsText small (codes "7") (number 7) × IsText small (codes "07") (number 7) × IsText small (codes "-0") (number 0)
    × IsText small (codes "00000000000000000007") (number 7) × IsBad small (codes "10") × IsBad small (codes "-1")
    × IsText wide (codes "-5") (Values.Int (negsuc 4)) × IsText wide (codes "- 5") (Values.Int (negsuc 4))
    × IsText wide (codes "9223372036854775807") (number 9223372036854775807) × IsBad wide (codes "9223372036854775808")
    × IsText wide (codes "-9223372036854775808") (Values.Int (negsuc 9223372036854775807)) × IsBad wide (codes "-9223372036854775809")
    × IsBad wide (codes "99999999999999999999") × IsBad wide (codes "-") × IsBad wide (codes "+5") × IsBad wide (codes "--5")

-- TRUE and FALSE in capitals only, and names whatever their case
abbrev pub WordsAreRead : Type 0
WordsAreRead =
    IsText truth (codes "TRUE") (Values.Bool true) × IsText truth (codes "FALSE") (Values.Bool false)
    × IsBad truth (codes "True") × IsBad truth (codes "TRUEx") × IsBad truth (codes "1") × IsBad kind (codes "TRUE")
    × IsText kind (codes "low") (Values.Enumerated 1) × IsText kind (codes "LOW") (Values.Enumerated 1)
    × IsBad kind (codes "lo") × IsBad kind (codes "a") × IsBad kind (codes "none") × IsBad kind (codes "1")

-- each component once and in order, with its name and a blank behind it where two words would meet
abbrev pub SequencesAreRead : Type 0
SequencesAreRead =
    IsText pair (codes "{a 1, b low}") one_pair × IsText pair (codes "{ A\t1 ,b  Low }") one_pair
    × IsBad pair (codes "{b low, a 1}") × IsBad pair (codes "{a 1}") × IsBad pair (codes "{a 1, a 1}") × IsBad pair (codes "{a 1, b low, b low}")
    × IsBad pair (codes "{1, low}") × IsBad pair (codes "{a 1, low}") × IsBad pair (codes "{1, b low}") × IsBad pair (codes "{a1, b low}")
    × IsBad pair (codes "{a 10, b low}") × IsBad pair (codes "{a 1, c low}") × IsBad pair (codes "{}")
    × IsText nothing (codes "{}") (Values.Sequence []) × IsText nothing (codes "{ }") (Values.Sequence []) × IsBad nothing (codes "{1}") × IsBad nothing (codes "{a 1}")

-- as many items as the size allows
abbrev pub ItemsAreRead : Type 0
ItemsAreRead =
    IsText list (codes "{}") (Values.SeqOf []) × IsText list (codes "{1}") (Values.SeqOf (number 1 ∷ []))
    × IsText list (codes "{1,2}") (Values.SeqOf (number 1 ∷ number 2 ∷ [])) × IsBad list (codes "{1, 2, 3}") × IsBad list (codes "{1, 10}")
    × IsText list (codes "{\t1 , 2 }") (Values.SeqOf (number 1 ∷ number 2 ∷ [])) × IsBad list (codes "{1 2}") × IsBad list (codes "{1, }") × IsBad list (codes "{, 1}") × IsBad list (codes "{a 1}")
    × IsText pairs (codes "{{a 1, b low}}") (Values.SeqOf (one_pair ∷ [])) × IsBad pairs (codes "{}")
    × IsBad pairs (codes "{{a 1, b low}, {a 1, b low}, {a 1, b low}}")
    × IsText no_items (codes "{}") (Values.SeqOf []) × IsBad no_items (codes "{one: 1}")

-- an alternative by its name
abbrev pub ChoicesAreRead : Type 0
ChoicesAreRead =
    IsText pick (codes "one: 4") (Values.Choice 0 (number 4)) × IsText pick (codes "One\t:4") (Values.Choice 0 (number 4))
    × IsText pick (codes "two: {{a 1, b low}}") (Values.Choice 1 (Values.SeqOf (one_pair ∷ [])))
    × IsText pick (codes "two : { { a 1 , b low } , {a 1,b low} }") (Values.Choice 1 (Values.SeqOf (one_pair ∷ one_pair ∷ [])))
    × IsBad pick (codes "three: 4") × IsBad pick (codes "one 4") × IsBad pick (codes "one: 10") × IsBad pick (codes "two: 4")
    × IsBad pick (codes "one: one: 4") × IsBad pick (codes "TRUE: 4") × IsBad pick (codes "4")

-- the longest front that has the form of a value counts, whatever stands behind it
abbrev pub TheLongestTextCounts : Type 0
TheLongestTextCounts =
    (read small (codes "7, 8") ≡ Some (number 7, 1)) × (read small (codes "7x") ≡ Some (number 7, 1)) × (read small (codes "7 ") ≡ Some (number 7, 1))
    × (read kind (codes "low)") ≡ Some (Values.Enumerated 1, 3)) × (read kind (codes "low : !") ≡ Some (Values.Enumerated 1, 3))
    × (read list (codes "{1}}") ≡ Some (Values.SeqOf (number 1 ∷ []), 3)) × IsBad kind (codes "low : 5") × IsBad small (codes " 7") × IsBad small []

-- no text that is cut is one
abbrev pub CutTextsAreBad : Type 0
CutTextsAreBad =
    (no_front truth (codes "TRUE") 3 ≡ true) × (no_front kind (codes "low") 2 ≡ true) × (no_front list (codes "{1, 2}") 5 ≡ true)
    × (no_front pair (codes "{a 1, b low}") 11 ≡ true) × (no_front pick (codes "two: {{a 1, b low}}") 18 ≡ true) × (no_front nothing (codes "{}") 1 ≡ true)

abbrev pub EachSortIsShown : Type 0
EachSortIsShown =
    (shown sample words small (number 7) ≡ codes "7") × (shown sample words wide (Values.Int (negsuc 4)) ≡ codes "-5")
    × (shown sample words truth (Values.Bool true) ≡ codes "TRUE") × (shown sample words kind (Values.Enumerated 1) ≡ codes "low")
    × (shown sample words list (Values.SeqOf []) ≡ codes "{}") × (shown sample words list (Values.SeqOf (number 1 ∷ number 2 ∷ [])) ≡ codes "{1, 2}")
    × (shown sample words pair one_pair ≡ codes "{a 1, b low}") × (shown sample words pick (Values.Choice 0 (number 4)) ≡ codes "one: 4")
    × (shown sample words pick (Values.Choice 1 (Values.SeqOf (one_pair ∷ one_pair ∷ []))) ≡ codes "two: {{a 1, b low}, {a 1, b low}}")
    × (shown sample words nothing (Values.Sequence []) ≡ codes "{}") × (shown sample words no_items (Values.SeqOf []) ≡ codes "{}")

-- ---- nesting

-- n pairs of braces
abbrev braces : ℕ → List ℕ
braces zero = []
braces (suc n) = codes "{" ++ (braces n ++ codes "}")

-- an empty sequence, and n choices above it, each with one alternative
abbrev chain : ℕ → List Sort
chain zero = Sorts.Sequence [] ∷ []
chain (suc n) = chain n ++ Sorts.Choice (part 3 n ∷ []) ∷ []

abbrev chain_text : ℕ → List ℕ
chain_text zero = codes "{}"
chain_text (suc n) = codes "a: " ++ chain_text n

abbrev chain_value : ℕ → Value
chain_value zero = Values.Sequence []
chain_value (suc n) = Values.Choice 0 (chain_value n)

-- 64 braces and colons may be open, and no more
abbrev pub NestingIsLimited : Type 0
NestingIsLimited =
    (form_at 64 (braces 64) ≡ Some (tt, [])) × (form_at 64 (braces 65) ≡ None)
    × (found_in (chain 63) words (id 63) (chain_text 63) ≡ Some (chain_value 63, 191)) × (found_in (chain 64) words (id 64) (chain_text 64) ≡ None)
