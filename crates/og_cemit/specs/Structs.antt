-- The structs of a program of flat code (C99 6.7.2.1): one for each structured type that a slot has or that such a type is
-- made of, in the order of the types, so that each stands after those that it uses. A type refers to types of smaller
-- numbers, so the marks of what is needed are set from the last type down. A struct is named by `T` and the number of its
-- type, with more letters `T` in front where a name of the code begins like that. Members of a sequence, and alternatives, are
-- named `m_` and the component's name, or `m` and a number where the names are no words or two of them are the same: so no
-- member is a keyword of any C, or a macro of a compiler.
use Rattle.std.specs.Prelude.{ℕ, zero, suc, ◌+◌, ◌^◌, ◌<◌, List, [], ◌∷◌, ◌++◌, Bool, true, false, not, ◌&&◌, if◌then◌else◌, ◌==◌, Option, Some, None, max, codes, map, flat_map, length, replicate, slice_get, decimal, ⊤}
use Rattle.std.specs.List.{list_all}
use Rattle.og_names.specs.declared.Word.{Word}
use Rattle.og_types.specs.declared.Part.{Part}
use Rattle.og_types.specs.declared.Sort.{Sort}
use Rattle.og_types.specs.declared.Sort.TheVariants as sort
use Rattle.og_types.specs.declared.TypeId.{TypeId}
use Rattle.og_model.specs.declared.Model.{Model}
use Rattle.og_ir.specs.declared.Ir.{Ir}
use Rattle.og_ir.specs.declared.SlotDef.{SlotDef}
use Rattle.og_ir.specs.declared.SlotSort.{SlotSort}
use Rattle.og_ir.specs.declared.SlotSort.TheVariants as slot_sort
use Rattle.og_csubset.specs.declared.CStruct.{CStruct}
use Rattle.og_csubset.specs.declared.CMember.{CMember}
use Rattle.og_csubset.specs.declared.CType.{CType}
use Rattle.og_csubset.specs.declared.CType.TheVariants.{Int64, Struct}
use Rattle.og_csubset.specs.Tokens.{is_word_byte}
use Rattle.og_csubset.specs.Interface.{name_of}
use Rattle.og_csubset.specs.Loading.{has_twice}
use Rattle.og_csubset.specs.Fair.{Held, Whole, held_as, held_in_slot, names_of}
use Rattle.og_csubset.specs.FlatText.{no_name}
use Rattle.og_cemit.specs.Marks.{is_marked, all_marked}

-- ---- names of structs

-- how many letters T a name begins with
abbrev pub leading : List ℕ → ℕ
leading [] = 0
leading (byte ∷ bytes) = if byte == 84 then leading bytes + 1 else 0

-- the most of these, and so many already
abbrev pub most_from : ℕ → List (List ℕ) → ℕ
most_from most [] = most
most_from most (name ∷ names) = most_from (max most (leading name)) names

-- one letter T more than any name begins with
abbrev pub prefix_of : Ir → List ℕ
prefix_of ir = replicate (most_from 0 (names_of ir)) 84 ++ 84 ∷ []

abbrev pub struct_word : List ℕ → ℕ → Word
struct_word prefix k = record { bytes = prefix ++ decimal k }

-- ---- types

abbrev pub type_held : List ℕ → Option Held → CType
type_held prefix (Some (Whole t)) = Struct (struct_word prefix t.0)
type_held prefix _ = Int64

-- the C type of a type of data
abbrev pub type_of : List ℕ → List Sort → TypeId → CType
type_of prefix sorts t = type_held prefix (held_as sorts t)

abbrev pub type_of_slot : List ℕ → List Sort → SlotSort → CType
type_of_slot prefix sorts s = type_held prefix (held_in_slot sorts s)

-- ---- names of members

abbrev pub by_name : List ℕ → Word
by_name name = record { bytes = codes "m_" ++ name }

abbrev pub by_number : ℕ → Word
by_number k = record { bytes = codes "m" ++ decimal k }

abbrev pub numbered_from : ℕ → List (List ℕ) → List Word
numbered_from k [] = []
numbered_from k (name ∷ names) = by_number k ∷ numbered_from (k + 1) names

-- each is made of letters, digits and `_`, and no two are the same
abbrev pub are_clear : List (List ℕ) → Bool
are_clear names = list_all (list_all is_word_byte) names && not (has_twice names)

abbrev pub part_words : List (List ℕ) → List Word
part_words names = if are_clear names then map by_name names else numbered_from 0 names

abbrev pub names_of_parts : Model → List Part → List (List ℕ)
names_of_parts model parts = map (λ p. name_of model p.name) parts

abbrev pub choice_word : Word
choice_word = record { bytes = codes "choice" }

abbrev pub length_word : Word
length_word = record { bytes = codes "length" }

abbrev pub items_word : Word
items_word = record { bytes = codes "items" }

-- the names of a type's members
abbrev pub words_of_sort : Model → Sort → List Word
words_of_sort model (sort.Sequence parts) = part_words (names_of_parts model parts)
words_of_sort model (sort.Choice parts) = choice_word ∷ part_words (names_of_parts model parts)
words_of_sort model (sort.SeqOf lo hi item) = length_word ∷ items_word ∷ []
words_of_sort model s = []

abbrev pub member_words : Model → List (List Word)
member_words model = map (words_of_sort model) model.types

abbrev pub word_in : Option Word → Word
word_in None = no_name
word_in (Some w) = w

abbrev pub word_at : List Word → ℕ → Word
word_at words k = word_in (slice_get words k)

abbrev pub words_in : Option (List Word) → List Word
words_in None = []
words_in (Some words) = words

-- the name of a member of what is held
abbrev pub member_word : List (List Word) → Option Held → ℕ → Word
member_word words (Some (Whole t)) k = word_at (words_in (slice_get words t.0)) k
member_word words _ k = no_name

-- ---- members

abbrev pub number_member : Word → CMember
number_member w = record { kind = Int64; name = w; size = None }

abbrev pub part_member : List ℕ → List Sort → Word → Part → CMember
part_member prefix sorts w p = record { kind = type_of prefix sorts p.sort; name = w; size = None }

-- the members of parts, whose names begin at a number
abbrev pub part_members : List ℕ → List Sort → List Word → ℕ → List Part → List CMember
part_members prefix sorts words k [] = []
part_members prefix sorts words k (p ∷ parts) =
    part_member prefix sorts (word_at words k) p ∷ part_members prefix sorts words (k + 1) parts

-- the array of items, which is left out where there can be none
abbrev pub array_members : List ℕ → List Sort → ℕ → TypeId → List CMember
array_members prefix sorts zero item = []
array_members prefix sorts (suc hi) item =
    record { kind = type_of prefix sorts item; name = items_word; size = Some (suc hi) } ∷ []

abbrev pub members_of_sort : List ℕ → List Sort → List Word → Sort → List CMember
members_of_sort prefix sorts words (sort.Sequence parts) = part_members prefix sorts words 0 parts
members_of_sort prefix sorts words (sort.Choice parts) = number_member choice_word ∷ part_members prefix sorts words 1 parts
members_of_sort prefix sorts words (sort.SeqOf lo hi item) = number_member length_word ∷ array_members prefix sorts hi item
members_of_sort prefix sorts words s = []

-- ---- what is needed

-- the types that a type is made of
abbrev pub parts_of : Sort → List ℕ
parts_of (sort.Sequence parts) = map (λ p. p.sort.0) parts
parts_of (sort.Choice parts) = map (λ p. p.sort.0) parts
parts_of (sort.SeqOf lo zero item) = []
parts_of (sort.SeqOf lo (suc hi) item) = item.0 ∷ []
parts_of s = []

abbrev pub types_of_slot : SlotDef → List ℕ
types_of_slot slot = types_of_sort slot.sort
  where
    types_of_sort : SlotSort → List ℕ
    types_of_sort slot_sort.Cell = []
    types_of_sort (slot_sort.Shaped t) = t.0 ∷ []

-- with the parts of a type that is marked
abbrev pub parts_marked : Bool → Option Sort → List Bool → List Bool
parts_marked false o marks = marks
parts_marked true None marks = marks
parts_marked true (Some s) marks = all_marked (parts_of s) marks

-- with the parts of all marked types, from the last of so many down
abbrev pub settled : List Sort → ℕ → List Bool → List Bool
settled sorts zero marks = marks
settled sorts (suc k) marks = settled sorts k (parts_marked (is_marked marks k) (slice_get sorts k) marks)

-- for each type whether a slot has it, or such a type is made of it
unfoldable pub needed : Model → Ir → List Bool
needed model ir =
    settled model.types (length model.types)
    (all_marked (flat_map types_of_slot ir.slots) (replicate (length model.types) false))

-- ---- structs

abbrev pub is_structured : Sort → Bool
is_structured (sort.Sequence []) = false
is_structured (sort.Sequence (p ∷ parts)) = true
is_structured (sort.Choice parts) = true
is_structured (sort.SeqOf lo hi item) = true
is_structured s = false

abbrev pub struct_at : List ℕ → List Sort → List (List Word) → ℕ → Sort → CStruct
struct_at prefix sorts words k s =
    record { name = struct_word prefix k; members = members_of_sort prefix sorts (words_in (slice_get words k)) s }

abbrev pub struct_if : Bool → CStruct → List CStruct
struct_if false s = []
struct_if true s = s ∷ []

-- the structs of marked types, from a number on
abbrev pub structs_from : List ℕ → List Sort → List (List Word) → List Bool → ℕ → List Sort → List CStruct
structs_from prefix sorts words marks k [] = []
structs_from prefix sorts words marks k (s ∷ more) =
    struct_if (is_marked marks k && is_structured s) (struct_at prefix sorts words k s)
    ++ structs_from prefix sorts words marks (k + 1) more

abbrev pub structs_of : Ir → Model → List CStruct
structs_of ir model =
    structs_from (prefix_of ir) model.types (member_words model) (needed model ir) 0 model.types

-- fewer types than 2^64, and fewer parts in each, which names of structs and members count
abbrev pub has_few_parts : Sort → Type 0
has_few_parts (sort.Sequence parts) = length parts < 2 ^ 64
has_few_parts (sort.Choice parts) = length parts < 2 ^ 64
has_few_parts s = ⊤

abbrev pub HaveFewParts : List Sort → Type 0
HaveFewParts [] = ⊤
HaveFewParts (s ∷ sorts) = has_few_parts s × HaveFewParts sorts

pub record AreFew (sorts : List Sort) : Type 0 where
  pub types : length sorts < 2 ^ 64
  pub parts : HaveFewParts sorts
