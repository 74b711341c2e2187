-- Which value of a type a text reads as. A number is one of the type where it lies between the bounds; an enumerator and an
-- alternative go by their names; a sequence has its components by name, each once and in the order of the type, and a
-- sequence of items has as many as its size allows. Names are compared in their folded form. The types are those of a
-- subset of ASN.1 (X.680 clauses 18 to 20, 25, 26 and 29), the texts this project's own.
use Rattle.std.specs.Prelude.{◌≡◌, ◌≤◌, ◌+◌, ℕ, suc, ℤ, pos, neg_ℤ, Bool, false, ◌&&◌, ◌==◌, List, [], ◌∷◌, length, map, drop, slice_get, nat_le, Option, Some, None, option_map, if◌then◌else◌}
use Rattle.og_names.specs.declared.NameId.{NameId}
use Rattle.og_names.specs.Folding.{folded, place_of}
use Rattle.og_types.specs.declared.TypeId.{TypeId}
use Rattle.og_types.specs.declared.Part.{Part}
use Rattle.og_types.specs.declared.Sort.{Sort}
use Rattle.og_types.specs.declared.Sort.TheVariants as Sorts
use Rattle.og_types.specs.declared.Value.{Value}
use Rattle.og_types.specs.declared.Value as Values
use Rattle.og_types.specs.Values.{is_between}
use Rattle.og_value.specs.Bytes.{number_of}
use Rattle.og_value.specs.Forms.{Form, Number, Truth, Name, Alternative, Items, Parts, Forms, no_item, item, Fields, no_part, part, Spells, nesting, IsLongest}

infixl 10 ◌>>=◌
-- goes on with what there is
abbrev pub ◌>>=◌ : {A B : Type 0} → Option A → (A → Option B) → Option B
None >>= f = None
(Some x) >>= f = f x

abbrev pub Names : Type 0
Names = List (List ℕ)

-- ---- one part of a text as a value of a type

abbrev pub integer : Bool → List ℕ → ℤ
integer negative digits = if negative then neg_ℤ (pos (number_of digits)) else pos (number_of digits)

abbrev pub as_number : Option Sort → ℤ → Option Value
as_number (Some (Sorts.Int lo hi)) z = if is_between lo hi z then Some (Values.Int z) else None
as_number _ z = None

abbrev pub as_truth : Option Sort → Bool → Option Value
as_truth (Some Sorts.Bool) b = Some (Values.Bool b)
as_truth _ b = None

-- the place of a name among others, by their numbers
abbrev pub place_among : List NameId → ℕ → Option ℕ
place_among [] n = None
place_among (id ∷ ids) n = if id.0 == n then Some 0 else option_map suc (place_among ids n)

-- the place of a word among names
abbrev pub place_of_word : Names → List NameId → List ℕ → Option ℕ
place_of_word names ids word = place_of names (folded word) >>= place_among ids

abbrev pub as_name : Names → Option Sort → List ℕ → Option Value
as_name names (Some (Sorts.Enumerated ids numbers)) word = option_map Values.Enumerated (place_of_word names ids word)
as_name names _ word = None

-- an alternative: its place, and its type
pub record Chosen : Type 0 where
  pub place : ℕ
  pub sort : TypeId

abbrev pub names_of : List Part → List NameId
names_of parts = map (λ (p : Part). p.name) parts

abbrev pub chosen : ℕ → TypeId → Chosen
chosen k id = record { place = k; sort = id }

abbrev pub chosen_at : List Part → ℕ → Option Chosen
chosen_at parts k = option_map (λ (p : Part). chosen k p.sort) (slice_get parts k)

-- the alternative of this name
abbrev pub alternative_of : Names → Option Sort → List ℕ → Option Chosen
alternative_of names (Some (Sorts.Choice parts)) word = place_of_word names (names_of parts) word >>= chosen_at parts
alternative_of names _ word = None

-- the type of the items
abbrev pub item_of : List Sort → Option Sort → Option Sort
item_of types (Some (Sorts.SeqOf lo hi id)) = slice_get types id.0
item_of types _ = None

-- as many items as the size allows; without any, a sequence without components too
abbrev pub as_items : Option Sort → List Value → Option Value
as_items (Some (Sorts.SeqOf lo hi id)) vs = if nat_le lo (length vs) && nat_le (length vs) hi then Some (Values.SeqOf vs) else None
as_items (Some (Sorts.Sequence [])) [] = Some (Values.Sequence [])
as_items _ vs = None

abbrev pub components_of : Option Sort → Option (List Part)
components_of (Some (Sorts.Sequence parts)) = Some parts
components_of _ = None

abbrev pub is_numbered : NameId → Option ℕ → Bool
is_numbered id None = false
is_numbered id (Some n) = id.0 == n

-- the word is the name of this number
abbrev pub is_called : Names → List ℕ → NameId → Bool
is_called names word id = is_numbered id (place_of names (folded word))

-- ---- a whole text

abbrev mutual
  -- what a form says as a value of the type
  pub value_of : List Sort → Names → Option Sort → Form → Option Value
  value_of types names sort (Number negative digits) = as_number sort (integer negative digits)
  value_of types names sort (Truth truth) = as_truth sort truth
  value_of types names sort (Name word) = as_name names sort word
  value_of types names sort (Alternative word f) =
      alternative_of names sort word >>= λ a. option_map (Values.Choice a.place) (value_of types names (slice_get types a.sort.0) f)
  value_of types names sort (Items fs) = values_of types names (item_of types sort) fs >>= as_items sort
  value_of types names sort (Parts fs) = components_of sort >>= λ parts. option_map Values.Sequence (fields_of types names parts fs)

  -- each of them as a value of one type
  pub values_of : List Sort → Names → Option Sort → Forms → Option (List Value)
  values_of types names sort no_item = Some []
  values_of types names sort (item f fs) =
      value_of types names sort f >>= λ v. option_map (λ vs. v ∷ vs) (values_of types names sort fs)

  -- each of them under its name
  pub fields_of : List Sort → Names → List Part → Fields → Option (List Value)
  fields_of types names [] no_part = Some []
  fields_of types names (p ∷ parts) (part word f fs) =
      (if is_called names word p.name then value_of types names (slice_get types p.sort.0) f else None)
      >>= λ v. option_map (λ vs. v ∷ vs) (fields_of types names parts fs)
  fields_of types names _ _ = None

-- the text reads as the value of the type
pub record Reads (types : List Sort) (names : Names) (id : TypeId) (text : List ℕ) (value : Value) : Type 0 where
  pub form : Form
  pub spelt : Spells form text
  pub nested : nesting form ≤ 64
  pub means : value_of types names (slice_get types id.0) form ≡ Some value

-- what the longest text of a value at a place reads as, and where it ends
pub record IsReadAt (types : List Sort) (names : Names) (id : TypeId) (bytes : List ℕ) (at : ℕ) (value : Value) (next : ℕ) : Type 0 where
  pub text : List ℕ
  pub longest : IsLongest (drop at bytes) text
  pub reads : Reads types names id text value
  pub ends : next ≡ at + length text
