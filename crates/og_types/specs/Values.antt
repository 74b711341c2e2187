-- Which values a type has, the first of them, and how many cells a value of it takes. The types are those of a subset of
-- ASN.1 (X.680 sections 18 to 20, 25, 26 and 29). A table holds types by their numbers, and a type refers to smaller numbers
-- only: so a search that starts at type n goes down at most n + 1 times. The first value of a type and the cells are this
-- project's own. A value of a sequence is one value for each component in the order of the components.
use Rattle.std.specs.Prelude.{◌≡◌, ⊤, ◌<◌, ℕ, zero, suc, ◌+◌, ◌*◌, min, max, Bool, true, false, ◌&&◌, List, [], ◌∷◌, length, map, replicate, slice_get, ℤ, pos, int_le, nat_lt, nat_le, Option, Some, None}
use Rattle.std.specs.List.{list_all}
use Rattle.og_types.specs.declared.TypeId.{TypeId}
use Rattle.og_types.specs.declared.Part.{Part}
use Rattle.og_types.specs.declared.Sort.{Sort}
use Rattle.og_types.specs.declared.Sort.TheVariants as Sorts
use Rattle.og_types.specs.declared.Value.{Value, Value-F, out-Value}
use Rattle.og_types.specs.declared.Value as Values
use Rattle.og_types.specs.declared.Value.TheOpen as Open

-- the value lies between two numbers
abbrev pub is_between : ℤ → ℤ → ℤ → Bool
is_between lo hi z = int_le lo z && int_le z hi

-- one value for each component, each in its type
abbrev pub in_parts : (TypeId → Value → Bool) → List Part → List Value → Bool
in_parts inside [] [] = true
in_parts inside (p ∷ ps) (v ∷ vs) = inside p.sort v && in_parts inside ps vs
in_parts inside _ _ = false

-- an alternative's value
abbrev pub in_part : (TypeId → Value → Bool) → Option Part → Value → Bool
in_part inside (Some p) v = inside p.sort v
in_part inside None v = false

-- the value is one of the type, where `inside` says so of the types that it refers to
abbrev pub in_sort : (TypeId → Value → Bool) → Option Sort → Value-F Value → Bool
in_sort inside (Some (Sorts.Int lo hi)) (Open.Int z) = is_between lo hi z
in_sort inside (Some Sorts.Bool) (Open.Bool b) = true
in_sort inside (Some (Sorts.Enumerated names numbers)) (Open.Enumerated k) = nat_lt k (length names)
in_sort inside (Some (Sorts.Sequence parts)) (Open.Sequence vs) = in_parts inside parts vs
in_sort inside (Some (Sorts.Choice parts)) (Open.Choice k v) = in_part inside (slice_get parts k) v
in_sort inside (Some (Sorts.SeqOf lo hi item)) (Open.SeqOf vs) =
    nat_le lo (length vs) && (nat_le (length vs) hi && list_all (inside item) vs)
in_sort inside _ _ = false

-- the value is one of type n, for n below the depth
abbrev pub in_within : ℕ → List Sort → TypeId → Value → Bool
in_within zero types id v = false
in_within (suc depth) types id v = in_sort (in_within depth types) (slice_get types id.0) (out-Value v)

-- the value is one of the type
abbrev pub is_in : List Sort → TypeId → Value → Bool
is_in types id v = in_within (suc id.0) types id v

-- what stands for a value where there is none, which no text of a model gives
abbrev pub no_value : Value
no_value = Values.Int (pos 0)

-- the first alternative with its first value
abbrev pub first_alternative : (TypeId → Value) → List Part → Value
first_alternative inside [] = no_value
first_alternative inside (p ∷ ps) = Values.Choice 0 (inside p.sort)

-- the least number, FALSE, the first name in the text, the first alternative, the shortest sequence, and so on inward
abbrev pub first_of_sort : (TypeId → Value) → Option Sort → Value
first_of_sort inside (Some (Sorts.Int lo hi)) = Values.Int lo
first_of_sort inside (Some Sorts.Bool) = Values.Bool false
first_of_sort inside (Some (Sorts.Enumerated names numbers)) = Values.Enumerated 0
first_of_sort inside (Some (Sorts.Sequence parts)) = Values.Sequence (map (λ p. inside p.sort) parts)
first_of_sort inside (Some (Sorts.Choice parts)) = first_alternative inside parts
first_of_sort inside (Some (Sorts.SeqOf lo hi item)) = Values.SeqOf (replicate lo (inside item))
first_of_sort inside (Some Sorts.Opaque) = no_value
first_of_sort inside None = no_value

-- the first value of type n, for n below the depth
abbrev pub first_within : ℕ → List Sort → TypeId → Value
first_within zero types id = no_value
first_within (suc depth) types id = first_of_sort (first_within depth types) (slice_get types id.0)

-- the value that a variable of the type has where the text gives it none
abbrev pub first : List Sort → TypeId → Value
first types id = first_within (suc id.0) types id

-- the cells of all components together
abbrev pub cells_of_parts : (TypeId → ℕ) → List Part → ℕ
cells_of_parts inside [] = 0
cells_of_parts inside (p ∷ ps) = inside p.sort + cells_of_parts inside ps

-- one cell for a number, a truth value or a name, one for the alternative of a choice and the length of a sequence of
-- items, and room for each alternative and for each item
abbrev pub cells_of_sort : (TypeId → ℕ) → Option Sort → ℕ
cells_of_sort inside (Some (Sorts.Int lo hi)) = 1
cells_of_sort inside (Some Sorts.Bool) = 1
cells_of_sort inside (Some (Sorts.Enumerated names numbers)) = 1
cells_of_sort inside (Some (Sorts.Sequence [])) = 1
cells_of_sort inside (Some (Sorts.Sequence (p ∷ ps))) = cells_of_parts inside (p ∷ ps)
cells_of_sort inside (Some (Sorts.Choice parts)) = 1 + cells_of_parts inside parts
cells_of_sort inside (Some (Sorts.SeqOf lo hi item)) = 1 + inside item * max hi 1
cells_of_sort inside (Some Sorts.Opaque) = 0
cells_of_sort inside None = 0

-- the cells of type n, for n below the depth
abbrev pub cells_within : ℕ → List Sort → TypeId → ℕ
cells_within zero types id = 0
cells_within (suc depth) types id = cells_of_sort (cells_within depth types) (slice_get types id.0)

-- the greatest number of cells of all variables of a model, and one more
abbrev pub many_cells : ℕ
many_cells = 65537

-- the cells of the type, however many
abbrev pub all_cells : List Sort → TypeId → ℕ
all_cells types id = cells_within (suc id.0) types id

-- the cells of the type, counted up to 65,537
abbrev pub cells : List Sort → TypeId → ℕ
cells types id = min (all_cells types id) many_cells

-- ---- what is supported

-- none of the types that it needs is opaque
abbrev pub is_supported_sort : (TypeId → Bool) → Option Sort → Bool
is_supported_sort inside (Some (Sorts.Int lo hi)) = true
is_supported_sort inside (Some Sorts.Bool) = true
is_supported_sort inside (Some (Sorts.Enumerated names numbers)) = true
is_supported_sort inside (Some (Sorts.Sequence parts)) = list_all (λ (p : Part). inside p.sort) parts
is_supported_sort inside (Some (Sorts.Choice parts)) = list_all (λ (p : Part). inside p.sort) parts
is_supported_sort inside (Some (Sorts.SeqOf lo hi item)) = inside item
is_supported_sort inside (Some Sorts.Opaque) = false
is_supported_sort inside None = false

-- type n is supported, for n below the depth
abbrev pub is_supported_within : ℕ → List Sort → TypeId → Bool
is_supported_within zero types id = false
is_supported_within (suc depth) types id = is_supported_sort (is_supported_within depth types) (slice_get types id.0)

-- neither the type nor one that it needs is opaque
abbrev pub is_supported : List Sort → TypeId → Bool
is_supported types id = is_supported_within (suc id.0) types id

-- ---- tables

-- components of types of smaller numbers
abbrev pub PartsBelow : ℕ → List Part → Type 0
PartsBelow n [] = ⊤
PartsBelow n (p ∷ ps) = (p.sort.0 < n) × PartsBelow n ps

-- the type refers to types of smaller numbers only
abbrev pub RefersBelow : ℕ → Sort → Type 0
RefersBelow n (Sorts.Int lo hi) = ⊤
RefersBelow n Sorts.Bool = ⊤
RefersBelow n (Sorts.Enumerated names numbers) = ⊤
RefersBelow n (Sorts.Sequence parts) = PartsBelow n parts
RefersBelow n (Sorts.Choice parts) = PartsBelow n parts
RefersBelow n (Sorts.SeqOf lo hi item) = item.0 < n
RefersBelow n Sorts.Opaque = ⊤

-- and so does each type of the table
abbrev pub IsDownward : List Sort → Type 0
IsDownward types = (n : ℕ) (t : Sort) → slice_get types n ≡ Some t → RefersBelow n t
