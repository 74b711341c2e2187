-- Which lists of types are tables of types. The types are those of a subset of ASN.1 (X.680 sections 18 to 20, 25, 26 and 29). A type
-- refers to smaller numbers only, so no type holds itself. The limits on depth, on the length of sequences of items and on
-- the range of numbers are this project's own.
use Rattle.std.specs.Prelude.{◌≤◌, IsTrue, ℕ, zero, suc, ◌+◌, Bool, true, false, not, ◌&&◌, List, [], ◌∷◌, length, max, slice_get, ℤ, pos, negsuc, int_le, nat_lt, nat_le, nat_eq, Option, Some}
use Rattle.std.specs.List.{list_all, list_any}
use Rattle.std.specs.Ordering.{int_eq}
use Rattle.og_names.specs.declared.NameId.{NameId}
use Rattle.og_types.specs.declared.TypeId.{TypeId}
use Rattle.og_types.specs.declared.Part.{Part}
use Rattle.og_types.specs.declared.Sort.{Sort}
use Rattle.og_types.specs.declared.Sort.TheVariants as Sorts
use Rattle.og_types.specs.Values.{is_between}

-- no two of a list are the same
abbrev pub all_differ : {A : Type 0} → (A → A → Bool) → List A → Bool
all_differ same [] = true
all_differ same (x ∷ xs) = not (list_any (same x) xs) && all_differ same xs

abbrev pub same_name : NameId → NameId → Bool
same_name a b = nat_eq a.0 b.0

-- a number of 64 bits with a sign
abbrev pub in_64_bits : ℤ → Bool
in_64_bits z = is_between (negsuc 9223372036854775807) (pos 9223372036854775807) z

-- ---- depth

-- the depth of the deepest component
abbrev pub depth_of_parts : (TypeId → ℕ) → List Part → ℕ
depth_of_parts inside [] = 0
depth_of_parts inside (p ∷ ps) = max (inside p.sort) (depth_of_parts inside ps)

-- a type is one deeper than the types that it refers to
abbrev pub depth_of_sort : (TypeId → ℕ) → Option Sort → ℕ
depth_of_sort inside (Some (Sorts.Sequence parts)) = 1 + depth_of_parts inside parts
depth_of_sort inside (Some (Sorts.Choice parts)) = 1 + depth_of_parts inside parts
depth_of_sort inside (Some (Sorts.SeqOf lo hi item)) = 1 + inside item
depth_of_sort inside _ = 1

-- the depth of type n, for n below the bound
abbrev pub depth_within : ℕ → List Sort → TypeId → ℕ
depth_within zero types id = 0
depth_within (suc bound) types id = depth_of_sort (depth_within bound types) (slice_get types id.0)

abbrev pub depth : List Sort → TypeId → ℕ
depth types id = depth_within (suc id.0) types id

-- ---- one type

abbrev pub is_empty : {A : Type 0} → List A → Bool
is_empty [] = true
is_empty (x ∷ xs) = false

-- components of types below a number, with different names
abbrev pub are_parts_below : ℕ → List Part → Bool
are_parts_below n parts =
    list_all (λ (p : Part). nat_lt p.sort.0 n) parts && all_differ (λ (p q : Part). same_name p.name q.name) parts

-- a type that stands after n others
abbrev pub is_sort_after : ℕ → Sort → Bool
is_sort_after n (Sorts.Int lo hi) = in_64_bits lo && (in_64_bits hi && int_le lo hi)
is_sort_after n Sorts.Bool = true
is_sort_after n (Sorts.Enumerated names numbers) =
    not (is_empty names) && (nat_eq (length numbers) (length names)
    && (list_all in_64_bits numbers && (all_differ same_name names && all_differ int_eq numbers)))
is_sort_after n (Sorts.Sequence parts) = are_parts_below n parts
is_sort_after n (Sorts.Choice parts) = not (is_empty parts) && are_parts_below n parts
is_sort_after n (Sorts.SeqOf lo hi item) = nat_le lo hi && (nat_le hi 65536 && nat_lt item.0 n)
is_sort_after n Sorts.Opaque = true

-- ---- a table

-- the types from number n on
abbrev pub are_sorts_from : List Sort → ℕ → List Sort → Bool
are_sorts_from types n [] = true
are_sorts_from types n (t ∷ ts) =
    is_sort_after n t && (nat_le (depth types (record { 0 = n })) 64 && are_sorts_from types (suc n) ts)

-- each type refers to earlier ones and is at most 64 deep
abbrev pub is_table : List Sort → Bool
is_table types = are_sorts_from types 0 types

-- a further type that refers to types of the table, and with which none is too deep
pub record MayStandBehind (types : List Sort) (t : Sort) : Type 0 where
  pub sort : IsTrue (is_sort_after (length types) t)
  pub depth : depth_of_sort (depth types) (Some t) ≤ 64
