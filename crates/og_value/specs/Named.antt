-- Which types have names that a text can spell: each name that the type has or holds was given out, and is a letter followed
-- by letters, digits and underlines (Z.101 clause 6.1).
use Rattle.std.specs.Prelude.{ℕ, zero, suc, Bool, true, false, ◌&&◌, List, slice_get, Option, Some, None}
use Rattle.std.specs.List.{list_all}
use Rattle.og_names.specs.declared.NameId.{NameId}
use Rattle.og_types.specs.declared.TypeId.{TypeId}
use Rattle.og_types.specs.declared.Part.{Part}
use Rattle.og_types.specs.declared.Sort.{Sort}
use Rattle.og_types.specs.declared.Sort.TheVariants as Sorts
use Rattle.og_value.specs.Bytes.{is_letter, is_word, begins}
use Rattle.og_value.specs.Reads.{Names}

abbrev pub is_spelt : Option (List ℕ) → Bool
is_spelt None = false
is_spelt (Some name) = begins is_letter name && list_all is_word name

abbrev pub has_spelling : Names → NameId → Bool
has_spelling names id = is_spelt (slice_get names id.0)

-- the names of components or alternatives, and those of their types
abbrev pub have_names : (TypeId → Bool) → Names → List Part → Bool
have_names inside names parts = list_all (λ (p : Part). has_spelling names p.name && inside p.sort) parts

-- the names of a type, where `inside` says so of the types that it refers to
abbrev pub has_names_of_sort : (TypeId → Bool) → Names → Option Sort → Bool
has_names_of_sort inside names (Some (Sorts.Enumerated ids numbers)) = list_all (has_spelling names) ids
has_names_of_sort inside names (Some (Sorts.Sequence parts)) = have_names inside names parts
has_names_of_sort inside names (Some (Sorts.Choice parts)) = have_names inside names parts
has_names_of_sort inside names (Some (Sorts.SeqOf lo hi item)) = inside item
has_names_of_sort inside names _ = true

-- the same of type n, for n below the depth
abbrev pub has_names_within : ℕ → List Sort → Names → TypeId → Bool
has_names_within zero types names id = true
has_names_within (suc depth) types names id = has_names_of_sort (has_names_within depth types names) names (slice_get types id.0)

-- each name that the type has or holds can be spelt
abbrev pub has_names : List Sort → Names → TypeId → Bool
has_names types names id = has_names_within (suc id.0) types names id
