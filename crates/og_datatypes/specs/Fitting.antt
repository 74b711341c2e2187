-- When names fit the types that modules declare (X.680 clauses 20, 25 and 29): in each type they have different numbers, and
-- the numbers that are written for enumerators differ. What it is to be few is a limit of this project's own.
use Rattle.std.specs.Prelude.{◌≡◌, ◌<◌, ◌^◌, ℕ, true, List, [], map, length, Option, Some, flat_map, slice_get, ℤ}
use Rattle.std.specs.Ordering.{int_eq}
use Rattle.og_types.specs.declared.Sort.{Sort}
use Rattle.og_types.specs.declared.Sort.TheVariants as sort
use Rattle.og_types.specs.Table.{all_differ, same_name}
use Rattle.og_asn1.specs.declared.syntax.Name.{Name}
use Rattle.og_flat.specs.declared.flat.Flat.{Flat}
use Rattle.og_flat.specs.declared.flat.Enumerator.{Enumerator}
use Rattle.og_flat.specs.declared.flat.PartNode.{PartNode}
use Rattle.og_flat.specs.declared.flat.Node.{Node}
use Rattle.og_flat.specs.declared.flat.Node.TheVariants as node
use Rattle.og_dataview.specs.Violations.{given}
use Rattle.og_dataview.specs.View.{name_number}

abbrev pub name_of_part : PartNode → Name
name_of_part part = part.name

abbrev pub name_of_item : Enumerator → Name
name_of_item item = item.name

-- the names of the parts or enumerators of a type
abbrev pub names_at : Option Node → List Name
names_at (Some (node.Enumerated items is_open)) = map name_of_item items
names_at (Some (node.Choice parts is_plain)) = map name_of_part parts
names_at (Some (node.Sequence parts is_plain)) = map name_of_part parts
names_at _ = []

-- an enumeration has so few enumerators that numbers of 32 bits count them
abbrev pub IsFew : Sort → Type 0
IsFew (sort.Enumerated names numbers) = length numbers < 2 ^ 32
IsFew _ = Unit {0}

-- the numbers that are written in a type
abbrev pub given_at : Option Node → List ℤ
given_at (Some (node.Enumerated items is_open)) = flat_map given items
given_at _ = []

-- the table gives the names in each type different numbers, and no enumerator has the written number of another
pub record Fits (names : List (List ℕ)) (flat : Flat) : Type 0 where
  pub names_differ : (p : ℕ) → all_differ same_name (map (name_number names) (names_at (slice_get flat.nodes p))) ≡ true
  pub numbers_differ : (p : ℕ) → all_differ int_eq (given_at (slice_get flat.nodes p)) ≡ true

-- each enumeration among the types has so few enumerators
abbrev pub AreFew : List Sort → Type 0
AreFew types = (i : ℕ) (s : Sort) → slice_get types i ≡ Some s → IsFew s
