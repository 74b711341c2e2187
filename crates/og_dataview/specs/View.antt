-- The data that modules declare, where they violate no rule on names (X.680 clauses 18 to 20, 25, 26, 29 and 49, in this project's
-- subset). A type of another form is opaque, and so is one that has an opaque part, that needs itself, or that is more than 64 deep.
-- Types are numbered by their depth, those of one depth as they stand in the text, opaque ones behind all others; a reference
-- without a bracket has the number of the type that it names.
use Rattle.std.specs.Prelude.{ℕ, zero, suc, Bool, true, false, not, ◌&&◌, ◌||◌, ◌==◌, List, [], ◌∷◌, ◌++◌, map, length, Option, Some, None, is_some, is_none, unwrap_or, slice_get, ℤ, pos, nat_abs, int_le, filter, flat_map, if◌then◌else◌}
use Rattle.std.specs.List.{list_all, range_with_len, position_or_len, enumerate_from}
use Rattle.og_names.specs.declared.NameId.{NameId}
use Rattle.og_names.specs.Folding.{place_of, with_name}
use Rattle.og_types.specs.declared.TypeId.{TypeId}
use Rattle.og_types.specs.declared.Part.{Part}
use Rattle.og_types.specs.declared.Sort.{Sort}
use Rattle.og_types.specs.declared.Sort.TheVariants as sort
use Rattle.og_types.specs.Table.{in_64_bits, is_empty}
use Rattle.og_flat.specs.declared.flat.Limits.{Limits}
use Rattle.og_flat.specs.declared.flat.Limits.TheVariants as limits
use Rattle.og_flat.specs.declared.flat.Enumerator.{Enumerator}
use Rattle.og_flat.specs.declared.flat.Written.{Written}
use Rattle.og_flat.specs.declared.flat.PartNode.{PartNode}
use Rattle.og_flat.specs.declared.flat.Node.{Node}
use Rattle.og_flat.specs.declared.flat.Node.TheVariants as node
use Rattle.og_flat.specs.declared.flat.TypeNode.{TypeNode}
use Rattle.og_flat.specs.declared.flat.ConstantNode.{ConstantNode}
use Rattle.og_flat.specs.declared.flat.Flat.{Flat}
use Rattle.og_dataview.specs.declared.numbers.Interval.{Interval}
use Rattle.og_dataview.specs.declared.view.NamedType.{NamedType}
use Rattle.og_dataview.specs.declared.view.Constant.{Constant}
use Rattle.og_dataview.specs.declared.view.DataView.{DataView}
use Rattle.og_asn1.specs.declared.syntax.Name.{Name}
use Rattle.og_asn1.specs.declared.syntax.ModuleTree.{ModuleTree}
use Rattle.og_asn1.specs.declared.syntax.AssignmentTree.{AssignmentTree}
use Rattle.og_asn1.specs.declared.syntax.AssignmentTree.TheVariants as assignment
use Rattle.og_asn1.specs.declared.syntax.TypeTree.{TypeTree, size-TypeTree}
use Rattle.og_asn1.specs.declared.syntax.BaseTree.{BaseTree, BaseTree-F, out-BaseTree}
use Rattle.og_asn1.specs.declared.syntax.BaseTree.TheOpen as base
use Rattle.og_asn1.specs.declared.syntax.BaseTree.TheOpen.{CompTree-F}
use Rattle.og_asn1.specs.declared.syntax.OfTree.{OfTree, out-OfTree}
use Rattle.og_asn1.specs.declared.syntax.CompTree.{CompTree, out-CompTree}
use Rattle.og_flat.specs.Flattening.{enumerators_of, flat_of}
use Rattle.og_dataview.specs.Scope.{key, find_type, is_boolean}
use Rattle.og_dataview.specs.Following.{walk, node_of, as_number, bounds, interval_of, number_of}
use Rattle.og_dataview.specs.Violations.{given, is_given}

-- ---- names

abbrev pub name_of_item : Enumerator → Name
name_of_item e = e.name

abbrev pub names_by_part : (TypeTree → List Name) → CompTree-F BaseTree CompTree OfTree TypeTree → List Name
names_by_part inside (base.Part name kind presence) = name ∷ inside kind
names_by_part inside (base.Extension place) = []

abbrev pub names_in_parts : (TypeTree → List Name) → List CompTree → List Name
names_in_parts inside [] = []
names_in_parts inside (c ∷ cs) = names_by_part inside (out-CompTree c) ++ names_in_parts inside cs

abbrev pub names_by : (TypeTree → List Name) → BaseTree-F BaseTree CompTree OfTree TypeTree → List Name
names_by inside (base.Enumerated items) = map name_of_item (enumerators_of items)
names_by inside (base.Choice comps) = names_in_parts inside comps
names_by inside (base.Sequence comps) = names_in_parts inside comps
names_by inside (base.SequenceOf of) = let o = out-OfTree of in inside o.item
names_by inside (base.SetOf of) = let o = out-OfTree of in inside o.item
names_by inside _ = []

abbrev pub names_within : ℕ → TypeTree → List Name
names_within zero t = []
names_within (suc depth) t = names_by (names_within depth) (out-BaseTree t.base)

-- the names of parts and enumerators in a type, in the order of the text
abbrev pub names_in : TypeTree → List Name
names_in t = names_within (size-TypeTree t) t

abbrev pub names_declared_by : AssignmentTree → List Name
names_declared_by (assignment.Type name kind) = name ∷ names_in kind
names_declared_by (assignment.Value name kind v) = name ∷ names_in kind

-- the names that modules declare, in the order of the text
abbrev pub declared_names : List ModuleTree → List Name
declared_names modules = flat_map (λ (m : ModuleTree). flat_map names_declared_by m.assignments) modules

-- a table after names are added, one behind the other
abbrev pub with_names : List (List ℕ) → List Name → List (List ℕ)
with_names table [] = table
with_names table (name ∷ names) = with_names (with_name table (key name)) names

abbrev pub names_after : List (List ℕ) → List ModuleTree → List (List ℕ)
names_after table modules = with_names table (declared_names modules)

-- the number of a name, which each declared one has
abbrev pub name_number : List (List ℕ) → Name → NameId
name_number names name = record { 0 = unwrap_or (place_of names (key name)) 0 }

-- ---- enumerators

-- the least number from k on that is not given, where this many are given
abbrev pub least_free : List ℤ → ℕ → ℕ → ℕ
least_free numbers zero k = k
least_free numbers (suc n) k = if is_given numbers (pos k) then least_free numbers n (suc k) else k

-- the number of an enumerator in front of others, whose numbers go by the next number that may be free
abbrev pub numbers_by : List ℤ → ℕ → Option Written → (ℕ → List ℤ) → List ℤ
numbers_by numbers k (Some n) more = as_number n ∷ more k
numbers_by numbers k None more = let free = least_free numbers (length numbers) k in pos free ∷ more (suc free)

abbrev pub numbers_from : List ℤ → ℕ → List Enumerator → List ℤ
numbers_from numbers k [] = []
numbers_from numbers k (e ∷ es) = numbers_by numbers k e.number (λ next. numbers_from numbers next es)

-- those without a number take, in order, the least numbers from 0 on that are not given
abbrev pub enumerator_numbers : List Enumerator → List ℤ
enumerator_numbers items = numbers_from (flat_map given items) 0 items

-- ---- references

-- a reference without a bracket leads to the type that it names
abbrev pub other_name : Flat → Option Node → Option ℕ
other_name flat (Some (node.Reference name limits.Absent)) = node_of flat name
other_name flat _ = None

abbrev pub next_same : Flat → ℕ → ℕ
next_same flat p = unwrap_or (other_name flat (slice_get flat.nodes p)) p

-- where a way has come to, if it ends there
abbrev pub ended_at : Flat → ℕ → ℕ → ℕ
ended_at flat p e = if next_same flat e == e then e else p

-- the type with which a type shares its number: itself where the way does not end
abbrev pub same_as : Flat → ℕ → ℕ
same_as flat p = ended_at flat p (walk (next_same flat) (suc (length flat.types)) p)

-- ---- forms

abbrev pub is_size : Interval → Bool
is_size i = int_le (pos 0) i.lo && (int_le i.lo i.hi && int_le i.hi (pos 65536))

abbrev pub size_by : Option Interval → Option Interval
size_by None = None
size_by (Some i) = if is_size i then Some i else None

-- the least and the greatest length of a sequence of items
abbrev pub size_of : Flat → Limits → Option Interval
size_of flat (limits.Size range) = size_by (interval_of flat range)
size_of flat _ = None

-- BOOLEAN by its other name
abbrev pub is_truth : Flat → Name → Limits → Bool
is_truth flat name limits.Absent = is_boolean name && is_none (find_type flat name)
is_truth flat name _ = false

-- whether a type has a form that is supported, its parts left aside
abbrev pub has_form : Flat → ℕ → Option Node → Bool
has_form flat p (Some (node.Integer limits)) = is_some (bounds flat p)
has_form flat p (Some node.Boolean) = true
has_form flat p (Some (node.Reference name limits)) = is_truth flat name limits || is_some (bounds flat p)
has_form flat p (Some (node.Enumerated items is_open)) = not is_open && (not (is_empty items) && list_all in_64_bits (flat_map given items))
has_form flat p (Some (node.Choice parts is_plain)) = is_plain && not (is_empty parts)
has_form flat p (Some (node.Sequence parts is_plain)) = is_plain
has_form flat p (Some (node.SequenceOf limits item)) = is_some (size_of flat limits)
has_form flat p (Some (node.Other limits)) = false
has_form flat p None = false

abbrev pub node_of_part : PartNode → ℕ
node_of_part part = part.node

-- the types that a type needs
abbrev pub needed : Option Node → List ℕ
needed (Some (node.Choice parts is_plain)) = map node_of_part parts
needed (Some (node.Sequence parts is_plain)) = map node_of_part parts
needed (Some (node.SequenceOf limits item)) = item ∷ []
needed _ = []

-- it has such a form, and `inside` says of each type that it needs that it has one
abbrev pub is_made_of : Flat → (ℕ → Bool) → ℕ → Bool
is_made_of flat inside p = has_form flat p (slice_get flat.nodes p) && list_all inside (needed (slice_get flat.nodes p))

-- the type is not opaque and at most this deep
abbrev pub is_within : Flat → ℕ → ℕ → Bool
is_within flat zero p = false
is_within flat (suc depth) p = is_made_of flat (is_within flat depth) (same_as flat p)

-- it unfolds only where that is asked for
unfoldable pub greatest_depth : ℕ
greatest_depth = 64

abbrev pub is_supported : Flat → ℕ → Bool
is_supported flat p = is_within flat greatest_depth p

-- ---- numbers of types

-- it shares the number of no other type
abbrev pub is_own : Flat → ℕ → Bool
is_own flat p = same_as flat p == p

abbrev pub all_nodes : Flat → List ℕ
all_nodes flat = range_with_len 0 (length flat.nodes)

-- the types that are one deeper than so
abbrev pub is_deeper : Flat → ℕ → ℕ → Bool
is_deeper flat depth p = is_own flat p && (is_within flat (suc depth) p && not (is_within flat depth p))

abbrev pub deeper : Flat → ℕ → List ℕ
deeper flat depth = filter (is_deeper flat depth) (all_nodes flat)

-- the types that are at most so deep, those less deep first
abbrev pub up_to : Flat → ℕ → List ℕ
up_to flat zero = []
up_to flat (suc depth) = up_to flat depth ++ deeper flat depth

abbrev pub opaque : Flat → List ℕ
opaque flat = filter (λ p. is_own flat p && not (is_supported flat p)) (all_nodes flat)

-- the types in the order of their numbers
abbrev pub in_order : Flat → List ℕ
in_order flat = up_to flat greatest_depth ++ opaque flat

abbrev pub place_in : List ℕ → ℕ → ℕ
place_in order p = position_or_len (λ q. q == p) order

abbrev pub type_number : Flat → ℕ → TypeId
type_number flat p = record { 0 = place_in (in_order flat) (same_as flat p) }

-- ---- types

abbrev pub integer_sort : Option Interval → Sort
integer_sort None = sort.Opaque
integer_sort (Some i) = sort.Int i.lo i.hi

abbrev pub items_sort : Option Interval → TypeId → Sort
items_sort None item = sort.Opaque
items_sort (Some i) item = sort.SeqOf (nat_abs i.lo) (nat_abs i.hi) item

abbrev pub part_by : List (List ℕ) → (ℕ → TypeId) → PartNode → Part
part_by names number part = record { name = name_number names part.name; sort = number part.node }

-- a type by the numbers of names and types
abbrev pub sort_by : Flat → List (List ℕ) → (ℕ → TypeId) → ℕ → Option Node → Sort
sort_by flat names number p (Some (node.Integer limits)) = integer_sort (bounds flat p)
sort_by flat names number p (Some node.Boolean) = sort.Bool
sort_by flat names number p (Some (node.Reference name limits)) = if is_truth flat name limits then sort.Bool else integer_sort (bounds flat p)
sort_by flat names number p (Some (node.Enumerated items is_open)) = sort.Enumerated (map (λ (e : Enumerator). name_number names e.name) items) (enumerator_numbers items)
sort_by flat names number p (Some (node.Choice parts is_plain)) = sort.Choice (map (part_by names number) parts)
sort_by flat names number p (Some (node.Sequence parts is_plain)) = sort.Sequence (map (part_by names number) parts)
sort_by flat names number p (Some (node.SequenceOf limits item)) = items_sort (size_of flat limits) (number item)
sort_by flat names number p (Some (node.Other limits)) = sort.Opaque
sort_by flat names number p None = sort.Opaque

abbrev pub sort_of : Flat → List (List ℕ) → ℕ → Sort
sort_of flat names p = if is_supported flat p then sort_by flat names (type_number flat) p (slice_get flat.nodes p) else sort.Opaque

-- ---- the view

abbrev pub named_type : Flat → List (List ℕ) → TypeNode → NamedType
named_type flat names t = record { name = name_number names t.name; sort = type_number flat t.node; place = t.name.place }

abbrev pub constant_in_view : Flat → List (List ℕ) → ℕ × ConstantNode → Constant
constant_in_view flat names x = let c = x.1 in record { name = name_number names c.name; value = number_of flat x.0; place = c.name.place }

-- the view of what stands flat, by a table that has its names
abbrev pub view_by : Flat → List (List ℕ) → DataView
view_by flat names = record {
  types = map (sort_of flat names) (in_order flat);
  named = map (named_type flat names) flat.types;
  constants = map (constant_in_view flat names) (enumerate_from 0 flat.constants);
}

-- the view of modules, behind the names that a table has already
abbrev pub view_of : List (List ℕ) → List ModuleTree → DataView
view_of names modules = view_by (flat_of modules) (names_after names modules)
