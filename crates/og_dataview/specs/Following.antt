-- What references, constants and ranges come to. A reference names a declared type, which may be a reference again (X.680 clause
-- 16.3); a constant may be given by another one (clause 17.4); the values of a type with ranges are those that lie in all of them (clauses 49.2 and 51.4).
-- A way along names that does not end goes round, and then as many steps as there are names, and one more, end on it.
use Rattle.std.specs.Prelude.{ℕ, zero, suc, Bool, true, false, ◌&&◌, length, Option, Some, None, unwrap_or, slice_get, ℤ, pos, negsuc, int_le, if◌then◌else◌}
use Rattle.std.specs.Option.{option_map, option_and_then}
use Rattle.og_types.specs.Table.{in_64_bits}
use Rattle.og_dataview.specs.declared.numbers.Interval.{Interval}
use Rattle.og_flat.specs.declared.flat.Flat.{Flat}
use Rattle.og_flat.specs.declared.flat.Bound.{Bound}
use Rattle.og_flat.specs.declared.flat.Bound.TheVariants as bound
use Rattle.og_flat.specs.declared.flat.Range.{Range}
use Rattle.og_flat.specs.declared.flat.Limits.{Limits}
use Rattle.og_flat.specs.declared.flat.Limits.TheVariants as limits
use Rattle.og_flat.specs.declared.flat.Written.{Written}
use Rattle.og_flat.specs.declared.flat.Node.{Node}
use Rattle.og_flat.specs.declared.flat.Node.TheVariants as node
use Rattle.og_flat.specs.declared.flat.TypeNode.{TypeNode}
use Rattle.og_flat.specs.declared.flat.ConstantNode.{ConstantNode}
use Rattle.og_flat.specs.declared.flat.ConstantValue.{ConstantValue}
use Rattle.og_flat.specs.declared.flat.ConstantValue.TheVariants as value
use Rattle.og_asn1.specs.declared.syntax.Name.{Name}
use Rattle.og_flat.specs.Limits.{signed}
use Rattle.og_dataview.specs.Scope.{find_type, find_constant, is_declared_type, is_integer}

-- ---- ways

-- this many steps, each to the next one
abbrev pub walk : (ℕ → ℕ) → ℕ → ℕ → ℕ
walk next zero i = i
walk next (suc n) i = walk next n (next i)

-- ---- references

-- the declared type that a name stands for, by its place among the types
abbrev pub node_of : Flat → Name → Option ℕ
node_of flat name = option_map (λ (t : TypeNode). t.node) (option_and_then (slice_get flat.types) (find_type flat name))

-- the declared type that a type names
abbrev pub named_by : Flat → Option Node → Option ℕ
named_by flat (Some (node.Reference name limits)) = node_of flat name
named_by flat _ = None

-- a reference leads to the type that it names
abbrev pub next_type : Flat → ℕ → ℕ
next_type flat p = unwrap_or (named_by flat (slice_get flat.nodes p)) p

-- the type that a type is when all references are followed
abbrev pub end_of : Flat → ℕ → ℕ
end_of flat p = walk (next_type flat) (suc (length flat.types)) p

-- INTEGER, with or without a bracket
abbrev pub is_integer_node : Flat → Option Node → Bool
is_integer_node flat (Some (node.Integer limits)) = true
is_integer_node flat (Some (node.Reference name limits)) = is_free_integer (find_type flat name) name
  where
    is_free_integer : Option ℕ → Name → Bool
    is_free_integer None name = is_integer name
    is_free_integer (Some t) name = false
is_integer_node flat _ = false

abbrev pub is_integer_type : Flat → ℕ → Bool
is_integer_type flat p = is_integer_node flat (slice_get flat.nodes (end_of flat p))

-- ---- constants

-- a constant whose type is INTEGER and whose value is a constant leads to that one
abbrev pub constant_given : Flat → ℕ → ConstantValue → ℕ
constant_given flat i (value.Named name) = unwrap_or (find_constant flat name) i
constant_given flat i (value.Number number) = i
constant_given flat i value.Other = i

abbrev pub constant_after : Flat → ℕ → Option ConstantNode → ℕ
constant_after flat i None = i
constant_after flat i (Some c) = if is_integer_type flat c.node then constant_given flat i c.value else i

abbrev pub next_constant : Flat → ℕ → ℕ
next_constant flat i = constant_after flat i (slice_get flat.constants i)

-- the constant by which a constant is given in the end
abbrev pub last_constant : Flat → ℕ → ℕ
last_constant flat i = walk (next_constant flat) (suc (length flat.constants)) i

abbrev pub as_number : Written → ℤ
as_number n = signed n.is_negative n.digits

abbrev pub within_64_bits : ℤ → Option ℤ
within_64_bits z = if in_64_bits z then Some z else None

abbrev pub given_number : ConstantValue → Option ℤ
given_number (value.Number number) = within_64_bits (as_number number)
given_number (value.Named name) = None
given_number value.Other = None

abbrev pub own_number : Flat → Option ConstantNode → Option ℤ
own_number flat None = None
own_number flat (Some c) = if is_integer_type flat c.node then given_number c.value else None

-- the number of a constant, where it has one
abbrev pub number_of : Flat → ℕ → Option ℤ
number_of flat i = own_number flat (slice_get flat.constants (last_constant flat i))

-- ---- ranges

abbrev pub bound_of : Flat → Bound → Option ℤ
bound_of flat (bound.Number is_negative digits) = Some (signed is_negative digits)
bound_of flat (bound.Named name) = option_and_then (number_of flat) (find_constant flat name)

abbrev pub from_to : Option ℤ → Option ℤ → Option Interval
from_to (Some lo) (Some hi) = Some (record { lo = lo; hi = hi })
from_to _ _ = None

abbrev pub interval_of : Flat → Range → Option Interval
interval_of flat range = from_to (bound_of flat range.lo) (bound_of flat range.hi)

-- numbers of 64 bits, one at least
abbrev pub is_usable : Interval → Bool
is_usable i = in_64_bits i.lo && (in_64_bits i.hi && int_le i.lo i.hi)

abbrev pub usable : Interval → Option Interval
usable i = if is_usable i then Some i else None

abbrev pub greater : ℤ → ℤ → ℤ
greater a b = if int_le a b then b else a

abbrev pub lesser : ℤ → ℤ → ℤ
lesser a b = if int_le a b then a else b

-- the numbers that are in both
abbrev pub both : Interval → Interval → Interval
both i j = record { lo = greater i.lo j.lo; hi = lesser i.hi j.hi }

-- no number
abbrev pub nothing : Interval
nothing = record { lo = pos 1; hi = pos 0 }

-- each number that a token can have, with each sign
abbrev pub everything : Interval
everything = record { lo = negsuc 18446744073709551615; hi = pos 18446744073709551616 }

-- the numbers in a range, of which each bound has a number
abbrev pub in_range : Flat → Range → Interval
in_range flat range = unwrap_or (interval_of flat range) nothing

-- the numbers that INTEGER with this bracket has: without one it has no bounds
abbrev pub of_integer : Flat → Limits → Interval
of_integer flat (limits.Range range) = in_range flat range
of_integer flat _ = nothing

-- those that a bracket behind a reference leaves of the numbers of the type that it names
abbrev pub of_reference : Flat → Limits → Interval
of_reference flat limits.Absent = everything
of_reference flat (limits.Range range) = in_range flat range
of_reference flat _ = nothing

-- a name that is not declared is that of no type with bounds
abbrev pub own_numbers : Flat → Option Node → Interval
own_numbers flat (Some (node.Integer limits)) = of_integer flat limits
own_numbers flat (Some (node.Reference name limits)) = if is_declared_type flat name then of_reference flat limits else nothing
own_numbers flat _ = nothing

abbrev pub numbers_at : Flat → ℕ → Interval
numbers_at flat p = own_numbers flat (slice_get flat.nodes p)

-- the numbers that are left on a way of so many steps: those of each place on it
abbrev pub numbers_on : (ℕ → ℕ) → (ℕ → Interval) → ℕ → ℕ → Interval
numbers_on next own zero p = own p
numbers_on next own (suc n) p = both (own p) (numbers_on next own n (next p))

-- the numbers of an integer type: those that all its ranges leave
abbrev pub numbers_of : Flat → ℕ → Interval
numbers_of flat p = numbers_on (next_type flat) (numbers_at flat) (length flat.types) p

-- the least and the greatest number of an integer type, where it has them
abbrev pub bounds : Flat → ℕ → Option Interval
bounds flat p = if is_integer_type flat p then usable (numbers_of flat p) else None
