-- Between which numbers an integer expression lies (Z.101 section 12.2), whatever its variables hold of their types, and where
-- none can be said: an operator or a literal passes 64 bits (G1), or a right operand of `mod` or `rem` may be negative (G5). An
-- expression of which a part violates one of both has no interval, and violates neither of them itself. The rules are this
-- project's own.
use Rattle.std.specs.Prelude.{ℕ, zero, suc, Bool, ◌&&◌, cond, List, [], ◌∷◌, ◌++◌, ℤ, pos, negsuc, int_lt, int_le, slice_get, Option, Some, None}
use Rattle.std.specs.List.{flat_map}
use Rattle.og_base.specs.declared.Place.{Place}
use Rattle.og_base.specs.declared.Rule.{Rule}
use Rattle.og_base.specs.declared.Rule.TheVariants.{G1, G5}
use Rattle.og_base.specs.declared.Violation.{Violation}
use Rattle.og_types.specs.declared.TypeId.{TypeId}
use Rattle.og_types.specs.declared.Sort.{Sort}
use Rattle.og_types.specs.declared.Sort.TheVariants as Sorts
use Rattle.og_types.specs.Table.{is_empty}
use Rattle.og_model.specs.declared.UnaryOp.{UnaryOp}
use Rattle.og_model.specs.declared.UnaryOp.TheVariants.{Minus, Not}
use Rattle.og_model.specs.declared.BinaryOp.{BinaryOp}
use Rattle.og_model.specs.declared.BinaryOp.TheVariants.{Add, Sub, Mul, Div, Mod, Rem}
use Rattle.og_model.specs.declared.Target.{Target}
use Rattle.og_model.specs.declared.Select.{Select, Select-F, out-Select}
use Rattle.og_model.specs.declared.Expr.{Expr}
use Rattle.og_model.specs.declared.Node.{Node, Node-F, out-Node}
use Rattle.og_model.specs.declared.Node.TheOpen as Nodes
use Rattle.og_model.specs.WellSorted.{Data, type_of}
use Rattle.og_ranges.specs.declared.Interval.{Interval}
use Rattle.og_ranges.specs.Intervals.{sum_of, difference_of, negative_of, product_of, quotient_of, modulus_of, remainder_of}

-- the violations of G1 and G5 in an expression, and the interval of a number where there are none
pub record Range : Type 0 where
  pub interval : Interval
  pub violations : List Violation

-- one number alone
abbrev pub point : ℤ → Interval
point z = record { lo = z; hi = z }

-- what is no number, or has no interval, has 0 in its place
abbrev pub without : List Violation → Range
without violations = record { interval = point (pos 0); violations = violations }

abbrev pub violates : Rule → Place → Range
violates rule place = without (record { rule = rule; place = place } ∷ [])

-- from -2^63 to 2^63 - 1
abbrev pub is_within_64_bits : Interval → Bool
is_within_64_bits a = int_le (negsuc 9223372036854775807) a.lo && int_le a.hi (pos 9223372036854775807)

-- an interval that passes 64 bits violates G1
abbrev pub tested : Place → Interval → Range
tested place a = cond (is_within_64_bits a) (record { interval = a; violations = [] }) (violates G1 place)

-- ---- operators

-- a divisor of `mod` and `rem` that may be negative violates G5
abbrev pub divided : Place → Interval → Interval → Range
divided place divisor a = cond (int_lt divisor.lo (pos 0)) (violates G5 place) (tested place a)

abbrev pub by_operator : Place → BinaryOp → Interval → Interval → Range
by_operator place Add a b = tested place (sum_of a b)
by_operator place Sub a b = tested place (difference_of a b)
by_operator place Mul a b = tested place (product_of a b)
by_operator place Div a b = tested place (quotient_of a b)
by_operator place Mod a b = divided place b (modulus_of a b)
by_operator place Rem a b = divided place b (remainder_of a b)
by_operator place op a b = without []

abbrev pub by_sign : Place → UnaryOp → Interval → Range
by_sign place Minus a = tested place (negative_of a)
by_sign place Not a = without []

-- parts that violate nothing go on, and else their violations are those of the whole
abbrev pub where_kept : List Violation → Range → Range
where_kept violations whole = cond (is_empty violations) whole (without violations)

-- ---- variables

-- the bounds of a type of whole numbers
abbrev pub bounds_of : Option Sort → Interval
bounds_of (Some (Sorts.Int lo hi)) = record { lo = lo; hi = hi }
bounds_of _ = point (pos 0)

-- the lengths of the sequences of items of a type
abbrev pub lengths_of : Option Sort → Interval
lengths_of (Some (Sorts.SeqOf lo hi item)) = record { lo = pos lo; hi = pos hi }
lengths_of _ = point (pos 0)

abbrev pub sort_numbered : List Sort → Option TypeId → Option Sort
sort_numbered types None = None
sort_numbered types (Some id) = slice_get types id.0

-- the type of what stands at a target
abbrev pub sort_of_target : Data → Target → Option Sort
sort_of_target d t = sort_numbered d.types (type_of d t)

abbrev pub in_selector : (Expr → Range) → Select-F Node Select Expr Target → List Violation
in_selector ranges (Nodes.At index) = (ranges index).violations
in_selector ranges _ = []

-- in the indices, from left to right
abbrev pub in_path : (Expr → Range) → Target → List Violation
in_path ranges t = flat_map (λ s. in_selector ranges (out-Select s)) t.path

abbrev pub in_each : (Expr → Range) → List Expr → List Violation
in_each ranges es = flat_map (λ e. (ranges e).violations) es

-- ---- expressions

-- an expression at this place whose operands are as `ranges` says
abbrev pub range_of_node : (Expr → Range) → Data → Place → Node-F Node Select Expr Target → Range
range_of_node ranges d place (Nodes.Number z) = tested place (point z)
range_of_node ranges d place (Nodes.Truth t) = without []
range_of_node ranges d place (Nodes.Item k) = without []
range_of_node ranges d place (Nodes.Get t) = record { interval = bounds_of (sort_of_target d t); violations = in_path ranges t }
range_of_node ranges d place (Nodes.Length t) = record { interval = lengths_of (sort_of_target d t); violations = in_path ranges t }
range_of_node ranges d place (Nodes.Present t) = without (in_path ranges t)
range_of_node ranges d place (Nodes.Unary op e) = where_kept (ranges e).violations (by_sign place op (ranges e).interval)
range_of_node ranges d place (Nodes.Binary op x y) =
    where_kept ((ranges x).violations ++ (ranges y).violations) (by_operator place op (ranges x).interval (ranges y).interval)
range_of_node ranges d place (Nodes.Sequence es) = without (in_each ranges es)
range_of_node ranges d place (Nodes.SeqOf es) = without (in_each ranges es)
range_of_node ranges d place (Nodes.Choice k e) = without (ranges e).violations

-- an expression of at most this depth
abbrev pub range_within : ℕ → Data → Expr → Range
range_within zero d e = without []
range_within (suc depth) d e = range_of_node (range_within depth d) d e.place (out-Node e.node)

-- an expression is at most 64 deep
unfoldable pub range_of : Data → Expr → Range
range_of d e = range_within 64 d e
