-- Which expressions are built as every text builds them (Z.101 sections 12.2 and 12.3): each operator has operands of its
-- sort, each selector stands on a type that has it, and each number of a component, an alternative or an enumerator names
-- one that is there. No expression is more than 64 deep. Whether an expression has the type that its surroundings want is
-- not asked here.
use Rattle.std.specs.Prelude.{ℕ, zero, suc, Bool, true, false, ◌&&◌, is_some, List, [], ◌∷◌, length, map, slice_get, nat_lt, nat_le, nat_eq, Option, Some, None}
use Rattle.std.specs.List.{list_all}
use Rattle.std.specs.Option.{option_map}
use Rattle.og_base.specs.declared.Place.{Place}
use Rattle.og_types.specs.declared.TypeId.{TypeId}
use Rattle.og_types.specs.declared.Part.{Part as Component}
use Rattle.og_types.specs.declared.Sort.{Sort}
use Rattle.og_types.specs.declared.Sort.TheVariants as Sorts
use Rattle.og_model.specs.declared.VarId.{VarId}
use Rattle.og_model.specs.declared.VarId.TheVariants.{Process, Local}
use Rattle.og_model.specs.declared.Variable.{Variable}
use Rattle.og_model.specs.declared.UnaryOp.{UnaryOp}
use Rattle.og_model.specs.declared.UnaryOp.TheVariants.{Minus, Not}
use Rattle.og_model.specs.declared.BinaryOp.{BinaryOp}
use Rattle.og_model.specs.declared.BinaryOp.TheVariants as Ops
use Rattle.og_model.specs.declared.ExprSort.{ExprSort}
use Rattle.og_model.specs.declared.ExprSort.TheVariants.{Int, Bool as Truths, Typed, Kind}
use Rattle.og_model.specs.declared.Target.{Target}
use Rattle.og_model.specs.declared.Select.{Select, Select-F, out-Select}
use Rattle.og_model.specs.declared.Expr.{Expr}
use Rattle.og_model.specs.declared.Node.{Node, Node-F, out-Node}
use Rattle.og_model.specs.declared.Node.TheOpen as Nodes
use Rattle.og_model.specs.Expressions.{Hop, ToPart, ToAlternative, ToItem, sort_at}

-- what an expression can name: the types, the variables of the process, and those of the procedure where it stands
pub record Data : Type 0 where
  pub types : List Sort
  pub variables : List Variable
  pub locals : List Variable

-- ---- sorts

-- the sort of values of a type
abbrev pub sort_from : TypeId → Option Sort → ExprSort
sort_from id (Some (Sorts.Int lo hi)) = Int
sort_from id (Some Sorts.Bool) = Truths
sort_from id _ = Typed id

abbrev pub sort_for : List Sort → TypeId → ExprSort
sort_for types id = sort_from id (slice_get types id.0)

abbrev pub same_sort : ExprSort → ExprSort → Bool
same_sort Int Int = true
same_sort Truths Truths = true
same_sort (Typed a) (Typed b) = nat_eq a.0 b.0
same_sort (Kind a) (Kind b) = nat_eq a.0 b.0
same_sort _ _ = false

-- the type that a structured value or an enumerator has
abbrev pub type_in : List Sort → ExprSort → Option Sort
type_in types (Typed id) = slice_get types id.0
type_in types _ = None

-- ---- targets

abbrev pub sort_of_variable : Data → VarId → Option TypeId
sort_of_variable d (Process n) = option_map (λ (x : Variable). x.sort) (slice_get d.variables n)
sort_of_variable d (Local n) = option_map (λ (x : Variable). x.sort) (slice_get d.locals n)

-- a selector, whatever its index
abbrev pub hop_of : Select-F Node Select Expr Target → Hop
hop_of (Nodes.Part k) = ToPart k
hop_of (Nodes.Alternative k) = ToAlternative k
hop_of (Nodes.At index) = ToItem 0

-- the type of a target, where each selector stands on a type that has it
abbrev pub type_of : Data → Target → Option TypeId
type_of d t = sort_at d.types (sort_of_variable d t.variable) (map (λ s. hop_of (out-Select s)) t.path)

abbrev pub is_index : (Expr → Bool) → Select-F Node Select Expr Target → Bool
is_index right (Nodes.At index) = right index && same_sort index.sort Int
is_index right _ = true

-- the selectors lead to a type, and the indices are numbers
abbrev pub is_target : (Expr → Bool) → Data → Target → Bool
is_target right d t = is_some (type_of d t) && list_all (λ s. is_index right (out-Select s)) t.path

-- ---- nodes

abbrev pub sorts_of_parts : List Sort → List Component → List ExprSort
sorts_of_parts types parts = map (λ (p : Component). sort_for types p.sort) parts

-- an expression of a sort
abbrev pub is_of : (Expr → Bool) → ExprSort → Expr → Bool
is_of right sort e = right e && same_sort e.sort sort

-- one expression for each sort
abbrev pub are_of : (Expr → Bool) → List ExprSort → List Expr → Bool
are_of right [] [] = true
are_of right (s ∷ ss) (e ∷ es) = is_of right s e && are_of right ss es
are_of right _ _ = false

-- the value to which a target leads has this sort
abbrev pub leads_to : List Sort → ExprSort → Option TypeId → Bool
leads_to types sort (Some id) = same_sort (sort_for types id) sort
leads_to types sort None = false

abbrev pub is_sequence_of_items : Option Sort → Bool
is_sequence_of_items (Some (Sorts.SeqOf lo hi item)) = true
is_sequence_of_items _ = false

-- an alternative of a type
abbrev pub is_alternative : ℕ → Option Sort → Bool
is_alternative k (Some (Sorts.Choice parts)) = nat_lt k (length parts)
is_alternative k _ = false

-- an enumerator of a type
abbrev pub is_enumerator : ℕ → Option Sort → Bool
is_enumerator k (Some (Sorts.Enumerated names numbers)) = nat_lt k (length names)
is_enumerator k _ = false

-- an enumerator, or an alternative that `present` is compared with
abbrev pub is_item : List Sort → ℕ → ExprSort → Bool
is_item types k (Typed id) = is_enumerator k (slice_get types id.0)
is_item types k (Kind id) = is_alternative k (slice_get types id.0)
is_item types k _ = false

-- `length` asks a sequence of items
abbrev pub is_length : List Sort → Option TypeId → ExprSort → Bool
is_length types (Some id) sort = is_sequence_of_items (slice_get types id.0) && same_sort sort Int
is_length types None sort = false

-- `present` asks a choice, and gives a number of its alternatives
abbrev pub is_present : List Sort → Option TypeId → ExprSort → Bool
is_present types (Some id) sort = is_alternative 0 (slice_get types id.0) && same_sort sort (Kind id)
is_present types None sort = false

abbrev pub is_enumeration : Option Sort → Bool
is_enumeration t = is_enumerator 0 t

-- numbers, truth values, enumerators and numbers of alternatives can be equal
abbrev pub can_be_equal : List Sort → ExprSort → Bool
can_be_equal types (Typed id) = is_enumeration (slice_get types id.0)
can_be_equal types _ = true

abbrev pub is_unary : UnaryOp → ExprSort → ExprSort → Bool
is_unary Minus sort inner = same_sort inner Int && same_sort sort Int
is_unary Not sort inner = same_sort inner Truths && same_sort sort Truths

-- both operands have one sort, and the result another
abbrev pub is_both : ExprSort → ExprSort → ExprSort → ExprSort → ExprSort → Bool
is_both operands result sort left right = same_sort left operands && (same_sort right operands && same_sort sort result)

abbrev pub is_equality : List Sort → ExprSort → ExprSort → ExprSort → Bool
is_equality types sort left right = can_be_equal types left && is_both left Truths sort left right

-- the sorts of a binary node and of its operands
abbrev pub is_binary : List Sort → BinaryOp → ExprSort → ExprSort → ExprSort → Bool
is_binary types Ops.Add = is_both Int Int
is_binary types Ops.Sub = is_both Int Int
is_binary types Ops.Mul = is_both Int Int
is_binary types Ops.Div = is_both Int Int
is_binary types Ops.Mod = is_both Int Int
is_binary types Ops.Rem = is_both Int Int
is_binary types Ops.Eq = is_equality types
is_binary types Ops.Ne = is_equality types
is_binary types Ops.Lt = is_both Int Truths
is_binary types Ops.Le = is_both Int Truths
is_binary types Ops.Gt = is_both Int Truths
is_binary types Ops.Ge = is_both Int Truths
is_binary types Ops.And = is_both Truths Truths
is_binary types Ops.Or = is_both Truths Truths
is_binary types Ops.Xor = is_both Truths Truths
is_binary types Ops.AndThen = is_both Truths Truths
is_binary types Ops.OrElse = is_both Truths Truths

-- one value for each component of the type
abbrev pub is_sequence : (Expr → Bool) → List Sort → Option Sort → List Expr → Bool
is_sequence right types (Some (Sorts.Sequence parts)) es = are_of right (sorts_of_parts types parts) es
is_sequence right types _ es = false

-- items of the type's items
abbrev pub is_list : (Expr → Bool) → List Sort → Option Sort → List Expr → Bool
is_list right types (Some (Sorts.SeqOf lo hi item)) es = list_all (is_of right (sort_for types item)) es
is_list right types _ es = false

abbrev pub is_part : (Expr → Bool) → List Sort → Option Component → Expr → Bool
is_part right types (Some p) e = is_of right (sort_for types p.sort) e
is_part right types None e = false

-- an alternative of the type with a value of it
abbrev pub is_choice : (Expr → Bool) → List Sort → Option Sort → ℕ → Expr → Bool
is_choice right types (Some (Sorts.Choice parts)) k e = is_part right types (slice_get parts k) e
is_choice right types _ k e = false

-- a node has this sort, where the expressions inside are as `right` says
abbrev pub is_node : (Expr → Bool) → Data → ExprSort → Node-F Node Select Expr Target → Bool
is_node right d sort (Nodes.Number z) = same_sort sort Int
is_node right d sort (Nodes.Truth t) = same_sort sort Truths
is_node right d sort (Nodes.Item k) = is_item d.types k sort
is_node right d sort (Nodes.Get t) = is_target right d t && leads_to d.types sort (type_of d t)
is_node right d sort (Nodes.Length t) = is_target right d t && is_length d.types (type_of d t) sort
is_node right d sort (Nodes.Present t) = is_target right d t && is_present d.types (type_of d t) sort
is_node right d sort (Nodes.Unary op e) = right e && is_unary op sort e.sort
is_node right d sort (Nodes.Binary op x y) = right x && (right y && is_binary d.types op sort x.sort y.sort)
is_node right d sort (Nodes.Sequence es) = is_sequence right d.types (type_in d.types sort) es
is_node right d sort (Nodes.SeqOf es) = is_list right d.types (type_in d.types sort) es
is_node right d sort (Nodes.Choice k e) = is_choice right d.types (type_in d.types sort) k e

-- ---- expressions

-- a place in one of at most 64 files; lines and columns count from 1
abbrev pub is_place : Place → Bool
is_place p = nat_lt p.file 64 && (nat_le 1 p.line && nat_le 1 p.column)

-- an expression of at most this depth
abbrev pub is_sorted_within : ℕ → Data → Expr → Bool
is_sorted_within zero d e = false
is_sorted_within (suc depth) d e =
    is_place e.place && (is_place e.first && is_node (is_sorted_within depth d) d e.sort (out-Node e.node))

-- an expression is at most 64 deep
abbrev pub is_expression : Data → Expr → Bool
is_expression d e = is_sorted_within 64 d e

-- a variable with its selectors
abbrev pub is_place_of_value : Data → Target → Bool
is_place_of_value d t = is_target (is_expression d) d t
