-- What an expression is worth, and where a variable with its selectors stands. This follows the expressions and the
-- variables of Z.101 (sections 12.2 and 12.3) and the data of Z.104, with these choices of this project: a number is any
-- whole number, indices count from 0, operands are evaluated from left to right, and the first fault in this order is
-- the result. `and`, `or` and `xor` evaluate both sides; `and then` and `or else` the right side only where it is needed.
-- Nothing is tested against a type here. On a tree that no text of a model gives, as a sum of truth values, a number
-- stands for what is not there.
use Rattle.std.specs.Prelude.{ℕ, zero, suc, Bool, true, false, not, cond, ◌&&◌, ◌||◌, List, [], ◌∷◌, length, get_or, slice_get, slice_set, ℤ, pos, negsuc, ◌+ℤ◌, ◌-ℤ◌, ◌*ℤ◌, neg_ℤ, int_lt, int_le, int_div, int_rem, nat_lt, Option, Some, None, Result, Ok, Err}
use Rattle.std.specs.Bool.{xor}
use Rattle.std.specs.Int.{int_rem_euclid}
use Rattle.std.specs.Ordering.{int_eq}
use Rattle.std.specs.Option.{option_map, option_and_then}
use Rattle.og_types.specs.declared.TypeId.{TypeId}
use Rattle.og_types.specs.declared.Sort.{Sort}
use Rattle.og_types.specs.declared.Sort.TheVariants as Sorts
use Rattle.og_types.specs.declared.Part.{Part as Component}
use Rattle.og_types.specs.declared.Value.{Value, Value-F, out-Value}
use Rattle.og_types.specs.declared.Value as Values
use Rattle.og_types.specs.declared.Value.TheOpen as Open
use Rattle.og_types.specs.Values.{is_in, no_value}
use Rattle.og_model.specs.declared.VarId.{VarId}
use Rattle.og_model.specs.declared.VarId.TheVariants.{Process, Local}
use Rattle.og_model.specs.declared.FaultKind.{FaultKind}
use Rattle.og_model.specs.declared.FaultKind.TheVariants as Fault
use Rattle.og_model.specs.declared.UnaryOp.{UnaryOp}
use Rattle.og_model.specs.declared.UnaryOp.TheVariants.{Minus, Not}
use Rattle.og_model.specs.declared.BinaryOp.{BinaryOp}
use Rattle.og_model.specs.declared.BinaryOp.TheVariants.{Add, Sub, Mul, Div, Mod, Rem, Eq, Ne, Lt, Le, Gt, Ge, And, Or, Xor, AndThen, OrElse}
use Rattle.og_model.specs.declared.Target.{Target, size-Target}
use Rattle.og_model.specs.declared.Select.{Select, Select-F, out-Select}
use Rattle.og_model.specs.declared.Expr.{Expr, size-Expr}
use Rattle.og_model.specs.declared.Node.{Node, Node-F, out-Node}
use Rattle.og_model.specs.declared.Node.TheOpen.{Number, Truth, Item, Get, Length, Present, Unary, Binary, Sequence, SeqOf, Choice, Part, Alternative, At}

-- ---- variables and their values

-- a variable of the process, or a variable of one of the calls that are running, counted from the outermost
pub data Location : Type 0 where
  OfProcess : (variable : ℕ) → Location
  OfCall : (call number : ℕ) → Location

-- what a call got for a parameter: a copy of a value, or the location of the caller's variable
pub data Passed : Type 0 where
  Copied : (value : Value) → Passed
  Shared : (location : Location) → Passed

-- the value of each location: the variables of the process, and for each running call its own variables
pub record Store : Type 0 where
  pub variables : List Value
  pub calls : List (List Value)

-- where the local variables of a call stand: its number, and what it got for its parameters
pub record Frame : Type 0 where
  pub call : ℕ
  pub passed : List Passed

-- outside all procedures
abbrev pub no_frame : Frame
no_frame = record { call = 0; passed = [] }

abbrev pub shared_or : Option Passed → Location → Location
shared_or (Some (Shared l)) own = l
shared_or (Some (Copied v)) own = own
shared_or None own = own

-- where a variable stands: an IN/OUT parameter has the location of the variable that it is bound to
abbrev pub location_of : Frame → VarId → Location
location_of b (Process n) = OfProcess n
location_of b (Local n) = shared_or (slice_get b.passed n) (OfCall b.call n)

abbrev pub value_at : List Value → ℕ → Value
value_at vs n = get_or vs n no_value

abbrev pub read : Store → Location → Value
read s (OfProcess n) = value_at s.variables n
read s (OfCall c n) = value_at (get_or s.calls c []) n

abbrev pub write : Store → Location → Value → Store
write s (OfProcess n) v = record s { variables = slice_set s.variables n v }
write s (OfCall c n) v = record s { calls = slice_set s.calls c (slice_set (get_or s.calls c []) n v) }

-- ---- the parts of a value

-- a whole number; of a truth value or a name the number that counts it from 0
abbrev pub number_in : Value-F Value → ℤ
number_in (Open.Int z) = z
number_in (Open.Bool b) = cond b (pos 1) (pos 0)
number_in (Open.Enumerated k) = pos k
number_in _ = pos 0

abbrev pub number_of : Value → ℤ
number_of v = number_in (out-Value v)

abbrev pub truth_in : Value-F Value → Bool
truth_in (Open.Bool b) = b
truth_in _ = false

abbrev pub truth_of : Value → Bool
truth_of v = truth_in (out-Value v)

abbrev pub parts_in : Value-F Value → List Value
parts_in (Open.Sequence vs) = vs
parts_in _ = []

-- the components of a sequence
abbrev pub parts_of : Value → List Value
parts_of v = parts_in (out-Value v)

abbrev pub items_in : Value-F Value → List Value
items_in (Open.SeqOf vs) = vs
items_in _ = []

-- the items of a sequence of items
abbrev pub items_of : Value → List Value
items_of v = items_in (out-Value v)

abbrev pub alternative_in : Value-F Value → ℕ
alternative_in (Open.Choice k v) = k
alternative_in _ = 0

-- the alternative that a choice has
abbrev pub alternative_of : Value → ℕ
alternative_of v = alternative_in (out-Value v)

abbrev pub chosen_in : Value-F Value → Value
chosen_in (Open.Choice k v) = v
chosen_in _ = no_value

-- the value of the alternative that a choice has
abbrev pub chosen_of : Value → Value
chosen_of v = chosen_in (out-Value v)

-- ---- walking along selectors

-- goes on with a value, or stays at the fault
abbrev pub on_value : {A B : Type 0} → Result A FaultKind → (A → Result B FaultKind) → Result B FaultKind
on_value (Ok a) go = go a
on_value (Err kind) go = Err kind

-- a selector whose index is known
pub data Hop : Type 0 where
  ToPart : (k : ℕ) → Hop
  ToAlternative : (k : ℕ) → Hop
  ToItem : (k : ℕ) → Hop

-- the value to which a selector leads
abbrev pub hop_from : Value → Hop → Value
hop_from v (ToPart k) = value_at (parts_of v) k
hop_from v (ToAlternative k) = chosen_of v
hop_from v (ToItem k) = value_at (items_of v) k

-- an index is not negative, and lies below the length
abbrev pub index_below : ℕ → ℤ → Result Hop FaultKind
index_below len (pos n) = cond (nat_lt n len) (Ok (ToItem n)) (Err Fault.Index)
index_below len (negsuc n) = Err Fault.Index

-- a choice is read and written by the alternative that it has
abbrev pub alternative_is : ℕ → ℕ → Result Hop FaultKind
alternative_is has k = cond (nat_lt has k || nat_lt k has) (Err Fault.Alternative) (Ok (ToAlternative k))

abbrev pub Evaluates : Type 0
Evaluates = Expr → Result Value FaultKind

-- one selector at a value
abbrev pub hop_by : Evaluates → Value → Select-F Node Select Expr Target → Result Hop FaultKind
hop_by worth v (Part k) = Ok (ToPart k)
hop_by worth v (Alternative k) = alternative_is (alternative_of v) k
hop_by worth v (At index) = on_value (worth index) (λ i. index_below (length (items_of v)) (number_of i))

-- the selectors with their indices, and the value to which they lead
pub record Walked : Type 0 where
  pub hops : List Hop
  pub value : Value

-- the selectors from left to right
abbrev pub walk_from : Evaluates → Value → List Select → Result Walked FaultKind
walk_from worth v [] = Ok (record { hops = []; value = v })
walk_from worth v (x ∷ xs) =
    on_value (hop_by worth v (out-Select x)) (λ h.
    on_value (walk_from worth (hop_from v h) xs) (λ w.
    Ok (record { hops = h ∷ w.hops; value = w.value })))

abbrev pub walk_by : Evaluates → Frame → Store → Target → Result Walked FaultKind
walk_by worth b s target = walk_from worth (read s (location_of b target.variable)) target.path

-- ---- expressions

abbrev pub as_number : ℤ → Result Value FaultKind
as_number z = Ok (Values.Int z)

abbrev pub as_truth : Bool → Result Value FaultKind
as_truth b = Ok (Values.Bool b)

-- where the divisor is not 0
abbrev pub divided : (ℤ → ℤ → ℤ) → ℤ → ℤ → Result Value FaultKind
divided f p q = cond (int_eq q (pos 0)) (Err Fault.Division) (as_number (f p q))

-- an operator on two values. `/` truncates toward zero, `mod` lies between 0 and the divisor less 1, `rem` is what `/`
-- leaves
abbrev pub apply : BinaryOp → Value → Value → Result Value FaultKind
apply Add x y = as_number (number_of x +ℤ number_of y)
apply Sub x y = as_number (number_of x -ℤ number_of y)
apply Mul x y = as_number (number_of x *ℤ number_of y)
apply Div x y = divided int_div (number_of x) (number_of y)
apply Mod x y = divided int_rem_euclid (number_of x) (number_of y)
apply Rem x y = divided int_rem (number_of x) (number_of y)
apply Eq x y = as_truth (int_eq (number_of x) (number_of y))
apply Ne x y = as_truth (not (int_eq (number_of x) (number_of y)))
apply Lt x y = as_truth (int_lt (number_of x) (number_of y))
apply Le x y = as_truth (int_le (number_of x) (number_of y))
apply Gt x y = as_truth (int_lt (number_of y) (number_of x))
apply Ge x y = as_truth (int_le (number_of y) (number_of x))
apply And x y = as_truth (truth_of x && truth_of y)
apply AndThen x y = as_truth (truth_of x && truth_of y)
apply Or x y = as_truth (truth_of x || truth_of y)
apply OrElse x y = as_truth (truth_of x || truth_of y)
apply Xor x y = as_truth (xor (truth_of x) (truth_of y))

-- the left operand leaves the answer open
abbrev pub needs_right : BinaryOp → Value → Bool
needs_right AndThen x = truth_of x
needs_right OrElse x = not (truth_of x)
needs_right _ x = true

-- the left operand, then the right one where it is needed
abbrev pub binary : Evaluates → BinaryOp → Expr → Expr → Result Value FaultKind
binary worth op left right =
    on_value (worth left) (λ x.
    cond (needs_right op x) (on_value (worth right) (λ y. apply op x y)) (Ok x))

abbrev pub unary : UnaryOp → Value → Result Value FaultKind
unary Minus x = as_number (neg_ℤ (number_of x))
unary Not x = as_truth (not (truth_of x))

-- the values of expressions in their order
abbrev pub eval_each : Evaluates → List Expr → Result (List Value) FaultKind
eval_each worth [] = Ok []
eval_each worth (e ∷ es) = on_value (worth e) (λ v. on_value (eval_each worth es) (λ vs. Ok (v ∷ vs)))

-- an expression whose operands are worth what `worth` says
abbrev pub eval_node : Evaluates → Frame → Store → Node-F Node Select Expr Target → Result Value FaultKind
eval_node worth b s (Number z) = as_number z
eval_node worth b s (Truth t) = as_truth t
eval_node worth b s (Item k) = Ok (Values.Enumerated k)
eval_node worth b s (Get target) = on_value (walk_by worth b s target) (λ w. Ok w.value)
eval_node worth b s (Length target) = on_value (walk_by worth b s target) (λ w. as_number (pos (length (items_of w.value))))
eval_node worth b s (Present target) = on_value (walk_by worth b s target) (λ w. Ok (Values.Enumerated (alternative_of w.value)))
eval_node worth b s (Unary op e) = on_value (worth e) (unary op)
eval_node worth b s (Binary op left right) = binary worth op left right
eval_node worth b s (Sequence es) = on_value (eval_each worth es) (λ vs. Ok (Values.Sequence vs))
eval_node worth b s (SeqOf es) = on_value (eval_each worth es) (λ vs. Ok (Values.SeqOf vs))
eval_node worth b s (Choice k e) = on_value (worth e) (λ v. Ok (Values.Choice k v))

-- the value of an expression of at most this depth
abbrev pub eval_within : ℕ → Frame → Store → Expr → Result Value FaultKind
eval_within zero b s e = Ok no_value
eval_within (suc depth) b s e = eval_node (eval_within depth b s) b s (out-Node e.node)

-- the value of an expression, or its first fault
unfoldable pub eval : Frame → Store → Expr → Result Value FaultKind
eval b s e = eval_within (size-Expr e) b s e

-- where a target leads, or its first fault
unfoldable pub walk : Frame → Store → Target → Result Walked FaultKind
walk b s target = walk_by (eval_within (size-Target target) b s) b s target

-- ---- changing a variable

-- an old value with a new one at a place inside
abbrev pub put_in : List Hop → Value → Value → Value
put_in [] new old = new
put_in (ToPart k ∷ hs) new old = Values.Sequence (slice_set (parts_of old) k (put_in hs new (value_at (parts_of old) k)))
put_in (ToAlternative k ∷ hs) new old = Values.Choice k (put_in hs new (chosen_of old))
put_in (ToItem k ∷ hs) new old = Values.SeqOf (slice_set (items_of old) k (put_in hs new (value_at (items_of old) k)))

-- the store with a new value at a place inside a variable
abbrev pub put : Store → Location → List Hop → Value → Store
put s l hops new = write s l (put_in hops new (read s l))

-- the type to which a selector leads
abbrev pub sort_after : Hop → Sort → Option TypeId
sort_after (ToPart k) (Sorts.Sequence parts) = option_map (λ (p : Component). p.sort) (slice_get parts k)
sort_after (ToAlternative k) (Sorts.Choice parts) = option_map (λ (p : Component). p.sort) (slice_get parts k)
sort_after (ToItem k) (Sorts.SeqOf lo hi item) = Some item
sort_after _ _ = None

-- the type of a place inside a variable of the type
abbrev pub sort_at : List Sort → Option TypeId → List Hop → Option TypeId
sort_at types id [] = id
sort_at types id (h ∷ hs) =
    sort_at types (option_and_then (λ (i : TypeId). option_and_then (sort_after h) (slice_get types i.0)) id) hs

-- the value is one of the type, where there is a type
abbrev pub fits : List Sort → Option TypeId → Value → Bool
fits types (Some id) v = is_in types id v
fits types None v = false
