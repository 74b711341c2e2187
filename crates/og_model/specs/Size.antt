-- How large a model is. The inlined size counts the text of a model after each call is replaced by the procedure that it
-- calls; it is bounded for every model that is accepted. `bulk` bounds the size of the program that a model is compiled to,
-- up to a factor: it adds what the text of an action leaves out, the depth of nested states, and the cells of variables.
-- Both are this project's own. Procedures do not call each other in a cycle (Z.100 allows it): so a search that goes from
-- call to call ends within as many calls as there are procedures.
use Rattle.std.specs.Prelude.{ℕ, zero, suc, ◌+◌, ◌*◌, Bool, ◌&&◌, if◌then◌else◌, List, [], ◌∷◌, length, drop, slice_get, nat_eq, Option, Some, None}
use Rattle.std.specs.List.{list_any}
use Rattle.og_base.specs.declared.Place.{Place}
use Rattle.og_types.specs.declared.Sort.{Sort}
use Rattle.og_types.specs.declared.Value.{Value, Value-F, out-Value, size-Value}
use Rattle.og_types.specs.declared.Value.TheOpen as Values
use Rattle.og_types.specs.Values.{cells}
use Rattle.og_model.specs.declared.Signal.{Signal}
use Rattle.og_model.specs.declared.Variable.{Variable}
use Rattle.og_model.specs.declared.Expr.{Expr, size-Expr}
use Rattle.og_model.specs.declared.Target.{Target, size-Target}
use Rattle.og_model.specs.declared.Select.{Select, Select-F, out-Select}
use Rattle.og_model.specs.declared.Node.{Node, Node-F, out-Node}
use Rattle.og_model.specs.declared.Node.TheOpen as Nodes
use Rattle.og_model.specs.declared.Arg.{Arg}
use Rattle.og_model.specs.declared.Arg.TheVariants.{Copy, Bind}
use Rattle.og_model.specs.declared.Formal.{Formal}
use Rattle.og_model.specs.declared.Span.{Span}
use Rattle.og_model.specs.declared.Branch.{Branch, out-Branch}
use Rattle.og_model.specs.declared.Step.{Step}
use Rattle.og_model.specs.declared.Block.{Block, out-Block, size-Block}
use Rattle.og_model.specs.declared.Action.{Action, Action-F, out-Action}
use Rattle.og_model.specs.declared.Action.TheOpen as Actions
use Rattle.og_model.specs.declared.Ending.{Ending}
use Rattle.og_model.specs.declared.EndKind.{EndKind}
use Rattle.og_model.specs.declared.EndKind.TheVariants as Ends
use Rattle.og_model.specs.declared.Body.{Body}
use Rattle.og_model.specs.declared.Proc.{Proc}
use Rattle.og_model.specs.declared.Handler.{Handler}
use Rattle.og_model.specs.declared.Trigger.{Trigger}
use Rattle.og_model.specs.declared.Trigger.TheVariants as Triggers
use Rattle.og_model.specs.declared.Scope.{Scope, out-Scope, size-Scope}
use Rattle.og_model.specs.declared.StateDef.{StateDef}
use Rattle.og_model.specs.declared.Partition.{Partition, out-Partition}
use Rattle.og_model.specs.declared.StateKind.{out-StateKind}
use Rattle.og_model.specs.declared.StateKind.TheOpen.{Basic, Composite, Aggregation}
use Rattle.og_model.specs.declared.Model.{Model}
use Rattle.og_model.specs.Configuration.{Kind}

-- ---- sums

-- what all of a list count together
abbrev pub total : {A : Type 0} → (A → ℕ) → List A → ℕ
total count [] = 0
total count (x ∷ xs) = count x + total count xs

-- what counts where it is there
abbrev pub if_there : {A : Type 0} → (A → ℕ) → Option A → ℕ
if_there count None = 0
if_there count (Some x) = count x

-- What counts besides the actions, endings, answers and the nodes of expressions: each variable of an input, selector and
-- part of a sequence value; and each call, entry and exit besides the text of its procedure.
pub record Extras : Type 0 where
  pub each : ℕ
  pub around : Proc → ℕ

-- ---- expressions

abbrev pub index_size : (Expr → ℕ) → Select-F Node Select Expr Target → ℕ
index_size inner (Nodes.Part k) = 0
index_size inner (Nodes.Alternative k) = 0
index_size inner (Nodes.At index) = inner index

-- selectors with the nodes of their indices
abbrev pub path_size : Extras → (Expr → ℕ) → List Select → ℕ
path_size x inner path = total (λ s. x.each + index_size inner (out-Select s)) path

-- one node, and the nodes inside
abbrev pub node_size : Extras → (Expr → ℕ) → Node-F Node Select Expr Target → ℕ
node_size x inner (Nodes.Number z) = 1
node_size x inner (Nodes.Truth t) = 1
node_size x inner (Nodes.Item k) = 1
node_size x inner (Nodes.Get target) = 1 + path_size x inner target.path
node_size x inner (Nodes.Length target) = 1 + path_size x inner target.path
node_size x inner (Nodes.Present target) = 1 + path_size x inner target.path
node_size x inner (Nodes.Unary op e) = 1 + inner e
node_size x inner (Nodes.Binary op left right) = 1 + inner left + inner right
node_size x inner (Nodes.Sequence es) = 1 + x.each * length es + total inner es
node_size x inner (Nodes.SeqOf es) = 1 + total inner es
node_size x inner (Nodes.Choice k e) = 1 + inner e

-- an expression of at most this depth
abbrev pub expression_within : ℕ → Extras → Expr → ℕ
expression_within zero x e = 0
expression_within (suc depth) x e = node_size x (expression_within depth x) (out-Node e.node)

abbrev pub expression_size : Extras → Expr → ℕ
expression_size x e = expression_within (size-Expr e) x e

-- the indices of a target
abbrev pub target_size : Extras → Target → ℕ
target_size x t = path_size x (expression_within (size-Target t) x) t.path

-- ---- actions

abbrev pub argument_size : Extras → Arg → ℕ
argument_size x (Copy e) = expression_size x e
argument_size x (Bind v) = 0

abbrev pub same_place : Place → Place → Bool
same_place p q = nat_eq p.file q.file && (nat_eq p.line q.line && nat_eq p.column q.column)

-- the answers of a branch; those that stand at one place are one answer
abbrev pub answers : List Span → ℕ
answers [] = 0
answers (a ∷ rest) = (if list_any (λ (b : Span). same_place a.place b.place) rest then 0 else 1) + answers rest

abbrev pub branch_size : (Block → ℕ) → Branch → ℕ
branch_size inner b = answers (out-Branch b).answers + inner (out-Branch b).block

-- what an action counts besides the one for itself, where a procedure counts what `calls` says
abbrev pub action_size : Extras → (ℕ → ℕ) → (Block → ℕ) → Action-F Action Block Branch Step → ℕ
action_size x calls inner Actions.Nothing = 0
action_size x calls inner (Actions.Assign target e) = target_size x target + expression_size x e
action_size x calls inner (Actions.Output k es) = total (expression_size x) es
action_size x calls inner (Actions.SetTimer t e) = expression_size x e
action_size x calls inner (Actions.ResetTimer t) = 0
action_size x calls inner (Actions.Append target e) = target_size x target + expression_size x e
action_size x calls inner (Actions.Call p args v) = total (argument_size x) args + calls p
action_size x calls inner (Actions.Decide question branches other) =
    expression_size x question + total (branch_size inner) branches + if_there inner other

abbrev pub end_size : Extras → EndKind → ℕ
end_size x (Ends.Return exit result) = 1 + if_there (expression_size x) result
end_size x kind = 1

-- the actions and the ending of a block of at most this depth
abbrev pub block_within : ℕ → Extras → (ℕ → ℕ) → Block → ℕ
block_within zero x calls b = 0
block_within (suc depth) x calls b =
    total (λ (s : Step). 1 + action_size x calls (block_within depth x calls) (out-Action s.action)) (out-Block b).steps
    + if_there (λ (e : Ending). end_size x e.kind) (out-Block b).end

-- a connection counts one besides its block
abbrev pub body_size : Extras → (ℕ → ℕ) → Body → ℕ
body_size x calls b = if_there (λ name. 1) b.label + block_within (size-Block b.block) x calls b.block

-- a procedure that is called: its start, its bodies, and what a call counts
abbrev pub procedure_size : Extras → (ℕ → ℕ) → Proc → ℕ
procedure_size x calls p = 1 + total (body_size x calls) p.bodies + x.around p

-- the procedure of a number, where calls go at most this deep
abbrev pub called_within : ℕ → Extras → List Proc → ℕ → ℕ
called_within zero x procs k = 0
called_within (suc calls) x procs k = if_there (procedure_size x (called_within calls x procs)) (slice_get procs k)

abbrev pub called_size : Extras → List Proc → ℕ → ℕ
called_size x procs k = called_within (length procs) x procs k

-- ---- states

abbrev pub trigger_size : Extras → Trigger → ℕ
trigger_size x (Triggers.Input signal into) = x.each * length into
trigger_size x (Triggers.Expiry timer) = 0
trigger_size x (Triggers.Provided priority condition) = expression_size x condition
trigger_size x (Triggers.Connect exit) = 0

abbrev pub handler_size : Extras → Handler → ℕ
handler_size x h = 1 + trigger_size x h.trigger

-- a partition with its entry and its exit
abbrev pub partition_size : (ℕ → ℕ) → (Scope → ℕ) → Partition → ℕ
partition_size calls inner p =
    if_there calls (out-Partition p).entry + if_there calls (out-Partition p).exit + inner (out-Partition p).inner

abbrev pub kind_size : (ℕ → ℕ) → (Scope → ℕ) → Kind → ℕ
kind_size calls inner Basic = 0
kind_size calls inner (Composite entry exit m) = if_there calls entry + if_there calls exit + inner m
kind_size calls inner (Aggregation entry exit ps) =
    if_there calls entry + if_there calls exit + total (partition_size calls inner) ps

abbrev pub state_size : Extras → (ℕ → ℕ) → (Scope → ℕ) → StateDef → ℕ
state_size x calls inner d = total (handler_size x) d.handlers + kind_size calls inner (out-StateKind d.kind)

-- each start, each body once, and each handler in each state that has it
abbrev pub scope_within : ℕ → Extras → (ℕ → ℕ) → Scope → ℕ
scope_within zero x calls m = 0
scope_within (suc depth) x calls m =
    length (out-Scope m).starts + total (body_size x calls) (out-Scope m).bodies
    + total (state_size x calls (scope_within depth x calls)) (out-Scope m).states

abbrev pub model_size : Extras → Model → ℕ
model_size x M = scope_within (size-Scope M.root) x (called_size x M.procs) M.root

-- ---- the inlined size

-- the inlined size counts nothing besides
abbrev pub no_extras : Extras
no_extras = record { each = 0; around = λ p. 0 }

-- the size of the text with each procedure in place of its calls
abbrev pub inlined : Model → ℕ
inlined M = model_size no_extras M

-- ---- the bulk

abbrev pub values_inside : (Value → ℕ) → Value-F Value → ℕ
values_inside inner (Values.Sequence vs) = total inner vs
values_inside inner (Values.Choice k v) = inner v
values_inside inner (Values.SeqOf vs) = total inner vs
values_inside inner _ = 0

-- the nodes of a value of at most this depth, itself among them
abbrev pub value_within : ℕ → Value → ℕ
value_within zero v = 0
value_within (suc depth) v = 1 + values_inside (value_within depth) (out-Value v)

abbrev pub value_size : Value → ℕ
value_size v = value_within (size-Value v) v

-- an IN parameter is a copy and has cells of its own, an IN/OUT parameter has none
abbrev pub formal_cells : List Sort → Formal → ℕ
formal_cells types f = if f.bound then 0 else cells types f.sort

-- the variables that a procedure declares
abbrev pub declared_in : Proc → List Variable
declared_in p = drop (length p.formals) p.locals

-- the cells of the IN parameters, of the variables and of the result
abbrev pub procedure_cells : List Sort → Proc → ℕ
procedure_cells types p =
    total (formal_cells types) p.formals + total (λ (v : Variable). cells types v.sort) (declared_in p)
    + if_there (cells types) p.result

-- what each call, entry and exit counts: these cells, and the initial values of the variables
abbrev pub call_extras : List Sort → Proc → ℕ
call_extras types p = procedure_cells types p + total (λ (v : Variable). value_size v.initial) (declared_in p)

abbrev pub all_extras : List Sort → Extras
all_extras types = record { each = 1; around = call_extras types }

-- the cells of all variables, parameters and results, each procedure once
abbrev pub model_cells : Model → ℕ
model_cells M =
    total (λ (v : Variable). cells M.types v.sort) M.variables + total (procedure_cells M.types) M.procs
    + total (λ (s : Signal). total (cells M.types) s.sorts) M.signals

abbrev pub states_in_kind : (Scope → ℕ) → Kind → ℕ
states_in_kind inner Basic = 0
states_in_kind inner (Composite entry exit m) = inner m
states_in_kind inner (Aggregation entry exit ps) = total (λ (p : Partition). 1 + inner (out-Partition p).inner) ps

-- the states and partitions of a scope of at most this depth
abbrev pub states_within : ℕ → Scope → ℕ
states_within zero m = 0
states_within (suc depth) m =
    total (λ (d : StateDef). 1 + states_in_kind (states_within depth) (out-StateKind d.kind)) (out-Scope m).states

-- the states and partitions of a model, at all levels
abbrev pub states_and_partitions : Model → ℕ
states_and_partitions M = states_within (size-Scope M.root) M.root

-- around the inside of a composite state there is one more, and around that of a partition there are two more
abbrev pub around_in_kind : (ℕ → Scope → ℕ) → ℕ → Kind → ℕ
around_in_kind inner around Basic = 0
around_in_kind inner around (Composite entry exit m) = inner (suc around) m
around_in_kind inner around (Aggregation entry exit ps) =
    total (λ (p : Partition). suc around + inner (suc (suc around)) (out-Partition p).inner) ps

-- for each start, state, handler and partition of a scope of at most this depth, the composite states, aggregations and
-- partitions around it; a state's own handlers are around no more than the state
abbrev pub around_within : ℕ → ℕ → Scope → ℕ
around_within zero around m = 0
around_within (suc depth) around m =
    around * length (out-Scope m).starts
    + total (λ (d : StateDef). around * (1 + length d.handlers) + around_in_kind (around_within depth) around (out-StateKind d.kind)) (out-Scope m).states

-- how deep all starts, states, handlers and partitions stand, together
abbrev pub nesting : Model → ℕ
nesting M = around_within (size-Scope M.root) 0 M.root

-- four times the size of all that a model is made of
abbrev pub bulk : Model → ℕ
bulk M =
    4 * (model_size (all_extras M.types) M + nesting M + model_cells M
    + (states_and_partitions M + length M.signals + length M.timers))
