-- Small models for examples that are computed: one with two basic states, one with a composite state and a state aggregation
-- inside it, one with data and a procedure, and some with parameters of signals.
use Rattle.std.specs.Prelude.{ℕ, List, [], ◌∷◌, map, ℤ, pos, negsuc, Bool, true, false, Some, None}
use Rattle.og_base.specs.declared.Place.{Place}
use Rattle.og_names.specs.declared.NameId.{NameId}
use Rattle.og_types.specs.declared.TypeId.{TypeId}
use Rattle.og_types.specs.declared.Sort.{Sort}
use Rattle.og_types.specs.declared.Sort.TheVariants as Sorts
use Rattle.og_types.specs.declared.Value as Values
use Rattle.og_model.specs.declared.Model.{Model}
use Rattle.og_model.specs.declared.Signal.{Signal}
use Rattle.og_model.specs.declared.VarId.TheVariants as Vars
use Rattle.og_model.specs.declared.Scope.{Scope, roll-Scope}
use Rattle.og_model.specs.declared.StateDef.{StateDef}
use Rattle.og_model.specs.declared.StateKind.{StateKind}
use Rattle.og_model.specs.declared.StateKind as Kinds
use Rattle.og_model.specs.declared.Partition.{Partition, roll-Partition}
use Rattle.og_model.specs.declared.Handler.{Handler}
use Rattle.og_model.specs.declared.Trigger.TheVariants as Triggers
use Rattle.og_model.specs.declared.Body.{Body}
use Rattle.og_model.specs.declared.Block.{roll-Block}
use Rattle.og_model.specs.declared.Step.{Step}
use Rattle.og_model.specs.declared.Action.{Action}
use Rattle.og_model.specs.declared.Action as Actions
use Rattle.og_model.specs.declared.Arg.TheVariants as Args
use Rattle.og_model.specs.declared.Branch.{Branch, roll-Branch}
use Rattle.og_model.specs.declared.Span.{Span}
use Rattle.og_model.specs.declared.EndKind.{EndKind}
use Rattle.og_model.specs.declared.EndKind.TheVariants as Ends
use Rattle.og_model.specs.declared.Expr.{Expr}
use Rattle.og_model.specs.declared.ExprSort.{ExprSort}
use Rattle.og_model.specs.declared.ExprSort.TheVariants as ExprSorts
use Rattle.og_model.specs.declared.Node.{Node}
use Rattle.og_model.specs.declared.Node as Nodes
use Rattle.og_model.specs.declared.Select as Selects
use Rattle.og_model.specs.declared.BinaryOp.TheVariants as Ops
use Rattle.og_model.specs.declared.Target.{Target}
use Rattle.og_model.specs.RegionTypes.{Leaf, Region}
use lib.Chars.{codes}

-- ---- short words for trees

abbrev pub at : ℕ → ℕ → Place
at line column = record { file = 0; line = line; column = column }

abbrev pub name : ℕ → NameId
name n = record { 0 = n }

abbrev pub sort : ℕ → TypeId
sort n = record { 0 = n }

abbrev pub step : Action → Step
step action = record { label = None; place = at 4 1; action = action }

abbrev pub body : List Step → EndKind → Body
body steps kind = record {
  place = at 3 1;
  label = None;
  block = roll-Block (record { steps = steps; end = Some (record { label = None; place = at 5 1; kind = kind }) });
}

abbrev pub next : ℕ → EndKind
next k = Ends.Next k None

abbrev pub state : ℕ → StateKind → List Handler → StateDef
state n kind handlers = record { name = name n; place = at 2 1; kind = kind; handlers = handlers }

abbrev pub on_signal : ℕ → ℕ → Handler
on_signal k n = record { place = at 2 9; trigger = Triggers.Input k []; body = n }

abbrev pub scope : List StateDef → List Body → Scope
scope states bodies = roll-Scope (record { states = states; starts = record { entry = None; body = 0 } ∷ []; bodies = bodies })

abbrev pub signal : ℕ → List TypeId → Signal
signal n sorts = record { name = name n; sorts = sorts; incoming = true; outgoing = true }

-- ---- two basic states

-- `idle` takes `go`, sends `done` and goes to `busy`
abbrev pub two_states : Model
two_states = record {
  name = name 0;
  types = [];
  timers = [];
  variables = [];
  procs = [];
  names = codes "p" ∷ codes "go" ∷ codes "done" ∷ codes "idle" ∷ codes "busy" ∷ [];
  signals = signal 1 [] ∷ signal 2 [] ∷ [];
  root = scope
      (state 3 Kinds.Basic (on_signal 0 1 ∷ []) ∷ state 4 Kinds.Basic [] ∷ [])
      (body [] (next 0) ∷ body (step (Actions.Output 1 []) ∷ []) (next 1) ∷ []);
}

-- NEXTSTATE of a third state
abbrev pub state_not_there : Model
state_not_there = record two_states { root = scope (state 3 Kinds.Basic [] ∷ state 4 Kinds.Basic [] ∷ []) (body [] (next 2) ∷ []) }

-- two transitions for one signal in one state
abbrev pub twice_handled : Model
twice_handled = record two_states {
  root = scope (state 3 Kinds.Basic (on_signal 0 1 ∷ on_signal 1 1 ∷ on_signal 0 0 ∷ []) ∷ []) (body [] (next 0) ∷ body [] (next 0) ∷ []);
}

-- a signal `go__on`
abbrev pub double_underscore : Model
double_underscore = record two_states { names = codes "p" ∷ codes "go__on" ∷ codes "done" ∷ codes "idle" ∷ codes "busy" ∷ [] }

-- no state and no start
abbrev pub without_start : Model
without_start = record two_states { root = roll-Scope (record { states = []; starts = []; bodies = [] }) }

-- ---- states in states

abbrev pub partition : ℕ → Scope → Partition
partition n inner = roll-Partition (record { name = name n; entry = None; exit = None; inner = inner })

abbrev pub to_first : List StateDef → List Body → Scope
to_first states bodies = scope states (body [] (next 0) ∷ bodies)

-- `u` has inside a basic state `i` and an aggregation `g` of two partitions; beside it stands `w`
abbrev pub nested : Model
nested = record {
  name = name 0;
  types = [];
  timers = [];
  variables = [];
  procs = [];
  names = codes "p" ∷ codes "go" ∷ codes "u" ∷ codes "i" ∷ codes "g" ∷ codes "l" ∷ codes "l0" ∷ codes "m" ∷ codes "m0"
      ∷ codes "m1" ∷ codes "w" ∷ [];
  signals = signal 1 [] ∷ [];
  root = to_first
      (state 2 (Kinds.Composite None None (to_first
      (state 3 Kinds.Basic (on_signal 0 1 ∷ [])
      ∷ state 4 (Kinds.Aggregation None None
      (partition 5 (to_first (state 6 Kinds.Basic [] ∷ []) [])
      ∷ partition 7 (to_first (state 8 Kinds.Basic [] ∷ state 9 Kinds.Basic [] ∷ []) []) ∷ [])) []
      ∷ [])
      (body [] Ends.Dash ∷ []))) []
      ∷ state 10 Kinds.Basic [] ∷ [])
      [];
}

-- ---- data and a procedure

abbrev pub expression : ExprSort → Node → Expr
expression kind node = record { place = at 4 5; first = at 4 5; sort = kind; node = node }

abbrev pub literal : ℕ → Expr
literal n = expression ExprSorts.Int (Nodes.Number (pos n))

abbrev pub variable : ℕ → Target
variable n = record { variable = Vars.Process n; path = [] }

abbrev pub small : ℕ → Expr
small n = expression ExprSorts.Int (Nodes.Get (variable n))

abbrev pub span : ℕ → ℤ → ℤ → Span
span column lo hi = record { place = at 6 column; lo = lo; hi = hi }

abbrev pub branch : List Span → EndKind → Branch
branch spans kind = roll-Branch (record {
  answers = spans;
  block = roll-Block (record { steps = []; end = Some (record { label = None; place = at 6 9; kind = kind }) });
})

-- The procedure `q` has an IN parameter `v` and a list `k`, and assigns to `v`. The process has a number `x` and a list
-- `y`. On `go(x)` it calls `q(y(1))` and decides by `x` whether it is 0 or not; and it goes on where `x = 1`.
abbrev pub with_data : Model
with_data = record {
  name = name 0;
  timers = [];
  names = codes "p" ∷ codes "go" ∷ codes "x" ∷ codes "y" ∷ codes "q" ∷ codes "v" ∷ codes "k" ∷ codes "idle" ∷ [];
  types = Sorts.Int (pos 0) (pos 9) ∷ Sorts.SeqOf 0 2 (sort 0) ∷ [];
  signals = signal 1 (sort 0 ∷ []) ∷ [];
  variables = record { name = name 2; sort = sort 0; initial = Values.Int (pos 0) }
      ∷ record { name = name 3; sort = sort 1; initial = Values.SeqOf [] } ∷ [];
  procs = record {
    name = name 4;
    place = at 1 1;
    result = None;
    formals = record { name = name 5; sort = sort 0; bound = false } ∷ [];
    locals = record { name = name 5; sort = sort 0; initial = Values.Int (pos 0) }
        ∷ record { name = name 6; sort = sort 1; initial = Values.SeqOf [] } ∷ [];
    bodies = body (step (Actions.Assign (record { variable = Vars.Local 0; path = [] }) (small 0)) ∷ []) (Ends.Return None None) ∷ [];
  } ∷ [];
  root = scope
      (state 7 Kinds.Basic
      (record { place = at 2 9; trigger = Triggers.Input 0 (Vars.Process 0 ∷ []); body = 1 }
      ∷ record { place = at 2 20; trigger = Triggers.Provided None (expression ExprSorts.Bool (Nodes.Binary Ops.Eq (small 0) (literal 1))); body = 2 } ∷ [])
      ∷ [])
      (body [] (next 0)
      ∷ record {
        place = at 3 1;
        label = None;
        block = roll-Block (record {
          steps = step (Actions.Call 0 (Args.Copy (expression ExprSorts.Int (Nodes.Get (record { variable = Vars.Process 1; path = Selects.At (literal 1) ∷ [] }))) ∷ []) None)
              ∷ step (Actions.Decide (small 0)
              (branch (span 1 (pos 0) (pos 0) ∷ []) Ends.Dash
              ∷ branch (span 5 (negsuc 99) (negsuc 0) ∷ span 5 (pos 1) (pos 99) ∷ []) (next 0) ∷ []) None)
              ∷ [];
          end = None;
        });
      }
      ∷ body [] Ends.Dash ∷ []);
}

-- a number of 0 to 9 that begins with 10
abbrev pub first_value_outside : Model
first_value_outside = record with_data {
  variables = record { name = name 2; sort = sort 0; initial = Values.Int (pos 10) }
      ∷ record { name = name 3; sort = sort 1; initial = Values.SeqOf [] } ∷ [];
}

-- a procedure that ends with NEXTSTATE
abbrev pub entering_procedure : Model
entering_procedure = record with_data {
  procs = record {
    name = name 4;
    place = at 1 1;
    result = None;
    formals = [];
    locals = [];
    bodies = body [] (next 7) ∷ [];
  } ∷ [];
}

-- ---- parameters of signals

-- `go` has a parameter of the type of this number; `idle` drops its value
abbrev pub taking : List Sort → ℕ → Model
taking types n = record two_states { types = types; signals = signal 1 (sort n ∷ []) ∷ signal 2 [] ∷ [] }

-- SEQUENCE (SIZE (0 .. n)) OF INTEGER (0 .. 9)
abbrev pub lists : ℕ → List Sort
lists n = Sorts.Int (pos 0) (pos 9) ∷ Sorts.SeqOf 0 n (sort 0) ∷ []

-- the items of a list are opaque
abbrev pub opaque_items : List Sort
opaque_items = Sorts.Opaque ∷ Sorts.SeqOf 0 2 (sort 0) ∷ []

-- `done` has one parameter, and is sent with these values
abbrev pub sending : List Expr → Model
sending values = record two_states {
  types = Sorts.Int (pos 0) (pos 9) ∷ [];
  signals = signal 1 [] ∷ signal 2 (sort 0 ∷ []) ∷ [];
  root = scope
      (state 3 Kinds.Basic (on_signal 0 1 ∷ []) ∷ state 4 Kinds.Basic [] ∷ [])
      (body [] (next 0) ∷ body (step (Actions.Output 1 values) ∷ []) (next 1) ∷ []);
}

-- a procedure that sends `go` without its value
abbrev pub sending_in_procedure : Model
sending_in_procedure = record with_data {
  procs = record {
    name = name 4;
    place = at 1 1;
    result = None;
    formals = [];
    locals = [];
    bodies = body (step (Actions.Output 0 []) ∷ []) (Ends.Return None None) ∷ [];
  } ∷ [];
}

-- ---- regions

abbrev pub path : List ℕ → List NameId
path ns = map name ns

abbrev pub leaf : List ℕ → Bool → Leaf
leaf ns basic = record { path = path ns; basic = basic }

abbrev pub region : List ℕ → List Leaf → Region
region ns leaves = record { path = path ns; leaves = leaves }
