-- What each part of a process, and each action, gives to the outline.
use Rattle.std.proofs.Common.{◌≡◌, List, [], ◌∷◌, map, ap}
use Rattle.og_base.specs.declared.Place.{Place}
use Rattle.og_ast.specs.declared.data.DclTree.{DclTree}
use Rattle.og_ast.specs.declared.data.TimerTree.{TimerTree}
use Rattle.og_ast.specs.declared.ground.TextTree.{TextTree}
use Rattle.og_ast.specs.declared.procedure.ConnectionTree.{ConnectionTree}
use Rattle.og_ast.specs.declared.procedure.ProcedureTree.{ProcedureTree}
use Rattle.og_ast.specs.declared.state.AggregationTree.{AggregationTree}
use Rattle.og_ast.specs.declared.state.CompositeTree.{CompositeTree}
use Rattle.og_ast.specs.declared.state.InnerTree.{Dcl, Timer, Procedure, Start, State, Composite, Aggregation, Connection}
use Rattle.og_ast.specs.declared.state.InnerTree.TheVariants as inner
use Rattle.og_ast.specs.declared.state.StartTree.{StartTree}
use Rattle.og_ast.specs.declared.state.StateTree.{StateTree}
use Rattle.og_ast.specs.declared.transition.ActionTree.{Informal, Task, Output, Call, Decision, out-ActionTree}
use Rattle.og_ast.specs.declared.transition.ActionTree.TheVariants as action
use Rattle.og_ast.specs.declared.transition.AssignTree.{AssignTree}
use Rattle.og_ast.specs.declared.transition.CallTree.{CallTree}
use Rattle.og_ast.specs.declared.transition.DecisionTree.{DecisionTree}
use Rattle.og_ast.specs.declared.transition.OutTree.{OutTree}
use Rattle.og_outline.specs.declared.StepOutline.TheVariants as step
use Rattle.og_outline.specs.Outlines.{sent, steps_in_action, start_of, starts_in, starts_in_inner, state_of, states_in, states_in_inner}

-- ---- actions

pub does-Informal : (place : Place) (text : TextTree) → steps_in_action place (out-ActionTree (Informal text)) ≡ step.Nothing place ∷ []
does-Informal place text = ap (steps_in_action place) (action.outs-Informal text)

pub does-Task : (place : Place) (assigns : List AssignTree) → steps_in_action place (out-ActionTree (Task assigns)) ≡ []
does-Task place assigns = ap (steps_in_action place) (action.outs-Task assigns)

pub does-Output : (place : Place) (outs : List OutTree) → steps_in_action place (out-ActionTree (Output outs)) ≡ map sent outs
does-Output place outs = ap (steps_in_action place) (action.outs-Output outs)

pub does-Call : (place : Place) (call : CallTree) → steps_in_action place (out-ActionTree (Call call)) ≡ []
does-Call place call = ap (steps_in_action place) (action.outs-Call call)

pub does-Decision : (place : Place) (decision : DecisionTree) → steps_in_action place (out-ActionTree (Decision decision)) ≡ []
does-Decision place decision = ap (steps_in_action place) (action.outs-Decision decision)

-- ---- parts: their starts

pub starts-Dcl : (dcl : DclTree) → starts_in_inner (Dcl dcl) ≡ []
starts-Dcl dcl = ap starts_in (inner.outs-Dcl dcl)

pub starts-Timer : (timer : TimerTree) → starts_in_inner (Timer timer) ≡ []
starts-Timer timer = ap starts_in (inner.outs-Timer timer)

pub starts-Procedure : (procedure : ProcedureTree) → starts_in_inner (Procedure procedure) ≡ []
starts-Procedure procedure = ap starts_in (inner.outs-Procedure procedure)

pub starts-Start : (start : StartTree) → starts_in_inner (Start start) ≡ start_of start
starts-Start start = ap starts_in (inner.outs-Start start)

pub starts-State : (state : StateTree) → starts_in_inner (State state) ≡ []
starts-State state = ap starts_in (inner.outs-State state)

pub starts-Composite : (composite : CompositeTree) → starts_in_inner (Composite composite) ≡ []
starts-Composite composite = ap starts_in (inner.outs-Composite composite)

pub starts-Aggregation : (aggregation : AggregationTree) → starts_in_inner (Aggregation aggregation) ≡ []
starts-Aggregation aggregation = ap starts_in (inner.outs-Aggregation aggregation)

pub starts-Connection : (connection : ConnectionTree) → starts_in_inner (Connection connection) ≡ []
starts-Connection connection = ap starts_in (inner.outs-Connection connection)

-- ---- parts: their states

pub states-Dcl : (dcl : DclTree) → states_in_inner (Dcl dcl) ≡ []
states-Dcl dcl = ap states_in (inner.outs-Dcl dcl)

pub states-Timer : (timer : TimerTree) → states_in_inner (Timer timer) ≡ []
states-Timer timer = ap states_in (inner.outs-Timer timer)

pub states-Procedure : (procedure : ProcedureTree) → states_in_inner (Procedure procedure) ≡ []
states-Procedure procedure = ap states_in (inner.outs-Procedure procedure)

pub states-Start : (start : StartTree) → states_in_inner (Start start) ≡ []
states-Start start = ap states_in (inner.outs-Start start)

pub states-State : (state : StateTree) → states_in_inner (State state) ≡ state_of state
states-State state = ap states_in (inner.outs-State state)

pub states-Composite : (composite : CompositeTree) → states_in_inner (Composite composite) ≡ []
states-Composite composite = ap states_in (inner.outs-Composite composite)

pub states-Aggregation : (aggregation : AggregationTree) → states_in_inner (Aggregation aggregation) ≡ []
states-Aggregation aggregation = ap states_in (inner.outs-Aggregation aggregation)

pub states-Connection : (connection : ConnectionTree) → states_in_inner (Connection connection) ≡ []
states-Connection connection = ap states_in (inner.outs-Connection connection)

pub ruleset opens = (does-Informal, does-Task, does-Output, does-Call, does-Decision, starts-Dcl, starts-Timer, starts-Procedure, starts-Start, starts-State, starts-Composite, starts-Aggregation, starts-Connection, states-Dcl, states-Timer, states-Procedure, states-Start, states-State, states-Composite, states-Aggregation, states-Connection)
