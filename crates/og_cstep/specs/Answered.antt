-- The answers that tell what a statement shows and how a run has ended.
use Rattle.std.specs.Prelude.{◌≡◌, ℤ, List, [], ◌∷◌, Option, Some, None}
use Rattle.og_model.specs.declared.Model.{Model}
use Rattle.og_model.specs.declared.StuckRule.TheVariants as stuck
use Rattle.og_model.specs.declared.EventId.{EventId}
use Rattle.og_model.specs.declared.EventId.TheVariants as event
use Rattle.og_model.specs.Shown as shown
use Rattle.og_ir.specs.Cells.{Cells}
use Rattle.og_ir.specs.Steps.{Config, Running, Over, Broken}
use Rattle.og_csubset.specs.declared.CProgram.{CProgram}
use Rattle.og_csubset.specs.Kinds.{global_names}
use Rattle.og_csubset.specs.Reads.{Globals, event_shown}
use Rattle.og_csubset.specs.Run.{rule_of}
use Rattle.og_ccells.specs.Vectors.{trees_of}
use Rattle.og_cstatement.specs.declared.position.Position.{Position}
use Rattle.og_cstatement.specs.declared.position.Standing.TheVariants as standing
use Rattle.og_cstep.specs.declared.Advance.{Advance}
use Rattle.og_cstep.specs.declared.Advance.TheVariants as advance
use Rattle.og_cstep.specs.declared.Advance.TheVariants.{Moved, Event, Rest, Fault, Stopped}

-- the globals of a program, with the cells whose numbers stand in one vector
abbrev pub globals_in : CProgram → List ℤ → Globals
globals_in program xs = record { names = global_names program; cells = trees_of program xs }

-- the event without its values
abbrev pub id_of : shown.Event → EventId
id_of (shown.Output k values) = event.Output k
id_of (shown.Set k duration) = event.Set k
id_of (shown.Reset k) = event.Reset k

-- the answer that says how a run has ended
abbrev pub answer_at_end : shown.End → Advance
answer_at_end (shown.Rest paths variables timers) = Rest
answer_at_end (shown.Fault kind place variables timers) = Fault kind place
answer_at_end (shown.Stopped variables) = Stopped
answer_at_end shown.Past = Moved
answer_at_end (shown.Stuck rule) = advance.Stuck rule

abbrev pub answer_by : (List Cells → shown.End) → List shown.Event → Config → Advance
answer_by ending events (Over globals) = answer_at_end (ending globals)
answer_by ending events (Broken trouble) = advance.Stuck (rule_of trouble)
answer_by ending [] (Running globals frame callers) = Moved
answer_by ending (e ∷ events) (Running globals frame callers) = Event (id_of e)

-- the answer to the call of an event, and where the run then stands: it goes on where the event can be read
abbrev pub AnswersBy : Option shown.Event → EventId → Position → Position → Advance → Type 0
AnswersBy (Some e) id old new answer = (new ≡ old) × (answer ≡ Event id)
AnswersBy None id old new answer = (new.standing ≡ standing.Stuck stuck.Value) × (answer ≡ advance.Stuck stuck.Value)

abbrev pub Answers : CProgram → Model → List Cells → EventId → Position → Position → Advance → Type 0
Answers program model cells id old new answer =
    AnswersBy (event_shown model (record { names = global_names program; cells = cells }) id) id old new answer
