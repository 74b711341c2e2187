-- What a statement does, as code keeps it, and where a run goes on.
use Rattle.std.specs.Prelude.{◌≡◌, ℕ, ◌+◌, ◌<◌, ℤ, List, [], ◌∷◌, Option, Some, None, Result, Ok, Err}
use Rattle.og_model.specs.declared.EventId.{EventId}
use Rattle.og_ir.specs.Arithmetic.{Trouble}
use Rattle.og_ir.specs.Cells.{Cells}
use Rattle.og_ir.specs.Steps as steps
use Rattle.og_ir.specs.Steps.{Frame, Config, Over, Broken, onward, jumped}
use Rattle.og_cstatement.specs.declared.effect.Effect.{Effect}
use Rattle.og_cstatement.specs.declared.effect.Effect.TheVariants as made
use Rattle.og_cstatement.specs.declared.linking.Linked.{Linked}
use Rattle.og_cstatement.specs.declared.position.Call.{Call}
use Rattle.og_cstatement.specs.declared.position.Standing.{Standing}
use Rattle.og_cstatement.specs.declared.position.Standing.TheVariants.{Running, Idle, Stuck}
use Rattle.og_cstatement.specs.Positions.{frame_of}
use Rattle.og_cstatement.specs.Meaning as meaning

abbrev pub effect_view : Effect → meaning.Effect
effect_view made.Onward = meaning.Onward
effect_view (made.At place) = meaning.At place
effect_view (made.Put place number) = meaning.Put place number
effect_view (made.Copy to from width) = meaning.Copy to from width
effect_view (made.Enter function) = meaning.Enter function
effect_view (made.Show event) = meaning.Show event
effect_view made.Back = meaning.Back

-- another place of the function
abbrev pub shifted : ℕ → Config → Config
shifted place (steps.Running globals frame callers) = steps.Running globals (jumped frame place) callers
shifted place (Over globals) = Over globals
shifted place (Broken trouble) = Broken trouble

-- a call, and the place behind it
abbrev pub entered : ℕ → Config → Config
entered function (steps.Running globals frame callers) =
    steps.Running globals (record { function = function; place = 0 }) (onward frame ∷ callers)
entered function (Over globals) = Over globals
entered function (Broken trouble) = Broken trouble

-- goes on in the caller, if there is one
abbrev pub left_to : List Cells → List Frame → Config
left_to globals [] = Over globals
left_to globals (frame ∷ callers) = steps.Running globals frame callers

abbrev pub left : Config → Config
left (steps.Running globals frame callers) = left_to globals callers
left (Over globals) = Over globals
left (Broken trouble) = Broken trouble

-- where a run goes on behind what is done
abbrev pub behind : Config → Config
behind (steps.Running globals frame callers) = steps.Running globals (onward frame) callers
behind (Over globals) = Over globals
behind (Broken trouble) = Broken trouble

-- where a run goes on, whatever its globals
abbrev pub moved : meaning.Effect → Config → Config
moved meaning.Onward config = behind config
moved (meaning.At place) config = shifted place config
moved (meaning.Put place number) config = behind config
moved (meaning.Copy to from width) config = behind config
moved (meaning.Enter function) config = entered function config
moved (meaning.Show event) config = behind config
moved meaning.Back config = left config

-- the event that is shown
abbrev pub event_shown : meaning.Effect → Option EventId
event_shown meaning.Onward = None
event_shown (meaning.At place) = None
event_shown (meaning.Put place number) = None
event_shown (meaning.Copy to from width) = None
event_shown (meaning.Enter function) = None
event_shown (meaning.Show event) = Some event
event_shown meaning.Back = None

-- where a run goes on behind a statement that does this, or breaks
abbrev pub after : Result meaning.Effect Trouble → Config → Config
after (Ok effect) config = moved effect config
after (Err trouble) config = Broken trouble

abbrev pub event_after : Result meaning.Effect Trouble → Option EventId
event_after (Ok effect) = event_shown effect
event_after (Err trouble) = None

-- the cells behind it, which are kept where it breaks
abbrev pub cells_after : Result meaning.Effect Trouble → List ℤ → List ℤ
cells_after (Ok effect) cells = meaning.cells_by effect cells
cells_after (Err trouble) cells = cells

-- what a run does next, if it goes on
abbrev pub effect_next : Linked → List ℤ → Standing → Option (Result meaning.Effect Trouble)
effect_next linked cells (Running call) = Some (meaning.effect_at linked cells (frame_of call))
effect_next linked cells Idle = None
effect_next linked cells (Stuck rule) = None

abbrev pub next_config : Option (Result meaning.Effect Trouble) → Config → Config
next_config None config = config
next_config (Some r) config = after r config

abbrev pub next_event : Option (Result meaning.Effect Trouble) → Option EventId
next_event None = None
next_event (Some r) = event_after r

abbrev pub next_cells : Option (Result meaning.Effect Trouble) → List ℤ → List ℤ
next_cells None cells = cells
next_cells (Some r) cells = cells_after r cells

-- the place behind the statement where a run stands
abbrev pub IsNext : Call → Standing → Type 0
IsNext next (Running call) = next ≡ record { function = call.function; place = call.place + 1 }
IsNext next Idle = ⊥
IsNext next (Stuck rule) = ⊥

-- a function runs
abbrev pub IsRunning : Standing → Type 0
IsRunning (Running call) = Unit {0}
IsRunning Idle = ⊥
IsRunning (Stuck rule) = ⊥

-- this function runs
abbrev pub InFunction : ℕ → Standing → Type 0
InFunction function (Running call) = function ≡ call.function
InFunction function Idle = ⊥
InFunction function (Stuck rule) = ⊥

-- ---- calls

-- a call leads to an earlier function than this one
abbrev pub EntersBelow : ℕ → meaning.Effect → Type 0
EntersBelow top (meaning.Enter function) = function < top
EntersBelow top meaning.Onward = Unit {0}
EntersBelow top (meaning.At place) = Unit {0}
EntersBelow top (meaning.Put place number) = Unit {0}
EntersBelow top (meaning.Copy to from width) = Unit {0}
EntersBelow top (meaning.Show event) = Unit {0}
EntersBelow top meaning.Back = Unit {0}

-- each call of a program leads to an earlier function
abbrev pub CallsEarlier : Linked → Type 0
CallsEarlier linked = (frame : Frame) (cells : List ℤ) (effect : meaning.Effect) → meaning.effect_at linked cells frame ≡ Ok effect → EntersBelow frame.function effect
