-- Runs of single steps, of a program of the C subset or of flat code. What a run has is the cells of its globals and a stack
-- of functions that are being called, each with a place in its body. A step shows events, and leads to the next
-- configuration. A run is over when its last function has returned, and broken when it cannot go on; it then stays as it is.
use Rattle.std.specs.Prelude.{ℕ, zero, suc, ◌+◌, List, [], ◌∷◌, ◌++◌, Option, Some, None, Result, Ok, Err}
use Rattle.og_ir.specs.Cells.{Cells}
use Rattle.og_ir.specs.Arithmetic.{Trouble, Value}

-- A function and the place of its next statement, by their numbers.
pub record Frame : Type 0 where
  pub function : ℕ
  pub place : ℕ

-- The functions that wait for a call to return are the callers, the innermost first.
pub data Config : Type 0 where
  Running : (globals : List Cells) (frame : Frame) (callers : List Frame) → Config
  Over : (globals : List Cells) → Config
  Broken : (trouble : Trouble) → Config

-- What was shown, and the configuration after it.
pub record Ran (E : Type 0) : Type 0 where
  pub events : List E
  pub config : Config

-- shows nothing
abbrev pub quiet : {E : Type 0} → Config → Ran E
quiet config = record { events = []; config = config }

-- puts events before those of a run
abbrev pub joined : {E : Type 0} → List E → Ran E → Ran E
joined events ran = record { events = events ++ ran.events; config = ran.config }

-- goes on from where a run has come to
abbrev pub and_then : {E : Type 0} → Ran E → (Config → Ran E) → Ran E
and_then ran go = joined ran.events (go ran.config)

-- so many steps
abbrev pub exec : {E : Type 0} → (Config → Ran E) → ℕ → Config → Ran E
exec step zero config = quiet config
exec step (suc n) config = and_then (step config) (exec step n)

-- goes on with a value, or breaks
abbrev pub with_value : {E A : Type 0} → Result A Trouble → (A → Ran E) → Ran E
with_value (Ok x) go = go x
with_value (Err trouble) go = quiet (Broken trouble)

-- the next place of the function
abbrev pub onward : Frame → Frame
onward frame = record frame { place = frame.place + 1 }

-- another place of the function
abbrev pub jumped : Frame → ℕ → Frame
jumped frame place = record frame { place = place }

-- goes on in the caller, if there is one
abbrev pub returned : {E : Type 0} → List Cells → List Frame → Ran E
returned globals [] = quiet (Over globals)
returned globals (frame ∷ callers) = quiet (Running globals frame callers)

-- calls a function, and comes back to the next place
abbrev pub called : {E : Type 0} → List Cells → Frame → List Frame → ℕ → Ran E
called globals frame callers function =
    quiet (Running globals (record { function = function; place = 0 }) (onward frame ∷ callers))

-- shows an event that can be read from the globals
abbrev pub showing : {E : Type 0} → Option E → List Cells → Frame → List Frame → Ran E
showing None globals frame callers = quiet (Broken Value)
showing (Some event) globals frame callers =
    record { events = event ∷ []; config = Running globals (onward frame) callers }
