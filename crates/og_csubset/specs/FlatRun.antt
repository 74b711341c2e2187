-- What flat code shows over a model. It has the form of a run of a program of the C subset, with one instruction for each
-- step. The slots are found by their names, as the globals of a program are, and an event by its number in the list of events.
use Rattle.std.specs.Prelude.{ℕ, ℤ, List, Bool, Option, map, slice_get}
use Rattle.og_model.specs.declared.Model.{Model}
use Rattle.og_model.specs.Shown.{Event, Shown, Stimulus}
use Rattle.og_ir.specs.declared.Ir.{Ir}
use Rattle.og_ir.specs.Cells.{◌>>=◌, Cells}
use Rattle.og_ir.specs.Arithmetic.{any_number, in_64_bits}
use Rattle.og_ir.specs.FlatSteps.{flat_step, first_slots}
use Rattle.og_csubset.specs.Reads.{event_of, end_of}
use Rattle.og_csubset.specs.Run.{Machine, runs, all_stimuli, begun}

abbrev pub slot_names : Ir → List (List ℕ)
slot_names ir = map (λ slot. slot.name.bytes) ir.slots

abbrev pub flat_function_names : Ir → List (List ℕ)
flat_function_names ir = map (λ f. f.name.bytes) ir.functions

-- what the event of this number shows of the slots
abbrev pub flat_event : Model → Ir → ℕ → List Cells → Option Event
flat_event model ir k slots = slice_get ir.events k >>= λ name. event_of model (slot_names ir) name.bytes slots

-- flat code over a model, with these numbers
abbrev pub flat_machine : (ℤ → Bool) → Ir → Model → Machine
flat_machine is_there ir model = record {
  begin = begun model (flat_function_names ir) (slot_names ir);
  step = flat_step (flat_event model ir) is_there ir;
  ending = end_of model (slot_names ir);
}

abbrev pub flat_runs : (ℤ → Bool) → Ir → Model → List Stimulus → ℕ → List Shown
flat_runs is_there ir model stimuli steps =
    runs (flat_machine is_there ir model) steps (all_stimuli stimuli) (first_slots model.types ir)

-- what the code shows with at most so many instructions for each stimulus, where all numbers are there
unfoldable pub flat : Ir → Model → List Stimulus → ℕ → List Shown
flat ir model stimuli steps = flat_runs any_number ir model stimuli steps

-- the same, where a number outside 64 bits is Stuck by Overflow; where this is never stuck, the code keeps every number in
-- 64 bits, and every index and divisor is right
unfoldable pub flat_in_64_bits : Ir → Model → List Stimulus → ℕ → List Shown
flat_in_64_bits ir model stimuli steps = flat_runs in_64_bits ir model stimuli steps
