-- More names of a file that are short: those that are numbered beside the declared ones.
use Rattle.std.proofs.Common.{List, [], ◌∷◌, ◌++◌}
use Rattle.std.specs.List.{flat_map, AllByRecursion}
use Rattle.og_front.specs.declared.syntax.Ident.{Ident}
use Rattle.og_front.specs.declared.syntax.SystemText.{SystemText}
use Rattle.og_front.specs.declared.syntax.StateText.{StateText}
use Rattle.og_front.specs.declared.syntax.InputText.{InputText}
use Rattle.og_front.specs.Names.{declared_by, input_names, state_names, IsShort, AreShort, HasShortNames}

front_of : (xs ys : List Ident) → AllByRecursion IsShort (xs ++ ys) → AllByRecursion IsShort xs
front_of [] ys all = tt
front_of (x ∷ xs) ys all = (all.0, front_of xs ys all.1)

back_of : (xs ys : List Ident) → AllByRecursion IsShort (xs ++ ys) → AllByRecursion IsShort ys
back_of [] ys all = all
back_of (x ∷ xs) ys all = back_of xs ys all.1

pub short_system : (system : SystemText) → HasShortNames system → IsShort system.system
short_system system short = short.each.0

pub short_start : (system : SystemText) → HasShortNames system → IsShort system.start.next.state
short_start system short = (back_of (flat_map declared_by system.signals) (system.block ∷ system.process ∷ system.start.next.state ∷ flat_map state_names system.states) short.each.1).1.1.0

pub short_states : (system : SystemText) → HasShortNames system → AreShort (flat_map state_names system.states)
short_states system short =
    record { each = (back_of (flat_map declared_by system.signals) (system.block ∷ system.process ∷ system.start.next.state ∷ flat_map state_names system.states) short.each.1).1.1.1 }

pub short_state : (state : StateText) → AreShort (state_names state) → IsShort state.name
short_state state short = short.each.0

pub short_inputs : (state : StateText) → AreShort (state_names state) → AreShort (flat_map input_names state.inputs)
short_inputs state short = record { each = short.each.1 }

pub short_signal : (input : InputText) → AreShort (input_names input) → IsShort input.signal
short_signal input short = short.each.0

pub short_outputs : (input : InputText) → AreShort (input_names input) → AreShort input.outputs
short_outputs input short = record { each = front_of input.outputs (input.next.state ∷ []) short.each.1 }

pub short_next : (input : InputText) → AreShort (input_names input) → IsShort input.next.state
short_next input short = (back_of input.outputs (input.next.state ∷ []) short.each.1).0

pub ruleset parts = (short_system, short_start, short_states, short_state, short_inputs, short_signal, short_outputs, short_next)
