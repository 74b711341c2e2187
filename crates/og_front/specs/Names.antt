-- The names of a model file, in the order of their tokens, and that each is short (a name of Z.101 section 6.1 has a limit here
-- of 64 bytes).
use Rattle.std.specs.Prelude.{◌≤◌, List, [], ◌∷◌, ◌++◌, length}
use Rattle.std.specs.List.{flat_map, AllByRecursion}
use Rattle.og_front.specs.declared.syntax.Ident.{Ident}
use Rattle.og_front.specs.declared.syntax.SystemText.{SystemText}
use Rattle.og_front.specs.declared.syntax.SignalText.{SignalText}
use Rattle.og_front.specs.declared.syntax.StateText.{StateText}
use Rattle.og_front.specs.declared.syntax.InputText.{InputText}

-- the names that one SIGNAL declares
abbrev pub declared_by : SignalText → List Ident
declared_by signal = signal.first ∷ signal.others

-- the names of an INPUT: its signal, its outputs and its next state
abbrev pub input_names : InputText → List Ident
input_names input = input.signal ∷ (input.outputs ++ input.next.state ∷ [])

abbrev pub state_names : StateText → List Ident
state_names state = state.name ∷ flat_map input_names state.inputs

abbrev pub all_names : SystemText → List Ident
all_names system =
    system.system ∷ (flat_map declared_by system.signals ++ system.block ∷ system.process ∷ system.start.next.state ∷ flat_map state_names system.states)

abbrev pub IsShort : Ident → Type 0
IsShort name = length name.word.bytes ≤ 64

-- each of the names is short
pub record AreShort (names : List Ident) : Type 0 where
  pub each : AllByRecursion IsShort names

abbrev pub HasShortNames : SystemText → Type 0
HasShortNames system = AreShort (all_names system)
