-- How the code comes to the handlers of the states: the states stand there without handlers, and then each STATE of the text
-- gives those of its inputs to the state of its name (Z.101 section 11.2). That this is the model of the file is proved of these
-- functions alone.
use Rattle.std.specs.Prelude.{ℕ, zero, suc, ◌+◌, List, [], ◌∷◌, ◌++◌, length}
use Rattle.og_model.specs.declared.StateDef.{StateDef}
use Rattle.og_model.specs.declared.StateKind as kinds
use Rattle.og_model.specs.declared.Handler.{Handler}
use Rattle.og_front.specs.declared.rules.Tables.{Tables}
use Rattle.og_front.specs.declared.syntax.Ident.{Ident}
use Rattle.og_front.specs.declared.syntax.StateText.{StateText}
use Rattle.og_front.specs.declared.syntax.InputText.{InputText}
use Rattle.og_front.specs.Rules.{number_in}
use Rattle.og_front.specs.ModelOf.{id_in, handler_at}

-- a state without handlers
abbrev pub bare_state : List (List ℕ) → Ident → StateDef
bare_state names name = record { name = id_in names name; place = name.place; kind = kinds.Basic; handlers = [] }

-- the handlers of the inputs of a STATE, of which the first has this number
abbrev pub handlers_from : Tables → Ident → ℕ → List InputText → List Handler
handlers_from tables state n [] = []
handlers_from tables state n (input ∷ inputs) = handler_at tables (n, record { state = state; input = input }) ∷ handlers_from tables state (n + 1) inputs

-- the state of this number has these handlers more
abbrev pub given : ℕ → List Handler → List StateDef → List StateDef
given n hs [] = []
given zero hs (d ∷ ds) = record d { handlers = d.handlers ++ hs } ∷ ds
given (suc n) hs (d ∷ ds) = d ∷ given n hs ds

-- the states after each STATE gave its handlers
abbrev pub all_given : Tables → ℕ → List StateText → List StateDef → List StateDef
all_given tables n [] ds = ds
all_given tables n (s ∷ ss) ds = all_given tables (n + length s.inputs) ss (given (number_in tables.states s.name) (handlers_from tables s.name n s.inputs) ds)
