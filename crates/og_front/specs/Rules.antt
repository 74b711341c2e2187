-- The rules that a model file keeps (names after Z.101 section 6.3, states after Z.102): for each rule, the violations in a
-- file. A name is declared in a space of names, of signals, of the states of the process, of blocks or of processes, and it is
-- used as a name of one space. Names are compared without case.
use Rattle.std.specs.Prelude.{ℕ, Bool, false, ◌&&◌, ◌||◌, ◌==◌, nat_lt, List, [], ◌∷◌, ◌++◌, length, map, Option, Some, None, is_some, unwrap_or, codes, if◌then◌else◌}
use Rattle.std.specs.List.{flat_map, list_any}
use Rattle.og_base.specs.declared.Rule.{Rule}
use Rattle.og_base.specs.declared.Rule.TheVariants.{N1, N2, N3, N4, A2, M1, M2}
use Rattle.og_base.specs.declared.Violation.{Violation}
use Rattle.og_base.specs.Order.{first_of}
use Rattle.og_names.specs.Folding.{folded, place_of, with_name}
use Rattle.og_front.specs.declared.rules.Tables.{Tables}
use Rattle.og_front.specs.declared.syntax.Ident.{Ident}
use Rattle.og_front.specs.declared.syntax.SystemText.{SystemText}
use Rattle.og_front.specs.declared.syntax.SignalText.{SignalText}
use Rattle.og_front.specs.declared.syntax.StateText.{StateText}
use Rattle.og_front.specs.declared.syntax.InputText.{InputText}
use Rattle.og_front.specs.Names.{declared_by}

-- the form in which a name is compared
abbrev pub key : Ident → List ℕ
key name = folded name.word.bytes

abbrev pub violated : Rule → Ident → Violation
violated rule name = record { rule = rule; place = name.place }

-- the names of the signals, as declared
abbrev pub signal_names : SystemText → List Ident
signal_names system = flat_map declared_by system.signals

-- the names in the STATE headers
abbrev pub header_names : SystemText → List Ident
header_names system = map (λ state. state.name) system.states

-- the list after names are added, one behind the other
abbrev pub with_names : List (List ℕ) → List (List ℕ) → List (List ℕ)
with_names table [] = table
with_names table (name ∷ names) = with_names (with_name table name) names

-- each name once, in the order of the first appearance
abbrev pub table_of : List Ident → List (List ℕ)
table_of names = with_names [] (map key names)

abbrev pub signal_table : SystemText → List (List ℕ)
signal_table system = table_of (signal_names system)

abbrev pub state_table : SystemText → List (List ℕ)
state_table system = table_of (header_names system)

-- what stands outside all scopes: two types, procedures and operators
abbrev pub predeclared : List (List ℕ)
predeclared = codes "boolean" ∷ codes "integer" ∷ codes "set_timer" ∷ codes "reset_timer" ∷ codes "append" ∷ codes "write" ∷ codes "writeln" ∷ codes "length" ∷ codes "present" ∷ []

-- the names of the block, of the process and of what is predeclared, each once
abbrev pub outer_table : SystemText → List (List ℕ)
outer_table system = with_names [] (key system.block ∷ key system.process ∷ predeclared)

-- the names of a file: of its signals, of its states, and those that stand around them
abbrev pub tables_of : SystemText → Tables
tables_of system = record { signals = signal_table system; states = state_table system; outer = outer_table system }

abbrev pub is_in : List (List ℕ) → List ℕ → Bool
is_in table name = is_some (place_of table name)

-- A name that its own space has violates nothing. One that only another space has violates N3, any other one N1.
abbrev pub looked_up : List (List ℕ) → List (List ℕ) → List (List ℕ) → Ident → List Violation
looked_up own other outer name =
    if is_in own (key name) then []
    else (if is_in other (key name) || is_in outer (key name) then violated N3 name ∷ [] else violated N1 name ∷ [])

abbrev pub as_signal : Tables → Ident → List Violation
as_signal tables name = looked_up tables.signals tables.states tables.outer name

abbrev pub as_state : Tables → Ident → List Violation
as_state tables name = looked_up tables.states tables.signals tables.outer name

-- the names that one INPUT uses: its signal, its outputs and its next state
abbrev pub used_by_input : Tables → InputText → List Violation
used_by_input tables input = as_signal tables input.signal ++ (flat_map (as_signal tables) input.outputs ++ as_state tables input.next.state)

abbrev pub used_by_state : Tables → StateText → List Violation
used_by_state tables state = flat_map (used_by_input tables) state.inputs

-- N1 and N3: each name that is used
abbrev pub unknown_names : Tables → SystemText → List Violation
unknown_names tables system = as_state tables system.start.next.state ++ flat_map (used_by_state tables) system.states

-- the violation, if the rule is broken
abbrev pub violated_if : Bool → Rule → Ident → List Violation
violated_if broken rule name = if broken then violated rule name ∷ [] else []

-- N2: a signal declared a second time
abbrev pub repeated_from : List (List ℕ) → List Ident → List Violation
repeated_from table [] = []
repeated_from table (name ∷ names) = violated_if (is_in table (key name)) N2 name ++ repeated_from (with_name table (key name)) names

abbrev pub repeated_signals : SystemText → List Violation
repeated_signals system = repeated_from [] (signal_names system)

-- two underlines side by side
abbrev pub has_double_underline : List ℕ → Bool
has_double_underline [] = false
has_double_underline (b ∷ []) = false
has_double_underline (b ∷ c ∷ bs) = ((b == 95) && (c == 95)) || has_double_underline (c ∷ bs)

-- N4: a declared name with two underlines side by side
abbrev pub double_underline : Ident → List Violation
double_underline name = violated_if (has_double_underline name.word.bytes) N4 name

abbrev pub double_underlines_of : SignalText → List Violation
double_underlines_of signal = flat_map double_underline (declared_by signal)

abbrev pub double_underlines : SystemText → List Violation
double_underlines system =
    flat_map double_underlines_of system.signals
    ++ (double_underline system.block ++ (double_underline system.process ++ flat_map (λ state. double_underline state.name) system.states))

-- the violations of the rules on names
abbrev pub name_violations : Tables → SystemText → List Violation
name_violations tables system = unknown_names tables system ++ (repeated_signals system ++ double_underlines system)

-- the number of a name in a table
abbrev pub number_in : List (List ℕ) → Ident → ℕ
number_in table name = unwrap_or (place_of table (key name)) 0

-- a handler by the numbers of its state and of its signal
abbrev pub same_handler : ℕ × ℕ → ℕ × ℕ → Bool
same_handler a b = (a.0 == b.0) && (a.1 == b.1)

abbrev pub is_handled : List (ℕ × ℕ) → ℕ × ℕ → Bool
is_handled handled handler = list_any (same_handler handler) handled

abbrev pub with_handler : List (ℕ × ℕ) → ℕ × ℕ → List (ℕ × ℕ)
with_handler handled handler = if is_handled handled handler then handled else handled ++ handler ∷ []

abbrev pub handler_of : Tables → StateText → InputText → ℕ × ℕ
handler_of tables state input = (number_in tables.states state.name, number_in tables.signals input.signal)

-- the handlers of some INPUTs of a state, by state and signal, with the names of their signals in INPUT
abbrev pub handlers_in : Tables → StateText → List InputText → List ((ℕ × ℕ) × Ident)
handlers_in tables state inputs = map (λ input. (handler_of tables state input, input.signal)) inputs

abbrev pub handlers_of : Tables → StateText → List ((ℕ × ℕ) × Ident)
handlers_of tables state = handlers_in tables state state.inputs

-- the handlers after these are added, one behind the other
abbrev pub with_handlers : List (ℕ × ℕ) → List ((ℕ × ℕ) × Ident) → List (ℕ × ℕ)
with_handlers handled [] = handled
with_handlers handled (h ∷ hs) = with_handlers (with_handler handled h.0) hs

-- A2: a second handler of one signal in one state, also where the state has several headers
abbrev pub repeated_handlers_from : List (ℕ × ℕ) → List ((ℕ × ℕ) × Ident) → List Violation
repeated_handlers_from handled [] = []
repeated_handlers_from handled (h ∷ hs) = violated_if (is_handled handled h.0) A2 h.1 ++ repeated_handlers_from (with_handler handled h.0) hs

abbrev pub repeated_handlers : Tables → SystemText → List Violation
repeated_handlers tables system = repeated_handlers_from [] (flat_map (handlers_of tables) system.states)

-- M1: more than 1,000 states. M2: more than 200 signals. Each name counts once
abbrev pub limit_violations : Tables → SystemText → List Violation
limit_violations tables system = violated_if (nat_lt 1000 (length tables.states)) M1 system.process ++ violated_if (nat_lt 200 (length tables.signals)) M2 system.process

abbrev pub or_else : Option Violation → Option Violation → Option Violation
or_else None other = other
or_else (Some v) other = Some v

-- the first violation of a class of rules where the classes before it have none: names, then states, then limits
abbrev pub first_by : Tables → SystemText → Option Violation
first_by tables system = or_else (first_of (name_violations tables system)) (or_else (first_of (repeated_handlers tables system)) (first_of (limit_violations tables system)))

abbrev pub first_of_rules : SystemText → Option Violation
first_of_rules system = first_by (tables_of system) system
