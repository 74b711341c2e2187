-- The program of flat code, from its parts. A global stands for each slot, and a function for each function. A part of a
-- slot is the same part of its global: a member, or an element of an array. Each instruction becomes one statement; where
-- something of the same function jumps to it, a label stands before the statement. A label is the word that the code has for
-- the place, or `at`, then `__` and the place in decimal digits, so that no two labels of a function meet. The events that
-- some instruction shows are declared, in the order of their numbers (C99 6.5.2, 6.7.2.1 and 6.8).
use Rattle.std.specs.Prelude.{ℕ, ◌+◌, ◌^◌, ◌<◌, List, [], ◌∷◌, ◌++◌, Bool, true, false, if◌then◌else◌, Option, Some, None, codes, map, flat_map, length, replicate, slice_get, decimal, ⊤}
use Rattle.og_types.specs.Table.{is_empty}
use Rattle.og_names.specs.declared.Word.{Word}
use Rattle.og_types.specs.declared.Sort.{Sort}
use Rattle.og_model.specs.declared.Model.{Model}
use Rattle.og_ir.specs.declared.Ir.{Ir}
use Rattle.og_ir.specs.declared.SlotDef.{SlotDef}
use Rattle.og_ir.specs.declared.FlatFn.{FlatFn}
use Rattle.og_ir.specs.declared.Instr.{Instr}
use Rattle.og_ir.specs.declared.Instr.TheVariants as instr
use Rattle.og_ir.specs.declared.Slot.{Slot, Slot-F}
use Rattle.og_ir.specs.declared.Step2.{Step2, Step2-F, fold-Step2}
use Rattle.og_ir.specs.declared.Step2.TheVariants as step
use Rattle.og_ir.specs.declared.Flat.{Flat, Flat-F, fold-Flat}
use Rattle.og_ir.specs.declared.Flat.TheOpen as flat
use Rattle.og_ir.specs.declared.Test.{Test}
use Rattle.og_ir.specs.declared.Case.{Case}
use Rattle.og_ir.specs.Cells.{◌>>=◌}
use Rattle.og_csubset.specs.declared.CProgram.{CProgram}
use Rattle.og_csubset.specs.declared.CGlobal.{CGlobal}
use Rattle.og_csubset.specs.declared.CFunction.{CFunction}
use Rattle.og_csubset.specs.declared.CStmt.{CStmt}
use Rattle.og_csubset.specs.declared.CStmt.TheVariants.{Assign, IfGoto, Goto, Label, Switch, Call, Return}
use Rattle.og_csubset.specs.declared.CCase.{CCase}
use Rattle.og_csubset.specs.declared.CPlace.{CPlace}
use Rattle.og_csubset.specs.declared.CStep.{CStep, Member, At}
use Rattle.og_csubset.specs.declared.CExpr.{CExpr, Number, Read, Op}
use Rattle.og_csubset.specs.declared.CTest.{CTest}
use Rattle.og_csubset.specs.Fair.{Held, held_in_slot, field_of, item_of}
use Rattle.og_csubset.specs.FlatText.{slot_word, operator_of, relation_of}
use Rattle.og_cemit.specs.Marks.{is_marked, all_marked}
use Rattle.og_cemit.specs.Structs.{member_words, member_word, type_of_slot, prefix_of, structs_of}

-- ---- names

-- the word that the code has for a place, or `at`
abbrev pub hint : Option Word → List ℕ
hint None = codes "at"
hint (Some word) = if is_empty word.bytes then codes "at" else word.bytes

unfoldable pub label_text : List Word → ℕ → List ℕ
label_text labels place = hint (slice_get labels place) ++ (codes "__" ++ decimal place)

abbrev pub label_at : FlatFn → ℕ → Word
label_at f place = record { bytes = label_text f.labels place }

-- ---- places

-- A selector of a place, with its index as an expression.
pub data Selector : Type 0 where
  Part : (number : ℕ) → Selector
  Item : (index : CExpr) → Selector

-- the step of a selector behind what is held
abbrev pub step_behind : List (List Word) → Option Held → Selector → CStep
step_behind words held (Part k) = Member (member_word words held k)
step_behind words held (Item e) = At e

abbrev pub held_field : List Sort → ℕ → Option Held → Option Held
held_field sorts k held = held >>= field_of sorts k

abbrev pub held_item : List Sort → Option Held → Option Held
held_item sorts held = held >>= item_of sorts

-- what a selector leads to
abbrev pub held_past : List Sort → Option Held → Selector → Option Held
held_past sorts held (Part k) = held_field sorts k held
held_past sorts held (Item e) = held_item sorts held

-- the same of a selector of flat code
abbrev pub held_behind : List Sort → Option Held → Step2 → Option Held
held_behind sorts held (step.Field k) = held_field sorts k held
held_behind sorts held (step.Index e) = held_item sorts held

-- the selectors behind what is held, where members have these names
abbrev pub selectors : List (List Word) → List Sort → Option Held → List Selector → List CStep
selectors words sorts held [] = []
selectors words sorts held (s ∷ more) = step_behind words held s ∷ selectors words sorts (held_past sorts held s) more

abbrev pub held_in_def : List Sort → Option SlotDef → Option Held
held_in_def sorts o = o >>= λ def. held_in_slot sorts def.sort

-- the place of a slot, or of a part of it
abbrev pub place_at : Ir → Model → ℕ → List Selector → CPlace
place_at ir model base path = record {
  name = slot_word (slice_get ir.slots base);
  path = selectors (member_words model) model.types (held_in_def model.types (slice_get ir.slots base)) path;
}

-- ---- expressions

abbrev pub number_layer : Flat-F CExpr Selector CPlace → CExpr
number_layer (flat.Number n) = Number n
number_layer (flat.Read place) = Read place
number_layer (flat.Op o a b) = Op (operator_of o) a b

abbrev pub selector_layer : Step2-F CExpr Selector CPlace → Selector
selector_layer (flat.Field k) = Part k
selector_layer (flat.Index e) = Item e

abbrev pub place_layer : Ir → Model → Slot-F CExpr Selector CPlace → CPlace
place_layer ir model slot = place_at ir model slot.base slot.path

unfoldable pub number_of : Ir → Model → Flat → CExpr
number_of ir model e = fold-Flat CExpr Selector CPlace number_layer selector_layer (place_layer ir model) e

unfoldable pub selector_of : Ir → Model → Step2 → Selector
selector_of ir model step = fold-Step2 CExpr Selector CPlace number_layer selector_layer (place_layer ir model) step

abbrev pub place_of : Ir → Model → Slot → CPlace
place_of ir model slot = place_at ir model slot.base (map (selector_of ir model) slot.path)

abbrev pub test_of : Ir → Model → Test → CTest
test_of ir model test = record { op = relation_of test.op; left = number_of ir model test.left; right = number_of ir model test.right }

-- ---- statements

abbrev pub case_at : FlatFn → Case → CCase
case_at f c = record { value = c.value; label = label_at f c.to }

abbrev pub calls_function : Option FlatFn → CStmt
calls_function None = Return
calls_function (Some f) = Call f.name

abbrev pub calls_event : Option Word → CStmt
calls_event None = Return
calls_event (Some event) = Call event

abbrev pub statement_at : Ir → Model → FlatFn → Instr → CStmt
statement_at ir model f (instr.Set slot e) = Assign (place_of ir model slot) (number_of ir model e)
statement_at ir model f (instr.Copy to from) = Assign (place_of ir model to) (Read (place_of ir model from))
statement_at ir model f (instr.Branch test place) = IfGoto (test_of ir model test) (label_at f place)
statement_at ir model f (instr.Goto place) = Goto (label_at f place)
statement_at ir model f (instr.Table e cases otherwise) = Switch (number_of ir model e) (map (case_at f) cases) (label_at f otherwise)
statement_at ir model f (instr.Call k) = calls_function (slice_get ir.functions k)
statement_at ir model f (instr.Emit k) = calls_event (slice_get ir.events k)
statement_at ir model f instr.Back = Return

-- ---- marks

-- the places that an instruction jumps to
abbrev pub jumps : Instr → List ℕ
jumps (instr.Branch test place) = place ∷ []
jumps (instr.Goto place) = place ∷ []
jumps (instr.Table e cases otherwise) = map (λ c. c.to) cases ++ otherwise ∷ []
jumps i = []

-- for each place of the code whether something jumps there
unfoldable pub targets : List Instr → List Bool
targets code = all_marked (flat_map jumps code) (replicate (length code) false)

-- the event that an instruction shows
abbrev pub shows : Instr → List ℕ
shows (instr.Emit k) = k ∷ []
shows i = []

-- for each event whether something shows it
unfoldable pub used : Ir → List Bool
used ir = all_marked (flat_map (λ f. flat_map shows f.code) ir.functions) (replicate (length ir.events) false)

-- ---- the program

-- a label for a place where something jumps to it
abbrev pub label_before : Bool → FlatFn → ℕ → List CStmt
label_before false f place = []
label_before true f place = Label (label_at f place) ∷ []

-- the statements of an instruction
abbrev pub statements_at : Ir → Model → FlatFn → List Bool → ℕ → Instr → List CStmt
statements_at ir model f marks place i = label_before (is_marked marks place) f place ++ statement_at ir model f i ∷ []

-- the statements of instructions from a place on
abbrev pub statements_from : Ir → Model → FlatFn → List Bool → ℕ → List Instr → List CStmt
statements_from ir model f marks place [] = []
statements_from ir model f marks place (i ∷ code) = statements_at ir model f marks place i ++ statements_from ir model f marks (place + 1) code

abbrev pub body_of : Ir → Model → FlatFn → List CStmt
body_of ir model f = statements_from ir model f (targets f.code) 0 f.code

abbrev pub function_of : Ir → Model → FlatFn → CFunction
function_of ir model f = record { name = f.name; body = body_of ir model f }

abbrev pub global_of : List ℕ → List Sort → SlotDef → CGlobal
global_of prefix sorts slot = record { kind = type_of_slot prefix sorts slot.sort; name = slot.name }

abbrev pub event_if : Bool → Word → List Word
event_if false name = []
event_if true name = name ∷ []

-- the events that are marked, from a number on
abbrev pub events_from : List Bool → ℕ → List Word → List Word
events_from marks k [] = []
events_from marks k (name ∷ names) = event_if (is_marked marks k) name ++ events_from marks (k + 1) names

abbrev pub program_of : Ir → Model → CProgram
program_of ir model = record {
  structs = structs_of ir model;
  globals = map (global_of (prefix_of ir) model.types) ir.slots;
  events = events_from (used ir) 0 ir.events;
  functions = map (function_of ir model) ir.functions;
}

-- the code of each function has fewer instructions than 2^64, which labels count
abbrev pub AreShort : List FlatFn → Type 0
AreShort [] = ⊤
AreShort (f ∷ functions) = (length f.code < 2 ^ 64) × AreShort functions
