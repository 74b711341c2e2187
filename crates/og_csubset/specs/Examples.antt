-- Programs of the C subset over small models, with what they show, worked out by hand.
use Rattle.std.specs.Prelude.{◌≡◌, ℕ, ◌-◌, ◌^◌, ℤ, pos, negsuc, List, [], ◌∷◌, ◌++◌, true, false, Some, None, codes}
use Rattle.og_names.specs.declared.NameId.{NameId}
use Rattle.og_names.specs.declared.Word.{Word}
use Rattle.og_types.specs.declared.TypeId.{TypeId}
use Rattle.og_types.specs.declared.Sort.{Sort}
use Rattle.og_types.specs.declared.Sort.TheVariants as sort
use Rattle.og_types.specs.declared.Value.{Value}
use Rattle.og_types.specs.declared.Value.TheVariants as value
use Rattle.og_model.specs.declared.Model.{Model}
use Rattle.og_model.specs.declared.Signal.{Signal}
use Rattle.og_model.specs.declared.Variable.{Variable}
use Rattle.og_model.specs.declared.Scope.{roll-Scope}
use Rattle.og_model.specs.declared.StateKind.{roll-StateKind}
use Rattle.og_model.specs.declared.StateKind.TheOpen.{Basic}
use Rattle.og_model.specs.declared.FaultKind.TheVariants as fault
use Rattle.og_model.specs.declared.StuckRule.{StuckRule}
use Rattle.og_model.specs.declared.StuckRule.TheVariants as stuck
use Rattle.og_model.specs.Shown as shown
use Rattle.og_model.specs.Shown.{Event, Shown, Stimulus, Signal as Sent, Rest, Past, Stuck}
use Rattle.og_csubset.specs.declared.CProgram.{CProgram}
use Rattle.og_csubset.specs.declared.CStruct.{CStruct}
use Rattle.og_csubset.specs.declared.CGlobal.{CGlobal}
use Rattle.og_csubset.specs.declared.CType.TheVariants.{Int64, Struct}
use Rattle.og_csubset.specs.declared.CFunction.{CFunction}
use Rattle.og_csubset.specs.declared.CStmt.{CStmt}
use Rattle.og_csubset.specs.declared.CStmt.TheVariants.{Assign, Goto, Label, Switch, Call, Return}
use Rattle.og_csubset.specs.declared.CPlace.{CPlace}
use Rattle.og_csubset.specs.declared.CStep.TheVariants.{Member, At}
use Rattle.og_csubset.specs.declared.CExpr.{CExpr, roll-CExpr}
use Rattle.og_csubset.specs.declared.CExpr.TheOpen.{Number, Read, Minus, Op, Pick}
use Rattle.og_csubset.specs.declared.COp.{COp}
use Rattle.og_csubset.specs.declared.COp.TheVariants as op
use Rattle.og_csubset.specs.declared.CRel.TheVariants as rel
use Rattle.og_csubset.specs.declared.LoadRule.{LoadRule}
use Rattle.og_csubset.specs.declared.LoadRule.TheVariants as rule
use Rattle.og_csubset.specs.Loading.{first_load_rule}
use Rattle.og_csubset.specs.Run.{c}

abbrev pub word : List ℕ → Word
word bytes = record { bytes = bytes }

abbrev pub literal : ℤ → CExpr
literal n = roll-CExpr (Number n)

-- a global, and a place in it
abbrev pub global_place : List ℕ → CPlace
global_place name = record { name = word name; path = [] }

abbrev pub read : List ℕ → CExpr
read name = roll-CExpr (Read (global_place name))

abbrev pub number_global : List ℕ → CGlobal
number_global name = record { kind = Int64; name = word name }

abbrev pub struct_global : List ℕ → List ℕ → CGlobal
struct_global type name = record { kind = Struct (word type); name = word name }

-- name = e;
abbrev pub assigns : List ℕ → CExpr → CStmt
assigns name e = Assign (global_place name) e

abbrev pub operates : COp → CExpr → CExpr → CExpr
operates o a b = roll-CExpr (Op o a b)

abbrev pub function : List ℕ → List CStmt → CFunction
function name body = record { name = word name; body = body }

-- the globals that each of these programs has
abbrev pub control_globals : List CGlobal
control_globals =
    number_global (codes "r") ∷ number_global (codes "stopped") ∷ number_global (codes "f_kind")
    ∷ number_global (codes "f_file") ∷ number_global (codes "f_line") ∷ number_global (codes "f_column") ∷ []

abbrev pub name : ℕ → NameId
name k = record { 0 = k }

abbrev pub type : ℕ → TypeId
type k = record { 0 = k }

-- a process with one state, called idle, over types, signals and variables
abbrev pub process : List (List ℕ) → List Sort → List Signal → List Variable → Model
process names types signals variables = record {
  name = name 0;
  names = codes "p" ∷ codes "idle" ∷ names;
  types = types;
  signals = signals;
  timers = [];
  variables = variables;
  procs = [];
  root = roll-Scope (record { states = record { name = name 1; place = record { file = 0; line = 1; column = 1 }; kind = roll-StateKind Basic; handlers = [] } ∷ []; starts = []; bodies = [] });
}

-- at rest in the state
abbrev pub idle : List Value → shown.End
idle values = Rest ((name 1 ∷ []) ∷ []) values []

abbrev pub shows : List Event → shown.End → Shown
shows events end = record { events = events; end = end }

-- A signal go comes in, and a signal done goes out.
abbrev pub go_done : Model
go_done =
    process (codes "go" ∷ codes "done" ∷ []) []
    (record { name = name 2; sorts = []; incoming = true; outgoing = false }
    ∷ record { name = name 3; sorts = []; incoming = false; outgoing = true } ∷ [])
    []

abbrev pub go : Stimulus
go = Sent 0 []

-- typedef struct { int64_t e[2]; } A;
-- int64_t r; int64_t stopped; int64_t f_kind; int64_t f_file; int64_t f_line; int64_t f_column; int64_t k; A w;
-- void o_done(void);
-- void start(void) { r = INT64_C(0); k = INT64_C(0); }
-- void on_go(void) { w.e[k] = INT64_C(1); k = k + INT64_C(1); o_done(); o_done(); }
abbrev pub hand_written : CProgram
hand_written = record {
  structs = record { name = word (codes "A"); members = record { kind = Int64; name = word (codes "e"); size = Some 2 } ∷ [] } ∷ [];
  globals = control_globals ++ number_global (codes "k") ∷ struct_global (codes "A") (codes "w") ∷ [];
  events = word (codes "o_done") ∷ [];
  functions =
      function (codes "start") (assigns (codes "r") (literal (pos 0)) ∷ assigns (codes "k") (literal (pos 0)) ∷ [])
      ∷ function (codes "on_go")
      (Assign (record { name = word (codes "w"); path = Member (word (codes "e")) ∷ At (read (codes "k")) ∷ [] }) (literal (pos 1))
      ∷ assigns (codes "k") (operates op.Add (read (codes "k")) (literal (pos 1)))
      ∷ Call (word (codes "o_done")) ∷ Call (word (codes "o_done")) ∷ [])
      ∷ [];
}

abbrev pub done : Event
done = shown.Output 1 []

-- the third stimulus is stuck at an index
abbrev pub HandWrittenRuns : Type 0
HandWrittenRuns =
    c hand_written go_done (go ∷ go ∷ go ∷ []) 10
    ≡ shows [] (idle [])
    ∷ shows (done ∷ done ∷ []) (idle [])
    ∷ shows (done ∷ done ∷ []) (idle [])
    ∷ shows [] (Stuck stuck.Index)
    ∷ []

-- the start has two statements and its end
abbrev pub CutAtTwo : Type 0
CutAtTwo = c hand_written go_done (go ∷ go ∷ go ∷ []) 2 ≡ shows [] Past ∷ []

-- the second output is the fourth statement, and the end of the function would be the fifth
abbrev pub CutAtFour : Type 0
CutAtFour =
    c hand_written go_done (go ∷ go ∷ go ∷ []) 4
    ≡ shows [] (idle []) ∷ shows (done ∷ done ∷ []) Past ∷ []

-- with one statement more nothing is cut but the third stimulus, which is stuck at its first statement
abbrev pub CutAtNone : Type 0
CutAtNone =
    c hand_written go_done (go ∷ go ∷ go ∷ []) 5
    ≡ c hand_written go_done (go ∷ go ∷ go ∷ []) 10

abbrev pub HandWrittenLoads : Type 0
HandWrittenLoads = first_load_rule hand_written go_done ≡ None

-- ---- single statements, over a process with the variables x and l

-- INTEGER (0 .. 9), SEQUENCE (SIZE (0 .. 2)) OF it, CHOICE { one it, two BOOLEAN } and BOOLEAN
abbrev pub types : List Sort
types =
    sort.Int (pos 0) (pos 9)
    ∷ sort.SeqOf 0 2 (type 0)
    ∷ sort.Bool
    ∷ sort.Choice (record { name = name 5; sort = type 0 } ∷ record { name = name 6; sort = type 2 } ∷ [])
    ∷ []

-- A signal go comes in, and a signal num with a number of the first type goes out. x has the first type, l the second.
abbrev pub with_variables : Model
with_variables =
    process (codes "go" ∷ codes "num" ∷ codes "x" ∷ codes "l" ∷ []) types
    (record { name = name 2; sorts = []; incoming = true; outgoing = false }
    ∷ record { name = name 3; sorts = type 0 ∷ []; incoming = false; outgoing = true } ∷ [])
    (record { name = name 4; sort = type 0; initial = value.Int (pos 0) }
    ∷ record { name = name 5; sort = type 1; initial = value.SeqOf [] } ∷ [])

-- typedef struct { int64_t n; int64_t a[2]; } L;
abbrev pub list_struct : CStruct
list_struct = record {
  name = word (codes "L");
  members =
      record { kind = Int64; name = word (codes "n"); size = None }
      ∷ record { kind = Int64; name = word (codes "a"); size = Some 2 } ∷ [];
}

-- int64_t v_x; L v_l; int64_t o_num__1; L w; void o_num(void); and functions for the start and for go
abbrev pub program : List CStmt → List CStmt → CProgram
program start on_go = record {
  structs = list_struct ∷ [];
  globals =
      control_globals ++ number_global (codes "v_x") ∷ struct_global (codes "L") (codes "v_l")
      ∷ number_global (codes "o_num__1") ∷ struct_global (codes "L") (codes "w") ∷ [];
  events = word (codes "o_num") ∷ [];
  functions = function (codes "start") start ∷ function (codes "on_go") on_go ∷ [];
}

-- what the start shows with at most 20 statements
abbrev pub start_of : List CStmt → List Shown
start_of start = c (program start []) with_variables [] 20

abbrev pub member : List ℕ → List ℕ → CPlace
member name m = record { name = word name; path = Member (word m) ∷ [] }

abbrev pub element : List ℕ → List ℕ → CExpr → CPlace
element name m e = record { name = word name; path = Member (word m) ∷ At e ∷ [] }

abbrev pub int : ℕ → CExpr
int n = literal (pos n)

abbrev pub greatest : CExpr
greatest = literal (pos (2 ^ 63 - 1))

abbrev pub least : CExpr
least = literal (negsuc (2 ^ 63 - 1))

abbrev pub minus_one : CExpr
minus_one = literal (negsuc 0)

abbrev pub x : List ℕ
x = codes "v_x"

abbrev pub at_rest : ℕ → List Value → shown.End
at_rest n items = idle (value.Int (pos n) ∷ value.SeqOf items ∷ [])

abbrev pub stuck_by : StuckRule → List Shown
stuck_by rule = shows [] (Stuck rule) ∷ []

abbrev pub at_rest_with : ℕ → List Shown
at_rest_with n = shows [] (at_rest n []) ∷ []

-- x = 9223372036854775807 + 1;
abbrev pub SumOverflows : Type 0
SumOverflows = start_of (assigns x (operates op.Add greatest (int 1)) ∷ []) ≡ stuck_by stuck.Overflow

-- x = -2^63 - 1;
abbrev pub DifferenceOverflows : Type 0
DifferenceOverflows = start_of (assigns x (operates op.Sub least (int 1)) ∷ []) ≡ stuck_by stuck.Overflow

-- x = - -2^63;
abbrev pub SignOverflows : Type 0
SignOverflows = start_of (assigns x (roll-CExpr (Minus least)) ∷ []) ≡ stuck_by stuck.Overflow

-- x = -2^63 / -1;
abbrev pub QuotientOverflows : Type 0
QuotientOverflows = start_of (assigns x (operates op.Div least minus_one) ∷ []) ≡ stuck_by stuck.Overflow

-- x = -2^63 % -1;
abbrev pub RemainderOverflows : Type 0
RemainderOverflows = start_of (assigns x (operates op.Rem least minus_one) ∷ []) ≡ stuck_by stuck.Overflow

-- x = 1 / x;
abbrev pub DividesByZero : Type 0
DividesByZero = start_of (assigns x (operates op.Div (int 1) (read x)) ∷ []) ≡ stuck_by stuck.Divide

-- x = 1 % x;
abbrev pub RemainderByZero : Type 0
RemainderByZero = start_of (assigns x (operates op.Rem (int 1) (read x)) ∷ []) ≡ stuck_by stuck.Divide

-- x = -7 / 2 + 6; and x = -7 % 2 + 6; the quotient is truncated toward zero
abbrev pub TruncatesTowardZero : Type 0
TruncatesTowardZero =
    start_of (assigns x (operates op.Add (operates op.Div (literal (negsuc 6)) (int 2)) (int 6)) ∷ []) ≡ at_rest_with 3

abbrev pub RemainderHasTheSign : Type 0
RemainderHasTheSign =
    start_of (assigns x (operates op.Add (operates op.Rem (literal (negsuc 6)) (int 2)) (int 6)) ∷ []) ≡ at_rest_with 5

-- x = (9223372036854775807 + 1) / x; the left operand comes first
abbrev pub LeftComesFirst : Type 0
LeftComesFirst =
    start_of (assigns x (operates op.Div (operates op.Add greatest (int 1)) (read x)) ∷ []) ≡ stuck_by stuck.Overflow

-- w.a[2] = 1 / x; the index comes first
abbrev pub IndexComesFirst : Type 0
IndexComesFirst =
    start_of (Assign (element (codes "w") (codes "a") (int 2)) (operates op.Div (int 1) (read x)) ∷ []) ≡ stuck_by stuck.Index

-- w.a[-1] = 0;
abbrev pub NegativeIndex : Type 0
NegativeIndex = start_of (Assign (element (codes "w") (codes "a") minus_one) (int 0) ∷ []) ≡ stuck_by stuck.Index

-- x = (x == 0 ? 7 : 1 / x);
abbrev pub PicksOneSide : Type 0
PicksOneSide =
    start_of
    (assigns x (roll-CExpr (Pick (record { op = rel.Eq; left = read x; right = int 0 }) (int 7) (operates op.Div (int 1) (read x)))) ∷ [])
    ≡ at_rest_with 7

-- w.n = 2; w.a[0] = 4; w.a[1] = 5; v_l = w; w.a[0] = 6;
abbrev pub CopiesAStruct : Type 0
CopiesAStruct =
    start_of
    (Assign (member (codes "w") (codes "n")) (int 2)
    ∷ Assign (element (codes "w") (codes "a") (int 0)) (int 4)
    ∷ Assign (element (codes "w") (codes "a") (int 1)) (int 5)
    ∷ assigns (codes "v_l") (read (codes "w"))
    ∷ Assign (element (codes "w") (codes "a") (int 0)) (int 6) ∷ [])
    ≡ shows [] (at_rest 0 (value.Int (pos 4) ∷ value.Int (pos 5) ∷ [])) ∷ []

-- switch (x) { case 1: goto a; case 2: goto b; default: goto d; } a:; x = 1; return; b:; x = 2; return; d:; x = 3;
abbrev pub switching : ℕ → List CStmt
switching n =
    assigns x (int n)
    ∷ Switch (read x)
    (record { value = pos 1; label = word (codes "a") } ∷ record { value = pos 2; label = word (codes "b") } ∷ [])
    (word (codes "d"))
    ∷ Label (word (codes "a")) ∷ assigns x (int 1) ∷ Return
    ∷ Label (word (codes "b")) ∷ assigns x (int 8) ∷ Return
    ∷ Label (word (codes "d")) ∷ assigns x (int 9) ∷ []

abbrev pub SwitchTakesACase : Type 0
SwitchTakesACase = start_of (switching 2) ≡ at_rest_with 8

abbrev pub SwitchFallsToDefault : Type 0
SwitchFallsToDefault = start_of (switching 3) ≡ at_rest_with 9

-- x = 10; x has the numbers from 0 to 9
abbrev pub VariableOutOfRange : Type 0
VariableOutOfRange = start_of (assigns x (int 10) ∷ []) ≡ stuck_by stuck.Value

-- r = 1; the process has one leaf, of number 0
abbrev pub RegionOutOfRange : Type 0
RegionOutOfRange = start_of (assigns (codes "r") (int 1) ∷ []) ≡ stuck_by stuck.Value

-- r = -1; no state is active
abbrev pub NoStateIsActive : Type 0
NoStateIsActive =
    start_of (assigns (codes "r") minus_one ∷ [])
    ≡ shows [] (Rest [] (value.Int (pos 0) ∷ value.SeqOf [] ∷ []) []) ∷ []

-- v_l.n = 1; v_l.a[1] = 77; items past the length may hold anything
abbrev pub ItemsPastTheLength : Type 0
ItemsPastTheLength =
    start_of
    (Assign (member (codes "v_l") (codes "n")) (int 1)
    ∷ Assign (element (codes "v_l") (codes "a") (int 1)) (int 77) ∷ [])
    ≡ shows [] (at_rest 0 (value.Int (pos 0) ∷ [])) ∷ []

-- o_num__1 = 3; o_num(); o_num__1 = 10; o_num();
abbrev pub outputs : List CStmt
outputs =
    assigns (codes "o_num__1") (int 3) ∷ Call (word (codes "o_num"))
    ∷ assigns (codes "o_num__1") (int 10) ∷ Call (word (codes "o_num")) ∷ []

abbrev pub num : ℕ → Event
num n = shown.Output 1 (value.Int (pos n) ∷ [])

abbrev pub OutputOutOfRange : Type 0
OutputOutOfRange = start_of outputs ≡ shows (num 3 ∷ []) (Stuck stuck.Value) ∷ []

-- the same, cut before the second output: it is not looked at
abbrev pub CutBeforeAnOutput : Type 0
CutBeforeAnOutput = c (program outputs []) with_variables [] 3 ≡ shows (num 3 ∷ []) Past ∷ []

-- f_kind = 3; f_file = 0; f_line = 4; f_column = 28; x = 2;
abbrev pub faults : ℕ → List CStmt
faults kind =
    assigns (codes "f_kind") (int kind) ∷ assigns (codes "f_line") (int 4)
    ∷ assigns (codes "f_column") (int 28) ∷ assigns x (int 2) ∷ []

abbrev pub EndsWithAFault : Type 0
EndsWithAFault =
    c (program (faults 3) []) with_variables (go ∷ []) 20
    ≡ shows [] (shown.Fault fault.Division (record { file = 0; line = 4; column = 28 }) (value.Int (pos 2) ∷ value.SeqOf [] ∷ []) []) ∷ []

abbrev pub NoSuchFault : Type 0
NoSuchFault = start_of (faults 6) ≡ stuck_by stuck.Value

-- stopped = -1; and then, for go, x = 5;
abbrev pub CalledAfterStop : Type 0
CalledAfterStop =
    c (program (assigns (codes "stopped") minus_one ∷ []) (assigns x (int 5) ∷ [])) with_variables (go ∷ []) 20
    ≡ shows [] (shown.Stopped (value.Int (pos 0) ∷ value.SeqOf [] ∷ []))
    ∷ shows [] (shown.Stopped (value.Int (pos 5) ∷ value.SeqOf [] ∷ []))
    ∷ []

-- l:; goto l; runs on
abbrev pub RunsOn : Type 0
RunsOn =
    start_of (Label (word (codes "l")) ∷ Goto (word (codes "l")) ∷ []) ≡ shows [] Past ∷ []

-- ---- a program for each rule that it can break

abbrev pub breaks : CProgram → LoadRule → Type 0
breaks P broken = first_load_rule P with_variables ≡ Some broken

-- a program whose start has these statements
abbrev pub starting : List CStmt → CProgram
starting start = program start []

abbrev pub NothingToDoLoads : Type 0
NothingToDoLoads = first_load_rule (starting []) with_variables ≡ None

-- int64_t start; beside the function
abbrev pub BreaksK3 : Type 0
BreaksK3 =
    breaks (record (starting []) { globals = (starting []).globals ++ number_global (codes "start") ∷ [] }) rule.K3

-- B w2; where no B is defined
abbrev pub BreaksK4 : Type 0
BreaksK4 =
    breaks (record (starting []) { globals = (starting []).globals ++ struct_global (codes "B") (codes "w2") ∷ [] }) rule.K4

-- w.a = 1; v_l = x; y = 1; x = w; w.n[0] = 1; x = w.m;
abbrev pub BreaksK5 : CStmt → Type 0
BreaksK5 statement = breaks (starting (statement ∷ [])) rule.K5

abbrev pub ArrayWithoutAnIndex : Type 0
ArrayWithoutAnIndex = BreaksK5 (Assign (member (codes "w") (codes "a")) (int 1))

abbrev pub NumberIntoAStruct : Type 0
NumberIntoAStruct = BreaksK5 (assigns (codes "v_l") (read x))

abbrev pub UnknownGlobal : Type 0
UnknownGlobal = BreaksK5 (assigns (codes "y") (int 1))

abbrev pub StructIntoANumber : Type 0
StructIntoANumber = BreaksK5 (assigns x (read (codes "w")))

abbrev pub IndexOfANumber : Type 0
IndexOfANumber = BreaksK5 (Assign (element (codes "w") (codes "n") (int 0)) (int 1))

abbrev pub UnknownMember : Type 0
UnknownMember = BreaksK5 (assigns x (roll-CExpr (Read (member (codes "w") (codes "m")))))

-- goto l;
abbrev pub MissingLabel : Type 0
MissingLabel = breaks (starting (Goto (word (codes "l")) ∷ [])) rule.K6

-- l:; l:;
abbrev pub LabelTwice : Type 0
LabelTwice = breaks (starting (Label (word (codes "l")) ∷ Label (word (codes "l")) ∷ [])) rule.K6

-- switch (x) { case 1: goto l; case 1: goto l; default: goto l; } l:;
abbrev pub EqualCases : Type 0
EqualCases =
    breaks
    (starting
    (Switch (read x) (record { value = pos 1; label = word (codes "l") } ∷ record { value = pos 1; label = word (codes "l") } ∷ []) (word (codes "l"))
    ∷ Label (word (codes "l")) ∷ []))
    rule.K6

-- on_go(); in start, which stands before it
abbrev pub CallsALaterFunction : Type 0
CallsALaterFunction = breaks (starting (Call (word (codes "on_go")) ∷ [])) rule.K7

-- typedef struct { int64_t b[65536]; } B; typedef struct { B c[256]; } C; C w2;
abbrev pub TooManyCells : Type 0
TooManyCells =
    breaks
    (record (starting []) {
      structs =
          list_struct
          ∷ record { name = word (codes "B"); members = record { kind = Int64; name = word (codes "b"); size = Some 65536 } ∷ [] }
          ∷ record { name = word (codes "C"); members = record { kind = Struct (word (codes "B")); name = word (codes "c"); size = Some 256 } ∷ [] }
          ∷ [];
      globals = (starting []).globals ++ struct_global (codes "C") (codes "w2") ∷ [];
    })
    rule.K8

-- a program without on_go
abbrev pub MissingFunction : Type 0
MissingFunction = breaks (record (starting []) { functions = function (codes "start") [] ∷ [] }) rule.K9

-- void o_more(void); which is no event of the model
abbrev pub ForeignEvent : Type 0
ForeignEvent = breaks (record (starting []) { events = word (codes "o_num") ∷ word (codes "o_more") ∷ [] }) rule.K9

-- L o_go__1; is no name of the interface, since go has no parameter; void o_go(void); is an event of a signal of the model
abbrev pub EventOfAnySignal : Type 0
EventOfAnySignal =
    first_load_rule
    (record (starting []) {
      globals = (starting []).globals ++ struct_global (codes "L") (codes "o_go__1") ∷ [];
      events = word (codes "o_num") ∷ word (codes "o_go") ∷ [];
    })
    with_variables ≡ None

-- L o_num__1; in place of int64_t o_num__1; and no event o_num
abbrev pub FieldOfAnotherShape : Type 0
FieldOfAnotherShape =
    breaks
    (record (starting []) {
      globals = control_globals ++ number_global (codes "v_x") ∷ struct_global (codes "L") (codes "v_l") ∷ struct_global (codes "L") (codes "o_num__1") ∷ [];
      events = [];
    })
    rule.K9

-- without the event o_num its global need not be there
abbrev pub FieldNotNeeded : Type 0
FieldNotNeeded =
    first_load_rule
    (record (starting []) {
      globals = control_globals ++ number_global (codes "v_x") ∷ struct_global (codes "L") (codes "v_l") ∷ [];
      events = [];
    })
    with_variables ≡ None
