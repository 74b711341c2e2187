-- What the actions of a transition do (Z.101 sections 11.12, 11.13 and 11.15, Z.104 for assignments). A body is
-- carried out one unit at a time: each action costs one and each terminator costs one. What is still to be done is a list
-- of pieces, the innermost first. Departing from Z.100, values are tested against their types at each assignment,
-- output, argument and result, a timer is set with a duration, and a fault ends the run: it changes nothing further.
-- A procedure runs as part of its caller's transition. An IN parameter is a copy, an IN/OUT parameter is the caller's
-- variable itself. On a tree that no text gives mostly the units run out.
use Rattle.std.specs.Prelude.{ℕ, zero, suc, Bool, true, false, cond, List, [], ◌∷◌, ◌++◌, length, take, slice_get, slice_set, ℤ, pos, nat_lt, nat_eq, Option, Some, None, Result, Ok, Err}
use Rattle.std.specs.List.{list_any}
use Rattle.std.specs.Option.{option_map, option_or}
use Rattle.og_base.specs.declared.Place.{Place}
use Rattle.og_names.specs.declared.NameId.{NameId}
use Rattle.og_types.specs.declared.TypeId.{TypeId}
use Rattle.og_types.specs.declared.Sort.{Sort}
use Rattle.og_types.specs.declared.Sort.TheVariants as Sorts
use Rattle.og_types.specs.declared.Value.{Value}
use Rattle.og_types.specs.declared.Value as Values
use Rattle.og_types.specs.Values.{is_between}
use Rattle.og_model.specs.declared.FaultKind.{FaultKind}
use Rattle.og_model.specs.declared.FaultKind.TheVariants as Kind
use Rattle.og_model.specs.declared.VarId.{VarId}
use Rattle.og_model.specs.declared.VarId.TheVariants.{Process, Local}
use Rattle.og_model.specs.declared.Variable.{Variable}
use Rattle.og_model.specs.declared.Signal as Signals
use Rattle.og_model.specs.declared.Expr.{Expr}
use Rattle.og_model.specs.declared.Target.{Target}
use Rattle.og_model.specs.declared.Arg.{Arg}
use Rattle.og_model.specs.declared.Arg.TheVariants.{Copy, Bind}
use Rattle.og_model.specs.declared.Formal.{Formal}
use Rattle.og_model.specs.declared.Span.{Span}
use Rattle.og_model.specs.declared.Branch.{Branch, out-Branch}
use Rattle.og_model.specs.declared.Step.{Step}
use Rattle.og_model.specs.declared.Block.{Block, out-Block, size-Block}
use Rattle.og_model.specs.declared.Action.{Action, Action-F, out-Action}
use Rattle.og_model.specs.declared.Action.TheOpen.{Nothing, Assign, Output, SetTimer, ResetTimer, Append, Call, Decide}
use Rattle.og_model.specs.declared.Ending.{Ending}
use Rattle.og_model.specs.declared.EndKind.{EndKind}
use Rattle.og_model.specs.declared.EndKind.TheVariants as EndKinds
use Rattle.og_model.specs.declared.Body.{Body}
use Rattle.og_model.specs.declared.Proc.{Proc}
use Rattle.og_model.specs.declared.Model.{Model}
use Rattle.og_model.specs.Expressions.{Passed, Copied, Shared, Store, Frame, location_of, no_frame, write, put, number_of, items_of, on_value, walk, eval, sort_at, fits}
use Rattle.og_model.specs.Shown as Shown
use Rattle.og_model.specs.Units.{Stop, Doing, ends, gives, runs_out, showing, then_do, spend, or_fault, storing, timing}

-- ---- pieces of blocks

-- the steps that are left of a block, with the terminator of the block
pub record Piece : Type 0 where
  pub steps : List Step
  pub end : Option Ending

abbrev pub Remainder : Type 0
Remainder = List Piece

abbrev pub piece_of : Block → Piece
piece_of block = record { steps = (out-Block block).steps; end = (out-Block block).end }

-- what a remainder begins with
pub data Front : Type 0 where
  Nowhere : Front
  Begins : (step : Step) (rest : Remainder) → Front
  Ends : (ending : Ending) → Front

-- an empty piece without a terminator is dropped, and costs nothing
abbrev pub front_of : List Step → Option Ending → Remainder → Front → Front
front_of [] None rest later = later
front_of [] (Some e) rest later = Ends e
front_of (x ∷ xs) end rest later = Begins x (record { steps = xs; end = end } ∷ rest)

abbrev pub front : Remainder → Front
front [] = Nowhere
front (p ∷ ps) = front_of p.steps p.end ps (front ps)

-- ---- labels

abbrev pub is_name : NameId → Option NameId → Bool
is_name l (Some m) = nat_eq l.0 m.0
is_name l None = false

abbrev pub Tails : Type 0
Tails = Block → Option Remainder

-- what was found inside a branch, followed by what follows the decision
abbrev pub followed_by : Piece → Option Remainder → Option Remainder
followed_by later rest = option_map (λ (ps : Remainder). ps ++ later ∷ []) rest

abbrev pub tail_of_branches : Tails → Piece → List Branch → Option Block → Option Remainder
tail_of_branches inner later [] None = None
tail_of_branches inner later [] (Some block) = followed_by later (inner block)
tail_of_branches inner later (x ∷ xs) other =
    option_or (followed_by later (inner (out-Branch x).block)) (tail_of_branches inner later xs other)

abbrev pub tail_of_action : Tails → Piece → Action-F Action Block Branch Step → Option Remainder
tail_of_action inner later (Decide question branches other) = tail_of_branches inner later branches other
tail_of_action inner later _ = None

abbrev pub tail_of_end : NameId → Option Ending → Option Remainder
tail_of_end l None = None
tail_of_end l (Some e) = cond (is_name l e.label) (Some (record { steps = []; end = Some e } ∷ [])) None

-- from the label in these steps, or before their terminator
abbrev pub tail_of_steps : Tails → NameId → List Step → Option Ending → Option Remainder
tail_of_steps inner l [] end = tail_of_end l end
tail_of_steps inner l (x ∷ xs) end =
    cond (is_name l x.label) (Some (record { steps = x ∷ xs; end = end } ∷ []))
    (option_or (tail_of_action inner (record { steps = xs; end = end }) (out-Action x.action)) (tail_of_steps inner l xs end))

-- from the label in a block of at most this depth
abbrev pub tail_within : ℕ → NameId → Block → Option Remainder
tail_within zero l block = None
tail_within (suc depth) l block = tail_of_steps (tail_within depth l) l (out-Block block).steps (out-Block block).end

-- from the label in a block
unfoldable pub tail_in : NameId → Block → Option Remainder
tail_in l block = tail_within (size-Block block) l block

abbrev pub tail_of_body : NameId → Body → Option Remainder
tail_of_body l body = cond (is_name l body.label) (Some (piece_of body.block ∷ [])) (tail_in l body.block)

-- from the label to the end of its block, then what follows each decision around it, outward
abbrev pub tail : List Body → NameId → Option Remainder
tail [] l = None
tail (x ∷ xs) l = option_or (tail_of_body l x) (tail xs l)

-- ---- in which surroundings a body runs

-- the bodies whose labels can be joined, the variables of the procedure that runs, the type of its result, and where
-- its variables stand
pub record Setting : Type 0 where
  pub bodies : List Body
  pub locals : List Variable
  pub result : Option TypeId
  pub frame : Frame

-- outside all procedures
abbrev pub in_scope : List Body → Setting
in_scope bodies = record { bodies = bodies; locals = []; result = None; frame = no_frame }

-- how a body ends: with a state of its scope and the entry point there, with a dash, or with a return
pub data Ended : Type 0 where
  Next : (state : ℕ) (entry : Option NameId) → Ended
  Dash : Ended
  Return : (exit : Option NameId) (value : Option Value) → Ended

-- how the rest is carried out
abbrev pub Going : Type 0
Going = Setting → Remainder → Doing Ended

-- goes on where a place was found
abbrev pub going_at : Going → Setting → Option Remainder → Doing Ended
going_at go b (Some rest) = go b rest
going_at go b None = runs_out

-- ---- values

abbrev pub sort_of : Model → Setting → VarId → Option TypeId
sort_of M b (Process n) = option_map (λ (x : Variable). x.sort) (slice_get M.variables n)
sort_of M b (Local n) = option_map (λ (x : Variable). x.sort) (slice_get b.locals n)

-- the value, where it is one of the type
abbrev pub tested : Model → Option TypeId → Value → Result Value FaultKind
tested M sort v = cond (fits M.types sort v) (Ok v) (Err Kind.Range)

abbrev pub eval_tested : Model → Setting → Store → TypeId → Expr → Result Value FaultKind
eval_tested M b s sort e = on_value (eval b.frame s e) (λ v. tested M (Some sort) v)

-- each value is evaluated and tested before the next
abbrev pub values_of : Model → Setting → Store → List TypeId → List Expr → Result (List Value) FaultKind
values_of M b s (t ∷ ts) (e ∷ es) =
    on_value (eval_tested M b s t e) (λ v. on_value (values_of M b s ts es) (λ vs. Ok (v ∷ vs)))
values_of M b s _ _ = Ok []

abbrev pub sorts_in : Option Signals.Signal → List TypeId
sorts_in (Some x) = x.sorts
sorts_in None = []

-- the types of a signal's parameters
abbrev pub sorts_of : Model → ℕ → List TypeId
sorts_of M k = sorts_in (slice_get M.signals k)

-- ---- assignments, and items at the end

-- the place is found, then the value is evaluated, and its type is tested last
abbrev pub assigned : Model → Setting → Store → Target → Expr → Result Store FaultKind
assigned M b s target e =
    on_value (walk b.frame s target) (λ w.
    on_value (eval b.frame s e) (λ v.
    on_value (tested M (sort_at M.types (sort_of M b target.variable) w.hops) v) (λ v.
    Ok (put s (location_of b.frame target.variable) w.hops v))))

-- the type of the items, where a sequence of this length has room for one more
abbrev pub room_in : Option Sort → ℕ → Result TypeId FaultKind
room_in (Some (Sorts.SeqOf lo hi item)) len = cond (nat_lt len hi) (Ok item) (Err Kind.Size)
room_in _ len = Err Kind.Size

abbrev pub sort_in : List Sort → Option TypeId → Option Sort
sort_in types (Some id) = slice_get types id.0
sort_in types None = None

-- the place is found and the value is evaluated, then the room is tested, and then the type of an item
abbrev pub appended : Model → Setting → Store → Target → Expr → Result Store FaultKind
appended M b s target e =
    on_value (walk b.frame s target) (λ w.
    on_value (eval b.frame s e) (λ v.
    on_value (room_in (sort_in M.types (sort_at M.types (sort_of M b target.variable) w.hops)) (length (items_of w.value))) (λ item.
    on_value (tested M (Some item) v) (λ v.
    Ok (put s (location_of b.frame target.variable) w.hops (Values.SeqOf (items_of w.value ++ v ∷ [])))))))

-- ---- timers

-- a timer's duration lies between 0 and 2147483647
abbrev pub duration_of : Value → Result ℤ FaultKind
duration_of v = cond (is_between (pos 0) (pos 2147483647) (number_of v)) (Ok (number_of v)) (Err Kind.Range)

-- ---- decisions

-- the number is one of an answer
abbrev pub holds : ℤ → Span → Bool
holds z span = is_between span.lo span.hi z

-- the first branch of which an answer has the number, else the ELSE block
abbrev pub branch_for : ℤ → List Branch → Option Block → Option Block
branch_for z [] other = other
branch_for z (x ∷ xs) other =
    cond (list_any (holds z) (out-Branch x).answers) (Some (out-Branch x).block) (branch_for z xs other)

-- the block of a branch stands before what follows the decision
abbrev pub in_front : Option Block → Remainder → Remainder
in_front (Some block) rest = piece_of block ∷ rest
in_front None rest = rest

-- ---- calls

-- an argument: a value is evaluated and tested, a variable gives its location
abbrev pub passed_by : Model → Setting → Store → Formal → Arg → Result Passed FaultKind
passed_by M b s formal (Copy e) = on_value (eval_tested M b s formal.sort e) (λ v. Ok (Copied v))
passed_by M b s formal (Bind x) = Ok (Shared (location_of b.frame x))

-- the arguments from left to right
abbrev pub passed_to : Model → Setting → Store → List Formal → List Arg → Result (List Passed) FaultKind
passed_to M b s (f ∷ fs) (x ∷ xs) =
    on_value (passed_by M b s f x) (λ p. on_value (passed_to M b s fs xs) (λ ps. Ok (p ∷ ps)))
passed_to M b s _ _ = Ok []

-- the variables of a call: copies for the IN parameters, then the initial values. What stands for an IN/OUT parameter is
-- never looked at
abbrev pub own_values : List Passed → List Variable → List Value
own_values ps [] = []
own_values [] (x ∷ xs) = x.initial ∷ own_values [] xs
own_values (Copied v ∷ ps) (x ∷ xs) = v ∷ own_values ps xs
own_values (Shared l ∷ ps) (x ∷ xs) = x.initial ∷ own_values ps xs

abbrev pub with_call : List Value → Store → Store
with_call vs s = record s { calls = s.calls ++ vs ∷ [] }

-- the store with the calls below this number alone
abbrev pub calls_below : ℕ → Store → Store
calls_below n s = record s { calls = take n s.calls }

abbrev pub start_of : List Body → Option Remainder
start_of [] = None
start_of (x ∷ xs) = Some (piece_of x.block ∷ [])

-- a procedure ends with a return, and with its call its variables are gone
abbrev pub returned : ℕ → Ended → Doing (Option Value)
returned call (Return exit v) n s = gives v n (record s { store = calls_below call s.store })
returned call (Next k entry) n s = runs_out n s
returned call Dash n s = runs_out n s

abbrev pub setting_of : Proc → ℕ → List Passed → Setting
setting_of p call ps =
    record { bodies = p.bodies; locals = p.locals; result = p.result; frame = record { call = call; passed = ps } }

-- the procedure's first body runs with variables of its own, up to its return
abbrev pub called_with : Going → Option Proc → List Passed → Doing (Option Value)
called_with go None ps n s = runs_out n s
called_with go (Some p) ps n s =
    then_do (storing (with_call (own_values ps p.locals) s.store)
    (going_at go (setting_of p (length s.store.calls) ps) (start_of p.bodies)))
    (returned (length s.store.calls)) n s

abbrev pub called : Going → Model → ℕ → List Passed → Doing (Option Value)
called go M p ps = called_with go (slice_get M.procs p) ps

abbrev pub formals_in : Option Proc → List Formal
formals_in (Some p) = p.formals
formals_in None = []

abbrev pub formals_of : Model → ℕ → List Formal
formals_of M p = formals_in (slice_get M.procs p)

-- a result is tested against the variable that receives it
abbrev pub received : Model → Setting → Store → VarId → Value → Result Store FaultKind
received M b s x v = on_value (tested M (sort_of M b x) v) (λ v. Ok (write s (location_of b.frame x) v))

-- what follows a call
abbrev pub receiving : Model → Setting → Place → Option VarId → Doing Ended → Option Value → Doing Ended
receiving M b place None next v n s = next n s
receiving M b place (Some x) next (Some v) n s = or_fault place (received M b s.store x v) (λ store. storing store next) n s
receiving M b place (Some x) next None n s = runs_out n s

-- ---- one unit

-- an action, and then the rest. The place is the one that a fault of it has
abbrev pub act_on : Going → Model → Setting → Place → Remainder → Action-F Action Block Branch Step → Doing Ended
act_on go M b place rest Nothing n s = go b rest n s
act_on go M b place rest (Assign target e) n s =
    or_fault place (assigned M b s.store target e) (λ store. storing store (go b rest)) n s
act_on go M b place rest (Output k es) n s =
    or_fault place (values_of M b s.store (sorts_of M k) es) (λ vs. showing (Shown.Output k vs) (go b rest)) n s
act_on go M b place rest (SetTimer t e) n s =
    or_fault place (on_value (eval b.frame s.store e) duration_of) (λ d.
    showing (Shown.Set t d) (timing (slice_set s.timers t true) (go b rest))) n s
act_on go M b place rest (ResetTimer t) n s = showing (Shown.Reset t) (timing (slice_set s.timers t false) (go b rest)) n s
act_on go M b place rest (Append target e) n s =
    or_fault place (appended M b s.store target e) (λ store. storing store (go b rest)) n s
act_on go M b place rest (Call p args x) n s =
    or_fault place (passed_to M b s.store (formals_of M p) args) (λ ps.
    then_do (called go M p ps) (receiving M b place x (go b rest))) n s
act_on go M b place rest (Decide question branches other) n s =
    or_fault place (eval b.frame s.store question) (λ v.
    go b (in_front (branch_for (number_of v) branches other) rest)) n s

-- a terminator. The result of a procedure is tested against its type here
abbrev pub end_with : Going → Model → Setting → Place → EndKind → Doing Ended
end_with go M b place (EndKinds.Next k entry) n s = gives (Next k entry) n s
end_with go M b place EndKinds.Dash n s = gives Dash n s
end_with go M b place (EndKinds.Join l) n s = going_at go b (tail b.bodies l) n s
end_with go M b place (EndKinds.Return exit None) n s = gives (Return exit None) n s
end_with go M b place (EndKinds.Return exit (Some e)) n s =
    or_fault place (on_value (eval b.frame s.store e) (tested M b.result)) (λ v. gives (Return exit (Some v))) n s
end_with go M b place EndKinds.Stop n s = ends Stop n s

abbrev pub act : Going → Model → Setting → Front → Doing Ended
act go M b Nowhere = runs_out
act go M b (Begins x rest) = spend (act_on go M b x.place rest (out-Action x.action))
act go M b (Ends e) = spend (end_with go M b e.place e.kind)

-- carries out a remainder, where the units are at most the fuel
abbrev pub run : ℕ → Model → Going
run zero M b rest = runs_out
run (suc fuel) M b rest = act (run fuel M) M b (front rest)

-- carries out a remainder with the units that are there
abbrev pub perform : Model → Going
perform M b rest n s = run n M b rest n s
