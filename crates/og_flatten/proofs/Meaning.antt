-- The meaning of a model of basic states, unit by unit.
use Rattle.std.proofs.Common.{◌≡◌, ℕ, zero, suc, Bool, true, false, cond, if◌then◌else◌, List, [], ◌∷◌, ◌++◌, slice_get, find, Option, Some, None, Ok, refl, ap, ◌∙◌}
use Rattle.std.specs.Option.{option_map, option_or}
use Rattle.std.specs.List.{list_all}
use Rattle.std.proofs.lemmas.Bool.{false≢true}
use Rattle.og_base.specs.declared.Place.{Place}
use Rattle.og_types.specs.declared.TypeId.{TypeId}
use Rattle.og_types.specs.declared.Value.{Value}
use Rattle.og_model.specs.declared.Model.{Model}
use Rattle.og_model.specs.declared.Body.{Body}
use Rattle.og_model.specs.declared.Step.{Step}
use Rattle.og_model.specs.declared.Ending.{Ending}
use Rattle.og_model.specs.declared.EndKind.TheVariants as Ends
use Rattle.og_model.specs.declared.Handler.{Handler}
use Rattle.og_model.specs.declared.Trigger.{Trigger}
use Rattle.og_model.specs.declared.Trigger.TheVariants as Triggers
use Rattle.og_model.specs.declared.Start.{Start}
use Rattle.og_model.specs.declared.StateDef.{StateDef}
use Rattle.og_model.specs.declared.StateKind.TheOpen as Kinds
use Rattle.og_model.specs.Shown as Shows
use Rattle.og_model.specs.Shown.{Event}
use Rattle.og_model.specs.Units.{State, Ran, Doing, gives, runs_out, go_on, then_do, spend, or_fault, showing}
use Rattle.og_model.specs.Forms.{is_plain_trigger}
use Rattle.og_model.specs.Actions.{Setting, Remainder, Next, in_scope, going_at, values_of, sorts_of, act_on, end_with, run, perform}
use Rattle.og_model.specs.Configuration.{Active, At, Basic, kind_of, state_at, kind_at, paths_of, paths_under, paths_inside}
use Rattle.og_model.specs.Choice.{Here, Found, meets, own_handler, found_in, handler_inside, handler_of}
use Rattle.og_model.specs.Moving.{In, out_of, leave, hook, exit_of, transition, same_point, start_named, after, assign_values, enter_kind, enter_by, enter, at_root, fire}
use Rattle.og_model.specs.Settling.{provided_by, own_continuous, continuous_at, continuous_inside, continuous_of, ordered, first_of, settle_by, settle}
use Rattle.og_model.specs.Run.{start, step, handled, variables_of}
use Rattle.og_flatten.specs.FlatCode.{bodies_of, states_of, steps_of, end_of, is_input, handler_in}
use Rattle.og_flatten.proofs.Basic.{empty_is, StepIs, StateIs, StartIs}
use Rattle.og_names.proofs.Truths.{both_first as left_of, both_second as right_of}

-- ---- one unit of a body

abbrev pub piece : List Step → Option Ending → Remainder
piece steps end = record { steps = steps; end = end } ∷ []

values_none : (M : Model) (b : Setting) (s : _) (types : List TypeId) → values_of M b s types [] ≡ Ok []
values_none M b s [] = refl
values_none M b s (t ∷ types) = refl

-- an output costs a unit and shows its event
pub run_output : (M : Model) (b : Setting) (x : Step) (xs : List Step) (end : Option Ending) (fuel : ℕ) → (is : StepIs M x) → (n : ℕ) (s : State) → run (suc fuel) M b (piece (x ∷ xs) end) n s ≡ spend (showing (Shows.Output is.signal []) (run fuel M b (piece xs end))) n s
run_output M b x xs end fuel is zero s = refl
run_output M b x xs end fuel is (suc n) s =
    ap (λ a. act_on (run fuel M) M b x.place (piece xs end) a n s) is.is
    ∙ ap (λ v. or_fault x.place v (λ vs. showing (Shows.Output is.signal vs) (run fuel M b (piece xs end))) n s) (values_none M b s.store (sorts_of M is.signal))

-- NEXTSTATE costs one and ends the body
pub run_next : (M : Model) (b : Setting) (end : Option Ending) (e : Ending) (k fuel : ℕ) → end ≡ Some e → e.kind ≡ Ends.Next k None → (n : ℕ) (s : State) → run (suc fuel) M b (piece [] end) n s ≡ spend (gives (Next k None)) n s
run_next M b end e k fuel is next zero s = ap (λ o. run (suc fuel) M b (piece [] o) zero s) is
run_next M b end e k fuel is next (suc n) s =
    ap (λ o. run (suc fuel) M b (piece [] o) (suc n) s) is
    ∙ ap (λ kind. end_with (run fuel M) M b e.place kind n s) next

-- a body runs with the units that are there
pub transition_is : (M : Model) (body : ℕ) (b : Body) (n : ℕ) (s : State) → slice_get (bodies_of M) body ≡ Some b → transition M M.root (Some body) n s ≡ run n M (in_scope (bodies_of M)) (piece (steps_of b) (end_of b)) n s
transition_is M body b n s at =
    ap (λ o. going_at (perform M) (in_scope (bodies_of M)) (option_map (λ (x : Body). piece (steps_of x) (end_of x)) o) n s) at

-- ---- states

pub kind_is : (M : Model) (k : ℕ) (d : StateDef) → slice_get (states_of M) k ≡ Some d → StateIs M d → kind_at M.root k ≡ Some Kinds.Basic
kind_is M k d at is = ap (option_map kind_of) at ∙ ap Some is.kind

-- entering a state costs a unit
pub enter_one : (M : Model) (k : ℕ) (d : StateDef) → slice_get (states_of M) k ≡ Some d → StateIs M d → (n : ℕ) (s : State) → enter M M.root k None n s ≡ spend (gives (In (At k Basic))) n s
enter_one M k d at is zero s = refl
enter_one M k d at is (suc n) s = ap (λ kind. enter_kind M (enter_by n M) M.root k None kind n s) (kind_is M k d at is)

-- a state without continuous signals is at rest
provided_none : (place : Place) (body : ℕ) (t : Trigger) → is_plain_trigger t ≡ true → provided_by place body t ≡ None
provided_none place body (Triggers.Input signal into) plain = refl
provided_none place body (Triggers.Expiry timer) plain = absurd (false≢true plain)
provided_none place body (Triggers.Provided priority condition) plain = absurd (false≢true plain)
provided_none place body (Triggers.Connect exit) plain = absurd (false≢true plain)

none_provided : (hs : List Handler) → list_all (λ (h : Handler). is_plain_trigger h.trigger) hs ≡ true → own_continuous hs ≡ []
none_provided [] all = refl
none_provided (h ∷ hs) all =
    rw (provided_none h.place h.body h.trigger (left_of (is_plain_trigger h.trigger) _ all))
    (none_provided hs (right_of (is_plain_trigger h.trigger) _ all))

pub continuous_none : (M : Model) (k : ℕ) (d : StateDef) → slice_get (states_of M) k ≡ Some d → StateIs M d → continuous_of M.root (At k Basic) ≡ []
continuous_none M k d at is =
    ap (λ o. continuous_at o (λ kind. continuous_inside kind Basic)) at
    ∙ ap (λ xs. xs ++ continuous_inside (kind_of d) Basic) (none_provided d.handlers is.inputs)
    ∙ ap (λ kind. continuous_inside kind Basic) is.kind

settles_by : (M : Model) (a : Active) (n : ℕ) (s : State) → continuous_of M.root a ≡ [] → (fuel : ℕ) → settle_by fuel M a n s ≡ gives a n s
settles_by M a n s none zero = ap (λ xs. first_of M (λ a. runs_out) a (ordered xs) n s) none
settles_by M a n s none (suc fuel) = ap (λ xs. first_of M (settle_by fuel M) a (ordered xs) n s) none

pub settles : (M : Model) (k : ℕ) (d : StateDef) (n : ℕ) (s : State) → slice_get (states_of M) k ≡ Some d → StateIs M d → settle M (At k Basic) n s ≡ gives (At k Basic) n s
settles M k d n s at is = settles_by M (At k Basic) n s (continuous_none M k d at is) n

-- the path of a basic state is its name
pub paths_are : (M : Model) (k : ℕ) (d : StateDef) → slice_get (states_of M) k ≡ Some d → paths_of M.root (At k Basic) ≡ (d.name ∷ []) ∷ []
paths_are M k d at = ap (λ o. paths_under o (λ kind. paths_inside kind Basic)) at

-- ---- what a transition does in all, from its body to rest

abbrev pub whole : Model → Option ℕ → Option ℕ → Doing Active
whole M body origin =
    then_do (then_do (then_do (transition M M.root body) (after (enter M) M.root origin)) at_root) (settle M)

-- ---- the start

pub start_body_is : (M : Model) (is : StartIs M) → start_named M.root None ≡ Some is.start.body
start_body_is M is = ap (λ starts. option_map (λ (x : Start). x.body) (find (λ (x : Start). same_point x.entry None) starts)) is.is ∙ found is.start is.unnamed
  where
    found : (x : Start) → x.entry ≡ None → option_map (λ (x : Start). x.body) (find (λ (x : Start). same_point x.entry None) (x ∷ [])) ≡ Some x.body
    found x e = ap (λ b. option_map (λ (x : Start). x.body) (if b then Some x else find (λ (x : Start). same_point x.entry None) [])) (ap (λ o. same_point o None) e)

pub start_is_whole : (M : Model) (is : StartIs M) → start M ≡ whole M (Some is.start.body) None
start_is_whole M is = ap (λ o. whole M o None) (start_body_is M is)

-- ---- a signal

-- the first input of the signal
abbrev pub found_of : Option Handler → Option Found
found_of None = None
found_of (Some h) = Some (record { address = Here; handler = h })

meets_is : (k : ℕ) (vs : List Value) (t : Trigger) → meets (Shows.Signal k vs) t ≡ is_input k t
meets_is k vs (Triggers.Input signal into) = refl
meets_is k vs (Triggers.Expiry timer) = refl
meets_is k vs (Triggers.Provided priority condition) = refl
meets_is k vs (Triggers.Connect exit) = refl

pub own_is : (k : ℕ) (vs : List Value) (hs : List Handler) → own_handler (Shows.Signal k vs) hs ≡ found_of (handler_in k hs)
own_is k vs [] = refl
own_is k vs (h ∷ hs) =
    ap (λ b. cond b (Some (record { address = Here; handler = h })) (own_handler (Shows.Signal k vs) hs)) (meets_is k vs h.trigger)
    ∙ by_choice (is_input k h.trigger) (own_is k vs hs)
  where
    by_choice : (b : Bool) → own_handler (Shows.Signal k vs) hs ≡ found_of (handler_in k hs) → cond b (Some (record { address = Here; handler = h })) (own_handler (Shows.Signal k vs) hs) ≡ found_of (cond b (Some h) (handler_in k hs))
    by_choice true e = refl
    by_choice false e = e

pub handler_is : (M : Model) (st : ℕ) (d : StateDef) (k : ℕ) (vs : List Value) → slice_get (states_of M) st ≡ Some d → StateIs M d → handler_of (Shows.Signal k vs) M.root (At st Basic) ≡ found_of (handler_in k d.handlers)
handler_is M st d k vs at is =
    ap (λ o. found_in o (Shows.Signal k vs) (λ kind. handler_inside (Shows.Signal k vs) kind Basic)) at
    ∙ ap (λ kind. option_or (handler_inside (Shows.Signal k vs) kind Basic) (own_handler (Shows.Signal k vs) d.handlers)) is.kind
    ∙ own_is k vs d.handlers

-- a signal without a handler is discarded
pub step_discards : (M : Model) (st : ℕ) (d : StateDef) (k : ℕ) (vs : List Value) (n : ℕ) (s : State) → slice_get (states_of M) st ≡ Some d → StateIs M d → handler_in k d.handlers ≡ None → step M (At st Basic) (Shows.Signal k vs) n s ≡ gives (At st Basic) n s
step_discards M st d k vs n s at is none =
    ap (λ o. then_do (handled M (At st Basic) vs o) (settle M) n s) (handler_is M st d k vs at is ∙ ap found_of none)
    ∙ settles M st d n s at is

-- leaving a basic state does nothing
leaves : (M : Model) (st : ℕ) (d : StateDef) (n : ℕ) (s : State) → slice_get (states_of M) st ≡ Some d → StateIs M d → out_of M (state_at M.root st) (λ kind. leave M kind Basic) n s ≡ gives tt n s
leaves M st d n s at is =
    ap (λ o. out_of M o (λ kind. leave M kind Basic) n s) at
    ∙ ap (λ kind. then_do (leave M kind Basic) (λ done. hook M (exit_of kind)) n s) is.kind

no_variables : (t : Trigger) → is_plain_trigger t ≡ true → variables_of t ≡ []
no_variables (Triggers.Input signal into) plain = empty_is into plain
no_variables (Triggers.Expiry timer) plain = refl
no_variables (Triggers.Provided priority condition) plain = refl
no_variables (Triggers.Connect exit) plain = refl

-- a body after what left the state, with what follows it
abbrev from_leaving : Model → ℕ → Option ℕ → Ran (Unit {0}) → Ran Active
from_leaving M st body ran =
    let left = go_on ran.outcome ran.events ran.left ran.state (λ done. then_do (transition M M.root body) (after (enter M) M.root (Some st))) in
    let arrived = go_on left.outcome left.events left.left left.state at_root in
    go_on arrived.outcome arrived.events arrived.left arrived.state (settle M)

-- an input begins its body
pub step_takes : (M : Model) (st : ℕ) (d : StateDef) (k : ℕ) (vs : List Value) (n : ℕ) (s : State) (h : Handler) → slice_get (states_of M) st ≡ Some d → StateIs M d → handler_in k d.handlers ≡ Some h → is_plain_trigger h.trigger ≡ true → step M (At st Basic) (Shows.Signal k vs) n s ≡ whole M (Some h.body) (Some st) n s
step_takes M st d k vs n s h at is has plain =
    ap (λ o. then_do (handled M (At st Basic) vs o) (settle M) n s) (handler_is M st d k vs at is ∙ ap found_of has)
    ∙ ap (λ xs. then_do (then_do (assign_values M h.place xs vs) (λ done. fire M Here h.body (At st Basic))) (settle M) n s) (no_variables h.trigger plain)
    ∙ ap (from_leaving M st (Some h.body)) (leaves M st d n s at is)
