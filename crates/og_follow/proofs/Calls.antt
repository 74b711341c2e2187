-- A call: the body of a procedure is carried out as part of its caller's transition, with variables of its own.
use Rattle.std.proofs.Common.{◌≡◌, ℕ, zero, suc, List, Option, Some, None, Ok, Err, inl, inr, sym, subst, arith}
use Rattle.og_base.specs.declared.Place.{Place}
use Rattle.og_types.specs.declared.Value.{Value}
use Rattle.og_model.specs.declared.FaultKind.{FaultKind}
use Rattle.og_model.specs.declared.Model.{Model}
use Rattle.og_model.specs.declared.Proc.{Proc}
use Rattle.og_model.specs.declared.VarId.{VarId}
use Rattle.og_model.specs.declared.Action.TheOpen.{Call}
use Rattle.og_model.specs.Expressions.{Passed}
use Rattle.og_model.specs.Units.{State, Outcome, Done, Fault, Out, gives, then_do, or_fault}
use Rattle.og_model.specs.Actions.{Setting, Remainder, Going, Ended, Next, Dash, Return, going_at, start_of, returned, setting_of, called, called_with, formals_of, passed_to, receiving, act_on, run}
use Rattle.og_ir.specs.Steps.{Config}
use Rattle.og_follow.specs.Carrying.{Code, Standing, in_state, Exits, Among, Ways, becoming, Carried, CarriesOut, no_places, one_then, CanFollow, Narrower}
use Rattle.og_follow.specs.Trials.{in_call, behind_call, CarriesCall, CallsItself}
use Rattle.og_follow.proofs.Carrying.{ends_at_once, runs_out_at_once, never_begins, one_then_other, or_faults, by_state_of, becomes, as_wider}

pub same_way : (P : Ways) → Narrower (one_then P no_places) P
same_way P = record { head = head; near = near; tail = tail; least = omega (arith) }
  where
    head : Among (one_then P no_places).head P.head
    head f p (inl x) = x
    head f p (inr y) = absurd y.1

    near : Among (one_then P no_places).near P.near
    near f p (inl x) = x
    near f p (inr (inl y)) = absurd y.1
    near f p (inr (inr y)) = absurd y.1

    tail : Among (one_then P no_places).tail P.tail
    tail f p (inl x) = x
    tail f p (inr (inl y)) = absurd y
    tail f p (inr (inr y)) = absurd y

pub then_nothing : (P : Ways) → CanFollow P no_places
then_nothing P = record {
  tail = λ f p x y. x;
  head = λ few f p x y. x;
  near = λ few f p x y. x;
  both = λ none f p x y. x;
}

module _ (code : Code) (fuel : ℕ) (go : Going) (p : Proc) (ps : List Passed) (k : ℕ) (before inside : Standing) (mid : Exits Ended) (after : Exits (Option Value)) (P : Ways) (is : CarriesCall code fuel go p ps k before inside mid after P) where
  -- what follows the body
  back : (e : Ended) → CarriesOut code fuel (returned k e) (mid (Done e)) after no_places
  back (Return exit v) =
      becomes code fuel (behind_call k) (gives v) (mid (Done (Return exit v))) (after (Done v)) after no_places (λ s now at. is.returns exit v s now at)
      (ends_at_once code fuel (Done v) (after (Done v)) after no_places (λ e. done≢out e) (omega (arith)) (λ s now at. at))
    where
      is_done : Outcome (Option Value) → Type 0
      is_done Out = ⊥
      is_done o = Unit {0}

      done≢out : Done v ≡ Out → ⊥
      done≢out e = subst is_done e tt
  back (Next j entry) = never_begins code fuel (returned k (Next j entry)) (mid (Done (Next j entry))) after no_places (is.no_state j entry)
  back Dash = never_begins code fuel (returned k Dash) (mid (Done Dash)) after no_places is.no_dash

  whole : CarriesOut code fuel (then_do (becoming (in_call p ps) (going_at go (setting_of p k ps) (start_of p.bodies))) (returned k)) before after P
  whole =
      as_wider code fuel fuel (then_do (becoming (in_call p ps) (going_at go (setting_of p k ps) (start_of p.bodies))) (returned k)) before before after after (one_then P no_places) P (omega (arith)) (λ s now at. at) (λ o s now at. at) (same_way P)
      (one_then_other code fuel (becoming (in_call p ps) (going_at go (setting_of p k ps) (start_of p.bodies))) (returned k) before mid after P no_places
      (becomes code fuel (in_call p ps) (going_at go (setting_of p k ps) (start_of p.bodies)) before inside mid P is.begins is.body)
      back is.ends (then_nothing P))

  pub call_carried : CarriesOut code fuel (called_with go (Some p) ps) before after P
  call_carried = record {
    carries = λ first from n s le follows at fits.
        subst (λ j. Carried code first from n (then_do (becoming (in_call p ps) (going_at go (setting_of p j ps) (start_of p.bodies))) (returned j) n s) after P) (sym (is.depth s from.now at))
        (whole.carries first from n s le follows at fits);
  }

-- ---- a procedure that calls itself

module _ (code : Code) (M : Model) (p : Proc) (calling inside : ℕ → List Passed → Standing) (mid : ℕ → List Passed → Exits Ended) (after : ℕ → List Passed → Exits (Option Value)) (P : Ways) (is : CallsItself code M p calling inside mid after P) where
  -- one call, where its body is carried out
  one_call : (fuel : ℕ) (go : Going) (k : ℕ) (ps : List Passed) → CarriesOut code fuel (going_at go (setting_of p k ps) (start_of p.bodies)) (inside k ps) (mid k ps) P → CarriesOut code fuel (called_with go (Some p) ps) (calling k ps) (after k ps) P
  one_call fuel go k ps body = call_carried code fuel go p ps k (calling k ps) (inside k ps) (mid k ps) (after k ps) P (record {
    depth = is.depth k ps;
    begins = is.begins k ps;
    body = body;
    returns = is.returns k ps;
    no_state = is.no_state k ps;
    no_dash = is.no_dash k ps;
    ends = is.ends k ps;
  })

  -- without units nothing of the body is done
  no_body : (k : ℕ) (ps : List Passed) (o : Option Remainder) → CarriesOut code 0 (going_at (run 0 M) (setting_of p k ps) o) (inside k ps) (mid k ps) P
  no_body k ps None = runs_out_at_once code (inside k ps) (mid k ps) P (is.runs k ps)
  no_body k ps (Some rest) = runs_out_at_once code (inside k ps) (mid k ps) P (is.runs k ps)

  pub calls_itself : (fuel k : ℕ) (ps : List Passed) → CarriesOut code fuel (called_with (run fuel M) (Some p) ps) (calling k ps) (after k ps) P
  calls_itself zero k ps = one_call 0 (run 0 M) k ps (no_body k ps (start_of p.bodies))
  calls_itself (suc fuel) k ps = one_call (suc fuel) (run (suc fuel) M) k ps (is.body fuel k ps (calls_itself fuel))

-- the action: its arguments, the call, and what follows it
pub call_action : (code : Code) (fuel : ℕ) (go : Going) (M : Model) (b : Setting) (place : Place) (rest : Remainder) (p : ℕ) (args : _) (x : Option VarId) (before : Standing) (after : Exits Ended) (P : Ways)
    → ((s : State) (ps : List Passed) → passed_to M b s.store (formals_of M p) args ≡ Ok ps → CarriesOut code fuel (then_do (called go M p ps) (receiving M b place x (go b rest))) (in_state s before) after P)
    → ((s : State) (kind : FaultKind) → passed_to M b s.store (formals_of M p) args ≡ Err kind → (now : Config) → before s now → after (Fault kind place) s now)
    → CarriesOut code fuel (act_on go M b place rest (Call p args x)) before after P
call_action code fuel go M b place rest p args x before after P goes faults =
    by_state_of code fuel (λ s. or_fault place (passed_to M b s.store (formals_of M p) args) (λ ps. then_do (called go M p ps) (receiving M b place x (go b rest)))) before after P
    (λ s. or_faults code fuel place (passed_to M b s.store (formals_of M p) args) (λ ps. then_do (called go M p ps) (receiving M b place x (go b rest))) (in_state s before) after P
    (λ ps is. goes s ps is)
    (λ kind is t now at. subst (λ u. after (Fault kind place) u now) (sym at.0) (faults s kind is now (subst (λ u. before u now) at.0 at.1))))
