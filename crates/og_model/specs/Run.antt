-- What a model shows when it is run: first the start, and then one stimulus after the other, each run to rest and each
-- with n units of its own (Z.101 sections 11.1 to 11.3, 11.8 and 11.15). The order of the stimuli and the time at which a
-- timer expires come from outside, as a list. Departing from Z.100, a signal that has no handler is discarded at once,
-- an expiry of a timer that is not active is discarded, and a fault or a want of units ends the run.
use Rattle.std.specs.Prelude.{ℕ, Bool, true, false, List, [], ◌∷◌, map, get_or, slice_set, Option, Some, None}
use Rattle.og_types.specs.declared.Value.{Value}
use Rattle.og_model.specs.declared.Variable.{Variable}
use Rattle.og_model.specs.declared.VarId.{VarId}
use Rattle.og_model.specs.declared.Trigger.{Trigger}
use Rattle.og_model.specs.declared.Trigger.TheVariants as Triggers
use Rattle.og_names.specs.declared.NameId.{NameId}
use Rattle.og_model.specs.declared.Model.{Model}
use Rattle.og_model.specs.Shown as Shows
use Rattle.og_model.specs.Shown.{Shown, Stimulus, Signal, Expiry, End}
use Rattle.og_model.specs.Units.{State, Outcome, Done, Stop, Fault, Out, Ran, Doing, gives, then_do, timing}
use Rattle.og_model.specs.Configuration.{Active, paths_of}
use Rattle.og_model.specs.Choice.{Found, handler_of}
use Rattle.og_model.specs.Moving.{enter, started, assign_values, at_root, fire}
use Rattle.og_model.specs.Settling.{settle}

-- ---- the start and one stimulus

-- each variable has its initial value, and no timer is active
abbrev pub first_state : Model → State
first_state M =
    record { store = record { variables = map (λ (x : Variable). x.initial) M.variables; calls = [] }; timers = map (λ (t : NameId). false) M.timers }

-- the unnamed start of the process
abbrev pub start : Model → Doing Active
start M = then_do (then_do (started M (enter M) M.root None) at_root) (settle M)

-- the variables of an input; any other trigger has none
abbrev pub variables_of : Trigger → List VarId
variables_of (Triggers.Input signal into) = into
variables_of _ = []

-- the values are assigned before anything is left; without a handler nothing is done
abbrev pub handled : Model → Active → List Value → Option Found → Doing Active
handled M a values None = gives a
handled M a values (Some x) =
    then_do (assign_values M x.handler.place (variables_of x.handler.trigger) values) (λ done.
    fire M x.address x.handler.body a)

abbrev pub expired : Model → Active → ℕ → Bool → Doing Active
expired M a t true n s = timing (slice_set s.timers t false) (handled M a [] (handler_of (Expiry t) M.root a)) n s
expired M a t false n s = gives a n s

-- an expiry of a timer that is not active is discarded, and any other makes it inactive first
abbrev pub taken : Model → Active → Stimulus → Doing Active
taken M a (Signal k values) n s = handled M a values (handler_of (Signal k values) M.root a) n s
taken M a (Expiry t) n s = expired M a t (get_or s.timers t false) n s

-- one stimulus, run to rest
abbrev pub step : Model → Active → Stimulus → Doing Active
step M a x = then_do (taken M a x) (settle M)

-- ---- what is shown

abbrev pub end_of : Model → State → Outcome Active → End
end_of M s (Done a) = Shows.Rest (paths_of M.root a) s.store.variables s.timers
end_of M s Stop = Shows.Stopped s.store.variables
end_of M s (Fault kind place) = Shows.Fault kind place s.store.variables s.timers
end_of M s Out = Shows.Past

abbrev pub shown : Model → Ran Active → Shown
shown M r = record { events = r.events; end = end_of M r.state r.outcome }

-- a process that has stopped takes nothing more
abbrev pub shown_stopped : State → Stimulus → Shown
shown_stopped s x = record { events = []; end = Shows.Stopped s.store.variables }

-- the next stimuli, where the process is at rest; nothing where it failed or ran out of units
abbrev pub follow : Model → ℕ → State → Outcome Active → List Stimulus → List Shown
follow M n s (Done a) [] = []
follow M n s (Done a) (x ∷ xs) =
    let r = step M a x n s in shown M r ∷ follow M n r.state r.outcome xs
follow M n s Stop xs = map (shown_stopped s) xs
follow M n s (Fault kind place) xs = []
follow M n s Out xs = []

-- what the model shows for the start and for each stimulus, with n units for each of them
unfoldable pub sdl : Model → List Stimulus → ℕ → List Shown
sdl M list n = let r = start M n (first_state M) in shown M r ∷ follow M n r.state r.outcome list
