-- Timers (Z.101 section 11.15; here a timer is set with a duration, and its expiry comes from outside): an expiry of a timer
-- that is not active is discarded, and any other one makes the timer inactive first.
use Rattle.std.specs.Prelude.{ℕ, List, [], ◌∷◌, pos, true, false}
use Rattle.og_model.specs.declared.Model.{Model}
use Rattle.og_model.specs.declared.Step.{Step}
use Rattle.og_model.specs.declared.Expr.{Expr}
use Rattle.og_model.specs.declared.Action as Actions
use Rattle.og_model.specs.declared.EndKind.TheVariants as Ends
use Rattle.og_model.specs.declared.FaultKind.TheVariants as Faults
use Rattle.og_model.specs.Shown.{Shown, Stimulus, Event}
use Rattle.og_model.specs.Shown as Shows
use Rattle.og_model_examples.specs.Words.{at, somewhere, name_idle, name_t, name_d, type_big, whole, declared, literal, number, step, set, send_done, basic, scope, body, next, input, expiry, model_with, go, go_next, sent_done, rests, faults, idle}

abbrev pub set_timer : Expr → Step
set_timer e = step (at 7 35) (Actions.SetTimer 0 e)

abbrev pub reset_timer : Step
reset_timer = step somewhere (Actions.ResetTimer 0)

-- TIMER t;
-- DCL d Big := 500;
-- START; CALL set_timer(100, t); CALL set_timer(d, t); NEXTSTATE idle;
-- STATE idle; INPUT go; CALL reset_timer(t); NEXTSTATE -;
-- INPUT t; OUTPUT done; CALL set_timer(d, t); CALL reset_timer(t); NEXTSTATE -;
-- INPUT next; TASK d := 2147483648; CALL set_timer(d, t); NEXTSTATE -; ENDSTATE;
abbrev pub timing : Model
timing = model_with (name_t ∷ []) (declared name_d type_big (whole 500) ∷ []) []
    (scope (basic name_idle (input 0 1 ∷ expiry 0 2 ∷ input 1 3 ∷ []) ∷ [])
    (body (set_timer (literal 100) ∷ set_timer (number 0) ∷ []) (next 0)
    ∷ body (reset_timer ∷ []) Ends.Dash
    ∷ body (send_done ∷ set_timer (number 0) ∷ reset_timer ∷ []) Ends.Dash
    ∷ body (set (at 7 18) 0 (literal 2147483648) ∷ set_timer (number 0) ∷ []) Ends.Dash ∷ []))

abbrev pub expires : Stimulus
expires = Shows.Expiry 0

abbrev pub was_set : ℕ → Event
was_set n = Shows.Set 0 (pos n)

-- the first expiry is taken, and its transition sets and resets the timer: so the second one is stale. A timer that is
-- not active can be reset, and a duration has at most 31 bits
abbrev pub timing_stimuli : List Stimulus
timing_stimuli = expires ∷ expires ∷ go ∷ go_next ∷ []

abbrev pub timing_trace : List Shown
timing_trace = rests (was_set 100 ∷ was_set 500 ∷ []) idle (whole 500 ∷ []) (true ∷ [])
    ∷ rests (sent_done ∷ was_set 500 ∷ Shows.Reset 0 ∷ []) idle (whole 500 ∷ []) (false ∷ [])
    ∷ rests [] idle (whole 500 ∷ []) (false ∷ [])
    ∷ rests (Shows.Reset 0 ∷ []) idle (whole 500 ∷ []) (false ∷ [])
    ∷ faults [] Faults.Range (at 7 35) (whole 2147483648 ∷ []) (false ∷ []) ∷ []

-- TIMER t;
-- START; CALL set_timer(5, t); NEXTSTATE idle;
-- STATE idle; ENDSTATE;
abbrev pub without_handler : Model
without_handler = model_with (name_t ∷ []) [] [] (scope (basic name_idle [] ∷ []) (body (set_timer (literal 5) ∷ []) (next 0) ∷ []))

-- no state takes the expiry, and the timer is no longer active
abbrev pub without_handler_trace : List Shown
without_handler_trace = rests (was_set 5 ∷ []) idle [] (true ∷ []) ∷ rests [] idle [] (false ∷ []) ∷ []
