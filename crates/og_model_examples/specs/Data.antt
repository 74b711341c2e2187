-- Data of structured types (Z.104, with the types of X.680): sequences of items at their greatest length, an alternative
-- that a choice does not have, an index outside, and the values of an input.
use Rattle.std.specs.Prelude.{ℕ, List, [], ◌∷◌, true, None}
use Rattle.og_types.specs.declared.Value.{Value}
use Rattle.og_types.specs.declared.Value as Values
use Rattle.og_model.specs.declared.Model.{Model}
use Rattle.og_model.specs.declared.Handler.{Handler}
use Rattle.og_model.specs.declared.Trigger.TheVariants as Triggers
use Rattle.og_model.specs.declared.VarId.TheVariants as Vars
use Rattle.og_model.specs.declared.Step.{Step}
use Rattle.og_base.specs.declared.Place.{Place}
use Rattle.og_model.specs.declared.Action as Actions
use Rattle.og_model.specs.declared.EndKind.TheVariants as Ends
use Rattle.og_model.specs.declared.ExprSort.TheVariants as ExprSorts
use Rattle.og_model.specs.declared.Node as Nodes
use Rattle.og_model.specs.declared.Select.{Select}
use Rattle.og_model.specs.declared.Select as Selects
use Rattle.og_model.specs.declared.Target.{Target}
use Rattle.og_model.specs.declared.FaultKind.TheVariants as Faults
use Rattle.og_model.specs.Shown.{Shown, Stimulus}
use Rattle.og_model_examples.specs.Words.{at, name_idle, name_l, name_c, name_k, name_x, type_small, type_byte, type_kind, type_list, type_pick, whole, wholes, plain, expression, literal, constant, number, number_at, variable, step, set, basic, scope, from_first, body, next, input, handler, open_block, branch, send, sent, model_with, go_a, rests, faults, idle}

-- a place inside a variable
abbrev pub inside : ℕ → Select → Target
inside n selector = record { variable = Vars.Process n; path = selector ∷ [] }

-- CALL append(l, e)
abbrev pub append : Place → ℕ → Step
append place n = step place (Actions.Append (variable 0) (literal n))

-- INPUT a(x), for a variable of the process
abbrev pub input_a : Place → ℕ → ℕ → Handler
input_a place x n = handler place (Triggers.Input 3 (Vars.Process x ∷ [])) n

-- DCL l List, c Pick, k Kind, x Small;
-- START; CALL append(l, 4); CALL append(l, 5); TASK c := two: TRUE, k := high; NEXTSTATE idle;
-- STATE idle; INPUT go; TASK x := l(1); NEXTSTATE -;
-- INPUT next; CALL append(l, 6); NEXTSTATE -;
-- INPUT done; TASK x := c.one; NEXTSTATE -;
-- INPUT a(x); TASK x := l(x); NEXTSTATE -; ENDSTATE;
abbrev pub structured : Model
structured = model_with [] (plain name_l type_list ∷ plain name_c type_pick ∷ plain name_k type_kind ∷ plain name_x type_small ∷ []) []
    (scope (basic name_idle (input 0 1 ∷ input 1 2 ∷ input 2 3 ∷ input_a (at 7 7) 3 4 ∷ []) ∷ [])
    (body
    (append (at 3 8) 4 ∷ append (at 3 27) 5
    ∷ set (at 3 51) 1 (expression (ExprSorts.Typed type_pick) (Nodes.Choice 1 (constant true)))
    ∷ set (at 3 67) 2 (expression (ExprSorts.Typed type_kind) (Nodes.Item 2)) ∷ []) (next 0)
    ∷ body (set (at 4 28) 3 (number_at (inside 0 (Selects.At (literal 1)))) ∷ []) Ends.Dash
    ∷ body (append (at 5 13) 6 ∷ []) Ends.Dash
    ∷ body (set (at 6 18) 3 (number_at (inside 1 (Selects.Alternative 0))) ∷ []) Ends.Dash
    ∷ body (set (at 7 18) 3 (number_at (inside 0 (Selects.At (number 3)))) ∷ []) Ends.Dash ∷ []))

-- l = {4, 5}, c = two: TRUE, k = high, and a value of x
abbrev pub with_x : ℕ → List Value
with_x n = Values.SeqOf (wholes (4 ∷ 5 ∷ [])) ∷ Values.Choice 1 (Values.Bool true) ∷ Values.Enumerated 2 ∷ whole n ∷ []

abbrev pub item_trace : List Shown
item_trace = rests [] idle (with_x 0) [] ∷ rests [] idle (with_x 5) [] ∷ []

-- the sequence has its two items already
abbrev pub full_trace : List Shown
full_trace = rests [] idle (with_x 0) [] ∷ faults [] Faults.Size (at 5 13) (with_x 0) [] ∷ []

-- the choice has its other alternative
abbrev pub other_alternative_trace : List Shown
other_alternative_trace = rests [] idle (with_x 0) [] ∷ faults [] Faults.Alternative (at 6 18) (with_x 0) [] ∷ []

-- 12 is no Small, and the fault has the place of the signal's name in INPUT
abbrev pub wide_input_trace : List Shown
wide_input_trace = rests [] idle (with_x 0) [] ∷ faults [] Faults.Range (at 7 7) (with_x 0) [] ∷ []

-- the value of the input is assigned before the index is outside
abbrev pub wide_index_trace : List Shown
wide_index_trace = rests [] idle (with_x 0) [] ∷ faults [] Faults.Index (at 7 18) (with_x 2) [] ∷ []

-- ---- parts of variables

-- DCL l List, c Pick, x Small;
-- START; CALL append(l, 4); TASK l(0) := 7, x := length(l), c.one := l(0);
--   DECISION present(c); (one): OUTPUT num(1); (two): OUTPUT num(2); ENDDECISION; NEXTSTATE idle;
-- STATE idle; ENDSTATE;
abbrev pub inward : Model
inward = model_with [] (plain name_l type_list ∷ plain name_c type_pick ∷ plain name_x type_small ∷ []) []
    (scope (basic name_idle [] ∷ [])
    (body
    (append (at 3 8) 4
    ∷ step (at 3 32) (Actions.Assign (inside 0 (Selects.At (literal 0))) (literal 7))
    ∷ set (at 3 43) 2 (expression ExprSorts.Int (Nodes.Length (variable 0)))
    ∷ step (at 3 59) (Actions.Assign (inside 1 (Selects.Alternative 0)) (number_at (inside 0 (Selects.At (literal 0)))))
    ∷ step (at 4 3) (Actions.Decide (expression (ExprSorts.Kind type_pick) (Nodes.Present (variable 1)))
    (branch 0 0 (open_block (send 1 ∷ [])) ∷ branch 1 1 (open_block (send 2 ∷ [])) ∷ []) None) ∷ [])
    (next 0) ∷ []))

-- the first value of the choice has its first alternative
abbrev pub inward_trace : List Shown
inward_trace = rests (sent 1 ∷ []) idle (Values.SeqOf (wholes (7 ∷ [])) ∷ Values.Choice 0 (whole 7) ∷ whole 1 ∷ []) [] ∷ []

-- ---- the values of an input

-- DCL x Byte;
-- START; NEXTSTATE idle;
-- STATE idle; INPUT a(x); NEXTSTATE -; ENDSTATE;
abbrev pub receiving : Model
receiving = model_with [] (plain name_x type_byte ∷ []) []
    (from_first (basic name_idle (input_a (at 4 19) 0 1 ∷ []) ∷ []) (body [] Ends.Dash ∷ []))

abbrev pub receiving_stimuli : List Stimulus
receiving_stimuli = go_a 1 ∷ go_a 2 ∷ []

abbrev pub receiving_trace : List Shown
receiving_trace = rests [] idle (whole 0 ∷ []) [] ∷ rests [] idle (whole 1 ∷ []) [] ∷ rests [] idle (whole 2 ∷ []) [] ∷ []

-- the same with INPUT a; in place of INPUT a(x): the value is dropped
abbrev pub dropping : Model
dropping = model_with [] (plain name_x type_byte ∷ []) []
    (from_first (basic name_idle (input 3 1 ∷ []) ∷ []) (body [] Ends.Dash ∷ []))

abbrev pub dropping_trace : List Shown
dropping_trace = rests [] idle (whole 0 ∷ []) [] ∷ rests [] idle (whole 0 ∷ []) [] ∷ rests [] idle (whole 0 ∷ []) [] ∷ []
