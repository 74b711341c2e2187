-- What the answer of a step says of the run.
use Rattle.std.proofs.Common.{◌≡◌, ℕ, ℤ, List, Option, Some, None, sym, ap, ◌∙◌}
use Rattle.std.proofs.lemmas.Option.{none-some}
use Rattle.og_types.specs.declared.Value.{Value}
use Rattle.og_model.specs.declared.Model.{Model}
use Rattle.og_model.specs.declared.EventId.{EventId}
use Rattle.og_model.specs.declared.EventId.TheVariants.{Output, Set, Reset}
use Rattle.og_model.specs.declared.StuckRule.TheVariants as stuck
use Rattle.og_model.specs.Shown as shown
use Rattle.og_ir.specs.Cells.{◌>>=◌, Cells}
use Rattle.og_ir.specs.Arithmetic.{Value as Unread}
use Rattle.og_ir.specs.Steps.{Running, Broken, Ran, onward, showing}
use Rattle.og_csubset.specs.declared.CProgram.{CProgram}
use Rattle.og_csubset.specs.Kinds.{global_names}
use Rattle.og_csubset.specs.Interface.{duration_of, outputs_of}
use Rattle.og_csubset.specs.Reads.{Globals, event_shown, values_of, duration_in, end_of}
use Rattle.og_cstatement.specs.declared.position.Position.{Position}
use Rattle.og_cstatement.specs.Positions.{config_by, config_of}
use Rattle.og_cstatement.specs.Links.{Calls, cells_after}
use Rattle.og_cstep.specs.declared.Advance.{Advance}
use Rattle.og_cstep.specs.declared.Advance.TheVariants as advance
use Rattle.og_cstep.specs.Answered.{id_of, answer_by, AnswersBy, Answers}
use Rattle.og_cstep.specs.Machines.{Run, advanced}

-- the run after what a step did
abbrev after : Run → Ran shown.Event → Run
after run ran =
    record run {
      cells = cells_after run.cells ran.config;
      config = ran.config;
      last = Some (answer_by (end_of run.model (global_names run.program)) ran.events ran.config);
    }

-- the event that is shown is the one that was called
id_by_values : (k : ℕ) (o : Option (List Value)) (e : shown.Event) → (o >>= λ vs. Some (shown.Output k vs)) ≡ Some e → id_of e ≡ Output k
id_by_values k None e h = absurd (none-some e h)
id_by_values k (Some vs) e h = search

id_by_duration : (k : ℕ) (o : Option ℤ) (e : shown.Event) → (o >>= λ d. Some (shown.Set k d)) ≡ Some e → id_of e ≡ Set k
id_by_duration k None e h = absurd (none-some e h)
id_by_duration k (Some d) e h = search

id_is : (model : Model) (globals : Globals) (id : EventId) (e : shown.Event) → event_shown model globals id ≡ Some e → id_of e ≡ id
id_is model globals (Output k) e h = id_by_values k (values_of model globals (outputs_of model k)) e h
id_is model globals (Set k) e h = id_by_duration k (duration_in globals (duration_of model k)) e h
id_is model globals (Reset k) e h = search

abbrev same_run : (program : CProgram) (model : Model) (old new : List Cells) (from now : Position) (last : Option Advance) (answer : Advance) → Type 0
same_run program model old new from now last answer =
    ◌≡◌ {A = Run} (record { program = program; model = model; cells = new; config = config_of new now; last = Some answer })
    (advanced (record { program = program; model = model; cells = old; config = config_of old from; last = last }))

by_event : (program : CProgram) (model : Model) (old new : List Cells) (from to now : Position) (last : Option Advance) (id : EventId) (answer : Advance) (o : Option shown.Event)
    → Calls program model old from new to id → o ≡ event_shown model (record { names = global_names program; cells = old }) id → AnswersBy o id to now answer
    → same_run program model old new from now last answer
by_event program model old new from to now last id answer (Some e) calls is answers =
    let cells : new ≡ old = calls.kept in
    let config : config_of new now ≡ Running old (onward calls.frame) calls.callers = ap (config_of new) answers.0 ∙ calls.to_is in
    let event : answer ≡ advance.Event (id_of e) =
    answers.1 ∙ ap advance.Event (sym (id_is model (record { names = global_names program; cells = old }) id e (sym is))) in
    let now_is : ◌≡◌ {A = Run} (record { program = program; model = model; cells = new; config = config_of new now; last = Some answer })
    (record { program = program; model = model; cells = old; config = Running old (onward calls.frame) calls.callers; last = Some (advance.Event (id_of e)) }) =
    (λ j. record { program = program; model = model; cells = cells j; config = config j; last = Some (event j) }) in
    now_is ∙ sym (ap (after (record { program = program; model = model; cells = old; config = config_of old from; last = last }))
    (calls.step_is ∙ ap (λ x. showing x old calls.frame calls.callers) (sym is)))
by_event program model old new from to now last id answer None calls is answers =
    let cells : new ≡ old = calls.kept in
    let config : config_of new now ≡ Broken Unread = ap (λ st. config_by new st now.callers.items) answers.0 in
    let now_is : ◌≡◌ {A = Run} (record { program = program; model = model; cells = new; config = config_of new now; last = Some answer })
    (record { program = program; model = model; cells = old; config = Broken Unread; last = Some (advance.Stuck stuck.Value) }) =
    (λ j. record { program = program; model = model; cells = cells j; config = config j; last = Some (answers.1 j) }) in
    now_is ∙ sym (ap (after (record { program = program; model = model; cells = old; config = config_of old from; last = last }))
    (calls.step_is ∙ ap (λ x. showing x old calls.frame calls.callers) (sym is)))

-- a statement that calls an event
pub shown_run : (program : CProgram) (model : Model) (old new : List Cells) (from to now : Position) (last : Option Advance) (id : EventId) (answer : Advance)
    → Calls program model old from new to id → Answers program model new id to now answer
    → same_run program model old new from now last answer
shown_run program model old new from to now last id answer calls answers =
    by_event program model old new from to now last id answer (event_shown model (record { names = global_names program; cells = new }) id) calls
    (ap (λ (c : List Cells). event_shown model (record { names = global_names program; cells = c }) id) calls.kept) answers
