-- Statements one after the other: what one of them shows, what is still shown behind it, and where a run has ended.
use Rattle.std.proofs.Common.{◌≡◌, ℕ, zero, suc, ◌+◌, ℤ, pos, ◌++◌, List, [], ◌∷◌, Bool, true, false, if◌then◌else◌, Option, Some, None, Result, Ok, Err, slice_get, refl, sym, ap, subst, ◌∙◌, arith}
use Rattle.std.specs.Prelude.{codes, decimal, unwrap_or}
use Rattle.std.specs.List.{flat_map}
use Rattle.std.proofs.lemmas.List.{append_assoc, append-nil}
use Rattle.std.proofs.lemmas.Grind.{flat_map-append}
use Rattle.og_ir.proofs.Runs.{exec_stays}
use Rattle.og_types.specs.declared.TypeId.{TypeId}
use Rattle.og_types.specs.declared.Value.{Value as Val}
use Rattle.og_model.specs.declared.Model.{Model}
use Rattle.og_model.specs.declared.EventId.{EventId}
use Rattle.og_model.specs.declared.EventId.TheVariants as event
use Rattle.og_model.specs.Shown as shown
use Rattle.og_model.specs.Shown.{Event, End}
use Rattle.og_ir.specs.Arithmetic.{Trouble, Value, or_else}
use Rattle.og_ir.specs.Cells.{◌>>=◌, Cells}
use Rattle.og_ir.specs.Steps.{Config, Running, Over, Broken, Frame, Ran, quiet, and_then, exec, with_value, onward, returned, called, showing}
use Rattle.og_csubset.specs.declared.CProgram.{CProgram}
use Rattle.og_csubset.specs.declared.CStmt.{CStmt}
use Rattle.og_csubset.specs.declared.CStmt.TheVariants as statement
use Rattle.og_csubset.specs.Interface.{Field, Typed, outputs_of, duration_of, parameters_from, signal_name, sorts_of, events_of}
use Rattle.og_csubset.specs.Kinds.{is_in, event_names, function_names, global_names, place_in}
use Rattle.og_csubset.specs.Reads.{Globals, duration_in, value_of_field, values_of, event_shown, event_named, event_of, end_of}
use Rattle.og_csubset.specs.Step.{act, fetched, cstep, gone, call, spot_of, assigned, holds, value_of, case_of, label_in}
use Rattle.og_csubset.specs.declared.CExpr.{out-CExpr}
use Rattle.og_cstep.specs.declared.Advance.{Advance}
use Rattle.og_cstep.specs.declared.Advance.TheVariants as advance
use Rattle.og_cstep.specs.Answered.{id_of, answer_by, answer_at_end}
use Rattle.og_cstep.specs.Machines.{Run, argument_in, advanced, answer_of, next_step, globals_of}
use Rattle.og_cstatement.specs.Links.{cells_after}
use Rattle.og_stim.specs.Stimuli.{signal_sorts}
use Rattle.og_stim.specs.Trace.{Bytes, event_line}
use Rattle.og_csubset.specs.Run.{c_machine}
use Rattle.og_trace.specs.Entries.{value_list, arguments_from, event_seen, answer_lines, end_at, is_end, IsLive, HasCells, IsLast, StandsAt}
use Rattle.og_trace.proofs.Rests.{IsRead, end_is_read}
use Rattle.og_trace.proofs.Lines.{same_sorts}

-- ---- what one statement shows

-- nothing, or an event that can be read from the globals where the run then is
pub data ShowsOne {E : Type 0} (shows : List ℕ → List Cells → Option E) (ran : Ran E) : Type 0 where
  Nothing : ran.events ≡ [] → ShowsOne shows ran
  One : (name : List ℕ) (globals : List Cells) (frame : Frame) (callers : List Frame) (event : E) → ran.events ≡ event ∷ []
      → ran.config ≡ Running globals frame callers → shows name globals ≡ Some event → ShowsOne shows ran

with_value_shows : {E A : Type 0} (shows : List ℕ → List Cells → Option E) (r : Result A Trouble) (go : A → Ran E)
    → ((x : A) → ShowsOne shows (go x)) → ShowsOne shows (with_value r go)
with_value_shows shows (Ok x) go each = each x
with_value_shows shows (Err trouble) go each = Nothing refl

showing_shows : {E : Type 0} (shows : List ℕ → List Cells → Option E) (name : List ℕ) (globals : List Cells) (frame : Frame) (callers : List Frame)
    → ShowsOne shows (showing (shows name globals) globals frame callers)
showing_shows {E} shows name globals frame callers = by (shows name globals) refl
  where
    by : (o : Option E) → shows name globals ≡ o → ShowsOne shows (showing o globals frame callers)
    by None is = Nothing refl
    by (Some e) is = One name globals (onward frame) callers e refl refl is

returned_shows : {E : Type 0} (shows : List ℕ → List Cells → Option E) (globals : List Cells) (callers : List Frame) → ShowsOne shows (returned globals callers)
returned_shows shows globals [] = Nothing refl
returned_shows shows globals (frame ∷ callers) = Nothing refl

gone_shows : {E : Type 0} (shows : List ℕ → List Cells → Option E) (body : List CStmt) (globals : List Cells) (frame : Frame) (callers : List Frame) (label : List ℕ)
    → ShowsOne shows (gone body globals frame callers label)
gone_shows shows body globals frame callers label = with_value_shows shows (or_else (label_in label body) Value) _ (λ place. Nothing refl)

call_shows : {E : Type 0} (shows : List ℕ → List Cells → Option E) (program : CProgram) (globals : List Cells) (frame : Frame) (callers : List Frame) (name : List ℕ)
    → ShowsOne shows (call shows program globals frame callers name)
call_shows {E} shows program globals frame callers name =
    by (is_in name (event_names program)) (showing (shows name globals) globals frame callers) _
    (showing_shows shows name globals frame callers) (with_value_shows shows (or_else (place_in name (function_names program)) Value) (called globals frame callers) (λ k. Nothing refl))
  where
    by : (b : Bool) (x y : Ran E) → ShowsOne shows x → ShowsOne shows y → ShowsOne shows (if b then x else y)
    by true x y first second = first
    by false x y first second = second

act_shows : {E : Type 0} (shows : List ℕ → List Cells → Option E) (program : CProgram) (body : List CStmt) (globals : List Cells) (frame : Frame) (callers : List Frame) (s : CStmt)
    → ShowsOne shows (act shows program body globals frame callers s)
act_shows shows program body globals frame callers (statement.Assign place e) =
    with_value_shows shows (spot_of program globals place) _ (λ spot. with_value_shows shows (assigned program globals e (out-CExpr e)) _ (λ cells. Nothing refl))
act_shows {E} shows program body globals frame callers (statement.IfGoto test label) =
    with_value_shows shows (holds program globals test) _ (λ b. by b (gone body globals frame callers label.bytes) (quiet (Running globals (onward frame) callers)) (gone_shows shows body globals frame callers label.bytes) (Nothing refl))
  where
    by : (b : Bool) (x y : Ran E) → ShowsOne shows x → ShowsOne shows y → ShowsOne shows (if b then x else y)
    by true x y first second = first
    by false x y first second = second
act_shows shows program body globals frame callers (statement.Goto label) = gone_shows shows body globals frame callers label.bytes
act_shows shows program body globals frame callers (statement.Label label) = Nothing refl
act_shows shows program body globals frame callers (statement.Switch e cases otherwise) =
    with_value_shows shows (value_of program globals e) _ (λ z. gone_shows shows body globals frame callers (case_of z cases otherwise.bytes))
act_shows shows program body globals frame callers (statement.Call name) = call_shows shows program globals frame callers name.bytes
act_shows shows program body globals frame callers statement.Return = returned_shows shows globals callers

fetched_shows : {E : Type 0} (shows : List ℕ → List Cells → Option E) (program : CProgram) (body : List CStmt) (globals : List Cells) (frame : Frame) (callers : List Frame) (s : Option CStmt)
    → ShowsOne shows (fetched shows program body globals frame callers s)
fetched_shows shows program body globals frame callers None = returned_shows shows globals callers
fetched_shows shows program body globals frame callers (Some s) = act_shows shows program body globals frame callers s

step_shows : {E : Type 0} (shows : List ℕ → List Cells → Option E) (program : CProgram) (config : Config) → ShowsOne shows (cstep shows program config)
step_shows shows program (Running globals frame callers) =
    with_value_shows shows (or_else (slice_get program.functions frame.function) Value) _ (λ f. fetched_shows shows program f.body globals frame callers (slice_get f.body frame.place))
step_shows shows program (Over globals) = Nothing refl
step_shows shows program (Broken trouble) = Nothing refl

-- ---- the event of an answer

-- the values of an output are those that its arguments hold
module _ (run : Run) (k : ℕ) where
  abbrev held : Field → Option Val
  held = value_of_field run.model (globals_of run)

  arguments_are : (prefix : List ℕ) (types : List TypeId) (n i : ℕ) (vs : List Val)
      → ((j : ℕ) → slice_get (outputs_of run.model k) (i + j) ≡ slice_get (parameters_from n prefix types) j)
      → values_of run.model (globals_of run) (parameters_from n prefix types) ≡ Some vs → arguments_from run k i types ≡ vs
  arguments_are prefix [] n i vs at is = cc
  arguments_are prefix (t ∷ types) n i vs at is =
      by (held field) (values_of run.model (globals_of run) (parameters_from (n + 1) prefix types)) refl
      (λ us. arguments_are prefix types (n + 1) (i + 1) us (λ j. let more : i + 1 + j ≡ i + suc j = omega arith in ap (slice_get (outputs_of run.model k)) more ∙ at (suc j)))
      is
    where
      field : Field
      field = record { name = prefix ++ codes "__" ++ decimal n; shape = Typed t }

      here : slice_get (outputs_of run.model k) i ≡ Some field
      here = let none : i ≡ i + 0 = omega arith in ap (slice_get (outputs_of run.model k)) none ∙ at 0

      by : (o : Option Val) (p : Option (List Val)) → held field ≡ o → ((us : List Val) → p ≡ Some us → arguments_from run k (i + 1) types ≡ us)
          → (o >>= λ v. p >>= λ us. Some (v ∷ us)) ≡ Some vs → value_list (argument_in run k i) ++ arguments_from run k (i + 1) types ≡ vs
      by None p one later told = absurd (cc)
      by (Some v) None one later told = absurd (cc)
      by (Some v) (Some us) one later told =
          let same : v ∷ us ≡ vs = cc in
          ap (λ o. value_list (o >>= held) ++ arguments_from run k (i + 1) types) here
          ∙ ap (λ o. value_list o ++ arguments_from run k (i + 1) types) one
          ∙ ap (λ ws. v ∷ ws) (later us refl) ∙ same

  arguments_seen : (vs : List Val) → values_of run.model (globals_of run) (outputs_of run.model k) ≡ Some vs → arguments_from run k 0 (signal_sorts run.model k) ≡ vs
  arguments_seen vs is =
      ap (arguments_from run k 0) (same_sorts (slice_get run.model.signals k))
      ∙ arguments_are (codes "o_" ++ signal_name run.model k) (sorts_of (slice_get run.model.signals k)) 1 0 vs
      (λ j. let none : 0 + j ≡ j = omega arith in ap (slice_get (outputs_of run.model k)) none) is

-- what an event shows of the globals is what its answer tells
shown_is_seen : (run : Run) (i : EventId) (e : Event) → event_shown run.model (globals_of run) i ≡ Some e → event_seen run (id_of e) ≡ e
shown_is_seen run (event.Output k) e is = by (values_of run.model (globals_of run) (outputs_of run.model k)) refl is
  where
    by : (o : Option (List Val)) → values_of run.model (globals_of run) (outputs_of run.model k) ≡ o → (o >>= λ vs. Some (shown.Output k vs)) ≡ Some e → event_seen run (id_of e) ≡ e
    by None at told = absurd (cc)
    by (Some vs) at told =
        let it : shown.Output k vs ≡ e = cc in
        subst (λ x. event_seen run (id_of x) ≡ x) it (ap (shown.Output k) (arguments_seen run k vs at))
shown_is_seen run (event.Set k) e is = by (duration_in (globals_of run) (duration_of run.model k)) refl is
  where
    by : (o : Option ℤ) → duration_in (globals_of run) (duration_of run.model k) ≡ o → (o >>= λ d. Some (shown.Set k d)) ≡ Some e → event_seen run (id_of e) ≡ e
    by None at told = absurd (cc)
    by (Some d) at told =
        let it : shown.Set k d ≡ e = cc in
        subst (λ x. event_seen run (id_of x) ≡ x) it (ap (λ o. shown.Set k (unwrap_or o (pos 0))) at)
shown_is_seen run (event.Reset k) e is =
    let it : shown.Reset k ≡ e = cc in
    subst (λ x. event_seen run (id_of x) ≡ x) it refl

named_is_seen : (run : Run) (name : List ℕ) (e : Event) → event_of run.model (globals_of run).names name run.cells ≡ Some e → event_seen run (id_of e) ≡ e
unfolding event_of
named_is_seen run name e is = by (event_named run.model name (events_of run.model)) is
  where
    by : (o : Option EventId) → (o >>= event_shown run.model (globals_of run)) ≡ Some e → event_seen run (id_of e) ≡ e
    by None told = absurd (cc)
    by (Some i) told = shown_is_seen run i e told

-- ---- the lines of one statement

end_has_no_line : (M : Model) (run : Run) (e : End) → answer_lines M run (answer_at_end e) ≡ []
end_has_no_line M run (shown.Rest paths variables timers) = refl
end_has_no_line M run (shown.Fault kind place variables timers) = refl
end_has_no_line M run (shown.Stopped variables) = refl
end_has_no_line M run shown.Past = refl
end_has_no_line M run (shown.Stuck rule) = refl

quiet_has_no_line : (M : Model) (run : Run) (ending : List Cells → End) (config : Config) → answer_lines M run (answer_by ending [] config) ≡ []
quiet_has_no_line M run ending (Running globals frame callers) = refl
quiet_has_no_line M run ending (Over globals) = end_has_no_line M run (ending globals)
quiet_has_no_line M run ending (Broken trouble) = refl

pub statement_lines : (M : Model) (run : Run)
    → answer_lines M (advanced run) (answer_of run) ≡ flat_map (event_line M) (next_step run).events
statement_lines M run = by (step_shows (event_of run.model (global_names run.program)) run.program run.config)
  where
    ending : List Cells → End
    ending = end_of run.model (global_names run.program)

    by : ShowsOne (event_of run.model (global_names run.program)) (next_step run) → answer_lines M (advanced run) (answer_of run) ≡ flat_map (event_line M) (next_step run).events
    by (Nothing none) =
        ap (λ es. answer_lines M (advanced run) (answer_by ending es (next_step run).config)) none
        ∙ quiet_has_no_line M (advanced run) ending (next_step run).config
        ∙ ap (flat_map (event_line M)) (sym none)
    by (One name globals frame callers e one at is) =
        ap (λ es. answer_lines M (advanced run) (answer_by ending es (next_step run).config)) one
        ∙ ap (λ config. answer_lines M (advanced run) (answer_by ending (e ∷ []) config)) at
        ∙ ap (event_line M) (named_is_seen (advanced run) name e seen)
        ∙ sym (append-nil (event_line M e)) ∙ ap (flat_map (event_line M)) (sym one)
      where
        seen : event_of run.model (global_names run.program) name (cells_after run.cells (next_step run).config) ≡ Some e
        seen = ap (λ config. event_of run.model (global_names run.program) name (cells_after run.cells config)) at ∙ is

-- ---- several statements

-- what is still shown from here, behind what was written so far, is what the whole run shows
pub record Going (M : Model) (step : Config → Ran Event) (left : ℕ) (now : Config) (out : Bytes) (steps : ℕ) (first : Config) (initial : Bytes) : Type 0 where
  pub lines : out ++ flat_map (event_line M) (exec step left now).events ≡ initial ++ flat_map (event_line M) (exec step steps first).events
  pub place : (exec step left now).config ≡ (exec step steps first).config

going_on : (M : Model) (step : Config → Ran Event) (left fewer : ℕ) (now next : Config) (out after : Bytes) (steps : ℕ) (first : Config) (initial : Bytes)
    → left ≡ suc fewer → next ≡ (step now).config → after ≡ out ++ flat_map (event_line M) (step now).events
    → Going M step left now out steps first initial → Going M step fewer next after steps first initial
going_on M step left fewer now next out after steps first initial less at wrote going =
    let whole : exec step left now ≡ and_then (step now) (exec step fewer) = ap (λ n. exec step n now) less in
    let rest = (exec step fewer (step now).config).events in
    record {
      lines =
          ap (λ config. after ++ flat_map (event_line M) (exec step fewer config).events) at
          ∙ ap (λ bytes. bytes ++ flat_map (event_line M) rest) wrote
          ∙ append_assoc out (flat_map (event_line M) (step now).events) (flat_map (event_line M) rest)
          ∙ ap (λ bytes. out ++ bytes) (sym (flat_map-append (event_line M) (step now).events rest))
          ∙ ap (λ (ran : Ran Event). out ++ flat_map (event_line M) ran.events) (sym whole)
          ∙ going.lines;
      place = ap (λ config. (exec step fewer config).config) at ∙ ap (λ (ran : Ran Event). ran.config) (sym whole) ∙ going.place;
    }

-- where nothing more is shown
pub going_lines : (M : Model) (step : Config → Ran Event) (left : ℕ) (now : Config) (out : Bytes) (steps : ℕ) (first : Config) (initial : Bytes)
    → exec step left now ≡ quiet now → Going M step left now out steps first initial → out ≡ initial ++ flat_map (event_line M) (exec step steps first).events
going_lines M step left now out steps first initial still going =
    sym (append-nil out) ∙ ap (λ (ran : Ran Event). out ++ flat_map (event_line M) ran.events) (sym still) ∙ going.lines

pub going_place : (M : Model) (step : Config → Ran Event) (left : ℕ) (now : Config) (out : Bytes) (steps : ℕ) (first : Config) (initial : Bytes)
    → exec step left now ≡ quiet now → Going M step left now out steps first initial → now ≡ (exec step steps first).config
going_place M step left now out steps first initial still going = ap (λ (ran : Ran Event). ran.config) (sym still) ∙ going.place

-- ---- one more statement of a machine

-- a machine of this program and model has made one statement
pub record Turned (P : CProgram) (M : Model) (before after : Run) (told : Advance) : Type 0 where
  pub program : before.program ≡ P
  pub model : before.model ≡ M
  pub run : after ≡ advanced before
  pub answer : told ≡ answer_of before

same_step : (P : CProgram) (M : Model) (before : Run) → before.program ≡ P → before.model ≡ M → next_step before ≡ (c_machine P M).step before.config
same_step P M before program model =
    ap (λ (p : CProgram). cstep (event_of before.model (global_names p)) p before.config) program
    ∙ ap (λ (m : Model). cstep (event_of m (global_names P)) P before.config) model

pub turned_going : (P : CProgram) (M : Model) (before after : Run) (answer : Advance) → Turned P M before after answer
    → (left fewer : ℕ) (out new : Bytes) (steps : ℕ) (first : Config) (initial : Bytes)
    → left ≡ suc fewer → new ≡ out ++ flat_map (event_line M) (next_step before).events
    → Going M (c_machine P M).step left before.config out steps first initial → Going M (c_machine P M).step fewer after.config new steps first initial
turned_going P M before after answer turned left fewer out new steps first initial less wrote going =
    let same = same_step P M before turned.program turned.model in
    going_on M (c_machine P M).step left fewer before.config after.config out new steps first initial less
    (ap (λ (r : Run). r.config) turned.run ∙ ap (λ (ran : Ran Event). ran.config) same)
    (wrote ∙ ap (λ (ran : Ran Event). out ++ flat_map (event_line M) ran.events) same)
    going

pub turned_program : (P : CProgram) (M : Model) (before after : Run) (answer : Advance) → Turned P M before after answer → after.program ≡ P
turned_program P M before after answer turned = ap (λ (r : Run). r.program) turned.run ∙ turned.program

pub turned_model : (P : CProgram) (M : Model) (before after : Run) (answer : Advance) → Turned P M before after answer → after.model ≡ M
turned_model P M before after answer turned = ap (λ (r : Run). r.model) turned.run ∙ turned.model

-- ---- whether the run has ended

not_past : (M : Model) (globals : Globals) (e : End) → IsRead M globals e → is_end (answer_at_end e) ≡ false → ⊥
not_past M globals (shown.Rest paths variables timers) read is = cc
not_past M globals (shown.Fault kind place variables timers) read is = cc
not_past M globals (shown.Stopped variables) read is = cc
not_past M globals shown.Past read is = read
not_past M globals (shown.Stuck rule) read is = cc

live_by : (M : Model) (names : List (List ℕ)) (events : List Event) (config : Config) → is_end (answer_by (end_of M names) events config) ≡ false → IsLive config
live_by M names events (Running globals frame callers) is = tt
live_by M names events (Over globals) is = not_past M (record { names = names; cells = globals }) (end_of M names globals) (end_is_read M names globals) is
live_by M names events (Broken trouble) is = tt

pub turned_live : (P : CProgram) (M : Model) (before after : Run) (answer : Advance) → Turned P M before after answer → is_end answer ≡ false → IsLive after.config
turned_live P M before after answer turned is =
    subst (λ (r : Run). IsLive r.config) (sym turned.run)
    (live_by before.model (global_names before.program) (next_step before).events (next_step before).config (ap is_end (sym turned.answer) ∙ is))

still_by : (P : CProgram) (M : Model) (ending : List Cells → End) (events : List Event) (config : Config) (n : ℕ) → is_end (answer_by ending events config) ≡ true
    → exec (c_machine P M).step n config ≡ quiet config
still_by P M ending [] (Running globals frame callers) n is = absurd (cc)
still_by P M ending (e ∷ events) (Running globals frame callers) n is = absurd (cc)
still_by P M ending events (Over globals) n is = exec_stays (c_machine P M).step (Over globals) refl n
still_by P M ending events (Broken trouble) n is = exec_stays (c_machine P M).step (Broken trouble) refl n

pub turned_still : (P : CProgram) (M : Model) (before after : Run) (answer : Advance) → Turned P M before after answer → (n : ℕ) → is_end answer ≡ true
    → exec (c_machine P M).step n after.config ≡ quiet after.config
turned_still P M before after answer turned n is =
    subst (λ (r : Run). exec (c_machine P M).step n r.config ≡ quiet r.config) (sym turned.run)
    (still_by P M (end_of before.model (global_names before.program)) (next_step before).events (next_step before).config n (ap is_end (sym turned.answer) ∙ is))

told_by : (ending : List Cells → End) (events : List Event) (config : Config) → is_end (answer_by ending events config) ≡ true
    → answer_by ending events config ≡ answer_at_end (end_at ending config)
told_by ending [] (Running globals frame callers) is = absurd (cc)
told_by ending (e ∷ events) (Running globals frame callers) is = absurd (cc)
told_by ending events (Over globals) is = refl
told_by ending events (Broken trouble) is = refl

pub turned_told : (P : CProgram) (M : Model) (before after : Run) (answer : Advance) → Turned P M before after answer → is_end answer ≡ true
    → answer ≡ answer_at_end (end_at (c_machine P M).ending after.config)
turned_told P M before after answer turned is =
    turned.answer
    ∙ told_by (end_of before.model (global_names before.program)) (next_step before).events (next_step before).config (ap is_end (sym turned.answer) ∙ is)
    ∙ ap (λ (m : Model). answer_at_end (end_at (end_of m (global_names before.program)) (next_step before).config)) turned.model
    ∙ ap (λ (p : CProgram). answer_at_end (end_at (end_of M (global_names p)) (next_step before).config)) turned.program
    ∙ ap (λ (r : Run). answer_at_end (end_at (end_of M (global_names P)) r.config)) (sym turned.run)

has_cells : (old : List Cells) (config : Config) → HasCells config (cells_after old config)
has_cells old (Running globals frame callers) = tt
has_cells old (Over globals) = refl
has_cells old (Broken trouble) = tt

last_is : (answer : Advance) (last : Option Advance) → last ≡ Some answer → IsLast answer last
last_is advance.Moved last is = tt
last_is (advance.Event i) last is = tt
last_is advance.Rest last is = is
last_is (advance.Fault kind place) last is = tt
last_is advance.Stopped last is = is
last_is (advance.Stuck rule) last is = tt

pub turned_stands : (P : CProgram) (M : Model) (before after : Run) (answer : Advance) → Turned P M before after answer → (place : Config) → after.config ≡ place
    → StandsAt P M place answer after
turned_stands P M before after answer turned place at = record {
  program = turned_program P M before after answer turned;
  model = turned_model P M before after answer turned;
  config = at;
  cells = subst (λ config. HasCells config after.cells) at (subst (λ (r : Run). HasCells r.config r.cells) (sym turned.run) (has_cells before.cells (next_step before).config));
  last = last_is answer after.last (ap (λ (r : Run). r.last) turned.run ∙ ap Some (sym turned.answer));
}
