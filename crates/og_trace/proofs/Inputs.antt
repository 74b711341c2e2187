-- The values of a stimulus are set one after the other, and then it begins.
use Rattle.std.proofs.Common.{◌≡◌, ℕ, zero, suc, ◌+◌, ◌<◌, ◌≤◌, ◌++◌, List, [], ◌∷◌, Bool, true, false, ◌&&◌, Option, Some, None, length, drop, get_or, slice_get, refl, sym, ap, subst, ◌∙◌, arith}
use Rattle.std.specs.Prelude.{IsTrue, codes, decimal}
use Rattle.std.proofs.lemmas.Bool.{false≢true}
use Rattle.std.proofs.lemmas.List.{append_assoc, at_drop_all, at_drop_more}
use Rattle.std.proofs.lemmas.Option.{none-some, slice_get_read}
use Rattle.og_types.specs.declared.TypeId.{TypeId}
use Rattle.og_types.specs.declared.Value.{Value}
use Rattle.og_types.specs.Values.{is_in}
use Rattle.og_model.specs.declared.Model.{Model}
use Rattle.og_model.specs.declared.StimId.{StimId}
use Rattle.og_model.specs.declared.StimId.TheVariants as id
use Rattle.og_ir.specs.Cells.{Cells}
use Rattle.og_ir.specs.Steps.{Config, Running, Over, Broken}
use Rattle.og_csubset.specs.declared.CProgram.{CProgram}
use Rattle.og_csubset.specs.Agreement.{are_in}
use Rattle.og_csubset.specs.Interface.{Field, Typed, parameters_from, inputs_of, signal_name, signal_sorts}
use Rattle.og_csubset.specs.Kinds.{function_names, global_names, place_in}
use Rattle.og_csubset.specs.Reads.{put_named, cells_of_shape, inputs_set}
use Rattle.og_csubset.specs.Run.{entered, begun, c_machine}
use Rattle.og_cstep.specs.declared.Advance.{Advance}
use Rattle.og_cstep.specs.declared.Advance.TheVariants as advance
use Rattle.og_cstep.specs.Answered.{answer_at_end}
use Rattle.og_cstep.specs.Inputs.{is_parameter_value}
use Rattle.og_csubset.specs.Loading.{passes}
use Rattle.og_cstep.specs.Machines.{Run, CanBegin, argument_in, stimulus_of, begins, put_field, with_cells, with_input}
use Rattle.og_stim.specs.declared.stimuli.Stimulus.{Stimulus}
use Rattle.og_names.proofs.Loops.{Left}
use Rattle.og_names.proofs.Truths.{both_first, both_second}
use Rattle.og_value.proofs.Within.{there}
use Rattle.og_trace.specs.declared.Outcome.TheVariants as outcome
use Rattle.og_trace.specs.Entries.{value_list, arguments_from, IsLive, IsLast, IsReady, IsReadyAt, StandsAt, given_by, given_as, set_by, end_at, outcome_told}

-- ---- a parameter

-- the type of the i-th value
record Param (M : Model) (types : List TypeId) (i : ℕ) (v : Value) : Type 0 where
  sort : TypeId
  at : slice_get types i ≡ Some sort
  fits : is_in M.types sort v ≡ true

param_at : (M : Model) (types : List TypeId) (values : List Value) (i : ℕ) (v : Value) → are_in M types values ≡ true → slice_get values i ≡ Some v → Param M types i v
param_at M [] [] zero v are at = absurd (none-some v at)
param_at M [] [] (suc i) v are at = absurd (none-some v at)
param_at M [] (w ∷ values) i v are at = absurd (false≢true are)
param_at M (t ∷ types) [] i v are at = absurd (false≢true are)
param_at M (t ∷ types) (w ∷ values) zero v are at =
    let same : w ≡ v = cc in
    record { sort = t; at = refl; fits = subst (λ u. is_in M.types t u ≡ true) same (both_first _ _ are) }
param_at M (t ∷ types) (w ∷ values) (suc i) v are at =
    let more = param_at M types values i v (both_second _ _ are) at in
    record { sort = more.sort; at = more.at; fits = more.fits }

field_at : (prefix : List ℕ) (types : List TypeId) (n i : ℕ) (t : TypeId) → slice_get types i ≡ Some t → (f : Field) × (Some f ≡ slice_get (parameters_from n prefix types) i)
field_at prefix [] n zero t at = absurd (none-some t at)
field_at prefix [] n (suc i) t at = absurd (none-some t at)
field_at prefix (s ∷ types) n zero t at = (record { name = prefix ++ codes "__" ++ decimal n; shape = Typed s }, refl)
field_at prefix (s ∷ types) n (suc i) t at = field_at prefix types (n + 1) i t at

-- ---- one value

can_over : (last : Option Advance) (a b : List Cells) → CanBegin (Over a) last → CanBegin (Over b) last
can_over None a b can = can
can_over (Some advance.Moved) a b can = can
can_over (Some (advance.Event event)) a b can = can
can_over (Some advance.Rest) a b can = can
can_over (Some (advance.Fault kind place)) a b can = can
can_over (Some advance.Stopped) a b can = can
can_over (Some (advance.Stuck rule)) a b can = can

module _ (P : CProgram) (M : Model) (k : ℕ) where
  one_set : (before after : Run) (i : ℕ) (v : Value) (f : Field) → IsReady P M before.cells before → slice_get (inputs_of M k) i ≡ Some f → after ≡ with_input k i v before
      → IsReady P M (put_named (global_names P) f.name (cells_of_shape M f.shape v) before.cells) after
  one_set before after i v f ready at e =
      let old = before.cells in
      let new : List Cells = put_named (global_names P) f.name (cells_of_shape M f.shape v) old in
      let put : put_field before (slice_get (inputs_of before.model k) i) v ≡ new =
      ap (λ (m : Model). put_field before (slice_get (inputs_of m k) i) v) ready.model
      ∙ ap (λ o. put_field before o v) at
      ∙ (λ j. put_named (global_names (ready.program j)) f.name (cells_of_shape (ready.model j) f.shape v) old) in
      let stays : after.config ≡ Over new =
      ap (λ (r : Run). r.config) e
      ∙ ap (with_cells (put_field before (slice_get (inputs_of before.model k) i) v)) ready.config
      ∙ ap Over put in
      let last : after.last ≡ before.last = ap (λ (r : Run). r.last) e in
      record {
        program = ap (λ (r : Run). r.program) e ∙ ready.program;
        model = ap (λ (r : Run). r.model) e ∙ ready.model;
        cells = ap (λ (r : Run). r.cells) e ∙ put;
        config = stays;
        can =
            subst (λ c. CanBegin c after.last) (sym stays)
            (subst (CanBegin (Over new)) (sym last) (can_over before.last old new (subst (λ c. CanBegin c before.last) ready.config ready.can)));
      }

  -- what is still set from here is all
  pub record Setting (values : List Value) (i : ℕ) (run : Run) (first : List Cells) : Type 0 where
    pub ready : IsReady P M run.cells run
    pub left : inputs_set M (global_names P) (drop i (inputs_of M k)) (drop i values) run.cells ≡ inputs_set M (global_names P) (inputs_of M k) values first

  pub setting_first : (values : List Value) (run : Run) → IsReady P M run.cells run → Setting values 0 run run.cells
  setting_first values run ready = record { ready = ready; left = refl }

  pub setting_more : (values : List Value) (before after : Run) (i : ℕ) (v : Value) (first : List Cells)
      → i < length values → v ≡ get_or values i v → are_in M (signal_sorts M k) values ≡ true → after ≡ with_input k i v before
      → Setting values i before first → Setting values (i + 1) after first
  setting_more values before after i v first lt at are e so_far =
      let here : slice_get values i ≡ Some v = slice_get_read values (length values) i v refl lt at in
      let param = param_at M (signal_sorts M k) values i v are here in
      let field = field_at (codes "i_" ++ signal_name M k) (signal_sorts M k) 1 i param.sort param.at in
      let f : Field = field.0 in
      let ready = one_set before after i v f so_far.ready (sym field.1) e in
      record {
        ready = subst (λ cells. IsReady P M cells after) (sym ready.cells) ready;
        left =
            ap (inputs_set M (global_names P) (drop (i + 1) (inputs_of M k)) (drop (i + 1) values)) ready.cells
            ∙ sym (there (λ fs. inputs_set M (global_names P) fs (drop i values) before.cells) (inputs_of M k) i f field.1
            ∙ there (λ vs. inputs_set M (global_names P) (f ∷ drop (i + 1) (inputs_of M k)) vs before.cells) values i v (sym here))
            ∙ so_far.left;
      }

  none_set : (fields : List Field) (cells : List Cells) → inputs_set M (global_names P) fields [] cells ≡ cells
  none_set [] cells = refl
  none_set (f ∷ fields) cells = refl

  pub setting_end : (values : List Value) (run : Run) (i : ℕ) (first : List Cells) → length values ≤ i → Setting values i run first
      → IsReady P M (inputs_set M (global_names P) (inputs_of M k) values first) run
  setting_end values run i first le so_far =
      subst (λ cells. IsReady P M cells run)
      (sym (none_set (drop i (inputs_of M k)) run.cells)
      ∙ sym (at_drop_all (λ vs. inputs_set M (global_names P) (drop i (inputs_of M k)) vs run.cells) values i le) ∙ so_far.left)
      so_far.ready

  -- what the call asks of a value
  pub is_parameter : (values : List Value) (run : Run) (i : ℕ) (v : Value) → IsReady P M run.cells run → i < length values → v ≡ get_or values i v → are_in M (signal_sorts M k) values ≡ true
      → is_parameter_value run.model k i v ≡ true
  is_parameter values run i v ready lt at are =
      let param = param_at M (signal_sorts M k) values i v are (slice_get_read values (length values) i v refl lt at) in
      ap (λ (m : Model). is_parameter_value m k i v) ready.model
      ∙ ap (passes (λ t. is_in M.types t v)) param.at ∙ param.fits

-- ---- the stimulus begins

module _ (P : CProgram) (M : Model) where
  begun_same : (y : StimId) (values : List Value) (globals : List Cells)
      → begun M (function_names P) (global_names P) (stimulus_of y) (set_by P M y values globals) ≡ begun M (function_names P) (global_names P) (given_by y values) globals
  begun_same id.Start values globals = refl
  begun_same (id.Signal k) values globals = ap (entered _) (none_set P M k (inputs_of M k) (inputs_set M (global_names P) (inputs_of M k) values globals))
  begun_same (id.Timer k) values globals = refl

  pub begins_with : (x : Stimulus) (globals : List Cells) (before after : Run) → IsReady P M (set_by P M x.id x.values globals) before → after ≡ begins x.id before
      → after.config ≡ (c_machine P M).begin (given_as x) globals
  begins_with x globals before after ready e =
      ap (λ (r : Run). r.config) e
      ∙ (λ j. begun (ready.model j) (function_names (ready.program j)) (global_names (ready.program j)) (stimulus_of x.id) (ready.cells j))
      ∙ begun_same x.id x.values globals

  entered_live : (o : Option ℕ) (globals : List Cells) → IsLive (entered o globals)
  entered_live None globals = tt
  entered_live (Some f) globals = tt

  begun_live : (y : StimId) (values : List Value) (globals : List Cells) → IsLive (begun M (function_names P) (global_names P) (given_by y values) globals)
  begun_live id.Start values globals = entered_live _ globals
  begun_live (id.Signal k) values globals = entered_live _ _
  begun_live (id.Timer k) values globals = entered_live _ globals

  pub is_live : (x : Stimulus) (globals : List Cells) (config : Config) → config ≡ (c_machine P M).begin (given_as x) globals → IsLive config
  is_live x globals config e = subst IsLive (sym e) (begun_live x.id x.values globals)

-- ---- the next one can come

by_answer : (answer : Advance) (last : Option Advance) (globals : List Cells) → outcome_told answer ≡ None → IsLast answer last → CanBegin (Over globals) last
by_answer (advance.Event event) last globals none is = absurd (cc)
by_answer advance.Moved last globals none is = absurd (cc)
by_answer advance.Rest last globals none is = subst (CanBegin (Over globals)) (sym is) tt
by_answer (advance.Fault kind place) last globals none is = absurd (cc)
by_answer advance.Stopped last globals none is = subst (CanBegin (Over globals)) (sym is) tt
by_answer (advance.Stuck rule) last globals none is = absurd (cc)

pub ready_at : (P : CProgram) (M : Model) (config : Config) (answer : Advance) (run : Run) → StandsAt P M config answer run
    → answer ≡ answer_at_end (end_at (c_machine P M).ending config) → outcome_told answer ≡ None → IsReadyAt P M config run
ready_at P M (Running globals frame callers) answer run stands is none =
    absurd (let told : Some outcome.Past ≡ None = ap outcome_told (sym is) ∙ none in cc)
ready_at P M (Over globals) answer run stands is none = record {
  program = stands.program;
  model = stands.model;
  cells = stands.cells;
  config = stands.config;
  can = subst (λ c. CanBegin c run.last) (sym stands.config) (by_answer answer run.last globals none stands.last);
}
ready_at P M (Broken trouble) answer run stands is none =
    absurd (let told : Some outcome.Stuck ≡ None = ap outcome_told (sym is) ∙ none in cc)

-- ---- the values of an output, one by one

pub arguments_more : (run : Run) (k : ℕ) (values next : List Value) (sorts : List TypeId) (i : ℕ) (total : List Value)
    → i < length sorts → next ≡ values ++ value_list (argument_in run k i)
    → Left (λ (ts : List TypeId). values ++ arguments_from run k i ts) sorts i total
    → Left (λ (ts : List TypeId). next ++ arguments_from run k (i + 1) ts) sorts (i + 1) total
arguments_more run k values next sorts i total lt e left =
    let rest = arguments_from run k (i + 1) (drop (i + 1) sorts) in
    record {
      is = ap (λ vs. vs ++ rest) e
          ∙ append_assoc values (value_list (argument_in run k i)) rest
          ∙ sym (at_drop_more (λ (ts : List TypeId). values ++ arguments_from run k i ts) sorts i (record { 0 = 0 }) lt)
          ∙ left.is;
    }
