-- The stimuli of a file are such as the model takes, so that a program that agrees with the model is never stuck over them.
use Rattle.std.proofs.Common.{◌≡◌, ℕ, zero, suc, true, false, List, [], ◌∷◌, Some, None, Option, slice_get, sym, ◌∙◌, ap, refl}
use Rattle.std.specs.List.{list_all}
use Rattle.og_types.specs.Table.{is_table}
use Rattle.og_types.specs.declared.Value.{Value}
use Rattle.og_model.specs.declared.Model.{Model}
use Rattle.og_model.specs.declared.Signal.{Signal}
use Rattle.og_model.specs.declared.StimId.{StimId}
use Rattle.og_model.specs.declared.StimId.TheVariants as id
use Rattle.og_front.specs.declared.syntax.SystemText.{SystemText}
use Rattle.og_front.specs.ModelOf.{model_of_tree}
use Rattle.og_model.specs.Shown.{Shown, End, Rest, Fault, Stopped, Past, Stuck, Stimulus, is_stuck, has_stuck}
use Rattle.og_csubset.specs.declared.CProgram.{CProgram}
use Rattle.og_csubset.specs.Agreement.{is_stimulus, is_sent, are_in, AreStimuli, SameBehaviour}
use Rattle.og_cstep.specs.Machines.{is_signal}
use Rattle.og_stim.specs.declared.stimuli.Stimulus.{Stimulus as Line}
use Rattle.og_stim.specs.Lines.{lines_of}
use Rattle.og_csubset.specs.Interface as interface
use Rattle.og_stim.specs.Stimuli.{sorts_of, values_read}
use Rattle.og_trace.specs.declared.Outcome.{Outcome}
use Rattle.og_trace.specs.declared.Outcome.TheVariants as outcome
use Rattle.og_trace.specs.Stims.{BadLine, stims_of, given, given_first}
use Rattle.og_trace.specs.Traces.{outcome_by, outcome_of, at_file_end, run_outcome, shown_over_file}
use Rattle.og_trace.proofs.Lines.{IsGiven, WasRead, all_read, values_of_id}
use Rattle.og_names.proofs.Truths.{both_first as and_first, both_second as and_second, both_true, neither_first as or_first, neither_second as or_second, same_value as same_some}

-- ---- a stimulus and its values

sent : (M : Model) (o : Option Signal) (vs : List Value) → is_signal o ≡ true → are_in M (interface.sorts_of o) vs ≡ true → is_sent M o vs ≡ true
sent M None vs comes are = absurd (let h : false ≡ true = comes in cc)
sent M (Some s) vs comes are = both_true _ _ comes are

-- the model takes the stimulus
taken : (M : Model) → is_table M.types ≡ true → (y : StimId) (vs : List Value) (texts : List (List ℕ)) → IsGiven M y → values_read M (sorts_of M y) texts ≡ Some vs
    → (more : List Stimulus) → list_all (is_stimulus M) more ≡ true → list_all (is_stimulus M) (given_first y vs more) ≡ true
taken M table id.Start vs texts given read more rest = absurd given
taken M table (id.Signal k) vs texts given read more rest =
    both_true _ _ (sent M (slice_get M.signals k) vs given (values_of_id M table (id.Signal k) texts vs read)) rest
taken M table (id.Timer k) vs texts given read more rest = both_true _ _ given rest

-- ---- a file

all_taken : (M : Model) → is_table M.types ≡ true → (xs : List Line) → ((i : ℕ) (x : Line) → slice_get xs i ≡ Some x → WasRead M x)
    → list_all (is_stimulus M) (given xs) ≡ true
all_taken M table [] each = refl
all_taken M table (x ∷ xs) each =
    let read = each 0 x refl in
    taken M table x.id x.values read.texts read.given read.values (given xs) (all_taken M table xs (λ i y at. each (suc i) y at))

pub stimuli_are_taken : (M : Model) → is_table M.types ≡ true → (text : List ℕ) → AreStimuli M (given (stims_of M text).list)
stimuli_are_taken M table text = all_taken M table (stims_of M text).list (all_read M 0 (lines_of text))

-- the types of the model of a tree are a table: there are none
pub types_of_tree : (system : SystemText) → is_table (model_of_tree system).types ≡ true
types_of_tree system = refl

-- ---- how a run ends

not_by : (end : End) (later : Outcome) → is_stuck end ≡ false → (later ≡ outcome.Stuck → ⊥) → outcome_by end later ≡ outcome.Stuck → ⊥
not_by (Rest paths variables timers) later fine not e = not e
not_by (Stopped variables) later fine not e = not e
not_by (Fault kind place variables timers) later fine not e = let h : outcome.Faulted ≡ outcome.Stuck = e in cc
not_by Past later fine not e = let h : outcome.Past ≡ outcome.Stuck = e in cc
not_by (Stuck rule) later fine not e = let h : true ≡ false = fine in cc

not_of : (behind : Outcome) (list : List Shown) → (behind ≡ outcome.Stuck → ⊥) → has_stuck list ≡ false → outcome_of behind list ≡ outcome.Stuck → ⊥
not_of behind [] not fine e = not e
not_of behind (s ∷ list) not fine e =
    not_by s.end (outcome_of behind list) (or_first (is_stuck s.end) (has_stuck list) fine)
    (not_of behind list not (or_second (is_stuck s.end) (has_stuck list) fine)) e

not_at_file_end : (bad : Option BadLine) → at_file_end bad ≡ outcome.Stuck → ⊥
not_at_file_end None e = let h : outcome.Done ≡ outcome.Stuck = e in cc
not_at_file_end (Some bad) e = let h : outcome.BadFile ≡ outcome.Stuck = e in cc

pub agreeing_is_never_stuck : (M : Model) (P : CProgram) → SameBehaviour M P → is_table M.types ≡ true → (text : List ℕ) (steps : ℕ) → run_outcome M P text steps ≡ outcome.Stuck → ⊥
agreeing_is_never_stuck M P same table text steps e =
    not_of (at_file_end (stims_of M text).bad) (shown_over_file M P text steps) (not_at_file_end (stims_of M text).bad)
    (same.runs.never_stuck (given (stims_of M text).list) (stimuli_are_taken M table text) steps) e
