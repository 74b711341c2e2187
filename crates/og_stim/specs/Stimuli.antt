-- Which stimulus each line of a stimuli file is, and the first rule that a line breaks: Q6, a line past 1,000,000; Q5, a line of
-- more than 65,536 bytes; Q1, a line of no form; Q2, a name that is no incoming signal and no timer of the model; Q3, more or
-- fewer values than the signal has parameters, or any for a timer; Q4, a text that reads as no value of its parameter's type.
-- A line that is blank or a comment is skipped, but counts. Names are folded, as in the model. The form of stimuli files is
-- this project's own.
use Rattle.std.specs.Prelude.{◌≡◌, ℕ, ◌+◌, ◌-◌, Bool, List, [], ◌∷◌, if◌then◌else◌, ◌&&◌, ◌==◌, nat_lt, length, drop, slice_get, Option, Some, None, option_map, Result, Ok, Err}
use Rattle.og_names.specs.declared.NameId.{NameId}
use Rattle.og_names.specs.Folding.{folded, place_of}
use Rattle.og_types.specs.declared.TypeId.{TypeId}
use Rattle.og_types.specs.declared.Value.{Value}
use Rattle.og_value.specs.Scans.{found_in}
use Rattle.og_model.specs.declared.Model.{Model}
use Rattle.og_model.specs.declared.Signal.{Signal}
use Rattle.og_model.specs.declared.StimId.{StimId}
use Rattle.og_model.specs.declared.StimId.TheVariants as id
use Rattle.og_stim.specs.declared.stimuli.StimRule.{StimRule}
use Rattle.og_stim.specs.declared.stimuli.StimRule.TheVariants as rule
use Rattle.og_stim.specs.declared.stimuli.StimError.{StimError}
use Rattle.og_stim.specs.declared.stimuli.StimError.TheVariants as error
use Rattle.og_stim.specs.declared.stimuli.Cursor.{Cursor}
use Rattle.og_stim.specs.declared.stimuli.Stimulus.{Stimulus}
use Rattle.og_stim.specs.Lines.{lines_of, is_skipped}
use Rattle.og_stim.specs.Scans.{form_in}

-- ---- what a name names

-- the first incoming signal of this name, where the list begins with the k-th
abbrev pub signal_from : ℕ → ℕ → List Signal → Option StimId
signal_from k name [] = None
signal_from k name (s ∷ signals) =
    if s.incoming && s.name.0 == name then Some (id.Signal k) else signal_from (k + 1) name signals

abbrev pub timer_from : ℕ → ℕ → List NameId → Option StimId
timer_from k name [] = None
timer_from k name (t ∷ timers) = if t.0 == name then Some (id.Timer k) else timer_from (k + 1) name timers

abbrev pub or_timer : Model → ℕ → Option StimId → Option StimId
or_timer M name None = timer_from 0 name M.timers
or_timer M name (Some x) = Some x

abbrev pub numbered : Model → Option ℕ → Option StimId
numbered M None = None
numbered M (Some name) = or_timer M name (signal_from 0 name M.signals)

-- the stimulus of a name
abbrev pub stimulus_named : Model → List ℕ → Option StimId
stimulus_named M name = numbered M (place_of M.names (folded name))

-- ---- its values

abbrev pub sorts_in : Option Signal → List TypeId
sorts_in None = []
sorts_in (Some s) = s.sorts

-- the types of a signal's parameters
abbrev pub signal_sorts : Model → ℕ → List TypeId
signal_sorts M k = sorts_in (slice_get M.signals k)

-- the types of the values of a stimulus
abbrev pub sorts_of : Model → StimId → List TypeId
sorts_of M id.Start = []
sorts_of M (id.Signal k) = signal_sorts M k
sorts_of M (id.Timer k) = []

-- the value of the type that a text reads as
unfoldable pub value_read : Model → TypeId → List ℕ → Option Value
value_read M sort text = option_map (λ found. found.0) (found_in M.types M.names sort text)

abbrev pub value_with : Option Value → Option (List Value) → Option (List Value)
value_with None others = None
value_with (Some v) others = option_map (λ vs. v ∷ vs) others

-- those that as many texts read as, if each reads as one
abbrev pub values_read : Model → List TypeId → List (List ℕ) → Option (List Value)
values_read M [] texts = Some []
values_read M (sort ∷ sorts) [] = None
values_read M (sort ∷ sorts) (text ∷ texts) = value_with (value_read M sort text) (values_read M sorts texts)

-- ---- a line

abbrev pub Judged : Type 0
Judged = Result (Option Stimulus) StimRule

abbrev pub with_values : StimId → Option (List Value) → Judged
with_values x None = Err rule.Q4
with_values x (Some vs) = Ok (Some (record { id = x; values = vs }))

-- the stimulus with the values of these texts
abbrev pub counted : Model → List (List ℕ) → StimId → Judged
counted M texts x =
    if length texts == length (sorts_of M x) then with_values x (values_read M (sorts_of M x) texts) else Err rule.Q3

abbrev pub known_or_unknown : Model → List (List ℕ) → Option StimId → Judged
known_or_unknown M texts None = Err rule.Q2
known_or_unknown M texts (Some x) = counted M texts x

-- by the name and the texts of a line
abbrev pub by_form : Model → Option (List ℕ × List (List ℕ)) → Judged
by_form M None = Err rule.Q1
by_form M (Some form) = known_or_unknown M form.1 (stimulus_named M form.0)

-- nothing, a stimulus, or the first rule that the line of this number breaks
abbrev pub judged : Model → ℕ → List ℕ → Judged
judged M n line =
    if nat_lt 1000000 n then Err rule.Q6
    else (if nat_lt 65536 (length line) then Err rule.Q5 else (if is_skipped line then Ok None else by_form M (form_in line)))

-- ---- a file

-- What comes next in a file: its end, a stimulus in the line of this number with the lines behind it, or a bad line.
pub data Next : Type 0 where
  AtEnd : Next
  Stands : (stimulus : Stimulus) (line : ℕ) (more : List (List ℕ)) → Next
  Bad : (line : ℕ) (rule : StimRule) → Next

abbrev pub next_by : Judged → ℕ → List (List ℕ) → Next → Next
next_by (Ok None) n more later = later
next_by (Ok (Some x)) n more later = Stands x n more
next_by (Err r) n more later = Bad n r

-- where so many lines come before these
abbrev pub next_in : Model → ℕ → List (List ℕ) → Next
next_in M n [] = AtEnd
next_in M n (line ∷ lines) = next_by (judged M (n + 1) line) (n + 1) lines (next_in M (n + 1) lines)

-- how many lines come before this offset, where the cursor tells how many come before itself: all that there are less those
-- from the offset on
abbrev pub line_at : List ℕ → Cursor → ℕ → ℕ
line_at text cursor offset = cursor.line + length (lines_of (drop cursor.offset text)) - length (lines_of (drop offset text))

-- what a call answers, and where it leaves the cursor
abbrev pub IsNext : Model → List ℕ → Cursor → Cursor → Option Stimulus → Type 0
IsNext M text old new None = (new.offset ≡ length text) × (next_in M old.line (lines_of (drop old.offset text)) ≡ AtEnd)
IsNext M text old new (Some x) =
    next_in M old.line (lines_of (drop old.offset text)) ≡ Stands x new.line (lines_of (drop new.offset text))

abbrev pub IsBadLine : Model → List ℕ → Cursor → Cursor → StimError → Type 0
IsBadLine M text old new (error.Bad line r) =
    (new ≡ old) × (next_in M old.line (lines_of (drop old.offset text)) ≡ Bad line r)
IsBadLine M text old new (error.NoMemory met) = new ≡ old
