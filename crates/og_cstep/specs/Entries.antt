-- The functions that stimuli call, by their numbers in a program. Where a program has no function of a name, there is no number.
use Rattle.std.specs.Prelude.{ℕ, List, map, length, Option, Some, None, slice_get}
use Rattle.og_model.specs.declared.Model.{Model}
use Rattle.og_model.specs.declared.StimId.{StimId}
use Rattle.og_model.specs.declared.StimId.TheVariants.{Start, Signal, Timer}
use Rattle.og_csubset.specs.declared.CProgram.{CProgram}
use Rattle.og_csubset.specs.Interface.{numbers_below, start_function, signal_function, timer_function}
use Rattle.og_csubset.specs.Kinds.{function_names, place_in}
use Rattle.og_cstep.specs.declared.entries.Entries.{Entries}

abbrev pub signal_entry : List (List ℕ) → Model → ℕ → Option ℕ
signal_entry names model k = place_in (signal_function model k) names

abbrev pub timer_entry : List (List ℕ) → Model → ℕ → Option ℕ
timer_entry names model k = place_in (timer_function model k) names

abbrev pub entries_among : List (List ℕ) → Model → Entries
entries_among names model =
    record {
      start = place_in start_function names;
      signals = map (signal_entry names model) (numbers_below (length model.signals));
      timers = map (timer_entry names model) (numbers_below (length model.timers));
    }

abbrev pub entries_of : CProgram → Model → Entries
entries_of program model = entries_among (function_names program) model

-- the number that stands at a place, if there is one
abbrev pub joined : Option (Option ℕ) → Option ℕ
joined None = None
joined (Some number) = number

abbrev pub number_in : List (Option ℕ) → ℕ → Option ℕ
number_in numbers k = joined (slice_get numbers k)

-- the function that a stimulus calls
abbrev pub entry_at : Entries → StimId → Option ℕ
entry_at entries Start = entries.start
entry_at entries (Signal k) = number_in entries.signals k
entry_at entries (Timer k) = number_in entries.timers k
