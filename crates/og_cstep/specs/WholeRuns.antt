-- What is seen of a machine that is given each of some stimuli and then advances until an answer says that the run has ended,
-- at most so many times for each: the events that its answers tell, with their values, and the end. A stimulus is given by
-- setting the values of its signal's parameters one after the other, and then beginning it. Where no answer has said that the
-- run has ended, it is Past; so with no statement at all each stimulus is Past, and the law whole_runs asks for one or more.
use Rattle.std.specs.Prelude.{ℕ, zero, suc, ◌+◌, List, [], ◌∷◌, ◌++◌, Option, Some, None}
use Rattle.og_types.specs.declared.Value.{Value}
use Rattle.og_model.specs.declared.StimId.{StimId}
use Rattle.og_model.specs.declared.StimId.TheVariants.{Start, Signal, Timer}
use Rattle.og_model.specs.Shown as shown
use Rattle.og_model.specs.Shown.{Shown, End, Past, Stimulus}
use Rattle.og_csubset.specs.Kinds.{global_names}
use Rattle.og_csubset.specs.Reads.{end_of}
use Rattle.og_csubset.specs.Run.{goes_on}
use Rattle.og_cstep.specs.declared.Advance.{Advance}
use Rattle.og_cstep.specs.declared.Advance.TheVariants.{Moved, Event, Rest, Fault, Stopped, Stuck}
use Rattle.og_cstep.specs.Machines.{Run, begins, with_input, next_step, answer_of, advanced}

-- What is seen of one stimulus, and the run behind it.
pub record Seen : Type 0 where
  pub entry : Shown
  pub run : Run

-- puts events before those that are seen
abbrev pub behind : List shown.Event → Seen → Seen
behind events later = record later { entry = record { events = events ++ later.entry.events; end = later.entry.end } }

-- how a run has ended, as its globals say
abbrev pub ending : Run → End
ending run = end_of run.model (global_names run.program) run.cells

-- after an answer: what is seen further, or the end
abbrev pub seen_by : Advance → List shown.Event → Run → Seen → Seen
seen_by Moved events now later = behind events later
seen_by (Event id) events now later = behind events later
seen_by Rest events now later = record { entry = record { events = events; end = ending now }; run = now }
seen_by (Fault kind place) events now later = record { entry = record { events = events; end = ending now }; run = now }
seen_by Stopped events now later = record { entry = record { events = events; end = ending now }; run = now }
seen_by (Stuck rule) events now later = record { entry = record { events = events; end = shown.Stuck rule }; run = now }

-- at most so many statements
abbrev pub seen : ℕ → Run → Seen
seen zero run = record { entry = record { events = []; end = Past }; run = run }
seen (suc n) run = seen_by (answer_of run) (next_step run).events (advanced run) (seen n (advanced run))

-- what begins for a stimulus; the start is none
abbrev pub begun_for : Option Stimulus → StimId
begun_for None = Start
begun_for (Some (shown.Signal k values)) = Signal k
begun_for (Some (shown.Expiry k)) = Timer k

-- the values of a signal's parameters from this number on, one after the other
abbrev pub with_inputs : ℕ → ℕ → List Value → Run → Run
with_inputs signal k [] run = run
with_inputs signal k (v ∷ values) run = with_inputs signal (k + 1) values (with_input signal k v run)

abbrev pub with_values : Option Stimulus → Run → Run
with_values (Some (shown.Signal k values)) run = with_inputs k 0 values run
with_values (Some (shown.Expiry k)) run = run
with_values None run = run

-- its values are set, and then it begins
abbrev pub given : Option Stimulus → Run → Run
given x run = begins (begun_for x) (with_values x run)

-- the stimuli one after the other, as far as the run goes
abbrev pub seen_over : ℕ → List (Option Stimulus) → Run → List Shown
seen_over n [] run = []
seen_over n (x ∷ xs) run =
    let here = seen n (given x run) in here.entry ∷ goes_on here.entry.end (seen_over n xs here.run) []
