-- Traces of small runs, worked out by hand. The program outputs done twice for each go, and the index of its third go is outside
-- its array.
use Rattle.std.specs.Prelude.{◌≡◌, ℕ, List, [], ◌∷◌, ◌++◌, codes}
use Rattle.og_csubset.specs.declared.CProgram.{CProgram}
use Rattle.og_csubset.specs.Examples.{go_done, hand_written}
use Rattle.og_stim.specs.Trace.{Bytes, line}
use Rattle.og_trace.specs.declared.Outcome.{Outcome}
use Rattle.og_trace.specs.declared.Outcome.TheVariants as outcome
use Rattle.og_trace.specs.Traces.{run_text, run_outcome}

-- the bytes of lines
abbrev pub text_of : List Bytes → Bytes
text_of [] = []
text_of (l ∷ ls) = line l ++ text_of ls

-- a run over stimuli with so many statements writes these lines
abbrev pub Writes : CProgram → List Bytes → ℕ → List Bytes → Type 0
Writes P stimuli steps lines =
    run_text go_done P (record { bytes = codes "m.pr" } ∷ []) (codes "run.stim") (text_of stimuli) steps ≡ text_of lines

abbrev pub Ends : CProgram → List Bytes → ℕ → Outcome → Type 0
Ends P stimuli steps o = run_outcome go_done P (text_of stimuli) steps ≡ o

abbrev pub without_functions : CProgram
without_functions = record hand_written { functions = [] }

-- a comment and an empty line count, and an outgoing signal is no stimulus
abbrev pub BadLineIsShown : Type 0
BadLineIsShown =
    Writes hand_written (codes "# once" ∷ codes " Go " ∷ [] ∷ codes "done" ∷ codes "go" ∷ []) 10
    (codes "> start" ∷ codes "rest" ∷ codes "state idle" ∷ codes "> go" ∷ codes "output done" ∷ codes "output done"
    ∷ codes "rest" ∷ codes "state idle" ∷ codes "bad Q2 run.stim:4" ∷ [])

abbrev pub BadLineEnds : Type 0
BadLineEnds = Ends hand_written (codes "# once" ∷ codes " Go " ∷ [] ∷ codes "done" ∷ codes "go" ∷ []) 10 outcome.BadFile

-- the run is stuck before it comes to the bad line
abbrev pub StuckBeforeABadLine : Type 0
StuckBeforeABadLine =
    Writes hand_written (codes "go" ∷ codes "go" ∷ codes "go" ∷ codes "stop" ∷ []) 10
    (codes "> start" ∷ codes "rest" ∷ codes "state idle" ∷ codes "> go" ∷ codes "output done" ∷ codes "output done"
    ∷ codes "rest" ∷ codes "state idle" ∷ codes "> go" ∷ codes "output done" ∷ codes "output done" ∷ codes "rest"
    ∷ codes "state idle" ∷ codes "> go" ∷ codes "stuck Index" ∷ [])

abbrev pub StuckEnds : Type 0
StuckEnds = Ends hand_written (codes "go" ∷ codes "go" ∷ codes "go" ∷ codes "stop" ∷ []) 10 outcome.Stuck

-- four statements are not enough for go
abbrev pub CutAtFour : Type 0
CutAtFour =
    Writes hand_written (codes "go" ∷ codes "go" ∷ []) 4
    (codes "> start" ∷ codes "rest" ∷ codes "state idle" ∷ codes "> go" ∷ codes "output done" ∷ codes "output done"
    ∷ codes "past" ∷ [])

abbrev pub CutEnds : Type 0
CutEnds = Ends hand_written (codes "go" ∷ codes "go" ∷ []) 4 outcome.Past

abbrev pub NoStatement : Type 0
NoStatement = Writes hand_written (codes "go" ∷ []) 0 (codes "> start" ∷ codes "past" ∷ [])

-- a function that is not there needs no statement
abbrev pub NoFunction : Type 0
NoFunction = Writes without_functions (codes "go" ∷ []) 0 (codes "> start" ∷ codes "stuck Value" ∷ [])

abbrev pub AllDone : Type 0
AllDone = Ends hand_written (codes "go" ∷ codes "go" ∷ []) 5 outcome.Done
