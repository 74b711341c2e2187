-- What a run shows: for the start and for each stimulus the events in their order, and how it ended. The meaning of a
-- model and the meaning of a program of the C subset both give a list of these, so that the two can be equal. A transition
-- of Z.101 runs to its end before the next signal is taken: so there is one entry for each stimulus.
use Rattle.std.specs.Prelude.{◌≡◌, ℕ, ℤ, List, [], ◌∷◌, ◌++◌, Bool, true, false, ⊤}
use Rattle.std.specs.List.{list_any, AllByRecursion}
use Rattle.og_base.specs.declared.Place.{Place}
use Rattle.og_names.specs.declared.NameId.{NameId}
use Rattle.og_types.specs.declared.Value.{Value}
use Rattle.og_model.specs.declared.FaultKind.{FaultKind}
use Rattle.og_model.specs.declared.StuckRule.{StuckRule}

-- Signals and timers go by their numbers in the model.
pub data Event : Type 0 where
  Output : (signal : ℕ) (values : List Value) → Event
  Set : (timer : ℕ) (duration : ℤ) → Event
  Reset : (timer : ℕ) → Event

-- Variables stand in the order of the model, and for each timer whether it is active. A path goes from a state of the
-- process inward, by the names of states and partitions, to an active basic state; the paths stand in the order of the text.
-- Past says that the run needed more units or statements than it was given, Stuck that a program could not go on.
pub data End : Type 0 where
  Rest : (paths : List (List NameId)) (variables : List Value) (timers : List Bool) → End
  Fault : (kind : FaultKind) (place : Place) (variables : List Value) (timers : List Bool) → End
  Stopped : (variables : List Value) → End
  Past : End
  Stuck : (rule : StuckRule) → End

pub record Shown : Type 0 where
  pub events : List Event
  pub end : End

-- What comes to a process: an incoming signal with the values of its parameters, or the expiry of a timer.
pub data Stimulus : Type 0 where
  Signal : (signal : ℕ) (values : List Value) → Stimulus
  Expiry : (timer : ℕ) → Stimulus

abbrev pub is_past : End → Bool
is_past (Rest paths variables timers) = false
is_past (Fault kind place variables timers) = false
is_past (Stopped variables) = false
is_past Past = true
is_past (Stuck rule) = false

abbrev pub is_stuck : End → Bool
is_stuck (Rest paths variables timers) = false
is_stuck (Fault kind place variables timers) = false
is_stuck (Stopped variables) = false
is_stuck Past = false
is_stuck (Stuck rule) = true

abbrev pub has_past : List Shown → Bool
has_past list = list_any (λ (entry : Shown). is_past entry.end) list

abbrev pub has_stuck : List Shown → Bool
has_stuck list = list_any (λ (entry : Shown). is_stuck entry.end) list

-- the whole begins with the events of the front
abbrev pub IsFront : List Event → List Event → Type 0
IsFront front whole = (rest : List Event) × (whole ≡ front ++ rest)

-- an entry that ended stays, and one that was cut short goes on after its events
abbrev pub BeginsEntry : End → List Event → Shown → Shown → Type 0
BeginsEntry (Rest paths variables timers) events entry later = entry ≡ later
BeginsEntry (Fault kind place variables timers) events entry later = entry ≡ later
BeginsEntry (Stopped variables) events entry later = entry ≡ later
BeginsEntry Past events entry later = IsFront events later.events
BeginsEntry (Stuck rule) events entry later = entry ≡ later

-- the later list has at least as many entries, and each entry of the earlier one begins the one there
abbrev pub Begins : List Shown → List Shown → Type 0
Begins [] later = Unit {0}
Begins (entry ∷ earlier) [] = ⊥
Begins (entry ∷ earlier) (other ∷ later) =
    BeginsEntry entry.end entry.events entry other × Begins earlier later

-- P where more may follow, and Q where nothing does
abbrev pub IfMoreFollows : End → Type 0 → Type 0 → Type 0
IfMoreFollows (Rest paths variables timers) P Q = P
IfMoreFollows (Stopped variables) P Q = P
IfMoreFollows (Fault kind place variables timers) P Q = Q
IfMoreFollows Past P Q = Q
IfMoreFollows (Stuck rule) P Q = Q

-- there is an entry for the start and then one for each stimulus, and nothing after Fault, Past or Stuck
abbrev pub AnswersEach : List Stimulus → List Shown → Type 0
AnswersEach xs [] = ⊥
AnswersEach [] (a ∷ later) = later ≡ []
AnswersEach (x ∷ xs) (a ∷ later) = IfMoreFollows a.end (AnswersEach xs later) (later ≡ [])

-- no event, and Stopped with these variables
abbrev pub ShowsNothing : List Value → Shown → Type 0
ShowsNothing variables a = a ≡ record { events = []; end = Stopped variables }

abbrev pub AfterStopped : End → List Shown → Type 0
AfterStopped (Stopped variables) later = AllByRecursion (ShowsNothing variables) later
AfterStopped (Rest paths variables timers) later = ⊤
AfterStopped (Fault kind place variables timers) later = ⊤
AfterStopped Past later = ⊤
AfterStopped (Stuck rule) later = ⊤

-- after an entry that has stopped, nothing is shown
abbrev pub StaysStopped : List Shown → Type 0
StaysStopped [] = ⊤
StaysStopped (a ∷ later) = AfterStopped a.end later × StaysStopped later
