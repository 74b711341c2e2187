-- What it is that code carries out a doing of the meaning. From a place where the doing begins the code shows the same events and
-- comes to where the outcome leads it, or all units are used up, and it has shown as much and runs on. Each unit has a statement of
-- its own, and between the beginnings of two units no place is passed twice; so with the doing goes which places it passes.
use Rattle.std.specs.Prelude.{◌≡◌, ℕ, suc, ◌+◌, ◌≤◌, Bool, false, List, ◌++◌, ◌⊎◌, IsTrue}
use Rattle.og_base.specs.declared.Place.{Place}
use Rattle.og_model.specs.declared.FaultKind.{FaultKind}
use Rattle.og_model.specs.Shown as Shows
use Rattle.og_model.specs.Shown.{Event}
use Rattle.og_model.specs.Units.{State, Outcome, Done, Stop, Fault, Out, Ran, Doing, after_events}
use Rattle.og_model.specs.Configuration.{Active}
use Rattle.og_ir.specs.declared.Ir.{Ir}
use Rattle.og_ir.specs.Cells.{Cells}
use Rattle.og_ir.specs.Steps as Steps
use Rattle.og_ir.specs.Steps.{Frame, Config, Running, Over}
use Rattle.og_csubset.specs.Paced.{Pace, IsPace}
use Rattle.og_csubset.specs.Run.{Machine}
use Rattle.og_follow.specs.Answers.{AtRest, AtHalt}
use Rattle.og_follow.specs.Passing.{Passed, none_passed}
use Rattle.og_follow.specs.Tracks.{Track, Stands}

-- the code that is followed: what one step does, at which places a unit begins, how many statements each place takes,
-- and the functions
pub record Code : Type 0 where
  pub step : Config → Steps.Ran Event
  pub unit_at : Frame → Bool
  pub pace : Pace
  pub is_pace : IsPace pace
  pub ir : Ir

-- ---- where a run stands

-- how the state of the meaning and the configuration of the code belong together
abbrev pub Standing : Type 1
Standing = State → Config → Type 0

-- the code is at a place of a function, and the slots stand for the state
pub record StandsAt (frame : Frame) (callers : List Frame) (slots_are : State → List Cells → Type 0) (s : State) (now : Config) : Type 0 where
  pub slots : List Cells
  pub is : now ≡ Running slots frame callers
  pub are : slots_are s slots

-- no function has returned to outside
pub record IsRunning (now : Config) : Type 0 where
  pub slots : List Cells
  pub frame : Frame
  pub callers : List Frame
  pub is : now ≡ Running slots frame callers

-- the same, with this state alone
abbrev pub in_state : State → Standing → Standing
in_state fixed before s now = (s ≡ fixed) × before s now

-- where each outcome leads
abbrev pub Exits : Type 0 → Type 1
Exits A = Outcome A → Standing

-- where one leads at a stop and at a fault, the other does
abbrev pub EndsAlike : {A B : Type 0} → Exits A → Exits B → Type 0
EndsAlike mid after =
    ((s : State) (now : Config) → mid Stop s now → after Stop s now)
    × ((kind : FaultKind) (place : Place) (s : State) (now : Config) → mid (Fault kind place) s now → after (Fault kind place) s now)

-- one outcome alone leads anywhere
abbrev pub only : {A : Type 0} → Outcome A → Standing → Exits A
only there standing o s now = (o ≡ there) × standing s now

-- ---- places

abbrev pub Places : Type 1
Places = ℕ → ℕ → Type 0

abbrev pub nowhere : Places
nowhere f p = ⊥

abbrev pub place : ℕ → ℕ → Places
place f p g q = (g ≡ f) × (q ≡ p)

abbrev pub either : Places → Places → Places
either X Y f p = X f p ⊎ Y f p

-- at each of these places a unit begins, or at none
abbrev pub Each : (Frame → Bool) → Bool → Places → Type 0
Each unit_at begins X = (frame : Frame) → X frame.function frame.place → unit_at frame ≡ begins

-- these places, if something holds
abbrev pub where_so : Type 0 → Places → Places
where_so So X f p = So × X f p

abbrev pub Apart : Places → Places → Type 0
Apart X Y = (f p : ℕ) → X f p → Y f p → ⊥

abbrev pub Among : Places → Places → Type 0
Among X Y = (f p : ℕ) → X f p → Y f p

-- none of the places was passed
abbrev pub Free : Passed → Places → Type 0
Free seen X = (f p : ℕ) → X f p → seen f p ≡ false

-- what was passed later was passed before, or is one of the places
abbrev pub Within : Passed → Passed → Places → Type 0
Within later seen X = (f p : ℕ) → seen f p ≡ false → (X f p → ⊥) → later f p ≡ false

-- The places that a doing passes: `head` before its first unit, `near` from there to its second, where its first one is also
-- the first of the stimulus, and `tail` from its first unit to its end. It takes at least so many units before it is done.
pub record Ways : Type 1 where
  pub head : Places
  pub near : Places
  pub tail : Places
  pub least : ℕ

-- ---- doings

-- events before what is done
abbrev pub showing_each : {A : Type 0} → List Event → Doing A → Doing A
showing_each shown d n s = after_events shown (d n s)

-- what is done depends on the state in which it begins
abbrev pub by_state : {A : Type 0} → (State → Doing A) → Doing A
by_state d n s = d s n s

-- what is done in another state
abbrev pub becoming : {A : Type 0} → (State → State) → Doing A → Doing A
becoming change d n s = d n (change s)

-- what is done with as much fuel as there are units
abbrev pub by_units : {A : Type 0} → (ℕ → Doing A) → Doing A
by_units d n s = d n n s

-- ---- a run so far

-- the units that were begun, the statements, the events, the places since the last unit, and where the run is
pub record Point : Type 0 where
  pub units : ℕ
  pub statements : ℕ
  pub events : List Event
  pub seen : Passed
  pub now : Config

-- from its first configuration on the code has come to this point
abbrev pub Follows : Code → Config → Point → Type 0
Follows code first x = Track code.step code.unit_at code.pace code.ir first x.units x.statements x.events x.seen x.now

-- ---- code without a unit

pub record Gone (code : Code) (first : Config) (from : Point) (shown : List Event) (after : State → Config → Type 0) (X : ℕ → ℕ → Type 0) (s : State) : Type 0 where
  pub to : Point
  pub follows : Follows code first to
  pub units : to.units ≡ from.units
  pub events : to.events ≡ from.events ++ shown
  pub there : after s to.now
  pub passed : Within to.seen from.seen X

-- from one standing to another the code shows these events, passes these places, and begins no unit
pub record Passes (code : Code) (before : Standing) (shown : List Event) (after : Standing) (X : Places) : Type 0 where
  pub passes : (first : Config) (from : Point) (s : State) → Follows code first from → before s from.now → Free from.seen X
      → Gone code first from shown after X s

-- one step of the code
pub record Moves (code : Code) (shown : List Event) (after : Config → Type 0) (X : Places) (now : Config) : Type 0 where
  pub slots : List Cells
  pub frame : Frame
  pub callers : List Frame
  pub is : now ≡ Running slots frame callers
  pub stands : Stands code.ir frame
  pub among : X frame.function frame.place
  pub next : Config
  pub does : code.step now ≡ record { events = shown; config = next }
  pub there : after next

-- ---- code that begins a unit

pub record Begun (code : Code) (first : Config) (from : Point) (shown : List Event) (after : State → Config → Type 0) (X : ℕ → ℕ → Type 0) (s : State) : Type 0 where
  pub to : Point
  pub follows : Follows code first to
  pub units : to.units ≡ suc from.units
  pub events : to.events ≡ from.events ++ shown
  pub there : after s to.now
  pub passed : Within to.seen from.seen X
  -- what was passed before the unit counts only where it is the first one
  pub anew : 1 ≤ from.units → Within to.seen none_passed X

-- from one standing to another the code begins a unit with its next step, shows these events and passes these places
pub record Begins (code : Code) (before : Standing) (shown : List Event) (after : Standing) (X : Places) : Type 0 where
  pub runs : (s : State) (now : Config) → before s now → IsRunning now
  pub begins : (first : Config) (from : Point) (s : State) → Follows code first from → before s from.now
      → (from.units ≡ 0 → Free from.seen X) → Begun code first from shown after X s

-- ---- code that carries out a doing

-- its places can be passed where so many units were begun and these places were passed
pub record Fits (P : Ways) (units : ℕ) (seen : Passed) : Type 0 where
  pub head : Free seen P.head
  pub near : units ≡ 0 → Free seen P.near

-- what was passed since the last unit, where so many were begun and so many more were taken
pub record PassedBy (P : Ways) (begun taken : ℕ) (seen later : Passed) : Type 0 where
  pub none : taken ≡ 0 → Within later seen P.head
  pub one : begun ≡ 0 → taken ≡ 1 → Within later seen (either P.head P.near)
  pub more : 1 ≤ taken → 2 ≤ begun + taken → Within later none_passed P.tail

abbrev pub AtLeast : {A : Type 0} → ℕ → ℕ → Outcome A → Type 0
AtLeast least taken (Done a) = least ≤ taken
AtLeast least taken _ = Unit {0}

-- the doing came to an outcome, and the code to where it leads
pub record Arrives {A : Type 0} (code : Code) (first : Config) (from : Point) (n : ℕ) (r : Ran A) (after : Exits A) (P : Ways) : Type 0 where
  pub to : Point
  pub follows : Follows code first to
  pub taken : ℕ
  pub units : to.units ≡ from.units + taken
  pub counts : taken + r.left ≡ n
  pub least : AtLeast P.least taken r.outcome
  pub events : to.events ≡ from.events ++ r.events
  pub ended : r.outcome ≡ Out → ⊥
  pub there : after r.outcome r.state to.now
  pub passed : PassedBy P from.units taken from.seen to.seen

-- the units are used up, and the code runs on
pub record UsesUp {A : Type 0} (code : Code) (first : Config) (from : Point) (n : ℕ) (r : Ran A) : Type 0 where
  pub to : Point
  pub follows : Follows code first to
  pub units : to.units ≡ from.units + n
  pub events : to.events ≡ from.events ++ r.events
  pub out : r.outcome ≡ Out
  pub runs : IsRunning to.now

abbrev pub Carried : {A : Type 0} → Code → Config → Point → ℕ → Ran A → Exits A → Ways → Type 0
Carried code first from n r after P = Arrives code first from n r after P ⊎ UsesUp code first from n r

-- with at most so many units the code carries out the doing: from where it begins to where its outcome leads
pub record CarriesOut {A : Type 0} (code : Code) (fuel : ℕ) (d : Doing A) (before : Standing) (after : Exits A) (P : Ways) : Type 0 where
  pub carries : (first : Config) (from : Point) (n : ℕ) (s : State) → n ≤ fuel → Follows code first from → before s from.now
      → Fits P from.units from.seen → Carried code first from n (d n s) after P

-- ---- the places of doings that are put together

abbrev pub no_places : Ways
no_places = record { head = nowhere; near = nowhere; tail = nowhere; least = 0 }

-- some places before it
abbrev pub behind : Places → Ways → Ways
behind X P = record { head = either X P.head; near = P.near; tail = P.tail; least = P.least }

-- a unit that begins at one of these places before it
abbrev pub behind_unit : Places → Ways → Ways
behind_unit X P = record {
  head = nowhere;
  near = either X P.head;
  tail = either X (either P.head P.tail);
  least = suc P.least;
}

-- some places after it, whatever its outcome
abbrev pub before_places : Ways → Places → Ways
before_places P X = record { head = either P.head X; near = either P.near X; tail = either P.tail X; least = P.least }

-- another doing after it: what this one passes before its first unit belongs to where the first one has come to
abbrev pub one_then : Ways → Ways → Ways
one_then P Q = record {
  head = either P.head (where_so (P.least ≡ 0) Q.head);
  near = either P.near (either (where_so (P.least ≤ 1) Q.head) (where_so (P.least ≡ 0) Q.near));
  tail = either P.tail (either Q.head Q.tail);
  least = P.least + Q.least;
}

-- the places of one doing and those of the next lie apart where no unit comes between them
pub record CanFollow (P Q : Ways) : Type 0 where
  pub tail : Apart Q.head P.tail
  pub head : P.least ≤ 1 → Apart Q.head P.head
  pub near : P.least ≤ 1 → Apart Q.head P.near
  pub both : P.least ≡ 0 → Apart Q.near P.head

-- the places of one are places of the other, and it takes as many units
pub record Narrower (P Q : Ways) : Type 0 where
  pub head : Among P.head Q.head
  pub near : Among P.near Q.near
  pub tail : Among P.tail Q.tail
  pub least : Q.least ≤ P.least

-- ---- the same as tests

-- A contract speaks of relations and places by tests: every relation is one, as far as its truth goes.
abbrev pub Test : Type 0
Test = State → Config → Bool

abbrev pub told : Test → Standing
told test s now = IsTrue (test s now)

abbrev pub Leads : Type 0 → Type 0
Leads A = Outcome A → Test

abbrev pub led : {A : Type 0} → Leads A → Exits A
led leads o s now = IsTrue (leads o s now)

abbrev pub listed : Passed → Places
listed places f p = IsTrue (places f p)

pub record Routes : Type 0 where
  pub head : Passed
  pub near : Passed
  pub tail : Passed
  pub least : ℕ

abbrev pub ways : Routes → Ways
ways routes = record { head = listed routes.head; near = listed routes.near; tail = listed routes.tail; least = routes.least }

-- code that carries out a doing with every number of units
abbrev pub Always : {A : Type 0} → Code → Doing A → Standing → Exits A → Ways → Type 0
Always code d before after P = (fuel : ℕ) → CarriesOut code fuel d before after P

-- ---- the start, or a stimulus

-- the code of a machine at a pace, with the places where units begin
abbrev pub code_at : Machine → (Frame → Bool) → (pace : Pace) → IsPace pace → Ir → Code
code_at machine unit_at pace is_pace ir = record { step = machine.step; unit_at = unit_at; pace = pace; is_pace = is_pace; ir = ir }

-- the code has returned to outside, with slots of the process at rest, stopped or after a fault
abbrev pub Returned : AtRest → AtHalt → Machine → Exits Active
Returned Rests Halts machine (Done a) s now = (slots : List Cells) × (now ≡ Over slots) × Rests a s slots
Returned Rests Halts machine Stop s now = (slots : List Cells) × (now ≡ Over slots) × Halts s slots
Returned Rests Halts machine (Fault kind place) s now =
    (slots : List Cells) × (now ≡ Over slots) × (machine.ending slots ≡ Shows.Fault kind place s.store.variables s.timers)
Returned Rests Halts machine Out s now = ⊥
