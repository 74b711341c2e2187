-- Doing something in units of work. A transition of Z.101 takes no time and may run on for ever; here what is done costs
-- units, this project's own count, and each doing is given some. It shows events, leaves a state and units behind, and
-- has an outcome: it is done with a result, the process has stopped, an action has failed, or a further unit was needed.
use Rattle.std.specs.Prelude.{ℕ, zero, suc, Bool, List, [], ◌∷◌, ◌++◌, Result, Ok, Err}
use Rattle.og_base.specs.declared.Place.{Place}
use Rattle.og_model.specs.declared.FaultKind.{FaultKind}
use Rattle.og_model.specs.Expressions.{Store}
use Rattle.og_model.specs.Shown.{Event}

-- the values of the variables, and of each timer whether it is active
pub record State : Type 0 where
  pub store : Store
  pub timers : List Bool

-- Out says that a further unit was needed, or that the tree is one that no text gives
pub data Outcome (A : Type 0) : Type 0 where
  Done : (result : A) → Outcome A
  Stop : Outcome A
  Fault : (kind : FaultKind) (place : Place) → Outcome A
  Out : Outcome A

-- what was shown, the state and the units after it, and how it went
pub record Ran (A : Type 0) : Type 0 where
  pub events : List Event
  pub state : State
  pub left : ℕ
  pub outcome : Outcome A

-- what is done with the units and the state that it is given
abbrev pub Doing : Type 0 → Type 0
Doing A = ℕ → State → Ran A

-- an outcome at once
abbrev pub ends : {A : Type 0} → Outcome A → Doing A
ends o n s = record { events = []; state = s; left = n; outcome = o }

abbrev pub gives : {A : Type 0} → A → Doing A
gives a = ends (Done a)

abbrev pub runs_out : {A : Type 0} → Doing A
runs_out = ends Out

-- the same after earlier events
abbrev pub after_events : {A : Type 0} → List Event → Ran A → Ran A
after_events es r = record { events = es ++ r.events; state = r.state; left = r.left; outcome = r.outcome }

-- an event, and then the rest
abbrev pub showing : {A : Type 0} → Event → Doing A → Doing A
showing e rest n s = after_events (e ∷ []) (rest n s)

abbrev pub go_on : {A B : Type 0} → Outcome A → List Event → ℕ → State → (A → Doing B) → Ran B
go_on (Done a) es n s next = after_events es (next a n s)
go_on Stop es n s next = record { events = es; state = s; left = n; outcome = Stop }
go_on (Fault kind place) es n s next = record { events = es; state = s; left = n; outcome = Fault kind place }
go_on Out es n s next = record { events = es; state = s; left = n; outcome = Out }

-- the first, and where it is done the second with its result
abbrev pub then_do : {A B : Type 0} → Doing A → (A → Doing B) → Doing B
then_do first next n s = let r = first n s in go_on r.outcome r.events r.left r.state next

-- takes a unit first
abbrev pub spend : {A : Type 0} → Doing A → Doing A
spend rest zero s = runs_out zero s
spend rest (suc n) s = rest n s

-- goes on with a value, or fails at the place
abbrev pub or_fault : {A B : Type 0} → Place → Result A FaultKind → (A → Doing B) → Doing B
or_fault place (Ok a) next = next a
or_fault place (Err kind) next = ends (Fault kind place)

-- goes on with another store
abbrev pub storing : {A : Type 0} → Store → Doing A → Doing A
storing store rest n s = rest n (record s { store = store })

-- goes on with other active timers
abbrev pub timing : {A : Type 0} → List Bool → Doing A → Doing A
timing timers rest n s = rest n (record s { timers = timers })
