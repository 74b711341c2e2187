-- What code has to do for the forms of the meaning that are hardest to follow: a call, the entering of partitions, and continuous
-- signals that fire again. No code is made for these forms; the laws try the definition of what it is to carry out a doing.
use Rattle.std.specs.Prelude.{◌≡◌, ℕ, suc, ◌≤◌, List, [], ◌∷◌, length, Option, Some, None, ⊤, Bool, true, false, Result, Ok, Err}
use Rattle.og_names.specs.declared.NameId.{NameId}
use Rattle.og_types.specs.declared.Value.{Value}
use Rattle.og_model.specs.declared.FaultKind.{FaultKind}
use Rattle.og_model.specs.declared.Model.{Model}
use Rattle.og_model.specs.declared.Partition.{Partition, out-Partition}
use Rattle.og_model.specs.declared.Proc.{Proc}
use Rattle.og_model.specs.Expressions.{Passed, eval, no_frame, truth_of}
use Rattle.og_model.specs.Units.{State, Done, Fault, spend}
use Rattle.og_model.specs.Actions.{Going, Ended, Next, Dash, Return, going_at, own_values, with_call, calls_below, start_of, setting_of, called_with, run}
use Rattle.og_model.specs.Configuration.{Active, Parts, add_part}
use Rattle.og_model.specs.Moving.{Arrival, Entering, hook, started, in_partition, enter_parts, fire}
use Rattle.og_model.specs.Settling.{Continuous, continuous_of, ordered}
use Rattle.og_ir.specs.Steps.{Config}
use Rattle.og_follow.specs.Carrying.{Code, Standing, IsRunning, in_state, Exits, Places, nowhere, either, Apart, Ways, EndsAlike, Passes, Begins, CarriesOut, one_then, CanFollow}

-- ---- a call

-- with the variables of a call
abbrev pub in_call : Proc → List Passed → State → State
in_call p ps s = record s { store = with_call (own_values ps p.locals) s.store }

-- without the calls from this number on
abbrev pub behind_call : ℕ → State → State
behind_call k s = record s { store = calls_below k s.store }

-- Code carries out the body of a procedure, the k-th call that runs; it ends with a return alone.
pub record CarriesCall (code : Code) (fuel : ℕ) (go : Going) (p : Proc) (ps : List Passed) (k : ℕ) (before inside : Standing) (mid : Exits Ended) (after : Exits (Option Value)) (P : Ways) : Type 0 where
  pub depth : (s : State) (now : Config) → before s now → length s.store.calls ≡ k
  pub begins : (s : State) (now : Config) → before s now → inside (in_call p ps s) now
  pub body : CarriesOut code fuel (going_at go (setting_of p k ps) (start_of p.bodies)) inside mid P
  pub returns : (exit : Option NameId) (v : Option Value) (s : State) (now : Config) → mid (Done (Return exit v)) s now → after (Done v) (behind_call k s) now
  pub no_state : (j : ℕ) (entry : Option NameId) (s : State) (now : Config) → mid (Done (Next j entry)) s now → ⊥
  pub no_dash : (s : State) (now : Config) → mid (Done Dash) s now → ⊥
  pub ends : EndsAlike mid after

-- Code carries out the calls of a procedure that may call itself: it carries out the body with one unit more wherever
-- it carries out every call of the procedure, at any depth of calls, with the units before. The places are the same at
-- each depth.
pub record CallsItself (code : Code) (M : Model) (p : Proc) (calling inside : ℕ → List Passed → Standing) (mid : ℕ → List Passed → Exits Ended) (after : ℕ → List Passed → Exits (Option Value)) (P : Ways) : Type 0 where
  pub depth : (k : ℕ) (ps : List Passed) (s : State) (now : Config) → calling k ps s now → length s.store.calls ≡ k
  pub begins : (k : ℕ) (ps : List Passed) (s : State) (now : Config) → calling k ps s now → inside k ps (in_call p ps s) now
  pub runs : (k : ℕ) (ps : List Passed) (s : State) (now : Config) → inside k ps s now → IsRunning now
  pub body : (fuel k : ℕ) (ps : List Passed) → ((j : ℕ) (qs : List Passed) → CarriesOut code fuel (called_with (run fuel M) (Some p) qs) (calling j qs) (after j qs) P)
      → CarriesOut code (suc fuel) (going_at (run (suc fuel) M) (setting_of p k ps) (start_of p.bodies)) (inside k ps) (mid k ps) P
  pub returns : (k : ℕ) (ps : List Passed) (exit : Option NameId) (v : Option Value) (s : State) (now : Config) → mid k ps (Done (Return exit v)) s now → after k ps (Done v) (behind_call k s) now
  pub no_state : (k : ℕ) (ps : List Passed) (j : ℕ) (entry : Option NameId) (s : State) (now : Config) → mid k ps (Done (Next j entry)) s now → ⊥
  pub no_dash : (k : ℕ) (ps : List Passed) (s : State) (now : Config) → mid k ps (Done Dash) s now → ⊥
  pub ends : (k : ℕ) (ps : List Passed) → EndsAlike (mid k ps) (after k ps)

-- ---- partitions

-- Code enters a partition and then the further ones: its `entry` with the unit that it costs, its start, what follows where that
-- has returned, and the others. Where one of these stops or fails, what was entered before stays as it is.
pub record EntersPartitions (code : Code) (fuel : ℕ) (M : Model) (enter : Entering) (q : Partition) (qs : List Partition) (before : Standing) (hooked : Exits ⊤) (arrived : Exits Arrival) (parted : Exits (Option Active)) (others : Option Active → Exits Parts) (after : Exits Parts) (H S R T : Ways) : Type 0 where
  pub entry : CarriesOut code fuel (spend (hook M (out-Partition q).entry)) before hooked H
  pub start : CarriesOut code fuel (started M enter (out-Partition q).inner None) (hooked (Done tt)) arrived S
  pub part : (x : Arrival) → CarriesOut code fuel (in_partition M (out-Partition q).exit x) (arrived (Done x)) parted R
  pub more : (a : Option Active) → CarriesOut code fuel (enter_parts M enter qs) (parted (Done a)) (others a) T
  pub done : (a : Option Active) (ps : Parts) (s : State) (now : Config) → others a (Done ps) s now → after (Done (add_part a ps)) s now
  pub entry_ends : EndsAlike hooked after
  pub start_ends : EndsAlike arrived after
  pub part_ends : EndsAlike parted after
  pub more_ends : (a : Option Active) → EndsAlike (others a) after
  pub third : CanFollow R T
  pub second : CanFollow S (one_then R T)
  pub first : CanFollow H (one_then S (one_then R T))

-- One of several partitions: its `entry`, its start, and what follows where that has returned.
pub record EntersOne (code : Code) (fuel : ℕ) (M : Model) (enter : Entering) (q : Partition) (before : Standing) (hooked : Exits ⊤) (arrived : Exits Arrival) (parted : Exits (Option Active)) (after : Exits Parts) (H S R : Ways) : Type 0 where
  pub entry : CarriesOut code fuel (spend (hook M (out-Partition q).entry)) before hooked H
  pub start : CarriesOut code fuel (started M enter (out-Partition q).inner None) (hooked (Done tt)) arrived S
  pub part : (x : Arrival) → CarriesOut code fuel (in_partition M (out-Partition q).exit x) (arrived (Done x)) parted R
  pub entry_ends : EndsAlike hooked after
  pub start_ends : EndsAlike arrived after
  pub part_ends : EndsAlike parted after

-- no result
abbrev pub without_result : {A : Type 0} → Exits A → Exits A
without_result after (Done a) s now = ⊥
without_result after o s now = after o s now

-- The last partition, whose start does nothing but fail, or stop.
pub record FailsInLast (code : Code) (fuel : ℕ) (M : Model) (enter : Entering) (q : Partition) (before : Standing) (hooked : Exits ⊤) (failed : Exits Arrival) (after : Exits Parts) (H S : Ways) : Type 0 where
  pub entry : CarriesOut code fuel (spend (hook M (out-Partition q).entry)) before hooked H
  pub start : CarriesOut code fuel (started M enter (out-Partition q).inner None) (hooked (Done tt)) failed S
  pub never : (x : Arrival) (s : State) (now : Config) → failed (Done x) s now → ⊥
  pub entry_ends : EndsAlike hooked after
  pub start_ends : EndsAlike failed after
  pub first : CanFollow H S

-- ---- continuous signals

-- where the test of a continuous signal leads: the signal fires, the next one is tested, or the test has failed
abbrev pub by_truth : Bool → Standing → Standing → Standing
by_truth true fires next = fires
by_truth false fires next = next

abbrev pub where_tested : Continuous → Standing → Standing → Exits Active → Result Value FaultKind → Standing
where_tested x fires next after (Ok v) = by_truth (truth_of v) fires next
where_tested x fires next after (Err kind) = after (Fault kind x.place)

-- the places of the tests, where one passes X, firing passes F, and T leads from there to the tests again
abbrev pub testing : Places → Places → Ways → Ways
testing T X F = record { head = nowhere; near = either X F.head; tail = either X (either F.head (either F.tail T)); least = 0 }

-- Code tests the continuous signals of the active states one after the other, fires the first that holds, and does so again until
-- none holds. Firing costs at least two units: its transition ends, and a state is entered.
pub record Settles (code : Code) (M : Model) (settling : Active → Standing) (tests : Active → List Continuous → Standing) (firing : Active → Continuous → Standing) (fired : Exits Active) (after : Exits Active) (T X : Places) (F : Ways) : Type 0 where
  pub top : (a : Active) → Passes code (settling a) [] (tests a (ordered (continuous_of M.root a))) T
  pub test : (a : Active) (x : Continuous) (xs : List Continuous) (s : State)
      → Begins code (in_state s (tests a (x ∷ xs))) [] (where_tested x (firing a x) (tests a xs) after (eval no_frame s.store x.condition)) X
  pub fires : (fuel : ℕ) (a : Active) (x : Continuous) → CarriesOut code fuel (fire M x.address x.body a) (firing a x) fired F
  pub again : (a : Active) (s : State) (now : Config) → fired (Done a) s now → settling a s now
  pub ends : EndsAlike fired after
  pub rests : (a : Active) (s : State) (now : Config) → tests a [] s now → after (Done a) s now
  pub two : 2 ≤ F.least
  pub head_apart : Apart F.head X
  pub tests_apart : Apart X T
  pub top_apart : Apart F.head T
  pub again_apart : Apart T F.tail
