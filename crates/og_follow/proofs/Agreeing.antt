-- From what the code does at each single stimulus to what it shows for a list: where the start and each stimulus are answered
-- as the meaning of the model answers them, the five clauses of agreement hold.
use Rattle.std.proofs.Common.{◌≡◌, ℕ, ◌+◌, ◌-◌, ◌*◌, ◌≤◌, nat_le, Bool, true, false, List, [], ◌∷◌, ◌++◌, map, Some, None, ◌⊎◌, inl, inr, refl, sym, ap, subst, ◌∙◌, arith, IsTrue}
use Rattle.std.specs.List.{list_all}
use Rattle.std.proofs.lemmas.Bool.{false≢true, leb-true, leb-false}
use Rattle.std.proofs.lemmas.List.{append-nil}
use Rattle.og_base.specs.declared.Place.{Place}
use Rattle.og_names.specs.declared.NameId.{NameId}
use Rattle.og_types.specs.declared.Value.{Value}
use Rattle.og_model.specs.declared.Model.{Model}
use Rattle.og_model.specs.declared.FaultKind.{FaultKind}
use Rattle.og_model.specs.Shown as Shows
use Rattle.og_model.specs.Shown.{Event, End, Shown, Stimulus, has_past, has_stuck, IsFront, Begins}
use Rattle.og_model.specs.Units.{State, Outcome, Done, Stop, Fault, Out}
use Rattle.og_model.specs.Configuration.{Active, paths_of}
use Rattle.og_model.specs.Run.{first_state, start, step, end_of, shown_stopped, follow, sdl}
use Rattle.og_ir.specs.Cells.{Cells}
use Rattle.og_ir.specs.Steps as Steps
use Rattle.og_ir.specs.Steps.{Frame, Config, Running, Over, Broken}
use Rattle.og_csubset.specs.Agreement.{is_stimulus, AreStimuli, SameRuns}
use Rattle.og_csubset.specs.Paced.{Pace, paced_runs}
use Rattle.og_csubset.specs.Run.{Machine, goes_on, shown_by, shown_of, all_stimuli}
use Rattle.og_follow.specs.Answers.{Stays, after, Ended, RunsOn, AtRest, AtHalt, AnswersBy, Simulates}
use Rattle.og_follow.proofs.PacedSteps.{Later, goes_later}
use Rattle.og_names.proofs.Truths.{both_first as left_of, both_second as right_of}

-- ---- some statements of an answer

-- it is complete, or it has shown some of its events and runs on
pub record Midway (machine : Machine) (pace : Pace) (m : ℕ) (config : Config) (events : List Event) : Type 0 where
  pub slots : List Cells
  pub frame : Frame
  pub callers : List Frame
  pub so_far : List Event
  pub goes : after machine pace m config ≡ record { events = so_far; config = Running slots frame callers }
  pub front : IsFront so_far events

abbrev Complete : Machine → Pace → ℕ → Config → List Event → List Cells → Type 0
Complete machine pace m config events slots = after machine pace m config ≡ record { events = events; config = Over slots }

-- more statements change nothing
complete_later : (machine : Machine) → Stays machine.step → (pace : Pace) (j m : ℕ) (config : Config) (events : List Event) (slots : List Cells) → j ≤ m → Complete machine pace j config events slots → Complete machine pace m config events slots
complete_later machine stays pace j m config events slots le done =
    let later = goes_later pace machine.step stays j (m - j) 0 config in
    let e : j + (m - j) ≡ m = omega (arith, le) in
    ap (λ k. after machine pace k config) (sym e) ∙ later.over slots (ap (λ ran. ran.config) done) ∙ done

-- where a longer run has come to a running configuration, a shorter one runs as well; where a longer one is over, a shorter one
-- is over with the same events or runs
abbrev Before : Machine → Pace → ℕ → Config → Steps.Ran Event → Type 0
Before machine pace m config long = (after machine pace m config ≡ long) ⊎ Midway machine pace m config long.events

before_by : (machine : Machine) (pace : Pace) (m : ℕ) (config : Config) (long short : Steps.Ran Event) → after machine pace m config ≡ short → Later pace machine.step short long → (t : Config) → short.config ≡ t → (((trouble : _) → long.config ≡ Broken trouble → ⊥)) → Before machine pace m config long
before_by machine pace m config long short is later (Running slots frame callers) e whole = inr (record {
  slots = slots;
  frame = frame;
  callers = callers;
  so_far = short.events;
  goes = is ∙ ap (λ c. record { events = short.events; config = c }) e;
  front = (later.events, later.shown);
})
before_by machine pace m config long short is later (Over slots) e whole = inl (is ∙ sym (later.over slots e))
before_by machine pace m config long short is later (Broken trouble) e whole =
    absurd (whole trouble (ap (λ ran. ran.config) (later.broken trouble e) ∙ e))

pub before : (machine : Machine) → Stays machine.step → (pace : Pace) (m j : ℕ) (config : Config) → m ≤ j → ((trouble : _) → (after machine pace j config).config ≡ Broken trouble → ⊥) → Before machine pace m config (after machine pace j config)
before machine stays pace m j config le whole =
    let e : m + (j - m) ≡ j = omega (arith, le) in
    subst (λ k. Before machine pace m config (after machine pace k config)) e
    (before_by machine pace m config (after machine pace (m + (j - m)) config) (after machine pace m config) refl
    (goes_later pace machine.step stays m (j - m) 0 config) (after machine pace m config).config refl
    (λ trouble b. whole trouble (ap (λ k. (after machine pace k config).config) (sym e) ∙ b)))

abbrev is_over : Config → Bool
is_over (Running slots frame callers) = false
is_over (Over slots) = true
is_over (Broken trouble) = false

abbrev is_running : Config → Bool
is_running (Running slots frame callers) = true
is_running (Over slots) = false
is_running (Broken trouble) = false

over≢broken : {slots : List Cells} {trouble : _} → Over slots ≡ Broken trouble → ⊥
over≢broken e = false≢true (sym (ap is_over e))

running≢broken : {slots : List Cells} {frame : Frame} {callers : List Frame} {trouble : _} → Running slots frame callers ≡ Broken trouble → ⊥
running≢broken e = false≢true (sym (ap is_running e))

running≢over : {slots others : List Cells} {frame : Frame} {callers : List Frame} → Running slots frame callers ≡ Over others → ⊥
running≢over e = false≢true (ap is_over e)

-- after m statements of an answer that comes to its end, it is complete or runs on
at_end : (machine : Machine) → Stays machine.step → (pace : Pace) (size n m : ℕ) (config : Config) (events : List Event) (slots : List Cells) → Ended machine pace size config n events slots → Complete machine pace m config events slots ⊎ Midway machine pace m config events
at_end machine stays pace size n m config events slots ended = by_order (nat_le m ended.statements) refl
  where
    by_order : (b : Bool) → nat_le m ended.statements ≡ b → Complete machine pace m config events slots ⊎ Midway machine pace m config events
    by_order true e =
        subst (λ ran. (after machine pace m config ≡ ran) ⊎ Midway machine pace m config ran.events) ended.goes
        (before machine stays pace m ended.statements config (leb-true m ended.statements e)
        (λ trouble b. over≢broken (sym (ap (λ ran. ran.config) ended.goes) ∙ b)))
    by_order false e =
        inl (complete_later machine stays pace ended.statements m config events slots (omega (arith, leb-false m ended.statements e)) ended.goes)

-- with enough statements it is complete
enough_ends : (machine : Machine) → Stays machine.step → (pace : Pace) (size n : ℕ) → 1 ≤ n → (config : Config) (events : List Event) (slots : List Cells) → Ended machine pace size config n events slots → Complete machine pace (n * (size + 1)) config events slots
enough_ends machine stays pace size n some config events slots ended =
    complete_later machine stays pace ended.statements (n * (size + 1)) config events slots (ended.most some) ended.goes

-- with fewer statements than units an answer that runs on has shown some of its events and runs
runs_midway : (machine : Machine) → Stays machine.step → (pace : Pace) (size n m : ℕ) → m ≤ n → (config : Config) (events : List Event) → RunsOn machine pace size config n events → Midway machine pace m config events
runs_midway machine stays pace size n m le config events on =
    choose (subst (λ ran. (after machine pace m config ≡ ran) ⊎ Midway machine pace m config ran.events) on.goes
    (before machine stays pace m on.statements config (up le on.least)
    (λ trouble b. running≢broken (sym (ap (λ ran. ran.config) on.goes) ∙ b))))
  where
    up : {a b c : ℕ} → a ≤ b → b ≤ c → a ≤ c
    up p q = omega (arith, p, q)

    choose : (after machine pace m config ≡ record { events = events; config = Running on.slots on.frame on.callers }) ⊎ Midway machine pace m config events → Midway machine pace m config events
    choose (inl e) = record {
      slots = on.slots;
      frame = on.frame;
      callers = on.callers;
      so_far = events;
      goes = e;
      front = ([], sym (append-nil events));
    }
    choose (inr midway) = midway

-- with enough statements it has shown its events, and maybe more
enough_shows : (machine : Machine) → Stays machine.step → (pace : Pace) (size n : ℕ) → 1 ≤ n → (config : Config) (events : List Event) → RunsOn machine pace size config n events → IsFront events (after machine pace (n * (size + 1)) config).events
enough_shows machine stays pace size n some config events on =
    let j = on.statements in
    let k = n * (size + 1) - j in
    let e : j + k ≡ n * (size + 1) = by_minus j (n * (size + 1)) (on.most some) in
    let later = goes_later pace machine.step stays j k 0 config in
    (later.events, ap (λ i. (after machine pace i config).events) (sym e) ∙ later.shown ∙ ap (λ es. es ++ later.events) (ap (λ ran. ran.events) on.goes))
  where
    by_minus : (a b : ℕ) → a ≤ b → a + (b - a) ≡ b
    by_minus a b le = omega (arith, le)

-- ---- lists of entries

-- what code that is cut off shows, before what the meaning shows with more units than it has statements
pub record Behind (code meaning : List Shown) : Type 0 where
  pub free : has_stuck code ≡ false
  pub begins : Begins code meaning
  pub same : has_past code ≡ false → meaning ≡ code

-- what the meaning shows, before what code shows with enough statements
pub record Ahead (meaning code : List Shown) : Type 0 where
  pub begins : Begins meaning code
  pub same : has_past meaning ≡ false → code ≡ meaning

-- an entry at rest, or one that has stopped, before others
behind_rest : (paths : List (List NameId)) (vs : List Value) (ts : List Bool) (events : List Event) (code meaning : List Shown) → Behind code meaning → Behind (record { events = events; end = Shows.Rest paths vs ts } ∷ code) (record { events = events; end = Shows.Rest paths vs ts } ∷ meaning)
behind_rest paths vs ts events code meaning h = record {
  free = h.free;
  begins = (refl, h.begins);
  same = λ not_cut. ap (λ more. record { events = events; end = Shows.Rest paths vs ts } ∷ more) (h.same not_cut);
}

behind_stopped : (vs : List Value) (events : List Event) (code meaning : List Shown) → Behind code meaning → Behind (record { events = events; end = Shows.Stopped vs } ∷ code) (record { events = events; end = Shows.Stopped vs } ∷ meaning)
behind_stopped vs events code meaning h = record {
  free = h.free;
  begins = (refl, h.begins);
  same = λ not_cut. ap (λ more. record { events = events; end = Shows.Stopped vs } ∷ more) (h.same not_cut);
}

behind_fault : (kind : FaultKind) (place : Place) (vs : List Value) (ts : List Bool) (events : List Event) → Behind (record { events = events; end = Shows.Fault kind place vs ts } ∷ []) (record { events = events; end = Shows.Fault kind place vs ts } ∷ [])
behind_fault kind place vs ts events = record { free = refl; begins = (refl, tt); same = λ not_cut. refl }

-- an entry that is cut off
behind_past : (so_far events : List Event) (end : End) (more : List Shown) → IsFront so_far events → Behind (record { events = so_far; end = Shows.Past } ∷ []) (record { events = events; end = end } ∷ more)
behind_past so_far events end more front = record {
  free = refl;
  begins = (front, tt);
  same = λ not_cut. absurd (false≢true (sym not_cut));
}

ahead_rest : (paths : List (List NameId)) (vs : List Value) (ts : List Bool) (events : List Event) (meaning code : List Shown) → Ahead meaning code → Ahead (record { events = events; end = Shows.Rest paths vs ts } ∷ meaning) (record { events = events; end = Shows.Rest paths vs ts } ∷ code)
ahead_rest paths vs ts events meaning code h = record {
  begins = (refl, h.begins);
  same = λ not_cut. ap (λ more. record { events = events; end = Shows.Rest paths vs ts } ∷ more) (h.same not_cut);
}

ahead_stopped : (vs : List Value) (events : List Event) (meaning code : List Shown) → Ahead meaning code → Ahead (record { events = events; end = Shows.Stopped vs } ∷ meaning) (record { events = events; end = Shows.Stopped vs } ∷ code)
ahead_stopped vs events meaning code h = record {
  begins = (refl, h.begins);
  same = λ not_cut. ap (λ more. record { events = events; end = Shows.Stopped vs } ∷ more) (h.same not_cut);
}

ahead_fault : (kind : FaultKind) (place : Place) (vs : List Value) (ts : List Bool) (events : List Event) → Ahead (record { events = events; end = Shows.Fault kind place vs ts } ∷ []) (record { events = events; end = Shows.Fault kind place vs ts } ∷ [])
ahead_fault kind place vs ts events = record { begins = (refl, tt); same = λ not_cut. refl }

ahead_past : (ending : List Cells → End) (more : List Cells → List Shown) (events : List Event) (ran : Steps.Ran Event) → IsFront events ran.events → Ahead (record { events = events; end = Shows.Past } ∷ []) (shown_of ending more ran)
ahead_past ending more events ran front = record {
  begins = by_config ran.events ran.config front;
  same = λ not_cut. absurd (false≢true (sym not_cut));
}
  where
    by_config : (all : List Event) (config : Config) → IsFront events all → Begins (record { events = events; end = Shows.Past } ∷ []) (shown_by ending more all config)
    by_config all (Running slots frame callers) front = (front, tt)
    by_config all (Over slots) front = (front, tt)
    by_config all (Broken trouble) front = (front, tt)

-- ---- one answer, and what follows

-- an entry that came to its end, with what is shown of further stimuli
complete_shows : (machine : Machine) (pace : Pace) (m : ℕ) (config : Config) (events : List Event) (slots : List Cells) (more : List Cells → List Shown) (end : End) → Complete machine pace m config events slots → machine.ending slots ≡ end → shown_of machine.ending more (after machine pace m config) ≡ record { events = events; end = end } ∷ goes_on end (more slots) []
complete_shows machine pace m config events slots more end done is =
    ap (shown_of machine.ending more) done
    ∙ ap (λ e. record { events = events; end = e } ∷ goes_on e (more slots) []) is

midway_shows : (machine : Machine) (pace : Pace) (m : ℕ) (config : Config) (events : List Event) (more : List Cells → List Shown) → (midway : Midway machine pace m config events) → shown_of machine.ending more (after machine pace m config) ≡ record { events = midway.so_far; end = Shows.Past } ∷ []
midway_shows machine pace m config events more midway = ap (shown_of machine.ending more) midway.goes

-- what further stimuli show, where the process is at rest and where it has stopped
abbrev Followed : (List Shown → List Shown → Type 0) → Model → ℕ → AtRest → AtHalt → (List Cells → List Shown) → List Stimulus → Type 0
Followed Rel M n Rests Halts more xs =
    ((a : Active) (s : State) (slots : List Cells) → Rests a s slots → Rel (more slots) (follow M n s (Done a) xs))
    × ((s : State) (slots : List Cells) → Halts s slots → Rel (more slots) (map (shown_stopped s) xs))

behind_one : (M : Model) (machine : Machine) (pace : Pace) (size : ℕ) (first : List Cells) (Rests : AtRest) (Halts : AtHalt) → Simulates M machine pace size first Rests Halts → (n m : ℕ) → m ≤ n → (config : Config) (more : List Cells → List Shown) (xs : List Stimulus) → Followed Behind M n Rests Halts more xs → (events : List Event) (s : State) (o : Outcome Active) → AnswersBy Rests Halts machine pace size config n o events s → Behind (shown_of machine.ending more (after machine pace m config)) (record { events = events; end = end_of M s o } ∷ follow M n s o xs)
behind_one M machine pace size first Rests Halts sim n m le config more xs followed events s (Done a) (slots, ended, rests) =
    choose (at_end machine sim.stays pace size n m config events slots ended)
  where
    choose : Complete machine pace m config events slots ⊎ Midway machine pace m config events → Behind (shown_of machine.ending more (after machine pace m config)) (record { events = events; end = end_of M s (Done a) } ∷ follow M n s (Done a) xs)
    choose (inl done) =
        rw (complete_shows machine pace m config events slots more (end_of M s (Done a)) done (sim.rest_is_shown a s slots rests))
        (behind_rest (paths_of M.root a) s.store.variables s.timers events (more slots) (follow M n s (Done a) xs) (followed.0 a s slots rests))
    choose (inr midway) =
        rw (midway_shows machine pace m config events more midway)
        (behind_past midway.so_far events (end_of M s (Done a)) (follow M n s (Done a) xs) midway.front)
behind_one M machine pace size first Rests Halts sim n m le config more xs followed events s Stop (slots, ended, halts) =
    choose (at_end machine sim.stays pace size n m config events slots ended)
  where
    choose : Complete machine pace m config events slots ⊎ Midway machine pace m config events → Behind (shown_of machine.ending more (after machine pace m config)) (record { events = events; end = end_of M s Stop } ∷ follow M n s Stop xs)
    choose (inl done) =
        rw (complete_shows machine pace m config events slots more (end_of M s Stop) done (sim.halt_is_shown s slots halts))
        (behind_stopped s.store.variables events (more slots) (map (shown_stopped s) xs) (followed.1 s slots halts))
    choose (inr midway) =
        rw (midway_shows machine pace m config events more midway)
        (behind_past midway.so_far events (end_of M s Stop) (follow M n s Stop xs) midway.front)
behind_one M machine pace size first Rests Halts sim n m le config more xs followed events s (Fault kind place) (slots, ended, fault) =
    choose (at_end machine sim.stays pace size n m config events slots ended)
  where
    choose : Complete machine pace m config events slots ⊎ Midway machine pace m config events → Behind (shown_of machine.ending more (after machine pace m config)) (record { events = events; end = end_of M s (Fault kind place) } ∷ [])
    choose (inl done) =
        rw (complete_shows machine pace m config events slots more (end_of M s (Fault kind place)) done fault)
        (behind_fault kind place s.store.variables s.timers events)
    choose (inr midway) =
        rw (midway_shows machine pace m config events more midway)
        (behind_past midway.so_far events (end_of M s (Fault kind place)) [] midway.front)
behind_one M machine pace size first Rests Halts sim n m le config more xs followed events s Out on =
    let midway = runs_midway machine sim.stays pace size n m le config events on in
    rw (midway_shows machine pace m config events more midway)
    (behind_past midway.so_far events Shows.Past [] midway.front)

ahead_one : (M : Model) (machine : Machine) (pace : Pace) (size : ℕ) (first : List Cells) (Rests : AtRest) (Halts : AtHalt) → Simulates M machine pace size first Rests Halts → (n : ℕ) → 1 ≤ n → (config : Config) (more : List Cells → List Shown) (xs : List Stimulus) → Followed (λ code meaning. Ahead meaning code) M n Rests Halts more xs → (events : List Event) (s : State) (o : Outcome Active) → AnswersBy Rests Halts machine pace size config n o events s → Ahead (record { events = events; end = end_of M s o } ∷ follow M n s o xs) (shown_of machine.ending more (after machine pace (n * (size + 1)) config))
ahead_one M machine pace size first Rests Halts sim n some config more xs followed events s (Done a) (slots, ended, rests) =
    rw (complete_shows machine pace (n * (size + 1)) config events slots more (end_of M s (Done a)) (enough_ends machine sim.stays pace size n some config events slots ended) (sim.rest_is_shown a s slots rests))
    (ahead_rest (paths_of M.root a) s.store.variables s.timers events (follow M n s (Done a) xs) (more slots) (followed.0 a s slots rests))
ahead_one M machine pace size first Rests Halts sim n some config more xs followed events s Stop (slots, ended, halts) =
    rw (complete_shows machine pace (n * (size + 1)) config events slots more (end_of M s Stop) (enough_ends machine sim.stays pace size n some config events slots ended) (sim.halt_is_shown s slots halts))
    (ahead_stopped s.store.variables events (map (shown_stopped s) xs) (more slots) (followed.1 s slots halts))
ahead_one M machine pace size first Rests Halts sim n some config more xs followed events s (Fault kind place) (slots, ended, fault) =
    rw (complete_shows machine pace (n * (size + 1)) config events slots more (end_of M s (Fault kind place)) (enough_ends machine sim.stays pace size n some config events slots ended) fault)
    (ahead_fault kind place s.store.variables s.timers events)
ahead_one M machine pace size first Rests Halts sim n some config more xs followed events s Out on =
    ahead_past machine.ending more events (after machine pace (n * (size + 1)) config)
    (enough_shows machine sim.stays pace size n some config events on)

-- ---- a list of stimuli

abbrev Runs : Machine → Pace → ℕ → List Stimulus → List Cells → List Shown
Runs machine pace m xs slots = paced_runs machine pace m (map Some xs) slots

-- the first of some stimuli, and the others
first_of : (M : Model) (x : Stimulus) (xs : List Stimulus) → AreStimuli M (x ∷ xs) → IsTrue (is_stimulus M x)
first_of M x xs are = left_of (is_stimulus M x) (list_all (is_stimulus M) xs) are

others_of : (M : Model) (x : Stimulus) (xs : List Stimulus) → AreStimuli M (x ∷ xs) → AreStimuli M xs
others_of M x xs are = right_of (is_stimulus M x) (list_all (is_stimulus M) xs) are

behind_list : (M : Model) (machine : Machine) (pace : Pace) (size : ℕ) (first : List Cells) (Rests : AtRest) (Halts : AtHalt) → Simulates M machine pace size first Rests Halts → (n m : ℕ) → m ≤ n → (xs : List Stimulus) → AreStimuli M xs → Followed Behind M n Rests Halts (Runs machine pace m xs) xs
behind_list M machine pace size first Rests Halts sim n m le [] are = (
  (λ a s slots rests. record { free = refl; begins = tt; same = λ e. refl }),
  (λ s slots halts. record { free = refl; begins = tt; same = λ e. refl }),
)
behind_list M machine pace size first Rests Halts sim n m le (x ∷ xs) are =
    let rest = behind_list M machine pace size first Rests Halts sim n m le xs (others_of M x xs are) in (
      (λ a s slots rests.
          let r = step M a x n s in
          behind_one M machine pace size first Rests Halts sim n m le (machine.begin (Some x) slots) (Runs machine pace m xs) xs rest r.events r.state r.outcome
          (sim.takes a s slots rests x (first_of M x xs are) n)),
      (λ s slots halts.
          let stays = sim.halted s slots halts x (first_of M x xs are) in
          behind_one M machine pace size first Rests Halts sim n m le (machine.begin (Some x) slots) (Runs machine pace m xs) xs rest [] s Stop
          (stays.0, stays.1 n, stays.2)),
    )

ahead_list : (M : Model) (machine : Machine) (pace : Pace) (size : ℕ) (first : List Cells) (Rests : AtRest) (Halts : AtHalt) → Simulates M machine pace size first Rests Halts → (n : ℕ) → 1 ≤ n → (xs : List Stimulus) → AreStimuli M xs → Followed (λ code meaning. Ahead meaning code) M n Rests Halts (Runs machine pace (n * (size + 1)) xs) xs
ahead_list M machine pace size first Rests Halts sim n some [] are =
    ((λ a s slots rests. record { begins = tt; same = λ e. refl }), (λ s slots halts. record { begins = tt; same = λ e. refl }))
ahead_list M machine pace size first Rests Halts sim n some (x ∷ xs) are =
    let rest = ahead_list M machine pace size first Rests Halts sim n some xs (others_of M x xs are) in (
      (λ a s slots rests.
          let r = step M a x n s in
          ahead_one M machine pace size first Rests Halts sim n some (machine.begin (Some x) slots) (Runs machine pace (n * (size + 1)) xs) xs rest r.events r.state r.outcome
          (sim.takes a s slots rests x (first_of M x xs are) n)),
      (λ s slots halts.
          let stays = sim.halted s slots halts x (first_of M x xs are) in
          ahead_one M machine pace size first Rests Halts sim n some (machine.begin (Some x) slots) (Runs machine pace (n * (size + 1)) xs) xs rest [] s Stop
          (stays.0, stays.1 n, stays.2)),
    )

behind_all : (M : Model) (machine : Machine) (pace : Pace) (size : ℕ) (first : List Cells) (Rests : AtRest) (Halts : AtHalt) → Simulates M machine pace size first Rests Halts → (xs : List Stimulus) → AreStimuli M xs → (m : ℕ) → Behind (paced_runs machine pace m (all_stimuli xs) first) (sdl M xs (m + 1))
unfolding sdl
behind_all M machine pace size first Rests Halts sim xs are m =
    let n = m + 1 in
    let r = start M n (first_state M) in
    let le : m ≤ n = omega (arith) in
    behind_one M machine pace size first Rests Halts sim n m le (machine.begin None first) (Runs machine pace m xs) xs
    (behind_list M machine pace size first Rests Halts sim n m le xs are) r.events r.state r.outcome (sim.starts n)

ahead_all : (M : Model) (machine : Machine) (pace : Pace) (size : ℕ) (first : List Cells) (Rests : AtRest) (Halts : AtHalt) → Simulates M machine pace size first Rests Halts → (xs : List Stimulus) → AreStimuli M xs → (n : ℕ) → 1 ≤ n → Ahead (sdl M xs n) (paced_runs machine pace (n * (size + 1)) (all_stimuli xs) first)
unfolding sdl
ahead_all M machine pace size first Rests Halts sim xs are n some =
    let r = start M n (first_state M) in
    ahead_one M machine pace size first Rests Halts sim n some (machine.begin None first) (Runs machine pace (n * (size + 1)) xs) xs
    (ahead_list M machine pace size first Rests Halts sim n some xs are) r.events r.state r.outcome (sim.starts n)

-- the five clauses of agreement
pub same_runs : (M : Model) (machine : Machine) (pace : Pace) (size : ℕ) (first : List Cells) (Rests : AtRest) (Halts : AtHalt) → Simulates M machine pace size first Rests Halts → SameRuns (AreStimuli M) (λ n. n * (size + 1)) (sdl M) (λ xs m. paced_runs machine pace m (all_stimuli xs) first)
same_runs M machine pace size first Rests Halts sim = record {
  never_stuck = λ xs are m. (behind_all M machine pace size first Rests Halts sim xs are m).free;
  shows = λ xs are n some not_cut. (ahead_all M machine pace size first Rests Halts sim xs are n some).same not_cut;
  shows_only = λ xs are m not_cut. (m + 1, omega (arith), (behind_all M machine pace size first Rests Halts sim xs are m).same not_cut);
  so_far = λ xs are n some. (ahead_all M machine pace size first Rests Halts sim xs are n some).begins;
  so_far_only = λ xs are m. (m + 1, omega (arith), (behind_all M machine pace size first Rests Halts sim xs are m).begins);
}
