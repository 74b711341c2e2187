-- Where code carries out the start, or a stimulus, from its call to its return, it answers it.
use Rattle.std.proofs.Common.{◌≡◌, ℕ, ◌+◌, Bool, true, false, List, [], length, inl, inr, refl, sym, ap, subst, ◌∙◌, arith}
use Rattle.std.proofs.lemmas.Bool.{false≢true}
use Rattle.std.proofs.lemmas.List.{append-nil}
use Rattle.og_model.specs.Shown.{Event}
use Rattle.og_model.specs.Units.{State, Outcome, Done, Stop, Fault, Out, Ran, Doing}
use Rattle.og_model.specs.Configuration.{Active}
use Rattle.og_ir.specs.declared.Ir.{Ir}
use Rattle.og_ir.specs.Cells.{Cells}
use Rattle.og_ir.specs.Steps.{Frame, Config, Over, exec}
use Rattle.og_csubset.specs.Paced.{Pace, IsPace, paced_size}
use Rattle.og_csubset.specs.Run.{Machine}
use Rattle.og_follow.specs.Passing.{Passed, none_passed}
use Rattle.og_follow.specs.Cuts.{places_of, units_in, NoneTwice, IsCut}
use Rattle.og_follow.specs.Tracks.{Trail, Track}
use Rattle.og_follow.specs.Answers.{AtRest, AtHalt, AnswersBy, Answers, Ended, RunsOn}
use Rattle.og_follow.specs.Carrying.{Standing, Exits, Ways, Point, Arrives, Carried, CarriesOut, code_at, Returned}
use Rattle.og_follow.proofs.Tracks.{begins, ends, runs_on}

module _ (Rests : AtRest) (Halts : AtHalt) (machine : Machine) (unit_at : Frame → Bool) (pace : Pace) (is_pace : IsPace pace) (ir : Ir) (config : Config) where
  -- before the first step
  abbrev at_first : Point
  at_first = record { units = 0; statements = 0; events = []; seen = none_passed; now = config }

  -- a run that has come to an end
  ended_at : (n : ℕ) (r : Ran Active) (P : Ways) (after : Exits Active) (one : Arrives (code_at machine unit_at pace is_pace ir) config at_first n r after P) (slots : List Cells) → one.to.now ≡ Over slots
      → Ended machine pace (paced_size pace ir) config n r.events slots
  ended_at n r P after one slots is =
      let units = one.units in
      let counts = one.counts in
      subst (λ es. Ended machine pace (paced_size pace ir) config n es slots) one.events
      (ends machine unit_at pace ir config one.to.units one.to.statements n one.to.events one.to.seen slots
      (subst (λ c. Track machine.step unit_at pace ir config one.to.units one.to.statements one.to.events one.to.seen c) is one.follows) (omega (arith, units, counts)))

  answers_by : (n : ℕ) (r : Ran Active) (P : Ways) (one : Arrives (code_at machine unit_at pace is_pace ir) config at_first n r (Returned Rests Halts machine) P) (o : Outcome Active) → r.outcome ≡ o
      → AnswersBy Rests Halts machine pace (paced_size pace ir) config n o r.events r.state
  answers_by n r P one (Done a) e =
      let back = subst (λ o. Returned Rests Halts machine o r.state one.to.now) e one.there in
      (back.0, ended_at n r P (Returned Rests Halts machine) one back.0 back.1, back.2)
  answers_by n r P one Stop e =
      let back = subst (λ o. Returned Rests Halts machine o r.state one.to.now) e one.there in
      (back.0, ended_at n r P (Returned Rests Halts machine) one back.0 back.1, back.2)
  answers_by n r P one (Fault kind place) e =
      let back = subst (λ o. Returned Rests Halts machine o r.state one.to.now) e one.there in
      (back.0, ended_at n r P (Returned Rests Halts machine) one back.0 back.1, back.2)
  answers_by n r P one Out e = absurd (one.ended e)

  answers : (n : ℕ) (r : Ran Active) (P : Ways) → Carried (code_at machine unit_at pace is_pace ir) config at_first n r (Returned Rests Halts machine) P → Answers Rests Halts machine pace (paced_size pace ir) config n r
  answers n r P (inl one) = answers_by n r P one r.outcome refl
  answers n r P (inr used) =
      let units = used.units in
      let runs = used.runs in
      subst (λ o. AnswersBy Rests Halts machine pace (paced_size pace ir) config n o r.events r.state) (sym used.out)
      (subst (λ es. RunsOn machine pace (paced_size pace ir) config n es) used.events
      (runs_on machine unit_at pace ir config used.to.units used.to.statements n used.to.events used.to.seen runs.slots runs.frame runs.callers
      (subst (λ c. Track machine.step unit_at pace ir config used.to.units used.to.statements used.to.events used.to.seen c) runs.is used.follows) (omega (arith, units))))

  -- what is carried out from here
  carried : (d : Doing Active) (n : ℕ) (s : State) (before : Standing) (P : Ways) → before s config → CarriesOut (code_at machine unit_at pace is_pace ir) n d before (Returned Rests Halts machine) P
      → Carried (code_at machine unit_at pace is_pace ir) config at_first n (d n s) (Returned Rests Halts machine) P
  carried d n s before P at carries =
      carries.carries config at_first n s (omega (arith)) (begins machine.step unit_at pace ir config) at (record {
        head = λ f p x. refl;
        near = λ none f p x. refl;
      })

  -- is answered
  pub carried_is_answered : (d : Doing Active) (n : ℕ) (s : State) (before : Standing) (P : Ways) → before s config → CarriesOut (code_at machine unit_at pace is_pace ir) n d before (Returned Rests Halts machine) P
      → Answers Rests Halts machine pace (paced_size pace ir) config n (d n s)
  carried_is_answered d n s before P at carries = answers n (d n s) P (carried d n s before P at carries)

  -- ---- and it is cut into units as the meaning is

  plus_zero : (n : ℕ) → n ≡ n + 0
  plus_zero n = omega (arith)

  -- the places so far
  places_are : (units : ℕ) (events : List Event) (seen : Passed) (now : Config) (trail : Trail machine.step unit_at config units events seen now) → places_of machine.step (length trail.places) config ≡ trail.places
  places_are units events seen now trail =
      ap (λ n. places_of machine.step n config) (plus_zero (length trail.places)) ∙ trail.passes 0 ∙ append-nil trail.places

  goes_there : (units : ℕ) (events : List Event) (seen : Passed) (now : Config) (trail : Trail machine.step unit_at config units events seen now) → exec machine.step (length trail.places) config ≡ record { events = events; config = now }
  goes_there units events seen now trail =
      ap (λ n. exec machine.step n config) (plus_zero (length trail.places)) ∙ trail.goes 0
      ∙ ap (λ es. record { events = es; config = now }) (append-nil events)

  cut : (n : ℕ) (r : Ran Active) (P : Ways) → Carried (code_at machine unit_at pace is_pace ir) config at_first n r (Returned Rests Halts machine) P → IsCut machine.step unit_at config n r
  cut n r P (inl one) =
      let trail = one.follows.trail in
      let places = places_are one.to.units one.to.events one.to.seen one.to.now trail in
      let units = one.units in
      let counts = one.counts in
      let begun = trail.begun in
      record {
        steps = length trail.places;
        now = one.to.now;
        goes = goes_there one.to.units one.to.events one.to.seen one.to.now trail ∙ ap (λ es. record { events = es; config = one.to.now }) one.events;
        once = subst (NoneTwice unit_at) (sym places) trail.once;
        cut_off = λ out. absurd (one.ended out);
        ended = λ other. (
          ap (λ ps. units_in unit_at ps + r.left) places ∙ all (units_in unit_at trail.places) one.to.units one.taken r.left n begun units counts,
          returned r.outcome r.state one.to.now other one.there,
        );
      }
    where
      all : (b u t l m : ℕ) → b ≡ u → u ≡ 0 + t → t + l ≡ m → b + l ≡ m
      all b u t l m e f g = omega (arith, e, f, g)

      returned : (o : Outcome Active) (s : State) (now : Config) → (o ≡ Out → ⊥) → Returned Rests Halts machine o s now → (slots : List Cells) × (now ≡ Over slots)
      returned (Done a) s now other back = (back.0, back.1)
      returned Stop s now other back = (back.0, back.1)
      returned (Fault kind place) s now other back = (back.0, back.1)
      returned Out s now other back = absurd (other refl)
  cut n r P (inr used) =
      let trail = used.follows.trail in
      let places = places_are used.to.units used.to.events used.to.seen used.to.now trail in
      let units = used.units in
      let begun = trail.begun in
      record {
        steps = length trail.places;
        now = used.to.now;
        goes = goes_there used.to.units used.to.events used.to.seen used.to.now trail ∙ ap (λ es. record { events = es; config = used.to.now }) used.events;
        once = subst (NoneTwice unit_at) (sym places) trail.once;
        cut_off = λ out. ap (units_in unit_at) places ∙ all (units_in unit_at trail.places) used.to.units n begun units;
        ended = λ other. absurd (other used.out);
      }
    where
      all : (b u n : ℕ) → b ≡ u → u ≡ 0 + n → b ≡ n
      all b u n e f = omega (arith, e, f)

  pub carried_is_cut : (d : Doing Active) (n : ℕ) (s : State) (before : Standing) (P : Ways) → before s config → CarriesOut (code_at machine unit_at pace is_pace ir) n d before (Returned Rests Halts machine) P
      → IsCut machine.step unit_at config n (d n s)
  carried_is_cut d n s before P at carries = cut n (d n s) P (carried d n s before P at carries)

  -- where the doing is done, the slots of the process at rest are those of the run's end
  pub carried_rests : (d : Doing Active) (n : ℕ) (s : State) (before : Standing) (P : Ways) → before s config → CarriesOut (code_at machine unit_at pace is_pace ir) n d before (Returned Rests Halts machine) P
      → (a : Active) → (d n s).outcome ≡ Done a → (steps : ℕ) × ((slots : List Cells) × (exec machine.step steps config ≡ record { events = (d n s).events; config = Over slots }) × Rests a (d n s).state slots)
  carried_rests d n s before P at carries a done = choose (d n s) done (carried d n s before P at carries)
    where
      is_out : Outcome Active → Bool
      is_out Out = true
      is_out _ = false

      choose : (r : Ran Active) → r.outcome ≡ Done a → Carried (code_at machine unit_at pace is_pace ir) config at_first n r (Returned Rests Halts machine) P → (steps : ℕ) × ((slots : List Cells) × (exec machine.step steps config ≡ record { events = r.events; config = Over slots }) × Rests a r.state slots)
      choose r done (inl one) =
          let trail = one.follows.trail in
          let back = subst (λ o. Returned Rests Halts machine o r.state one.to.now) done one.there in (
            length trail.places,
            (
              back.0,
              goes_there one.to.units one.to.events one.to.seen one.to.now trail
                  ∙ ap (λ es. record { events = es; config = one.to.now }) one.events
                  ∙ ap (λ c. record { events = r.events; config = c }) back.1,
              back.2,
            ),
          )
      choose r done (inr used) = absurd (false≢true (ap is_out (sym done ∙ used.out)))
