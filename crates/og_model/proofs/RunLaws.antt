-- The laws on fuel, units and runs, from what ties two doings with more and fewer units.
use Rattle.std.proofs.Common.{◌≡◌, ℕ, ◌+◌, ◌-◌, ◌≤◌, List, [], ◌∷◌, map, refl, sym, ap, ◌∙◌, subst, le_refl, add-zero, arith}
use Rattle.std.specs.List.{AllByRecursion}
use Rattle.og_model.specs.declared.Model.{Model}
use Rattle.og_model.specs.Shown.{Event, Shown, Stimulus, Begins, AnswersEach, StaysStopped, ShowsNothing}
use Rattle.og_model.proofs.Pasts.{NeverPast, never_past}
use Rattle.og_model.specs.Units.{State, Outcome, Done, Stop, Fault, Out, Ran}
use Rattle.og_model.specs.Configuration.{Active}
use Rattle.og_model.specs.Run.{first_state, start, step, shown, shown_stopped, follow, sdl}
use Rattle.og_model.specs.Laws.{FuelIsFree, UnitsNeverGrow, MoreUnitsGoOn, EnoughUnitsAreEnough, EachIsAnswered, StoppedForGood}
use Rattle.og_model.proofs.MoreUnits.{ExtendsBy, Extends}
use Rattle.og_model.proofs.MoreOfModel.{run_tied, perform_tied, enter_by_tied, enter_tied, settle_by_tied, settle_tied, start_tied, step_tied}

-- ---- fuel and units

same_by : {A : Type 0} (o : Outcome A) (es : List Event) (s : State) (left : ℕ) (r' : Ran A)
    → ExtendsBy o es s left 0 r' → r' ≡ record { events = es; state = s; left = left; outcome = o }
same_by (Done a) es s left r' e = e ∙ (λ i. record { events = es; state = s; left = add-zero left i; outcome = Done a })
same_by Stop es s left r' e = e ∙ (λ i. record { events = es; state = s; left = add-zero left i; outcome = Stop })
same_by (Fault kind place) es s left r' e =
    e ∙ (λ i. record { events = es; state = s; left = add-zero left i; outcome = Fault kind place })
same_by Out es s left r' e = e.1 refl

same_units : {A : Type 0} (r r' : Ran A) → Extends 0 r r' → r' ≡ r
same_units r r' e = same_by r.outcome r.events r.state r.left r' e

no_units_more : (n : ℕ) → n ≡ n + 0
no_units_more n = omega arith

pub fuel_is_free : FuelIsFree
fuel_is_free = record {
  bodies = λ fuel M b rest n s p.
      same_units _ _ ((run_tied n fuel M b rest).extends n 0 n s (no_units_more n) (le_refl n) p);
  entering = λ fuel M m k name n s p.
      same_units _ _ ((enter_by_tied n fuel M m k name).extends n 0 n s (no_units_more n) (le_refl n) p);
  settling = λ fuel M a n s p.
      same_units _ _ ((settle_by_tied n fuel M a).extends n 0 n s (no_units_more n) (le_refl n) p);
}

pub units_never_grow : UnitsNeverGrow
units_never_grow = record {
  bodies = λ M b rest. (perform_tied {f = 0} {g = 0} M b rest).falls;
  entering = λ M m k name. (enter_tied {f = 0} {g = 0} M m k name).falls;
  settling = λ M a. (settle_tied {f = 0} {g = 0} M a).falls;
  starting = λ M. (start_tied {f = 0} {g = 0} M).falls;
  stepping = λ M a x. (step_tied {f = 0} {g = 0} M a x).falls;
}

-- ---- runs

-- what an outcome shows, and what follows it
abbrev run_from : Model → ℕ → List Stimulus → Ran Active → List Shown
run_from M n list r = shown M r ∷ follow M n r.state r.outcome list

abbrev ran : List Event → State → ℕ → Outcome Active → Ran Active
ran es s left o = record { events = es; state = s; left = left; outcome = o }

go_on_with_more : (M : Model) (n k n' : ℕ) → n' ≡ n + k → (list : List Stimulus) (o : Outcome Active) (es : List Event) (s : State) (left : ℕ) (r' : Ran Active)
    → ExtendsBy o es s left k r' → Begins (run_from M n list (ran es s left o)) (run_from M n' list r')
go_on_with_more M n k n' e [] (Done a) es s left r' x =
    subst (λ (r : Ran Active). Begins (run_from M n [] (ran es s left (Done a))) (run_from M n' [] r)) (sym x) (refl, tt)
go_on_with_more M n k n' e (y ∷ ys) (Done a) es s left r' x =
    subst (λ (r : Ran Active). Begins (run_from M n (y ∷ ys) (ran es s left (Done a))) (run_from M n' (y ∷ ys) r)) (sym x) (
      refl,
      go_on_with_more M n k n' e ys (step M a y n s).outcome (step M a y n s).events (step M a y n s).state (step M a y n s).left
          (step M a y n' s) ((step_tied {f = n} {g = n'} M a y).extends n k n' s e (le_refl n) (le_refl n')),
    )
go_on_with_more M n k n' e list Stop es s left r' x =
    subst (λ (r : Ran Active). Begins (run_from M n list (ran es s left Stop)) (run_from M n' list r)) (sym x) (refl, all_stopped s list)
  where
    all_stopped : (s : State) (list : List Stimulus) → Begins (map (shown_stopped s) list) (map (shown_stopped s) list)
    all_stopped s [] = tt
    all_stopped s (y ∷ ys) = (refl, all_stopped s ys)
go_on_with_more M n k n' e list (Fault kind place) es s left r' x =
    subst (λ (r : Ran Active). Begins (run_from M n list (ran es s left (Fault kind place))) (run_from M n' list r)) (sym x) (refl, tt)
go_on_with_more M n k n' e list Out es s left r' x = (x.0, tt)

difference : (n more : ℕ) → n ≤ more → more ≡ n + (more - n)
difference n more p = omega (arith, p)

pub more_units_go_on : MoreUnitsGoOn
unfolding sdl
more_units_go_on M list n more p =
    let r = start M n (first_state M) in
    go_on_with_more M n (more - n) more (difference n more p) list r.outcome r.events r.state r.left (start M more (first_state M))
    ((start_tied {f = n} {g = more} M).extends n (more - n) more (first_state M) (difference n more p) (le_refl n) (le_refl more))

same_with_more : (M : Model) (n k n' : ℕ) → n' ≡ n + k → (list : List Stimulus) (o : Outcome Active) (es : List Event) (s : State) (left : ℕ) (r' : Ran Active)
    → ExtendsBy o es s left k r' → NeverPast (run_from M n list (ran es s left o)) → run_from M n' list r' ≡ run_from M n list (ran es s left o)
same_with_more M n k n' e [] (Done a) es s left r' x h = ap (run_from M n' []) x
same_with_more M n k n' e (y ∷ ys) (Done a) es s left r' x h =
    ap (run_from M n' (y ∷ ys)) x
    ∙ ap (λ (later : List Shown). shown M (ran es s left (Done a)) ∷ later)
    (same_with_more M n k n' e ys (step M a y n s).outcome (step M a y n s).events (step M a y n s).state (step M a y n s).left
    (step M a y n' s) ((step_tied {f = n} {g = n'} M a y).extends n k n' s e (le_refl n) (le_refl n')) h.1)
same_with_more M n k n' e list Stop es s left r' x h = ap (run_from M n' list) x
same_with_more M n k n' e list (Fault kind place) es s left r' x h = ap (run_from M n' list) x
same_with_more M n k n' e list Out es s left r' x h = absurd h.0

pub enough_units_are_enough : EnoughUnitsAreEnough
unfolding sdl
enough_units_are_enough M list n more p h =
    let r = start M n (first_state M) in
    same_with_more M n (more - n) more (difference n more p) list r.outcome r.events r.state r.left (start M more (first_state M))
    ((start_tied {f = n} {g = more} M).extends n (more - n) more (first_state M) (difference n more p) (le_refl n) (le_refl more)) (never_past (sdl M list n) h)

-- ---- what follows

answers_from : (M : Model) (n : ℕ) (list : List Stimulus) (o : Outcome Active) (es : List Event) (s : State) (left : ℕ)
    → AnswersEach list (run_from M n list (ran es s left o))
answers_from M n [] (Done a) es s left = refl
answers_from M n (x ∷ xs) (Done a) es s left =
    let r = step M a x n s in answers_from M n xs r.outcome r.events r.state r.left
answers_from M n [] Stop es s left = refl
answers_from M n (x ∷ xs) Stop es s left = answers_from M n xs Stop [] s left
answers_from M n [] (Fault kind place) es s left = refl
answers_from M n (x ∷ xs) (Fault kind place) es s left = refl
answers_from M n [] Out es s left = refl
answers_from M n (x ∷ xs) Out es s left = refl

pub each_is_answered : EachIsAnswered
unfolding sdl
each_is_answered M list n = let r = start M n (first_state M) in answers_from M n list r.outcome r.events r.state r.left

all_show_nothing : (s : State) (list : List Stimulus) → AllByRecursion (ShowsNothing s.store.variables) (map (shown_stopped s) list)
all_show_nothing s [] = tt
all_show_nothing s (x ∷ xs) = (refl, all_show_nothing s xs)

stays_stopped : (s : State) (list : List Stimulus) → StaysStopped (map (shown_stopped s) list)
stays_stopped s [] = tt
stays_stopped s (x ∷ xs) = (all_show_nothing s xs, stays_stopped s xs)

stays_from : (M : Model) (n : ℕ) (list : List Stimulus) (o : Outcome Active) (es : List Event) (s : State) (left : ℕ)
    → StaysStopped (run_from M n list (ran es s left o))
stays_from M n [] (Done a) es s left = (tt, tt)
stays_from M n (x ∷ xs) (Done a) es s left =
    let r = step M a x n s in (tt, stays_from M n xs r.outcome r.events r.state r.left)
stays_from M n list Stop es s left = (all_show_nothing s list, stays_stopped s list)
stays_from M n list (Fault kind place) es s left = (tt, tt)
stays_from M n list Out es s left = (tt, tt)

pub stopped_for_good : StoppedForGood
unfolding sdl
stopped_for_good M list n = let r = start M n (first_state M) in stays_from M n list r.outcome r.events r.state r.left
