-- Continuous signals are tested one after the other, and where one has fired they are tested again.
use Rattle.std.proofs.Common.{◌≡◌, ℕ, zero, suc, ◌≤◌, Bool, true, false, List, [], ◌∷◌, Result, Ok, Err, inl, inr, subst, arith}
use Rattle.og_types.specs.declared.Value.{Value}
use Rattle.og_model.specs.declared.FaultKind.{FaultKind}
use Rattle.og_model.specs.declared.Model.{Model}
use Rattle.og_model.specs.Expressions.{eval, no_frame, truth_of}
use Rattle.og_model.specs.Units.{State, Done, Fault, Doing, runs_out, then_do, spend, or_fault}
use Rattle.og_model.specs.Configuration.{Active}
use Rattle.og_model.specs.Moving.{fire}
use Rattle.og_model.specs.Settling.{Continuous, continuous_of, ordered, when, first_of, settle_by, settle}
use Rattle.og_follow.specs.Carrying.{Code, Standing, in_state, Exits, Places, either, Apart, Among, Ways, CarriesOut, behind, behind_unit, one_then, CanFollow, Narrower, Always}
use Rattle.og_follow.specs.Trials.{by_truth, where_tested, testing, Settles}
use Rattle.og_follow.proofs.Carrying.{ends_at_once, by_state_of, begins_then, passes_then, one_then_other, as_wider, by_fuel, spends_nothing}
use Rattle.og_follow.proofs.Partitions.{is_done}

module _ (code : Code) (M : Model) (settling : Active → Standing) (tests : Active → List Continuous → Standing) (firing : Active → Continuous → Standing) (fired after : Exits Active) (T X : Places) (F : Ways) (is : Settles code M settling tests firing fired after T X F) where
  abbrev again_ways : Ways
  again_ways = behind T (testing T X F)

  -- the places behind a test
  abbrev tested_ways : Ways
  tested_ways = record { head = F.head; near = either F.near (either X F.head); tail = (testing T X F).tail; least = 0 }

  can : CanFollow F again_ways
  can = record { tail = tail; head = λ few. absurd (more few); near = λ few. absurd (more few); both = λ none. absurd (more (few none)) }
    where
      two : 2 ≤ F.least
      two = is.two

      more : F.least ≤ 1 → ⊥
      more few = omega (arith, two, few)

      few : F.least ≡ 0 → F.least ≤ 1
      few none = omega (arith, none)

      tail : Apart again_ways.head F.tail
      tail f p (inl x) = is.again_apart f p x
      tail f p (inr y) = absurd y

  fires_narrower : Narrower (one_then F again_ways) tested_ways
  fires_narrower = record { head = head; near = near; tail = tail; least = omega (arith) }
    where
      two : 2 ≤ F.least
      two = is.two

      none : F.least ≡ 0 → ⊥
      none e = omega (arith, two, e)

      few : F.least ≤ 1 → ⊥
      few e = omega (arith, two, e)

      head : Among (one_then F again_ways).head F.head
      head f p (inl x) = x
      head f p (inr y) = absurd (none y.0)

      near : Among (one_then F again_ways).near (either F.near (either X F.head))
      near f p (inl x) = inl x
      near f p (inr (inl y)) = absurd (few y.0)
      near f p (inr (inr y)) = absurd (none y.0)

      tail : Among (one_then F again_ways).tail (testing T X F).tail
      tail f p (inl x) = inr (inr (inl x))
      tail f p (inr (inl (inl y))) = inr (inr (inr y))
      tail f p (inr (inl (inr y))) = absurd y
      tail f p (inr (inr z)) = z

  next_narrower : Narrower (testing T X F) tested_ways
  next_narrower = record { head = λ f p x. absurd x; near = λ f p x. inr x; tail = λ f p x. x; least = omega (arith) }

  tested_narrower : Narrower (behind_unit X tested_ways) (testing T X F)
  tested_narrower = record { head = λ f p x. x; near = λ f p x. x; tail = tail; least = omega (arith) }
    where
      tail : Among (behind_unit X tested_ways).tail (testing T X F).tail
      tail f p (inl x) = inl x
      tail f p (inr (inl y)) = inr (inl y)
      tail f p (inr (inr z)) = z

  -- one test: the signal fires and the process settles again, or the next one is tested
  leads_by : (fuel : ℕ) (again : Active → Doing Active) → ((a : Active) → CarriesOut code fuel (again a) (settling a) after again_ways) → (a : Active) (x : Continuous) (xs : List Continuous) → CarriesOut code fuel (first_of M again a xs) (tests a xs) after (testing T X F)
      → (b : Bool) → CarriesOut code fuel (when b (then_do (fire M x.address x.body a) again) (first_of M again a xs)) (by_truth b (firing a x) (tests a xs)) after tested_ways
  leads_by fuel again goes a x xs next true =
      as_wider code fuel fuel (then_do (fire M x.address x.body a) again) (firing a x) (firing a x) after after (one_then F again_ways) tested_ways (omega (arith)) (λ s now at. at) (λ o s now at. at) fires_narrower
      (one_then_other code fuel (fire M x.address x.body a) again (firing a x) fired after F again_ways (is.fires fuel a x)
      (λ b. as_wider code fuel fuel (again b) (settling b) (fired (Done b)) after after again_ways again_ways (omega (arith)) (is.again b) (λ o s now at. at) same (goes b))
      is.ends can)
    where
      same : Narrower again_ways again_ways
      same = record { head = λ f p x. x; near = λ f p x. x; tail = λ f p x. x; least = omega (arith) }
  leads_by fuel again goes a x xs next false =
      as_wider code fuel fuel (first_of M again a xs) (tests a xs) (tests a xs) after after (testing T X F) tested_ways (omega (arith)) (λ s now at. at) (λ o s now at. at) next_narrower next

  tested_by : (fuel : ℕ) (again : Active → Doing Active) → ((a : Active) → CarriesOut code fuel (again a) (settling a) after again_ways) → (a : Active) (x : Continuous) (xs : List Continuous) → CarriesOut code fuel (first_of M again a xs) (tests a xs) after (testing T X F)
      → (r : Result Value FaultKind) → CarriesOut code fuel (or_fault x.place r (λ v. when (truth_of v) (then_do (fire M x.address x.body a) again) (first_of M again a xs))) (where_tested x (firing a x) (tests a xs) after r) after tested_ways
  tested_by fuel again goes a x xs next (Ok v) = leads_by fuel again goes a x xs next (truth_of v)
  tested_by fuel again goes a x xs next (Err kind) =
      ends_at_once code fuel (Fault kind x.place) (after (Fault kind x.place)) after tested_ways (λ e. subst is_done e tt) tt (λ s now at. at)

  -- the tests from one on
  first_carried : (fuel : ℕ) (again : Active → Doing Active) → ((a : Active) → CarriesOut code fuel (again a) (settling a) after again_ways) → (a : Active) (xs : List Continuous) → CarriesOut code (suc fuel) (first_of M again a xs) (tests a xs) after (testing T X F)
  first_carried fuel again goes a [] =
      ends_at_once code (suc fuel) (Done a) (tests a []) after (testing T X F) (λ e. subst is_done e tt) (omega (arith)) (is.rests a)
  first_carried fuel again goes a (x ∷ xs) =
      let next : CarriesOut code fuel (first_of M again a xs) (tests a xs) after (testing T X F) =
      as_wider code (suc fuel) fuel (first_of M again a xs) (tests a xs) (tests a xs) after after (testing T X F) (testing T X F) (omega (arith)) (λ s now at. at) (λ o s now at. at) same (first_carried fuel again goes a xs) in
      let goes_on : State → Doing Active = λ s. or_fault x.place (eval no_frame s.store x.condition) (λ v. when (truth_of v) (then_do (fire M x.address x.body a) again) (first_of M again a xs)) in
      by_state_of code (suc fuel) (λ s. spend (goes_on s)) (tests a (x ∷ xs)) after (testing T X F)
      (λ s. as_wider code (suc fuel) (suc fuel) (spend (goes_on s)) (in_state s (tests a (x ∷ xs))) (in_state s (tests a (x ∷ xs))) after after (behind_unit X tested_ways) (testing T X F) (omega (arith)) (λ t now at. at) (λ o t now at. at) tested_narrower
      (begins_then code fuel (goes_on s) (in_state s (tests a (x ∷ xs))) [] (where_tested x (firing a x) (tests a xs) after (eval no_frame s.store x.condition)) after X tested_ways (is.test a x xs s)
      (tested_by fuel again goes a x xs next (eval no_frame s.store x.condition)) is.head_apart))
    where
      same : Narrower (testing T X F) (testing T X F)
      same = record { head = λ f p x. x; near = λ f p x. x; tail = λ f p x. x; least = omega (arith) }

  -- without a unit nothing is tested
  none_tested : (again : Active → Doing Active) (a : Active) (xs : List Continuous) → CarriesOut code 0 (first_of M again a xs) (tests a xs) after (testing T X F)
  none_tested again a [] =
      ends_at_once code 0 (Done a) (tests a []) after (testing T X F) (λ e. subst is_done e tt) (omega (arith)) (is.rests a)
  none_tested again a (x ∷ xs) =
      let goes_on : State → Doing Active = λ s. or_fault x.place (eval no_frame s.store x.condition) (λ v. when (truth_of v) (then_do (fire M x.address x.body a) again) (first_of M again a xs)) in
      by_state_of code 0 (λ s. spend (goes_on s)) (tests a (x ∷ xs)) after (testing T X F)
      (λ s. spends_nothing code (goes_on s) (in_state s (tests a (x ∷ xs))) after (testing T X F) (is.test a x xs s).runs)

  top_then : (fuel : ℕ) (d : Doing Active) (a : Active) → CarriesOut code fuel d (tests a (ordered (continuous_of M.root a))) after (testing T X F) → CarriesOut code fuel d (settling a) after again_ways
  top_then fuel d a carries =
      passes_then code fuel d (settling a) [] (tests a (ordered (continuous_of M.root a))) after T (testing T X F) (is.top a) carries (λ f p x. absurd x) near
    where
      near : Apart (either X F.head) T
      near f p (inl x) = is.tests_apart f p x
      near f p (inr y) = is.top_apart f p y

  settles_by : (fuel : ℕ) (a : Active) → CarriesOut code fuel (settle_by fuel M a) (settling a) after again_ways
  settles_by zero a = top_then 0 (settle_by zero M a) a (none_tested (λ b. runs_out) a (ordered (continuous_of M.root a)))
  settles_by (suc fuel) a =
      top_then (suc fuel) (settle_by (suc fuel) M a) a (first_carried fuel (settle_by fuel M) (settles_by fuel) a (ordered (continuous_of M.root a)))

  -- the process settles, however often its continuous signals fire
  pub settles : (a : Active) → Always code (settle M a) (settling a) after again_ways
  settles a = by_fuel code (λ fuel. settle_by fuel M a) (settling a) after again_ways (λ fuel. settles_by fuel a)
