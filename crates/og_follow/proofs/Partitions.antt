-- Partitions are entered one after the other, and one of them may fail where others are entered already.
use Rattle.std.proofs.Common.{ℕ, List, [], ◌∷◌, Option, None, subst, arith}
use Rattle.std.specs.Prelude.{⊤}
use Rattle.og_model.specs.declared.Model.{Model}
use Rattle.og_model.specs.declared.Partition.{Partition, out-Partition}
use Rattle.og_model.specs.Units.{State, Outcome, Done, Out, Doing, gives, then_do, spend}
use Rattle.og_model.specs.Configuration.{Active, Parts, add_part}
use Rattle.og_model.specs.Moving.{Arrival, Entering, hook, started, in_partition, enter_parts}
use Rattle.og_ir.specs.Steps.{Config}
use Rattle.og_follow.specs.Carrying.{Code, Standing, Exits, Ways, CarriesOut, no_places, one_then, CanFollow}
use Rattle.og_follow.specs.Trials.{EntersOne, EntersPartitions, FailsInLast, without_result}
use Rattle.og_follow.proofs.Carrying.{ends_at_once, never_begins, one_then_other, as_wider}
use Rattle.og_follow.proofs.Calls.{same_way, then_nothing}

abbrev pub is_done : {A : Type 0} → Outcome A → Type 0
is_done Out = ⊥
is_done o = Unit {0}

-- what the others gave, with this one
adds : (code : Code) (fuel : ℕ) (a : Option Active) (others after : Exits Parts) → ((ps : Parts) (s : State) (now : Config) → others (Done ps) s now → after (Done (add_part a ps)) s now) → (ps : Parts) → CarriesOut code fuel (gives (add_part a ps)) (others (Done ps)) after no_places
adds code fuel a others after done ps =
    ends_at_once code fuel (Done (add_part a ps)) (others (Done ps)) after no_places (λ e. subst is_done e tt) (omega (arith)) (λ s now at. done ps s now at)

-- one partition, and then the others
pub enters_partitions : (code : Code) (fuel : ℕ) (M : Model) (enter : Entering) (q : Partition) (qs : List Partition) (before : Standing) (hooked : Exits ⊤) (arrived : Exits Arrival) (parted : Exits (Option Active)) (others : Option Active → Exits Parts) (after : Exits Parts) (H S R T : Ways)
    → EntersPartitions code fuel M enter q qs before hooked arrived parted others after H S R T
    → CarriesOut code fuel (enter_parts M enter (q ∷ qs)) before after (one_then H (one_then S (one_then R T)))
enters_partitions code fuel M enter q qs before hooked arrived parted others after H S R T is =
    let last : (a : Option Active) → Doing Parts = λ a. then_do (enter_parts M enter qs) (λ ps. gives (add_part a ps)) in
    let parts : Arrival → Doing Parts = λ x. then_do (in_partition M (out-Partition q).exit x) last in
    one_then_other code fuel (spend (hook M (out-Partition q).entry)) (λ done. then_do (started M enter (out-Partition q).inner None) parts) before hooked after H (one_then S (one_then R T)) is.entry
    (λ done. one_then_other code fuel (started M enter (out-Partition q).inner None) parts (hooked (Done tt)) arrived after S (one_then R T) is.start
    (λ x. one_then_other code fuel (in_partition M (out-Partition q).exit x) last (arrived (Done x)) parted after R T (is.part x)
    (λ a. as_wider code fuel fuel (last a) (parted (Done a)) (parted (Done a)) after after (one_then T no_places) T (omega (arith)) (λ s now at. at) (λ o s now at. at) (same_way T)
    (one_then_other code fuel (enter_parts M enter qs) (λ ps. gives (add_part a ps)) (parted (Done a)) (others a) after T no_places (is.more a)
    (adds code fuel a (others a) after (is.done a)) (is.more_ends a) (then_nothing T)))
    is.part_ends is.third)
    is.start_ends is.second)
    is.entry_ends is.first

-- the last one fails
pub last_fails : (code : Code) (fuel : ℕ) (M : Model) (enter : Entering) (q : Partition) (before : Standing) (hooked : Exits ⊤) (failed : Exits Arrival) (after : Exits Parts) (H S : Ways)
    → FailsInLast code fuel M enter q before hooked failed after H S
    → CarriesOut code fuel (enter_parts M enter (q ∷ [])) before after (one_then H S)
last_fails code fuel M enter q before hooked failed after H S is =
    let last : Option Active → Doing Parts = λ a. then_do (enter_parts M enter []) (λ ps. gives (add_part a ps)) in
    let parts : Arrival → Doing Parts = λ x. then_do (in_partition M (out-Partition q).exit x) last in
    let start : ⊤ → Doing Parts = λ done. then_do (started M enter (out-Partition q).inner None) parts in
    one_then_other code fuel (spend (hook M (out-Partition q).entry)) start before hooked after H S is.entry
    (λ done. as_wider code fuel fuel (start tt) (hooked (Done tt)) (hooked (Done tt)) after after (one_then S no_places) S (omega (arith)) (λ s now at. at) (λ o s now at. at) (same_way S)
    (one_then_other code fuel (started M enter (out-Partition q).inner None) parts (hooked (Done tt)) failed after S no_places is.start
    (λ x. never_begins code fuel (parts x) (failed (Done x)) after no_places (is.never x))
    is.start_ends (then_nothing S)))
    is.entry_ends is.first

-- the second of two fails, whatever the first arrived at
pub second_fails : (code : Code) (fuel : ℕ) (M : Model) (enter : Entering) (q r : Partition) (before : Standing) (hooked : Exits ⊤) (arrived : Exits Arrival) (parted : Exits (Option Active)) (hooked_then : Exits ⊤) (failed : Exits Arrival) (after : Exits Parts) (H S R K F : Ways)
    → EntersOne code fuel M enter q before hooked arrived parted after H S R
    → ((a : Option Active) → FailsInLast code fuel M enter r (parted (Done a)) hooked_then failed after K F)
    → CanFollow R (one_then K F) → CanFollow S (one_then R (one_then K F)) → CanFollow H (one_then S (one_then R (one_then K F)))
    → CarriesOut code fuel (enter_parts M enter (q ∷ r ∷ [])) before after (one_then H (one_then S (one_then R (one_then K F))))
second_fails code fuel M enter q r before hooked arrived parted hooked_then failed after H S R K F one fails third second first =
    enters_partitions code fuel M enter q (r ∷ []) before hooked arrived parted (λ a. without_result after) after H S R (one_then K F) (record {
      entry = one.entry;
      start = one.start;
      part = one.part;
      more = λ a. last_fails code fuel M enter r (parted (Done a)) hooked_then failed (without_result after) K F (record {
        entry = (fails a).entry;
        start = (fails a).start;
        never = (fails a).never;
        entry_ends = (fails a).entry_ends;
        start_ends = (fails a).start_ends;
        first = (fails a).first;
      });
      done = λ a ps s now at. absurd at;
      entry_ends = one.entry_ends;
      start_ends = one.start_ends;
      part_ends = one.part_ends;
      more_ends = λ a. ((λ s now at. at), (λ kind place s now at. at));
      third = third;
      second = second;
      first = first;
    })
