use Rattle.og_follow.specs.Carrying.{told, led, ways}
use Rattle.og_follow.proofs.Partitions.{enters_partitions, last_fails, second_fails}
use Rattle.og_follow.proofs.trials.partitions_are_followed.Goals as goal

pub returns-clause-one_and_others : goal.returns-clause-one_and_others
returns-clause-one_and_others c = λ code fuel M enter q qs before hooked arrived parted others after H S R T is.
    enters_partitions code fuel M enter q qs (told before) (led hooked) (led arrived) (led parted) (λ a. led (others a)) (led after) (ways H) (ways S) (ways R) (ways T) is

pub returns-clause-last_fails : goal.returns-clause-last_fails
returns-clause-last_fails c = λ code fuel M enter q before hooked failed after H S is.
    last_fails code fuel M enter q (told before) (led hooked) (led failed) (led after) (ways H) (ways S) is

pub returns-clause-second_fails : goal.returns-clause-second_fails
returns-clause-second_fails c = λ code fuel M enter q r before hooked arrived parted hooked_then failed after H S R K F one fails third second first.
    second_fails code fuel M enter q r (told before) (led hooked) (led arrived) (led parted) (led hooked_then) (led failed) (led after) (ways H) (ways S) (ways R) (ways K) (ways F) one fails third second first
