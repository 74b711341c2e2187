use Rattle.og_follow.specs.Carrying.{told, listed}
use Rattle.og_follow.proofs.Carrying.{step_passes, step_begins, passes_on, begins_on}
use Rattle.og_follow.proofs.laws.steps_go_on.Goals as goal

pub returns-clause-passes : goal.returns-clause-passes
returns-clause-passes c = λ code before shown after X none moves. step_passes code (told before) shown (told after) (listed X) none moves

pub returns-clause-begins : goal.returns-clause-begins
returns-clause-begins c = λ code before shown after X each moves. step_begins code (told before) shown (told after) (listed X) each moves

pub returns-clause-passes_on : goal.returns-clause-passes_on
returns-clause-passes_on c = λ code before one mid two after X Y p q apart. passes_on code (told before) one (told mid) two (told after) (listed X) (listed Y) p q apart

pub returns-clause-begins_on : goal.returns-clause-begins_on
returns-clause-begins_on c = λ code before one mid two after X Y p q apart. begins_on code (told before) one (told mid) two (told after) (listed X) (listed Y) p q apart
