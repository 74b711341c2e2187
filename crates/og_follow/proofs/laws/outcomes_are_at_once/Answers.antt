use Rattle.og_follow.specs.Carrying.{told, led, ways}
use Rattle.og_follow.proofs.Carrying.{ends_at_once, runs_out_at_once}
use Rattle.og_follow.proofs.laws.outcomes_are_at_once.Goals as goal

pub returns-clause-ends : goal.returns-clause-ends
returns-clause-ends g c = λ code fuel o before after P ended least there. ends_at_once code fuel o (told before) (led after) (ways P) ended least there

pub returns-clause-out : goal.returns-clause-out
returns-clause-out g c = λ code before after P runs. runs_out_at_once code (told before) (led after) (ways P) runs
