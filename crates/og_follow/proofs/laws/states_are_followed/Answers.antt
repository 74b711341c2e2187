use Rattle.og_follow.specs.Carrying.{told, led, ways}
use Rattle.og_follow.proofs.Carrying.{by_state_of, becomes}
use Rattle.og_follow.proofs.laws.states_are_followed.Goals as goal

pub returns-clause-by_state : goal.returns-clause-by_state
returns-clause-by_state g c = λ code fuel d before after P each. by_state_of code fuel d (told before) (led after) (ways P) each

pub returns-clause-storing : goal.returns-clause-storing
returns-clause-storing g c = λ code fuel store d before mid after P changes carries. becomes code fuel (λ s. record s { store = store }) d (told before) (told mid) (led after) (ways P) changes carries

pub returns-clause-timing : goal.returns-clause-timing
returns-clause-timing g c = λ code fuel timers d before mid after P changes carries. becomes code fuel (λ s. record s { timers = timers }) d (told before) (told mid) (led after) (ways P) changes carries
