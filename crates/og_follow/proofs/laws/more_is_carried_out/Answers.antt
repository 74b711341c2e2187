use Rattle.og_follow.specs.Carrying.{told, led, ways}
use Rattle.og_follow.proofs.Carrying.{as_wider, by_fuel}
use Rattle.og_follow.proofs.laws.more_is_carried_out.Goals as goal

pub returns-clause-wider : goal.returns-clause-wider
returns-clause-wider g c = λ code fuel fewer d before others after outer P Q few begins leads narrower carries. as_wider code fuel fewer d (told before) (told others) (led after) (led outer) (ways P) (ways Q) few begins leads narrower carries

pub returns-clause-by_units : goal.returns-clause-by_units
returns-clause-by_units g c = λ code d before after P each. by_fuel code d (told before) (led after) (ways P) each
