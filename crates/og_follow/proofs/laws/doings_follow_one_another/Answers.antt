use Rattle.og_follow.specs.Carrying.{told, led, ways}
use Rattle.og_follow.proofs.Carrying.{one_then_other}
use Rattle.og_follow.proofs.laws.doings_follow_one_another.Goals as goal

pub returns : goal.returns
returns g c = λ code fuel d next before mid after P Q one nexts alike can. one_then_other code fuel d next (told before) (led mid) (led after) (ways P) (ways Q) one nexts alike can
