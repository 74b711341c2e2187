use Rattle.og_follow.specs.Carrying.{told, led, ways}
use Rattle.og_follow.proofs.Carrying.{or_faults}
use Rattle.og_follow.proofs.laws.faults_lead_out.Goals as goal

pub returns : goal.returns
returns g c = λ code fuel place r next before after P goes faults. or_faults code fuel place r next (told before) (led after) (ways P) goes faults
