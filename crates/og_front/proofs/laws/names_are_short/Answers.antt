use Rattle.og_front.proofs.ShortNames.{short_spelt}
use Rattle.og_front.proofs.laws.names_are_short.Goals as goal

pub returns : goal.returns
returns c = short_spelt
