use Rattle.og_stim.proofs.Formed.{value_was, value_is}
use Rattle.og_stim.proofs.laws.values_are_read.Goals as goal

pub returns : goal.returns
returns c = λ M sort text v has. (value_was M sort text v has, value_is M sort text v has)
