use Rattle.og_layout.proofs.Telling.{numbers_tell}
use Rattle.og_layout.proofs.numbers_tell_paths.Goals as goal

pub returns : goal.returns
returns c = λ M a is. numbers_tell M a is
