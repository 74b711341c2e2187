use Rattle.og_layout.proofs.AtRest.{rest_is_read}
use Rattle.og_layout.proofs.rests_are_read.Goals as goal

pub returns : goal.returns
returns c = rest_is_read
