use Rattle.std.proofs.Common.{rules}
use Rattle.og_front.proofs.parse.kinds_of.Goals as goal

pub returns : goal.returns
returns c = search rules
