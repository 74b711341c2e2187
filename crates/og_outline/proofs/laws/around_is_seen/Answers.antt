use Rattle.og_outline.proofs.Around.{seen}
use Rattle.og_outline.proofs.laws.around_is_seen.Goals as goal

pub returns : goal.returns
returns c = seen
