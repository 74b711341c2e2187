use Rattle.og_outline.proofs.Closed.{whole}
use Rattle.og_outline.proofs.laws.outlines_are_closed.Goals as goal

pub returns : goal.returns
returns c = whole
