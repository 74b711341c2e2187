use Rattle.std.proofs.Common.{ap, ◌∙◌}
use Rattle.og_dataview.specs.Following.{both}
use Rattle.og_datatypes.specs.Kept.{range_at}
use Rattle.og_datatypes.proofs.ranges.both_at.Goals as goal

pub returns : goal.returns
returns c = c.both.ensures ∙ (λ i. both (c.range_in-here.ensures i) ((c.range_in-there.ensures ∙ ap (range_at c.args.further.now) c.next_in.ensures) i))
