-- What has to be opened so that what is asked of a value that is written out computes: an example is proved by `refl` under
-- `unfolding values`.
use Rattle.std.specs.Prelude.{⊤}
use Rattle.og_types.specs.declared.Value.{out-Value, roll-Value}
use Rattle.og_types.specs.declared.Value.TheBlock as Values
use denote.Hole.Carrier
use denote.Hole.Rolled

unfoldable pub values : ⊤
unfolding Carrier.out Carrier.roll Carrier.shown Carrier.hidden Carrier.fold Rolled.depth out-Value roll-Value Values.the_depth Values.shape-the_row-Value-0 Values.hidden-the_row-Value-0 Values.shown-the_row-Value-0 Values.shape-the_row-Value-1 Values.hidden-the_row-Value-1 Values.shown-the_row-Value-1
values = tt
