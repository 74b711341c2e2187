-- What has to be opened so that a test of an instruction that is written out computes: it is proved by `refl` under
-- `unfolding instructions`.
use Rattle.std.specs.Prelude.{⊤}
use Rattle.og_ir.specs.declared.Flat.{out-Flat, roll-Flat}
use Rattle.og_ir.specs.declared.Flat.TheBlock as block
use Rattle.og_csubset.specs.Fair.{is_number}
use Rattle.og_csubset.specs.FlatText.{flat_piece}
use denote.Hole.Rolled
use denote.Hole.Carrier

unfoldable pub instructions : ⊤
unfolding is_number flat_piece out-Flat roll-Flat block.the_depth Rolled.depth Carrier.fold Carrier.roll Carrier.out block.shape-the_row-Step2-0 block.hidden-the_row-Step2-0 block.shown-the_row-Step2-0 block.shape-the_row-Flat-1 block.hidden-the_row-Flat-1 block.shown-the_row-Flat-1 Carrier.hidden Carrier.shown
instructions = tt
