use Rattle.og_types.proofs.Measured.{depth_read}
use Rattle.og_types.proofs.table.TypeTable.depth_of.Goals as goal

pub returns : goal.returns
returns c = depth_read _ _ _ _ c.args.sort.now _ c.self.invariant c.self.view_is c.as_slice.ensures c.requires c.depth_of.ensures
