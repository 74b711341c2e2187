use Rattle.std.proofs.Common.{◌≤◌, arith}
use Rattle.og_types.proofs.Measured.{depth_fits, kept_both}
use Rattle.og_types.proofs.table.TypeTable.add.Goals as goal

pub overflow_cast-measure : goal.overflow_cast-measure
overflow_cast-measure c =
    let shallow : c.depth_of.result ≤ 64 =
    depth_fits _ _ _ _ c.args.sort _ c.self.invariant c.self.view_is c.as_slice-measures.ensures c.requires.behind c.depth_of.ensures in
    omega arith

pub invariant_of-self-2 : goal.invariant_of-self-2
invariant_of-self-2 c =
    kept_both _ _ _ _ c.args.sort _ _ _ c.self.invariant c.self.view_is c.as_slice-measures.ensures c.requires.behind c.requires.few
    (record { depth = c.depth_of.ensures; cells = c.cells_of.ensures; supported = c.is_supported.ensures })
    c.in_ok-push_both.ensures.sorts c.in_ok-push_both.ensures.measures
