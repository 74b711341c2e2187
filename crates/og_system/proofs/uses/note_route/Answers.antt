use Rattle.og_system.specs.Scopes.{in_path}
use Rattle.og_system.specs.Tables.{seen_by_block}
use Rattle.og_system.proofs.Noticed.{noted_more}
use Rattle.og_system.proofs.uses.note_route.Goals as goal

pub loop-path-preserved : goal.loop-path-preserved
loop-path-preserved c =
    noted_more (in_path (seen_by_block c.args.around.now c.args.system.now c.args.block.now).process (seen_by_block c.args.around.now c.args.system.now c.args.block.now)) c.as_slice-paths.result.now c.loop-path.path-index c.path-item.result c.loop-path.first c.note_path_of_route.new.first c.args.first.now
    c.loop-path-test.true c.path-item.is (cc) c.loop-path.invariant
