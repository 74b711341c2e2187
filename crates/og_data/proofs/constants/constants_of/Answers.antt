use Rattle.std.proofs.Common.{arith}
use Rattle.og_dataview.specs.View.{constant_in_view}
use Rattle.og_data.proofs.Declared.{constants_more}
use Rattle.og_data.proofs.constants.constants_of.Goals as goal

pub loop-place-preserved : goal.loop-place-preserved
loop-place-preserved c =
    constants_more (constant_in_view c.args.valued.now.scope.flat c.args.names.now) c.as_slice-declared.result.now c.loop-place.place c.index-declared-place.result c.loop-place.constants c.push.new.self
    c.constant_of.result (omega arith) c.index-declared-place.is c.in_ok-push.ensures.ok c.constant_of.ensures c.loop-place.invariant
