use Rattle.std.proofs.Common.{ap, ◌∙◌, arith}
use Rattle.og_dataview.specs.View.{is_made_of, same_as}
use Rattle.og_dataview.proofs.Tables.{tabulated_more}
use Rattle.og_datatypes.specs.Kept.{is_marked}
use Rattle.og_datatypes.proofs.Depths.{one_more}
use Rattle.og_datatypes.proofs.known.Known.one_deeper.Goals as goal

pub loop-place-preserved : goal.loop-place-preserved
loop-place-preserved c =
    tabulated_more (λ p. is_made_of c.args.self.now.limited.valued.scope.flat (is_marked c.args.within.now) (same_as c.args.self.now.limited.valued.scope.flat p)) _ _ _ _ c.in_ok-push.ensures.items
    (c.is_made_of.ensures ∙ ap (is_made_of c.args.self.now.limited.valued.scope.flat (is_marked c.args.within.now)) c.same_as.ensures) c.loop-place.invariant

pub returns : goal.returns
returns c =
    one_more c.args.self.now.limited.valued.scope.flat c.args.within.now _ c.loop-place.place c.loop-place.invariant
    (omega (arith, c.loop-place-test.false, c.loop-place.auto.place-end, c.in_ok-count.ensures, c.len.ensures))
