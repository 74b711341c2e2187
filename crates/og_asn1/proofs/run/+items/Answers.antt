use Rattle.std.proofs.Common.{length, refl, sym, ap, ◌∙◌}
use Rattle.og_asn1.specs.Reading.{rest_of, behind_item, behind_items, passed}
use Rattle.og_asn1.proofs.Turns.{passed_first, passed_goes_on, passed_stops, passed_ends}
use Rattle.og_asn1.proofs.run.+items.Goals as goal

pub behind_each-loop-init : goal.behind_each-loop-init
behind_each-loop-init t c = passed_first (behind_item (behind_items c.args.fuel)) (rest_of c.args.from) (length c.args.from.choices.now) refl

pub behind_each-returns-then-not-goes_on : goal.behind_each-returns-then-not-goes_on
behind_each-returns-then-not-goes_on t c =
    let pass = behind_item (behind_items c.args.fuel) in
    c.after.ensures ∙ passed_stops pass (length c.args.from.choices.now) c.loop.counter (rest_of c.loop.left) (passed pass (rest_of c.args.from)) c.loop-test.true (sym c.goes_on.ensures ∙ c.if-not-goes_on.true) c.loop.invariant

pub behind_each-loop-preserved : goal.behind_each-loop-preserved
behind_each-loop-preserved t c =
    let pass = behind_item (behind_items c.args.fuel) in
    passed_goes_on pass (length c.args.from.choices.now) c.loop.counter (rest_of c.loop.left) (rest_of c.behind_item-left.result) (passed pass (rest_of c.args.from)) c.loop-test.true (sym c.goes_on.ensures ∙ c.if-not-goes_on.false)
    (c.behind_item-left.ensures ∙ ap pass c.after-in-loop.ensures) c.loop.invariant

pub behind_each-returns : goal.behind_each-returns
behind_each-returns t c =
    let pass = behind_item (behind_items c.args.fuel) in
    passed_ends pass (length c.args.from.choices.now) c.loop.counter (rest_of c.loop.left) (passed pass (rest_of c.args.from)) c.loop-test.false c.loop.invariant
