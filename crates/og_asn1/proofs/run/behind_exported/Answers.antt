use Rattle.std.proofs.Common.{length, refl, sym, ap, ◌∙◌}
use Rattle.og_asn1.specs.Reading.{rest_of, behind_one, passed}
use Rattle.og_asn1.proofs.Turns.{passed_first, passed_goes_on, passed_stops, passed_ends}
use Rattle.og_asn1.proofs.run.behind_exported.Goals as goal

pub loop-init : goal.loop-init
loop-init c = passed_first behind_one (rest_of c.args.from) (length c.args.from.choices.now) refl

pub returns-then-not-goes_on : goal.returns-then-not-goes_on
returns-then-not-goes_on c =
    c.after.ensures ∙ passed_stops behind_one (length c.args.from.choices.now) c.loop.counter (rest_of c.loop.left) (passed behind_one (rest_of c.args.from)) c.loop-test.true (sym c.goes_on.ensures ∙ c.if-not-goes_on.true) c.loop.invariant

pub loop-preserved : goal.loop-preserved
loop-preserved c =
    passed_goes_on behind_one (length c.args.from.choices.now) c.loop.counter (rest_of c.loop.left) (rest_of c.behind_one-left.result) (passed behind_one (rest_of c.args.from)) c.loop-test.true (sym c.goes_on.ensures ∙ c.if-not-goes_on.false)
    (c.behind_one-left.ensures ∙ ap behind_one c.after-in-loop.ensures) c.loop.invariant

pub returns : goal.returns
returns c = passed_ends behind_one (length c.args.from.choices.now) c.loop.counter (rest_of c.loop.left) (passed behind_one (rest_of c.args.from)) c.loop-test.false c.loop.invariant
