use Rattle.og_front.proofs.Building.{bare_more}
use Rattle.og_front.proofs.ShortNames.{short_image}
use Rattle.og_front.proofs.build.bare_states.Goals as goal

pub add_state-requires : goal.add_state-requires
add_state-requires c =
    short_image (λ state. state.name) c.args.texts.now c.loop-text.text-index c.text-item.result c.requires c.loop-text-test.true c.text-item.is

pub loop-text-preserved : goal.loop-text-preserved
loop-text-preserved c =
    bare_more c.args.names.now c.loop-text.seen _ c.loop-text.states.items _ c.args.texts.now c.loop-text.text-index c.text-item.result _ c.loop-text-test.true c.text-item.is c.in_ok-add_state.ensures.seen
    c.in_ok-add_state.ensures.states c.loop-text.invariant
