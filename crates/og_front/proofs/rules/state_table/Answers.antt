use Rattle.og_front.proofs.ShortNames.{short_image}
use Rattle.og_front.proofs.rules.state_table.Goals as goal

pub add_name-requires : goal.add_name-requires
add_name-requires c =
    short_image (λ state. state.name) c.args.states.now c.loop-state.state-index c.state-item.result c.requires c.loop-state-test.true c.state-item.is
