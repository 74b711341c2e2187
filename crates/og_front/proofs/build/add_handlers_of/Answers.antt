use Rattle.std.proofs.Common.{arith}
use Rattle.og_front.proofs.Building.{handed_more, handed_all}
use Rattle.og_front.proofs.build.add_handlers_of.Goals as goal

pub loop-input-preserved : goal.loop-input-preserved
loop-input-preserved c = (
  handed_more c.args.tables.now c.args.text.now.name c.number_in-state.result c.loop-input.body c.in_ok-body.body c.loop-input.states.items _ c.handler_of.result c.as_slice-input-items.result.now c.args.text.now.inputs c.loop-input.input-index
      c.input-item.result _ c.as_slice-input-items.ensures c.loop-input-test.true c.input-item.is (c.handler_of.ensures c.args.text.now.name) c.in_ok-add_handler.ensures c.in_ok-body.ensures c.loop-input.invariant.0,
  omega (arith, c.in_ok-body.ensures, c.loop-input.invariant.1),
)

pub returns-clause-given : goal.returns-clause-given
returns-clause-given c =
    handed_all c.args.tables.now c.args.text.now.name c.number_in-state.result _ c.args.first c.loop-input.body c.args.states.now.items c.loop-input.states.items c.as_slice-input-items.result.now c.args.text.now.inputs c.loop-input.input-index
    c.as_slice-input-items.ensures c.loop-input-test.false c.number_in-state.ensures c.loop-input.invariant.0
