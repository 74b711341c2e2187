use Rattle.og_front.specs.Rules.{used_by_state}
use Rattle.og_front.proofs.Loops.{noted_more}
use Rattle.og_front.proofs.rules.note_unknown_in_states.Goals as goal

pub loop-state-preserved : goal.loop-state-preserved
loop-state-preserved c =
    noted_more (used_by_state c.args.tables.now) c.args.states.now c.loop-state.state-index c.state-item.result c.loop-state.first c.note_unknown_in_inputs.new.first c.args.first.now
    c.loop-state-test.true c.state-item.is (cc) c.loop-state.invariant
