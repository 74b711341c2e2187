use Rattle.og_front.specs.Rules.{used_by_input}
use Rattle.og_front.proofs.Loops.{noted_more}
use Rattle.og_front.proofs.rules.note_unknown_in_inputs.Goals as goal

pub loop-input-preserved : goal.loop-input-preserved
loop-input-preserved c =
    noted_more (used_by_input c.args.tables.now) c.args.inputs.now c.loop-input.input-index c.input-item.result c.loop-input.first c.note_unknown_in_input.new.first c.args.first.now
    c.loop-input-test.true c.input-item.is c.note_unknown_in_input.ensures c.loop-input.invariant
