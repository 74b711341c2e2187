use Rattle.og_model.specs.declared.EventId.TheVariants as event
use Rattle.og_cload.proofs.Grown.{numbers_map}
use Rattle.og_cload.proofs.fields.add_outputs.Goals as goal

pub loop-signal-preserved : goal.loop-signal-preserved
loop-signal-preserved c =
    numbers_map event.Output c.loop-signal.signal c.args.events.now c.loop-signal.events c.push.new.self c.loop-signal.invariant c.in_ok-push.ensures.ok
