use Rattle.std.proofs.Common.{[], ◌∷◌, ◌++◌, map, ap, ◌∙◌}
use Rattle.og_csubset.specs.declared.CGlobal.{CGlobal}
use Rattle.og_cload.proofs.Grown.{numbers_map}
use Rattle.og_cstep.specs.Interfaces.{signal_slots}
use Rattle.og_cstep.proofs.interface.signal_slots.Goals as goal

pub loop-signal-preserved : goal.loop-signal-preserved
loop-signal-preserved c =
    numbers_map (signal_slots (map (λ (g : CGlobal). g.name.bytes) c.args.globals.now) c.args.model.now) c.loop-signal.signal [] c.loop-signal.slots c.push.new.self c.loop-signal.invariant
    (c.in_ok-push.ensures.ok ∙ ap (λ s. c.loop-signal.slots ++ s ∷ []) c.in_ok-one.ensures)
