use Rattle.std.proofs.Common.{[], ◌∷◌, ◌++◌, sym, ap, ◌∙◌}
use Rattle.og_model.specs.declared.EventId.TheVariants as event
use Rattle.og_cload.proofs.Grown.{numbers_flat, grown_one}
use Rattle.og_cload.proofs.fields.add_timers.Goals as goal

pub loop-timer-preserved : goal.loop-timer-preserved
loop-timer-preserved c =
    numbers_flat (λ k. event.Set k ∷ event.Reset k ∷ []) c.loop-timer.timer c.args.events.now c.loop-timer.events c.push-in-loop-timer.new.self c.loop-timer.invariant
    (c.in_ok-push-2.ensures.ok ∙ ap (λ l. l ++ event.Reset c.loop-timer.timer ∷ []) c.in_ok-push.ensures.ok
    ∙ sym (grown_one c.loop-timer.events (event.Set c.loop-timer.timer) (event.Reset c.loop-timer.timer ∷ [])))
