use Rattle.std.proofs.Common.{[], ◌∷◌, ◌++◌, map, ap, ◌∙◌, ℕ, List, Option}
use Rattle.og_csubset.specs.declared.CGlobal.{CGlobal}
use Rattle.og_csubset.specs.Kinds.{place_in}
use Rattle.og_cload.proofs.Grown.{numbers_map}
use Rattle.og_cstep.specs.Interfaces.{duration_place}
use Rattle.og_cstep.proofs.interface.duration_places.Goals as goal

pub loop-timer-preserved : goal.loop-timer-preserved
loop-timer-preserved c =
    numbers_map (duration_place (map (λ (g : CGlobal). g.name.bytes) c.args.globals.now) c.args.model.now) c.loop-timer.timer [] c.loop-timer.places c.push.new.self c.loop-timer.invariant
    (c.in_ok-push.ensures.ok ∙ ap (λ (p : Option ℕ). c.loop-timer.places ++ p ∷ []) (c.place_of.ensures
    ∙ ap (λ (name : List ℕ). place_in name (map (λ (g : CGlobal). g.name.bytes) c.args.globals.now)) (c.as_slice.ensures ∙ c.in_ok-name.ensures)))
