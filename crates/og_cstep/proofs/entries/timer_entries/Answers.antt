use Rattle.std.proofs.Common.{codes, [], ◌∷◌, ◌++◌, map, ap, ◌∙◌, ℕ, List, Option}
use Rattle.og_csubset.specs.declared.CFunction.{CFunction}
use Rattle.og_csubset.specs.Kinds.{place_in}
use Rattle.og_cload.proofs.Grown.{numbers_map}
use Rattle.og_cstep.specs.Entries.{timer_entry}
use Rattle.og_cstep.proofs.entries.timer_entries.Goals as goal

pub loop-timer-preserved : goal.loop-timer-preserved
loop-timer-preserved c =
    numbers_map (timer_entry (map (λ (f : CFunction). f.name.bytes) c.args.functions.now) c.args.model.now) c.loop-timer.timer [] c.loop-timer.entries c.push.new.self c.loop-timer.invariant
    (c.in_ok-push.ensures.ok ∙ ap (λ (p : Option ℕ). c.loop-timer.entries ++ p ∷ []) (c.place_in.ensures
    ∙ ap (λ (name : List ℕ). place_in name (map (λ (f : CFunction). f.name.bytes) c.args.functions.now)) (c.as_slice.ensures ∙ c.in_ok-name.ensures ∙ ap (λ (n : List ℕ). codes "at_" ++ n) c.timer_name.ensures)))
