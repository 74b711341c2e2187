use Rattle.std.proofs.Common.{codes, [], ◌∷◌, ◌++◌, map, ap, ◌∙◌, ℕ, List, Option}
use Rattle.og_csubset.specs.declared.CFunction.{CFunction}
use Rattle.og_csubset.specs.Kinds.{place_in}
use Rattle.og_cload.proofs.Grown.{numbers_map}
use Rattle.og_cstep.specs.Entries.{signal_entry}
use Rattle.og_cstep.proofs.entries.signal_entries.Goals as goal

pub loop-signal-preserved : goal.loop-signal-preserved
loop-signal-preserved c =
    numbers_map (signal_entry (map (λ (f : CFunction). f.name.bytes) c.args.functions.now) c.args.model.now) c.loop-signal.signal [] c.loop-signal.entries c.push.new.self c.loop-signal.invariant
    (c.in_ok-push.ensures.ok ∙ ap (λ (p : Option ℕ). c.loop-signal.entries ++ p ∷ []) (c.place_in.ensures
    ∙ ap (λ (name : List ℕ). place_in name (map (λ (f : CFunction). f.name.bytes) c.args.functions.now)) (c.as_slice.ensures ∙ c.in_ok-name.ensures ∙ ap (λ (n : List ℕ). codes "on_" ++ n) c.signal_name.ensures)))
