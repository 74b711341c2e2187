use Rattle.std.proofs.Common.{map}
use Rattle.og_stim.specs.Stimuli.{values_read}
use Rattle.og_stim.proofs.Texts.{Through}
use Rattle.og_stim.proofs.stimuli.values_of.Given as goal

abbrev pub invariant-loop-place : goal.invariant-loop-place
invariant-loop-place l =
    Through l.model l.values l.sorts (map (λ t. t.now) l.texts) l.place (values_read l.model l.sorts (map (λ t. t.now) l.texts))
