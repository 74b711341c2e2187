use Rattle.std.proofs.Common.{◌-◌, length, map}
use Rattle.og_stim.specs.Scans.{texts_within}
use Rattle.og_stim.proofs.Texts.{SoFar}
use Rattle.og_stim.proofs.forms.texts_in.Given as goal

abbrev pub invariant-loop : goal.invariant-loop
invariant-loop l =
    SoFar (map (λ t. t.now) l.texts.items) (length l.bytes - l.counter) l.rest (texts_within (length l.bytes) l.bytes)
