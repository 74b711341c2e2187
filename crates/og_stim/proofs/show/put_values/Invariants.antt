use Rattle.std.proofs.Common.{◌++◌}
use Rattle.og_value.specs.Shows.{separated}
use Rattle.og_stim.specs.Trace.{value_texts}
use Rattle.og_stim.proofs.Texts.{Writes}
use Rattle.og_stim.proofs.show.put_values.Given as goal

abbrev pub invariant-loop-place : goal.invariant-loop-place
invariant-loop-place l =
    Writes l.model l.out.items l.sorts l.values l.place (l.initial.out.items ++ separated (value_texts l.model l.sorts l.values))
