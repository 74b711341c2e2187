use Rattle.og_names.proofs.Loops.{Left}
use Rattle.og_datatypes.proofs.Fitting.{all_fit_in}
use Rattle.og_datatypes.proofs.forms.fit_64_bits.Given as goal

abbrev pub invariant-loop-item : goal.invariant-loop-item
invariant-loop-item l = Left all_fit_in l.items l.item-index (all_fit_in l.items)
