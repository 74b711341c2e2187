use Rattle.og_flat.proofs.Listing.{Gathered}
use Rattle.og_flat.proofs.flatten.enumerators_of.Given as goal

abbrev pub invariant-loop-item : goal.invariant-loop-item
invariant-loop-item l = Gathered l.items l.item-index l.enumerators
