use Rattle.og_flat.specs.Flattening.{nodes_of}
use Rattle.og_flat.proofs.Listing.{Listing}
use Rattle.og_flat.proofs.flatten.+nodes.Given as goal

abbrev pub invariant-parts_of-loop-comp : goal.invariant-parts_of-loop-comp
invariant-parts_of-loop-comp l = Listing nodes_of l.initial.nodes l.comps l.comp-index l.nodes l.so_far.parts l.so_far.is_plain
