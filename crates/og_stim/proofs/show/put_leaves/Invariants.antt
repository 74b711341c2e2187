use Rattle.std.proofs.Common.{◌≡◌, ◌++◌, take}
use Rattle.std.specs.List.{flat_map}
use Rattle.og_stim.specs.Trace.{leaf_line}
use Rattle.og_stim.proofs.show.put_leaves.Given as goal

abbrev pub invariant-loop-leaf : goal.invariant-loop-leaf
invariant-loop-leaf l = record { written : l.out.items ≡ l.initial.out.items ++ flat_map (leaf_line l.model l.regions) (take l.leaf-index l.leaves) }
