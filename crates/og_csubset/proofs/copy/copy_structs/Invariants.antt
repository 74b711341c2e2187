use Rattle.std.proofs.Common.{◌≡◌, take}
use Rattle.og_csubset.proofs.copy.copy_structs.Given as goal

abbrev pub invariant-loop-one : goal.invariant-loop-one
invariant-loop-one l = l.copied ≡ take l.one-index l.structs
