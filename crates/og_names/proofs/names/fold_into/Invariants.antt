use Rattle.std.proofs.Common.{◌≡◌, take}
use Rattle.og_names.specs.Folding.{folded}
use Rattle.og_names.proofs.names.fold_into.Given as goal

abbrev pub invariant-loop-i : goal.invariant-loop-i
invariant-loop-i l = take l.i l.room ≡ folded (take l.i l.name)
