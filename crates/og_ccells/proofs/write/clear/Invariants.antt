use Rattle.std.proofs.Common.{◌≡◌, ◌-◌, pos, replicate}
use Rattle.og_ccells.specs.Vectors.{overwritten}
use Rattle.og_ccells.proofs.write.clear.Given as goal

abbrev pub invariant-loop-place : goal.invariant-loop-place
invariant-loop-place l = l.cells.items ≡ overwritten l.at (replicate (l.place - l.at) (pos 0)) l.fn.cells.items
