use Rattle.std.proofs.Common.{◌≡◌, take}
use Rattle.og_types.proofs.+copying.Given as goal

abbrev pub invariant-copy::copy_values-loop-value : goal.invariant-copy::copy_values-loop-value
invariant-copy::copy_values-loop-value l = l.copied ≡ take l.value-index l.values
