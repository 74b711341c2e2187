use Rattle.std.proofs.Common.{◌≡◌, take}
use Rattle.og_model.proofs.+copying_scopes.Given as goal

abbrev pub invariant-copy::copy_states-loop-state : goal.invariant-copy::copy_states-loop-state
invariant-copy::copy_states-loop-state l = l.copied ≡ take l.state-index l.states

abbrev pub invariant-copy::copy_partitions-loop-partition : goal.invariant-copy::copy_partitions-loop-partition
invariant-copy::copy_partitions-loop-partition l = l.copied ≡ take l.partition-index l.partitions
