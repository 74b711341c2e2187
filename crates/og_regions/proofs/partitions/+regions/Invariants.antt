use Rattle.std.proofs.Common.{◌≡◌, ◌++◌, take}
use Rattle.og_model.specs.Regions.{insides_of, states_insides, regions_of_partitions}
use Rattle.og_regions.specs.Placed.{regions_at}
use Rattle.og_regions.proofs.partitions.+regions.Given as goal

abbrev pub invariant-scope_regions-loop-state : goal.invariant-scope_regions-loop-state
invariant-scope_regions-loop-state l =
    l.regions ≡ l.initial.regions ++ regions_at l.path (states_insides insides_of (take l.state-index l.state-items)).regions

abbrev pub invariant-state_regions-loop-partition : goal.invariant-state_regions-loop-partition
invariant-state_regions-loop-partition l =
    l.regions ≡ l.initial.regions ++ regions_at l.longer-inside.items.items (regions_of_partitions insides_of (take l.partition-index l.partition-items))
