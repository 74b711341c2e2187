use Rattle.std.proofs.Common.{◌≡◌, ◌++◌, take}
use Rattle.og_model.specs.Regions.{insides_of, states_insides}
use Rattle.og_regions.specs.Placed.{leaves_at}
use Rattle.og_regions.proofs.leaves.+leaves.Given as goal

abbrev pub invariant-scope_leaves-loop-state : goal.invariant-scope_leaves-loop-state
invariant-scope_leaves-loop-state l =
    l.leaves ≡ l.initial.leaves ++ leaves_at l.path (states_insides insides_of (take l.state-index l.state-items)).leaves
