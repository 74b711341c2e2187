-- How a run has ended, as a machine tells it: its answer, and at rest the leaves at which it rests, by their numbers, where they are
-- basic states. In these models there are no variables and no timers.
use Rattle.std.specs.Prelude.{ℕ, ◌+◌, List, [], ◌∷◌, ◌++◌, if◌then◌else◌, Option, Some, None, map, slice_get}
use Rattle.og_model.specs.declared.Leaf.{Leaf}
use Rattle.og_model.specs.declared.Region.{Region}
use Rattle.og_model.specs.Shown as shown
use Rattle.og_model.specs.Shown.{End}
use Rattle.og_cstep.specs.declared.Advance.{Advance}
use Rattle.og_cstep.specs.declared.Advance.TheVariants.{Moved, Event, Rest, Fault, Stopped, Stuck}
use Rattle.og_cstep.specs.Machines.{Run, active_leaf}
use Rattle.og_stim.specs.declared.show.ActiveLeaf.{ActiveLeaf}
use Rattle.og_stim.specs.Trace.{path_of}

-- the leaf of these numbers, if it is basic
abbrev pub if_basic : ℕ → ℕ → Option Leaf → List ActiveLeaf
if_basic k n None = []
if_basic k n (Some leaf) = if leaf.basic then record { region = k; leaf = n } ∷ [] else []

-- the k-th region with its active leaf
abbrev pub leaf_in : ℕ → Region → Option ℕ → List ActiveLeaf
leaf_in k region None = []
leaf_in k region (Some n) = if_basic k n (slice_get region.leaves n)

-- those of these regions, which begin with the k-th
abbrev pub leaves_from : Run → ℕ → List Region → List ActiveLeaf
leaves_from run k [] = []
leaves_from run k (region ∷ regions) =
    leaf_in k region (active_leaf run k) ++ leaves_from run (k + 1) regions

abbrev pub end_seen : Run → List Region → Advance → End
end_seen run regions Moved = shown.Past
end_seen run regions (Event id) = shown.Past
end_seen run regions Rest = shown.Rest (map (path_of regions) (leaves_from run 0 regions)) [] []
end_seen run regions (Fault kind place) = shown.Fault kind place [] []
end_seen run regions Stopped = shown.Stopped []
end_seen run regions (Stuck rule) = shown.Stuck rule
