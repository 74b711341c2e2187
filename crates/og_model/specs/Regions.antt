-- The regions of a process and their leaves (Z.102 section 11.11 for the partitions of a state aggregation, which are
-- active together). Region 0 is the process, and each partition is a region of its own, depth first in the order of the
-- text. A region rests at a leaf: a basic state, or an aggregation, whose partitions are regions themselves. The leaves of
-- a region are the paths through composite states to these, depth first in the order of the text. Regions and leaves are
-- this project's own; they follow the tree of states alone.
use Rattle.std.specs.Prelude.{ℕ, zero, suc, Bool, true, false, List, [], ◌∷◌, ◌++◌, map}
use Rattle.og_names.specs.declared.NameId.{NameId}
use Rattle.og_model.specs.declared.Model.{Model}
use Rattle.og_model.specs.declared.Scope.{Scope, out-Scope, size-Scope}
use Rattle.og_model.specs.declared.StateDef.{StateDef}
use Rattle.og_model.specs.declared.Partition.{Partition, out-Partition}
use Rattle.og_model.specs.declared.StateKind.{out-StateKind}
use Rattle.og_model.specs.declared.StateKind.TheOpen.{Basic, Composite, Aggregation}
use Rattle.og_model.specs.Configuration.{Kind}
use Rattle.og_model.specs.RegionTypes.{Leaf, Region}

-- what a part of the tree has: its leaves, and the regions of the partitions inside it, by their paths from there
pub record Insides : Type 0 where
  pub leaves : List Leaf
  pub regions : List Region

abbrev pub no_insides : Insides
no_insides = record { leaves = []; regions = [] }

-- the leaves and regions of the one before those of the other
abbrev pub followed_by : Insides → Insides → Insides
followed_by x y = record { leaves = x.leaves ++ y.leaves; regions = x.regions ++ y.regions }

abbrev pub leaf_under : NameId → Leaf → Leaf
leaf_under name l = record { path = name ∷ l.path; basic = l.basic }

abbrev pub region_under : NameId → Region → Region
region_under name r = record { path = name ∷ r.path; leaves = r.leaves }

-- seen from one level further out
abbrev pub insides_under : NameId → Insides → Insides
insides_under name x = record { leaves = map (leaf_under name) x.leaves; regions = map (region_under name) x.regions }

-- a state that is a leaf itself
abbrev pub one_leaf : Bool → List Leaf
one_leaf basic = record { path = []; basic = basic } ∷ []

-- a partition is a region, and the regions inside it follow
abbrev pub partition_regions : Partition → Insides → List Region
partition_regions p inner =
    record { path = (out-Partition p).name ∷ []; leaves = inner.leaves }
    ∷ map (region_under (out-Partition p).name) inner.regions

abbrev pub regions_of_partitions : (Scope → Insides) → List Partition → List Region
regions_of_partitions within [] = []
regions_of_partitions within (p ∷ ps) =
    partition_regions p (within (out-Partition p).inner) ++ regions_of_partitions within ps

-- a composite state has what its inside has; every other state is a leaf
abbrev pub kind_insides : (Scope → Insides) → Kind → Insides
kind_insides within Basic = record { leaves = one_leaf true; regions = [] }
kind_insides within (Composite entry exit inner) = within inner
kind_insides within (Aggregation entry exit partitions) =
    record { leaves = one_leaf false; regions = regions_of_partitions within partitions }

abbrev pub state_insides : (Scope → Insides) → StateDef → Insides
state_insides within d = insides_under d.name (kind_insides within (out-StateKind d.kind))

abbrev pub states_insides : (Scope → Insides) → List StateDef → Insides
states_insides within [] = no_insides
states_insides within (d ∷ ds) = followed_by (state_insides within d) (states_insides within ds)

-- what a scope of at most this depth has
abbrev pub insides_within : ℕ → Scope → Insides
insides_within zero m = no_insides
insides_within (suc depth) m = states_insides (insides_within depth) (out-Scope m).states

-- the leaves and the regions of a scope
abbrev pub insides_of : Scope → Insides
insides_of m = insides_within (size-Scope m) m

-- the process, and then each partition
abbrev pub regions : Model → List Region
regions M = record { path = []; leaves = (insides_of M.root).leaves } ∷ (insides_of M.root).regions
