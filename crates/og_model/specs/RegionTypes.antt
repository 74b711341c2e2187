-- The regions of a process (Z.102 section 11.11): the process itself and each partition of each state aggregation, in the
-- order of the text. A region holds the number of its active leaf, which is a state without an inside of its own there.
use Rattle.og_model.specs.declared.Leaf as Leaves
use Rattle.og_model.specs.declared.Region as Regions

-- a leaf, as it is declared
abbrev pub Leaf : Type 0
Leaf = Leaves.Leaf

-- a region, as it is declared
abbrev pub Region : Type 0
Region = Regions.Region
