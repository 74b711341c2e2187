-- Leaves and regions as they are seen from further out, along a path of names.
use Rattle.std.specs.Prelude.{List, ◌++◌, map}
use Rattle.og_names.specs.declared.NameId.{NameId}
use Rattle.og_model.specs.RegionTypes.{Leaf, Region}

abbrev pub leaf_at : List NameId → Leaf → Leaf
leaf_at path l = record { path = path ++ l.path; basic = l.basic }

abbrev pub leaves_at : List NameId → List Leaf → List Leaf
leaves_at path leaves = map (leaf_at path) leaves

abbrev pub region_at : List NameId → Region → Region
region_at path r = record { path = path ++ r.path; leaves = r.leaves }

abbrev pub regions_at : List NameId → List Region → List Region
regions_at path regions = map (region_at path) regions
