-- Slots that have the names of the interface, and what is read of them where the process is at rest.
use Rattle.std.specs.Prelude.{◌≡◌, ℕ, List, [], ◌∷◌, map, length, slice_get, Some}
use Rattle.og_model.specs.declared.Model.{Model}
use Rattle.og_model.specs.RegionTypes as Leaves
use Rattle.og_model.specs.RegionTypes.{Region}
use Rattle.og_model.specs.Regions.{regions}
use Rattle.og_model.specs.Units.{State}
use Rattle.og_csubset.specs.Interface.{Field, variable_fields, timer_fields, region_field, stopped_name, kind_name}
use Rattle.og_csubset.specs.Kinds.{place_in}
use Rattle.og_layout.specs.Layout.{Layout, Number, Leaf, NoLeaf, AnyLeaf}

-- the slots of these numbers have the names of the fields, one after the other
abbrev pub AllNamed : List (List ℕ) → List Field → List ℕ → Type 0
AllNamed names [] [] = Unit {0}
AllNamed names (field ∷ fields) (k ∷ ks) = (place_in field.name names ≡ Some k) × AllNamed names fields ks
AllNamed names _ _ = ⊥

-- the slots have the names of the interface of the model
pub record IsNamed (M : Model) (layout : Layout) (names : List (List ℕ)) : Type 0 where
  pub variables : AllNamed names (variable_fields M) layout.variables
  pub timers : AllNamed names (timer_fields M) layout.timers
  pub regions : AllNamed names (map (region_field M) (regions M)) layout.regions
  pub stopped : place_in stopped_name names ≡ Some layout.stopped
  pub fault : place_in kind_name names ≡ Some layout.fault

-- as many values as variables, and as many timers as the model has
pub record HasAll (M : Model) (s : State) : Type 0 where
  pub variables : length s.store.variables ≡ length M.variables
  pub timers : length s.timers ≡ length M.timers

-- the number is that of a leaf of the region, or says that none is active
abbrev pub IsNumberOf : Region → Number → Type 0
IsNumberOf region (Leaf n) = (leaf : Leaves.Leaf) × (slice_get region.leaves n ≡ Some leaf)
IsNumberOf region NoLeaf = Unit {0}
IsNumberOf region AnyLeaf = ⊥

-- each of the regions has such a number
abbrev pub AreNumbersOf : List Region → List Number → Type 0
AreNumbersOf [] [] = Unit {0}
AreNumbersOf (region ∷ regions) (n ∷ ns) = IsNumberOf region n × AreNumbersOf regions ns
AreNumbersOf _ _ = ⊥
