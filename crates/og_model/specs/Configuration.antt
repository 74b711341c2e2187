-- Which states are active. A scope (the process, the inside of a composite state, the inside of a partition) has one
-- active state. A composite state has an inside of its own, and the partitions of a state aggregation are active together,
-- each until it is done (Z.102 section 11.11). At rest a trace shows the active basic states by their paths: the names
-- of the states and partitions from the process inward, in the order of the text.
use Rattle.std.specs.Prelude.{ℕ, zero, suc, Bool, true, false, List, [], ◌∷◌, ◌++◌, map, slice_get, Option, Some, None}
use Rattle.std.specs.Option.{option_map}
use Rattle.og_names.specs.declared.NameId.{NameId}
use Rattle.og_model.specs.declared.Scope.{Scope, out-Scope}
use Rattle.og_model.specs.declared.StateDef.{StateDef}
use Rattle.og_model.specs.declared.Partition.{Partition, out-Partition}
use Rattle.og_model.specs.declared.StateKind.{StateKind, StateKind-F, out-StateKind}
use Rattle.og_model.specs.declared.StateKind.TheOpen.{Composite, Aggregation}

mutual
  -- the active state of a scope, by its number, with what is active inside it
  pub data Active : Type 0 where
    At : (state : ℕ) (inside : Inside) → Active

  -- nothing, the active state of a composite state's scope, or the partitions of an aggregation
  pub data Inside : Type 0 where
    Basic : Inside
    Comp : (inner : Active) → Inside
    Agg : (parts : Parts) → Inside

  -- for each partition, in the order of the text, its active state, or that it is done
  pub data Parts : Type 0 where
    NoParts : Parts
    Going : (inner : Active) (more : Parts) → Parts
    Finished : (more : Parts) → Parts

-- one partition before the others, where none says that it is done
abbrev pub add_part : Option Active → Parts → Parts
add_part (Some a) ps = Going a ps
add_part None ps = Finished ps

-- the active state of partition i
abbrev pub part_at : Parts → ℕ → Option Active
part_at NoParts i = None
part_at (Going a ps) zero = Some a
part_at (Finished ps) zero = None
part_at (Going a ps) (suc i) = part_at ps i
part_at (Finished ps) (suc i) = part_at ps i

-- with another state of partition i
abbrev pub with_part : Parts → ℕ → Option Active → Parts
with_part NoParts i x = NoParts
with_part (Going a ps) zero x = add_part x ps
with_part (Finished ps) zero x = add_part x ps
with_part (Going a ps) (suc i) x = Going a (with_part ps i x)
with_part (Finished ps) (suc i) x = Finished (with_part ps i x)

abbrev pub all_done : Parts → Bool
all_done NoParts = true
all_done (Going a ps) = false
all_done (Finished ps) = all_done ps

-- ---- in the model's tree

-- a state's kind, one level of it
abbrev pub Kind : Type 0
Kind = StateKind-F StateKind Partition Scope StateDef

-- a state of a scope
abbrev pub state_at : Scope → ℕ → Option StateDef
state_at m k = slice_get (out-Scope m).states k

abbrev pub kind_of : StateDef → Kind
kind_of d = out-StateKind d.kind

abbrev pub kind_at : Scope → ℕ → Option Kind
kind_at m k = option_map kind_of (state_at m k)

-- ---- paths

abbrev pub under : NameId → List (List NameId) → List (List NameId)
under name paths = map (λ path. name ∷ path) paths

abbrev pub paths_under : Option StateDef → (Kind → List (List NameId)) → List (List NameId)
paths_under (Some d) inside = under d.name (inside (kind_of d))
paths_under None inside = []

abbrev mutual
  -- the paths of the active basic states of a scope
  pub paths_of : Scope → Active → List (List NameId)
  paths_of m (At k inside) = paths_under (state_at m k) (λ kind. paths_inside kind inside)

  -- the paths inside a state; a basic state has the path that ends with it
  pub paths_inside : Kind → Inside → List (List NameId)
  paths_inside kind Basic = [] ∷ []
  paths_inside (Composite entry exit inner) (Comp a) = paths_of inner a
  paths_inside (Aggregation entry exit qs) (Agg ps) = paths_in_parts qs ps
  paths_inside _ _ = []

  pub paths_in_parts : List Partition → Parts → List (List NameId)
  paths_in_parts (q ∷ qs) (Going a ps) = under (out-Partition q).name (paths_of (out-Partition q).inner a) ++ paths_in_parts qs ps
  paths_in_parts (q ∷ qs) (Finished ps) = paths_in_parts qs ps
  paths_in_parts _ _ = []
