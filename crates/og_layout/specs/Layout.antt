-- Where a process stands in the slots of its code: its variables, its timers, the number of each region, and what code needs
-- besides. Slots stand for a process where each of them holds what is expected there. The numbers of all regions are one
-- function of the marked tree of its active states: a part of the tree that is being left, entered or completed is marked, and
-- of its regions nothing is expected.
use Rattle.std.specs.Prelude.{◌≡◌, ℕ, zero, suc, ◌+◌, ℤ, pos, negsuc, Bool, if◌then◌else◌, nat_eq, List, [], ◌∷◌, ◌++◌, map, length, slice_get, Option, Some, None}
use Rattle.og_names.specs.declared.NameId.{NameId}
use Rattle.og_types.specs.declared.Sort.{Sort}
use Rattle.og_types.specs.declared.TypeId.{TypeId}
use Rattle.og_types.specs.declared.Value.{Value}
use Rattle.og_model.specs.declared.Model.{Model}
use Rattle.og_model.specs.declared.Partition.{Partition, out-Partition}
use Rattle.og_model.specs.declared.Scope.{Scope, out-Scope}
use Rattle.og_model.specs.declared.StateDef.{StateDef}
use Rattle.og_model.specs.declared.StateKind.TheOpen.{Composite, Aggregation, Basic as Plain}
use Rattle.og_model.specs.declared.Variable.{Variable}
use Rattle.og_model.specs.Configuration as Tree
use Rattle.og_model.specs.Configuration.{Kind, kind_of, state_at}
use Rattle.og_model.specs.RegionTypes as Leaves
use Rattle.og_model.specs.RegionTypes.{Region}
use Rattle.og_model.specs.Regions.{Insides, insides_of, state_insides, states_insides}
use Rattle.og_model.specs.Units.{State}
use Rattle.og_ir.specs.Cells.{Cells, Cell, global}
use Rattle.og_ir.specs.Reading.{value_in}

-- the numbers of the slots
pub record Layout : Type 0 where
  pub variables : List ℕ
  pub timers : List ℕ
  pub regions : List ℕ
  -- what the code works with (the variables of procedures, the place of a fault, the body that was chosen), the durations of
  -- timers, and the values of signals
  pub locals : List ℕ
  pub durations : List ℕ
  pub parameters : List ℕ
  -- whether the process has stopped, and the kind of a fault
  pub stopped : ℕ
  pub fault : ℕ

abbrev pub slots_of : Layout → List ℕ
slots_of layout =
    layout.variables ++ (layout.timers ++ (layout.regions ++ (layout.stopped ∷ layout.fault ∷ (layout.locals ++ (layout.durations ++ layout.parameters)))))

-- the number is none of these
abbrev pub IsNew : ℕ → List ℕ → Type 0
IsNew k [] = Unit {0}
IsNew k (j ∷ js) = (j ≡ k → ⊥) × IsNew k js

-- no number stands twice
abbrev pub Differ : List ℕ → Type 0
Differ [] = Unit {0}
Differ (k ∷ ks) = IsNew k ks × Differ ks

-- ---- what slots hold

-- a value of a type, a number, a negative number, or anything
pub data Held : Type 0 where
  A_value : (sort : TypeId) (value : Value) → Held
  A_number : (n : ℤ) → Held
  Negative : Held
  Anything : Held

abbrev pub Holds : List Sort → Held → Cells → Type 0
Holds sorts (A_value t v) cells = value_in sorts t cells ≡ Some v
Holds sorts (A_number n) cells = cells ≡ Cell n
Holds sorts Negative cells = (k : ℕ) × (cells ≡ Cell (negsuc k))
Holds sorts Anything cells = Unit {0}

pub record Expected : Type 0 where
  pub slot : ℕ
  pub held : Held

-- the slot is there, and holds this
pub record HoldsAt (sorts : List Sort) (slots : List Cells) (x : Expected) : Type 0 where
  pub cells : Cells
  pub there : global x.slot slots ≡ Some cells
  pub holds : Holds sorts x.held cells

abbrev pub AllHold : List Sort → List Cells → List Expected → Type 0
AllHold sorts slots [] = Unit {0}
AllHold sorts slots (x ∷ xs) = HoldsAt sorts slots x × AllHold sorts slots xs

-- what is expected once something else was written into a slot
abbrev pub but_at : ℕ → Held → Expected → Expected
but_at k held x = if nat_eq x.slot k then record { slot = k; held = held } else x

abbrev pub once_written : ℕ → Held → List Expected → List Expected
once_written k held xs = map (but_at k held) xs

-- ---- regions

mutual
  -- the active state of a scope, that there is none, or that the scope is being left, entered or completed
  pub data Mark : Type 0 where
    Active : (state : ℕ) (inside : MarkedInside) → Mark
    Inactive : Mark
    Between : Mark

  pub data MarkedInside : Type 0 where
    Basic : MarkedInside
    Comp : (inner : Mark) → MarkedInside
    Agg : (parts : MarkedParts) → MarkedInside

  pub data MarkedParts : Type 0 where
    NoParts : MarkedParts
    Part : (inner : Mark) (more : MarkedParts) → MarkedParts

-- the number of a leaf among those of a scope
pub data Number : Type 0 where
  Leaf : (n : ℕ) → Number
  NoLeaf : Number
  AnyLeaf : Number

pub record Numbers : Type 0 where
  pub leaf : Number
  pub regions : List Number

-- so many leaves stand before
abbrev pub behind_leaves : ℕ → Number → Number
behind_leaves before (Leaf n) = Leaf (before + n)
behind_leaves before NoLeaf = NoLeaf
behind_leaves before AnyLeaf = AnyLeaf

abbrev pub all_of : Number → Insides → List Number
all_of n x = map (λ (r : Region). n) x.regions

-- the k-th of these states is active
abbrev pub among : List StateDef → ℕ → (Kind → Numbers) → Numbers
among [] k inside = record { leaf = NoLeaf; regions = [] }
among (d ∷ ds) zero inside =
    let x = inside (kind_of d) in record { leaf = x.leaf; regions = x.regions ++ all_of NoLeaf (states_insides insides_of ds) }
among (d ∷ ds) (suc k) inside =
    let here = state_insides insides_of d in
    let x = among ds k inside in
    record { leaf = behind_leaves (length here.leaves) x.leaf; regions = all_of NoLeaf here ++ x.regions }

abbrev mutual
  -- the number of the active leaf of a scope, and the numbers of the regions inside it
  pub numbers_of : Scope → Mark → Numbers
  numbers_of m (Active k inside) = among (out-Scope m).states k (λ kind. numbers_inside kind inside)
  numbers_of m Inactive = record { leaf = NoLeaf; regions = all_of NoLeaf (insides_of m) }
  numbers_of m Between = record { leaf = AnyLeaf; regions = all_of AnyLeaf (insides_of m) }

  pub numbers_inside : Kind → MarkedInside → Numbers
  numbers_inside (Composite entry exit inner) (Comp x) = numbers_of inner x
  numbers_inside (Aggregation entry exit qs) (Agg xs) = record { leaf = Leaf 0; regions = numbers_of_parts qs xs }
  numbers_inside _ _ = record { leaf = Leaf 0; regions = [] }

  pub numbers_of_parts : List Partition → MarkedParts → List Number
  numbers_of_parts (q ∷ qs) (Part x xs) =
      let inner = numbers_of (out-Partition q).inner x in inner.leaf ∷ (inner.regions ++ numbers_of_parts qs xs)
  numbers_of_parts _ _ = []

-- the process, and then each partition
abbrev pub region_numbers : Model → Mark → List Number
region_numbers M mark = let x = numbers_of M.root mark in x.leaf ∷ x.regions

abbrev mutual
  -- a tree of active states of which nothing is being left or entered
  pub marked : Tree.Active → Mark
  marked (Tree.At k inside) = Active k (marked_inside inside)

  pub marked_inside : Tree.Inside → MarkedInside
  marked_inside Tree.Basic = Basic
  marked_inside (Tree.Comp a) = Comp (marked a)
  marked_inside (Tree.Agg ps) = Agg (marked_parts ps)

  pub marked_parts : Tree.Parts → MarkedParts
  marked_parts Tree.NoParts = NoParts
  marked_parts (Tree.Going a ps) = Part (marked a) (marked_parts ps)
  marked_parts (Tree.Finished ps) = Part Inactive (marked_parts ps)

-- ---- what is expected of all slots

abbrev pub variables_in : List ℕ → List Variable → List Value → List Expected
variables_in (k ∷ ks) (x ∷ xs) (v ∷ vs) = record { slot = k; held = A_value x.sort v } ∷ variables_in ks xs vs
variables_in _ _ _ = []

abbrev pub timers_in : List ℕ → List Bool → List Expected
timers_in (k ∷ ks) (b ∷ bs) = record { slot = k; held = A_number (pos (if b then 1 else 0)) } ∷ timers_in ks bs
timers_in _ _ = []

abbrev pub held_number : Number → Held
held_number (Leaf n) = A_number (pos n)
held_number NoLeaf = Negative
held_number AnyLeaf = Anything

abbrev pub regions_in : List ℕ → List Number → List Expected
regions_in (k ∷ ks) (n ∷ ns) = record { slot = k; held = held_number n } ∷ regions_in ks ns
regions_in _ _ = []

abbrev pub anything_in : List ℕ → List Expected
anything_in ks = map (λ k. record { slot = k; held = Anything }) ks

-- between two units of work: the process runs and no fault is told
abbrev pub control_in : Layout → List Expected
control_in layout = record { slot = layout.stopped; held = A_number (pos 0) } ∷ record { slot = layout.fault; held = A_number (pos 0) } ∷ []

abbrev pub besides : Layout → List Expected
besides layout = control_in layout ++ anything_in (layout.locals ++ (layout.durations ++ layout.parameters))

abbrev pub expected_of : Model → Layout → List Number → State → List Expected
expected_of M layout ns s =
    variables_in layout.variables M.variables s.store.variables
    ++ (timers_in layout.timers s.timers ++ (regions_in layout.regions ns ++ besides layout))

-- the slots stand for a process with these active states, variables and timers
abbrev pub StandsFor : Model → Layout → Mark → State → List Cells → Type 0
StandsFor M layout mark s slots = AllHold M.types slots (expected_of M layout (region_numbers M mark) s)

-- ---- what the numbers tell

-- the path of a leaf, where it is a basic state
abbrev pub told_path : Region → Option Leaves.Leaf → List (List NameId)
told_path region None = []
told_path region (Some leaf) = if leaf.basic then (region.path ++ leaf.path) ∷ [] else []

abbrev pub told_by : Region → Number → List (List NameId)
told_by region (Leaf n) = told_path region (slice_get region.leaves n)
told_by region NoLeaf = []
told_by region AnyLeaf = []

-- the paths of the active leaves, in the order of the regions
abbrev pub told_paths : List Region → List Number → List (List NameId)
told_paths (r ∷ rs) (n ∷ ns) = told_by r n ++ told_paths rs ns
told_paths _ _ = []

abbrev mutual
  -- the tree of active states is one of the scope: each state is there, and is of the kind that its inside says
  pub IsActive : Scope → Tree.Active → Type 0
  IsActive m (Tree.At k inside) = (d : StateDef) × (state_at m k ≡ Some d) × IsInside (kind_of d) inside

  pub IsInside : Kind → Tree.Inside → Type 0
  IsInside Plain Tree.Basic = Unit {0}
  IsInside (Composite entry exit inner) (Tree.Comp a) = IsActive inner a
  IsInside (Aggregation entry exit qs) (Tree.Agg ps) = AreParts qs ps
  IsInside _ _ = ⊥

  pub AreParts : List Partition → Tree.Parts → Type 0
  AreParts [] Tree.NoParts = Unit {0}
  AreParts (q ∷ qs) (Tree.Going a ps) = IsActive (out-Partition q).inner a × AreParts qs ps
  AreParts (q ∷ qs) (Tree.Finished ps) = AreParts qs ps
  AreParts _ _ = ⊥
