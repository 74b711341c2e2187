-- The numbers of the regions of one process, computed: `a` is a basic state, `b` a composite state with the basic states `c` and
-- `d`, and `e` an aggregation whose partitions `f` and `g` have the basic states `h` and `i`, and the composite state `j` with
-- `k` and `l`. The leaves of the process are `a`, `c`, `d` and `e`, those of `f` are `h` and `i`, those of `g` are `k` and `l`.
use Rattle.std.specs.Prelude.{ℕ, List, [], ◌∷◌, None}
use Rattle.og_base.specs.declared.Place.{Place}
use Rattle.og_names.specs.declared.NameId.{NameId}
use Rattle.og_model.specs.declared.Partition.{Partition, roll-Partition}
use Rattle.og_model.specs.declared.Scope.{Scope, roll-Scope}
use Rattle.og_model.specs.declared.StateDef.{StateDef}
use Rattle.og_model.specs.declared.StateKind.{StateKind}
use Rattle.og_model.specs.declared.StateKind as Kinds
use Rattle.og_model.specs.Configuration as Tree
use Rattle.og_layout.specs.Layout.{Mark, Active, Basic, Comp, Agg, NoParts, Part, Number, Numbers}

abbrev pub somewhere : Place
somewhere = record { file = 0; line = 1; column = 1 }

abbrev pub named : ℕ → NameId
named n = record { 0 = n }

abbrev pub state : ℕ → StateKind → StateDef
state n kind = record { name = named n; place = somewhere; kind = kind; handlers = [] }

abbrev pub scope : List StateDef → Scope
scope states = roll-Scope (record { states = states; starts = []; bodies = [] })

abbrev pub two : ℕ → ℕ → Scope
two n m = scope (state n Kinds.Basic ∷ state m Kinds.Basic ∷ [])

abbrev pub composite : ℕ → Scope → StateDef
composite n inner = state n (Kinds.Composite None None inner)

abbrev pub partition : ℕ → Scope → Partition
partition n inner = roll-Partition (record { name = named n; entry = None; exit = None; inner = inner })

abbrev pub process : Scope
process = scope
    (state 0 Kinds.Basic
    ∷ composite 1 (two 2 3)
    ∷ state 4 (Kinds.Aggregation None None (partition 5 (two 7 8) ∷ partition 6 (scope (composite 9 (two 10 11) ∷ [])) ∷ []))
    ∷ [])

abbrev pub numbers : Number → Number → Number → Numbers
numbers whole first second = record { leaf = whole; regions = first ∷ second ∷ [] }

-- the first basic state is active
abbrev pub in_a : Mark
in_a = Active 0 Basic

-- the second inner state of the composite state
abbrev pub in_d : Mark
in_d = Active 1 (Comp (Active 1 Basic))

-- both partitions
abbrev pub in_both : Mark → Mark → Mark
in_both first second = Active 2 (Agg (Part first (Part second NoParts)))

-- the tree of the same at rest
abbrev pub at_rest : Tree.Active
at_rest = Tree.At 2 (Tree.Agg (Tree.Finished (Tree.Going (Tree.At 0 (Tree.Comp (Tree.At 1 Tree.Basic))) Tree.NoParts)))
