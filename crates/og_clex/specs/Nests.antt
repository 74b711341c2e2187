-- The nesting that the code counts, against that of the definitions; and nesting that is low enough to count on.
use Rattle.std.specs.Prelude.{◌≤◌, List, [], ◌∷◌, map, reverse}
use Rattle.og_csubset.specs.Nesting as nesting
use Rattle.og_clex.specs.declared.nest.Level.{Level}
use Rattle.og_clex.specs.declared.nest.Nest.{Nest}

abbrev pub level_view : Level → nesting.Level
level_view l = record { is_block = l.is_block; base = l.base; depth = l.depth }

abbrev pub nest_view : Nest → nesting.Nest
nest_view n = record { in_struct = n.in_struct; level = level_view n.level; outward = map level_view (reverse n.outward.items) }

-- all depths are at most 256
abbrev pub AreLow : List nesting.Level → Type 0
AreLow [] = Unit {0}
AreLow (l ∷ ls) = (l.depth ≤ 256) × AreLow ls

abbrev pub IsLow : nesting.Nest → Type 0
IsLow n = (n.level.depth ≤ 256) × AreLow n.outward
