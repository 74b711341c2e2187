-- What stands at a place of a slot, as the code finds it on the way along a path.
use Rattle.std.specs.Prelude.{List, Option, Some, None}
use Rattle.og_types.specs.declared.Part.{Part}
use Rattle.og_types.specs.declared.Sort.{Sort}
use Rattle.og_csubset.specs.Fair.{Held, held_as}
use Rattle.og_csubset.specs.Fair as fair
use Rattle.og_cemit.specs.declared.standing.Standing.{Standing}
use Rattle.og_cemit.specs.declared.standing.Standing.TheVariants as standing

abbrev pub held : Standing → Option Held
held standing.Nothing = None
held standing.One = Some fair.One
held (standing.Whole t) = Some (fair.Whole t)
held (standing.Array item) = Some (fair.Array item)

-- what a part is
abbrev pub held_part : List Sort → Option Part → Option Held
held_part sorts None = None
held_part sorts (Some p) = held_as sorts p.sort
