use Rattle.std.proofs.Common.{◌++◌, map, slice_get}
use Rattle.og_cemit.specs.Structs.{member_words}
use Rattle.og_cemit.specs.Emitted.{selector_of, selectors, held_in_def}
use Rattle.og_cemit.specs.Standing.{held}
use Rattle.og_names.proofs.Loops.{Left}
use Rattle.og_cemit.proofs.statement.+expression.Given as goal

abbrev pub invariant-place_of-loop-selector : goal.invariant-place_of-loop-selector
invariant-place_of-loop-selector l =
    Left (λ ys. l.path ++ selectors (member_words l.model) l.model.types (held l.standing) (map (selector_of l.ir l.model) ys))
    l.slot.path l.selector-index
    (selectors (member_words l.model) l.model.types (held_in_def l.model.types (slice_get l.ir.slots l.slot.base)) (map (selector_of l.ir l.model) l.slot.path))
