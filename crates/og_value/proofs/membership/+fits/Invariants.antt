use Rattle.std.proofs.Common.{◌+◌, ◌*◌}
use Rattle.std.specs.List.{list_all}
use Rattle.og_names.proofs.Loops.{Left}
use Rattle.og_types.specs.Values.{in_within, in_parts}
use Rattle.og_value.proofs.Within.{FitsOn}
use Rattle.og_value.proofs.membership.+fits.Given as goal

abbrev pub decreases-fits_within : goal.decreases-fits_within
decreases-fits_within l = 3 * l.depth

abbrev pub decreases-fits_sort : goal.decreases-fits_sort
decreases-fits_sort l = 3 * l.depth + 2

abbrev pub decreases-fit_parts : goal.decreases-fit_parts
decreases-fit_parts l = 3 * l.depth + 1

abbrev pub decreases-fit_items : goal.decreases-fit_items
decreases-fit_items l = 3 * l.depth + 1

abbrev pub invariant-fit_parts-loop-place : goal.invariant-fit_parts-loop-place
invariant-fit_parts-loop-place l = FitsOn (in_within l.depth l.sorts) l.parts l.values l.place (in_parts (in_within l.depth l.sorts) l.parts l.values)

abbrev pub invariant-fit_items-loop-value : goal.invariant-fit_items-loop-value
invariant-fit_items-loop-value l = Left (list_all (in_within l.depth l.sorts l.item)) l.values l.value-index (list_all (in_within l.depth l.sorts l.item) l.values)
