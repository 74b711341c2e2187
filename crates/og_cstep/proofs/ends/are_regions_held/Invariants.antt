use Rattle.std.specs.List.{list_all}
use Rattle.og_names.proofs.Loops.{Left}
use Rattle.og_cstep.specs.Slots.{number_of, rests_in}
use Rattle.og_cstep.proofs.ends.are_regions_held.Given as goal

abbrev pub invariant-loop-region : goal.invariant-loop-region
invariant-loop-region l = Left (λ ys. list_all (rests_in (number_of l.extents l.cells)) ys) l.regions l.region-index (list_all (rests_in (number_of l.extents l.cells)) l.regions)
