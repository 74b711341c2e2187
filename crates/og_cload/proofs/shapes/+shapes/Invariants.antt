use Rattle.std.proofs.Common.{◌+◌, ◌*◌}
use Rattle.og_csubset.specs.Loading as loading
use Rattle.og_cload.proofs.Pairs.{Both}
use Rattle.og_cload.proofs.shapes.+shapes.Given as goal

abbrev pub invariant-have_shapes-loop-place : goal.invariant-have_shapes-loop-place
invariant-have_shapes-loop-place l =
    Both (loading.have_shapes (loading.shape_within l.depth l.structs l.sorts)) l.members l.parts l.place (loading.have_shapes (loading.shape_within l.depth l.structs l.sorts) l.members l.parts)

abbrev pub decreases-shape_within : goal.decreases-shape_within
decreases-shape_within l = 5 * l.depth

abbrev pub decreases-has_sort : goal.decreases-has_sort
decreases-has_sort l = 5 * l.depth + 4

abbrev pub decreases-is_sequence : goal.decreases-is_sequence
decreases-is_sequence l = 5 * l.depth + 3

abbrev pub decreases-is_choice : goal.decreases-is_choice
decreases-is_choice l = 5 * l.depth + 3

abbrev pub decreases-is_seq_of : goal.decreases-is_seq_of
decreases-is_seq_of l = 5 * l.depth + 3

abbrev pub decreases-have_shapes : goal.decreases-have_shapes
decreases-have_shapes l = 5 * l.depth + 2

abbrev pub decreases-has_array : goal.decreases-has_array
decreases-has_array l = 5 * l.depth + 2

abbrev pub decreases-is_array : goal.decreases-is_array
decreases-is_array l = 5 * l.depth + 1
