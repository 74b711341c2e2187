use Rattle.std.proofs.Common.{◌++◌}
use Rattle.og_names.proofs.Loops.{Left}
use Rattle.og_ccells.specs.Layouts.{extents_from}
use Rattle.og_ccells.proofs.layout.extents_of.Given as goal

abbrev pub invariant-loop-global : goal.invariant-loop-global
invariant-loop-global l = Left (λ ys. l.extents ++ extents_from l.offset l.structs ys) l.globals l.global-index (extents_from 0 l.structs l.globals)
