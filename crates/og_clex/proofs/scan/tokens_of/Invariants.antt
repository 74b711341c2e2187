use Rattle.std.proofs.Common.{length}
use Rattle.og_clex.specs.Views.{tokens_view}
use Rattle.og_clex.specs.Moves.{coming}
use Rattle.og_clex.specs.Nests.{nest_view}
use Rattle.og_clex.proofs.Scanning.{SoFar}
use Rattle.og_clex.proofs.scan.tokens_of.Given as goal

abbrev pub invariant-loop-nest : goal.invariant-loop-nest
invariant-loop-nest l = SoFar l.bytes l.rest l.place (tokens_view l.tokens) (coming l.stack.items) (nest_view l.nest)

abbrev pub decreases-loop-nest : goal.decreases-loop-nest
decreases-loop-nest l = length l.rest
