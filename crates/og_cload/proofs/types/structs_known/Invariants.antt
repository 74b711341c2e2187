use Rattle.std.proofs.Common.{[]}
use Rattle.og_csubset.specs.Loading.{structs_known}
use Rattle.og_cload.specs.Names.{names_in}
use Rattle.og_names.proofs.Loops.{Left}
use Rattle.og_cload.proofs.Known.{known_after}
use Rattle.og_cload.proofs.types.structs_known.Given as goal

abbrev pub invariant-loop-one : goal.invariant-loop-one
invariant-loop-one l = Left (λ ys. known_after (names_in l.names.items) ys) l.structs l.one-index (structs_known [] l.structs)
