use Rattle.std.proofs.Common.{◌++◌}
use Rattle.og_cload.specs.Names.{names_in}
use Rattle.og_cemit.specs.Structs.{numbered_from}
use Rattle.og_names.proofs.Loops.{Left}
use Rattle.og_cemit.proofs.words.push_numbered.Given as goal

abbrev pub invariant-loop-number : goal.invariant-loop-number
invariant-loop-number l = Left (λ ys. l.words ++ numbered_from l.number (names_in ys)) l.names l.number (l.initial.words ++ numbered_from 0 (names_in l.names))
