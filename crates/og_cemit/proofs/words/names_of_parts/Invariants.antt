use Rattle.std.proofs.Common.{◌≡◌, take}
use Rattle.og_cload.specs.Names.{names_in}
use Rattle.og_cemit.specs.Structs.{names_of_parts}
use Rattle.og_cemit.proofs.words.names_of_parts.Given as goal

abbrev pub invariant-loop-part : goal.invariant-loop-part
invariant-loop-part l = names_in l.names.items ≡ names_of_parts l.model (take l.part-index l.parts)
