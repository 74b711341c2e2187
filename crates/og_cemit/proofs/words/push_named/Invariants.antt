use Rattle.std.proofs.Common.{◌≡◌, ◌++◌, map, take}
use Rattle.og_cload.specs.Names.{names_in}
use Rattle.og_cemit.specs.Structs.{by_name}
use Rattle.og_cemit.proofs.words.push_named.Given as goal

abbrev pub invariant-loop-name : goal.invariant-loop-name
invariant-loop-name l = l.words ≡ l.initial.words ++ map by_name (names_in (take l.name-index l.names))
