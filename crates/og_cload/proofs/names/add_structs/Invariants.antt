use Rattle.std.proofs.Common.{◌≡◌, ◌++◌, map, take}
use Rattle.og_cload.specs.Names.{names_in}
use Rattle.og_cload.proofs.names.add_structs.Given as goal

abbrev pub invariant-loop-one : goal.invariant-loop-one
invariant-loop-one l = names_in l.names.items ≡ names_in l.initial.names.items ++ map (λ s. s.name.bytes) (take l.one-index l.structs)
