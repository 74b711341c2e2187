use Rattle.std.proofs.Common.{◌≡◌, ◌++◌, map, take}
use Rattle.og_cload.specs.Names.{names_in}
use Rattle.og_cload.proofs.names.add_globals.Given as goal

abbrev pub invariant-loop-global : goal.invariant-loop-global
invariant-loop-global l = names_in l.names.items ≡ names_in l.initial.names.items ++ map (λ s. s.name.bytes) (take l.global-index l.globals)
