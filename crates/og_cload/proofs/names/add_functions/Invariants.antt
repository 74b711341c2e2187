use Rattle.std.proofs.Common.{◌≡◌, ◌++◌, map, take}
use Rattle.og_cload.specs.Names.{names_in}
use Rattle.og_cload.proofs.names.add_functions.Given as goal

abbrev pub invariant-loop-function : goal.invariant-loop-function
invariant-loop-function l = names_in l.names.items ≡ names_in l.initial.names.items ++ map (λ s. s.name.bytes) (take l.function-index l.functions)
