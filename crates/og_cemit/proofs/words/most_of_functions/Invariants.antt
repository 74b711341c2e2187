use Rattle.std.proofs.Common.{map}
use Rattle.og_ir.specs.declared.FlatFn.{FlatFn}
use Rattle.og_cemit.specs.Structs.{most_from}
use Rattle.og_names.proofs.Loops.{Left}
use Rattle.og_cemit.proofs.words.most_of_functions.Given as goal

abbrev pub invariant-loop-function : goal.invariant-loop-function
invariant-loop-function l = Left (λ ys. most_from l.most (map (λ (f : FlatFn). f.name.bytes) ys)) l.functions l.function-index (most_from l.so_far (map (λ (f : FlatFn). f.name.bytes) l.functions))
