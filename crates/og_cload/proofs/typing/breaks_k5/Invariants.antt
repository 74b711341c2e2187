use Rattle.std.specs.List.{list_all}
use Rattle.og_csubset.specs.declared.CFunction.{CFunction}
use Rattle.og_csubset.specs.Loading.{is_typed}
use Rattle.og_names.proofs.Loops.{Left}
use Rattle.og_cload.proofs.typing.breaks_k5.Given as goal

abbrev pub invariant-loop-function : goal.invariant-loop-function
invariant-loop-function l =
    Left (λ ys. list_all (λ (f : CFunction). list_all (is_typed l.program) f.body) ys) l.function-items l.function-index
    (list_all (λ (f : CFunction). list_all (is_typed l.program) f.body) l.program.functions)
