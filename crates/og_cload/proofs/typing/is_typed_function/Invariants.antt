use Rattle.std.specs.List.{list_all}
use Rattle.og_csubset.specs.Loading.{is_typed}
use Rattle.og_names.proofs.Loops.{Left}
use Rattle.og_cload.proofs.typing.is_typed_function.Given as goal

abbrev pub invariant-loop-statement : goal.invariant-loop-statement
invariant-loop-statement l =
    Left (λ ys. list_all (is_typed l.program) ys) l.statement-items l.statement-index (list_all (is_typed l.program) l.function.body)
