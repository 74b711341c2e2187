use Rattle.og_csubset.specs.Loading.{is_number, kind_after}
use Rattle.og_cload.specs.Held.{kind_of}
use Rattle.og_names.proofs.Loops.{Left}
use Rattle.og_cload.proofs.typing.+typing.Given as goal

abbrev pub invariant-kind_after-loop-step : goal.invariant-kind_after-loop-step
invariant-kind_after-loop-step l =
    Left (λ ys. kind_after (is_number l.program) l.program.structs (kind_of l.held) ys) l.path l.step-index
    (kind_after (is_number l.program) l.program.structs (kind_of l.initial.held) l.path)
