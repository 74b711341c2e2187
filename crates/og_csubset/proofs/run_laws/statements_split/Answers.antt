use Rattle.std.proofs.Common.{refl}
use Rattle.og_ir.proofs.Runs.{exec_splits}
use Rattle.og_csubset.specs.Step.{cstep}
use Rattle.og_csubset.proofs.run_laws.statements_split.Goals as goal

pub returns : goal.returns
returns g c = λ shows program j k config. exec_splits (cstep shows program) j k _ refl config
