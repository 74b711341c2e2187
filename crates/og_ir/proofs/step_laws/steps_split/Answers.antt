use Rattle.std.proofs.Common.{refl}
use Rattle.og_ir.proofs.Runs.{exec_splits}
use Rattle.og_ir.proofs.step_laws.steps_split.Goals as goal

pub returns : goal.returns
returns g c = λ step j k config. exec_splits step j k _ refl config
