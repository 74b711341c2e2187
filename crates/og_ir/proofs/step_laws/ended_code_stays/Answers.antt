use Rattle.std.proofs.Common.{refl}
use Rattle.og_ir.specs.Steps.{Over, Broken}
use Rattle.og_ir.specs.FlatSteps.{flat_step}
use Rattle.og_ir.proofs.Runs.{exec_stays}
use Rattle.og_ir.proofs.step_laws.ended_code_stays.Goals as goal

pub returns-clause-over : goal.returns-clause-over
returns-clause-over g c = λ shows is_there ir n slots.
    exec_stays (flat_step shows is_there ir) (Over slots) refl n

pub returns-clause-broken : goal.returns-clause-broken
returns-clause-broken g c = λ shows is_there ir n trouble.
    exec_stays (flat_step shows is_there ir) (Broken trouble) refl n
