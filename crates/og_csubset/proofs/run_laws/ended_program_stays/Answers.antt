use Rattle.std.proofs.Common.{refl}
use Rattle.og_ir.specs.Steps.{Over, Broken}
use Rattle.og_ir.proofs.Runs.{exec_stays}
use Rattle.og_csubset.specs.Step.{cstep}
use Rattle.og_csubset.proofs.run_laws.ended_program_stays.Goals as goal

pub returns-clause-over : goal.returns-clause-over
returns-clause-over g c = λ shows program n globals. exec_stays (cstep shows program) (Over globals) refl n

pub returns-clause-broken : goal.returns-clause-broken
returns-clause-broken g c = λ shows program n trouble. exec_stays (cstep shows program) (Broken trouble) refl n
