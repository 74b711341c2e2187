use Rattle.og_ir.proofs.Bounded.{under_run}
use Rattle.og_ir.proofs.step_laws.code_in_64_bits.Goals as goal

pub returns : goal.returns
returns g c = under_run
