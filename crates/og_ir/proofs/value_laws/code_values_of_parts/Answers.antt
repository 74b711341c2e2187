use Rattle.og_ir.proofs.Depth.{value_is}
use Rattle.og_ir.proofs.value_laws.code_values_of_parts.Goals as goal

pub returns : goal.returns
returns c = value_is
