use Rattle.og_csubset.proofs.Depth.{value_is, is_number_is}
use Rattle.og_csubset.proofs.run_laws.values_of_parts.Goals as goal

pub returns-clause-value : goal.returns-clause-value
returns-clause-value c = value_is

pub returns-clause-number : goal.returns-clause-number
returns-clause-number c = is_number_is
