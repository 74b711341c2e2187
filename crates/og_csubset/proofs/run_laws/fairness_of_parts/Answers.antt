use Rattle.og_csubset.proofs.FairParts.{number_is, flat_piece_is}
use Rattle.og_csubset.proofs.run_laws.fairness_of_parts.Goals as goal

pub returns-clause-number : goal.returns-clause-number
returns-clause-number c = number_is

pub returns-clause-text : goal.returns-clause-text
returns-clause-text c = flat_piece_is
