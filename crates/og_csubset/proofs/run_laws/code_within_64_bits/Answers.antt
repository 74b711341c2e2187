use Rattle.og_csubset.proofs.BoundedRuns.{bounded_same}
use Rattle.og_csubset.proofs.run_laws.code_within_64_bits.Goals as goal

pub returns : goal.returns
returns c = bounded_same
