use Rattle.og_csubset.specs.FlatRun.{flat_in_64_bits}
use Rattle.og_csubset.specs.Paced.{paced}
use Rattle.og_csubset.proofs.PacedRuns.{paced_at_one}
use Rattle.og_csubset.proofs.run_laws.pace_of_one.Goals as goal

pub returns : goal.returns
unfolding paced flat_in_64_bits
returns c = paced_at_one
