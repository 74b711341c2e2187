use Rattle.og_csubset.proofs.RunLaws.{c_same, c_begins}
use Rattle.og_csubset.proofs.run_laws.more_statements_go_on.Goals as goal

pub returns-clause-same : goal.returns-clause-same
returns-clause-same c = c_same

pub returns-clause-begins : goal.returns-clause-begins
returns-clause-begins c = c_begins
