use Rattle.og_csubset.proofs.RunLaws.{agree_enough, agree_some}
use Rattle.og_csubset.proofs.run_laws.agreeing_programs_show_the_same.Goals as goal

pub returns-clause-enough_statements : goal.returns-clause-enough_statements
returns-clause-enough_statements c = agree_enough

pub returns-clause-some_statements : goal.returns-clause-some_statements
returns-clause-some_statements c = agree_some
