use Rattle.og_system.proofs.Homes.{has_home}
use Rattle.og_system.proofs.Judged.{one_body}
use Rattle.og_system.proofs.laws.one_process.Goals as goal

pub returns-clause-one : goal.returns-clause-one
returns-clause-one c = one_body

pub returns-clause-home : goal.returns-clause-home
returns-clause-home c = has_home
