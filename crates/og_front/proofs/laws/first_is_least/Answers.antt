use Rattle.og_front.proofs.Least.{first_among, first_least, first_none}
use Rattle.og_front.proofs.laws.first_is_least.Goals as goal

pub returns-clause-among : goal.returns-clause-among
returns-clause-among c = first_among

pub returns-clause-least : goal.returns-clause-least
returns-clause-least c = first_least

pub returns-clause-none : goal.returns-clause-none
returns-clause-none c = first_none
