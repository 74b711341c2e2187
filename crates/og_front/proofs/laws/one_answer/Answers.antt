use Rattle.og_front.proofs.EachFile.{accepted_or_refused}
use Rattle.og_front.proofs.OneAnswer.{never_both, one_first}
use Rattle.og_front.proofs.laws.one_answer.Goals as goal

pub returns-clause-each : goal.returns-clause-each
returns-clause-each c = accepted_or_refused c.one_reading.ensures.each c.each_is_answered.ensures

pub returns-clause-apart : goal.returns-clause-apart
returns-clause-apart c = never_both c.one_reading.ensures.tokens c.one_reading.ensures.apart

pub returns-clause-one : goal.returns-clause-one
returns-clause-one c = one_first c.one_reading.ensures.tokens c.one_reading.ensures.violation c.one_reading.ensures.apart
