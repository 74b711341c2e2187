use Rattle.og_sdl.specs.declared.table.TheConstants.{SDL}
use Rattle.og_reading.proofs.Answered.{one_violation}
use Rattle.og_parse.proofs.FileAnswers.{each_file, one_file, not_both}
use Rattle.og_parse.proofs.laws.one_answer.Goals as goal

pub returns-clause-each : goal.returns-clause-each
returns-clause-each c = each_file c.can_be_read.ensures

pub returns-clause-one_file : goal.returns-clause-one_file
returns-clause-one_file c = one_file c.can_be_read.ensures

pub returns-clause-one_violation : goal.returns-clause-one_violation
returns-clause-one_violation c = one_violation SDL

pub returns-clause-apart : goal.returns-clause-apart
returns-clause-apart c = not_both
