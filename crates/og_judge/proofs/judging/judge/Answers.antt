use Rattle.og_judge.specs.Judging.{sources}
use Rattle.og_judge.proofs.Parts.{lexis_first}
use Rattle.og_judge.proofs.judging.judge.Goals as goal

pub returns-in-Err-clause-refused : goal.returns-in-Err-clause-refused
returns-in-Err-clause-refused c = lexis_first (sources c.args.files.now) c.in-Err.error c.in-Err.ensures.broken
