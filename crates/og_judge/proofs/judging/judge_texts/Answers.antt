use Rattle.og_judge.specs.Judging.{sources}
use Rattle.og_judge.proofs.Parts.{syntax_first}
use Rattle.og_judge.proofs.judging.judge_texts.Goals as goal

pub returns-in-Err-clause-refused : goal.returns-in-Err-clause-refused
returns-in-Err-clause-refused c = syntax_first (sources c.args.files.now) c.args.texts.now c.in-Err.error c.requires.lexed c.in-Err.ensures.broken
