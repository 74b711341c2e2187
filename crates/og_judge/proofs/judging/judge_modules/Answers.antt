use Rattle.og_judge.specs.Judging.{sources}
use Rattle.og_judge.proofs.Parts.{forms_first, judged_if, rules_if}
use Rattle.og_judge.proofs.judging.judge_modules.Goals as goal

pub returns-in-Err-clause-refused : goal.returns-in-Err-clause-refused
returns-in-Err-clause-refused c = forms_first (sources c.args.files.now) c.args.texts.now c.args.modules.now c.in-Err.error c.requires.lexed c.requires.parsed c.in-Err.ensures.broken

pub returns-in-Ok-clause-accepted : goal.returns-in-Ok-clause-accepted
returns-in-Ok-clause-accepted c =
    judged_if (sources c.args.files.now) c.args.texts.now c.args.modules.now c.in-Ok.system c.judge_names.result c.requires.lexed c.requires.parsed c.in-Ok.ensures.found c.judge_names.ensures.named

pub returns-in-Ok-clause-refused : goal.returns-in-Ok-clause-refused
returns-in-Ok-clause-refused c =
    rules_if (sources c.args.files.now) c.args.texts.now c.args.modules.now c.in-Ok.system c.judge_names.result c.requires.lexed c.requires.parsed c.in-Ok.ensures.found c.judge_names.ensures.broken
