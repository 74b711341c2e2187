use Rattle.og_tool.proofs.program.load_text.Goals as goal

pub returns-in-Err-clause-bad : goal.returns-in-Err-clause-bad
returns-in-Err-clause-bad c = c.in-Err.ensures.bad c.args.model.now
