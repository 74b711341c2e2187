use Rattle.og_cstep.proofs.Machine.advance.Goals as goal

pub returns-clause-moved : goal.returns-clause-moved
returns-clause-moved c = c.take_step-answer.ensures.moved c.args.self.now.last
