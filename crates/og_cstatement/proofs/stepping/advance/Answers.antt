use Rattle.std.proofs.Common.{◌∙◌, rules}
use Rattle.og_cstatement.specs.Positions.{frame_of}
use Rattle.og_cstatement.proofs.Moving.{at_statement}
use Rattle.og_cstatement.proofs.stepping.advance.Goals as goal

pub carry-requires-clause-earlier : goal.carry-requires-clause-earlier
carry-requires-clause-earlier c = λ effect e.
    c.requires (frame_of c.in-Running.call) c.args.cells.now.items effect
    (at_statement c.args.linked.now c.args.cells.now.items c.in-Running.call c.in-Some.body.now c.in-Some-at.statement.now (search rules) (search rules) ∙ e)
