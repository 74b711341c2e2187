use Rattle.og_declared.proofs.violations.first_violation.Goals as goal

pub returns : goal.returns
returns c = c.in_ok-note_violations.ensures
