use Rattle.og_report.proofs.Written.{with_box, without_box, below_zero}
use Rattle.og_report.proofs.examples.reports_are_written.Goals as goal

pub returns-clause-with_box : goal.returns-clause-with_box
returns-clause-with_box c = with_box

pub returns-clause-without_box : goal.returns-clause-without_box
returns-clause-without_box c = without_box

pub returns-clause-below_zero : goal.returns-clause-below_zero
returns-clause-below_zero c = below_zero
