use Rattle.og_trace.proofs.TraceExamples.{bad_line_is_shown, bad_line_ends, stuck_before_a_bad_line, stuck_ends, cut_at_four, cut_ends, no_statement, no_function, all_done}
use Rattle.og_trace.proofs.examples.traces_are_as_worked_out.Goals as goal

pub returns-clause-bad_line_is_shown : goal.returns-clause-bad_line_is_shown
returns-clause-bad_line_is_shown c = bad_line_is_shown

pub returns-clause-bad_line_ends : goal.returns-clause-bad_line_ends
returns-clause-bad_line_ends c = bad_line_ends

pub returns-clause-stuck_before_a_bad_line : goal.returns-clause-stuck_before_a_bad_line
returns-clause-stuck_before_a_bad_line c = stuck_before_a_bad_line

pub returns-clause-stuck_ends : goal.returns-clause-stuck_ends
returns-clause-stuck_ends c = stuck_ends

pub returns-clause-cut_at_four : goal.returns-clause-cut_at_four
returns-clause-cut_at_four c = cut_at_four

pub returns-clause-cut_ends : goal.returns-clause-cut_ends
returns-clause-cut_ends c = cut_ends

pub returns-clause-no_statement : goal.returns-clause-no_statement
returns-clause-no_statement c = no_statement

pub returns-clause-no_function : goal.returns-clause-no_function
returns-clause-no_function c = no_function

pub returns-clause-all_done : goal.returns-clause-all_done
returns-clause-all_done c = all_done
