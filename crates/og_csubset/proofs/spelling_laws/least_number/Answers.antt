use Rattle.og_csubset.proofs.TextExamples.{least_number_special, least_number_bracketed_again, least_number_negated, least_number_no_bracket, least_number_left_bracket, least_number_more_behind}
use Rattle.og_csubset.proofs.spelling_laws.least_number.Goals as goal

pub returns-clause-special : goal.returns-clause-special
returns-clause-special c = least_number_special

pub returns-clause-bracketed_again : goal.returns-clause-bracketed_again
returns-clause-bracketed_again c = least_number_bracketed_again

pub returns-clause-negated : goal.returns-clause-negated
returns-clause-negated c = least_number_negated

pub returns-clause-no_bracket : goal.returns-clause-no_bracket
returns-clause-no_bracket c = least_number_no_bracket

pub returns-clause-left_bracket : goal.returns-clause-left_bracket
returns-clause-left_bracket c = least_number_left_bracket

pub returns-clause-more_behind : goal.returns-clause-more_behind
returns-clause-more_behind c = least_number_more_behind
