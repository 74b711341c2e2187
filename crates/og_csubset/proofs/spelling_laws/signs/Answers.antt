use Rattle.og_csubset.proofs.TextExamples.{signs_negative, signs_zero, signs_bracket, signs_variable, signs_behind_minus}
use Rattle.og_csubset.proofs.spelling_laws.signs.Goals as goal

pub returns-clause-negative : goal.returns-clause-negative
returns-clause-negative c = signs_negative

pub returns-clause-zero : goal.returns-clause-zero
returns-clause-zero c = signs_zero

pub returns-clause-bracket : goal.returns-clause-bracket
returns-clause-bracket c = signs_bracket

pub returns-clause-variable : goal.returns-clause-variable
returns-clause-variable c = signs_variable

pub returns-clause-behind_minus : goal.returns-clause-behind_minus
returns-clause-behind_minus c = signs_behind_minus
