use Rattle.og_csubset.proofs.WrongExamples.{wrong_cut_in_a_word, wrong_behind_the_last_line, wrong_no_semicolon, wrong_leading_zero, wrong_past_the_limit, wrong_two_signs, wrong_joined_signs, wrong_keyword, wrong_label_alone, wrong_foreign_byte, wrong_size_past, wrong_first_line}
use Rattle.og_csubset.proofs.spelling_laws.wrong_places.Goals as goal

pub returns-clause-cut_in_a_word : goal.returns-clause-cut_in_a_word
returns-clause-cut_in_a_word c = wrong_cut_in_a_word

pub returns-clause-behind_the_last_line : goal.returns-clause-behind_the_last_line
returns-clause-behind_the_last_line c = wrong_behind_the_last_line

pub returns-clause-no_semicolon : goal.returns-clause-no_semicolon
returns-clause-no_semicolon c = wrong_no_semicolon

pub returns-clause-leading_zero : goal.returns-clause-leading_zero
returns-clause-leading_zero c = wrong_leading_zero

pub returns-clause-past_the_limit : goal.returns-clause-past_the_limit
returns-clause-past_the_limit c = wrong_past_the_limit

pub returns-clause-two_signs : goal.returns-clause-two_signs
returns-clause-two_signs c = wrong_two_signs

pub returns-clause-joined_signs : goal.returns-clause-joined_signs
returns-clause-joined_signs c = wrong_joined_signs

pub returns-clause-keyword : goal.returns-clause-keyword
returns-clause-keyword c = wrong_keyword

pub returns-clause-label_alone : goal.returns-clause-label_alone
returns-clause-label_alone c = wrong_label_alone

pub returns-clause-foreign_byte : goal.returns-clause-foreign_byte
returns-clause-foreign_byte c = wrong_foreign_byte

pub returns-clause-size_past : goal.returns-clause-size_past
returns-clause-size_past c = wrong_size_past

pub returns-clause-first_line : goal.returns-clause-first_line
returns-clause-first_line c = wrong_first_line
