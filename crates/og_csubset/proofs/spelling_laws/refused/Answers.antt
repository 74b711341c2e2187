use Rattle.og_csubset.proofs.TextExamples.{refused_no_semicolon, refused_leading_zero, refused_past_the_limit, refused_two_signs, refused_joined_signs, refused_keyword, refused_comment, refused_underscore, refused_label_alone, refused_first_line, refused_empty, refused_no_member, refused_size_zero, refused_size_past}
use Rattle.og_csubset.proofs.spelling_laws.refused.Goals as goal

pub returns-clause-no_semicolon : goal.returns-clause-no_semicolon
returns-clause-no_semicolon c = refused_no_semicolon

pub returns-clause-leading_zero : goal.returns-clause-leading_zero
returns-clause-leading_zero c = refused_leading_zero

pub returns-clause-past_the_limit : goal.returns-clause-past_the_limit
returns-clause-past_the_limit c = refused_past_the_limit

pub returns-clause-two_signs : goal.returns-clause-two_signs
returns-clause-two_signs c = refused_two_signs

pub returns-clause-joined_signs : goal.returns-clause-joined_signs
returns-clause-joined_signs c = refused_joined_signs

pub returns-clause-keyword : goal.returns-clause-keyword
returns-clause-keyword c = refused_keyword

pub returns-clause-comment : goal.returns-clause-comment
returns-clause-comment c = refused_comment

pub returns-clause-underscore : goal.returns-clause-underscore
returns-clause-underscore c = refused_underscore

pub returns-clause-label_alone : goal.returns-clause-label_alone
returns-clause-label_alone c = refused_label_alone

pub returns-clause-first_line : goal.returns-clause-first_line
returns-clause-first_line c = refused_first_line

pub returns-clause-empty : goal.returns-clause-empty
returns-clause-empty c = refused_empty

pub returns-clause-no_member : goal.returns-clause-no_member
returns-clause-no_member c = refused_no_member

pub returns-clause-size_zero : goal.returns-clause-size_zero
returns-clause-size_zero c = refused_size_zero

pub returns-clause-size_past : goal.returns-clause-size_past
returns-clause-size_past c = refused_size_past
