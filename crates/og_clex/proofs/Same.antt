-- Keywords and marks are compared by their numbers in the definitions, and by a derived `==` in the code.
use Rattle.std.proofs.Common.{◌≡◌, ◌==◌, refl, ap₂}
use denote.Enum.Bare.{sameb}
use denote.Enum.Declared.{tag_of}
use Rattle.og_csubset.specs.Reading.{keyword_number, mark_number}
use Rattle.og_clex.specs.contracts.token.Keyword as keywords
use Rattle.og_clex.specs.contracts.token.Mark as marks
use Rattle.og_clex.specs.declared.token.Keyword.{Keyword}
use Rattle.og_clex.specs.declared.token.Keyword.TheVariants as keyword
use Rattle.og_clex.specs.declared.token.Mark.{Mark}
use Rattle.og_clex.specs.declared.token.Mark.TheVariants as mark
use Rattle.og_clex.specs.Views.{keyword_view, mark_view}

keyword_tag : (a : Keyword) → tag_of keywords.the_type a ≡ keyword_number (keyword_view a)
keyword_tag keyword.Typedef = refl
keyword_tag keyword.Struct = refl
keyword_tag keyword.Void = refl
keyword_tag keyword.If = refl
keyword_tag keyword.Goto = refl
keyword_tag keyword.Switch = refl
keyword_tag keyword.Case = refl
keyword_tag keyword.Default = refl
keyword_tag keyword.Return = refl
keyword_tag keyword.Int64Type = refl
keyword_tag keyword.Int64Literal = refl

mark_tag : (a : Mark) → tag_of marks.the_type a ≡ mark_number (mark_view a)
mark_tag mark.OpenBrace = refl
mark_tag mark.CloseBrace = refl
mark_tag mark.OpenSquare = refl
mark_tag mark.CloseSquare = refl
mark_tag mark.OpenRound = refl
mark_tag mark.CloseRound = refl
mark_tag mark.Semicolon = refl
mark_tag mark.Colon = refl
mark_tag mark.Question = refl
mark_tag mark.Dot = refl
mark_tag mark.Equals = refl

pub same_keyword : (a b : Keyword) → sameb keywords.the_type a b ≡ (keyword_number (keyword_view a) == keyword_number (keyword_view b))
same_keyword a b = ap₂ (λ m n. m == n) (keyword_tag a) (keyword_tag b)

pub same_mark : (a b : Mark) → sameb marks.the_type a b ≡ (mark_number (mark_view a) == mark_number (mark_view b))
same_mark a b = ap₂ (λ m n. m == n) (mark_tag a) (mark_tag b)
