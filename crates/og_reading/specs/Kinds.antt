-- The kinds of tokens.
use Rattle.std.specs.Prelude.{ℕ, ◌+◌, Bool, true, false, List, map, if◌then◌else◌}
use denote.Enum.Declared.{tag_of}
use Rattle.og_lexer.specs.contracts.Keyword as keywords
use Rattle.og_lexer.specs.contracts.Mark as marks
use Rattle.og_lexer.specs.declared.Keyword.{Keyword}
use Rattle.og_lexer.specs.declared.Mark.{Mark}
use Rattle.og_lexer.specs.declared.Spanned.{Spanned}
use Rattle.og_lexer.specs.declared.Token.{Token}
use Rattle.og_lexer.specs.declared.Token.TheVariants as token
use Rattle.og_ast.specs.Names.{is_name}

abbrev pub kind_of_mark : Mark → ℕ
kind_of_mark mark = 4 + tag_of marks.the_type mark

abbrev pub kind_of_keyword : Keyword → ℕ
kind_of_keyword word = 24 + tag_of keywords.the_type word

abbrev pub kind_of : Token → ℕ
kind_of (token.Name word) = if is_name word.bytes then 0 else 255
kind_of (token.Number n) = 1
kind_of (token.Text text) = 2
kind_of token.End = 3
kind_of (token.Mark mark) = kind_of_mark mark
kind_of (token.Keyword word) = kind_of_keyword word
kind_of (token.AsnKeyword word) = 255
kind_of (token.AsnMark mark) = 255

abbrev pub kinds_of : List Spanned → List ℕ
kinds_of tokens = map (λ t. kind_of t.token) tokens
