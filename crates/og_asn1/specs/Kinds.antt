-- The kinds of tokens, of which the grammar of modules speaks (X.680 clause 12): a reference to a type or a module begins with a
-- capital letter, and one to a value with a small one.
use Rattle.std.specs.Prelude.{ℕ, ◌+◌, List, [], ◌∷◌, map, if◌then◌else◌}
use Rattle.std.specs.Char.{is_ascii_uppercase}
use denote.Enum.Declared.{tag_of}
use Rattle.og_lexer.specs.contracts.AsnKeyword as keywords
use Rattle.og_lexer.specs.contracts.AsnMark as marks
use Rattle.og_lexer.specs.declared.AsnKeyword.{AsnKeyword}
use Rattle.og_lexer.specs.declared.AsnMark.{AsnMark}
use Rattle.og_lexer.specs.declared.Spanned.{Spanned}
use Rattle.og_lexer.specs.declared.Token.{Token}
use Rattle.og_lexer.specs.declared.Token.TheVariants as token
use Rattle.og_lexer.specs.AsnPieces.{is_asn_name}

abbrev pub kind_of_mark : AsnMark → ℕ
kind_of_mark mark = 5 + tag_of marks.the_type mark

abbrev pub kind_of_keyword : AsnKeyword → ℕ
kind_of_keyword word = 38 + tag_of keywords.the_type word

-- by the first letter
abbrev pub kind_by_case : List ℕ → ℕ
kind_by_case [] = 255
kind_by_case (b ∷ bs) = if is_ascii_uppercase b then 0 else 1

unfoldable pub kind_of_name : List ℕ → ℕ
kind_of_name bytes = if is_asn_name bytes then kind_by_case bytes else 255

unfoldable pub kind_of : Token → ℕ
kind_of (token.Name word) = kind_of_name word.bytes
kind_of (token.Number n) = 2
kind_of (token.Text text) = 3
kind_of token.End = 4
kind_of (token.AsnMark mark) = kind_of_mark mark
kind_of (token.AsnKeyword word) = kind_of_keyword word
kind_of (token.Keyword word) = 255
kind_of (token.Mark mark) = 255

abbrev pub kinds_of : List Spanned → List ℕ
kinds_of tokens = map (λ t. kind_of t.token) tokens
