-- What the code gives back, against the functions that it computes. Each word takes what was returned and what there is.
use Rattle.std.specs.Prelude.{◌≡◌, ◌==◌, Bool, true, false, List, Option, Some, None, reverse}
use Rattle.og_csubset.specs.Tokens.{Token, keyword, mark, Keyword, Mark}
use Rattle.og_csubset.specs.Reading.{keyword_number, mark_number}
use Rattle.og_csubset.specs.Recognizer as symbols
use Rattle.og_clex.specs.declared.machine.Symbol.{Symbol}
use Rattle.og_clex.specs.Views.{symbols_view}

-- whether the token is this keyword, or this mark
abbrev pub is_keyword : Keyword → Token → Bool
is_keyword k (keyword j) = keyword_number k == keyword_number j
is_keyword k _ = false

abbrev pub is_mark : Mark → Token → Bool
is_mark m (mark k) = mark_number m == mark_number k
is_mark m _ = false

-- what is still to come, the next last in the code
abbrev pub coming : List Symbol → symbols.Symbols
coming stack = symbols_view (reverse stack)

-- whether the token was taken, and what is still to come then
abbrev pub Steps : Bool → Option symbols.Symbols → symbols.Symbols → Type 0
Steps true (Some T) S = S ≡ T
Steps true None S = ⊥
Steps false o S = o ≡ None
