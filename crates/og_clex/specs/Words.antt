-- Looking a word up in a list of keywords.
use Rattle.std.specs.Prelude.{ℕ, List, [], ◌∷◌, Option, Some, None, if◌then◌else◌}
use Rattle.std.specs.Str.{bytes_eq}
use Rattle.og_csubset.specs.Tokens.{Token, keyword, keyword_spelling}
use Rattle.og_clex.specs.declared.token.Keyword.{Keyword}
use Rattle.og_clex.specs.Views.{keyword_view}

-- the first of the keywords that is spelt so
abbrev pub keyword_among : List Keyword → List ℕ → Option Token
keyword_among [] w = None
keyword_among (k ∷ ks) w = if bytes_eq w (keyword_spelling (keyword_view k)) then Some (keyword (keyword_view k)) else keyword_among ks w
