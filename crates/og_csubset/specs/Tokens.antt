-- The tokens of a text of the C subset, and how a text cuts into them (C99 6.4, lexical elements). After its first line a
-- text is a list of tokens with free white space before, between and behind them; there are no comments. The longest token
-- is taken: behind a word no letter, digit or `_` stands, behind a number no digit, behind `<` no `=`. Only what some
-- program has is a token here. So a word of C99 that is no name and that no program has, a number with a leading zero or
-- past 2^63 - 1, `++`, `--` and a byte that begins no token cut nowhere: at such a place the text goes wrong.
use Rattle.std.specs.Prelude.{◌≡◌, ℕ, ◌^◌, ◌<◌, Bool, false, not, ◌&&◌, ◌||◌, List, [], ◌∷◌, ◌++◌, IsTrue, IsFalse, ⊤, ◌==◌, nat_le, codes, bytes_eq, decimal}
use Rattle.std.specs.List.{list_all, list_any}
use Rattle.og_csubset.specs.declared.COp.{COp}
use Rattle.og_csubset.specs.declared.COp.TheVariants.{Add, Sub, Mul, Div, Rem}
use Rattle.og_csubset.specs.declared.CRel.{CRel}
use Rattle.og_csubset.specs.declared.CRel.TheVariants.{Eq, Ne, Lt, Le, Gt, Ge}

-- The words that programs have beside names; a word of C99 has an underscore at its end here.
pub data Keyword : Type 0 where
  typedef_ : Keyword
  struct_ : Keyword
  void_ : Keyword
  if_ : Keyword
  goto_ : Keyword
  switch_ : Keyword
  case_ : Keyword
  default_ : Keyword
  return_ : Keyword
  int64_t : Keyword
  INT64_C : Keyword

-- The marks that are neither operators nor relations.
pub data Mark : Type 0 where
  open_brace : Mark
  close_brace : Mark
  open_square : Mark
  close_square : Mark
  open_round : Mark
  close_round : Mark
  semicolon : Mark
  colon : Mark
  question : Mark
  dot : Mark
  equals : Mark

pub data Token : Type 0 where
  name : List ℕ → Token
  number : ℕ → Token
  operator : COp → Token
  relation : CRel → Token
  keyword : Keyword → Token
  mark : Mark → Token

-- how each token is written
abbrev pub keyword_spelling : Keyword → List ℕ
keyword_spelling typedef_ = codes "typedef"
keyword_spelling struct_ = codes "struct"
keyword_spelling void_ = codes "void"
keyword_spelling if_ = codes "if"
keyword_spelling goto_ = codes "goto"
keyword_spelling switch_ = codes "switch"
keyword_spelling case_ = codes "case"
keyword_spelling default_ = codes "default"
keyword_spelling return_ = codes "return"
keyword_spelling int64_t = codes "int64_t"
keyword_spelling INT64_C = codes "INT64_C"

abbrev pub mark_spelling : Mark → List ℕ
mark_spelling open_brace = codes "{"
mark_spelling close_brace = codes "}"
mark_spelling open_square = codes "["
mark_spelling close_square = codes "]"
mark_spelling open_round = codes "("
mark_spelling close_round = codes ")"
mark_spelling semicolon = codes ";"
mark_spelling colon = codes ":"
mark_spelling question = codes "?"
mark_spelling dot = codes "."
mark_spelling equals = codes "="

abbrev pub operator_spelling : COp → List ℕ
operator_spelling Add = codes "+"
operator_spelling Sub = codes "-"
operator_spelling Mul = codes "*"
operator_spelling Div = codes "/"
operator_spelling Rem = codes "%"

abbrev pub relation_spelling : CRel → List ℕ
relation_spelling Eq = codes "=="
relation_spelling Ne = codes "!="
relation_spelling Lt = codes "<"
relation_spelling Le = codes "<="
relation_spelling Gt = codes ">"
relation_spelling Ge = codes ">="

abbrev pub spelling : Token → List ℕ
spelling (name w) = w
spelling (number n) = decimal n
spelling (operator op) = operator_spelling op
spelling (relation op) = relation_spelling op
spelling (keyword k) = keyword_spelling k
spelling (mark m) = mark_spelling m

abbrev pub is_between : ℕ → ℕ → ℕ → Bool
is_between low high byte = nat_le low byte && nat_le byte high

-- `A` to `Z` and `a` to `z`
abbrev pub is_letter : ℕ → Bool
is_letter byte = is_between 65 90 byte || is_between 97 122 byte

-- `0` to `9`
abbrev pub is_digit : ℕ → Bool
is_digit byte = is_between 48 57 byte

-- a letter, a digit or `_`
abbrev pub is_word_byte : ℕ → Bool
is_word_byte byte = is_letter byte || is_digit byte || byte == 95

-- space, tab, CR and LF
abbrev pub is_space : ℕ → Bool
is_space byte = byte == 32 || byte == 9 || byte == 13 || byte == 10

-- a letter followed by letters, digits and `_`
abbrev pub is_word : List ℕ → Bool
is_word [] = false
is_word (byte ∷ bytes) = is_letter byte && list_all is_word_byte bytes

-- The words that are no names: the keywords of C99 (6.4.1) that begin with a letter, and the two words of <stdint.h>.
abbrev pub reserved_words : List (List ℕ)
reserved_words =
    codes "auto" ∷ codes "break" ∷ codes "case" ∷ codes "char" ∷ codes "const" ∷ codes "continue" ∷ codes "default"
    ∷ codes "do" ∷ codes "double" ∷ codes "else" ∷ codes "enum" ∷ codes "extern" ∷ codes "float" ∷ codes "for"
    ∷ codes "goto" ∷ codes "if" ∷ codes "inline" ∷ codes "int" ∷ codes "long" ∷ codes "register" ∷ codes "restrict"
    ∷ codes "return" ∷ codes "short" ∷ codes "signed" ∷ codes "sizeof" ∷ codes "static" ∷ codes "struct"
    ∷ codes "switch" ∷ codes "typedef" ∷ codes "union" ∷ codes "unsigned" ∷ codes "void" ∷ codes "volatile"
    ∷ codes "while" ∷ codes "int64_t" ∷ codes "INT64_C" ∷ []

abbrev pub is_reserved : List ℕ → Bool
is_reserved w = list_any (bytes_eq w) reserved_words

-- a C name
abbrev pub is_name : List ℕ → Bool
is_name w = is_word w && not (is_reserved w)

-- names are C names, and numbers are below 2^63; `decimal` writes no leading zero
abbrev pub IsToken : Token → Type 0
IsToken (name w) = IsTrue (is_name w)
IsToken (number n) = n < 2 ^ 63
IsToken (operator op) = ⊤
IsToken (relation op) = ⊤
IsToken (keyword k) = ⊤
IsToken (mark m) = ⊤

-- whether this byte right behind the token would belong to a longer one
abbrev pub operator_joins : COp → ℕ → Bool
operator_joins Add byte = byte == 43
operator_joins Sub byte = byte == 45
operator_joins Mul byte = false
operator_joins Div byte = false
operator_joins Rem byte = false

abbrev pub relation_joins : CRel → ℕ → Bool
relation_joins Eq byte = false
relation_joins Ne byte = false
relation_joins Lt byte = byte == 61
relation_joins Le byte = false
relation_joins Gt byte = byte == 61
relation_joins Ge byte = false

abbrev pub mark_joins : Mark → ℕ → Bool
mark_joins equals byte = byte == 61
mark_joins _ byte = false

abbrev pub joins : Token → ℕ → Bool
joins (name w) byte = is_word_byte byte
joins (number n) byte = is_digit byte
joins (operator op) byte = operator_joins op byte
joins (relation op) byte = relation_joins op byte
joins (keyword k) byte = is_word_byte byte
joins (mark m) byte = mark_joins m byte

-- these bytes may follow the token: it is the longest one there
abbrev pub MayFollow : Token → List ℕ → Type 0
MayFollow token [] = ⊤
MayFollow token (byte ∷ bytes) = IsFalse (joins token byte)

-- the bytes begin with white space and this token, and `rest` is what stands behind it
pub record Begins (bytes : List ℕ) (token : Token) (rest : List ℕ) : Type 0 where
  pub space : List ℕ
  pub blank : IsTrue (list_all is_space space)
  pub joined : bytes ≡ space ++ (spelling token ++ rest)
  pub is_token : IsToken token
  pub follows : MayFollow token rest

-- the bytes begin with these tokens, and `rest` is what stands behind the last one
abbrev pub Cuts : List Token → List ℕ → List ℕ → Type 0
Cuts [] bytes rest = bytes ≡ rest
Cuts (token ∷ tokens) bytes rest = (more : List ℕ) × Begins bytes token more × Cuts tokens more rest

-- the bytes are these tokens with white space
abbrev pub Lexes : List Token → List ℕ → Type 0
Lexes tokens bytes = (space : List ℕ) × Cuts tokens bytes space × IsTrue (list_all is_space space)

-- the first line, with its LF
abbrev pub first_line : List ℕ
first_line = codes "#include <stdint.h>" ++ 10 ∷ []

-- the text is the first line and then these tokens
abbrev pub HasTokens : List Token → List ℕ → Type 0
HasTokens tokens text = (body : List ℕ) × (text ≡ first_line ++ body) × Lexes tokens body
