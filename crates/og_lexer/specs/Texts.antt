-- What a text of SDL/PR (Z.101 clause 6.1) or of ASN.1 (X.680 clause 12) lexes to. The text is cut into pieces, each the longest
-- that stands in its place and none past a limit; each token and comment carries the place and the numbers of its bytes, and
-- behind them stands the token End. A text that has no such cut has a first violation of class L: all before it is cut into
-- pieces. The words without a language are those of SDL/PR.
use Rattle.std.specs.Prelude.{◌≡◌, ◌≢◌, ℕ, ◌+◌, ◌-◌, ◌^◌, ◌≤◌, IsTrue, List, [], ◌∷◌, ◌++◌, length, map, Option, Some, None, slice_range}
use Rattle.og_base.specs.declared.Place.{Place}
use Rattle.og_base.specs.declared.Violation.{Violation}
use Rattle.og_base.specs.declared.ModelError.{ModelError}
use Rattle.og_base.specs.declared.ModelError.TheVariants.{Broken, NoMemory}
use Rattle.og_lexer.specs.declared.Token.{Token}
use Rattle.og_lexer.specs.declared.Token.TheVariants as token
use Rattle.og_lexer.specs.declared.Spanned.{Spanned}
use Rattle.og_lexer.specs.declared.Comment.{Comment}
use Rattle.og_lexer.specs.declared.Lexed.{Lexed}
use Rattle.og_lexer.specs.declared.front.Shape.{Shape}
use Rattle.og_lexer.specs.declared.front.Shape.TheVariants.{BlockComment, DashComment, LineComment, Name, Reserved, AsnReserved, Digits, Quoted, Quotation, Coded, Sign, AsnSign}
use Rattle.og_lexer.specs.declared.AsnKeyword.{AsnKeyword}
use Rattle.og_lexer.specs.declared.Keyword.{Keyword}
use Rattle.og_lexer.specs.declared.Language.{Language}
use Rattle.og_lexer.specs.declared.Language.TheVariants.{Sdl, Asn}
use Rattle.og_lexer.specs.Bytes.{number_of, mark_text}
use Rattle.og_lexer.specs.Keywords.{IsSpelt}
use Rattle.og_lexer.specs.AsnBytes.{asn_mark_text}
use Rattle.og_lexer.specs.AsnKeywords.{asn_keyword_text}
use Rattle.og_lexer.specs.AsnPieces.{IsHyphenated, IsQuotedAs}
use Rattle.og_lexer.specs.Pieces.{IsWord, IsNumber, quotes_pair, IsCommentIn, Stands, IsWithin, Breaks}
use Rattle.og_lexer.specs.Places.{place_at}

pub record Piece : Type 0 where
  pub shape : Shape
  pub text : List ℕ

-- the pieces, and then the rest, are the bytes, and no piece passes a limit
abbrev pub Cuts : Language → List Piece → List ℕ → List ℕ → Type 0
Cuts language [] bytes rest = bytes ≡ rest
Cuts language (p ∷ ps) bytes rest = (more : List ℕ) × Stands language p.shape p.text bytes more × IsWithin p.shape p.text × Cuts language ps more rest

-- what stands between the outer quotes
abbrev pub inside_quotes : List ℕ → List ℕ
inside_quotes text = slice_range text 1 (length text - 1)

-- what stands between the quotes before a letter
abbrev pub inside_code : List ℕ → List ℕ
inside_code text = slice_range text 1 (length text - 2)

-- the token that a piece is
abbrev pub token_of : Shape → List ℕ → Option Token
token_of Name text = Some (token.Name (record { bytes = text }))
token_of (Reserved k) text = Some (token.Keyword k)
token_of (AsnReserved k) text = Some (token.AsnKeyword k)
token_of Digits text = Some (token.Number (number_of text))
token_of Quoted text = Some (token.Text (record { bytes = inside_quotes text }))
token_of Quotation text = Some (token.Text (record { bytes = inside_quotes text }))
token_of Coded text = Some (token.Text (record { bytes = inside_code text }))
token_of (Sign m) text = Some (token.Mark m)
token_of (AsnSign m) text = Some (token.AsnMark m)
token_of _ text = None

-- the token of a piece, if it is one, with the place of the byte `at`
abbrev pub spanned : Option Token → Place → ℕ → ℕ → List Spanned
spanned None place start end = []
spanned (Some t) place start end = record { token = t; place = place; start = start; end = end } ∷ []

-- the comment that a piece is
abbrev pub comment_of : Shape → Place → ℕ → ℕ → List Comment
comment_of BlockComment place start end = record { place = place; start = start; end = end } ∷ []
comment_of DashComment place start end = record { place = place; start = start; end = end } ∷ []
comment_of LineComment place start end = record { place = place; start = start; end = end } ∷ []
comment_of _ place start end = []

-- the tokens of the pieces that begin at the byte `at`, and the token End behind them
abbrev pub tokens_from : ℕ → List ℕ → ℕ → List Piece → List Spanned
tokens_from file bytes at [] = record { token = token.End; place = place_at file bytes at; start = at; end = at } ∷ []
tokens_from file bytes at (p ∷ ps) = spanned (token_of p.shape p.text) (place_at file bytes at) at (at + length p.text) ++ tokens_from file bytes (at + length p.text) ps

-- the comments among the pieces that begin at the byte `at`
abbrev pub comments_from : ℕ → List ℕ → ℕ → List Piece → List Comment
comments_from file bytes at [] = []
comments_from file bytes at (p ∷ ps) = comment_of p.shape (place_at file bytes at) at (at + length p.text) ++ comments_from file bytes (at + length p.text) ps

-- the bytes of the file with this number are a text of these tokens and comments, without a violation of class L
pub record LexesIn (language : Language) (file : ℕ) (bytes : List ℕ) (tokens : List Spanned) (comments : List Comment) : Type 0 where
  pub pieces : List Piece
  pub cuts : Cuts language pieces bytes []
  pub tokens_are : tokens ≡ tokens_from file bytes 0 pieces
  pub comments_are : comments ≡ comments_from file bytes 0 pieces

abbrev pub Lexes : ℕ → List ℕ → List Spanned → List Comment → Type 0
Lexes file bytes tokens comments = LexesIn Sdl file bytes tokens comments

-- the first violation of class L in the file: up to it the bytes are pieces
pub record FirstLexicalIn (language : Language) (file : ℕ) (bytes : List ℕ) (v : Violation) : Type 0 where
  pub before : List Piece
  pub rest : List ℕ
  pub cuts : Cuts language before bytes rest
  pub breaks : Breaks v.rule language rest
  pub place : v.place ≡ place_at file bytes (length bytes - length rest)

abbrev pub FirstLexical : ℕ → List ℕ → Violation → Type 0
FirstLexical file bytes v = FirstLexicalIn Sdl file bytes v

-- the bytes lex to some tokens and comments
abbrev pub IsTextIn : Language → ℕ → List ℕ → Type 0
IsTextIn language file bytes = (tokens : List Spanned) × ((comments : List Comment) × LexesIn language file bytes tokens comments)

abbrev pub IsText : ℕ → List ℕ → Type 0
IsText file bytes = IsTextIn Sdl file bytes

-- the bytes have a first violation of class L
abbrev pub IsBrokenIn : Language → ℕ → List ℕ → Type 0
IsBrokenIn language file bytes = (v : Violation) × FirstLexicalIn language file bytes v

abbrev pub IsBroken : ℕ → List ℕ → Type 0
IsBroken file bytes = IsBrokenIn Sdl file bytes

-- why there are no tokens: the first violation of class L, and then the bytes lex to nothing; or want of memory
abbrev pub RefusesIn : Language → ℕ → List ℕ → ModelError → Type 0
RefusesIn language file bytes (Broken v) =
    FirstLexicalIn language file bytes v × ((tokens : List Spanned) (comments : List Comment) → LexesIn language file bytes tokens comments → ⊥)
RefusesIn language file bytes (NoMemory met) = Unit {0}

abbrev pub Refuses : ℕ → List ℕ → ModelError → Type 0
Refuses file bytes error = RefusesIn Sdl file bytes error

-- Which bytes a token is written as, and that its limit holds. A text's apostrophes stay as they are written.
abbrev pub IsWrittenIn : Token → Language → List ℕ → Type 0
IsWrittenIn (token.Name w) Sdl text = (text ≡ w.bytes) × IsWord text × (length text ≤ 64) × ((k : Keyword) → IsSpelt k text → ⊥)
IsWrittenIn (token.Name w) Asn text = (text ≡ w.bytes) × IsHyphenated text × (length text ≤ 64) × ((k : AsnKeyword) → text ≡ asn_keyword_text k → ⊥)
IsWrittenIn (token.Keyword k) Sdl text = IsWord text × IsSpelt k text
IsWrittenIn (token.Keyword k) Asn text = ⊥
IsWrittenIn (token.AsnKeyword k) Sdl text = ⊥
IsWrittenIn (token.AsnKeyword k) Asn text = IsHyphenated text × (text ≡ asn_keyword_text k)
IsWrittenIn (token.Number n) language text = IsNumber text × (n ≡ number_of text) × (n ≤ 2 ^ 63)
IsWrittenIn (token.Text w) Sdl text = (text ≡ 39 ∷ (w.bytes ++ 39 ∷ [])) × IsTrue (quotes_pair w.bytes)
IsWrittenIn (token.Text w) Asn text = IsQuotedAs w.bytes text
IsWrittenIn (token.Mark m) Sdl text = text ≡ mark_text m
IsWrittenIn (token.Mark m) Asn text = ⊥
IsWrittenIn (token.AsnMark m) Sdl text = ⊥
IsWrittenIn (token.AsnMark m) Asn text = text ≡ asn_mark_text m
IsWrittenIn token.End language text = text ≡ []

abbrev pub IsWritten : Token → List ℕ → Type 0
IsWritten t text = IsWrittenIn t Sdl text

-- the token stands at its bytes and its place in the file
pub record IsInPlaceIn (language : Language) (file : ℕ) (bytes : List ℕ) (t : Spanned) : Type 0 where
  pub ordered : t.start ≤ t.end
  pub inside : t.end ≤ length bytes
  pub placed : t.place ≡ place_at file bytes t.start
  pub written : IsWrittenIn t.token language (slice_range bytes t.start t.end)

-- the tokens stand in their places one behind the other, none before the byte `at`
abbrev pub AreInPlaceIn : Language → ℕ → List ℕ → ℕ → List Spanned → Type 0
AreInPlaceIn language file bytes at [] = Unit {0}
AreInPlaceIn language file bytes at (t ∷ ts) = (at ≤ t.start) × IsInPlaceIn language file bytes t × AreInPlaceIn language file bytes t.end ts

abbrev pub AreInPlace : ℕ → List ℕ → ℕ → List Spanned → Type 0
AreInPlace file bytes at tokens = AreInPlaceIn Sdl file bytes at tokens

-- the last token is End, and no other one
abbrev pub EndsOnce : List Spanned → Type 0
EndsOnce [] = ⊥
EndsOnce (t ∷ []) = t.token ≡ token.End
EndsOnce (t ∷ u ∷ ts) = (t.token ≢ token.End) × EndsOnce (u ∷ ts)

-- the comment stands at its bytes and its place in the file, and those are of one of the forms of comments
pub record IsCommentInPlaceIn (language : Language) (file : ℕ) (bytes : List ℕ) (c : Comment) : Type 0 where
  pub ordered : c.start ≤ c.end
  pub inside : c.end ≤ length bytes
  pub placed : c.place ≡ place_at file bytes c.start
  pub written : IsCommentIn language (slice_range bytes c.start c.end)

-- the comments stand in their places one behind the other, none before the byte `at`
abbrev pub AreCommentsInPlaceIn : Language → ℕ → List ℕ → ℕ → List Comment → Type 0
AreCommentsInPlaceIn language file bytes at [] = Unit {0}
AreCommentsInPlaceIn language file bytes at (c ∷ cs) = (at ≤ c.start) × IsCommentInPlaceIn language file bytes c × AreCommentsInPlaceIn language file bytes c.end cs

abbrev pub AreCommentsInPlace : ℕ → List ℕ → ℕ → List Comment → Type 0
AreCommentsInPlace file bytes at comments = AreCommentsInPlaceIn Sdl file bytes at comments

-- the token without its place
abbrev pub symbol : Spanned → Token
symbol s = s.token

abbrev pub symbols : List Spanned → List Token
symbols tokens = map symbol tokens

-- the new tokens and comments are the old ones with those of a piece that stands at the byte `at`
abbrev pub GainsPiece : Lexed → Lexed → Shape → List ℕ → Place → ℕ → Type 0
GainsPiece old new shape text place at =
    (new.tokens ≡ old.tokens ++ spanned (token_of shape text) place at (at + length text)) × (new.comments ≡ old.comments ++ comment_of shape place at (at + length text))
