-- The pieces of which a text of SDL/PR (Z.101 clause 6.1) or of ASN.1 (X.680 clause 12) consists: tokens, comments, and bytes of
-- white space. Each form of piece has one case below for each language that has it, over the whole bytes of the piece, and one
-- test of the bytes that may not follow it, so that each piece is the longest that stands in its place.
use Rattle.std.specs.Prelude.{◌≡◌, ℕ, ◌^◌, ◌<◌, ◌≤◌, Bool, true, false, not, ◌&&◌, ◌⊎◌, List, [], ◌∷◌, ◌++◌, length, IsTrue, if◌then◌else◌, ◌==◌}
use Rattle.std.specs.List.{list_all}
use Rattle.og_base.specs.declared.Rule.{Rule}
use Rattle.og_base.specs.declared.Rule.TheVariants.{L1, L2, L3, L4}
use Rattle.og_lexer.specs.declared.AsnKeyword.{AsnKeyword}
use Rattle.og_lexer.specs.declared.Keyword.{Keyword}
use Rattle.og_lexer.specs.declared.Language.{Language}
use Rattle.og_lexer.specs.declared.Language.TheVariants.{Sdl, Asn}
use Rattle.og_lexer.specs.declared.asn_words.AsnClass.TheVariants as asn
use Rattle.og_lexer.specs.declared.words.Class.TheVariants.{White, Letter, Underline, Foreign}
use Rattle.og_lexer.specs.declared.front.Shape.{Shape}
use Rattle.og_lexer.specs.declared.front.Shape.TheVariants.{Space, BlockComment, DashComment, LineComment, Name, Reserved, AsnReserved, Digits, Quoted, Quotation, Coded, Sign, AsnSign}
use Rattle.og_lexer.specs.Bytes.{class_of, is_word, is_digit, begins, number_of, mark_text, sign_goes_on}
use Rattle.og_lexer.specs.Keywords.{IsSpelt}
use Rattle.og_lexer.specs.AsnBytes.{asn_class_of, joins, asn_mark_text, asn_sign_goes_on}
use Rattle.og_lexer.specs.AsnKeywords.{asn_keyword_text}
use Rattle.og_lexer.specs.AsnPieces.{IsHyphenated, IsNested, IsBetween, IsCoded, is_code, IsOpenNested, IsOpenBetween}

-- whether nowhere in the list the bytes x and y stand side by side
abbrev pub lacks_pair : ℕ → ℕ → List ℕ → Bool
lacks_pair x y [] = true
lacks_pair x y (b ∷ bs) = not ((b == x) && begins y bs) && lacks_pair x y bs

-- whether there is no line end in the list
abbrev pub in_one_line : List ℕ → Bool
in_one_line bytes = list_all (λ b. not (b == 10)) bytes

-- whether the apostrophes in the list stand two by two
abbrev pub quotes_pair : List ℕ → Bool
quotes_pair [] = true
quotes_pair (b ∷ []) = not (b == 39)
quotes_pair (b ∷ c ∷ bs) = if b == 39 then ((c == 39) && quotes_pair bs) else quotes_pair (c ∷ bs)

-- a letter, then letters, digits and underlines
abbrev pub IsWord : List ℕ → Type 0
IsWord [] = ⊥
IsWord (b ∷ bs) = (class_of b ≡ Letter) × IsTrue (list_all is_word bs)

-- one or more digits
abbrev pub IsNumber : List ℕ → Type 0
IsNumber [] = ⊥
IsNumber (b ∷ bs) = IsTrue (list_all is_digit (b ∷ bs))

-- Which bytes are a piece of each form in the language. A comment that ends by its closing pair has that pair nowhere earlier, but
-- for pairs of comments inside it in ASN.1; the line end behind a comment is no part of it.
abbrev pub IsOf : Shape → Language → List ℕ → Type 0
IsOf Space language text = (b : ℕ) × (text ≡ b ∷ []) × (class_of b ≡ White)
IsOf BlockComment Sdl text = (inside : List ℕ) × (text ≡ 47 ∷ 42 ∷ (inside ++ 42 ∷ 47 ∷ [])) × IsTrue (lacks_pair 42 47 (inside ++ 42 ∷ []))
IsOf BlockComment Asn text = IsNested text
IsOf DashComment language text = (inside : List ℕ) × (text ≡ 45 ∷ 45 ∷ (inside ++ 45 ∷ 45 ∷ [])) × IsTrue (lacks_pair 45 45 (inside ++ 45 ∷ [])) × IsTrue (in_one_line inside)
IsOf LineComment language text = (inside : List ℕ) × (text ≡ 45 ∷ 45 ∷ inside) × IsTrue (lacks_pair 45 45 inside) × IsTrue (in_one_line inside)
IsOf Name Sdl text = IsWord text × ((k : Keyword) → IsSpelt k text → ⊥)
IsOf Name Asn text = IsHyphenated text × ((k : AsnKeyword) → text ≡ asn_keyword_text k → ⊥)
IsOf (Reserved k) Sdl text = IsWord text × IsSpelt k text
IsOf (Reserved k) Asn text = ⊥
IsOf (AsnReserved k) Sdl text = ⊥
IsOf (AsnReserved k) Asn text = IsHyphenated text × (text ≡ asn_keyword_text k)
IsOf Digits language text = IsNumber text
IsOf Quoted Sdl text = (inside : List ℕ) × (text ≡ 39 ∷ (inside ++ 39 ∷ [])) × IsTrue (quotes_pair inside)
IsOf Quoted Asn text = IsBetween 39 text
IsOf Quotation Sdl text = ⊥
IsOf Quotation Asn text = IsBetween 34 text
IsOf Coded Sdl text = ⊥
IsOf Coded Asn text = IsCoded text
IsOf (Sign m) Sdl text = text ≡ mark_text m
IsOf (Sign m) Asn text = ⊥
IsOf (AsnSign m) Sdl text = ⊥
IsOf (AsnSign m) Asn text = text ≡ asn_mark_text m

-- the bytes are a comment of one of its three forms
abbrev pub IsCommentIn : Language → List ℕ → Type 0
IsCommentIn language text = IsOf BlockComment language text ⊎ (IsOf DashComment language text ⊎ IsOf LineComment language text)

-- whether the byte behind a piece of the form, before these, would belong to a longer piece
abbrev pub goes_on : Shape → Language → ℕ → List ℕ → Bool
goes_on LineComment language b behind = not (b == 10)
goes_on Name Sdl b behind = is_word b
goes_on Name Asn b behind = joins b behind
goes_on (Reserved k) language b behind = is_word b
goes_on (AsnReserved k) language b behind = joins b behind
goes_on Digits language b behind = is_digit b
goes_on Quoted Sdl b behind = b == 39
goes_on Quoted Asn b behind = is_code b
goes_on (Sign m) language b behind = sign_goes_on m b
goes_on (AsnSign m) language b behind = asn_sign_goes_on m b behind
goes_on _ language b behind = false

-- the list is empty, or its first byte fails the test before the others
abbrev pub NotFirst : (ℕ → List ℕ → Bool) → List ℕ → Type 0
NotFirst test [] = Unit {0}
NotFirst test (b ∷ bs) = test b bs ≡ false

-- a piece of this form, with these bytes, stands in front of what is left of the bytes, and no longer one does
pub record Stands (language : Language) (shape : Shape) (text bytes rest : List ℕ) : Type 0 where
  pub joined : bytes ≡ text ++ rest
  pub is_of : IsOf shape language text
  pub follows : NotFirst (goes_on shape language) rest

-- a name has at most 64 bytes, and a number is at most 2 ^ 63
abbrev pub IsWithin : Shape → List ℕ → Type 0
IsWithin Name text = length text ≤ 64
IsWithin (Reserved k) text = length text ≤ 64
IsWithin (AsnReserved k) text = length text ≤ 64
IsWithin Digits text = number_of text ≤ 2 ^ 63
IsWithin _ text = Unit {0}

-- the quotes of a text are there, and the letter behind them
abbrev pub HasQuotes : Shape → List ℕ → Type 0
HasQuotes Quoted text = 2 ≤ length text
HasQuotes Quotation text = 2 ≤ length text
HasQuotes Coded text = 3 ≤ length text
HasQuotes _ text = Unit {0}

-- a comment of SDL/PR that does not end stands in front: `/*` without `*/`
abbrev pub IsOpenComment : List ℕ → Type 0
IsOpenComment bytes = (inside : List ℕ) × (bytes ≡ 47 ∷ 42 ∷ inside) × IsTrue (lacks_pair 42 47 inside)

-- a text of SDL/PR that does not end stands in front: behind its apostrophe there is none without a second one beside it
abbrev pub IsOpenText : List ℕ → Type 0
IsOpenText bytes = (inside : List ℕ) × (bytes ≡ 39 ∷ inside) × IsTrue (quotes_pair inside)

-- the letters, digits and other bytes of which a name or a keyword consists, and what goes on with it
abbrev pub IsWordIn : Language → List ℕ → Type 0
IsWordIn Sdl text = IsWord text
IsWordIn Asn text = IsHyphenated text

abbrev pub word_goes_on : Language → ℕ → List ℕ → Bool
word_goes_on language = goes_on Name language

-- The rule is violated at the first of the bytes: L1 by a byte of no token, L2 by a comment or a text without an end, L3
-- by a word of more than 64 bytes, L4 by a number over 2 ^ 63.
abbrev pub Breaks : Rule → Language → List ℕ → Type 0
Breaks L1 Sdl bytes = (b : ℕ) × (more : List ℕ) × (bytes ≡ b ∷ more) × ((class_of b ≡ Foreign) ⊎ (class_of b ≡ Underline))
Breaks L1 Asn bytes = (b : ℕ) × (more : List ℕ) × (bytes ≡ b ∷ more) × (asn_class_of b ≡ asn.Foreign)
Breaks L2 Sdl bytes = IsOpenComment bytes ⊎ IsOpenText bytes
Breaks L2 Asn bytes = IsOpenNested bytes ⊎ (IsOpenBetween 34 bytes ⊎ IsOpenBetween 39 bytes)
Breaks L3 language bytes = (text : List ℕ) × (rest : List ℕ) × (bytes ≡ text ++ rest) × IsWordIn language text × NotFirst (word_goes_on language) rest × (64 < length text)
Breaks L4 language bytes = (text : List ℕ) × (rest : List ℕ) × Stands language Digits text bytes rest × (2 ^ 63 < number_of text)
Breaks _ language bytes = ⊥
