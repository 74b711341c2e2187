-- What stands in front of a text of SDL/PR, as the reader computes it: the form and length of the piece there, or the rule that
-- is violated there. Pieces says the same by cases on whole texts (Z.101 clause 6.1); laws on the public calls tie the two.
use Rattle.std.specs.Prelude.{ℕ, ◌+◌, ◌^◌, Bool, true, false, not, ◌&&◌, List, [], ◌∷◌, map, take, Option, Some, None, Result, Ok, Err, option_map, if◌then◌else◌, nat_lt, ◌==◌}
use Rattle.std.specs.List.{prefix_len}
use Rattle.std.specs.Str.{bytes_eq}
use Rattle.std.specs.Char.{to_ascii_uppercase}
use Rattle.og_base.specs.declared.Rule.{Rule}
use Rattle.og_base.specs.declared.Rule.TheVariants.{L1, L2, L3, L4}
use Rattle.og_lexer.specs.declared.Keyword.{Keyword}
use Rattle.og_lexer.specs.declared.Mark.{Mark}
use Rattle.og_lexer.specs.declared.Mark.TheVariants.{Colon, Assign, Solidus, Minus, NotEqual, Less, LessOrEqual, Greater, GreaterOrEqual}
use Rattle.og_lexer.specs.declared.words.Class.{Class}
use Rattle.og_lexer.specs.declared.words.Class.TheVariants as class
use Rattle.og_lexer.specs.declared.front.Shape.{Shape}
use Rattle.og_lexer.specs.declared.front.Shape.TheVariants.{Space, BlockComment, DashComment, LineComment, Name, Reserved, Digits, Quoted, Sign}
use Rattle.og_lexer.specs.declared.front.Front.{Front}
use Rattle.og_lexer.specs.declared.words.TheConstants.{KEYWORDS}
use Rattle.og_lexer.specs.declared.scan.PairEnd.{PairEnd}
use Rattle.og_lexer.specs.declared.scan.PairEnd.TheVariants.{Closed, Open}
use Rattle.og_lexer.specs.Bytes.{class_of, is_word, is_digit, begins, number_of}
use Rattle.og_lexer.specs.Keywords.{keyword_text}

-- n more bytes
abbrev pub plus : ℕ → PairEnd → PairEnd
plus n (Closed m) = Closed (n + m)
plus n (Open m) = Open (n + m)

-- how many bytes there are up to the end of the first pair x y; or, where there is none, up to a line end, if those
-- count, or to the end of all
abbrev pub pair_end : ℕ → ℕ → Bool → List ℕ → PairEnd
pair_end x y in_line [] = Open 0
pair_end x y in_line (b ∷ bs) =
    if in_line && (b == 10) then Open 0
    else (if (b == x) && begins y bs then Closed 2 else plus 1 (pair_end x y in_line bs))

abbrev pub end_len : PairEnd → ℕ
end_len (Closed n) = n
end_len (Open n) = n

abbrev pub later : ℕ → Option ℕ → Option ℕ
later n found = option_map (λ m. n + m) found

-- how many bytes there are up to the end of a text, inside it or just behind an apostrophe that may end it
abbrev pub quote_end : Bool → List ℕ → Option ℕ
quote_end true [] = None
quote_end false [] = Some 0
quote_end true (b ∷ bs) = later 1 (quote_end (not (b == 39)) bs)
quote_end false (b ∷ bs) = if b == 39 then later 1 (quote_end true bs) else Some 0

-- the first of the keywords, which are spelt so, that is spelt like the word
abbrev pub keyword_in : {K : Type 0} → (K → List ℕ) → List K → List ℕ → Option K
keyword_in spelling [] word = None
keyword_in spelling (k ∷ ks) word = if bytes_eq word (spelling k) then Some k else keyword_in spelling ks word

-- the form of a word
abbrev pub word_shape : Option Keyword → Shape
word_shape None = Name
word_shape (Some k) = Reserved k

abbrev pub found : Shape → ℕ → Result Front Rule
found shape len = Ok (record { shape = shape; len = len })

-- a word that begins with these many bytes
abbrev pub word_found : ℕ → List ℕ → Result Front Rule
word_found len bytes = if nat_lt 64 len then Err L3 else found (word_shape (keyword_in keyword_text KEYWORDS (map to_ascii_uppercase (take len bytes)))) len

abbrev pub number_found : ℕ → List ℕ → Result Front Rule
number_found len bytes = if nat_lt (2 ^ 63) (number_of (take len bytes)) then Err L4 else found Digits len

abbrev pub text_found : Option ℕ → Result Front Rule
text_found None = Err L2
text_found (Some n) = found Quoted (1 + n)

abbrev pub block_found : PairEnd → Result Front Rule
block_found (Closed n) = found BlockComment (2 + n)
block_found (Open n) = Err L2

abbrev pub dash_found : PairEnd → Result Front Rule
dash_found (Closed n) = found DashComment (2 + n)
dash_found (Open n) = found LineComment (2 + n)

-- a sign with the byte behind it, and the bytes behind that
abbrev pub pair_found : Mark → ℕ → List ℕ → Result Front Rule
pair_found Colon c bs = if c == 61 then found (Sign Assign) 2 else found (Sign Colon) 1
pair_found Less c bs = if c == 61 then found (Sign LessOrEqual) 2 else found (Sign Less) 1
pair_found Greater c bs = if c == 61 then found (Sign GreaterOrEqual) 2 else found (Sign Greater) 1
pair_found Solidus c bs = if c == 61 then found (Sign NotEqual) 2 else (if c == 42 then block_found (pair_end 42 47 false bs) else found (Sign Solidus) 1)
pair_found Minus c bs = if c == 45 then dash_found (pair_end 45 45 true bs) else found (Sign Minus) 1
pair_found m c bs = found (Sign m) 1

abbrev pub sign_found : Mark → List ℕ → Result Front Rule
sign_found m [] = found (Sign m) 1
sign_found m (c ∷ bs) = pair_found m c bs

-- what stands in front of b ∷ bs, by the class of b
abbrev pub class_found : Class → ℕ → List ℕ → Result Front Rule
class_found class.White b bs = found Space 1
class_found class.Letter b bs = word_found (1 + prefix_len is_word bs) (b ∷ bs)
class_found class.Digit b bs = number_found (1 + prefix_len is_digit bs) (b ∷ bs)
class_found class.Underline b bs = Err L1
class_found class.Quote b bs = text_found (quote_end true bs)
class_found (class.Sign m) b bs = sign_found m bs
class_found class.Foreign b bs = Err L1

-- the piece in front of a text, or the rule that is violated at its first byte; in front of nothing there is no piece
unfoldable pub front_of : List ℕ → Result Front Rule
front_of [] = Err L1
front_of (b ∷ bs) = class_found (class_of b) b bs
