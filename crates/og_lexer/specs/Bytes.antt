-- What a byte can begin in SDL/PR, after Z.101 clause 6.1 (lexical rules), with ASCII alone: a letter begins a name, a
-- digit a number, an apostrophe a text, and a sign a mark or a comment. White space stands between tokens. An underline
-- goes on with a name and begins nothing, and any other byte is foreign outside texts and comments.
use Rattle.std.specs.Prelude.{ℕ, ◌+◌, ◌*◌, ◌-◌, Bool, true, false, ◌&&◌, ◌||◌, List, [], ◌∷◌, if◌then◌else◌, nat_le, ◌==◌}
use Rattle.og_lexer.specs.declared.Mark.{Mark}
use Rattle.og_lexer.specs.declared.Mark.TheVariants.{Semicolon, Comma, Colon, Assign, LeftParenthesis, RightParenthesis, LeftBrace, RightBrace, FullStop, Exclamation, Plus, Minus, Asterisk, Solidus, Equal, NotEqual, Less, LessOrEqual, Greater, GreaterOrEqual}
use Rattle.og_lexer.specs.declared.words.Class.{Class}
use Rattle.og_lexer.specs.declared.words.Class.TheVariants.{White, Letter, Digit, Underline, Quote, Sign, Foreign}

-- the mark of one byte that the byte is, with anything else foreign
abbrev pub sign_class : ℕ → Class
sign_class b =
    if b == 59 then Sign Semicolon else (
    if b == 44 then Sign Comma else (
    if b == 58 then Sign Colon else (
    if b == 40 then Sign LeftParenthesis else (
    if b == 41 then Sign RightParenthesis else (
    if b == 123 then Sign LeftBrace else (
    if b == 125 then Sign RightBrace else (
    if b == 46 then Sign FullStop else (
    if b == 33 then Sign Exclamation else (
    if b == 43 then Sign Plus else (
    if b == 45 then Sign Minus else (
    if b == 42 then Sign Asterisk else (
    if b == 47 then Sign Solidus else (
    if b == 61 then Sign Equal else (
    if b == 60 then Sign Less else (
    if b == 62 then Sign Greater else (
    Foreign))))))))))))))))

-- what the byte can begin
unfoldable pub class_of : ℕ → Class
class_of b =
    if (b == 32) || (b == 9) || (b == 13) || (b == 10) then White
    else (if (nat_le 65 b && nat_le b 90) || (nat_le 97 b && nat_le b 122) then Letter
    else (if nat_le 48 b && nat_le b 57 then Digit
    else (if b == 95 then Underline
    else (if b == 39 then Quote
    else sign_class b))))

abbrev pub is_word_class : Class → Bool
is_word_class Letter = true
is_word_class Digit = true
is_word_class Underline = true
is_word_class _ = false

abbrev pub is_digit_class : Class → Bool
is_digit_class Digit = true
is_digit_class _ = false

-- a letter, a digit or an underline, of which a name consists behind its first letter
abbrev pub is_word : ℕ → Bool
is_word b = is_word_class (class_of b)

abbrev pub is_digit : ℕ → Bool
is_digit b = is_digit_class (class_of b)

-- whether the list begins with the byte
abbrev pub begins : ℕ → List ℕ → Bool
begins x [] = false
begins x (b ∷ bs) = b == x

-- the number of decimal digits that stand behind the digits of n
abbrev pub number_from : ℕ → List ℕ → ℕ
number_from n [] = n
number_from n (b ∷ bs) = number_from (10 * n + (b - 48)) bs

-- the number of decimal digits
abbrev pub number_of : List ℕ → ℕ
number_of digits = number_from 0 digits

-- how the mark is written
abbrev pub mark_text : Mark → List ℕ
mark_text Semicolon = 59 ∷ []
mark_text Comma = 44 ∷ []
mark_text Colon = 58 ∷ []
mark_text LeftParenthesis = 40 ∷ []
mark_text RightParenthesis = 41 ∷ []
mark_text LeftBrace = 123 ∷ []
mark_text RightBrace = 125 ∷ []
mark_text FullStop = 46 ∷ []
mark_text Exclamation = 33 ∷ []
mark_text Plus = 43 ∷ []
mark_text Minus = 45 ∷ []
mark_text Asterisk = 42 ∷ []
mark_text Solidus = 47 ∷ []
mark_text Equal = 61 ∷ []
mark_text Less = 60 ∷ []
mark_text Greater = 62 ∷ []
mark_text Assign = 58 ∷ 61 ∷ []
mark_text NotEqual = 47 ∷ 61 ∷ []
mark_text LessOrEqual = 60 ∷ 61 ∷ []
mark_text GreaterOrEqual = 62 ∷ 61 ∷ []

-- whether the byte behind the mark makes a longer mark of it, or a comment
abbrev pub sign_goes_on : Mark → ℕ → Bool
sign_goes_on Colon b = b == 61
sign_goes_on Less b = b == 61
sign_goes_on Greater b = b == 61
sign_goes_on Solidus b = (b == 61) || (b == 42)
sign_goes_on Minus b = b == 45
sign_goes_on _ b = false
