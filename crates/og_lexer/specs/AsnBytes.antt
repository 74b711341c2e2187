-- What a byte can begin in ASN.1, after X.680 clause 12 (ASN.1 lexical items), with ASCII alone. White space, letters and digits
-- are those of SDL/PR; an apostrophe or a quotation mark begins a text, and any other byte from 33 to 126 is a mark or begins a
-- longer one or a comment. A hyphen goes on with a name where a letter or a digit stands behind it.
use Rattle.std.specs.Prelude.{ℕ, Bool, true, false, ◌&&◌, ◌||◌, List, [], ◌∷◌, if◌then◌else◌, ◌==◌}
use Rattle.og_lexer.specs.declared.AsnMark.{AsnMark}
use Rattle.og_lexer.specs.declared.AsnMark.TheVariants as mark
use Rattle.og_lexer.specs.declared.words.Class.{Class}
use Rattle.og_lexer.specs.declared.words.Class.TheVariants as class
use Rattle.og_lexer.specs.declared.asn_words.AsnClass.{AsnClass}
use Rattle.og_lexer.specs.declared.asn_words.AsnClass.TheVariants.{White, Letter, Digit, Apostrophe, Quotation, Sign, Foreign}
use Rattle.og_lexer.specs.Bytes.{class_of, begins}

-- the mark of one byte that the byte is, or the quotation mark, with anything else foreign
unfoldable pub asn_mark_class : ℕ → AsnClass
asn_mark_class b =
    if b == 34 then Quotation else (
    if b == 33 then Sign mark.Exclamation else (
    if b == 35 then Sign mark.NumberSign else (
    if b == 36 then Sign mark.Dollar else (
    if b == 37 then Sign mark.Percent else (
    if b == 38 then Sign mark.Ampersand else (
    if b == 40 then Sign mark.LeftParenthesis else (
    if b == 41 then Sign mark.RightParenthesis else (
    if b == 42 then Sign mark.Asterisk else (
    if b == 43 then Sign mark.Plus else (
    if b == 44 then Sign mark.Comma else (
    if b == 45 then Sign mark.Hyphen else (
    if b == 46 then Sign mark.FullStop else (
    if b == 47 then Sign mark.Solidus else (
    if b == 58 then Sign mark.Colon else (
    if b == 59 then Sign mark.Semicolon else (
    if b == 60 then Sign mark.Less else (
    if b == 61 then Sign mark.Equal else (
    if b == 62 then Sign mark.Greater else (
    if b == 63 then Sign mark.Question else (
    if b == 64 then Sign mark.At else (
    if b == 91 then Sign mark.LeftBracket else (
    if b == 92 then Sign mark.ReverseSolidus else (
    if b == 93 then Sign mark.RightBracket else (
    if b == 94 then Sign mark.Circumflex else (
    if b == 95 then Sign mark.Underline else (
    if b == 96 then Sign mark.Grave else (
    if b == 123 then Sign mark.LeftBrace else (
    if b == 124 then Sign mark.VerticalBar else (
    if b == 125 then Sign mark.RightBrace else (
    if b == 126 then Sign mark.Tilde else (
    Foreign)))))))))))))))))))))))))))))))

abbrev pub asn_class_by : Class → ℕ → AsnClass
asn_class_by class.White b = White
asn_class_by class.Letter b = Letter
asn_class_by class.Digit b = Digit
asn_class_by class.Quote b = Apostrophe
asn_class_by class.Underline b = asn_mark_class b
asn_class_by (class.Sign m) b = asn_mark_class b
asn_class_by class.Foreign b = asn_mark_class b

-- what the byte can begin
abbrev pub asn_class_of : ℕ → AsnClass
asn_class_of b = asn_class_by (class_of b) b

abbrev pub is_alphanumeric_class : Class → Bool
is_alphanumeric_class class.Letter = true
is_alphanumeric_class class.Digit = true
is_alphanumeric_class _ = false

-- a letter or a digit
abbrev pub is_alphanumeric : ℕ → Bool
is_alphanumeric b = is_alphanumeric_class (class_of b)

-- whether the list begins with a byte that passes the test
abbrev pub first_is : (ℕ → Bool) → List ℕ → Bool
first_is test [] = false
first_is test (b ∷ bs) = test b

-- whether the byte before these goes on with a name: a letter or a digit, or a hyphen with one behind it
abbrev pub joins : ℕ → List ℕ → Bool
joins b behind = is_alphanumeric b || ((b == 45) && first_is is_alphanumeric behind)

-- how the mark is written
abbrev pub asn_mark_text : AsnMark → List ℕ
asn_mark_text mark.Assign = 58 ∷ 58 ∷ 61 ∷ []
asn_mark_text mark.Range = 46 ∷ 46 ∷ []
asn_mark_text mark.Ellipsis = 46 ∷ 46 ∷ 46 ∷ []
asn_mark_text mark.Exclamation = 33 ∷ []
asn_mark_text mark.NumberSign = 35 ∷ []
asn_mark_text mark.Dollar = 36 ∷ []
asn_mark_text mark.Percent = 37 ∷ []
asn_mark_text mark.Ampersand = 38 ∷ []
asn_mark_text mark.LeftParenthesis = 40 ∷ []
asn_mark_text mark.RightParenthesis = 41 ∷ []
asn_mark_text mark.Asterisk = 42 ∷ []
asn_mark_text mark.Plus = 43 ∷ []
asn_mark_text mark.Comma = 44 ∷ []
asn_mark_text mark.Hyphen = 45 ∷ []
asn_mark_text mark.FullStop = 46 ∷ []
asn_mark_text mark.Solidus = 47 ∷ []
asn_mark_text mark.Colon = 58 ∷ []
asn_mark_text mark.Semicolon = 59 ∷ []
asn_mark_text mark.Less = 60 ∷ []
asn_mark_text mark.Equal = 61 ∷ []
asn_mark_text mark.Greater = 62 ∷ []
asn_mark_text mark.Question = 63 ∷ []
asn_mark_text mark.At = 64 ∷ []
asn_mark_text mark.LeftBracket = 91 ∷ []
asn_mark_text mark.ReverseSolidus = 92 ∷ []
asn_mark_text mark.RightBracket = 93 ∷ []
asn_mark_text mark.Circumflex = 94 ∷ []
asn_mark_text mark.Underline = 95 ∷ []
asn_mark_text mark.Grave = 96 ∷ []
asn_mark_text mark.LeftBrace = 123 ∷ []
asn_mark_text mark.VerticalBar = 124 ∷ []
asn_mark_text mark.RightBrace = 125 ∷ []
asn_mark_text mark.Tilde = 126 ∷ []

-- whether the bytes behind the mark make a longer mark of it, or a comment
abbrev pub asn_sign_goes_on : AsnMark → ℕ → List ℕ → Bool
asn_sign_goes_on mark.Colon b behind = (b == 58) && begins 61 behind
asn_sign_goes_on mark.FullStop b behind = b == 46
asn_sign_goes_on mark.Range b behind = b == 46
asn_sign_goes_on mark.Solidus b behind = b == 42
asn_sign_goes_on mark.Hyphen b behind = b == 45
asn_sign_goes_on _ b behind = false
