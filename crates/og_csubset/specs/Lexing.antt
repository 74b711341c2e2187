-- Taking the first token off the bytes of a text, the longest that stands there (C99 6.4).
use Rattle.std.specs.Prelude.{ℕ, ◌^◌, ⊤, Bool, cond, ◌&&◌, List, [], ◌∷◌, IsFalse, ◌==◌, if◌then◌else◌, nat_lt, codes, bytes_eq, decimal, Option, Some, None}
use Rattle.std.specs.Str.Parse.{digits_value}
use Rattle.og_csubset.specs.declared.COp.TheVariants.{Add, Sub, Mul, Div, Rem}
use Rattle.og_csubset.specs.declared.CRel.TheVariants.{Eq, Ne, Lt, Le, Gt, Ge}
use Rattle.og_csubset.specs.Tokens.{typedef_, struct_, void_, if_, goto_, switch_, case_, default_, return_, int64_t, INT64_C, open_brace, close_brace, open_square, close_square, open_round, close_round, semicolon, colon, question, dot, equals, Token, name, number, operator, relation, keyword, mark, is_letter, is_digit, is_word_byte, is_space, is_reserved}

-- the bytes before the first one that fails the test, and the others
unfoldable pub cut : (ℕ → Bool) → List ℕ → List ℕ × List ℕ
cut p [] = ([], [])
cut p (b ∷ bs) = cond (p b) (b ∷ (cut p bs).0, (cut p bs).1) ([], b ∷ bs)

abbrev pub StopsAt : (ℕ → Bool) → List ℕ → Type 0
StopsAt p [] = ⊤
StopsAt p (b ∷ bs) = IsFalse (p b)

-- the keyword that these bytes write
unfoldable pub keyword_of : List ℕ → Option Token
keyword_of w =
    if bytes_eq w (codes "typedef") then Some (keyword typedef_)
    else (if bytes_eq w (codes "struct") then Some (keyword struct_)
    else (if bytes_eq w (codes "void") then Some (keyword void_)
    else (if bytes_eq w (codes "if") then Some (keyword if_)
    else (if bytes_eq w (codes "goto") then Some (keyword goto_)
    else (if bytes_eq w (codes "switch") then Some (keyword switch_)
    else (if bytes_eq w (codes "case") then Some (keyword case_)
    else (if bytes_eq w (codes "default") then Some (keyword default_)
    else (if bytes_eq w (codes "return") then Some (keyword return_)
    else (if bytes_eq w (codes "int64_t") then Some (keyword int64_t)
    else (if bytes_eq w (codes "INT64_C") then Some (keyword INT64_C)
    else None))))))))))

-- the token of a word
unfoldable pub word_token : List ℕ → Option Token
word_token w = if is_reserved w then keyword_of w else Some (name w)

-- the token of a run of digits
unfoldable pub number_token : List ℕ → Option Token
number_token ds =
    if bytes_eq (decimal (digits_value 10 ds)) ds && nat_lt (digits_value 10 ds) (2 ^ 63) then Some (number (digits_value 10 ds)) else None

abbrev pub with_rest : Option Token → List ℕ → Option (Token × List ℕ)
with_rest None rest = None
with_rest (Some t) rest = Some (t, rest)

-- the longer token where this byte follows, and else the shorter one, of those that there are
abbrev pub longer : ℕ → Option Token → Option Token → List ℕ → Option (Token × List ℕ)
longer c long short [] = with_rest short []
longer c long short (b ∷ bs) = cond (b == c) (with_rest long bs) (with_rest short (b ∷ bs))

-- the token that begins with this byte, which is no letter and no digit
unfoldable pub sign_token : ℕ → List ℕ → Option (Token × List ℕ)
sign_token b bs =
    if b == 123 then Some (mark open_brace, bs)
    else (if b == 125 then Some (mark close_brace, bs)
    else (if b == 91 then Some (mark open_square, bs)
    else (if b == 93 then Some (mark close_square, bs)
    else (if b == 40 then Some (mark open_round, bs)
    else (if b == 41 then Some (mark close_round, bs)
    else (if b == 59 then Some (mark semicolon, bs)
    else (if b == 58 then Some (mark colon, bs)
    else (if b == 63 then Some (mark question, bs)
    else (if b == 46 then Some (mark dot, bs)
    else (if b == 42 then Some (operator Mul, bs)
    else (if b == 47 then Some (operator Div, bs)
    else (if b == 37 then Some (operator Rem, bs)
    else (if b == 43 then longer 43 None (Some (operator Add)) bs
    else (if b == 45 then longer 45 None (Some (operator Sub)) bs
    else (if b == 61 then longer 61 (Some (relation Eq)) (Some (mark equals)) bs
    else (if b == 33 then longer 61 (Some (relation Ne)) None bs
    else (if b == 60 then longer 61 (Some (relation Le)) (Some (relation Lt)) bs
    else (if b == 62 then longer 61 (Some (relation Ge)) (Some (relation Gt)) bs
    else None))))))))))))))))))

-- the token that the bytes begin with, and the rest
unfoldable pub first_token : List ℕ → Option (Token × List ℕ)
first_token [] = None
first_token (b ∷ bs) =
    if is_letter b then with_rest (word_token (cut is_word_byte (b ∷ bs)).0) (cut is_word_byte (b ∷ bs)).1
    else (if is_digit b then with_rest (number_token (cut is_digit (b ∷ bs)).0) (cut is_digit (b ∷ bs)).1
    else sign_token b bs)

-- the first token behind white space, and the rest
unfoldable pub next_token : List ℕ → Option (Token × List ℕ)
next_token bytes = first_token (cut is_space bytes).1
