-- A text cuts into tokens in one way: a function that takes the first token off the bytes finds each token that stands there.
use Rattle.std.proofs.Common.{◌≡◌, ℕ, ◌^◌, ◌<◌, Bool, true, false, cond, ◌&&◌, ◌||◌, not, List, [], ◌∷◌, ◌++◌, length, IsFalse, ◌==◌, if◌then◌else◌, nat_le, nat_lt, codes, bytes_eq, decimal, Option, Some, None, refl, sym, ap, ◌∙◌, subst, arith, append-nil, ap₂, unwrap_or}
use Rattle.std.specs.Prelude.{⊤}
use Rattle.std.specs.List.{list_all}
use Rattle.std.specs.Int.{IsInRange}
use Rattle.std.specs.Str.Parse.{digits_value}
use Rattle.std.proofs.lemmas.Bool.{and_parts, and_from, true≢false, not-true, leb-true, le-leb, or_left, lt-ltb}
use Rattle.std.proofs.lemmas.Bool.Decides.{nat_tests}
use Rattle.std.proofs.lemmas.Str.Parse.{IsDigitsTest, IsNumeralModel, numerals_by_value}
use Rattle.std.proofs.lemmas.Fmt.{digits_decimal, digits_value-decimal, decimal_nonempty}
use Rattle.std.proofs.lemmas.List.{append_cancel_left}
use Rattle.std.proofs.lemmas.Slice.Eq.{bytes_eq-Decides}
use Rattle.og_csubset.specs.declared.COp.{COp}
use Rattle.og_csubset.specs.declared.COp.TheVariants.{Add, Sub, Mul, Div, Rem}
use Rattle.og_csubset.specs.declared.CRel.{CRel}
use Rattle.og_csubset.specs.declared.CRel.TheVariants.{Eq, Ne, Lt, Le, Gt, Ge}
use Rattle.og_csubset.specs.Tokens.{Keyword, typedef_, struct_, void_, if_, goto_, switch_, case_, default_, return_, int64_t, INT64_C, Mark, open_brace, close_brace, open_square, close_square, open_round, close_round, semicolon, colon, question, dot, equals, Token, name, number, operator, relation, keyword, mark, spelling, is_letter, is_digit, is_word_byte, is_space, is_word, is_reserved, is_name, IsToken, joins, MayFollow, Begins, Cuts, Lexes, HasTokens, first_line}
use Rattle.og_csubset.specs.Lexing.{cut, StopsAt, keyword_of, word_token, number_token, with_rest, longer, sign_token, first_token, next_token}

cut-stop : (p : ℕ → Bool) (rest : List ℕ) → StopsAt p rest → cut p rest ≡ ([], rest)
unfolding cut
cut-stop p [] h = refl
cut-stop p (b ∷ bs) h = rw h

pub cut-append : (p : ℕ → Bool) (w rest : List ℕ) → list_all p w ≡ true → StopsAt p rest → cut p (w ++ rest) ≡ (w, rest)
unfolding cut
cut-append p [] rest all stops = cut-stop p rest stops
cut-append p (b ∷ bs) rest all stops =
    let parts = and_parts (p b) (list_all p bs) all in rw (parts.0, cut-append p bs rest parts.1 stops)

stops_from : (t : Token) (rest : List ℕ) → MayFollow t rest → StopsAt (joins t) rest
stops_from t [] h = tt
stops_from t (b ∷ bs) h = h

longer-short : (c : ℕ) (long : Option Token) (t : Token) (rest : List ℕ) → StopsAt (λ b. b == c) rest
    → longer c long (Some t) rest ≡ Some (t, rest)
longer-short c long t [] h = refl
longer-short c long t (b ∷ bs) h = rw h

word_found : (w : List ℕ) (t : Token) (rest : List ℕ) → is_word w ≡ true → word_token w ≡ Some t → StopsAt is_word_byte rest
    → first_token (w ++ rest) ≡ Some (t, rest)
unfolding first_token
word_found [] t rest is found stops = absurd (true≢false (sym is))
word_found (b ∷ bs) t rest is found stops =
    let parts = and_parts (is_letter b) (list_all is_word_byte bs) is in
    let here : is_word_byte b ≡ true = or_left (is_letter b || is_digit b) (b == 95) (or_left (is_letter b) (is_digit b) parts.0) in
    let all : list_all is_word_byte (b ∷ bs) ≡ true = and_from (is_word_byte b) (list_all is_word_byte bs) here parts.1 in
    let e = cut-append is_word_byte (b ∷ bs) rest all stops in
    rw (parts.0, e, found)

-- a word that is a name
name_token : (w : List ℕ) → is_reserved w ≡ false → word_token w ≡ Some (name w)
unfolding word_token
name_token w h = rw h

-- the digits of a number
abbrev pub all_digits : List ℕ → Type 0
all_digits ds = list_all is_digit ds ≡ true

pub digit_from : (b : ℕ) → is_digit b ≡ true → IsInRange 48 57 b
digit_from b h = let parts = and_parts (nat_le 48 b) (nat_le b 57) h in (leb-true 48 b parts.0, leb-true b 57 parts.1)

pub digit_to : (b : ℕ) → IsInRange 48 57 b → is_digit b ≡ true
digit_to b h = and_from (nat_le 48 b) (nat_le b 57) (le-leb 48 b h.0) (le-leb b 57 h.1)

tells : IsDigitsTest all_digits
tells = record {
  empty = refl;
  parts = λ c cs h. (digit_from c (and_parts (is_digit c) (list_all is_digit cs) h).0, (and_parts (is_digit c) (list_all is_digit cs) h).1);
  more = λ c cs h k. and_from (is_digit c) (list_all is_digit cs) (digit_to c h) k;
}

pub own : IsNumeralModel all_digits (digits_value 10)
own = numerals_by_value all_digits tells

is_digits : (n : ℕ) → n < 2 ^ 63 → list_all is_digit (decimal n) ≡ true
is_digits n h = digits_decimal own n (omega arith)

same_bytes : (w : List ℕ) → bytes_eq w w ≡ true
same_bytes w = (bytes_eq-Decides w w).1 refl

digits_token : (n : ℕ) → n < 2 ^ 63 → number_token (decimal n) ≡ Some (number n)
unfolding number_token
digits_token n h =
    let e : digits_value 10 (decimal n) ≡ n = digits_value-decimal own n (omega arith) in
    rw (e, same_bytes (decimal n), lt-ltb n (2 ^ 63) h)

no_letter : (b : ℕ) → is_digit b ≡ true → is_letter b ≡ false
no_letter b h = let r = digit_from b h in grind (arith, nat_tests)

digits_found : (n : ℕ) (ds : List ℕ) (rest : List ℕ) → n < 2 ^ 63 → decimal n ≡ ds → StopsAt is_digit rest
    → first_token (ds ++ rest) ≡ Some (number n, rest)
unfolding first_token
digits_found n [] rest h e stops = absurd (omega (arith, decimal_nonempty n (omega arith), ap length e))
digits_found n (b ∷ bs) rest h e stops =
    let all : list_all is_digit (b ∷ bs) ≡ true = subst (λ ds. list_all is_digit ds ≡ true) e (is_digits n h) in
    let here = (and_parts (is_digit b) (list_all is_digit bs) all).0 in
    let c = cut-append is_digit (b ∷ bs) rest all stops in
    let found : number_token (b ∷ bs) ≡ Some (number n) = subst (λ ds. number_token ds ≡ Some (number n)) e (digits_token n h) in
    rw (no_letter b here, here, c, found)

keyword_found : (k : Keyword) (rest : List ℕ) → StopsAt is_word_byte rest
    → first_token (spelling (keyword k) ++ rest) ≡ Some (keyword k, rest)
unfolding word_token keyword_of
keyword_found typedef_ rest h = word_found (codes "typedef") (keyword typedef_) rest refl refl h
keyword_found struct_ rest h = word_found (codes "struct") (keyword struct_) rest refl refl h
keyword_found void_ rest h = word_found (codes "void") (keyword void_) rest refl refl h
keyword_found if_ rest h = word_found (codes "if") (keyword if_) rest refl refl h
keyword_found goto_ rest h = word_found (codes "goto") (keyword goto_) rest refl refl h
keyword_found switch_ rest h = word_found (codes "switch") (keyword switch_) rest refl refl h
keyword_found case_ rest h = word_found (codes "case") (keyword case_) rest refl refl h
keyword_found default_ rest h = word_found (codes "default") (keyword default_) rest refl refl h
keyword_found return_ rest h = word_found (codes "return") (keyword return_) rest refl refl h
keyword_found int64_t rest h = word_found (codes "int64_t") (keyword int64_t) rest refl refl h
keyword_found INT64_C rest h = word_found (codes "INT64_C") (keyword INT64_C) rest refl refl h

mark_found : (m : Mark) (rest : List ℕ) → StopsAt (joins (mark m)) rest → first_token (spelling (mark m) ++ rest) ≡ Some (mark m, rest)
unfolding first_token sign_token
mark_found open_brace rest h = refl
mark_found close_brace rest h = refl
mark_found open_square rest h = refl
mark_found close_square rest h = refl
mark_found open_round rest h = refl
mark_found close_round rest h = refl
mark_found semicolon rest h = refl
mark_found colon rest h = refl
mark_found question rest h = refl
mark_found dot rest h = refl
mark_found equals rest h = longer-short 61 (Some (relation Eq)) (mark equals) rest h

operator_found : (op : COp) (rest : List ℕ) → StopsAt (joins (operator op)) rest
    → first_token (spelling (operator op) ++ rest) ≡ Some (operator op, rest)
unfolding first_token sign_token
operator_found Add rest h = longer-short 43 None (operator Add) rest h
operator_found Sub rest h = longer-short 45 None (operator Sub) rest h
operator_found Mul rest h = refl
operator_found Div rest h = refl
operator_found Rem rest h = refl

relation_found : (op : CRel) (rest : List ℕ) → StopsAt (joins (relation op)) rest
    → first_token (spelling (relation op) ++ rest) ≡ Some (relation op, rest)
unfolding first_token sign_token
relation_found Eq rest h = refl
relation_found Ne rest h = refl
relation_found Lt rest h = longer-short 61 (Some (relation Le)) (relation Lt) rest h
relation_found Le rest h = refl
relation_found Gt rest h = longer-short 61 (Some (relation Ge)) (relation Gt) rest h
relation_found Ge rest h = refl

name_found : (w rest : List ℕ) → is_name w ≡ true → StopsAt is_word_byte rest → first_token (w ++ rest) ≡ Some (name w, rest)
name_found w rest is stops =
    let parts = and_parts (is_word w) (not (is_reserved w)) is in
    word_found w (name w) rest parts.0 (name_token w (not-true (is_reserved w) parts.1)) stops

-- each token is found where it stands
pub token_found : (t : Token) (rest : List ℕ) → IsToken t → MayFollow t rest → first_token (spelling t ++ rest) ≡ Some (t, rest)
token_found (name w) rest is follows = name_found w rest is (stops_from (name w) rest follows)
token_found (number n) rest is follows = digits_found n (decimal n) rest is refl (stops_from (number n) rest follows)
token_found (operator op) rest is follows = operator_found op rest (stops_from (operator op) rest follows)
token_found (relation op) rest is follows = relation_found op rest (stops_from (relation op) rest follows)
token_found (keyword k) rest is follows = keyword_found k rest (stops_from (keyword k) rest follows)
token_found (mark m) rest is follows = mark_found m rest (stops_from (mark m) rest follows)

-- a token begins with no white space
no_space : List ℕ → Type 0
no_space [] = ⊥
no_space (b ∷ bs) = IsFalse (is_space b)

word_space : (b : ℕ) → is_letter b ≡ true → is_space b ≡ false
word_space b h = grind (arith, nat_tests)

name_space : (w rest : List ℕ) → is_word w ≡ true → StopsAt is_space (w ++ rest)
name_space [] rest is = absurd (true≢false (sym is))
name_space (b ∷ bs) rest is = word_space b (and_parts (is_letter b) (list_all is_word_byte bs) is).0

digit_space : (b : ℕ) → is_digit b ≡ true → is_space b ≡ false
digit_space b h = grind (arith, nat_tests)

number_space : (n : ℕ) (ds rest : List ℕ) → n < 2 ^ 63 → decimal n ≡ ds → StopsAt is_space (ds ++ rest)
number_space n [] rest h e = absurd (omega (arith, decimal_nonempty n (omega arith), ap length e))
number_space n (b ∷ bs) rest h e =
    digit_space b (and_parts (is_digit b) (list_all is_digit bs) (subst (λ ds. list_all is_digit ds ≡ true) e (is_digits n h))).0

keyword_space : (k : Keyword) (rest : List ℕ) → StopsAt is_space (spelling (keyword k) ++ rest)
keyword_space typedef_ rest = refl
keyword_space struct_ rest = refl
keyword_space void_ rest = refl
keyword_space if_ rest = refl
keyword_space goto_ rest = refl
keyword_space switch_ rest = refl
keyword_space case_ rest = refl
keyword_space default_ rest = refl
keyword_space return_ rest = refl
keyword_space int64_t rest = refl
keyword_space INT64_C rest = refl

mark_space : (m : Mark) (rest : List ℕ) → StopsAt is_space (spelling (mark m) ++ rest)
mark_space open_brace rest = refl
mark_space close_brace rest = refl
mark_space open_square rest = refl
mark_space close_square rest = refl
mark_space open_round rest = refl
mark_space close_round rest = refl
mark_space semicolon rest = refl
mark_space colon rest = refl
mark_space question rest = refl
mark_space dot rest = refl
mark_space equals rest = refl

operator_space : (op : COp) (rest : List ℕ) → StopsAt is_space (spelling (operator op) ++ rest)
operator_space Add rest = refl
operator_space Sub rest = refl
operator_space Mul rest = refl
operator_space Div rest = refl
operator_space Rem rest = refl

relation_space : (op : CRel) (rest : List ℕ) → StopsAt is_space (spelling (relation op) ++ rest)
relation_space Eq rest = refl
relation_space Ne rest = refl
relation_space Lt rest = refl
relation_space Le rest = refl
relation_space Gt rest = refl
relation_space Ge rest = refl

pub no_space_first : (t : Token) (rest : List ℕ) → IsToken t → StopsAt is_space (spelling t ++ rest)
no_space_first (name w) rest is = name_space w rest (and_parts (is_word w) (not (is_reserved w)) is).0
no_space_first (number n) rest is = number_space n (decimal n) rest is refl
no_space_first (operator op) rest is = operator_space op rest
no_space_first (relation op) rest is = relation_space op rest
no_space_first (keyword k) rest is = keyword_space k rest
no_space_first (mark m) rest is = mark_space m rest

pub next-begins : (bytes : List ℕ) (t : Token) (rest : List ℕ) → Begins bytes t rest → next_token bytes ≡ Some (t, rest)
unfolding next_token
next-begins bytes t rest h =
    let c = cut-append is_space h.space (spelling t ++ rest) h.blank (no_space_first t rest h.is_token) in
    rw (h.joined, c, token_found t rest h.is_token h.follows)

-- where only white space is left no token stands
pub next-blank : (bytes : List ℕ) → list_all is_space bytes ≡ true → next_token bytes ≡ None
unfolding next_token first_token
next-blank bytes h =
    let c : cut is_space (bytes ++ []) ≡ (bytes, []) = cut-append is_space bytes [] h tt in
    let e : cut is_space bytes ≡ (bytes, []) = rw append-nil at c in
    rw e

pub same_first : (bytes : List ℕ) (t u : Token) (rest more : List ℕ) → Begins bytes t rest → Begins bytes u more → (t ≡ u) × (rest ≡ more)
same_first bytes t u rest more h k =
    let e : Some (t, rest) ≡ Some (u, more) = sym (next-begins bytes t rest h) ∙ next-begins bytes u more k in
    let both : Option (Token × List ℕ) → Token × List ℕ = λ o. unwrap_or o (t, rest) in
    (ap (λ o. (both o).0) e, ap (λ o. (both o).1) e)

pub nothing_first : (bytes : List ℕ) (t : Token) (rest : List ℕ) → list_all is_space bytes ≡ true → Begins bytes t rest → ⊥
nothing_first bytes t rest blank h =
    let e : ◌≡◌ {A = Option (Token × List ℕ)} None (Some (t, rest)) = sym (next-blank bytes blank) ∙ next-begins bytes t rest h in cc

-- the bytes are written by one list of tokens at most
pub Lexes-unique : (ts us : List Token) (bytes : List ℕ) → Lexes ts bytes → Lexes us bytes → ts ≡ us
Lexes-unique [] [] bytes h k = refl
Lexes-unique [] (u ∷ us) bytes h k =
    absurd (nothing_first bytes u _ (subst (λ b. list_all is_space b ≡ true) (sym h.1) h.2) k.1.1)
Lexes-unique (t ∷ ts) [] bytes h k =
    absurd (nothing_first bytes t _ (subst (λ b. list_all is_space b ≡ true) (sym k.1) k.2) h.1.1)
Lexes-unique (t ∷ ts) (u ∷ us) bytes h k =
    let same = same_first bytes t u _ _ h.1.1 k.1.1 in
    let others = Lexes-unique ts us k.1.0 (h.0, subst (λ b. Cuts ts b h.0) same.1 h.1.2, h.2) (k.0, k.1.2, k.2) in
    ap₂ (λ x xs. x ∷ xs) same.0 others

-- a text has one list of tokens at most
pub HasTokens-unique : (ts us : List Token) (text : List ℕ) → HasTokens ts text → HasTokens us text → ts ≡ us
HasTokens-unique ts us text h k =
    let same : h.0 ≡ k.0 = append_cancel_left first_line h.0 k.0 (sym h.1 ∙ k.1) in
    Lexes-unique ts us k.0 (subst (λ b. Lexes ts b) same h.2) k.2
