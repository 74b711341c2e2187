-- The piece of SDL/PR that the reader finds in front of a text, against the definitions by cases: what it finds stands there
-- (`front_of-is`), what stands there it finds (`front_of-stands`), and what is violated there it says (`front_of-breaks`).
use Rattle.std.proofs.Common.{◌≡◌, ℕ, ◌+◌, ◌^◌, ◌<◌, ◌≤◌, Bool, true, false, ◌&&◌, ◌||◌, not, cond, List, [], ◌∷◌, ◌++◌, length, take, map, refl, sym, ap, ◌∙◌, subst, inl, inr, ◌⊎◌, arith, append_assoc, append-nil, length-append, take_at}
use Rattle.std.specs.Prelude.{if◌then◌else◌, ◌==◌, nat_lt, nat_le, Option, Some, None, Err}
use Rattle.std.specs.List.{list_all, prefix_len}
use Rattle.std.specs.Char.{to_ascii_uppercase}
use Rattle.std.proofs.lemmas.Bool.{and_parts, eqb-true, le-ltb, lt-ltb, ltb-true, ltb-false, or_from, or_parts, cond-true, cond-false, false≢true}
use Rattle.og_base.specs.declared.Rule.{Rule}
use Rattle.og_base.specs.declared.Rule.TheVariants.{L1, L2, L3, L4}
use Rattle.og_lexer.specs.declared.Keyword.{Keyword}
use Rattle.og_lexer.specs.declared.Language.TheVariants.{Sdl}
use Rattle.og_lexer.specs.declared.Mark.{Mark}
use Rattle.og_lexer.specs.declared.Mark.TheVariants.{Semicolon, Comma, Colon, Assign, LeftParenthesis, RightParenthesis, LeftBrace, RightBrace, FullStop, Exclamation, Plus, Minus, Asterisk, Solidus, Equal, NotEqual, Less, LessOrEqual, Greater, GreaterOrEqual}
use Rattle.og_lexer.specs.declared.words.Class.{Class}
use Rattle.og_lexer.specs.declared.words.Class.TheVariants as class
use Rattle.og_lexer.specs.declared.words.TheConstants.{KEYWORDS}
use Rattle.og_lexer.specs.declared.front.Shape.{Shape}
use Rattle.og_lexer.specs.declared.front.Shape.TheVariants.{Space, BlockComment, DashComment, LineComment, Name, Reserved, AsnReserved, Digits, Quoted, Quotation, Coded, Sign, AsnSign}
use Rattle.og_lexer.specs.declared.scan.PairEnd.{PairEnd}
use Rattle.og_lexer.specs.declared.scan.PairEnd.TheVariants.{Closed, Open}
use Rattle.og_lexer.specs.Bytes.{class_of, sign_class, is_word, is_digit, number_of, mark_text, sign_goes_on}
use Rattle.og_lexer.specs.Keywords.{keyword_text}
use Rattle.og_lexer.specs.Pieces.{lacks_pair, in_one_line, quotes_pair, IsWord, IsNumber, IsOf, goes_on, NotFirst, Stands, IsWithin, Breaks}
use Rattle.og_lexer.specs.Front.{pair_end, quote_end, keyword_in, word_shape, found, word_found, text_found, block_found, dash_found, sign_found, class_found, front_of}
use Rattle.og_lexer.proofs.Ends.{prefix_len-at, run_of, in_line-free, pair_end-closed, pair_end-open, PairEndIs, pair_end-is, quote_end-closed, quote_end-open, QuoteEndIs, quote_end-is}
use Rattle.og_lexer.proofs.Founds.{HasFront, FrontIs, not_first, space_is, number_is, digit_class, number_found-stands, dash_is, dash_found-closed, dash_found-open}
use Rattle.og_lexer.proofs.Reserved.{keyword_in-found, keyword-spelt, keyword-none, keyword-absent}

-- which bytes a class has, where it has one alone
abbrev pub ClassText : Class → ℕ → Type 0
ClassText class.Quote b = b ≡ 39
ClassText (class.Sign m) b = b ∷ [] ≡ mark_text m
ClassText _ b = Unit {0}

class_step : (t : Bool) (k j : Class) (b : ℕ) → (t ≡ true → ClassText k b) → ClassText j b → ClassText (cond t k j) b
class_step true k j b here there = here refl
class_step false k j b here there = there

sign_step : (n : ℕ) (m : Mark) (j : Class) (b : ℕ) → mark_text m ≡ n ∷ [] → ClassText j b → ClassText (cond (b == n) (class.Sign m) j) b
sign_step n m j b text there = class_step (b == n) (class.Sign m) j b (λ is. ap (λ c. c ∷ []) (eqb-true b n is) ∙ sym text) there

sign_class-text : (b : ℕ) → ClassText (sign_class b) b
sign_class-text b =
    sign_step 59 Semicolon _ b refl (sign_step 44 Comma _ b refl (sign_step 58 Colon _ b refl (sign_step 40 LeftParenthesis _ b refl
    (sign_step 41 RightParenthesis _ b refl (sign_step 123 LeftBrace _ b refl (sign_step 125 RightBrace _ b refl (sign_step 46 FullStop _ b refl
    (sign_step 33 Exclamation _ b refl (sign_step 43 Plus _ b refl (sign_step 45 Minus _ b refl (sign_step 42 Asterisk _ b refl
    (sign_step 47 Solidus _ b refl (sign_step 61 Equal _ b refl (sign_step 60 Less _ b refl (sign_step 62 Greater class.Foreign b refl tt)))))))))))))))

pub class_of-text : (b : ℕ) → ClassText (class_of b) b
unfolding class_of
class_of-text b =
    class_step ((b == 32) || (b == 9) || (b == 13) || (b == 10)) class.White _ b (λ _. tt)
    (class_step ((nat_le 65 b && nat_le b 90) || (nat_le 97 b && nat_le b 122)) class.Letter _ b (λ _. tt)
    (class_step (nat_le 48 b && nat_le b 57) class.Digit _ b (λ _. tt) (class_step (b == 95) class.Underline _ b (λ _. tt) (class_step (b == 39) class.Quote (sign_class b) b (eqb-true b 39) (sign_class-text b)))))

-- words
word_is_short : (text rest bytes : List ℕ) (n : ℕ) (k : Option Keyword) → bytes ≡ text ++ rest → n ≡ length text → IsWord text → NotFirst (λ b bs. is_word b) rest → length text ≤ 64 → 0 < n → keyword_in keyword_text KEYWORDS (map to_ascii_uppercase text) ≡ k → FrontIs Sdl bytes (found (word_shape k) n)
word_is_short text rest bytes n None joined long word stop short some is = record {
  text = text;
  rest = rest;
  stands = record { joined = joined; is_of = (word, keyword-none text is); follows = stop };
  within = short;
  long = long;
  some = some;
}
word_is_short text rest bytes n (Some k) joined long word stop short some is = record {
  text = text;
  rest = rest;
  stands = record { joined = joined; is_of = (word, keyword_in-found keyword_text KEYWORDS (map to_ascii_uppercase text) k is); follows = stop };
  within = short;
  long = long;
  some = some;
}

word_is_by : (t : Bool) (text rest bytes : List ℕ) (n : ℕ) → nat_lt 64 n ≡ t → bytes ≡ text ++ rest → n ≡ length text → 0 < n → IsWord text → NotFirst (λ b bs. is_word b) rest → FrontIs Sdl bytes (cond t (Err L3) (found (word_shape (keyword_in keyword_text KEYWORDS (map to_ascii_uppercase (take n bytes)))) n))
word_is_by true text rest bytes n over joined long some word stop = (text, rest, joined, word, stop, (let e = ltb-true 64 n over in omega arith))
word_is_by false text rest bytes n over joined long some word stop =
    word_is_short text rest bytes n _ joined long word stop (let e = ltb-false 64 n over in omega arith) some
    (ap (λ l. keyword_in keyword_text KEYWORDS (map to_ascii_uppercase l)) (sym (ap (take n) joined ∙ take_at text rest n (sym long))))

word_is : (text rest bytes : List ℕ) (n : ℕ) → bytes ≡ text ++ rest → n ≡ length text → 0 < n → IsWord text → NotFirst (λ b bs. is_word b) rest → FrontIs Sdl bytes (word_found n bytes)
word_is text rest bytes n = word_is_by (nat_lt 64 n) text rest bytes n refl

-- texts
text_is : (b : ℕ) (bs : List ℕ) (end : Option ℕ) → b ≡ 39 → QuoteEndIs bs end → FrontIs Sdl (b ∷ bs) (text_found end)
text_is b bs None is h = inr (bs, ap (λ c. c ∷ bs) is, h)
text_is b bs (Some n) is h = record {
  text = 39 ∷ (h.inside ++ 39 ∷ []);
  rest = h.rest;
  stands = record {
    joined = ap (λ c. c ∷ bs) is ∙ ap (λ l. 39 ∷ l) (h.joined ∙ sym (append_assoc h.inside (39 ∷ []) h.rest));
    is_of = (h.inside, refl, h.pair);
    follows = h.stop;
  };
  within = tt;
  long = (let e = h.long in let l = length-append h.inside (39 ∷ []) in omega arith);
  some = omega arith;
}

-- comments
block_is : (b c : ℕ) (cs : List ℕ) (end : PairEnd) → b ≡ 47 → c ≡ 42 → PairEndIs 42 47 false cs end → FrontIs Sdl (b ∷ c ∷ cs) (block_found end)
block_is b c cs (Closed n) first second h = record {
  text = 47 ∷ 42 ∷ (h.inside ++ 42 ∷ 47 ∷ []);
  rest = h.rest;
  stands = record {
    joined = ap (λ x. x ∷ c ∷ cs) first ∙ ap (λ x. 47 ∷ x ∷ cs) second ∙ ap (λ l. 47 ∷ 42 ∷ l) (h.joined ∙ sym (append_assoc h.inside (42 ∷ 47 ∷ []) h.rest));
    is_of = (h.inside, refl, h.lacks);
    follows = not_first (goes_on BlockComment Sdl) (λ _ _. refl) h.rest;
  };
  within = tt;
  long = (let e = h.long in let l = length-append h.inside (42 ∷ 47 ∷ []) in omega arith);
  some = omega arith;
}
block_is b c cs (Open n) first second h =
    inl (cs, ap (λ x. x ∷ c ∷ cs) first ∙ ap (λ x. 47 ∷ x ∷ cs) second, ap (lacks_pair 42 47) (h.joined ∙ ap (λ l. h.inside ++ l) (nothing h.rest h.stop) ∙ append-nil h.inside) ∙ h.lacks)
  where
    nothing : (rest : List ℕ) → NotFirst (λ x bs. not (false && (x == 10))) rest → rest ≡ []
    nothing [] stop = refl
    nothing (x ∷ rest) stop = absurd (false≢true (sym stop))

-- signs
plain_is : (m : Mark) (b : ℕ) (bs : List ℕ) → b ∷ [] ≡ mark_text m → NotFirst (λ b bs. sign_goes_on m b) bs → HasFront Sdl (record { shape = Sign m; len = 1 }) (b ∷ bs)
plain_is m b bs text stop = record {
  text = b ∷ [];
  rest = bs;
  stands = record { joined = refl; is_of = text; follows = stop };
  within = tt;
  long = refl;
  some = omega arith;
}

longer_is : (m : Mark) (b c x y : ℕ) (cs : List ℕ) → mark_text m ≡ x ∷ y ∷ [] → b ∷ [] ≡ x ∷ [] → (c == y) ≡ true → ((d : ℕ) → sign_goes_on m d ≡ false) → HasFront Sdl (record { shape = Sign m; len = 2 }) (b ∷ c ∷ cs)
longer_is m b c x y cs text first second never = record {
  text = b ∷ c ∷ [];
  rest = cs;
  stands = record { joined = refl; is_of = ap (λ l. l ++ c ∷ []) first ∙ ap (λ d. x ∷ d ∷ []) (eqb-true c y second) ∙ sym text; follows = not_first (λ b bs. sign_goes_on m b) (λ b bs. never b) cs };
  within = tt;
  long = refl;
  some = omega arith;
}

same_first : (b x : ℕ) → b ∷ [] ≡ x ∷ [] → b ≡ x
same_first b x same = cc

colon_is : (t : Bool) (b c : ℕ) (cs : List ℕ) → (c == 61) ≡ t → b ∷ [] ≡ 58 ∷ [] → FrontIs Sdl (b ∷ c ∷ cs) (cond t (found (Sign Assign) 2) (found (Sign Colon) 1))
colon_is true b c cs is first = longer_is Assign b c 58 61 cs refl first is (λ _. refl)
colon_is false b c cs is first = plain_is Colon b (c ∷ cs) first is

less_is : (t : Bool) (b c : ℕ) (cs : List ℕ) → (c == 61) ≡ t → b ∷ [] ≡ 60 ∷ [] → FrontIs Sdl (b ∷ c ∷ cs) (cond t (found (Sign LessOrEqual) 2) (found (Sign Less) 1))
less_is true b c cs is first = longer_is LessOrEqual b c 60 61 cs refl first is (λ _. refl)
less_is false b c cs is first = plain_is Less b (c ∷ cs) first is

greater_is : (t : Bool) (b c : ℕ) (cs : List ℕ) → (c == 61) ≡ t → b ∷ [] ≡ 62 ∷ [] → FrontIs Sdl (b ∷ c ∷ cs) (cond t (found (Sign GreaterOrEqual) 2) (found (Sign Greater) 1))
greater_is true b c cs is first = longer_is GreaterOrEqual b c 62 61 cs refl first is (λ _. refl)
greater_is false b c cs is first = plain_is Greater b (c ∷ cs) first is

solidus_is : (s t : Bool) (b c : ℕ) (cs : List ℕ) → (c == 61) ≡ s → (c == 42) ≡ t → b ∷ [] ≡ 47 ∷ [] → FrontIs Sdl (b ∷ c ∷ cs) (cond s (found (Sign NotEqual) 2) (cond t (block_found (pair_end 42 47 false cs)) (found (Sign Solidus) 1)))
solidus_is true t b c cs equal star first = longer_is NotEqual b c 47 61 cs refl first equal (λ _. refl)
solidus_is false true b c cs equal star first = block_is b c cs (pair_end 42 47 false cs) (same_first b 47 first) (eqb-true c 42 star) (pair_end-is 42 47 false cs)
solidus_is false false b c cs equal star first = plain_is Solidus b (c ∷ cs) first (or_from (c == 61) (c == 42) equal star)

minus_is : (t : Bool) (b c : ℕ) (cs : List ℕ) → (c == 45) ≡ t → b ∷ [] ≡ 45 ∷ [] → FrontIs Sdl (b ∷ c ∷ cs) (cond t (dash_found (pair_end 45 45 true cs)) (found (Sign Minus) 1))
minus_is true b c cs is first = dash_is Sdl b c cs (pair_end 45 45 true cs) (same_first b 45 first) (eqb-true c 45 is) (pair_end-is 45 45 true cs)
minus_is false b c cs is first = plain_is Minus b (c ∷ cs) first is

sign_is : (m : Mark) (b : ℕ) (bs : List ℕ) → b ∷ [] ≡ mark_text m → FrontIs Sdl (b ∷ bs) (sign_found m bs)
sign_is m b [] first = plain_is m b [] first tt
sign_is Colon b (c ∷ cs) first = colon_is (c == 61) b c cs refl first
sign_is Less b (c ∷ cs) first = less_is (c == 61) b c cs refl first
sign_is Greater b (c ∷ cs) first = greater_is (c == 61) b c cs refl first
sign_is Solidus b (c ∷ cs) first = solidus_is (c == 61) (c == 42) b c cs refl refl first
sign_is Minus b (c ∷ cs) first = minus_is (c == 45) b c cs refl first
sign_is m b (c ∷ cs) first = plain_is m b (c ∷ cs) first refl

-- what stands in front, by the class of the first byte
class_is : (k : Class) (b : ℕ) (bs : List ℕ) → class_of b ≡ k → ClassText k b → FrontIs Sdl (b ∷ bs) (class_found k b bs)
class_is class.White b bs is text = space_is Sdl b bs is
class_is class.Letter b bs is text =
    let r = run_of is_word bs in
    word_is (b ∷ r.run) r.rest (b ∷ bs) (1 + prefix_len is_word bs) (ap (λ l. b ∷ l) r.joined) (let e = r.long in omega arith) (omega arith) (is, r.all) r.stop
class_is class.Digit b bs is text = number_is Sdl b bs is
class_is class.Underline b bs is text = (b, bs, refl, inr is)
class_is class.Quote b bs is text = text_is b bs (quote_end true bs) text (quote_end-is bs)
class_is (class.Sign m) b bs is text = sign_is m b bs text
class_is class.Foreign b bs is text = (b, bs, refl, inl is)

-- what the reader finds stands in front, and what it says is violated there is
pub front_of-is : (b : ℕ) (bs : List ℕ) → FrontIs Sdl (b ∷ bs) (front_of (b ∷ bs))
unfolding front_of
front_of-is b bs = class_is (class_of b) b bs refl (class_of-text b)

-- what stands in front is found
front_of-class : (k : Class) (b : ℕ) (bs : List ℕ) → class_of b ≡ k → front_of (b ∷ bs) ≡ class_found k b bs
unfolding front_of
front_of-class k b bs is = ap (λ j. class_found j b bs) is

front_of-word : (text rest : List ℕ) (k : Option Keyword) → IsWord text → NotFirst (λ b bs. is_word b) rest → length text ≤ 64 → keyword_in keyword_text KEYWORDS (map to_ascii_uppercase text) ≡ k → front_of (text ++ rest) ≡ found (word_shape k) (length text)
front_of-word [] rest k word stop short is = absurd word
front_of-word (b ∷ bs) rest k word stop short is =
    let text = b ∷ bs in
    let whole = b ∷ (bs ++ rest) in
    front_of-class class.Letter b (bs ++ rest) word.0
    ∙ ap (λ n. word_found n whole) (word_long b bs rest word.1 stop)
    ∙ cond-false (nat_lt 64 (length text)) (Err L3) (found (word_shape (keyword_in keyword_text KEYWORDS (map to_ascii_uppercase (take (length text) whole)))) (length text)) (le-ltb 64 (length text) short)
    ∙ ap (λ l. found (word_shape (keyword_in keyword_text KEYWORDS (map to_ascii_uppercase l))) (length text)) (take_at text rest (length text) refl)
    ∙ ap (λ j. found (word_shape j) (length text)) is
  where
    word_long : (b : ℕ) (bs rest : List ℕ) → list_all is_word bs ≡ true → NotFirst (λ b bs. is_word b) rest → 1 + prefix_len is_word (bs ++ rest) ≡ length (b ∷ bs)
    word_long b bs rest all stop = let e = prefix_len-at is_word bs rest all stop in omega arith

front_of-long_word : (text rest : List ℕ) → IsWord text → NotFirst (λ b bs. is_word b) rest → 64 < length text → front_of (text ++ rest) ≡ Err L3
front_of-long_word [] rest word stop over = absurd word
front_of-long_word (b ∷ bs) rest word stop over =
    let whole = b ∷ (bs ++ rest) in
    let n = 1 + prefix_len is_word (bs ++ rest) in
    front_of-class class.Letter b (bs ++ rest) word.0
    ∙ cond-true (nat_lt 64 n) (Err L3) (found (word_shape (keyword_in keyword_text KEYWORDS (map to_ascii_uppercase (take n whole)))) n)
    (lt-ltb 64 n (let e = prefix_len-at is_word bs rest word.1 stop in omega arith))

front_of-digits : (text rest : List ℕ) → IsNumber text → NotFirst (λ b bs. is_digit b) rest → front_of (text ++ rest) ≡ (if nat_lt (2 ^ 63) (number_of text) then Err L4 else found Digits (length text))
front_of-digits [] rest number stop = absurd number
front_of-digits (b ∷ bs) rest number stop =
    let parts = and_parts (is_digit b) (list_all is_digit bs) number in
    front_of-class class.Digit b (bs ++ rest) (digit_class (class_of b) parts.0) ∙ number_found-stands b bs rest parts.1 stop

front_of-text : (inside rest : List ℕ) → quotes_pair inside ≡ true → NotFirst (λ b bs. b == 39) rest → front_of ((39 ∷ (inside ++ 39 ∷ [])) ++ rest) ≡ found Quoted (length (39 ∷ (inside ++ 39 ∷ [])))
unfolding class_of
front_of-text inside rest pair stop =
    front_of-class class.Quote 39 ((inside ++ 39 ∷ []) ++ rest) refl
    ∙ ap (λ l. text_found (quote_end true l)) (append_assoc inside (39 ∷ []) rest)
    ∙ ap text_found (quote_end-closed inside rest pair stop)
    ∙ ap (found Quoted) (let l = length-append inside (39 ∷ []) in omega arith)

front_of-open_text : (inside : List ℕ) → quotes_pair inside ≡ true → front_of (39 ∷ inside) ≡ Err L2
unfolding class_of
front_of-open_text inside pair = front_of-class class.Quote 39 inside refl ∙ ap text_found (quote_end-open inside pair)

front_of-block : (inside rest : List ℕ) → lacks_pair 42 47 (inside ++ 42 ∷ []) ≡ true → front_of ((47 ∷ 42 ∷ (inside ++ 42 ∷ 47 ∷ [])) ++ rest) ≡ found BlockComment (length (47 ∷ 42 ∷ (inside ++ 42 ∷ 47 ∷ [])))
unfolding class_of
front_of-block inside rest lacks =
    front_of-class (class.Sign Solidus) 47 (42 ∷ ((inside ++ 42 ∷ 47 ∷ []) ++ rest)) refl
    ∙ ap (λ l. block_found (pair_end 42 47 false l)) (append_assoc inside (42 ∷ 47 ∷ []) rest)
    ∙ ap block_found (pair_end-closed 42 47 false inside rest refl lacks (in_line-free inside))
    ∙ ap (found BlockComment) (let l = length-append inside (42 ∷ 47 ∷ []) in omega arith)

front_of-open_block : (inside : List ℕ) → lacks_pair 42 47 inside ≡ true → front_of (47 ∷ 42 ∷ inside) ≡ Err L2
unfolding class_of
front_of-open_block inside lacks =
    front_of-class (class.Sign Solidus) 47 (42 ∷ inside) refl
    ∙ ap (λ l. block_found (pair_end 42 47 false l)) (sym (append-nil inside))
    ∙ ap block_found (pair_end-open 42 47 false inside [] refl refl lacks (in_line-free inside))

front_of-dash : (inside rest : List ℕ) → lacks_pair 45 45 (inside ++ 45 ∷ []) ≡ true → in_one_line inside ≡ true → front_of ((45 ∷ 45 ∷ (inside ++ 45 ∷ 45 ∷ [])) ++ rest) ≡ found DashComment (length (45 ∷ 45 ∷ (inside ++ 45 ∷ 45 ∷ [])))
unfolding class_of
front_of-dash inside rest lacks line =
    front_of-class (class.Sign Minus) 45 (45 ∷ ((inside ++ 45 ∷ 45 ∷ []) ++ rest)) refl ∙ dash_found-closed inside rest lacks line

front_of-line : (inside rest : List ℕ) → lacks_pair 45 45 inside ≡ true → in_one_line inside ≡ true → NotFirst (λ b bs. not (b == 10)) rest → front_of ((45 ∷ 45 ∷ inside) ++ rest) ≡ found LineComment (length (45 ∷ 45 ∷ inside))
unfolding class_of
front_of-line inside rest lacks line stop =
    front_of-class (class.Sign Minus) 45 (45 ∷ (inside ++ rest)) refl ∙ dash_found-open inside rest lacks line stop

front_of-sign : (m : Mark) (rest : List ℕ) → NotFirst (λ b bs. sign_goes_on m b) rest → front_of (mark_text m ++ rest) ≡ found (Sign m) (length (mark_text m))
unfolding front_of class_of
front_of-sign Assign rest stop = refl
front_of-sign NotEqual rest stop = refl
front_of-sign LessOrEqual rest stop = refl
front_of-sign GreaterOrEqual rest stop = refl
front_of-sign Colon [] stop = refl
front_of-sign Colon (c ∷ cs) stop = cond-false (c == 61) (found (Sign Assign) 2) (found (Sign Colon) 1) stop
front_of-sign Less [] stop = refl
front_of-sign Less (c ∷ cs) stop = cond-false (c == 61) (found (Sign LessOrEqual) 2) (found (Sign Less) 1) stop
front_of-sign Greater [] stop = refl
front_of-sign Greater (c ∷ cs) stop = cond-false (c == 61) (found (Sign GreaterOrEqual) 2) (found (Sign Greater) 1) stop
front_of-sign Minus [] stop = refl
front_of-sign Minus (c ∷ cs) stop = cond-false (c == 45) (dash_found (pair_end 45 45 true cs)) (found (Sign Minus) 1) stop
front_of-sign Solidus [] stop = refl
front_of-sign Solidus (c ∷ cs) stop =
    let parts = or_parts (c == 61) (c == 42) stop in
    cond-false (c == 61) (found (Sign NotEqual) 2) (cond (c == 42) (block_found (pair_end 42 47 false cs)) (found (Sign Solidus) 1)) parts.0
    ∙ cond-false (c == 42) (block_found (pair_end 42 47 false cs)) (found (Sign Solidus) 1) parts.1
front_of-sign m [] stop = refl
front_of-sign m (c ∷ cs) stop = refl

finds : (shape : Shape) (text rest : List ℕ) → IsOf shape Sdl text → NotFirst (goes_on shape Sdl) rest → IsWithin shape text → front_of (text ++ rest) ≡ found shape (length text)
finds Space text rest is stop within =
    subst (λ (t : List ℕ). front_of (t ++ rest) ≡ found Space (length t)) (sym is.1) (front_of-class class.White is.0 rest is.2)
finds BlockComment text rest is stop within =
    subst (λ (t : List ℕ). front_of (t ++ rest) ≡ found BlockComment (length t)) (sym is.1) (front_of-block is.0 rest is.2)
finds DashComment text rest is stop within =
    subst (λ (t : List ℕ). front_of (t ++ rest) ≡ found DashComment (length t)) (sym is.1) (front_of-dash is.0 rest is.2 is.3)
finds LineComment text rest is stop within =
    subst (λ (t : List ℕ). front_of (t ++ rest) ≡ found LineComment (length t)) (sym is.1) (front_of-line is.0 rest is.2 is.3 stop)
finds Name text rest is stop within = front_of-word text rest None is.0 stop within (keyword-absent text is.1)
finds (Reserved k) text rest is stop within = front_of-word text rest (Some k) is.0 stop within (keyword-spelt k text is.1)
finds Digits text rest is stop within =
    front_of-digits text rest is stop ∙ cond-false (nat_lt (2 ^ 63) (number_of text)) (Err L4) (found Digits (length text)) (le-ltb (2 ^ 63) (number_of text) within)
finds Quoted text rest is stop within =
    subst (λ (t : List ℕ). front_of (t ++ rest) ≡ found Quoted (length t)) (sym is.1) (front_of-text is.0 rest is.2 stop)
finds (AsnReserved k) text rest is stop within = absurd is
finds Quotation text rest is stop within = absurd is
finds Coded text rest is stop within = absurd is
finds (AsnSign m) text rest is stop within = absurd is
finds (Sign m) text rest is stop within =
    subst (λ (t : List ℕ). front_of (t ++ rest) ≡ found (Sign m) (length t)) (sym is) (front_of-sign m rest stop)

-- a piece that stands in front is found
pub front_of-stands : (shape : Shape) (text bytes rest : List ℕ) → Stands Sdl shape text bytes rest → IsWithin shape text → front_of bytes ≡ found shape (length text)
front_of-stands shape text bytes rest stands within = ap front_of stands.joined ∙ finds shape text rest stands.is_of stands.follows within

-- a violation in front is found
pub front_of-breaks : (r : Rule) (bytes : List ℕ) → Breaks r Sdl bytes → front_of bytes ≡ Err r
front_of-breaks L1 bytes h = ap front_of h.2 ∙ foreign h.0 h.1 h.3
  where
    foreign : (b : ℕ) (more : List ℕ) → (class_of b ≡ class.Foreign) ⊎ (class_of b ≡ class.Underline) → front_of (b ∷ more) ≡ Err L1
    foreign b more (inl is) = front_of-class class.Foreign b more is
    foreign b more (inr is) = front_of-class class.Underline b more is
front_of-breaks L2 bytes (inl h) = ap front_of h.1 ∙ front_of-open_block h.0 h.2
front_of-breaks L2 bytes (inr h) = ap front_of h.1 ∙ front_of-open_text h.0 h.2
front_of-breaks L3 bytes h = ap front_of h.2 ∙ front_of-long_word h.0 h.1 h.3 h.4 h.5
front_of-breaks L4 bytes h =
    ap front_of h.2.joined ∙ front_of-digits h.0 h.1 h.2.is_of h.2.follows
    ∙ cond-true (nat_lt (2 ^ 63) (number_of h.0)) (Err L4) (found Digits (length h.0)) (lt-ltb (2 ^ 63) (number_of h.0) h.3)
front_of-breaks r bytes h = absurd h
