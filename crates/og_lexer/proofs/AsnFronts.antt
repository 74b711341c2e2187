-- The piece of ASN.1 that the reader finds in front of a text, against the definitions by cases: what it finds stands there
-- (`asn_front_of-is`), what stands there it finds (`asn_front_of-stands`), and what is violated there it says (`asn_front_of-breaks`).
use Rattle.std.proofs.Common.{◌≡◌, ℕ, ◌+◌, ◌^◌, ◌<◌, ◌≤◌, Bool, true, false, ◌&&◌, not, cond, List, [], ◌∷◌, ◌++◌, length, take, drop, refl, sym, ap, ◌∙◌, subst, inl, inr, arith, append_assoc, append-nil, length-append, take_at, drop_at}
use Rattle.std.specs.Prelude.{if◌then◌else◌, ◌==◌, nat_lt, Option, Some, None, Result, Err}
use Rattle.std.specs.List.{list_all, prefix_len}
use Rattle.std.proofs.lemmas.Bool.{and_parts, eqb-true, eq-eqb, le-ltb, lt-ltb, ltb-true, ltb-false, not-false, cond-true, cond-false, false≢true}
use Rattle.og_base.specs.declared.Rule.{Rule}
use Rattle.og_base.specs.declared.Rule.TheVariants.{L1, L2, L3, L4}
use Rattle.og_lexer.specs.declared.AsnKeyword.{AsnKeyword}
use Rattle.og_lexer.specs.declared.AsnMark.{AsnMark}
use Rattle.og_lexer.specs.declared.AsnMark.TheVariants as mark
use Rattle.og_lexer.specs.declared.Language.TheVariants.{Asn}
use Rattle.og_lexer.specs.declared.asn_words.AsnClass.{AsnClass}
use Rattle.og_lexer.specs.declared.asn_words.AsnClass.TheVariants as asn
use Rattle.og_lexer.specs.declared.asn_words.TheConstants.{ASN_KEYWORDS}
use Rattle.og_lexer.specs.declared.words.Class.{Class}
use Rattle.og_lexer.specs.declared.words.Class.TheVariants as class
use Rattle.og_lexer.specs.declared.front.Shape.{Shape}
use Rattle.og_lexer.specs.declared.front.Shape.TheVariants.{Space, BlockComment, DashComment, LineComment, Name, Reserved, AsnReserved, Digits, Quoted, Quotation, Coded, Sign, AsnSign}
use Rattle.og_lexer.specs.declared.front.Front.{Front}
use Rattle.og_lexer.specs.Bytes.{class_of, is_digit, begins, number_of}
use Rattle.og_lexer.specs.AsnBytes.{asn_mark_class, asn_class_by, asn_class_of, joins, asn_mark_text, asn_sign_goes_on}
use Rattle.og_lexer.specs.AsnKeywords.{asn_keyword_text}
use Rattle.og_lexer.specs.AsnPieces.{all_join, IsHyphenated, IsNested, lacks, is_code}
use Rattle.og_lexer.specs.Pieces.{IsNumber, IsOf, goes_on, NotFirst, Stands, IsWithin, Breaks}
use Rattle.og_lexer.specs.Front.{pair_end, keyword_in, found, dash_found}
use Rattle.og_lexer.specs.AsnFront.{name_len, is_not, nested_end, asn_word_shape, asn_word_found, quotation_found, quoted_found, nested_found, asn_sign_found, asn_class_found, asn_front_of}
use Rattle.og_lexer.proofs.AsnEnds.{name_len-at, name_run, NestedEndIs, nested_end-is, nested_end-stands}
use Rattle.og_lexer.proofs.Ends.{prefix_len-at, run_of, pair_end-is}
use Rattle.og_lexer.proofs.Founds.{HasFront, FrontIs, not_first, space_is, number_is, digit_class, number_found-stands, dash_is, dash_found-closed, dash_found-open}
use Rattle.og_lexer.proofs.Fronts.{ClassText, class_of-text}
use Rattle.og_lexer.proofs.Reserved.{keyword_in-found, keyword_in-absent, asn_keyword-spelt, asn_keyword-none}

-- ---- the class of a byte

-- which bytes are of the class, among those that are no white space, letter, digit or apostrophe
abbrev MarkText : AsnClass → ℕ → Type 0
MarkText asn.White b = ⊥
MarkText asn.Letter b = ⊥
MarkText asn.Digit b = ⊥
MarkText asn.Apostrophe b = ⊥
MarkText asn.Quotation b = b ≡ 34
MarkText (asn.Sign m) b = b ∷ [] ≡ asn_mark_text m
MarkText asn.Foreign b = Unit {0}

class_step : (t : Bool) (k j : AsnClass) (b : ℕ) → (t ≡ true → MarkText k b) → MarkText j b → MarkText (cond t k j) b
class_step true k j b here there = here refl
class_step false k j b here there = there

sign_step : (n : ℕ) (m : AsnMark) (j : AsnClass) (b : ℕ) → asn_mark_text m ≡ n ∷ [] → MarkText j b → MarkText (cond (b == n) (asn.Sign m) j) b
sign_step n m j b text there = class_step (b == n) (asn.Sign m) j b (λ is. ap (λ c. c ∷ []) (eqb-true b n is) ∙ sym text) there

asn_mark_class-text : (b : ℕ) → MarkText (asn_mark_class b) b
unfolding asn_mark_class
asn_mark_class-text b =
    class_step (b == 34) asn.Quotation _ b (eqb-true b 34)
    (sign_step 33 mark.Exclamation _ b refl (sign_step 35 mark.NumberSign _ b refl (sign_step 36 mark.Dollar _ b refl (sign_step 37 mark.Percent _ b refl
    (sign_step 38 mark.Ampersand _ b refl (sign_step 40 mark.LeftParenthesis _ b refl (sign_step 41 mark.RightParenthesis _ b refl (sign_step 42 mark.Asterisk _ b refl
    (sign_step 43 mark.Plus _ b refl (sign_step 44 mark.Comma _ b refl (sign_step 45 mark.Hyphen _ b refl (sign_step 46 mark.FullStop _ b refl
    (sign_step 47 mark.Solidus _ b refl (sign_step 58 mark.Colon _ b refl (sign_step 59 mark.Semicolon _ b refl (sign_step 60 mark.Less _ b refl
    (sign_step 61 mark.Equal _ b refl (sign_step 62 mark.Greater _ b refl (sign_step 63 mark.Question _ b refl (sign_step 64 mark.At _ b refl
    (sign_step 91 mark.LeftBracket _ b refl (sign_step 92 mark.ReverseSolidus _ b refl (sign_step 93 mark.RightBracket _ b refl (sign_step 94 mark.Circumflex _ b refl
    (sign_step 95 mark.Underline _ b refl (sign_step 96 mark.Grave _ b refl (sign_step 123 mark.LeftBrace _ b refl (sign_step 124 mark.VerticalBar _ b refl
    (sign_step 125 mark.RightBrace _ b refl (sign_step 126 mark.Tilde asn.Foreign b refl tt))))))))))))))))))))))))))))))

-- ---- what the reader finds

-- names and keywords
word_is_short : (text rest bytes : List ℕ) (n : ℕ) (k : Option AsnKeyword) → bytes ≡ text ++ rest → n ≡ length text → IsHyphenated text → NotFirst joins rest → length text ≤ 64 → 0 < n → keyword_in asn_keyword_text ASN_KEYWORDS text ≡ k → FrontIs Asn bytes (found (asn_word_shape k) n)
word_is_short text rest bytes n None joined long word stop short some is = record {
  text = text;
  rest = rest;
  stands = record { joined = joined; is_of = (word, asn_keyword-none text is); follows = stop };
  within = short;
  long = long;
  some = some;
}
word_is_short text rest bytes n (Some k) joined long word stop short some is = record {
  text = text;
  rest = rest;
  stands = record { joined = joined; is_of = (word, keyword_in-found asn_keyword_text ASN_KEYWORDS text k is); follows = stop };
  within = short;
  long = long;
  some = some;
}

word_is_by : (t : Bool) (text rest bytes : List ℕ) (n : ℕ) → nat_lt 64 n ≡ t → bytes ≡ text ++ rest → n ≡ length text → 0 < n → IsHyphenated text → NotFirst joins rest → FrontIs Asn bytes (cond t (Err L3) (found (asn_word_shape (keyword_in asn_keyword_text ASN_KEYWORDS (take n bytes))) n))
word_is_by true text rest bytes n over joined long some word stop = (text, rest, joined, word, stop, (let e = ltb-true 64 n over in omega arith))
word_is_by false text rest bytes n over joined long some word stop =
    word_is_short text rest bytes n _ joined long word stop (let e = ltb-false 64 n over in omega arith) some
    (ap (keyword_in asn_keyword_text ASN_KEYWORDS) (sym (ap (take n) joined ∙ take_at text rest n (sym long))))

word_is : (b : ℕ) (bs : List ℕ) → class_of b ≡ class.Letter → FrontIs Asn (b ∷ bs) (asn_word_found (1 + name_len bs) (b ∷ bs))
word_is b bs is =
    let r = name_run bs in
    let n = 1 + name_len bs in
    word_is_by (nat_lt 64 n) (b ∷ r.run) r.rest (b ∷ bs) n refl (ap (λ l. b ∷ l) r.joined) (let e = r.long in omega arith) (omega arith) (is, r.all) r.stop

-- texts
is_quote : (x q : ℕ) (rest : List ℕ) → NotFirst (λ b bs. is_not x b) (q ∷ rest) → q ≡ x
is_quote x q rest stop = eqb-true q x (not-false (q == x) stop)

between_joined : (x b : ℕ) (bs inside end : List ℕ) (q : ℕ) (rest : List ℕ) → b ≡ x → bs ≡ inside ++ end → end ≡ q ∷ rest → q ≡ x → b ∷ bs ≡ (x ∷ (inside ++ x ∷ [])) ++ rest
between_joined x b bs inside end q rest first joined is quote =
    ap (λ c. c ∷ bs) first ∙ ap (λ l. x ∷ l) (joined ∙ ap (λ l. inside ++ l) (is ∙ ap (λ c. c ∷ rest) quote) ∙ sym (append_assoc inside (x ∷ []) rest))

quotation_is : (b : ℕ) (bs inside end : List ℕ) → b ≡ 34 → bs ≡ inside ++ end → lacks 34 inside ≡ true → NotFirst (λ c cs. is_not 34 c) end → FrontIs Asn (b ∷ bs) (quotation_found (length inside) end)
quotation_is b bs inside [] first joined all stop =
    inr (inl (inside, ap (λ c. c ∷ bs) first ∙ ap (λ l. 34 ∷ l) (joined ∙ append-nil inside), all))
quotation_is b bs inside (q ∷ rest) first joined all stop = record {
  text = 34 ∷ (inside ++ 34 ∷ []);
  rest = rest;
  stands = record {
    joined = between_joined 34 b bs inside (q ∷ rest) q rest first joined refl (is_quote 34 q rest stop);
    is_of = (inside, refl, all);
    follows = not_first (goes_on Quotation Asn) (λ _ _. refl) rest;
  };
  within = tt;
  long = (let l = length-append inside (34 ∷ []) in omega arith);
  some = omega arith;
}

plain_quoted : (b : ℕ) (bs inside : List ℕ) (q : ℕ) (rest : List ℕ) → b ≡ 39 → bs ≡ inside ++ q ∷ rest → lacks 39 inside ≡ true → q ≡ 39 → NotFirst (λ c cs. is_code c) rest → FrontIs Asn (b ∷ bs) (found Quoted (length inside + 2))
plain_quoted b bs inside q rest first joined all quote stop = record {
  text = 39 ∷ (inside ++ 39 ∷ []);
  rest = rest;
  stands = record {
    joined = between_joined 39 b bs inside (q ∷ rest) q rest first joined refl quote;
    is_of = (inside, refl, all);
    follows = stop;
  };
  within = tt;
  long = (let l = length-append inside (39 ∷ []) in omega arith);
  some = omega arith;
}

coded_by : (t : Bool) (b : ℕ) (bs inside : List ℕ) (q c : ℕ) (rest : List ℕ) → is_code c ≡ t → b ≡ 39 → bs ≡ inside ++ q ∷ c ∷ rest → lacks 39 inside ≡ true → q ≡ 39 → FrontIs Asn (b ∷ bs) (cond t (found Coded (length inside + 3)) (found Quoted (length inside + 2)))
coded_by true b bs inside q c rest code first joined all quote = record {
  text = 39 ∷ (inside ++ 39 ∷ c ∷ []);
  rest = rest;
  stands = record {
    joined = ap (λ x. x ∷ bs) first ∙ ap (λ l. 39 ∷ l) (joined ∙ ap (λ x. inside ++ x ∷ c ∷ rest) quote ∙ sym (append_assoc inside (39 ∷ c ∷ []) rest));
    is_of = (inside, c, refl, all, code);
    follows = not_first (goes_on Coded Asn) (λ _ _. refl) rest;
  };
  within = tt;
  long = (let l = length-append inside (39 ∷ c ∷ []) in omega arith);
  some = omega arith;
}
coded_by false b bs inside q c rest code first joined all quote = plain_quoted b bs inside q (c ∷ rest) first joined all quote code

quoted_is : (b : ℕ) (bs inside end : List ℕ) → b ≡ 39 → bs ≡ inside ++ end → lacks 39 inside ≡ true → NotFirst (λ c cs. is_not 39 c) end → FrontIs Asn (b ∷ bs) (quoted_found (length inside) end)
quoted_is b bs inside [] first joined all stop =
    inr (inr (inside, ap (λ c. c ∷ bs) first ∙ ap (λ l. 39 ∷ l) (joined ∙ append-nil inside), all))
quoted_is b bs inside (q ∷ []) first joined all stop = plain_quoted b bs inside q [] first joined all (is_quote 39 q [] stop) tt
quoted_is b bs inside (q ∷ c ∷ rest) first joined all stop = coded_by (is_code c) b bs inside q c rest refl first joined all (is_quote 39 q (c ∷ rest) stop)

-- where the run of other bytes ends
run_end : (x : ℕ) (bs : List ℕ) (P : ℕ → List ℕ → Type 0) → ((inside end : List ℕ) → bs ≡ inside ++ end → lacks x inside ≡ true → NotFirst (λ c cs. is_not x c) end → P (length inside) end) → P (prefix_len (is_not x) bs) (drop (prefix_len (is_not x) bs) bs)
run_end x bs P go =
    let r = run_of (is_not x) bs in
    let end : drop (length r.run) bs ≡ r.rest = ap (drop (length r.run)) r.joined ∙ drop_at r.run r.rest (length r.run) refl in
    subst (λ n. P n (drop n bs)) (sym r.long) (subst (P (length r.run)) (sym end) (go r.run r.rest r.joined r.all r.stop))

-- comments
nested_is : (b c : ℕ) (cs : List ℕ) (end : Option ℕ) → b ≡ 47 → c ≡ 42 → nested_end 0 cs ≡ end → NestedEndIs 0 cs end → FrontIs Asn (b ∷ c ∷ cs) (nested_found end)
nested_is b c cs None first second is h = inl (
  cs,
  ap (λ x. x ∷ c ∷ cs) first ∙ ap (λ x. 47 ∷ x ∷ cs) second,
  λ text rest joined nested. none cs text rest is (sym (ap (λ x. x ∷ c ∷ cs) first ∙ ap (λ x. 47 ∷ x ∷ cs) second) ∙ joined) nested,
)
  where
    none : (cs text rest : List ℕ) → nested_end 0 cs ≡ None → 47 ∷ 42 ∷ cs ≡ text ++ rest → IsNested text → ⊥
    none cs text rest is joined nested = let found = nested_end-stands cs text rest joined nested in let e = found.1 in cc
nested_is b c cs (Some k) first second is (inside, rest, j, joined, within, none, long) = record {
  text = 47 ∷ 42 ∷ (inside ++ 42 ∷ 47 ∷ []);
  rest = rest;
  stands = record {
    joined = ap (λ x. x ∷ c ∷ cs) first ∙ ap (λ x. 47 ∷ x ∷ cs) second ∙ ap (λ l. 47 ∷ 42 ∷ l) (joined ∙ sym (append_assoc inside (42 ∷ 47 ∷ []) rest));
    is_of = (inside, refl, within);
    follows = not_first (goes_on BlockComment Asn) (λ _ _. refl) rest;
  };
  within = tt;
  long = (let l = length-append inside (42 ∷ 47 ∷ []) in omega arith);
  some = omega arith;
}

-- signs
plain_is : (m : AsnMark) (b : ℕ) (bs : List ℕ) → b ∷ [] ≡ asn_mark_text m → NotFirst (asn_sign_goes_on m) bs → HasFront Asn (record { shape = AsnSign m; len = 1 }) (b ∷ bs)
plain_is m b bs text stop = record {
  text = b ∷ [];
  rest = bs;
  stands = record { joined = refl; is_of = text; follows = stop };
  within = tt;
  long = refl;
  some = omega arith;
}

same_first : (b x : ℕ) → b ∷ [] ≡ x ∷ [] → b ≡ x
same_first b x same = cc

begins_parts : (y : ℕ) (bs : List ℕ) → begins y bs ≡ true → (rest : List ℕ) × (bs ≡ y ∷ rest)
begins_parts y [] is = absurd (false≢true is)
begins_parts y (c ∷ cs) is = (cs, ap (λ b. b ∷ cs) (eqb-true c y is))

three_is : (m : AsnMark) (b c x y z : ℕ) (cs : List ℕ) → asn_mark_text m ≡ x ∷ y ∷ z ∷ [] → b ∷ [] ≡ x ∷ [] → (c == y) ≡ true → begins z cs ≡ true → ((d : ℕ) (ds : List ℕ) → asn_sign_goes_on m d ds ≡ false) → HasFront Asn (record { shape = AsnSign m; len = 3 }) (b ∷ c ∷ cs)
three_is m b c x y z cs text first second third never =
    let last = begins_parts z cs third in
    record {
      text = x ∷ y ∷ z ∷ [];
      rest = last.0;
      stands = record {
        joined = ap (λ d. d ∷ c ∷ cs) (same_first b x first) ∙ ap (λ d. x ∷ d ∷ cs) (eqb-true c y second) ∙ ap (λ l. x ∷ y ∷ l) last.1;
        is_of = sym text;
        follows = not_first (asn_sign_goes_on m) never last.0;
      };
      within = tt;
      long = refl;
      some = omega arith;
    }

colon_is : (t : Bool) (b c : ℕ) (cs : List ℕ) → ((c == 58) && begins 61 cs) ≡ t → b ∷ [] ≡ 58 ∷ [] → FrontIs Asn (b ∷ c ∷ cs) (cond t (found (AsnSign mark.Assign) 3) (found (AsnSign mark.Colon) 1))
colon_is true b c cs is first = let parts = and_parts (c == 58) (begins 61 cs) is in three_is mark.Assign b c 58 58 61 cs refl first parts.0 parts.1 (λ _ _. refl)
colon_is false b c cs is first = plain_is mark.Colon b (c ∷ cs) first is

full_stop_is : (s t : Bool) (b c : ℕ) (cs : List ℕ) → (c == 46) ≡ s → begins 46 cs ≡ t → b ∷ [] ≡ 46 ∷ [] → FrontIs Asn (b ∷ c ∷ cs) (cond s (cond t (found (AsnSign mark.Ellipsis) 3) (found (AsnSign mark.Range) 2)) (found (AsnSign mark.FullStop) 1))
full_stop_is true true b c cs second third first = three_is mark.Ellipsis b c 46 46 46 cs refl first second third (λ _ _. refl)
full_stop_is true false b c cs second third first = record {
  text = 46 ∷ 46 ∷ [];
  rest = cs;
  stands = record {
    joined = ap (λ d. d ∷ c ∷ cs) (same_first b 46 first) ∙ ap (λ d. 46 ∷ d ∷ cs) (eqb-true c 46 second);
    is_of = refl;
    follows = no_third cs third;
  };
  within = tt;
  long = refl;
  some = omega arith;
}
  where
    no_third : (cs : List ℕ) → begins 46 cs ≡ false → NotFirst (asn_sign_goes_on mark.Range) cs
    no_third [] third = tt
    no_third (d ∷ ds) third = third
full_stop_is false t b c cs second third first = plain_is mark.FullStop b (c ∷ cs) first second

solidus_is : (t : Bool) (b c : ℕ) (cs : List ℕ) → (c == 42) ≡ t → b ∷ [] ≡ 47 ∷ [] → FrontIs Asn (b ∷ c ∷ cs) (cond t (nested_found (nested_end 0 cs)) (found (AsnSign mark.Solidus) 1))
solidus_is true b c cs is first = nested_is b c cs (nested_end 0 cs) (same_first b 47 first) (eqb-true c 42 is) refl (nested_end-is 0 cs)
solidus_is false b c cs is first = plain_is mark.Solidus b (c ∷ cs) first is

hyphen_is : (t : Bool) (b c : ℕ) (cs : List ℕ) → (c == 45) ≡ t → b ∷ [] ≡ 45 ∷ [] → FrontIs Asn (b ∷ c ∷ cs) (cond t (dash_found (pair_end 45 45 true cs)) (found (AsnSign mark.Hyphen) 1))
hyphen_is true b c cs is first = dash_is Asn b c cs (pair_end 45 45 true cs) (same_first b 45 first) (eqb-true c 45 is) (pair_end-is 45 45 true cs)
hyphen_is false b c cs is first = plain_is mark.Hyphen b (c ∷ cs) first is

sign_is : (m : AsnMark) (b : ℕ) (bs : List ℕ) → b ∷ [] ≡ asn_mark_text m → FrontIs Asn (b ∷ bs) (asn_sign_found m bs)
sign_is m b [] first = plain_is m b [] first tt
sign_is mark.Colon b (c ∷ cs) first = colon_is ((c == 58) && begins 61 cs) b c cs refl first
sign_is mark.FullStop b (c ∷ cs) first = full_stop_is (c == 46) (begins 46 cs) b c cs refl refl first
sign_is mark.Solidus b (c ∷ cs) first = solidus_is (c == 42) b c cs refl first
sign_is mark.Hyphen b (c ∷ cs) first = hyphen_is (c == 45) b c cs refl first
sign_is mark.Range b (c ∷ cs) first = absurd (two b first)
  where
    two : (b : ℕ) → b ∷ [] ≡ 46 ∷ 46 ∷ [] → ⊥
    two b e = let n = ap length e in omega arith
sign_is m b (c ∷ cs) first = plain_is m b (c ∷ cs) first refl

mark_is : (k : AsnClass) (b : ℕ) (bs : List ℕ) → asn_class_of b ≡ k → MarkText k b → FrontIs Asn (b ∷ bs) (asn_class_found k b bs)
mark_is asn.White b bs is text = absurd text
mark_is asn.Letter b bs is text = absurd text
mark_is asn.Digit b bs is text = absurd text
mark_is asn.Apostrophe b bs is text = absurd text
mark_is asn.Quotation b bs is text = run_end 34 bs (λ n end. FrontIs Asn (b ∷ bs) (quotation_found n end)) (λ inside end. quotation_is b bs inside end text)
mark_is (asn.Sign m) b bs is text = sign_is m b bs text
mark_is asn.Foreign b bs is text = (b, bs, refl, is)

-- what stands in front, by the class that the first byte has in SDL/PR
class_is : (k : Class) (b : ℕ) (bs : List ℕ) → class_of b ≡ k → ClassText k b → FrontIs Asn (b ∷ bs) (asn_class_found (asn_class_by k b) b bs)
class_is class.White b bs is text = space_is Asn b bs is
class_is class.Letter b bs is text = word_is b bs is
class_is class.Digit b bs is text = number_is Asn b bs is
class_is class.Underline b bs is text = mark_is (asn_mark_class b) b bs (ap (λ k. asn_class_by k b) is) (asn_mark_class-text b)
class_is class.Quote b bs is text = run_end 39 bs (λ n end. FrontIs Asn (b ∷ bs) (quoted_found n end)) (λ inside end. quoted_is b bs inside end text)
class_is (class.Sign m) b bs is text = mark_is (asn_mark_class b) b bs (ap (λ k. asn_class_by k b) is) (asn_mark_class-text b)
class_is class.Foreign b bs is text = mark_is (asn_mark_class b) b bs (ap (λ k. asn_class_by k b) is) (asn_mark_class-text b)

-- what the reader finds stands in front, and what it says is violated there is
pub asn_front_of-is : (b : ℕ) (bs : List ℕ) → FrontIs Asn (b ∷ bs) (asn_front_of (b ∷ bs))
unfolding asn_front_of
asn_front_of-is b bs = class_is (class_of b) b bs refl (class_of-text b)

-- ---- what stands in front is found

asn_front_of-class : (k : Class) (b : ℕ) (bs : List ℕ) → class_of b ≡ k → asn_front_of (b ∷ bs) ≡ asn_class_found (asn_class_by k b) b bs
unfolding asn_front_of
asn_front_of-class k b bs is = ap (λ j. asn_class_found (asn_class_by j b) b bs) is

name_long : (bs rest : List ℕ) → all_join bs ≡ true → NotFirst joins rest → 1 + name_len (bs ++ rest) ≡ 1 + length bs
name_long bs rest all stop = ap (λ n. 1 + n) (name_len-at bs rest all stop)

front_of-name : (text rest : List ℕ) (k : Option AsnKeyword) → IsHyphenated text → NotFirst joins rest → length text ≤ 64 → keyword_in asn_keyword_text ASN_KEYWORDS text ≡ k → asn_front_of (text ++ rest) ≡ found (asn_word_shape k) (length text)
front_of-name [] rest k word stop short is = absurd word
front_of-name (b ∷ bs) rest k word stop short is =
    let text = b ∷ bs in
    let whole = b ∷ (bs ++ rest) in
    asn_front_of-class class.Letter b (bs ++ rest) word.0
    ∙ ap (λ n. asn_word_found n whole) (let e = name_long bs rest word.1 stop in let long : 1 + name_len (bs ++ rest) ≡ length text = omega arith in long)
    ∙ cond-false (nat_lt 64 (length text)) (Err L3) (found (asn_word_shape (keyword_in asn_keyword_text ASN_KEYWORDS (take (length text) whole))) (length text)) (le-ltb 64 (length text) short)
    ∙ ap (λ l. found (asn_word_shape (keyword_in asn_keyword_text ASN_KEYWORDS l)) (length text)) (take_at text rest (length text) refl)
    ∙ ap (λ j. found (asn_word_shape j) (length text)) is

front_of-long_name : (text rest : List ℕ) → IsHyphenated text → NotFirst joins rest → 64 < length text → asn_front_of (text ++ rest) ≡ Err L3
front_of-long_name [] rest word stop over = absurd word
front_of-long_name (b ∷ bs) rest word stop over =
    let whole = b ∷ (bs ++ rest) in
    let n = 1 + name_len (bs ++ rest) in
    asn_front_of-class class.Letter b (bs ++ rest) word.0
    ∙ cond-true (nat_lt 64 n) (Err L3) (found (asn_word_shape (keyword_in asn_keyword_text ASN_KEYWORDS (take n whole))) n)
    (lt-ltb 64 n (let e = name_long bs rest word.1 stop in omega arith))

front_of-digits : (text rest : List ℕ) → IsNumber text → NotFirst (λ b bs. is_digit b) rest → asn_front_of (text ++ rest) ≡ (if nat_lt (2 ^ 63) (number_of text) then Err L4 else found Digits (length text))
front_of-digits [] rest number stop = absurd number
front_of-digits (b ∷ bs) rest number stop =
    let parts = and_parts (is_digit b) (list_all is_digit bs) number in
    asn_front_of-class class.Digit b (bs ++ rest) (digit_class (class_of b) parts.0) ∙ number_found-stands b bs rest parts.1 stop

-- the run of other bytes up to a quote
run_at : (x : ℕ) (inside rest : List ℕ) (P : ℕ → List ℕ → Result Front Rule) → lacks x inside ≡ true → let n = prefix_len (is_not x) (inside ++ x ∷ rest) in P n (drop n (inside ++ x ∷ rest)) ≡ P (length inside) (x ∷ rest)
run_at x inside rest P all =
    ap (λ n. P n (drop n (inside ++ x ∷ rest))) (prefix_len-at (is_not x) inside (x ∷ rest) all (stops x))
    ∙ ap (P (length inside)) (drop_at inside (x ∷ rest) (length inside) refl)
  where
    stops : (x : ℕ) → is_not x x ≡ false
    stops x = ap not (eq-eqb x x refl)

run_open : (x : ℕ) (inside : List ℕ) (P : ℕ → List ℕ → Result Front Rule) → lacks x inside ≡ true → let n = prefix_len (is_not x) inside in P n (drop n inside) ≡ P (length inside) []
run_open x inside P all =
    ap (λ n. P n (drop n inside)) (ap (prefix_len (is_not x)) (sym (append-nil inside)) ∙ prefix_len-at (is_not x) inside [] all tt)
    ∙ ap (P (length inside)) (ap (drop (length inside)) (sym (append-nil inside)) ∙ drop_at inside [] (length inside) refl)

front_of-quotation : (inside rest : List ℕ) → lacks 34 inside ≡ true → asn_front_of ((34 ∷ (inside ++ 34 ∷ [])) ++ rest) ≡ found Quotation (length (34 ∷ (inside ++ 34 ∷ [])))
unfolding asn_front_of class_of asn_mark_class
front_of-quotation inside rest all =
    ap (λ l. let n = prefix_len (is_not 34) l in quotation_found n (drop n l)) (append_assoc inside (34 ∷ []) rest)
    ∙ run_at 34 inside rest quotation_found all
    ∙ ap (found Quotation) (let l = length-append inside (34 ∷ []) in omega arith)

front_of-open_quotation : (inside : List ℕ) → lacks 34 inside ≡ true → asn_front_of (34 ∷ inside) ≡ Err L2
unfolding asn_front_of class_of asn_mark_class
front_of-open_quotation inside all = run_open 34 inside quotation_found all

quoted_found-plain : (n : ℕ) (rest : List ℕ) → NotFirst (λ b bs. is_code b) rest → quoted_found n (39 ∷ rest) ≡ found Quoted (n + 2)
quoted_found-plain n [] stop = refl
quoted_found-plain n (c ∷ rest) stop = cond-false (is_code c) (found Coded (n + 3)) (found Quoted (n + 2)) stop

front_of-quoted : (inside rest : List ℕ) → lacks 39 inside ≡ true → NotFirst (λ b bs. is_code b) rest → asn_front_of ((39 ∷ (inside ++ 39 ∷ [])) ++ rest) ≡ found Quoted (length (39 ∷ (inside ++ 39 ∷ [])))
unfolding asn_front_of class_of
front_of-quoted inside rest all stop =
    ap (λ l. let n = prefix_len (is_not 39) l in quoted_found n (drop n l)) (append_assoc inside (39 ∷ []) rest)
    ∙ run_at 39 inside rest quoted_found all
    ∙ quoted_found-plain (length inside) rest stop
    ∙ ap (found Quoted) (let l = length-append inside (39 ∷ []) in omega arith)

front_of-coded : (inside : List ℕ) (code : ℕ) (rest : List ℕ) → lacks 39 inside ≡ true → is_code code ≡ true → asn_front_of ((39 ∷ (inside ++ 39 ∷ code ∷ [])) ++ rest) ≡ found Coded (length (39 ∷ (inside ++ 39 ∷ code ∷ [])))
unfolding asn_front_of class_of
front_of-coded inside code rest all is =
    ap (λ l. let n = prefix_len (is_not 39) l in quoted_found n (drop n l)) (append_assoc inside (39 ∷ code ∷ []) rest)
    ∙ run_at 39 inside (code ∷ rest) quoted_found all
    ∙ cond-true (is_code code) (found Coded (length inside + 3)) (found Quoted (length inside + 2)) is
    ∙ ap (found Coded) (let l = length-append inside (39 ∷ code ∷ []) in omega arith)

front_of-open_quoted : (inside : List ℕ) → lacks 39 inside ≡ true → asn_front_of (39 ∷ inside) ≡ Err L2
unfolding asn_front_of class_of
front_of-open_quoted inside all = run_open 39 inside quoted_found all

front_of-solidus : (bs : List ℕ) → asn_front_of (47 ∷ 42 ∷ bs) ≡ nested_found (nested_end 0 bs)
unfolding asn_front_of class_of asn_mark_class
front_of-solidus bs = refl

front_of-nested : (inside text rest : List ℕ) → text ≡ 47 ∷ 42 ∷ (inside ++ 42 ∷ 47 ∷ []) → IsNested text → asn_front_of (text ++ rest) ≡ found BlockComment (length text)
front_of-nested inside text rest is nested =
    let bs = (inside ++ 42 ∷ 47 ∷ []) ++ rest in
    let whole : 47 ∷ 42 ∷ bs ≡ text ++ rest = ap (λ l. l ++ rest) (sym is) in
    let here = nested_end-stands bs text rest whole nested in
    ap asn_front_of (sym whole) ∙ front_of-solidus bs ∙ ap nested_found here.1 ∙ ap (found BlockComment) (sym here.2)

front_of-open_nested : (bs : List ℕ) → ((text : List ℕ) (rest : List ℕ) → 47 ∷ 42 ∷ bs ≡ text ++ rest → IsNested text → ⊥) → asn_front_of (47 ∷ 42 ∷ bs) ≡ Err L2
front_of-open_nested bs none = front_of-solidus bs ∙ ap nested_found (by (nested_end 0 bs) (nested_end-is 0 bs))
  where
    by : (end : Option ℕ) → NestedEndIs 0 bs end → end ≡ None
    by None h = refl
    by (Some k) (inside, rest, j, joined, within, last, long) =
        absurd (none (47 ∷ 42 ∷ (inside ++ 42 ∷ 47 ∷ [])) rest (ap (λ l. 47 ∷ 42 ∷ l) (joined ∙ sym (append_assoc inside (42 ∷ 47 ∷ []) rest))) (inside, refl, within))

front_of-hyphens : (bs : List ℕ) → asn_front_of (45 ∷ 45 ∷ bs) ≡ dash_found (pair_end 45 45 true bs)
unfolding asn_front_of class_of asn_mark_class
front_of-hyphens bs = refl

front_of-mark : (m : AsnMark) (rest : List ℕ) → NotFirst (asn_sign_goes_on m) rest → asn_front_of (asn_mark_text m ++ rest) ≡ found (AsnSign m) (length (asn_mark_text m))
unfolding asn_front_of class_of asn_mark_class
front_of-mark mark.Assign rest stop = refl
front_of-mark mark.Ellipsis rest stop = refl
front_of-mark mark.Range [] stop = refl
front_of-mark mark.Range (c ∷ cs) stop = cond-false (c == 46) (found (AsnSign mark.Ellipsis) 3) (found (AsnSign mark.Range) 2) stop
front_of-mark mark.FullStop [] stop = refl
front_of-mark mark.FullStop (c ∷ cs) stop = cond-false (c == 46) (cond (begins 46 cs) (found (AsnSign mark.Ellipsis) 3) (found (AsnSign mark.Range) 2)) (found (AsnSign mark.FullStop) 1) stop
front_of-mark mark.Colon [] stop = refl
front_of-mark mark.Colon (c ∷ cs) stop = cond-false ((c == 58) && begins 61 cs) (found (AsnSign mark.Assign) 3) (found (AsnSign mark.Colon) 1) stop
front_of-mark mark.Hyphen [] stop = refl
front_of-mark mark.Hyphen (c ∷ cs) stop = cond-false (c == 45) (dash_found (pair_end 45 45 true cs)) (found (AsnSign mark.Hyphen) 1) stop
front_of-mark mark.Solidus [] stop = refl
front_of-mark mark.Solidus (c ∷ cs) stop = cond-false (c == 42) (nested_found (nested_end 0 cs)) (found (AsnSign mark.Solidus) 1) stop
front_of-mark m [] stop = refl
front_of-mark m (c ∷ cs) stop = refl

finds : (shape : Shape) (text rest : List ℕ) → IsOf shape Asn text → NotFirst (goes_on shape Asn) rest → IsWithin shape text → asn_front_of (text ++ rest) ≡ found shape (length text)
finds Space text rest is stop within =
    subst (λ (t : List ℕ). asn_front_of (t ++ rest) ≡ found Space (length t)) (sym is.1) (asn_front_of-class class.White is.0 rest is.2)
finds BlockComment text rest is stop within = front_of-nested is.0 text rest is.1 is
finds DashComment text rest is stop within =
    subst (λ (t : List ℕ). asn_front_of (t ++ rest) ≡ found DashComment (length t)) (sym is.1) (front_of-hyphens ((is.0 ++ 45 ∷ 45 ∷ []) ++ rest) ∙ dash_found-closed is.0 rest is.2 is.3)
finds LineComment text rest is stop within =
    subst (λ (t : List ℕ). asn_front_of (t ++ rest) ≡ found LineComment (length t)) (sym is.1) (front_of-hyphens (is.0 ++ rest) ∙ dash_found-open is.0 rest is.2 is.3 stop)
finds Name text rest is stop within = front_of-name text rest None is.0 stop within (keyword_in-absent asn_keyword_text ASN_KEYWORDS text is.1)
finds (AsnReserved k) text rest is stop within = front_of-name text rest (Some k) is.0 stop within (asn_keyword-spelt k text is.1)
finds (Reserved k) text rest is stop within = absurd is
finds Digits text rest is stop within =
    front_of-digits text rest is stop ∙ cond-false (nat_lt (2 ^ 63) (number_of text)) (Err L4) (found Digits (length text)) (le-ltb (2 ^ 63) (number_of text) within)
finds Quoted text rest is stop within =
    subst (λ (t : List ℕ). asn_front_of (t ++ rest) ≡ found Quoted (length t)) (sym is.1) (front_of-quoted is.0 rest is.2 stop)
finds Quotation text rest is stop within =
    subst (λ (t : List ℕ). asn_front_of (t ++ rest) ≡ found Quotation (length t)) (sym is.1) (front_of-quotation is.0 rest is.2)
finds Coded text rest is stop within =
    subst (λ (t : List ℕ). asn_front_of (t ++ rest) ≡ found Coded (length t)) (sym is.2) (front_of-coded is.0 is.1 rest is.3 is.4)
finds (Sign m) text rest is stop within = absurd is
finds (AsnSign m) text rest is stop within =
    subst (λ (t : List ℕ). asn_front_of (t ++ rest) ≡ found (AsnSign m) (length t)) (sym is) (front_of-mark m rest stop)

-- a piece that stands in front is found
pub asn_front_of-stands : (shape : Shape) (text bytes rest : List ℕ) → Stands Asn shape text bytes rest → IsWithin shape text → asn_front_of bytes ≡ found shape (length text)
asn_front_of-stands shape text bytes rest stands within = ap asn_front_of stands.joined ∙ finds shape text rest stands.is_of stands.follows within

front_of-foreign : (b : ℕ) (more : List ℕ) → asn_class_of b ≡ asn.Foreign → asn_front_of (b ∷ more) ≡ Err L1
unfolding asn_front_of
front_of-foreign b more is = ap (λ k. asn_class_found k b more) is

-- a violation in front is found
pub asn_front_of-breaks : (r : Rule) (bytes : List ℕ) → Breaks r Asn bytes → asn_front_of bytes ≡ Err r
asn_front_of-breaks L1 bytes h = ap asn_front_of h.2 ∙ front_of-foreign h.0 h.1 h.3
asn_front_of-breaks L2 bytes (inl h) =
    ap asn_front_of h.1 ∙ front_of-open_nested h.0 (λ text rest joined. h.2 text rest (h.1 ∙ joined))
asn_front_of-breaks L2 bytes (inr (inl h)) = ap asn_front_of h.1 ∙ front_of-open_quotation h.0 h.2
asn_front_of-breaks L2 bytes (inr (inr h)) = ap asn_front_of h.1 ∙ front_of-open_quoted h.0 h.2
asn_front_of-breaks L3 bytes h = ap asn_front_of h.2 ∙ front_of-long_name h.0 h.1 h.3 h.4 h.5
asn_front_of-breaks L4 bytes h =
    ap asn_front_of h.2.joined ∙ front_of-digits h.0 h.1 h.2.is_of h.2.follows
    ∙ cond-true (nat_lt (2 ^ 63) (number_of h.0)) (Err L4) (found Digits (length h.0)) (lt-ltb (2 ^ 63) (number_of h.0) h.3)
asn_front_of-breaks r bytes h = absurd h
