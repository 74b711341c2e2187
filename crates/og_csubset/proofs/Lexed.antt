-- Where the first token is taken off the bytes it stands there; so a text is cut into tokens where it can be, and only there.
use Rattle.std.proofs.Common.{◌≡◌, ℕ, ◌^◌, ◌<◌, Bool, true, false, cond, ◌&&◌, ◌||◌, not, List, [], ◌∷◌, ◌++◌, ◌==◌, if◌then◌else◌, nat_lt, codes, bytes_eq, decimal, Option, Some, None, refl, sym, ap, ◌∙◌, subst, eqb-true, ltb-true, ap₂}
use Rattle.std.specs.Prelude.{⊤}
use Rattle.std.specs.List.{list_all}
use Rattle.std.specs.Str.Parse.{digits_value}
use Rattle.std.proofs.lemmas.Bool.{and_parts, and_from, true≢false, not_from_false, or_left}
use Rattle.std.proofs.lemmas.Slice.Eq.{bytes_eq-Decides}
use Rattle.og_csubset.specs.declared.COp.TheVariants.{Add, Sub, Mul, Div, Rem}
use Rattle.og_csubset.specs.declared.CRel.TheVariants.{Eq, Ne, Lt, Le, Gt, Ge}
use Rattle.og_csubset.specs.Tokens.{Keyword, typedef_, struct_, void_, if_, goto_, switch_, case_, default_, return_, int64_t, INT64_C, open_brace, close_brace, open_square, close_square, open_round, close_round, semicolon, colon, question, dot, equals, Token, name, number, operator, relation, keyword, mark, spelling, keyword_spelling, is_letter, is_digit, is_word_byte, is_space, is_word, is_reserved, IsToken, joins, MayFollow, Begins}
use Rattle.og_csubset.specs.Lexing.{cut, StopsAt, keyword_of, word_token, number_token, with_rest, longer, sign_token, first_token, next_token}
use Rattle.og_csubset.proofs.Seen.{nothing, Some-same, seen_cond}

-- what the cut gives
pub cut_joined : (p : ℕ → Bool) (bs : List ℕ) → bs ≡ (cut p bs).0 ++ (cut p bs).1
unfolding cut
cut_joined p [] = refl
cut_joined p (b ∷ bs) = go (p b) (cut_joined p bs)
  where
    go : (c : Bool) → bs ≡ (cut p bs).0 ++ (cut p bs).1
        → b ∷ bs ≡ (cond {A = List ℕ × List ℕ} c (b ∷ (cut p bs).0, (cut p bs).1) ([], b ∷ bs)).0 ++ (cond {A = List ℕ × List ℕ} c (b ∷ (cut p bs).0, (cut p bs).1) ([], b ∷ bs)).1
    go true e = ap (λ l. b ∷ l) e
    go false e = refl

pub cut_all : (p : ℕ → Bool) (bs : List ℕ) → list_all p (cut p bs).0 ≡ true
unfolding cut
cut_all p [] = refl
cut_all p (b ∷ bs) = go (p b) refl (cut_all p bs)
  where
    go : (c : Bool) → p b ≡ c → list_all p (cut p bs).0 ≡ true → list_all p (cond {A = List ℕ × List ℕ} c (b ∷ (cut p bs).0, (cut p bs).1) ([], b ∷ bs)).0 ≡ true
    go true e more = and_from (p b) (list_all p (cut p bs).0) e more
    go false e more = refl

pub cut_stops : (p : ℕ → Bool) (bs : List ℕ) → StopsAt p (cut p bs).1
unfolding cut
cut_stops p [] = tt
cut_stops p (b ∷ bs) = go (p b) refl (cut_stops p bs)
  where
    go : (c : Bool) → p b ≡ c → StopsAt p (cut p bs).1 → StopsAt p (cond {A = List ℕ × List ℕ} c (b ∷ (cut p bs).0, (cut p bs).1) ([], b ∷ bs)).1
    go true e more = more
    go false e more = e

-- a token that the bytes begin with
pub record Stands (bytes : List ℕ) (token : Token) (rest : List ℕ) : Type 0 where
  pub joined : bytes ≡ spelling token ++ rest
  pub is_token : IsToken token
  pub follows : MayFollow token rest

-- a word of this spelling
record WordIs (w : List ℕ) (t : Token) : Type 0 where
  spelt : spelling t ≡ w
  is_token : IsToken t
  follows : (rest : List ℕ) → StopsAt is_word_byte rest → MayFollow t rest

keyword_is : (k : Keyword) → WordIs (keyword_spelling k) (keyword k)
keyword_is k = record { spelt = refl; is_token = tt; follows = follows }
  where
    follows : (rest : List ℕ) → StopsAt is_word_byte rest → MayFollow (keyword k) rest
    follows [] h = tt
    follows (b ∷ bs) h = h

try_keyword : (w s : List ℕ) (k : Keyword) (o : Option Token) (t : Token) → keyword_spelling k ≡ s → (o ≡ Some t → WordIs w t)
    → (if bytes_eq w s then Some (keyword k) else o) ≡ Some t → WordIs w t
try_keyword w s k o t spelt later h = go (bytes_eq w s) refl h
  where
    go : (c : Bool) → bytes_eq w s ≡ c → cond c (Some (keyword k)) o ≡ Some t → WordIs w t
    go true e h =
        let same : w ≡ s = (bytes_eq-Decides w s).0 e in
        subst (λ u. WordIs w u) (Some-same (keyword k) t h) (subst (λ u. WordIs u (keyword k)) (spelt ∙ sym same) (keyword_is k))
    go false e h = later h

keyword_sound : (w : List ℕ) (t : Token) → keyword_of w ≡ Some t → WordIs w t
unfolding keyword_of
keyword_sound w t =
    try_keyword w (codes "typedef") typedef_ _ t refl
    (try_keyword w (codes "struct") struct_ _ t refl
    (try_keyword w (codes "void") void_ _ t refl
    (try_keyword w (codes "if") if_ _ t refl
    (try_keyword w (codes "goto") goto_ _ t refl
    (try_keyword w (codes "switch") switch_ _ t refl
    (try_keyword w (codes "case") case_ _ t refl
    (try_keyword w (codes "default") default_ _ t refl
    (try_keyword w (codes "return") return_ _ t refl
    (try_keyword w (codes "int64_t") int64_t _ t refl
    (try_keyword w (codes "INT64_C") INT64_C _ t refl (λ h. nothing t h)))))))))))

word_sound : (w : List ℕ) (t : Token) → is_word w ≡ true → word_token w ≡ Some t → WordIs w t
unfolding word_token
word_sound w t is h = go (is_reserved w) refl h
  where
    follows : (rest : List ℕ) → StopsAt is_word_byte rest → MayFollow (name w) rest
    follows [] h = tt
    follows (b ∷ bs) h = h

    go : (c : Bool) → is_reserved w ≡ c → cond c (keyword_of w) (Some (name w)) ≡ Some t → WordIs w t
    go true e h = keyword_sound w t h
    go false e h = subst (λ u. WordIs w u) (Some-same (name w) t h) (record {
      spelt = refl;
      is_token = and_from (is_word w) (not (is_reserved w)) is (not_from_false (is_reserved w) e);
      follows = follows;
    })

seen_rest : (o : Option Token) (us : List ℕ) (r : Token × List ℕ) → with_rest o us ≡ Some r → (o ≡ Some r.0) × (us ≡ r.1)
seen_rest None us r h = nothing r h
seen_rest (Some t) us r h = let same = Some-same (t, us) r h in (ap (λ p. Some p.0) same, ap (λ p. p.1) same)

word_cut : (b : ℕ) (bs : List ℕ) → is_letter b ≡ true → is_word (cut is_word_byte (b ∷ bs)).0 ≡ true
unfolding cut
word_cut b bs letter =
    let here : is_word_byte b ≡ true = or_left (is_letter b || is_digit b) (b == 95) (or_left (is_letter b) (is_digit b) letter) in
    let whole : is_word (b ∷ (cut is_word_byte bs).0) ≡ true = and_from (is_letter b) (list_all is_word_byte (cut is_word_byte bs).0) letter (cut_all is_word_byte bs) in
    go (is_word_byte b) here whole
  where
    go : (c : Bool) → c ≡ true → is_word (b ∷ (cut is_word_byte bs).0) ≡ true
        → is_word (cond {A = List ℕ × List ℕ} c (b ∷ (cut is_word_byte bs).0, (cut is_word_byte bs).1) ([], b ∷ bs)).0 ≡ true
    go true e h = h
    go false e h = absurd (true≢false (sym e))

word_stands : (b : ℕ) (bs : List ℕ) (r : Token × List ℕ) → is_letter b ≡ true
    → with_rest (word_token (cut is_word_byte (b ∷ bs)).0) (cut is_word_byte (b ∷ bs)).1 ≡ Some r → Stands (b ∷ bs) r.0 r.1
word_stands b bs r letter h =
    let seen = seen_rest (word_token (cut is_word_byte (b ∷ bs)).0) (cut is_word_byte (b ∷ bs)).1 r h in
    let found = word_sound (cut is_word_byte (b ∷ bs)).0 r.0 (word_cut b bs letter) seen.0 in
    record {
      joined = cut_joined is_word_byte (b ∷ bs) ∙ ap₂ (λ x y. x ++ y) (sym found.spelt) seen.1;
      is_token = found.is_token;
      follows = found.follows r.1 (subst (λ l. StopsAt is_word_byte l) seen.1 (cut_stops is_word_byte (b ∷ bs)));
    }

number_follows : (n : ℕ) (rest : List ℕ) → StopsAt is_digit rest → MayFollow (number n) rest
number_follows n [] h = tt
number_follows n (b ∷ bs) h = h

digits_sound : (ds : List ℕ) (t : Token) → number_token ds ≡ Some t → (n : ℕ) × (t ≡ number n) × (decimal n ≡ ds) × (n < 2 ^ 63)
unfolding number_token
digits_sound ds t h =
    let n = digits_value 10 ds in
    let seen = seen_cond (bytes_eq (decimal n) ds && nat_lt n (2 ^ 63)) (Some (number n)) t h in
    let parts = and_parts (bytes_eq (decimal n) ds) (nat_lt n (2 ^ 63)) seen.0 in
    (n, sym (Some-same (number n) t seen.1), (bytes_eq-Decides (decimal n) ds).0 parts.0, ltb-true n (2 ^ 63) parts.1)

number_stands : (b : ℕ) (bs : List ℕ) (r : Token × List ℕ)
    → with_rest (number_token (cut is_digit (b ∷ bs)).0) (cut is_digit (b ∷ bs)).1 ≡ Some r → Stands (b ∷ bs) r.0 r.1
number_stands b bs r h =
    let seen = seen_rest (number_token (cut is_digit (b ∷ bs)).0) (cut is_digit (b ∷ bs)).1 r h in
    let found = digits_sound (cut is_digit (b ∷ bs)).0 r.0 seen.0 in
    let stops = number_follows found.0 r.1 (subst (λ l. StopsAt is_digit l) seen.1 (cut_stops is_digit (b ∷ bs))) in
    let stands : Stands (b ∷ bs) (number found.0) r.1 = record {
      joined = cut_joined is_digit (b ∷ bs) ∙ ap₂ (λ x y. x ++ y) (sym found.2) seen.1;
      is_token = found.3;
      follows = stops;
    } in
    subst (λ t. Stands (b ∷ bs) t r.1) (sym found.1) stands

-- a mark that no longer one begins with
free : (t : Token) (rest : List ℕ) → ((b : ℕ) → joins t b ≡ false) → MayFollow t rest
free t [] h = tt
free t (b ∷ bs) h = h b

one_stands : (t : Token) (c : ℕ) (bs : List ℕ) (r : Token × List ℕ) → spelling t ≡ c ∷ [] → IsToken t → ((b : ℕ) → joins t b ≡ false)
    → Some (t, bs) ≡ Some r → Stands (c ∷ bs) r.0 r.1
one_stands t c bs r spelt is h e = subst (λ p. Stands (c ∷ bs) p.0 p.1) (Some-same (t, bs) r e) (record {
  joined = sym (ap (λ l. l ++ bs) spelt);
  is_token = is;
  follows = free t bs h;
})

-- of two marks the longer one, where there is one, and the shorter one, where there is one
LongOf : ℕ → ℕ → Option Token → Type 0
LongOf b c None = ⊤
LongOf b c (Some t) = (spelling t ≡ b ∷ c ∷ []) × IsToken t × ((x : ℕ) → joins t x ≡ false)

ShortOf : ℕ → ℕ → Option Token → Type 0
ShortOf b c None = ⊤
ShortOf b c (Some t) = (spelling t ≡ b ∷ []) × IsToken t × ((x : ℕ) → joins t x ≡ (x == c))

short_stands : (b c : ℕ) (short : Option Token) (bs : List ℕ) (r : Token × List ℕ) → ShortOf b c short → StopsAt (λ x. x == c) bs
    → with_rest short bs ≡ Some r → Stands (b ∷ bs) r.0 r.1
unfolding ShortOf
short_stands b c None bs r s stops h = nothing r h
short_stands b c (Some t) bs r s stops h = subst (λ p. Stands (b ∷ bs) p.0 p.1) (Some-same (t, bs) r h) (record {
  joined = sym (ap (λ l. l ++ bs) s.0);
  is_token = s.1;
  follows = follows bs stops;
})
  where
    follows : (us : List ℕ) → StopsAt (λ x. x == c) us → MayFollow t us
    follows [] k = tt
    follows (x ∷ us) k = s.2 x ∙ k

longer_stands : (b c : ℕ) (long short : Option Token) (bs : List ℕ) (r : Token × List ℕ) → LongOf b c long → ShortOf b c short
    → longer c long short bs ≡ Some r → Stands (b ∷ bs) r.0 r.1
unfolding LongOf
longer_stands b c long short [] r l s h = short_stands b c short [] r s tt h
longer_stands b c long short (x ∷ us) r l s h = go (x == c) refl h
  where
    long_stands : (o : Option Token) → x ≡ c → LongOf b c o → with_rest o us ≡ Some r → Stands (b ∷ x ∷ us) r.0 r.1
    long_stands None e k h = nothing r h
    long_stands (Some t) e k h = subst (λ p. Stands (b ∷ x ∷ us) p.0 p.1) (Some-same (t, us) r h) (record {
      joined = ap (λ y. b ∷ y ∷ us) e ∙ sym (ap (λ l. l ++ us) k.0);
      is_token = k.1;
      follows = free t us k.2;
    })

    go : (d : Bool) → (x == c) ≡ d → cond d (with_rest long us) (with_rest short (x ∷ us)) ≡ Some r → Stands (b ∷ x ∷ us) r.0 r.1
    go true e h = long_stands long (eqb-true x c e) l h
    go false e h = short_stands b c short (x ∷ us) r s e h

try_sign : (b c : ℕ) (bs : List ℕ) (x o : Option (Token × List ℕ)) (r : Token × List ℕ) → (x ≡ Some r → Stands (c ∷ bs) r.0 r.1)
    → (o ≡ Some r → Stands (b ∷ bs) r.0 r.1) → (if b == c then x else o) ≡ Some r → Stands (b ∷ bs) r.0 r.1
try_sign b c bs x o r here later h = go (b == c) refl h
  where
    go : (d : Bool) → (b == c) ≡ d → cond d x o ≡ Some r → Stands (b ∷ bs) r.0 r.1
    go true e h = subst (λ y. Stands (y ∷ bs) r.0 r.1) (sym (eqb-true b c e)) (here h)
    go false e h = later h

sign_stands : (b : ℕ) (bs : List ℕ) (r : Token × List ℕ) → sign_token b bs ≡ Some r → Stands (b ∷ bs) r.0 r.1
unfolding sign_token LongOf ShortOf
sign_stands b bs r =
    try_sign b 123 bs _ _ r (one_stands (mark open_brace) 123 bs r refl tt (λ x. refl))
    (try_sign b 125 bs _ _ r (one_stands (mark close_brace) 125 bs r refl tt (λ x. refl))
    (try_sign b 91 bs _ _ r (one_stands (mark open_square) 91 bs r refl tt (λ x. refl))
    (try_sign b 93 bs _ _ r (one_stands (mark close_square) 93 bs r refl tt (λ x. refl))
    (try_sign b 40 bs _ _ r (one_stands (mark open_round) 40 bs r refl tt (λ x. refl))
    (try_sign b 41 bs _ _ r (one_stands (mark close_round) 41 bs r refl tt (λ x. refl))
    (try_sign b 59 bs _ _ r (one_stands (mark semicolon) 59 bs r refl tt (λ x. refl))
    (try_sign b 58 bs _ _ r (one_stands (mark colon) 58 bs r refl tt (λ x. refl))
    (try_sign b 63 bs _ _ r (one_stands (mark question) 63 bs r refl tt (λ x. refl))
    (try_sign b 46 bs _ _ r (one_stands (mark dot) 46 bs r refl tt (λ x. refl))
    (try_sign b 42 bs _ _ r (one_stands (operator Mul) 42 bs r refl tt (λ x. refl))
    (try_sign b 47 bs _ _ r (one_stands (operator Div) 47 bs r refl tt (λ x. refl))
    (try_sign b 37 bs _ _ r (one_stands (operator Rem) 37 bs r refl tt (λ x. refl))
    (try_sign b 43 bs _ _ r (longer_stands 43 43 None (Some (operator Add)) bs r tt (refl, tt, λ x. refl))
    (try_sign b 45 bs _ _ r (longer_stands 45 45 None (Some (operator Sub)) bs r tt (refl, tt, λ x. refl))
    (try_sign b 61 bs _ _ r (longer_stands 61 61 (Some (relation Eq)) (Some (mark equals)) bs r (refl, tt, λ x. refl) (refl, tt, λ x. refl))
    (try_sign b 33 bs _ _ r (longer_stands 33 61 (Some (relation Ne)) None bs r (refl, tt, λ x. refl) tt)
    (try_sign b 60 bs _ _ r (longer_stands 60 61 (Some (relation Le)) (Some (relation Lt)) bs r (refl, tt, λ x. refl) (refl, tt, λ x. refl))
    (try_sign b 62 bs _ _ r (longer_stands 62 61 (Some (relation Ge)) (Some (relation Gt)) bs r (refl, tt, λ x. refl) (refl, tt, λ x. refl))
    (λ h. nothing r h)))))))))))))))))))

pub first_stands : (bs : List ℕ) (r : Token × List ℕ) → first_token bs ≡ Some r → Stands bs r.0 r.1
unfolding first_token
first_stands [] r h = nothing r h
first_stands (b ∷ bs) r h = letter (is_letter b) refl h
  where
    digit : (d : Bool) → is_digit b ≡ d
        → cond d (with_rest (number_token (cut is_digit (b ∷ bs)).0) (cut is_digit (b ∷ bs)).1) (sign_token b bs) ≡ Some r → Stands (b ∷ bs) r.0 r.1
    digit true e h = number_stands b bs r h
    digit false e h = sign_stands b bs r h

    letter : (d : Bool) → is_letter b ≡ d
        → cond d (with_rest (word_token (cut is_word_byte (b ∷ bs)).0) (cut is_word_byte (b ∷ bs)).1)
        (if is_digit b then with_rest (number_token (cut is_digit (b ∷ bs)).0) (cut is_digit (b ∷ bs)).1 else sign_token b bs) ≡ Some r
        → Stands (b ∷ bs) r.0 r.1
    letter true e h = word_stands b bs r e h
    letter false e h = digit (is_digit b) refl h

unfoldable pub begins-next : (bytes : List ℕ) (t : Token) (rest : List ℕ) → next_token bytes ≡ Some (t, rest) → Begins bytes t rest
unfolding next_token
begins-next bytes t rest h =
    let stands = first_stands (cut is_space bytes).1 (t, rest) h in
    record {
      space = (cut is_space bytes).0;
      blank = cut_all is_space bytes;
      joined = cut_joined is_space bytes ∙ ap (λ l. (cut is_space bytes).0 ++ l) stands.joined;
      is_token = stands.is_token;
      follows = stands.follows;
    }
