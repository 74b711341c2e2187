-- Bytes that are a text of tokens, whatever text stands behind them.
use Rattle.std.proofs.Common.{◌≡◌, ℕ, Bool, true, false, not, ◌&&◌, ◌||◌, ◌==◌, List, [], ◌∷◌, ◌++◌, decimal, refl, sym, ap, ◌∙◌, subst, append_assoc, arith}
use Rattle.std.specs.Prelude.{⊤, codes}
use Rattle.std.specs.List.{list_all, flat_map}
use Rattle.std.proofs.lemmas.Bool.{and_parts, true≢false, or_left, or_right, not-true}
use Rattle.std.proofs.lemmas.Bool.Decides.{nat_tests}
use Rattle.og_csubset.specs.declared.COp.TheVariants.{Sub}
use Rattle.og_csubset.specs.Tokens.{Token, name, number, operator, relation, keyword, mark, Keyword, typedef_, struct_, void_, if_, goto_, switch_, case_, default_, return_, int64_t, INT64_C, Mark, open_brace, close_brace, open_square, close_square, open_round, close_round, semicolon, colon, question, dot, equals, spelling, keyword_spelling, mark_spelling, mark_joins, is_letter, is_digit, is_word_byte, is_word, is_reserved, is_space, IsToken, joins, MayFollow, Lexes}
use Rattle.og_csubset.specs.Plain.{Text, AreTokens, each}
use Rattle.og_csubset.proofs.TextLayout.{Lexes-token, Lexes-space, joins-space}
use Rattle.og_cprint.specs.Printed.{Bytes}

-- no word goes on with the first of these bytes: it ends a name, a keyword and a number before it
abbrev pub EndsWord : Bytes → Type 0
EndsWord [] = ⊤
EndsWord (b ∷ bs) = is_word_byte b ≡ false

-- what may stand behind: a tight text needs the end of a word there
abbrev pub Fits : Bool → Bytes → Type 0
Fits true bs = EndsWord bs
Fits false bs = ⊤

-- The bytes are a text of these tokens, whatever bytes `bs` of other tokens `ts` stand behind them. That a name is a C name and a number fits
-- is asked of all tokens at once, and `ends` hands it on to those behind.
pub record Lays (tight : Bool) (text : Text) (bytes : Bytes) : Type 0 where
  pub ends : (ts : List Token) → AreTokens (text ts) → AreTokens ts
  pub lexes : (ts : List Token) (bs : Bytes) → AreTokens (text ts) → Fits tight bs → Lexes ts bs → Lexes (text ts) (bytes ++ bs)

-- a text, and another behind it: where the first needs no end of a word
pub free : {u : Bool} {t s : Text} {b c : Bytes} → Lays false t b → Lays u s c → Lays u (λ ts. t (s ts)) (b ++ c)
free {u} {t} {s} {b} {c} h k = record {
  ends = λ ts are. k.ends ts (h.ends (s ts) are);
  lexes = λ ts bs are fits rest. subst (λ l. Lexes (t (s ts)) l) (sym (append_assoc b c bs))
      (h.lexes (s ts) (c ++ bs) are tt (k.lexes ts bs (h.ends (s ts) are) fits rest));
}

-- and where the first needs it and the second begins so
pub ended : {u : Bool} {t s : Text} {b c : Bytes} → Lays true t b → Lays u s c → ((bs : Bytes) → Fits u bs → EndsWord (c ++ bs))
    → Lays u (λ ts. t (s ts)) (b ++ c)
ended {u} {t} {s} {b} {c} h k ends = record {
  ends = λ ts are. k.ends ts (h.ends (s ts) are);
  lexes = λ ts bs are fits rest. subst (λ l. Lexes (t (s ts)) l) (sym (append_assoc b c bs))
      (h.lexes (s ts) (c ++ bs) are (ends bs fits) (k.lexes ts bs (h.ends (s ts) are) fits rest));
}

-- a text that needs less
pub tight : {t : Text} {b : Bytes} → Lays false t b → Lays true t b
tight h = record { ends = h.ends; lexes = λ ts bs are fits rest. h.lexes ts bs are tt rest }

-- white space
pub blank : (u : Bool) (space : Bytes) → list_all is_space space ≡ true → Lays u (λ ts. ts) space
blank u space h = record { ends = λ ts are. are; lexes = λ ts bs are fits rest. Lexes-space space ts bs h rest }

word_follows : (w bs : Bytes) → EndsWord bs → MayFollow (name w) bs
word_follows w [] h = tt
word_follows w (b ∷ bs) h = h

number_follows : (n : ℕ) (bs : Bytes) → EndsWord bs → MayFollow (number n) bs
number_follows n [] h = tt
number_follows n (b ∷ bs) h = digit (is_digit b) refl
  where
    digit : (d : Bool) → is_digit b ≡ d → d ≡ false
    digit true e = absurd (true≢false (sym (or_left (is_letter b || is_digit b) (b == 95) (or_right (is_letter b) (is_digit b) e)) ∙ h))
    digit false e = refl

keyword_follows : (k : Keyword) (bs : Bytes) → EndsWord bs → MayFollow (keyword k) bs
keyword_follows k [] h = tt
keyword_follows k (b ∷ bs) h = h

-- a token that the end of a word ends
token_lays : (t : Token) → ((bs : Bytes) → EndsWord bs → MayFollow t bs) → Lays true (λ ts. t ∷ ts) (spelling t)
token_lays t follows = record {
  ends = λ ts are. are.1;
  lexes = λ ts bs are fits rest. Lexes-token [] t ts bs refl are.0 (follows bs fits) rest;
}

pub word_lays : (w : Bytes) → Lays true (λ ts. name w ∷ ts) w
word_lays w = token_lays (name w) (word_follows w)

pub number_lays : (n : ℕ) → Lays true (λ ts. number n ∷ ts) (decimal n)
number_lays n = token_lays (number n) (number_follows n)

pub keyword_lays : (k : Keyword) → Lays true (λ ts. keyword k ∷ ts) (keyword_spelling k)
keyword_lays k = token_lays (keyword k) (keyword_follows k)

-- Tokens with white space before each, and white space at the end.
pub record Spaced : Type 0 where
  pub space : Bytes
  pub token : Token

abbrev pub fixed_text : List Spaced → Text
fixed_text [] ts = ts
fixed_text (p ∷ ps) ts = p.token ∷ fixed_text ps ts

abbrev pub fixed_bytes : List Spaced → Bytes → Bytes
fixed_bytes [] end = end
fixed_bytes (p ∷ ps) end = p.space ++ (spelling p.token ++ fixed_bytes ps end)

-- the marks that no longer token begins with
abbrev pub stands_alone : Token → Bool
stands_alone (mark equals) = false
stands_alone (mark m) = true
stands_alone _ = false

-- whether these bytes end the token, whatever stands behind them
abbrev pub ends_token : Token → Bytes → Bool
ends_token t [] = stands_alone t
ends_token t (b ∷ bs) = not (joins t b)

abbrev pub is_fixed : List Spaced → Bytes → Bool
is_fixed [] end = list_all is_space end
is_fixed (p ∷ ps) end = list_all is_space p.space && (ends_token p.token (fixed_bytes ps end) && is_fixed ps end)

mark_alone : (m : Mark) → stands_alone (mark m) ≡ true → (b : ℕ) → mark_joins m b ≡ false
mark_alone open_brace h b = refl
mark_alone close_brace h b = refl
mark_alone open_square h b = refl
mark_alone close_square h b = refl
mark_alone open_round h b = refl
mark_alone close_round h b = refl
mark_alone semicolon h b = refl
mark_alone colon h b = refl
mark_alone question h b = refl
mark_alone dot h b = refl
mark_alone equals h b = absurd (true≢false (sym h))

alone_follows : (t : Token) → stands_alone t ≡ true → (bs : Bytes) → MayFollow t bs
alone_follows t h [] = tt
alone_follows (mark m) h (b ∷ bs) = mark_alone m h b
alone_follows (name w) h (b ∷ bs) = absurd (true≢false (sym h))
alone_follows (number n) h (b ∷ bs) = absurd (true≢false (sym h))
alone_follows (operator op) h (b ∷ bs) = absurd (true≢false (sym h))
alone_follows (relation op) h (b ∷ bs) = absurd (true≢false (sym h))
alone_follows (keyword k) h (b ∷ bs) = absurd (true≢false (sym h))

end_follows : (t : Token) (c bs : Bytes) → ends_token t c ≡ true → MayFollow t (c ++ bs)
end_follows t [] bs h = alone_follows t h bs
end_follows t (b ∷ c) bs h = not-true (joins t b) h

-- a token with white space before it, in front of others that end it
spaced_before : (p : Spaced) {s : Text} {c : Bytes} → list_all is_space p.space ≡ true → ends_token p.token c ≡ true → Lays false s c
    → Lays false (λ ts. p.token ∷ s ts) (p.space ++ (spelling p.token ++ c))
spaced_before p {s} {c} blank_ end_ h = record {
  ends = λ ts are. h.ends ts are.1;
  lexes = λ ts bs are fits rest. subst (λ l. Lexes (p.token ∷ s ts) l)
      (sym (append_assoc p.space (spelling p.token ++ c) bs ∙ ap (λ l. p.space ++ l) (append_assoc (spelling p.token) c bs)))
      (Lexes-token p.space p.token (s ts) (c ++ bs) blank_ are.0 (end_follows p.token c bs end_) (h.lexes ts bs are.1 tt rest));
}

pub fixed : (ps : List Spaced) (end : Bytes) → is_fixed ps end ≡ true → Lays false (fixed_text ps) (fixed_bytes ps end)
fixed [] end h = blank false end h
fixed (p ∷ ps) end h =
    let first = and_parts (list_all is_space p.space) (ends_token p.token (fixed_bytes ps end) && is_fixed ps end) h in
    let others = and_parts (ends_token p.token (fixed_bytes ps end)) (is_fixed ps end) first.1 in
    spaced_before p first.0 others.0 (fixed ps end others.1)

-- a token with this white space before it
abbrev pub behind : Bytes → Token → Spaced
behind space token = record { space = space; token = token }

-- a token right behind another
abbrev pub right_behind : Token → Spaced
right_behind token = record { space = []; token = token }

-- a list of texts, one behind the other
pub each_lays : {A : Type 0} (text : A → Text) (bytes : A → Bytes) → ((x : A) → Lays false (text x) (bytes x)) → (xs : List A)
    → Lays false (each text xs) (flat_map bytes xs)
each_lays text bytes h [] = blank false [] refl
each_lays text bytes h (x ∷ xs) = free (h x) (each_lays text bytes h xs)

-- What may stand behind a sign: a word, or a mark.
abbrev pub BehindSign : List Token → Type 0
BehindSign (name w ∷ ts) = ⊤
BehindSign (keyword k ∷ ts) = ⊤
BehindSign (mark m ∷ ts) = ⊤
BehindSign _ = ⊥

no_sign_in : (t : Token) (ts : List Token) → BehindSign (t ∷ ts) → IsToken t → (bs : Bytes) → MayFollow (operator Sub) (spelling t ++ bs)
no_sign_in (name []) ts h is bs = absurd (true≢false (sym is))
no_sign_in (name (b ∷ w)) ts h is bs =
    letter (and_parts (is_letter b) (list_all is_word_byte w) (and_parts (is_word (b ∷ w)) (not (is_reserved (b ∷ w))) is).0).0
  where
    letter : is_letter b ≡ true → (b == 45) ≡ false
    letter h = grind (arith, nat_tests)
no_sign_in (keyword k) ts h is bs = word k
  where
    word : (k : Keyword) → MayFollow (operator Sub) (keyword_spelling k ++ bs)
    word typedef_ = refl
    word struct_ = refl
    word void_ = refl
    word if_ = refl
    word goto_ = refl
    word switch_ = refl
    word case_ = refl
    word default_ = refl
    word return_ = refl
    word int64_t = refl
    word INT64_C = refl
no_sign_in (mark m) ts h is bs = sign m
  where
    sign : (m : Mark) → MayFollow (operator Sub) (mark_spelling m ++ bs)
    sign open_brace = refl
    sign close_brace = refl
    sign open_square = refl
    sign close_square = refl
    sign open_round = refl
    sign close_round = refl
    sign semicolon = refl
    sign colon = refl
    sign question = refl
    sign dot = refl
    sign equals = refl
no_sign_in (number n) ts h is bs = absurd h
no_sign_in (operator op) ts h is bs = absurd h
no_sign_in (relation op) ts h is bs = absurd h

sign_follows : (ts : List Token) (bs : Bytes) → BehindSign ts → Lexes ts bs → MayFollow (operator Sub) bs
sign_follows [] bs h rest = absurd h
sign_follows (t ∷ ts) bs h rest =
    let b = rest.1.1 in
    subst (λ l. MayFollow (operator Sub) l) (sym b.joined) (go b.space b.blank)
  where
    go : (space : Bytes) → list_all is_space space ≡ true → MayFollow (operator Sub) (space ++ (spelling t ++ rest.1.0))
    go [] blank_ = no_sign_in t ts h rest.1.1.is_token rest.1.0
    go (b ∷ space) blank_ = joins-space (operator Sub) b (and_parts (is_space b) (list_all is_space space) blank_).0

-- a sign, and what may stand behind it
pub signed : {u : Bool} {t : Text} {b : Bytes} → Lays u t b → ((ts : List Token) → BehindSign (t ts))
    → Lays u (λ ts. operator Sub ∷ t ts) (codes "-" ++ b)
signed {u} {t} {b} h k = record {
  ends = λ ts are. h.ends ts are.1;
  lexes = λ ts bs are fits rest.
      let inner = h.lexes ts bs are.1 fits rest in
      Lexes-token [] (operator Sub) (t ts) (b ++ bs) refl tt (sign_follows (t ts) (b ++ bs) (k ts) inner) inner;
}
