-- A text that nests too deep has one place where it does, and a text that does not has none.
use Rattle.std.proofs.Common.{◌≡◌, ℕ, ◌<◌, ◌≤◌, List, [], ◌∷◌, ◌++◌, ⊎_elim, None, refl, sym, ap, ◌∙◌, subst, arith, append_assoc, ap₂, le_trans, le-ltb}
use Rattle.std.proofs.Math.Nat.{le-max_left, le-max_right, max-le}
use Rattle.std.proofs.lemmas.Bool.{cases_lt}
use Rattle.std.proofs.lemmas.List.{append_cancel_left, append_cancel_right}
use Rattle.og_csubset.specs.Tokens.{Token, spelling, Begins, Cuts, HasTokens, first_line}
use Rattle.og_csubset.specs.Nesting.{Nest, outermost, after_token, after_tokens, nesting_from, nesting, first_past_from, first_past, IsWithinNesting, PassesNesting}
use Rattle.og_csubset.proofs.Lexing.{same_first, nothing_first}

abbrev pub depth : Nest → ℕ
depth nest = nest.level.depth

pub first_within : (limit : ℕ) (n : Nest) (t : Token) (ts : List Token) → nesting_from n (t ∷ ts) ≤ limit → depth (after_token t n) ≤ limit
first_within limit n t ts h = le_trans (le-max_left (depth (after_token t n)) (nesting_from (after_token t n) ts)) h

pub others_within : (limit : ℕ) (n : Nest) (t : Token) (ts : List Token) → nesting_from n (t ∷ ts) ≤ limit → nesting_from (after_token t n) ts ≤ limit
others_within limit n t ts h = le_trans (le-max_right (depth (after_token t n)) (nesting_from (after_token t n) ts)) h

-- from a state on: these tokens stand before one that passes the limit first
pub record Passes (limit : ℕ) (n : Nest) (body : List ℕ) (ts : List Token) (t : Token) (here rest : List ℕ) : Type 0 where
  pub cuts : Cuts ts body here
  pub begins : Begins here t rest
  pub within : nesting_from n ts ≤ limit
  pub past : limit < depth (after_tokens (ts ++ t ∷ []) n)

-- all that the place is made of
record Same (here there : List ℕ) (t u : Token) (rest more : List ℕ) : Type 0 where
  here_same : here ≡ there
  token_same : t ≡ u
  rest_same : rest ≡ more

one_way : (limit : ℕ) (n : Nest) (body : List ℕ) (ts us : List Token) (t u : Token) (here there rest more : List ℕ)
    → Passes limit n body ts t here rest → Passes limit n body us u there more → Same here there t u rest more
one_way limit n body [] [] t u here there rest more p q =
    let k : Begins here u more = subst (λ b. Begins b u more) (sym q.cuts ∙ p.cuts) q.begins in
    let same = same_first here t u rest more p.begins k in
    record { here_same = sym p.cuts ∙ q.cuts; token_same = same.0; rest_same = same.1 }
one_way limit n body [] (v ∷ us) t u here there rest more p q =
    let same = same_first here t v rest q.cuts.0 p.begins (subst (λ b. Begins b v q.cuts.0) p.cuts q.cuts.1) in
    let past : limit < depth (after_token v n) = subst (λ x. limit < depth (after_token x n)) same.0 p.past in
    absurd (omega (arith, past, first_within limit n v us q.within))
one_way limit n body (v ∷ ts) [] t u here there rest more p q =
    let same = same_first there u v more p.cuts.0 q.begins (subst (λ b. Begins b v p.cuts.0) q.cuts p.cuts.1) in
    let past : limit < depth (after_token v n) = subst (λ x. limit < depth (after_token x n)) same.0 q.past in
    absurd (omega (arith, past, first_within limit n v ts p.within))
one_way limit n body (v ∷ ts) (w ∷ us) t u here there rest more p q =
    let same = same_first body v w p.cuts.0 q.cuts.0 p.cuts.1 q.cuts.1 in
    let p' : Passes limit (after_token v n) p.cuts.0 ts t here rest = record {
      cuts = p.cuts.2;
      begins = p.begins;
      within = others_within limit n v ts p.within;
      past = p.past;
    } in
    let q' : Passes limit (after_token w n) q.cuts.0 us u there more = record {
      cuts = q.cuts.2;
      begins = q.begins;
      within = others_within limit n w us q.within;
      past = q.past;
    } in
    let q'' : Passes limit (after_token v n) p.cuts.0 us u there more =
    subst (λ x. Passes limit (after_token x n) p.cuts.0 us u there more) (sym same.0)
    (subst (λ b. Passes limit (after_token w n) b us u there more) (sym same.1) q') in
    one_way limit (after_token v n) p.cuts.0 ts us t u here there rest more p' q''

passes : (limit : ℕ) (text before : List ℕ) (h : PassesNesting limit text before) → Passes limit outermost h.body h.tokens h.token h.here h.rest
passes limit text before h = record { cuts = h.cuts; begins = h.begins; within = h.within; past = h.past }

pub PassesNesting-unique : (limit : ℕ) (text before other : List ℕ) → PassesNesting limit text before → PassesNesting limit text other → before ≡ other
PassesNesting-unique limit text before other h k =
    let body : h.body ≡ k.body = append_cancel_left first_line h.body k.body (sym h.starts ∙ k.starts) in
    let same = one_way limit outermost h.body h.tokens k.tokens h.token k.token h.here k.here h.rest k.rest (passes limit text before h)
    (subst (λ b. Passes limit outermost b k.tokens k.token k.here k.rest) (sym body) (passes limit text other k)) in
    let behind : spelling h.token ++ h.rest ≡ spelling k.token ++ k.rest = ap₂ (λ t r. spelling t ++ r) same.token_same same.rest_same in
    append_cancel_right before other (spelling k.token ++ k.rest) (sym (ap (λ l. before ++ l) behind) ∙ (sym h.place ∙ k.place))

-- tokens that cut to the end do not pass where they stay within
no_way : (limit : ℕ) (n : Nest) (body end : List ℕ) (ts us : List Token) (t : Token) (here rest : List ℕ) → Cuts us body end
    → ((v : Token) (r : List ℕ) → Begins end v r → ⊥) → nesting_from n us ≤ limit → Passes limit n body ts t here rest → ⊥
no_way limit n body end [] [] t here rest c blank w p = blank t rest (subst (λ b. Begins b t rest) (sym p.cuts ∙ c) p.begins)
no_way limit n body end [] (v ∷ us) t here rest c blank w p =
    let same = same_first here t v rest c.0 p.begins (subst (λ b. Begins b v c.0) p.cuts c.1) in
    let past : limit < depth (after_token v n) = subst (λ x. limit < depth (after_token x n)) same.0 p.past in
    omega (arith, past, first_within limit n v us w)
no_way limit n body end (v ∷ ts) [] t here rest c blank w p = blank v p.cuts.0 (subst (λ b. Begins b v p.cuts.0) c p.cuts.1)
no_way limit n body end (v ∷ ts) (u ∷ us) t here rest c blank w p =
    let same = same_first body v u p.cuts.0 c.0 p.cuts.1 c.1 in
    let p' : Passes limit (after_token v n) p.cuts.0 ts t here rest = record {
      cuts = p.cuts.2;
      begins = p.begins;
      within = others_within limit n v ts p.within;
      past = p.past;
    } in
    let p'' : Passes limit (after_token u n) c.0 ts t here rest =
    subst (λ x. Passes limit (after_token x n) c.0 ts t here rest) same.0
    (subst (λ b. Passes limit (after_token v n) b ts t here rest) same.1 p') in
    no_way limit (after_token u n) c.0 end ts us t here rest c.2 blank (others_within limit n u us w) p''

pub within_or_past : (limit : ℕ) (text before : List ℕ) → PassesNesting limit text before → IsWithinNesting limit text → ⊥
within_or_past limit text before h k =
    let body : h.body ≡ k.1.0 = append_cancel_left first_line h.body k.1.0 (sym h.starts ∙ k.1.1) in
    no_way limit outermost k.1.0 k.1.2.0 h.tokens k.0 h.token h.here h.rest k.1.2.1 (λ v r b. nothing_first k.1.2.0 v r k.1.2.2 b) k.2
    (subst (λ b. Passes limit outermost b h.tokens h.token h.here h.rest) body (passes limit text before h))

regroup : (a b c d : List ℕ) → a ++ (b ++ (c ++ d)) ≡ (a ++ (b ++ c)) ++ d
regroup a b c d = simp append_assoc

-- the way to the first token that passes
pub record Way (limit : ℕ) (n : Nest) (body : List ℕ) : Type 0 where
  pub tokens : List Token
  pub token : Token
  pub here : List ℕ
  pub rest : List ℕ
  pub bytes : List ℕ
  pub joined : body ≡ bytes ++ here
  pub goes : Passes limit n body tokens token here rest

pub way : (limit : ℕ) (n : Nest) (body end : List ℕ) (ts : List Token) → Cuts ts body end → limit < nesting_from n ts → Way limit n body
way limit n body end [] c h = absurd (omega (arith, h))
way limit n body end (t ∷ ts) c h = ⊎_elim at_once (later (λ more. way limit (after_token t n) c.0 end ts c.2 more)) (cases_lt limit (depth (after_token t n)))
  where
    at_once : limit < depth (after_token t n) → Way limit n body
    at_once past = record {
      tokens = [];
      token = t;
      here = body;
      rest = c.0;
      bytes = [];
      joined = refl;
      goes = record { cuts = refl; begins = c.1; within = omega arith; past = past };
    }

    later : (limit < nesting_from (after_token t n) ts → Way limit (after_token t n) c.0) → depth (after_token t n) ≤ limit → Way limit n body
    later go within =
        let more : limit < nesting_from (after_token t n) ts =
        ⊎_elim (λ k. k) (λ k. let all = max-le within k in absurd (omega (arith, h, all))) (cases_lt limit (nesting_from (after_token t n) ts)) in
        let w = go more in
        record {
          tokens = t ∷ w.tokens;
          token = w.token;
          here = w.here;
          rest = w.rest;
          bytes = c.1.space ++ (spelling t ++ w.bytes);
          joined = c.1.joined ∙ (ap (λ l. c.1.space ++ (spelling t ++ l)) w.joined ∙ regroup c.1.space (spelling t) w.bytes w.here);
          goes = record { cuts = (c.0, c.1, w.goes.cuts); begins = w.goes.begins; within = max-le within w.goes.within; past = w.goes.past };
        }

-- tokens at the beginning of a text that pass the limit have a first one that does
pub past_in : (limit : ℕ) (text body end : List ℕ) (tokens : List Token) → text ≡ first_line ++ body → Cuts tokens body end → limit < nesting tokens
    → (before : List ℕ) × PassesNesting limit text before
past_in limit text body end tokens starts cuts past =
    let w = way limit outermost body end tokens cuts past in
    let b = w.goes.begins in (
      first_line ++ (w.bytes ++ b.space),
      record {
        tokens = w.tokens;
        token = w.token;
        body = body;
        here = w.here;
        rest = w.rest;
        starts = starts;
        cuts = w.goes.cuts;
        begins = b;
        place = starts ∙ (ap (λ l. first_line ++ l) (w.joined ∙ ap (λ l. w.bytes ++ l) b.joined) ∙ regroup first_line w.bytes b.space (spelling w.token ++ w.rest));
        within = w.goes.within;
        past = w.goes.past;
      },
    )

pub past_somewhere : (limit : ℕ) (text : List ℕ) (tokens : List Token) → HasTokens tokens text → limit < nesting tokens
    → (before : List ℕ) × PassesNesting limit text before
past_somewhere limit text tokens h past = past_in limit text h.0 h.2.0 tokens h.1 h.2.1 past

-- the first token that passes, counted
first_past-none : (limit : ℕ) (n : Nest) (ts : List Token) → nesting_from n ts ≤ limit → first_past_from limit n ts ≡ None
first_past-none limit n [] h = refl
first_past-none limit n (t ∷ ts) h =
    let here = first_within limit n t ts h in
    rw (le-ltb limit (depth (after_token t n)) here, first_past-none limit (after_token t n) ts (others_within limit n t ts h))

pub first_past-within : (limit : ℕ) (ts : List Token) → nesting ts ≤ limit → first_past limit ts ≡ None
first_past-within limit ts h = first_past-none limit outermost ts h
