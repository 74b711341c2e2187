-- A text goes wrong at one place at most, and one that a program spells nowhere.
use Rattle.std.proofs.Common.{◌≡◌, ℕ, true, List, [], ◌∷◌, ◌++◌, refl, sym, ap, ◌∙◌, subst, append_assoc}
use Rattle.std.specs.List.{list_all}
use Rattle.std.proofs.lemmas.List.{append_cancel_left, append_cancel_right}
use Rattle.og_csubset.specs.declared.CProgram.{CProgram}
use Rattle.og_csubset.specs.Tokens.{Token, is_space, Begins, Cuts, first_line}
use Rattle.og_csubset.specs.Spelling.{IsProgram, CSpells}
use Rattle.og_csubset.specs.Wrong.{BeginsProgram, BeginsWithNoSpace, GoesWrongBehind, GoesWrong, in_first_line, behind}
use Rattle.og_csubset.specs.Lexing.{cut, StopsAt}
use Rattle.og_csubset.proofs.Lexing.{cut-append, same_first, nothing_first}

-- one more token at the end of those before
pub regroup : (a : List Token) (x : Token) (b : List Token) → (a ++ x ∷ []) ++ b ≡ a ++ x ∷ b
regroup a x b = simp append_assoc

-- a program that begins with more tokens begins with fewer
pub fewer : (ts : List Token) (t : Token) (us : List Token) → BeginsProgram (ts ++ t ∷ us) → BeginsProgram (ts ++ t ∷ [])
fewer ts t us h = (h.0, us ++ h.1, subst (λ l. IsProgram h.0 l) (ap (λ l. l ++ h.1) (sym (regroup ts t us)) ∙ append_assoc (ts ++ t ∷ []) us h.1) h.2)

-- from a place on, with these tokens before it: the text goes wrong behind these tokens
record Wrong (before : List Token) (body : List ℕ) (tokens : List Token) (rest : List ℕ) : Type 0 where
  cuts : Cuts tokens body rest
  so_far : BeginsProgram (before ++ tokens)
  no_token : (token : Token) (more : List ℕ) → Begins rest token more → BeginsProgram (before ++ (tokens ++ token ∷ [])) → ⊥

-- the same, one token further
further : (before : List Token) (body : List ℕ) (t : Token) (tokens : List Token) (rest : List ℕ) (w : Wrong before body (t ∷ tokens) rest)
    → Wrong (before ++ t ∷ []) w.cuts.0 tokens rest
further before body t tokens rest w = record {
  cuts = w.cuts.2;
  so_far = subst BeginsProgram (sym (regroup before t tokens)) w.so_far;
  no_token = λ u more b h. w.no_token u more b (subst BeginsProgram (regroup before t (tokens ++ u ∷ [])) h);
}

one_way : (before : List Token) (body : List ℕ) (ts us : List Token) (here there : List ℕ) → Wrong before body ts here → Wrong before body us there
    → here ≡ there
one_way before body [] [] here there v w = sym v.cuts ∙ w.cuts
one_way before body [] (u ∷ us) here there v w =
    absurd (v.no_token u w.cuts.0 (subst (λ b. Begins b u w.cuts.0) v.cuts w.cuts.1) (fewer before u us w.so_far))
one_way before body (t ∷ ts) [] here there v w =
    absurd (w.no_token t v.cuts.0 (subst (λ b. Begins b t v.cuts.0) w.cuts v.cuts.1) (fewer before t ts v.so_far))
one_way before body (t ∷ ts) (u ∷ us) here there v w =
    let same = same_first body t u v.cuts.0 w.cuts.0 v.cuts.1 w.cuts.1 in
    let w' = further before body u us there w in
    let w'' : Wrong (before ++ t ∷ []) v.cuts.0 us there =
    subst (λ x. Wrong (before ++ x ∷ []) v.cuts.0 us there) (sym same.0)
    (subst (λ b. Wrong (before ++ u ∷ []) b us there) (sym same.1) w') in
    one_way (before ++ t ∷ []) v.cuts.0 ts us here there (further before body t ts here v) w''

pub stops : (here : List ℕ) → BeginsWithNoSpace here → StopsAt is_space here
stops [] h = tt
stops (b ∷ bs) h = h

wrong : (text before : List ℕ) (h : GoesWrongBehind text before) → Wrong [] h.body h.tokens h.rest
wrong text before h = record { cuts = h.cuts; so_far = h.so_far; no_token = h.no_token }

pub GoesWrong-unique : (text before other : List ℕ) → GoesWrong text before → GoesWrong text other → before ≡ other
GoesWrong-unique text before other (in_first_line h) (in_first_line k) = refl
GoesWrong-unique text before other (in_first_line h) (behind k) = absurd (h k.body k.starts)
GoesWrong-unique text before other (behind h) (in_first_line k) = absurd (k h.body h.starts)
GoesWrong-unique text before other (behind h) (behind k) =
    let body : h.body ≡ k.body = append_cancel_left first_line h.body k.body (sym h.starts ∙ k.starts) in
    let rest : h.rest ≡ k.rest = one_way [] h.body h.tokens k.tokens h.rest k.rest (wrong text before h)
    (subst (λ b. Wrong [] b k.tokens k.rest) (sym body) (wrong text other k)) in
    let mine : cut is_space h.rest ≡ (h.space, h.here) = ap (cut is_space) h.joined ∙ cut-append is_space h.space h.here h.blank (stops h.here h.at_byte) in
    let its : cut is_space k.rest ≡ (k.space, k.here) = ap (cut is_space) k.joined ∙ cut-append is_space k.space k.here k.blank (stops k.here k.at_byte) in
    let here : h.here ≡ k.here = ap (λ p. p.1) (sym mine ∙ ap (cut is_space) rest ∙ its) in
    append_cancel_right before other k.here (sym (ap (λ l. before ++ l) here) ∙ (sym h.place ∙ k.place))

nowhere : (P : CProgram) (before : List Token) (body end : List ℕ) (ts us : List Token) (rest : List ℕ) → IsProgram P (before ++ ts)
    → Cuts ts body end → list_all is_space end ≡ true → Wrong before body us rest
    → (list_all is_space rest ≡ true → IsProgram P (before ++ us) → ⊥) → ⊥
nowhere P before body end [] [] rest p c blank w no_end = no_end (subst (λ b. list_all is_space b ≡ true) (sym c ∙ w.cuts) blank) p
nowhere P before body end [] (u ∷ us) rest p c blank w no_end =
    nothing_first body u w.cuts.0 (subst (λ b. list_all is_space b ≡ true) (sym c) blank) w.cuts.1
nowhere P before body end (t ∷ ts) [] rest p c blank w no_end =
    w.no_token t c.0 (subst (λ b. Begins b t c.0) w.cuts c.1) (P, ts, subst (λ l. IsProgram P l) (sym (regroup before t ts)) p)
nowhere P before body end (t ∷ ts) (u ∷ us) rest p c blank w no_end =
    let same = same_first body t u c.0 w.cuts.0 c.1 w.cuts.1 in
    let w' = further before body u us rest w in
    let w'' : Wrong (before ++ t ∷ []) c.0 us rest =
    subst (λ x. Wrong (before ++ x ∷ []) c.0 us rest) (sym same.0)
    (subst (λ b. Wrong (before ++ u ∷ []) b us rest) (sym same.1) w') in
    nowhere P (before ++ t ∷ []) c.0 end ts us rest (subst (λ l. IsProgram P l) (sym (regroup before t ts)) p) c.2 blank w''
    (λ e q. no_end e (subst (λ x. IsProgram P (before ++ x ∷ us)) same.0 (subst (λ l. IsProgram P l) (regroup before t us) q)))

pub spelt_or_wrong : (P : CProgram) (text before : List ℕ) → CSpells P text → GoesWrong text before → ⊥
spelt_or_wrong P text before h (in_first_line k) = k h.1.0 h.1.1
spelt_or_wrong P text before h (behind k) =
    let body : h.1.0 ≡ k.body = append_cancel_left first_line h.1.0 k.body (sym h.1.1 ∙ k.starts) in
    nowhere P [] h.1.0 h.1.2.0 h.0 k.tokens k.rest h.2 h.1.2.1 h.1.2.2 (subst (λ b. Wrong [] b k.tokens k.rest) (sym body) (wrong text before k))
    (λ e q. k.no_end e P q)
