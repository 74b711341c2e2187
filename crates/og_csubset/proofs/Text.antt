-- Reading a program off the bytes of a text: it finds exactly the program that the text spells.
use Rattle.std.proofs.Common.{◌≡◌, ℕ, zero, suc, ◌<◌, ◌≤◌, Bool, true, false, cond, List, [], ◌∷◌, ◌++◌, length, ◌==◌, Option, Some, None, option_map, option_and_then, refl, sym, ap, ◌∙◌, subst, arith, length-append, eqb-true, eq-eqb, ap₂}
use Rattle.std.specs.List.{list_all}
use Rattle.og_csubset.specs.declared.CProgram.{CProgram}
use Rattle.og_csubset.specs.Tokens.{Token, spelling, is_space, IsToken, Begins, Lexes, HasTokens, first_line}
use Rattle.og_csubset.specs.Nesting.{nesting, HasNesting}
use Rattle.og_csubset.specs.Spelling.{CSpells}
use Rattle.og_csubset.specs.Lexing.{first_token, next_token}
use Rattle.og_csubset.proofs.Lexing.{next-begins, next-blank, token_found}
use Rattle.og_csubset.proofs.Lexed.{begins-next}
use Rattle.og_csubset.specs.Reading.{read_tokens}
use Rattle.og_csubset.proofs.Seen.{nothing, Some-same}
use Rattle.og_csubset.proofs.Complete.{read_complete}
use Rattle.og_csubset.proofs.Sound.{read_sound}

-- the tokens of the bytes, at most `f` of them
abbrev pub lex_step : Bool → Option (Token × List ℕ) → (List ℕ → Option (List Token)) → Option (List Token)
lex_step true first go = Some []
lex_step false None go = None
lex_step false (Some p) go = option_map (λ ts. p.0 ∷ ts) (go p.1)

unfoldable pub lex : ℕ → List ℕ → Option (List Token)
lex zero bytes = cond (list_all is_space bytes) (Some []) None
lex (suc f) bytes = lex_step (list_all is_space bytes) (next_token bytes) (λ rest. lex f rest)

seen_map : {A B : Type 0} (g : A → B) (o : Option A) (y : B) → option_map g o ≡ Some y → (x : A) × (o ≡ Some x) × (g x ≡ y)
seen_map g None y h = nothing y h
seen_map g (Some x) y h = (x, refl, Some-same (g x) y h)

lex_sound : (f : ℕ) (bytes : List ℕ) (ts : List Token) → lex f bytes ≡ Some ts → Lexes ts bytes
unfolding lex
lex_sound zero bytes ts h = go (list_all is_space bytes) refl h
  where
    go : (c : Bool) → list_all is_space bytes ≡ c → cond c (Some []) None ≡ Some ts → Lexes ts bytes
    go true e h = subst (λ l. Lexes l bytes) (Some-same [] ts h) (bytes, refl, e)
    go false e h = nothing ts h
lex_sound (suc f) bytes ts h = go (λ rest us. lex_sound f rest us) (list_all is_space bytes) (next_token bytes) refl refl h
  where
    Later : Type 0
    Later = (rest : List ℕ) (us : List Token) → lex f rest ≡ Some us → Lexes us rest

    go : Later → (c : Bool) (o : Option (Token × List ℕ)) → list_all is_space bytes ≡ c → next_token bytes ≡ o
        → lex_step c o (λ rest. lex f rest) ≡ Some ts → Lexes ts bytes
    go later true o e k h = subst (λ l. Lexes l bytes) (Some-same [] ts h) (bytes, refl, e)
    go later false None e k h = nothing ts h
    go later false (Some p) e k h =
        let others = seen_map (λ us. p.0 ∷ us) (lex f p.1) ts h in
        let rest = later p.1 others.0 others.1 in
        subst (λ l. Lexes l bytes) others.2 (rest.0, (p.1, begins-next bytes p.0 p.1 k, rest.1), rest.2)

pub some_byte : (t : Token) → IsToken t → 0 < length (spelling t)
unfolding first_token
some_byte t is = go (spelling t) refl
  where
    found : first_token (spelling t ++ []) ≡ Some (t, [])
    found = token_found t [] is tt

    go : (w : List ℕ) → spelling t ≡ w → 0 < length (spelling t)
    go [] e = nothing (t, []) (sym (ap (λ l. first_token (l ++ [])) e) ∙ found)
    go (b ∷ bs) e = omega (arith, ap (λ l. length l) e)

pub begins_shrinks : (bytes : List ℕ) (t : Token) (rest : List ℕ) → Begins bytes t rest → length rest < length bytes
begins_shrinks bytes t rest h =
    let e : length bytes ≡ length (h.space ++ (spelling t ++ rest)) = ap (λ l. length l) h.joined in
    omega (arith, e, length-append h.space (spelling t ++ rest), length-append (spelling t) rest, some_byte t h.is_token)

lex_complete : (f : ℕ) (ts : List Token) (bytes : List ℕ) → Lexes ts bytes → length bytes ≤ f → lex f bytes ≡ Some ts
unfolding lex
lex_complete zero [] bytes h fits = rw (subst (λ b. list_all is_space b ≡ true) (sym h.1) h.2)
lex_complete (suc f) [] bytes h fits = rw (subst (λ b. list_all is_space b ≡ true) (sym h.1) h.2)
lex_complete zero (t ∷ ts) bytes h fits = absurd (omega (arith, begins_shrinks bytes t h.1.0 h.1.1))
lex_complete (suc f) (t ∷ ts) bytes h fits =
    let later = lex_complete f ts h.1.0 (h.0, h.1.2, h.2) (omega (arith, begins_shrinks bytes t h.1.0 h.1.1)) in
    go (list_all is_space bytes) refl later
  where
    first : next_token bytes ≡ Some (t, h.1.0)
    first = next-begins bytes t h.1.0 h.1.1

    go : (c : Bool) → list_all is_space bytes ≡ c → lex f h.1.0 ≡ Some ts → lex_step c (next_token bytes) (λ rest. lex f rest) ≡ Some (t ∷ ts)
    go true e later = nothing (t, h.1.0) (sym (next-blank bytes e) ∙ first)
    go false e later = rw (first, later)

-- what stands behind these first bytes
unfoldable pub behind : List ℕ → List ℕ → Option (List ℕ)
behind [] bs = Some bs
behind (p ∷ ps) [] = None
behind (p ∷ ps) (b ∷ bs) = cond (p == b) (behind ps bs) None

pub behind_sound : (ps bs rest : List ℕ) → behind ps bs ≡ Some rest → bs ≡ ps ++ rest
unfolding behind
behind_sound [] bs rest h = Some-same bs rest h
behind_sound (p ∷ ps) [] rest h = nothing rest h
behind_sound (p ∷ ps) (b ∷ bs) rest h = go (p == b) refl (behind_sound ps bs rest) h
  where
    go : (c : Bool) → (p == b) ≡ c → (behind ps bs ≡ Some rest → bs ≡ ps ++ rest) → cond c (behind ps bs) None ≡ Some rest → b ∷ bs ≡ p ∷ (ps ++ rest)
    go true e later h = ap₂ (λ x xs. x ∷ xs) (sym (eqb-true p b e)) (later h)
    go false e later h = nothing rest h

pub behind_complete : (ps rest : List ℕ) → behind ps (ps ++ rest) ≡ Some rest
unfolding behind
behind_complete [] rest = refl
behind_complete (p ∷ ps) rest = rw (eq-eqb p p refl, behind_complete ps rest)

-- the tokens of the text
unfoldable pub tokens_of : List ℕ → Option (List Token)
tokens_of text = option_and_then (λ body. lex (length body) body) (behind first_line text)

-- the program that the text spells
unfoldable pub read_text : List ℕ → Option CProgram
read_text text = option_and_then read_tokens (tokens_of text)

seen_and_then : {A B : Type 0} (g : A → Option B) (o : Option A) (y : B) → option_and_then g o ≡ Some y → (x : A) × (o ≡ Some x) × (g x ≡ Some y)
seen_and_then g None y h = nothing y h
seen_and_then g (Some x) y h = (x, refl, h)

pub HasTokens-lexed : (tokens : List Token) (text : List ℕ) → tokens_of text ≡ Some tokens → HasTokens tokens text
unfolding tokens_of
HasTokens-lexed tokens text h =
    let a = seen_and_then (λ body. lex (length body) body) (behind first_line text) tokens h in
    (a.0, behind_sound first_line text a.0 a.1, lex_sound (length a.0) a.0 tokens a.2)

pub lexed-HasTokens : (tokens : List Token) (text : List ℕ) → HasTokens tokens text → tokens_of text ≡ Some tokens
unfolding tokens_of
lexed-HasTokens tokens text h =
    let start : behind first_line text ≡ Some h.0 = ap (λ l. behind first_line l) h.1 ∙ behind_complete first_line h.0 in
    let found : lex (length h.0) h.0 ≡ Some tokens = lex_complete (length h.0) tokens h.0 h.2 (omega arith) in
    rw (start, found)

pub CSpells-read : (P : CProgram) (text : List ℕ) → read_text text ≡ Some P → CSpells P text
unfolding read_text
CSpells-read P text h =
    let a = seen_and_then read_tokens (tokens_of text) P h in
    (a.0, HasTokens-lexed a.0 text a.1, read_sound a.0 P a.2)

pub read-CSpells : (P : CProgram) (text : List ℕ) → CSpells P text → read_text text ≡ Some P
unfolding read_text
read-CSpells P text h = rw (lexed-HasTokens h.0 text h.1, read_complete h.2)

-- a text that the reader refuses no program spells
pub spelt_by_none : (text : List ℕ) → read_text text ≡ None → (P : CProgram) → CSpells P text → ⊥
spelt_by_none text h P spelt = nothing P (sym h ∙ read-CSpells P text spelt)

-- the nesting of a text, by its tokens
pub nests : (text : List ℕ) (tokens : List Token) (depth : ℕ) → tokens_of text ≡ Some tokens → nesting tokens ≡ depth → HasNesting text depth
nests text tokens depth h e = (tokens, HasTokens-lexed tokens text h, e)

-- the same, computed
pub nests_by : (text : List ℕ) (depth : ℕ) → option_map nesting (tokens_of text) ≡ Some depth → HasNesting text depth
nests_by text depth h =
    let a = seen_map nesting (tokens_of text) depth h in nests text a.0 depth a.1 a.2
