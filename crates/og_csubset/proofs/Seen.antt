-- What the tokens are where a part of the reader found something.
use Rattle.std.proofs.Common.{◌≡◌, ℕ, zero, suc, ◌-◌, ◌^◌, Bool, true, false, cond, List, [], ◌∷◌, ◌==◌, Option, Some, None, refl, sym, ap, ◌∙◌, eqb-true, inl, inr, ◌⊎◌}
use Rattle.std.proofs.lemmas.Bool.{true≢false}
use Rattle.og_csubset.specs.declared.CExpr.{CExpr, Number}
use Rattle.og_csubset.specs.declared.COp.TheVariants.{Add, Sub, Mul, Div, Rem}
use Rattle.og_csubset.specs.declared.CRel.{CRel}
use Rattle.og_csubset.specs.Tokens.{Token, name, number, operator, relation, keyword, mark, Keyword, typedef_, struct_, void_, if_, goto_, switch_, case_, default_, return_, int64_t, INT64_C, Mark, open_brace, close_brace, open_square, close_square, open_round, close_round, semicolon, colon, question, dot, equals}
use Rattle.og_csubset.specs.Spelling.{least, literal, least_text}
use Rattle.og_csubset.specs.Reading.{Found, and_then, or_else, mark_number, keyword_number, at_mark, at_keyword, at_name, at_number, at_relation, literal_at, least_end, least_at}

mark_of : ℕ → Mark
mark_of zero = open_brace
mark_of (suc zero) = close_brace
mark_of (suc (suc zero)) = open_square
mark_of (suc (suc (suc zero))) = close_square
mark_of (suc (suc (suc (suc zero)))) = open_round
mark_of (suc (suc (suc (suc (suc zero))))) = close_round
mark_of (suc (suc (suc (suc (suc (suc zero)))))) = semicolon
mark_of (suc (suc (suc (suc (suc (suc (suc zero))))))) = colon
mark_of (suc (suc (suc (suc (suc (suc (suc (suc zero)))))))) = question
mark_of (suc (suc (suc (suc (suc (suc (suc (suc (suc zero))))))))) = dot
mark_of (suc (suc (suc (suc (suc (suc (suc (suc (suc (suc n)))))))))) = equals

mark_of_mark_number : (m : Mark) → mark_of (mark_number m) ≡ m
unfolding mark_of
mark_of_mark_number open_brace = refl
mark_of_mark_number close_brace = refl
mark_of_mark_number open_square = refl
mark_of_mark_number close_square = refl
mark_of_mark_number open_round = refl
mark_of_mark_number close_round = refl
mark_of_mark_number semicolon = refl
mark_of_mark_number colon = refl
mark_of_mark_number question = refl
mark_of_mark_number dot = refl
mark_of_mark_number equals = refl

pub same_mark_number : (m k : Mark) → (mark_number m == mark_number k) ≡ true → m ≡ k
same_mark_number m k h = sym (mark_of_mark_number m) ∙ ap mark_of (eqb-true (mark_number m) (mark_number k) h) ∙ mark_of_mark_number k

keyword_of : ℕ → Keyword
keyword_of zero = typedef_
keyword_of (suc zero) = struct_
keyword_of (suc (suc zero)) = void_
keyword_of (suc (suc (suc zero))) = if_
keyword_of (suc (suc (suc (suc zero)))) = goto_
keyword_of (suc (suc (suc (suc (suc zero))))) = switch_
keyword_of (suc (suc (suc (suc (suc (suc zero)))))) = case_
keyword_of (suc (suc (suc (suc (suc (suc (suc zero))))))) = default_
keyword_of (suc (suc (suc (suc (suc (suc (suc (suc zero)))))))) = return_
keyword_of (suc (suc (suc (suc (suc (suc (suc (suc (suc zero))))))))) = int64_t
keyword_of (suc (suc (suc (suc (suc (suc (suc (suc (suc (suc n)))))))))) = INT64_C

keyword_of_keyword_number : (m : Keyword) → keyword_of (keyword_number m) ≡ m
unfolding keyword_of
keyword_of_keyword_number typedef_ = refl
keyword_of_keyword_number struct_ = refl
keyword_of_keyword_number void_ = refl
keyword_of_keyword_number if_ = refl
keyword_of_keyword_number goto_ = refl
keyword_of_keyword_number switch_ = refl
keyword_of_keyword_number case_ = refl
keyword_of_keyword_number default_ = refl
keyword_of_keyword_number return_ = refl
keyword_of_keyword_number int64_t = refl
keyword_of_keyword_number INT64_C = refl

pub same_keyword_number : (m k : Keyword) → (keyword_number m == keyword_number k) ≡ true → m ≡ k
same_keyword_number m k h = sym (keyword_of_keyword_number m) ∙ ap keyword_of (eqb-true (keyword_number m) (keyword_number k) h) ∙ keyword_of_keyword_number k

-- nothing is not something
pub nothing : {A C : Type 0} (p : A) → ◌≡◌ {A = Option A} None (Some p) → C
nothing {A} {C} p h = let none_ : ⊥ = (let e : false ≡ true = ap told h in true≢false (sym e)) in absurd none_
  where
    told : Option A → Bool
    told None = false
    told (Some q) = true

pub Some-same : {A : Type 0} (p q : A) → ◌≡◌ {A = Option A} (Some p) (Some q) → p ≡ q
Some-same p q h = cc

pub seen_then : {A B : Type 0} (o : Found A) (go : A → List Token → Found B) (r : B × List Token) → and_then o go ≡ Some r
    → (x : A) × (us : List Token) × (o ≡ Some (x, us)) × (go x us ≡ Some r)
seen_then None go r h = nothing r h
seen_then (Some p) go r h = (p.0, p.1, refl, h)

pub seen_else : {A : Type 0} (o other : Found A) (r : A × List Token) → or_else o other ≡ Some r
    → (o ≡ Some r) ⊎ ((o ≡ None) × (other ≡ Some r))
seen_else None other r h = inr (refl, h)
seen_else (Some p) other r h = inl h

pub seen_cond : {A : Type 0} (b : Bool) (o : Option A) (r : A) → cond b o None ≡ Some r → (b ≡ true) × (o ≡ Some r)
seen_cond true o r h = (refl, h)
seen_cond false o r h = nothing r h

pub seen_mark : {B : Type 0} (m : Mark) (ts : List Token) (go : List Token → Found B) (r : B × List Token) → at_mark m ts go ≡ Some r
    → (us : List Token) × (ts ≡ mark m ∷ us) × (go us ≡ Some r)
seen_mark m [] go r h = nothing r h
seen_mark m (mark k ∷ us) go r h =
    let seen = seen_cond (mark_number m == mark_number k) (go us) r h in
    (us, ap (λ x. mark x ∷ us) (sym (same_mark_number m k seen.0)), seen.1)
seen_mark m (_ ∷ us) go r h = nothing r h

pub seen_keyword : {B : Type 0} (m : Keyword) (ts : List Token) (go : List Token → Found B) (r : B × List Token) → at_keyword m ts go ≡ Some r
    → (us : List Token) × (ts ≡ keyword m ∷ us) × (go us ≡ Some r)
seen_keyword m [] go r h = nothing r h
seen_keyword m (keyword k ∷ us) go r h =
    let seen = seen_cond (keyword_number m == keyword_number k) (go us) r h in
    (us, ap (λ x. keyword x ∷ us) (sym (same_keyword_number m k seen.0)), seen.1)
seen_keyword m (_ ∷ us) go r h = nothing r h

pub seen_name : {B : Type 0} (ts : List Token) (go : List ℕ → List Token → Found B) (r : B × List Token) → at_name ts go ≡ Some r
    → (w : List ℕ) × (us : List Token) × (ts ≡ name w ∷ us) × (go w us ≡ Some r)
seen_name [] go r h = nothing r h
seen_name (name w ∷ us) go r h = (w, us, refl, h)
seen_name (_ ∷ us) go r h = nothing r h

pub seen_number : {B : Type 0} (ts : List Token) (go : ℕ → List Token → Found B) (r : B × List Token) → at_number ts go ≡ Some r
    → (n : ℕ) × (us : List Token) × (ts ≡ number n ∷ us) × (go n us ≡ Some r)
seen_number [] go r h = nothing r h
seen_number (number n ∷ us) go r h = (n, us, refl, h)
seen_number (_ ∷ us) go r h = nothing r h

pub seen_relation : {B : Type 0} (ts : List Token) (go : CRel → List Token → Found B) (r : B × List Token) → at_relation ts go ≡ Some r
    → (op : CRel) × (us : List Token) × (ts ≡ relation op ∷ us) × (go op us ≡ Some r)
seen_relation [] go r h = nothing r h
seen_relation (relation op ∷ us) go r h = (op, us, refl, h)
seen_relation (_ ∷ us) go r h = nothing r h

-- where a literal is read, its four tokens stand
pub seen_literal : (ts rest : List Token) (n : ℕ) → literal_at ts ≡ Some (n, rest) → ts ≡ literal n rest
seen_literal ts rest n h =
    let a = seen_keyword INT64_C ts _ _ h in
    let b = seen_mark open_round a.0 _ _ a.2 in
    let c = seen_number b.0 _ _ b.2 in
    let d = seen_mark close_round c.1 _ _ c.3 in
    let e = Some-same (c.0, d.0) (n, rest) d.2 in
    let same : literal c.0 d.0 ≡ literal n rest = ap (λ p. literal p.0 p.1) e in
    a.1 ∙ ap (λ us. keyword INT64_C ∷ us) (b.1 ∙ ap (λ us. mark open_round ∷ us) (c.2 ∙ ap (λ us. number c.0 ∷ us) d.1)) ∙ same

-- and where -2^63 is read, its twelve
seen_end : (ts rest : List Token) (e : CExpr) → least_end ts ≡ Some (e, rest)
    → (e ≡ Number least) × (ts ≡ operator Sub ∷ literal 1 (mark close_round ∷ rest))
seen_end (operator Sub ∷ ts) rest e h =
    let a = seen_then (literal_at ts) _ _ h in
    let b = seen_cond (a.0 == 1) _ _ a.3 in
    let c = seen_mark close_round a.1 _ _ b.1 in
    let same = Some-same (Number least, c.0) (e, rest) c.2 in
    let one : ts ≡ literal 1 a.1 = seen_literal ts a.1 a.0 a.2 ∙ ap (λ n. literal n a.1) (eqb-true a.0 1 b.0) in
    (sym (ap (λ p. p.0) same), ap (λ us. operator Sub ∷ us) (one ∙ ap (λ us. literal 1 us) (c.1 ∙ ap (λ us. mark close_round ∷ us) (ap (λ p. p.1) same))))
seen_end [] rest e h = nothing _ h
seen_end (operator Add ∷ ts) rest e h = nothing _ h
seen_end (operator Mul ∷ ts) rest e h = nothing _ h
seen_end (operator Div ∷ ts) rest e h = nothing _ h
seen_end (operator Rem ∷ ts) rest e h = nothing _ h
seen_end (name w ∷ ts) rest e h = nothing _ h
seen_end (number n ∷ ts) rest e h = nothing _ h
seen_end (relation op ∷ ts) rest e h = nothing _ h
seen_end (keyword k ∷ ts) rest e h = nothing _ h
seen_end (mark m ∷ ts) rest e h = nothing _ h

pub seen_least : (ts rest : List Token) (e : CExpr) → least_at ts ≡ Some (e, rest)
    → (e ≡ Number least) × (mark open_round ∷ ts ≡ least_text rest)
seen_least (operator Sub ∷ ts) rest e h =
    let a = seen_then (literal_at ts) _ _ h in
    let b = seen_cond (a.0 == 2 ^ 63 - 1) _ _ a.3 in
    let c = seen_end a.1 rest e b.1 in
    let first : ts ≡ literal (2 ^ 63 - 1) a.1 = seen_literal ts a.1 a.0 a.2 ∙ ap (λ n. literal n a.1) (eqb-true a.0 (2 ^ 63 - 1) b.0) in
    (c.0, ap (λ us. mark open_round ∷ operator Sub ∷ us) (first ∙ ap (λ us. literal (2 ^ 63 - 1) us) c.1))
seen_least [] rest e h = nothing _ h
seen_least (operator Add ∷ ts) rest e h = nothing _ h
seen_least (operator Mul ∷ ts) rest e h = nothing _ h
seen_least (operator Div ∷ ts) rest e h = nothing _ h
seen_least (operator Rem ∷ ts) rest e h = nothing _ h
seen_least (name w ∷ ts) rest e h = nothing _ h
seen_least (number n ∷ ts) rest e h = nothing _ h
seen_least (relation op ∷ ts) rest e h = nothing _ h
seen_least (keyword k ∷ ts) rest e h = nothing _ h
seen_least (mark m ∷ ts) rest e h = nothing _ h

pub not_least : (ts : List Token) → ((more : List Token) → mark open_round ∷ ts ≡ least_text more → ⊥) → least_at ts ≡ None
not_least ts other = go (least_at ts) refl
  where
    go : (o : Found CExpr) → least_at ts ≡ o → least_at ts ≡ None
    go None e = e
    go (Some p) e = absurd (other p.1 (seen_least ts p.1 p.0 e).1)

pub least_missed : (ts : List Token) → least_at ts ≡ None → (more : List Token) → mark open_round ∷ ts ≡ least_text more → ⊥
least_missed ts missed more same = nothing (Number least, more) (sym missed ∙ ap least_at (ap behind_first same))
  where
    behind_first : List Token → List Token
    behind_first [] = []
    behind_first (u ∷ us) = us
