-- What the recognizer accepts the grammar has.
use Rattle.std.proofs.Common.{◌≡◌, ℕ, zero, suc, ◌-◌, ◌^◌, ◌<◌, ◌≤◌, Bool, true, false, cond, ◌&&◌, ◌==◌, List, [], ◌∷◌, ◌++◌, length, ℤ, pos, negsuc, neg_ℤ, ◌⊎◌, inl, inr, ⊎_elim, Some, None, refl, sym, ap, ◌∙◌, subst, arith, nat_lt, nat_le, eqb-true, leb-true, ltb-true}
use Rattle.std.proofs.lemmas.Bool.{true≢false, and_parts}
use Rattle.og_names.specs.declared.Word.{Word}
use Rattle.og_csubset.specs.declared.CProgram.{CProgram}
use Rattle.og_csubset.specs.declared.CStruct.{CStruct}
use Rattle.og_csubset.specs.declared.CType.{CType}
use Rattle.og_csubset.specs.declared.CType.TheVariants.{Int64, Struct}
use Rattle.og_csubset.specs.declared.CFunction.{CFunction}
use Rattle.og_csubset.specs.declared.CStmt.{CStmt}
use Rattle.og_csubset.specs.declared.CStmt.TheVariants.{Assign, IfGoto, Goto, Label, Switch, Call, Return}
use Rattle.og_csubset.specs.declared.CStep.{CStep, Member, At}
use Rattle.og_csubset.specs.declared.CExpr.{CExpr, Number, Read, Minus, Op, Pick}
use Rattle.og_csubset.specs.declared.CTest.{CTest}
use Rattle.og_csubset.specs.declared.COp.{COp}
use Rattle.og_csubset.specs.declared.COp.TheVariants.{Add, Sub, Mul, Div, Rem}
use Rattle.og_csubset.specs.declared.CRel.{CRel}
use Rattle.og_csubset.specs.Tokens.{Token, name, number, operator, relation, keyword, mark, Keyword, typedef_, struct_, void_, if_, goto_, switch_, case_, default_, return_, int64_t, INT64_C, Mark, open_brace, close_brace, open_square, close_square, open_round, close_round, semicolon, colon, question, dot, equals}
use Rattle.og_csubset.specs.Spelling.{word, least, literal, least_text, is_sum, is_product, IsSum, IsProduct, IsSigned, positive, negative, minus_zero, unsigned, minus, IsOperand, read, bracket, pick, least_number, IsTest, test, place, IsPath, path_ends, member, index, Each, none, one_more, IsConstant, constant, negative_constant, least_constant, IsCase, case_goto, IsStatement, assign, if_goto, goto, label, switch, call, return, IsType, number_type, struct_type, IsMember, single, array, IsStruct, structure, IsGlobal, global, IsEvent, event, IsFunction, function, IsProgram, program}
use Rattle.og_csubset.specs.Reading.{Found, least_at, mark_number, keyword_number, number_at, sum_at, negated}
use Rattle.og_csubset.proofs.Seen.{Some-same, seen_least, least_missed, same_mark_number, same_keyword_number}
use Rattle.og_csubset.proofs.Complete.{sum_complete, least_sum, sum_shrinks, signed_shrinks, case_shrinks, statement_shrinks, member_shrinks, struct_shrinks, global_shrinks, function_shrinks}
use Rattle.og_csubset.proofs.Sound.{on}
use Rattle.og_csubset.proofs.PlainSpelt.{to_product, to_sum, sum_on, product_on}
use Rattle.og_csubset.specs.Recognizer.{Symbol, Symbols, a_keyword, a_mark, a_sign, a_name, a_number, this_number, a_size, a_relation, a_sum, more, an_operand, a_path, bracket_rest, a_constant, cases, named_rest, statements, member_rest, a_member, members, structs, globals, head_rest, declarations, functions, step, step_on, and_goes_on, accepts, program_symbols, literal_rest, least_rest, jump_rest, head}

no : {C : Type 0} → ◌≡◌ {A = Bool} false true → C
no h = absurd (true≢false (sym h))

-- one token that the symbols begin with
mark_in : (m : Mark) (S : Symbols) (ts : List Token) → accepts (a_mark m ∷ S) ts ≡ true → (us : List Token) × (ts ≡ mark m ∷ us) × (accepts S us ≡ true)
mark_in m S [] h = no h
mark_in m S (mark k ∷ us) h = go (mark_number m == mark_number k) refl h
  where
    go : (c : Bool) → (mark_number m == mark_number k) ≡ c
        → and_goes_on (step_on (cond c (Some []) None) false S (step S (mark k))) false (λ T. accepts T us) ≡ true
        → (vs : List Token) × (mark k ∷ us ≡ mark m ∷ vs) × (accepts S vs ≡ true)
    go true e h = (us, ap (λ x. mark x ∷ us) (sym (same_mark_number m k e)), h)
    go false e h = no h
mark_in m S (_ ∷ us) h = no h

keyword_in : (m : Keyword) (S : Symbols) (ts : List Token) → accepts (a_keyword m ∷ S) ts ≡ true
    → (us : List Token) × (ts ≡ keyword m ∷ us) × (accepts S us ≡ true)
keyword_in m S [] h = no h
keyword_in m S (keyword k ∷ us) h = go (keyword_number m == keyword_number k) refl h
  where
    go : (c : Bool) → (keyword_number m == keyword_number k) ≡ c
        → and_goes_on (step_on (cond c (Some []) None) false S (step S (keyword k))) false (λ T. accepts T us) ≡ true
        → (vs : List Token) × (keyword k ∷ us ≡ keyword m ∷ vs) × (accepts S vs ≡ true)
    go true e h = (us, ap (λ x. keyword x ∷ us) (sym (same_keyword_number m k e)), h)
    go false e h = no h
keyword_in m S (_ ∷ us) h = no h

name_in : (S : Symbols) (ts : List Token) → accepts (a_name ∷ S) ts ≡ true → (w : List ℕ) × (us : List Token) × (ts ≡ name w ∷ us) × (accepts S us ≡ true)
name_in S [] h = no h
name_in S (name w ∷ us) h = (w, us, refl, h)
name_in S (_ ∷ us) h = no h

number_in : (S : Symbols) (ts : List Token) → accepts (a_number ∷ S) ts ≡ true → (n : ℕ) × (us : List Token) × (ts ≡ number n ∷ us) × (accepts S us ≡ true)
number_in S [] h = no h
number_in S (number n ∷ us) h = (n, us, refl, h)
number_in S (_ ∷ us) h = no h

this_in : (m : ℕ) (S : Symbols) (ts : List Token) → accepts (this_number m ∷ S) ts ≡ true → (us : List Token) × (ts ≡ number m ∷ us) × (accepts S us ≡ true)
this_in m S [] h = no h
this_in m S (number n ∷ us) h = go (n == m) refl h
  where
    go : (c : Bool) → (n == m) ≡ c → and_goes_on (step_on (cond c (Some []) None) false S (step S (number n))) false (λ T. accepts T us) ≡ true
        → (vs : List Token) × (number n ∷ us ≡ number m ∷ vs) × (accepts S vs ≡ true)
    go true e h = (us, ap (λ x. number x ∷ us) (eqb-true n m e), h)
    go false e h = no h
this_in m S (_ ∷ us) h = no h

size_in : (S : Symbols) (ts : List Token) → accepts (a_size ∷ S) ts ≡ true
    → (n : ℕ) × (us : List Token) × (ts ≡ number n ∷ us) × (0 < n) × (n ≤ 65536) × (accepts S us ≡ true)
size_in S [] h = no h
size_in S (number n ∷ us) h = go (nat_lt 0 n && nat_le n 65536) refl h
  where
    go : (c : Bool) → (nat_lt 0 n && nat_le n 65536) ≡ c
        → and_goes_on (step_on (cond c (Some []) None) false S (step S (number n))) false (λ T. accepts T us) ≡ true
        → (m : ℕ) × (vs : List Token) × (number n ∷ us ≡ number m ∷ vs) × (0 < m) × (m ≤ 65536) × (accepts S vs ≡ true)
    go true e h = let parts = and_parts (nat_lt 0 n) (nat_le n 65536) e in (n, us, refl, ltb-true 0 n parts.0, leb-true n 65536 parts.1, h)
    go false e h = no h
size_in S (_ ∷ us) h = no h

relation_in : (S : Symbols) (ts : List Token) → accepts (a_relation ∷ S) ts ≡ true
    → (op : CRel) × (us : List Token) × (ts ≡ relation op ∷ us) × (accepts S us ≡ true)
relation_in S [] h = no h
relation_in S (relation op ∷ us) h = (op, us, refl, h)
relation_in S (_ ∷ us) h = no h

sign_in : (S : Symbols) (ts : List Token) → accepts (a_sign ∷ S) ts ≡ true → (us : List Token) × (ts ≡ operator Sub ∷ us) × (accepts S us ≡ true)
sign_in S [] h = no h
sign_in S (operator Sub ∷ us) h = (us, refl, h)
sign_in S (operator _ ∷ us) h = no h
sign_in S (_ ∷ us) h = no h

-- a literal, behind its first word and with it
literal_in : (S : Symbols) (ts : List Token) → accepts (literal_rest S) ts ≡ true
    → (n : ℕ) × (us : List Token) × (keyword INT64_C ∷ ts ≡ literal n us) × (accepts S us ≡ true)
literal_in S ts h =
    let a = mark_in open_round (a_number ∷ a_mark close_round ∷ S) ts h in
    let b = number_in (a_mark close_round ∷ S) a.0 a.2 in
    let c = mark_in close_round S b.1 b.3 in
    (b.0, c.0, on _ (a.1 ∙ on _ (b.2 ∙ on _ c.1)), c.2)

-- what a bracket is, by what stands in it
bracket_of : (e : CExpr) (ts us : List Token) → IsSum e ts (mark close_round ∷ us) → (x : CExpr) × IsOperand x (mark open_round ∷ ts) us
bracket_of e ts us p = go (least_at ts) refl
  where
    tail : List Token → List Token
    tail [] = []
    tail (v ∷ vs) = vs

    go : (o : Found CExpr) → least_at ts ≡ o → (x : CExpr) × IsOperand x (mark open_round ∷ ts) us
    go None k = (e, bracket p (least_missed ts k))
    go (Some q) k =
        let text : mark open_round ∷ ts ≡ least_text q.1 = (seen_least ts q.1 q.0 k).1 in
        let d = length ts in
        let mine : sum_at (number_at d) (suc (suc d)) ts ≡ Some (e, mark close_round ∷ us) = sum_complete p d (suc (suc d)) refl (omega arith) (omega arith) in
        let its : sum_at (number_at d) (suc (suc d)) ts ≡ Some (Op Sub (Number (negsuc (2 ^ 63 - 2))) (Number (pos 1)), mark close_round ∷ q.1) =
        ap (λ l. sum_at (number_at d) (suc (suc d)) (tail l)) text ∙ least_sum d d q.1 in
        let same : us ≡ q.1 =
        ap (λ r. tail r.1) (Some-same (e, mark close_round ∷ us) (Op Sub (Number (negsuc (2 ^ 63 - 2))) (Number (pos 1)), mark close_round ∷ q.1) (sym mine ∙ its)) in
        (Number least, subst (λ l. IsOperand (Number least) l us) (sym (text ∙ ap least_text (sym same))) least_number)

abbrev SumIn : Symbols → List Token → Type 0
SumIn S ts = (e : CExpr) × (us : List Token) × IsSum e ts us × (accepts S us ≡ true)

abbrev SignedIn : Symbols → List Token → Type 0
SignedIn S ts = (e : CExpr) × (us : List Token) × IsSigned e ts us × (accepts (more ∷ S) us ≡ true)

abbrev OperandIn : Symbols → List Token → Type 0
OperandIn S ts = (e : CExpr) × (us : List Token) × IsOperand e ts us × (accepts S us ≡ true)

abbrev LiteralIn : Symbols → List Token → Type 0
LiteralIn S ts = (n : ℕ) × (us : List Token) × (ts ≡ literal n us) × (accepts S us ≡ true)

abbrev PathIn : Symbols → List Token → Type 0
PathIn S ts = (steps : List CStep) × (us : List Token) × IsPath steps ts us × (accepts S us ≡ true)

-- a sum so far: a product alone, or one behind a sum and an operator
data Partial (start ts : List Token) : Type 0 where
  whole : {b : CExpr} → IsProduct b start ts → Partial start ts
  behind : {a b : CExpr} {op : COp} {us : List Token} → IsSum a start (operator op ∷ us) → is_sum op ≡ true → IsProduct b us ts → Partial start ts

finished : (start ts : List Token) → Partial start ts → (e : CExpr) × IsSum e start ts
finished start ts (whole p) = (_, to_sum p)
finished start ts (behind s is p) = (_, sum_on s is p)

by_product : (start us vs : List Token) (op : COp) (x : CExpr) → is_product op ≡ true → Partial start (operator op ∷ us) → IsSigned x us vs → Partial start vs
by_product start us vs op x is (whole p) q = whole (product_on p is q)
by_product start us vs op x is (behind s was p) q = behind s was (product_on p is q)

by_sum : (start us vs : List Token) (op : COp) (x : CExpr) → is_sum op ≡ true → Partial start (operator op ∷ us) → IsSigned x us vs → Partial start vs
by_sum start us vs op x is p q = behind (finished start (operator op ∷ us) p).1 is (to_product q)

extended : (start us vs : List Token) (op : COp) (x : CExpr) → Partial start (operator op ∷ us) → IsSigned x us vs → Partial start vs
extended start us vs Add x p q = by_sum start us vs Add x refl p q
extended start us vs Sub x p q = by_sum start us vs Sub x refl p q
extended start us vs Mul x p q = by_product start us vs Mul x refl p q
extended start us vs Div x p q = by_product start us vs Div x refl p q
extended start us vs Rem x p q = by_product start us vs Rem x refl p q

-- what holds of at most n tokens
record Below (n : ℕ) : Type 0 where
  signed : (S : Symbols) (ts : List Token) → length ts ≤ n → accepts (a_sum ∷ S) ts ≡ true → SignedIn S ts
  path : (S : Symbols) (ts : List Token) → length ts ≤ n → accepts (a_path ∷ S) ts ≡ true → PathIn S ts
  rest : (S : Symbols) (start ts : List Token) → Partial start ts → length ts ≤ n → accepts (more ∷ S) ts ≡ true → SumIn S start

sum_below : (n : ℕ) → Below n → (S : Symbols) (ts : List Token) → length ts ≤ n → accepts (a_sum ∷ S) ts ≡ true → SumIn S ts
sum_below n b S ts fits h =
    let a = b.signed S ts fits h in b.rest S ts a.1 (whole (to_product a.2)) (omega (arith, signed_shrinks a.2)) a.3

pick_below : (n : ℕ) → Below n → (S : Symbols) (a : CExpr) (op : CRel) (ts us : List Token) → length us ≤ n → IsSum a ts (relation op ∷ us)
    → accepts (a_sum ∷ a_mark question ∷ a_sum ∷ a_mark colon ∷ a_sum ∷ a_mark close_round ∷ S) us ≡ true → OperandIn S (mark open_round ∷ ts)
pick_below n b S a op ts us fits p h =
    let q = sum_below n b (a_mark question ∷ a_sum ∷ a_mark colon ∷ a_sum ∷ a_mark close_round ∷ S) us fits h in
    let q' = mark_in question (a_sum ∷ a_mark colon ∷ a_sum ∷ a_mark close_round ∷ S) q.1 q.3 in
    let first : length q'.0 ≤ n = omega (arith, sum_shrinks q.2, ap (λ l. length l) q'.1) in
    let r = sum_below n b (a_mark colon ∷ a_sum ∷ a_mark close_round ∷ S) q'.0 first q'.2 in
    let r' = mark_in colon (a_sum ∷ a_mark close_round ∷ S) r.1 r.3 in
    let second : length r'.0 ≤ n = omega (arith, first, sum_shrinks r.2, ap (λ l. length l) r'.1) in
    let s = sum_below n b (a_mark close_round ∷ S) r'.0 second r'.2 in
    let s' = mark_in close_round S s.1 s.3 in (
      Pick (record { op = op; left = a; right = q.0 }) r.0 s.0,
      s'.0,
      pick (test p (subst (λ l. IsSum q.0 us l) q'.1 q.2)) (subst (λ l. IsSum r.0 q'.0 l) r'.1 r.2) (subst (λ l. IsSum s.0 r'.0 l) s'.1 s.2),
      s'.2,
    )

bracket_below : (n : ℕ) → Below n → (S : Symbols) (a : CExpr) (ts us : List Token) → length us ≤ n → IsSum a ts us → accepts (bracket_rest ∷ S) us ≡ true
    → OperandIn S (mark open_round ∷ ts)
bracket_below n b S a ts [] fits p h = no h
bracket_below n b S a ts (mark close_round ∷ us) fits p h = let o = bracket_of a ts us p in (o.0, us, o.1, h)
bracket_below n b S a ts (mark _ ∷ us) fits p h = no h
bracket_below n b S a ts (relation op ∷ us) fits p h = pick_below n b S a op ts us (omega arith) p h
bracket_below n b S a ts (_ ∷ us) fits p h = no h

operand_below : (n : ℕ) → Below n → (S : Symbols) (ts : List Token) → length ts ≤ suc n → accepts (an_operand ∷ S) ts ≡ true → LiteralIn S ts ⊎ OperandIn S ts
operand_below n b S [] fits h = no h
operand_below n b S (name w ∷ ts) fits h =
    let a = b.path S ts (omega arith) h in inr (Read (record { name = word w; path = a.0 }), a.1, read (place a.2), a.3)
operand_below n b S (keyword INT64_C ∷ ts) fits h = inl (literal_in S ts h)
operand_below n b S (keyword _ ∷ ts) fits h = no h
operand_below n b S (mark open_round ∷ ts) fits h =
    let a = sum_below n b (bracket_rest ∷ S) ts (omega arith) h in
    inr (bracket_below n b S a.0 ts a.1 (omega (arith, sum_shrinks a.2)) a.2 a.3)
operand_below n b S (mark _ ∷ ts) fits h = no h
operand_below n b S (_ ∷ ts) fits h = no h

signed_of : (S : Symbols) (ts : List Token) → LiteralIn (more ∷ S) ts ⊎ OperandIn (more ∷ S) ts → SignedIn S ts
signed_of S ts (inl a) = (Number (pos a.0), a.1, subst (λ l. IsSigned (Number (pos a.0)) l a.1) (sym a.2) positive, a.3)
signed_of S ts (inr a) = (a.0, a.1, unsigned a.2, a.3)

negated_sound : (n : ℕ) (rest : List Token) → IsSigned (negated n) (operator Sub ∷ literal n rest) rest
negated_sound zero rest = minus_zero
negated_sound (suc n) rest = negative

minus_of : (S : Symbols) (ts : List Token) → LiteralIn (more ∷ S) ts ⊎ OperandIn (more ∷ S) ts → SignedIn S (operator Sub ∷ ts)
minus_of S ts (inl a) =
    (negated a.0, a.1, subst (λ l. IsSigned (negated a.0) (operator Sub ∷ l) a.1) (sym a.2) (negated_sound a.0 a.1), a.3)
minus_of S ts (inr a) = (Minus a.0, a.1, minus a.2, a.3)

signed_from : (n : ℕ) → Below n → (S : Symbols) (ts : List Token) → length ts ≤ suc n → accepts (a_sum ∷ S) ts ≡ true → SignedIn S ts
signed_from n b S [] fits h = no h
signed_from n b S (operator Sub ∷ ts) fits h = minus_of S ts (operand_below n b (more ∷ S) ts (omega arith) h)
signed_from n b S (operator _ ∷ ts) fits h = no h
signed_from n b S (name w ∷ ts) fits h = signed_of S (name w ∷ ts) (operand_below n b (more ∷ S) (name w ∷ ts) fits h)
signed_from n b S (keyword INT64_C ∷ ts) fits h = signed_of S (keyword INT64_C ∷ ts) (operand_below n b (more ∷ S) (keyword INT64_C ∷ ts) fits h)
signed_from n b S (keyword _ ∷ ts) fits h = no h
signed_from n b S (mark open_round ∷ ts) fits h = signed_of S (mark open_round ∷ ts) (operand_below n b (more ∷ S) (mark open_round ∷ ts) fits h)
signed_from n b S (mark _ ∷ ts) fits h = no h
signed_from n b S (_ ∷ ts) fits h = no h

member_from : (n : ℕ) → Below n → (S : Symbols) (ts : List Token) → length ts ≤ n → accepts (a_name ∷ a_path ∷ S) ts ≡ true → PathIn S (mark dot ∷ ts)
member_from n b S ts fits h =
    let a = name_in (a_path ∷ S) ts h in
    let c = b.path S a.1 (omega (arith, ap (λ l. length l) a.2)) a.3 in
    (Member (word a.0) ∷ c.0, c.1, subst (λ l. IsPath (Member (word a.0) ∷ c.0) (mark dot ∷ l) c.1) (sym a.2) (member c.2), c.3)

index_from : (n : ℕ) → Below n → (S : Symbols) (ts : List Token) → length ts ≤ n → accepts (a_sum ∷ a_mark close_square ∷ a_path ∷ S) ts ≡ true
    → PathIn S (mark open_square ∷ ts)
index_from n b S ts fits h =
    let a = sum_below n b (a_mark close_square ∷ a_path ∷ S) ts fits h in
    let c = mark_in close_square (a_path ∷ S) a.1 a.3 in
    let d = b.path S c.0 (omega (arith, sum_shrinks a.2, ap (λ l. length l) c.1)) c.2 in
    (At a.0 ∷ d.0, d.1, index (subst (λ l. IsSum a.0 ts l) c.1 a.2) d.2, d.3)

path_from : (n : ℕ) → Below n → (S : Symbols) (ts : List Token) → length ts ≤ suc n → accepts (a_path ∷ S) ts ≡ true → PathIn S ts
path_from n b S [] fits h = ([], [], path_ends, h)
path_from n b S (mark dot ∷ ts) fits h = member_from n b S ts (omega arith) h
path_from n b S (mark open_square ∷ ts) fits h = index_from n b S ts (omega arith) h
path_from n b S (mark open_brace ∷ ts) fits h = ([], _, path_ends, h)
path_from n b S (mark close_brace ∷ ts) fits h = ([], _, path_ends, h)
path_from n b S (mark close_square ∷ ts) fits h = ([], _, path_ends, h)
path_from n b S (mark open_round ∷ ts) fits h = ([], _, path_ends, h)
path_from n b S (mark close_round ∷ ts) fits h = ([], _, path_ends, h)
path_from n b S (mark semicolon ∷ ts) fits h = ([], _, path_ends, h)
path_from n b S (mark colon ∷ ts) fits h = ([], _, path_ends, h)
path_from n b S (mark question ∷ ts) fits h = ([], _, path_ends, h)
path_from n b S (mark equals ∷ ts) fits h = ([], _, path_ends, h)
path_from n b S (name w ∷ ts) fits h = ([], _, path_ends, h)
path_from n b S (number k ∷ ts) fits h = ([], _, path_ends, h)
path_from n b S (operator op ∷ ts) fits h = ([], _, path_ends, h)
path_from n b S (relation op ∷ ts) fits h = ([], _, path_ends, h)
path_from n b S (keyword k ∷ ts) fits h = ([], _, path_ends, h)

-- what was found with its end
ended : (S : Symbols) (start ts : List Token) → Partial start ts → accepts S ts ≡ true → SumIn S start
ended S start ts p h = let e = finished start ts p in (e.0, ts, e.1, h)

rest_from : (n : ℕ) → Below n → (S : Symbols) (start ts : List Token) → Partial start ts → length ts ≤ suc n → accepts (more ∷ S) ts ≡ true → SumIn S start
rest_from n b S start [] p fits h = ended S start [] p h
rest_from n b S start (operator op ∷ ts) p fits h =
    let a = b.signed S ts (omega arith) h in
    b.rest S start a.1 (extended start ts a.1 op a.0 p a.2) (omega (arith, signed_shrinks a.2)) a.3
rest_from n b S start (name w ∷ ts) p fits h = ended S start (name w ∷ ts) p h
rest_from n b S start (number k ∷ ts) p fits h = ended S start (number k ∷ ts) p h
rest_from n b S start (relation op ∷ ts) p fits h = ended S start (relation op ∷ ts) p h
rest_from n b S start (keyword k ∷ ts) p fits h = ended S start (keyword k ∷ ts) p h
rest_from n b S start (mark m ∷ ts) p fits h = ended S start (mark m ∷ ts) p h

below_none : Below 0
below_none = record { signed = signed_none; path = path_none; rest = rest_none }
  where
    signed_none : (S : Symbols) (ts : List Token) → length ts ≤ 0 → accepts (a_sum ∷ S) ts ≡ true → SignedIn S ts
    signed_none S [] fits h = no h
    signed_none S (u ∷ us) fits h = absurd (omega (arith, fits))

    path_none : (S : Symbols) (ts : List Token) → length ts ≤ 0 → accepts (a_path ∷ S) ts ≡ true → PathIn S ts
    path_none S [] fits h = ([], [], path_ends, h)
    path_none S (u ∷ us) fits h = absurd (omega (arith, fits))

    rest_none : (S : Symbols) (start ts : List Token) → Partial start ts → length ts ≤ 0 → accepts (more ∷ S) ts ≡ true → SumIn S start
    rest_none S start [] p fits h = ended S start [] p h
    rest_none S start (u ∷ us) p fits h = absurd (omega (arith, fits))

all_below : (n : ℕ) → Below n
all_below zero = below_none
all_below (suc n) = record { signed = signed_from n (all_below n); path = path_from n (all_below n); rest = rest_from n (all_below n) }

sum_in : (S : Symbols) (ts : List Token) → accepts (a_sum ∷ S) ts ≡ true → SumIn S ts
sum_in S ts h = sum_below (length ts) (all_below (length ts)) S ts (omega arith) h

path_in : (S : Symbols) (ts : List Token) → accepts (a_path ∷ S) ts ≡ true → PathIn S ts
path_in S ts h = (all_below (length ts)).path S ts (omega arith) h

-- `l;` behind `goto`
jump_in : (S : Symbols) (ts : List Token) → accepts (jump_rest S) ts ≡ true → (l : List ℕ) × (us : List Token) × (ts ≡ name l ∷ mark semicolon ∷ us) × (accepts S us ≡ true)
jump_in S ts h =
    let a = name_in (a_mark semicolon ∷ S) ts h in
    let b = mark_in semicolon S a.1 a.3 in
    (a.0, b.0, a.2 ∙ on _ b.1, b.2)

least_in : (S : Symbols) (ts : List Token) → accepts (least_rest ++ S) ts ≡ true → (us : List Token) × (mark open_round ∷ ts ≡ least_text us) × (accepts S us ≡ true)
least_in S ts h =
    let a = sign_in _ ts h in
    let b = keyword_in INT64_C _ a.0 a.2 in
    let c = mark_in open_round _ b.0 b.2 in
    let d = this_in (2 ^ 63 - 1) _ c.0 c.2 in
    let e = mark_in close_round _ d.0 d.2 in
    let f = sign_in _ e.0 e.2 in
    let g = keyword_in INT64_C _ f.0 f.2 in
    let i = mark_in open_round _ g.0 g.2 in
    let j = this_in 1 _ i.0 i.2 in
    let k = mark_in close_round _ j.0 j.2 in
    let l = mark_in close_round S k.0 k.2 in
    (l.0, on _ (a.1 ∙ on _ (b.1 ∙ on _ (c.1 ∙ on _ (d.1 ∙ on _ (e.1 ∙ on _ (f.1 ∙ on _ (g.1 ∙ on _ (i.1 ∙ on _ (j.1 ∙ on _ (k.1 ∙ on _ l.1)))))))))), l.2)

abbrev ConstantIn : Symbols → List Token → Type 0
ConstantIn S ts = (z : ℤ) × (us : List Token) × IsConstant z ts us × (accepts S us ≡ true)

constant_in : (S : Symbols) (ts : List Token) → accepts (a_constant ∷ S) ts ≡ true → ConstantIn S ts
constant_in S [] h = no h
constant_in S (operator Sub ∷ ts) h =
    let a = keyword_in INT64_C (literal_rest S) ts h in
    let b = literal_in S a.0 a.2 in
    (neg_ℤ (pos b.0), b.1, subst (λ l. IsConstant (neg_ℤ (pos b.0)) (operator Sub ∷ l) b.1) (sym (a.1 ∙ b.2)) negative_constant, b.3)
constant_in S (operator _ ∷ ts) h = no h
constant_in S (keyword INT64_C ∷ ts) h =
    let b = literal_in S ts h in (pos b.0, b.1, subst (λ l. IsConstant (pos b.0) l b.1) (sym b.2) constant, b.3)
constant_in S (keyword _ ∷ ts) h = no h
constant_in S (mark open_round ∷ ts) h =
    let a = least_in S ts h in (least, a.0, subst (λ l. IsConstant least l a.0) (sym a.1) least_constant, a.2)
constant_in S (mark _ ∷ ts) h = no h
constant_in S (_ ∷ ts) h = no h

-- a repetition: nothing more of it, or one more text
module _ {A : Type 0} (Is : A → List Token → List Token → Type 0) (X : Symbol)
    (shrinks : (x : A) (ts rest : List Token) → Is x ts rest → length rest < length ts)
    (one : (S : Symbols) (ts : List Token) → accepts (X ∷ S) ts ≡ true
    → (accepts S ts ≡ true) ⊎ ((x : A) × (us : List Token) × Is x ts us × (accepts (X ∷ S) us ≡ true))) where
  each_in : (n : ℕ) (S : Symbols) (ts : List Token) → length ts ≤ n → accepts (X ∷ S) ts ≡ true
      → (xs : List A) × (us : List Token) × Each Is xs ts us × (accepts S us ≡ true)
  each_in zero S ts fits h = ⊎_elim (λ stop. ([], ts, none, stop)) (λ p. absurd (omega (arith, fits, shrinks p.0 ts p.1 p.2))) (one S ts h)
  each_in (suc n) S ts fits h =
      ⊎_elim (λ stop. ([], ts, none, stop))
      (λ p. let others = each_in n S p.1 (omega (arith, fits, shrinks p.0 ts p.1 p.2)) p.3 in
      (p.0 ∷ others.0, others.1, one_more p.2 others.2, others.3))
      (one S ts h)

-- one text before others of its kind
abbrev OneIn : {A : Type 0} → (A → List Token → List Token → Type 0) → Symbols → List Token → Type 0
OneIn {A} Is S ts = (x : A) × (us : List Token) × Is x ts us × (accepts S us ≡ true)

case_in : (S : Symbols) (ts : List Token) → accepts (a_constant ∷ a_mark colon ∷ a_keyword goto_ ∷ jump_rest S) ts ≡ true → OneIn IsCase S (keyword case_ ∷ ts)
case_in S ts h =
    let a = constant_in (a_mark colon ∷ a_keyword goto_ ∷ jump_rest S) ts h in
    let b = mark_in colon (a_keyword goto_ ∷ jump_rest S) a.1 a.3 in
    let c = keyword_in goto_ (jump_rest S) b.0 b.2 in
    let d = jump_in S c.0 c.2 in
    (record { value = a.0; label = word d.0 }, d.1, case_goto (subst (λ l. IsConstant a.0 ts l) (b.1 ∙ on _ (c.1 ∙ on _ d.2)) a.2), d.3)

one_case : (S : Symbols) (ts : List Token) → accepts (cases ∷ S) ts ≡ true → (accepts S ts ≡ true) ⊎ OneIn IsCase (cases ∷ S) ts
one_case S [] h = inl h
one_case S (keyword case_ ∷ ts) h = inr (case_in (cases ∷ S) ts h)
one_case S (keyword _ ∷ ts) h = inl h
one_case S (_ ∷ ts) h = inl h

assign_in : (S : Symbols) (w : List ℕ) (steps : List CStep) (ts us : List Token) → IsPath steps ts us
    → accepts (a_mark equals ∷ a_sum ∷ a_mark semicolon ∷ S) us ≡ true → OneIn IsStatement S (name w ∷ ts)
assign_in S w steps ts us p h =
    let a = mark_in equals (a_sum ∷ a_mark semicolon ∷ S) us h in
    let b = sum_in (a_mark semicolon ∷ S) a.0 a.2 in
    let c = mark_in semicolon S b.1 b.3 in (
      Assign (record { name = word w; path = steps }) b.0,
      c.0,
      assign (place (subst (λ l. IsPath steps ts l) a.1 p)) (subst (λ l. IsSum b.0 a.0 l) c.1 b.2),
      c.2,
    )

named_in : (S : Symbols) (w : List ℕ) (ts : List Token) → accepts (named_rest ∷ S) ts ≡ true → OneIn IsStatement S (name w ∷ ts)
named_in S w [] h = no h
named_in S w (mark colon ∷ ts) h =
    let a = mark_in semicolon S ts h in
    (Label (word w), a.0, subst (λ l. IsStatement (Label (word w)) (name w ∷ mark colon ∷ l) a.0) (sym a.1) label, a.2)
named_in S w (mark open_round ∷ ts) h =
    let a = mark_in close_round (a_mark semicolon ∷ S) ts h in
    let b = mark_in semicolon S a.0 a.2 in
    (Call (word w), b.0, subst (λ l. IsStatement (Call (word w)) (name w ∷ mark open_round ∷ l) b.0) (sym (a.1 ∙ on _ b.1)) call, b.2)
named_in S w (mark dot ∷ ts) h =
    let a = member_from (length ts) (all_below (length ts)) (a_mark equals ∷ a_sum ∷ a_mark semicolon ∷ S) ts (omega arith) h in
    assign_in S w a.0 (mark dot ∷ ts) a.1 a.2 a.3
named_in S w (mark open_square ∷ ts) h =
    let a = index_from (length ts) (all_below (length ts)) (a_mark equals ∷ a_sum ∷ a_mark semicolon ∷ S) ts (omega arith) h in
    assign_in S w a.0 (mark open_square ∷ ts) a.1 a.2 a.3
named_in S w (mark equals ∷ ts) h = assign_in S w [] (mark equals ∷ ts) (mark equals ∷ ts) path_ends h
named_in S w (mark _ ∷ ts) h = no h
named_in S w (_ ∷ ts) h = no h

if_in : (S : Symbols) (ts : List Token) → accepts (a_mark open_round ∷ a_sum ∷ a_relation ∷ a_sum ∷ a_mark close_round ∷ a_keyword goto_ ∷ jump_rest S) ts ≡ true
    → OneIn IsStatement S (keyword if_ ∷ ts)
if_in S ts h =
    let a = mark_in open_round (a_sum ∷ a_relation ∷ a_sum ∷ a_mark close_round ∷ a_keyword goto_ ∷ jump_rest S) ts h in
    let b = sum_in (a_relation ∷ a_sum ∷ a_mark close_round ∷ a_keyword goto_ ∷ jump_rest S) a.0 a.2 in
    let c = relation_in (a_sum ∷ a_mark close_round ∷ a_keyword goto_ ∷ jump_rest S) b.1 b.3 in
    let d = sum_in (a_mark close_round ∷ a_keyword goto_ ∷ jump_rest S) c.1 c.3 in
    let e = mark_in close_round (a_keyword goto_ ∷ jump_rest S) d.1 d.3 in
    let f = keyword_in goto_ (jump_rest S) e.0 e.2 in
    let g = jump_in S f.0 f.2 in
    let t : CTest = record { op = c.0; left = b.0; right = d.0 } in
    let is : IsTest t a.0 d.1 = test (subst (λ l. IsSum b.0 a.0 l) c.2 b.2) d.2 in (
      IfGoto t (word g.0),
      g.1,
      subst (λ l. IsStatement (IfGoto t (word g.0)) (keyword if_ ∷ l) g.1) (sym a.1)
          (if_goto (subst (λ l. IsTest t a.0 l) (e.1 ∙ on _ (f.1 ∙ on _ g.2)) is)),
      g.3,
    )

switch_in : (S : Symbols) (ts : List Token)
    → accepts (a_mark open_round ∷ a_sum ∷ a_mark close_round ∷ a_mark open_brace ∷ cases ∷ a_keyword default_ ∷ a_mark colon
    ∷ a_keyword goto_ ∷ jump_rest (a_mark close_brace ∷ S)) ts ≡ true
    → OneIn IsStatement S (keyword switch_ ∷ ts)
switch_in S ts h =
    let a = mark_in open_round _ ts h in
    let b = sum_in (a_mark close_round ∷ a_mark open_brace ∷ cases ∷ a_keyword default_ ∷ a_mark colon ∷ a_keyword goto_ ∷ jump_rest (a_mark close_brace ∷ S)) a.0 a.2 in
    let c = mark_in close_round _ b.1 b.3 in
    let d = mark_in open_brace _ c.0 c.2 in
    let e = each_in IsCase cases case_shrinks one_case (length d.0) (a_keyword default_ ∷ a_mark colon ∷ a_keyword goto_ ∷ jump_rest (a_mark close_brace ∷ S)) d.0 (omega arith) d.2 in
    let f = keyword_in default_ _ e.1 e.3 in
    let g = mark_in colon _ f.0 f.2 in
    let i = keyword_in goto_ _ g.0 g.2 in
    let j = jump_in (a_mark close_brace ∷ S) i.0 i.2 in
    let k = mark_in close_brace S j.1 j.3 in (
      Switch b.0 e.0 (word j.0),
      k.0,
      subst (λ l. IsStatement (Switch b.0 e.0 (word j.0)) (keyword switch_ ∷ l) k.0) (sym a.1)
          (switch (subst (λ l. IsSum b.0 a.0 l) (c.1 ∙ on _ d.1) b.2)
          (subst (λ l. Each IsCase e.0 d.0 l) (f.1 ∙ on _ (g.1 ∙ on _ (i.1 ∙ on _ (j.2 ∙ on _ (on _ k.1))))) e.2)),
      k.2,
    )

one_statement : (S : Symbols) (ts : List Token) → accepts (statements ∷ S) ts ≡ true → (accepts S ts ≡ true) ⊎ OneIn IsStatement (statements ∷ S) ts
one_statement S [] h = inl h
one_statement S (name w ∷ ts) h = inr (named_in (statements ∷ S) w ts h)
one_statement S (keyword goto_ ∷ ts) h =
    let a = jump_in (statements ∷ S) ts h in
    inr (Goto (word a.0), a.1, subst (λ l. IsStatement (Goto (word a.0)) (keyword goto_ ∷ l) a.1) (sym a.2) goto, a.3)
one_statement S (keyword if_ ∷ ts) h = inr (if_in (statements ∷ S) ts h)
one_statement S (keyword switch_ ∷ ts) h = inr (switch_in (statements ∷ S) ts h)
one_statement S (keyword return_ ∷ ts) h =
    let a = mark_in semicolon (statements ∷ S) ts h in
    inr (Return, a.0, subst (λ l. IsStatement Return (keyword return_ ∷ l) a.0) (sym a.1) return, a.2)
one_statement S (keyword _ ∷ ts) h = inl h
one_statement S (_ ∷ ts) h = inl h

statements_in : (S : Symbols) (ts : List Token) → accepts (statements ∷ S) ts ≡ true
    → (b : List CStmt) × (us : List Token) × Each IsStatement b ts us × (accepts S us ≡ true)
statements_in S ts h = each_in IsStatement statements statement_shrinks one_statement (length ts) S ts (omega arith) h

-- a member, behind its type
member_rest_in : (S : Symbols) (kind : CType) (m : List ℕ) (ts us : List Token) → IsType kind ts (name m ∷ us) → accepts (member_rest ∷ S) us ≡ true
    → OneIn IsMember S ts
member_rest_in S kind m ts [] p h = no h
member_rest_in S kind m ts (mark semicolon ∷ us) p h = (record { kind = kind; name = word m; size = None }, us, single p, h)
member_rest_in S kind m ts (mark open_square ∷ us) p h =
    let a = size_in (a_mark close_square ∷ a_mark semicolon ∷ S) us h in
    let b = mark_in close_square (a_mark semicolon ∷ S) a.1 a.5 in
    let c = mark_in semicolon S b.0 b.2 in (
      record { kind = kind; name = word m; size = Some a.0 },
      c.0,
      array a.3 a.4 (subst (λ l. IsType kind ts (name m ∷ l)) (on _ (a.2 ∙ on _ (b.1 ∙ on _ c.1))) p),
      c.2,
    )
member_rest_in S kind m ts (mark _ ∷ us) p h = no h
member_rest_in S kind m ts (_ ∷ us) p h = no h

typed_member : (S : Symbols) (kind : CType) (ts us : List Token) → IsType kind ts us → accepts (a_name ∷ member_rest ∷ S) us ≡ true → OneIn IsMember S ts
typed_member S kind ts us p h =
    let a = name_in (member_rest ∷ S) us h in member_rest_in S kind a.0 ts a.1 (subst (λ l. IsType kind ts l) a.2 p) a.3

first_member_in : (S : Symbols) (ts : List Token) → accepts (a_member ∷ S) ts ≡ true → OneIn IsMember S ts
first_member_in S [] h = no h
first_member_in S (name s ∷ ts) h = typed_member S (Struct (word s)) (name s ∷ ts) ts struct_type h
first_member_in S (keyword int64_t ∷ ts) h = typed_member S Int64 (keyword int64_t ∷ ts) ts number_type h
first_member_in S (keyword _ ∷ ts) h = no h
first_member_in S (_ ∷ ts) h = no h

one_member : (S : Symbols) (ts : List Token) → accepts (members ∷ S) ts ≡ true → (accepts S ts ≡ true) ⊎ OneIn IsMember (members ∷ S) ts
one_member S [] h = inl h
one_member S (name s ∷ ts) h = inr (typed_member (members ∷ S) (Struct (word s)) (name s ∷ ts) ts struct_type h)
one_member S (keyword int64_t ∷ ts) h = inr (typed_member (members ∷ S) Int64 (keyword int64_t ∷ ts) ts number_type h)
one_member S (keyword _ ∷ ts) h = inl h
one_member S (_ ∷ ts) h = inl h

struct_in : (S : Symbols) (ts : List Token)
    → accepts (a_keyword struct_ ∷ a_mark open_brace ∷ a_member ∷ members ∷ a_mark close_brace ∷ jump_rest S) ts ≡ true
    → OneIn IsStruct S (keyword typedef_ ∷ ts)
struct_in S ts h =
    let a = keyword_in struct_ _ ts h in
    let b = mark_in open_brace _ a.0 a.2 in
    let c = first_member_in (members ∷ a_mark close_brace ∷ jump_rest S) b.0 b.2 in
    let d = each_in IsMember members member_shrinks one_member (length c.1) (a_mark close_brace ∷ jump_rest S) c.1 (omega arith) c.3 in
    let e = mark_in close_brace (jump_rest S) d.1 d.3 in
    let f = jump_in S e.0 e.2 in
    let s : CStruct = record { name = word f.0; members = c.0 ∷ d.0 } in (
      s,
      f.1,
      subst (λ l. IsStruct s (keyword typedef_ ∷ l) f.1) (sym (a.1 ∙ on _ b.1))
          (structure (subst (λ l. Each IsMember (c.0 ∷ d.0) b.0 l) (e.1 ∙ on _ f.2) (one_more c.2 d.2))),
      f.3,
    )

one_struct : (S : Symbols) (ts : List Token) → accepts (structs ∷ S) ts ≡ true → (accepts S ts ≡ true) ⊎ OneIn IsStruct (structs ∷ S) ts
one_struct S [] h = inl h
one_struct S (keyword typedef_ ∷ ts) h = inr (struct_in (structs ∷ S) ts h)
one_struct S (keyword _ ∷ ts) h = inl h
one_struct S (_ ∷ ts) h = inl h

global_in : (S : Symbols) (kind : CType) (ts us : List Token) → IsType kind ts us → accepts (jump_rest S) us ≡ true → OneIn IsGlobal S ts
global_in S kind ts us p h =
    let a = jump_in S us h in (record { kind = kind; name = word a.0 }, a.1, global (subst (λ l. IsType kind ts l) a.2 p), a.3)

one_global : (S : Symbols) (ts : List Token) → accepts (globals ∷ S) ts ≡ true → (accepts S ts ≡ true) ⊎ OneIn IsGlobal (globals ∷ S) ts
one_global S [] h = inl h
one_global S (name s ∷ ts) h = inr (global_in (globals ∷ S) (Struct (word s)) (name s ∷ ts) ts struct_type h)
one_global S (keyword int64_t ∷ ts) h = inr (global_in (globals ∷ S) Int64 (keyword int64_t ∷ ts) ts number_type h)
one_global S (keyword _ ∷ ts) h = inl h
one_global S (_ ∷ ts) h = inl h

-- behind the first word of an event or a function
head_in : (S : Symbols) (ts : List Token) → accepts (head S) ts ≡ true
    → (w : List ℕ) × (us : List Token) × (ts ≡ name w ∷ mark open_round ∷ keyword void_ ∷ mark close_round ∷ us) × (accepts S us ≡ true)
head_in S ts h =
    let a = name_in (a_mark open_round ∷ a_keyword void_ ∷ a_mark close_round ∷ S) ts h in
    let b = mark_in open_round (a_keyword void_ ∷ a_mark close_round ∷ S) a.1 a.3 in
    let c = keyword_in void_ (a_mark close_round ∷ S) b.0 b.2 in
    let d = mark_in close_round S c.0 c.2 in
    (a.0, d.0, a.2 ∙ on _ (b.1 ∙ on _ (c.1 ∙ on _ d.1)), d.2)

-- a function, from its brace on
body_in : (S : Symbols) (w : List ℕ) (ts us : List Token) → ts ≡ name w ∷ mark open_round ∷ keyword void_ ∷ mark close_round ∷ mark open_brace ∷ us
    → accepts (statements ∷ a_mark close_brace ∷ S) us ≡ true → OneIn IsFunction S (keyword void_ ∷ ts)
body_in S w ts us e h =
    let a = statements_in (a_mark close_brace ∷ S) us h in
    let b = mark_in close_brace S a.1 a.3 in
    let f : CFunction = record { name = word w; body = a.0 } in
    (f, b.0, subst (λ l. IsFunction f (keyword void_ ∷ l) b.0) (sym e) (function (subst (λ l. Each IsStatement a.0 us l) b.1 a.2)), b.2)

one_function : (S : Symbols) (ts : List Token) → accepts (functions ∷ S) ts ≡ true → (accepts S ts ≡ true) ⊎ OneIn IsFunction (functions ∷ S) ts
one_function S [] h = inl h
one_function S (keyword void_ ∷ ts) h = inr (body_in (functions ∷ S) a.0 ts b.0 (a.2 ∙ on _ (on _ (on _ (on _ b.1)))) b.2)
  where
    a : (w : List ℕ) × (us : List Token) × (ts ≡ name w ∷ mark open_round ∷ keyword void_ ∷ mark close_round ∷ us)
        × (accepts (a_mark open_brace ∷ statements ∷ a_mark close_brace ∷ functions ∷ S) us ≡ true)
    a = head_in (a_mark open_brace ∷ statements ∷ a_mark close_brace ∷ functions ∷ S) ts h

    b : (us : List Token) × (a.1 ≡ mark open_brace ∷ us) × (accepts (statements ∷ a_mark close_brace ∷ functions ∷ S) us ≡ true)
    b = mark_in open_brace (statements ∷ a_mark close_brace ∷ functions ∷ S) a.1 a.3
one_function S (keyword _ ∷ ts) h = inl h
one_function S (_ ∷ ts) h = inl h

end_in : (ts : List Token) → accepts [] ts ≡ true → ts ≡ []
end_in [] h = refl
end_in (u ∷ us) h = no h

functions_in : (ts : List Token) → accepts (functions ∷ []) ts ≡ true → (fs : List CFunction) × Each IsFunction fs ts []
functions_in ts h =
    let a = each_in IsFunction functions function_shrinks one_function (length ts) [] ts (omega arith) h in
    (a.0, subst (λ l. Each IsFunction a.0 ts l) (end_in a.1 a.3) a.2)

abbrev DeclaredIn : List Token → Type 0
DeclaredIn ts = (es : List Word) × (fs : List CFunction) × (us : List Token) × Each IsEvent es ts us × Each IsFunction fs us []

-- behind the head: the rest of an event and what follows it, or of a function
head_rest_in : (w : List ℕ) (ts vs : List Token) → ts ≡ name w ∷ mark open_round ∷ keyword void_ ∷ mark close_round ∷ vs
    → accepts (head_rest ∷ []) vs ≡ true → ((us : List Token) → length us < length vs → accepts (declarations ∷ []) us ≡ true → DeclaredIn us)
    → DeclaredIn (keyword void_ ∷ ts)
head_rest_in w ts [] e h later = no h
head_rest_in w ts (mark semicolon ∷ us) e h later =
    let others = later us (omega arith) h in
    (word w ∷ others.0, others.1, others.2, one_more (subst (λ l. IsEvent (word w) (keyword void_ ∷ l) us) (sym e) event) others.3, others.4)
head_rest_in w ts (mark open_brace ∷ us) e h later =
    let first = body_in (functions ∷ []) w ts us e h in
    let others = functions_in first.1 first.3 in
    ([], first.0 ∷ others.0, keyword void_ ∷ ts, none, one_more first.2 others.1)
head_rest_in w ts (mark _ ∷ us) e h later = no h
head_rest_in w ts (_ ∷ us) e h later = no h

declared_in : (n : ℕ) (ts : List Token) → length ts ≤ n → accepts (declarations ∷ []) ts ≡ true → DeclaredIn ts
declared_in n [] fits h = ([], [], [], none, none)
declared_in zero (u ∷ us) fits h = absurd (omega (arith, fits))
declared_in (suc n) (keyword void_ ∷ ts) fits h =
    let a = head_in (head_rest ∷ []) ts h in
    head_rest_in a.0 ts a.1 a.2 a.3 (λ us shorter k. declared_in n us (omega (arith, fits, shorter, ap (λ l. length l) a.2)) k)
declared_in (suc n) (keyword _ ∷ ts) fits h = no h
declared_in (suc n) (_ ∷ ts) fits h = no h

-- the tokens that the recognizer accepts are the text of a program
pub program_in : (ts : List Token) → accepts program_symbols ts ≡ true → (P : CProgram) × IsProgram P ts
program_in ts h =
    let a = each_in IsStruct structs struct_shrinks one_struct (length ts) (globals ∷ declarations ∷ []) ts (omega arith) h in
    let b = each_in IsGlobal globals global_shrinks one_global (length a.1) (declarations ∷ []) a.1 (omega arith) a.3 in
    let c = declared_in (length b.1) b.1 (omega arith) b.3 in
    (record { structs = a.0; globals = b.0; events = c.0; functions = c.1 }, program a.2 b.2 c.3 c.4)
