-- The reader finds each tree where the grammar has one. The fuel that the tokens' number gives always suffices.
use Rattle.std.proofs.Common.{◌≡◌, ℕ, zero, suc, ◌-◌, ◌^◌, ◌<◌, ◌≤◌, true, List, [], ◌∷◌, length, ℤ, pos, negsuc, Some, None, refl, sym, ap, ◌∙◌, subst, arith, le-leb, lt-ltb}
use Rattle.std.proofs.lemmas.Bool.{true≢false}
use Rattle.og_names.specs.declared.Word.{Word}
use Rattle.og_csubset.specs.declared.CProgram.{CProgram}
use Rattle.og_csubset.specs.declared.CStruct.{CStruct}
use Rattle.og_csubset.specs.declared.CMember.{CMember}
use Rattle.og_csubset.specs.declared.CGlobal.{CGlobal}
use Rattle.og_csubset.specs.declared.CType.{CType}
use Rattle.og_csubset.specs.declared.CFunction.{CFunction}
use Rattle.og_csubset.specs.declared.CStmt.{CStmt}
use Rattle.og_csubset.specs.declared.CStmt.TheVariants.{Assign}
use Rattle.og_csubset.specs.declared.CCase.{CCase}
use Rattle.og_csubset.specs.declared.CPlace.{CPlace}
use Rattle.og_csubset.specs.declared.CStep.{CStep, Member, At}
use Rattle.og_csubset.specs.declared.CExpr.{CExpr, Number, Read, Minus, Op, Pick}
use Rattle.og_csubset.specs.declared.CTest.{CTest}
use Rattle.og_csubset.specs.declared.COp.{COp}
use Rattle.og_csubset.specs.declared.COp.TheVariants.{Add, Sub, Mul, Div, Rem}
use Rattle.og_csubset.specs.declared.CRel.{CRel}
use Rattle.og_csubset.specs.Tokens.{Token, name, number, operator, relation, keyword, mark, Mark, open_brace, close_brace, open_square, close_square, open_round, close_round, semicolon, colon, question, dot, equals}
use Rattle.og_csubset.specs.Spelling.{word, least, literal, least_text, is_sum, is_product, IsSum, sum, SumGoesOn, sum_ends, add, IsProduct, product, ProductGoesOn, product_ends, multiply, IsSigned, positive, negative, minus_zero, unsigned, minus, IsOperand, read, bracket, pick, least_number, IsTest, test, IsPlace, place, IsPath, path_ends, member, index, Each, none, one_more, IsConstant, constant, negative_constant, least_constant, IsCase, case_goto, IsStatement, assign, if_goto, goto, label, switch, call, return, IsType, number_type, struct_type, IsMember, single, array, IsStruct, structure, IsGlobal, global, IsEvent, event, IsFunction, function, IsProgram, program, CSpells}
use Rattle.og_csubset.proofs.Lexing.{HasTokens-unique}
use Rattle.og_csubset.proofs.Seen.{not_least, Some-same}
use Rattle.og_csubset.specs.Reading.{Found, Reader, least_at, negated, bracket_end, path_at, operand_at, signed_at, product_rest, product_at, sum_rest, sum_at, number_at, test_at, each_at, constant_at, case_at, named_at, goto_at, if_at, switch_at, return_at, statement_at, type_at, member_end, member_at, struct_end, struct_at, global_at, head_at, event_at, function_at, program_at, read_tokens}

-- what a text of a number can go on with: at 0 a selector, at 1 an operator of a product, at 2 one of a sum, at 3 none
abbrev pub operator_level : COp → ℕ
operator_level Add = 2
operator_level Sub = 2
operator_level Mul = 1
operator_level Div = 1
operator_level Rem = 1

abbrev pub mark_level : Mark → ℕ
mark_level dot = 0
mark_level open_square = 0
mark_level _ = 3

abbrev pub level : List Token → ℕ
level [] = 3
level (operator op ∷ ts) = operator_level op
level (mark m ∷ ts) = mark_level m
level (_ ∷ ts) = 3

pub level_sum : (op : COp) → is_sum op ≡ true → operator_level op ≡ 2
level_sum Add h = refl
level_sum Sub h = refl
level_sum Mul h = absurd (true≢false (sym h))
level_sum Div h = absurd (true≢false (sym h))
level_sum Rem h = absurd (true≢false (sym h))

pub level_product : (op : COp) → is_product op ≡ true → operator_level op ≡ 1
level_product Add h = absurd (true≢false (sym h))
level_product Sub h = absurd (true≢false (sym h))
level_product Mul h = refl
level_product Div h = refl
level_product Rem h = refl

-- each text takes tokens
mutual
  pub sum_shrinks : {e : CExpr} {ts rest : List Token} → IsSum e ts rest → length rest < length ts
  sum_shrinks (sum p more) = omega (arith, product_shrinks p, sum_rest_shrinks more)

  sum_rest_shrinks : {a e : CExpr} {ts rest : List Token} → SumGoesOn a e ts rest → length rest ≤ length ts
  sum_rest_shrinks sum_ends = omega arith
  sum_rest_shrinks (add is p more) = omega (arith, product_shrinks p, sum_rest_shrinks more)

  product_shrinks : {e : CExpr} {ts rest : List Token} → IsProduct e ts rest → length rest < length ts
  product_shrinks (product p more) = omega (arith, signed_shrinks p, product_rest_shrinks more)

  product_rest_shrinks : {a e : CExpr} {ts rest : List Token} → ProductGoesOn a e ts rest → length rest ≤ length ts
  product_rest_shrinks product_ends = omega arith
  product_rest_shrinks (multiply is p more) = omega (arith, signed_shrinks p, product_rest_shrinks more)

  pub signed_shrinks : {e : CExpr} {ts rest : List Token} → IsSigned e ts rest → length rest < length ts
  signed_shrinks positive = omega arith
  signed_shrinks negative = omega arith
  signed_shrinks minus_zero = omega arith
  signed_shrinks (unsigned p) = operand_shrinks p
  signed_shrinks (minus p) = omega (arith, operand_shrinks p)

  operand_shrinks : {e : CExpr} {ts rest : List Token} → IsOperand e ts rest → length rest < length ts
  operand_shrinks (read p) = place_shrinks p
  operand_shrinks (bracket p other) = omega (arith, sum_shrinks p)
  operand_shrinks (pick t p q) = omega (arith, test_shrinks t, sum_shrinks p, sum_shrinks q)
  operand_shrinks least_number = omega arith

  test_shrinks : {t : CTest} {ts rest : List Token} → IsTest t ts rest → length rest < length ts
  test_shrinks (test p q) = omega (arith, sum_shrinks p, sum_shrinks q)

  pub place_shrinks : {p : CPlace} {ts rest : List Token} → IsPlace p ts rest → length rest < length ts
  place_shrinks (place p) = omega (arith, path_shrinks p)

  pub path_shrinks : {steps : List CStep} {ts rest : List Token} → IsPath steps ts rest → length rest ≤ length ts
  path_shrinks path_ends = omega arith
  path_shrinks (member p) = omega (arith, path_shrinks p)
  path_shrinks (index e p) = omega (arith, sum_shrinks e, path_shrinks p)

-- each step of the reader, from what its parts find
sum_by : (inner : Reader CExpr) (f : ℕ) (ts us : List Token) (a : CExpr) (r : Found CExpr) → product_at inner f ts ≡ Some (a, us)
    → sum_rest inner f a us ≡ r → sum_at inner f ts ≡ r
unfolding sum_at
sum_by inner f ts us a r p q = rw p q

sum_rest_ends : (inner : Reader CExpr) (f : ℕ) (a : CExpr) (ts : List Token) → level ts ≡ 3 → sum_rest inner f a ts ≡ Some (a, ts)
unfolding sum_rest
sum_rest_ends inner zero a ts h = refl
sum_rest_ends inner (suc f) a [] h = refl
sum_rest_ends inner (suc f) a (operator Add ∷ ts) h = absurd (omega (arith, h))
sum_rest_ends inner (suc f) a (operator Sub ∷ ts) h = absurd (omega (arith, h))
sum_rest_ends inner (suc f) a (operator Mul ∷ ts) h = refl
sum_rest_ends inner (suc f) a (operator Div ∷ ts) h = refl
sum_rest_ends inner (suc f) a (operator Rem ∷ ts) h = refl
sum_rest_ends inner (suc f) a (name w ∷ ts) h = refl
sum_rest_ends inner (suc f) a (number n ∷ ts) h = refl
sum_rest_ends inner (suc f) a (relation op ∷ ts) h = refl
sum_rest_ends inner (suc f) a (keyword k ∷ ts) h = refl
sum_rest_ends inner (suc f) a (mark m ∷ ts) h = refl

sum_rest_by : (inner : Reader CExpr) (f : ℕ) (op : COp) (a b : CExpr) (ts us : List Token) (r : Found CExpr) → is_sum op ≡ true
    → product_at inner f ts ≡ Some (b, us) → sum_rest inner f (Op op a b) us ≡ r → sum_rest inner (suc f) a (operator op ∷ ts) ≡ r
unfolding sum_rest
sum_rest_by inner f op a b ts us r is p q = rw (is, p) q

product_by : (inner : Reader CExpr) (f : ℕ) (ts us : List Token) (a : CExpr) (r : Found CExpr) → signed_at inner f ts ≡ Some (a, us)
    → product_rest inner f a us ≡ r → product_at inner f ts ≡ r
unfolding product_at
product_by inner f ts us a r p q = rw p q

product_rest_ends : (inner : Reader CExpr) (f : ℕ) (a : CExpr) (ts : List Token) → 1 < level ts → product_rest inner f a ts ≡ Some (a, ts)
unfolding product_rest
product_rest_ends inner zero a ts h = refl
product_rest_ends inner (suc f) a [] h = refl
product_rest_ends inner (suc f) a (operator Add ∷ ts) h = refl
product_rest_ends inner (suc f) a (operator Sub ∷ ts) h = refl
product_rest_ends inner (suc f) a (operator Mul ∷ ts) h = absurd (omega (arith, h))
product_rest_ends inner (suc f) a (operator Div ∷ ts) h = absurd (omega (arith, h))
product_rest_ends inner (suc f) a (operator Rem ∷ ts) h = absurd (omega (arith, h))
product_rest_ends inner (suc f) a (name w ∷ ts) h = refl
product_rest_ends inner (suc f) a (number n ∷ ts) h = refl
product_rest_ends inner (suc f) a (relation op ∷ ts) h = refl
product_rest_ends inner (suc f) a (keyword k ∷ ts) h = refl
product_rest_ends inner (suc f) a (mark m ∷ ts) h = refl

product_rest_by : (inner : Reader CExpr) (f : ℕ) (op : COp) (a b : CExpr) (ts us : List Token) (r : Found CExpr) → is_product op ≡ true
    → signed_at inner f ts ≡ Some (b, us) → product_rest inner f (Op op a b) us ≡ r → product_rest inner (suc f) a (operator op ∷ ts) ≡ r
unfolding product_rest
product_rest_by inner f op a b ts us r is p q = rw (is, p) q

positive_by : (inner : Reader CExpr) (f n : ℕ) (rest : List Token) → signed_at inner f (literal n rest) ≡ Some (Number (pos n), rest)
unfolding signed_at
positive_by inner f n rest = refl

negative_by : (inner : Reader CExpr) (f n : ℕ) (rest : List Token) → signed_at inner f (operator Sub ∷ literal n rest) ≡ Some (negated n, rest)
unfolding signed_at
negative_by inner f n rest = refl

-- an operand does not begin as a literal does
unsigned_by : (inner : Reader CExpr) (f : ℕ) (e : CExpr) (ts rest : List Token) → IsOperand e ts rest → signed_at inner f ts ≡ operand_at inner f ts
unfolding signed_at
unsigned_by inner f e ts rest (read (place p)) = refl
unsigned_by inner f e ts rest (bracket p other) = refl
unsigned_by inner f e ts rest (pick t p q) = refl
unsigned_by inner f e ts rest least_number = refl

minus_by : (inner : Reader CExpr) (f : ℕ) (e : CExpr) (ts rest : List Token) → IsOperand e ts rest → operand_at inner f ts ≡ Some (e, rest)
    → signed_at inner f (operator Sub ∷ ts) ≡ Some (Minus e, rest)
unfolding signed_at
minus_by inner f e ts rest (read (place p)) q = rw q
minus_by inner f e ts rest (bracket p other) q = rw q
minus_by inner f e ts rest (pick t p r) q = rw q
minus_by inner f e ts rest least_number q = rw q

read_by : (inner : Reader CExpr) (f : ℕ) (w : List ℕ) (steps : List CStep) (ts rest : List Token) → path_at inner f ts ≡ Some (steps, rest)
    → operand_at inner f (name w ∷ ts) ≡ Some (Read (record { name = word w; path = steps }), rest)
unfolding operand_at
read_by inner f w steps ts rest p = rw p

least_by : (inner : Reader CExpr) (f : ℕ) (rest : List Token) → operand_at inner f (least_text rest) ≡ Some (Number least, rest)
unfolding operand_at
least_by inner f rest = refl

bracket_by : (inner : Reader CExpr) (f : ℕ) (e : CExpr) (ts rest : List Token) → least_at ts ≡ None → inner ts ≡ Some (e, mark close_round ∷ rest)
    → operand_at inner f (mark open_round ∷ ts) ≡ Some (e, rest)
unfolding operand_at bracket_end
bracket_by inner f e ts rest n p = rw (n, p)

pick_by : (inner : Reader CExpr) (f : ℕ) (op : CRel) (a b c d : CExpr) (ts us vs ws rest : List Token) → least_at ts ≡ None
    → inner ts ≡ Some (a, relation op ∷ us) → inner us ≡ Some (b, mark question ∷ vs) → inner vs ≡ Some (c, mark colon ∷ ws)
    → inner ws ≡ Some (d, mark close_round ∷ rest)
    → operand_at inner f (mark open_round ∷ ts) ≡ Some (Pick (record { op = op; left = a; right = b }) c d, rest)
unfolding operand_at bracket_end
pick_by inner f op a b c d ts us vs ws rest n p q r s = rw (n, p, q, r, s)

path_ends_by : (inner : Reader CExpr) (f : ℕ) (ts : List Token) → 0 < level ts → path_at inner f ts ≡ Some ([], ts)
unfolding path_at
path_ends_by inner zero ts h = refl
path_ends_by inner (suc f) [] h = refl
path_ends_by inner (suc f) (operator op ∷ ts) h = refl
path_ends_by inner (suc f) (name w ∷ ts) h = refl
path_ends_by inner (suc f) (number n ∷ ts) h = refl
path_ends_by inner (suc f) (relation op ∷ ts) h = refl
path_ends_by inner (suc f) (keyword k ∷ ts) h = refl
path_ends_by inner (suc f) (mark open_brace ∷ ts) h = refl
path_ends_by inner (suc f) (mark close_brace ∷ ts) h = refl
path_ends_by inner (suc f) (mark open_square ∷ ts) h = absurd (omega (arith, h))
path_ends_by inner (suc f) (mark close_square ∷ ts) h = refl
path_ends_by inner (suc f) (mark open_round ∷ ts) h = refl
path_ends_by inner (suc f) (mark close_round ∷ ts) h = refl
path_ends_by inner (suc f) (mark semicolon ∷ ts) h = refl
path_ends_by inner (suc f) (mark colon ∷ ts) h = refl
path_ends_by inner (suc f) (mark question ∷ ts) h = refl
path_ends_by inner (suc f) (mark dot ∷ ts) h = absurd (omega (arith, h))
path_ends_by inner (suc f) (mark equals ∷ ts) h = refl

member_by : (inner : Reader CExpr) (f : ℕ) (w : List ℕ) (steps : List CStep) (ts rest : List Token) → path_at inner f ts ≡ Some (steps, rest)
    → path_at inner (suc f) (mark dot ∷ name w ∷ ts) ≡ Some (Member (word w) ∷ steps, rest)
unfolding path_at
member_by inner f w steps ts rest p = rw p

index_by : (inner : Reader CExpr) (f : ℕ) (e : CExpr) (steps : List CStep) (ts us rest : List Token) → inner ts ≡ Some (e, mark close_square ∷ us)
    → path_at inner f us ≡ Some (steps, rest) → path_at inner (suc f) (mark open_square ∷ ts) ≡ Some (At e ∷ steps, rest)
unfolding path_at
index_by inner f e steps ts us rest p q = rw (p, q)

number_by : (d : ℕ) (ts : List Token) (r : Found CExpr) → ((k : ℕ) → length ts ≤ suc k → sum_at (number_at k) (suc k) ts ≡ r) → 0 < length ts
    → length ts ≤ d → number_at d ts ≡ r
unfolding number_at
number_by zero ts r h some fits = absurd (omega arith)
number_by (suc d) ts r h some fits = h d fits

-- the tokens of -2^63, as a sum, end at a closing bracket
pub least_sum : (d f : ℕ) (rest : List Token)
    → sum_at (number_at d) (suc (suc f)) (operator Sub ∷ literal (2 ^ 63 - 1) (operator Sub ∷ literal 1 (mark close_round ∷ rest)))
    ≡ Some (Op Sub (Number (negsuc (2 ^ 63 - 2))) (Number (pos 1)), mark close_round ∷ rest)
unfolding sum_at product_at signed_at sum_rest product_rest
least_sum d f rest = refl

-- so a test does not begin as they do
abbrev behind : Found CExpr → Token → Token
behind None t = t
behind (Some (e, [])) t = t
behind (Some (e, u ∷ us)) t = u

not_least_test : (d : ℕ) (a : CExpr) (op : CRel) (ts us : List Token) → number_at d ts ≡ Some (a, relation op ∷ us) → length ts ≤ d
    → (more : List Token) → mark open_round ∷ ts ≡ least_text more → ⊥
unfolding number_at
not_least_test d a op ts us h fits more same = go d (subst (λ l. number_at d l ≡ Some (a, relation op ∷ us)) inside h) (subst (λ l. length l ≤ d) inside fits)
  where
    text : List Token
    text = operator Sub ∷ literal (2 ^ 63 - 1) (operator Sub ∷ literal 1 (mark close_round ∷ more))

    tail : List Token → List Token
    tail [] = []
    tail (u ∷ vs) = vs

    inside : ts ≡ text
    inside = ap tail same

    go : (k : ℕ) → number_at k text ≡ Some (a, relation op ∷ us) → length text ≤ k → ⊥
    go zero e within = absurd (omega (arith, within))
    go (suc zero) e within = absurd (omega (arith, within))
    go (suc (suc k)) e within =
        let clash : mark close_round ≡ relation op = ap (λ o. behind o (mark dot)) (sym (least_sum (suc k) k more) ∙ e) in cc

-- the levels at the ends of the parts
pub sum_rest_level : {a e : CExpr} {ts rest : List Token} → SumGoesOn a e ts rest → level rest ≡ 3 → 1 < level ts
sum_rest_level sum_ends h = omega arith
sum_rest_level (add {op} is p more) h = omega (arith, level_sum op is)

pub product_rest_level : {a e : CExpr} {ts rest : List Token} → ProductGoesOn a e ts rest → 1 < level rest → 0 < level ts
product_rest_level product_ends h = omega arith
product_rest_level (multiply {op} is p more) h = omega (arith, level_product op is)

mutual
  pub sum_complete : {e : CExpr} {ts rest : List Token} → IsSum e ts rest → (d f : ℕ) → level rest ≡ 3 → length ts ≤ suc d → length ts ≤ f
      → sum_at (number_at d) f ts ≡ Some (e, rest)
  sum_complete (sum p more) d f ends fits enough =
      let shorter = product_shrinks p in
      sum_by (number_at d) f _ _ _ _ (product_complete p d f (sum_rest_level more ends) fits enough)
      (sum_rest_complete more d f ends (omega arith) (omega arith))

  sum_rest_complete : {a e : CExpr} {ts rest : List Token} → SumGoesOn a e ts rest → (d f : ℕ) → level rest ≡ 3 → length ts ≤ suc d → length ts ≤ f
      → sum_rest (number_at d) f a ts ≡ Some (e, rest)
  sum_rest_complete sum_ends d f ends fits enough = sum_rest_ends (number_at d) f _ _ ends
  sum_rest_complete (add is p more) d zero ends fits enough = absurd (omega arith)
  sum_rest_complete (add {op} is p more) d (suc f) ends fits enough =
      let shorter = product_shrinks p in
      sum_rest_by (number_at d) f op _ _ _ _ _ is (product_complete p d f (sum_rest_level more ends) (omega arith) (omega arith))
      (sum_rest_complete more d f ends (omega arith) (omega arith))

  product_complete : {e : CExpr} {ts rest : List Token} → IsProduct e ts rest → (d f : ℕ) → 1 < level rest → length ts ≤ suc d → length ts ≤ f
      → product_at (number_at d) f ts ≡ Some (e, rest)
  product_complete (product p more) d f ends fits enough =
      let shorter = signed_shrinks p in
      product_by (number_at d) f _ _ _ _ (signed_complete p d f (product_rest_level more ends) fits enough)
      (product_rest_complete more d f ends (omega arith) (omega arith))

  product_rest_complete : {a e : CExpr} {ts rest : List Token} → ProductGoesOn a e ts rest → (d f : ℕ) → 1 < level rest → length ts ≤ suc d → length ts ≤ f
      → product_rest (number_at d) f a ts ≡ Some (e, rest)
  product_rest_complete product_ends d f ends fits enough = product_rest_ends (number_at d) f _ _ ends
  product_rest_complete (multiply is p more) d zero ends fits enough = absurd (omega arith)
  product_rest_complete (multiply {op} is p more) d (suc f) ends fits enough =
      let shorter = signed_shrinks p in
      product_rest_by (number_at d) f op _ _ _ _ _ is (signed_complete p d f (product_rest_level more ends) (omega arith) (omega arith))
      (product_rest_complete more d f ends (omega arith) (omega arith))

  signed_complete : {e : CExpr} {ts rest : List Token} → IsSigned e ts rest → (d f : ℕ) → 0 < level rest → length ts ≤ suc d → length ts ≤ f
      → signed_at (number_at d) f ts ≡ Some (e, rest)
  signed_complete positive d f ends fits enough = positive_by (number_at d) f _ _
  signed_complete negative d f ends fits enough = negative_by (number_at d) f _ _
  signed_complete minus_zero d f ends fits enough = negative_by (number_at d) f _ _
  signed_complete (unsigned p) d f ends fits enough = unsigned_by (number_at d) f _ _ _ p ∙ operand_complete p d f ends fits enough
  signed_complete (minus p) d f ends fits enough =
      minus_by (number_at d) f _ _ _ p (operand_complete p d f ends (omega arith) (omega arith))

  operand_complete : {e : CExpr} {ts rest : List Token} → IsOperand e ts rest → (d f : ℕ) → 0 < level rest → length ts ≤ suc d → length ts ≤ f
      → operand_at (number_at d) f ts ≡ Some (e, rest)
  operand_complete (read (place p)) d f ends fits enough = read_by (number_at d) f _ _ _ _ (path_complete p d f ends (omega arith) (omega arith))
  operand_complete (bracket p other) d f ends fits enough =
      bracket_by (number_at d) f _ _ _ (not_least _ other) (number_by d _ _ (λ k within. sum_complete p k (suc k) refl within within) (omega (arith, sum_shrinks p)) (omega arith))
  operand_complete (pick (test {op} p q) r s) d f ends fits enough =
      let shorter = sum_shrinks p in
      let then_shorter = sum_shrinks q in
      let last_shorter = sum_shrinks r in
      let first = number_by d _ _ (λ k within. sum_complete p k (suc k) refl within within) (omega (arith, sum_shrinks p)) (omega arith) in
      pick_by (number_at d) f op _ _ _ _ _ _ _ _ _ (not_least _ (not_least_test d _ op _ _ first (omega arith))) first
      (number_by d _ _ (λ k within. sum_complete q k (suc k) refl within within) (omega (arith, sum_shrinks q)) (omega arith)) (number_by d _ _ (λ k within. sum_complete r k (suc k) refl within within) (omega (arith, sum_shrinks r)) (omega arith)) (number_by d _ _ (λ k within. sum_complete s k (suc k) refl within within) (omega (arith, sum_shrinks s)) (omega arith))
  operand_complete least_number d f ends fits enough = least_by (number_at d) f _

  path_complete : {steps : List CStep} {ts rest : List Token} → IsPath steps ts rest → (d f : ℕ) → 0 < level rest → length ts ≤ suc d → length ts ≤ f
      → path_at (number_at d) f ts ≡ Some (steps, rest)
  path_complete path_ends d f ends fits enough = path_ends_by (number_at d) f _ ends
  path_complete (member p) d zero ends fits enough = absurd (omega arith)
  path_complete (member p) d (suc f) ends fits enough = member_by (number_at d) f _ _ _ _ (path_complete p d f ends (omega arith) (omega arith))
  path_complete (index e p) d zero ends fits enough = absurd (omega arith)
  path_complete (index e p) d (suc f) ends fits enough =
      let shorter = sum_shrinks e in
      index_by (number_at d) f _ _ _ _ _ (number_by d _ _ (λ k within. sum_complete e k (suc k) refl within within) (omega (arith, sum_shrinks e)) (omega arith)) (path_complete p d f ends (omega arith) (omega arith))

pub number_complete : {e : CExpr} {ts rest : List Token} → IsSum e ts rest → (d : ℕ) → level rest ≡ 3 → length ts ≤ d
    → number_at d ts ≡ Some (e, rest)
number_complete p d ends fits = number_by d _ _ (λ k within. sum_complete p k (suc k) ends within within) (omega (arith, sum_shrinks p)) fits

test_complete : {t : CTest} {ts rest : List Token} → IsTest t ts rest → (d : ℕ) → level rest ≡ 3 → length ts ≤ d → test_at d ts ≡ Some (t, rest)
unfolding test_at
test_complete (test p q) d ends fits =
    let shorter = sum_shrinks p in rw (number_complete p d refl fits, number_complete q d ends (omega arith))

-- selectors, where the brackets of their indices have room
steps_complete : {steps : List CStep} {ts rest : List Token} → IsPath steps ts rest → (d : ℕ) → 0 < level rest → length ts ≤ d
    → path_at (number_at d) d ts ≡ Some (steps, rest)
steps_complete p d ends fits = path_complete p d d ends (omega arith) fits

module _ {A : Type 0} (Is : A → List Token → List Token → Type 0) (one : Reader A) (d : ℕ)
    (shrinks : (x : A) (ts rest : List Token) → Is x ts rest → length rest < length ts)
    (finds : (x : A) (ts rest : List Token) → Is x ts rest → length ts ≤ d → one ts ≡ Some (x, rest)) where
  each_complete : {xs : List A} {ts rest : List Token} → Each Is xs ts rest → (f : ℕ) → one rest ≡ None → length ts ≤ d → length ts ≤ f
      → each_at one f ts ≡ Some (xs, rest)
  unfolding each_at
  each_complete none zero ends fits enough = refl
  each_complete none (suc f) ends fits enough = rw ends
  each_complete (one_more p more) zero ends fits enough = absurd (omega (arith, shrinks _ _ _ p))
  each_complete (one_more p more) (suc f) ends fits enough =
      let shorter = shrinks _ _ _ p in
      rw (finds _ _ _ p fits, each_complete more f ends (omega arith) (omega arith))

pub each_shrinks : {A : Type 0} {Is : A → List Token → List Token → Type 0} {xs : List A} {ts rest : List Token}
    → ((x : A) (us vs : List Token) → Is x us vs → length vs < length us) → Each Is xs ts rest → length rest ≤ length ts
each_shrinks h none = omega arith
each_shrinks h (one_more p more) = omega (arith, h _ _ _ p, each_shrinks h more)

pub constant_shrinks : {z : ℤ} {ts rest : List Token} → IsConstant z ts rest → length rest < length ts
constant_shrinks constant = omega arith
constant_shrinks negative_constant = omega arith
constant_shrinks least_constant = omega arith

constant_complete : {z : ℤ} {ts rest : List Token} → IsConstant z ts rest → constant_at ts ≡ Some (z, rest)
unfolding constant_at
constant_complete constant = refl
constant_complete negative_constant = refl
constant_complete least_constant = refl

pub case_shrinks : (c : CCase) (ts rest : List Token) → IsCase c ts rest → length rest < length ts
case_shrinks c ts rest (case_goto p) = omega (arith, constant_shrinks p)

case_complete : (c : CCase) (ts rest : List Token) → IsCase c ts rest → case_at ts ≡ Some (c, rest)
unfolding case_at
case_complete c ts rest (case_goto p) = rw (constant_complete p)

pub statement_shrinks : (s : CStmt) (ts rest : List Token) → IsStatement s ts rest → length rest < length ts
statement_shrinks s ts rest (assign p e) = omega (arith, place_shrinks p, sum_shrinks e)
statement_shrinks s ts rest (if_goto t) = omega (arith, test_shrinks t)
statement_shrinks s ts rest goto = omega arith
statement_shrinks s ts rest label = omega arith
statement_shrinks s ts rest (switch e cases) = omega (arith, sum_shrinks e, each_shrinks case_shrinks cases)
statement_shrinks s ts rest call = omega arith
statement_shrinks s ts rest return = omega arith

-- behind the name of an assignment's target neither `:` nor `(` stands
assign_by : {steps : List CStep} {ts us : List Token} (d : ℕ) (w : List ℕ) (e : CExpr) (rest : List Token) → IsPath steps ts (mark equals ∷ us)
    → path_at (number_at d) d ts ≡ Some (steps, mark equals ∷ us) → number_at d us ≡ Some (e, mark semicolon ∷ rest)
    → named_at d w ts ≡ Some (Assign (record { name = word w; path = steps }) e, rest)
unfolding named_at
assign_by d w e rest path_ends p q = rw (p, q)
assign_by d w e rest (member more) p q = rw (p, q)
assign_by d w e rest (index i more) p q = rw (p, q)

statement_complete : (d : ℕ) (s : CStmt) (ts rest : List Token) → IsStatement s ts rest → length ts ≤ d → statement_at d ts ≡ Some (s, rest)
unfolding statement_at named_at goto_at if_at switch_at return_at case_at
statement_complete d s ts rest (assign (place p) e) fits =
    let shorter = path_shrinks p in
    assign_by d _ _ rest p (steps_complete p d (omega arith) (omega arith)) (number_complete e d refl (omega arith))
statement_complete d s ts rest (if_goto t) fits = rw (test_complete t d refl (omega arith))
statement_complete d s ts rest goto fits = refl
statement_complete d s ts rest label fits = refl
statement_complete d s ts rest (switch e cases) fits =
    let shorter = sum_shrinks e in
    rw (number_complete e d refl (omega arith), each_complete IsCase case_at d case_shrinks (λ c us vs p within. case_complete c us vs p) cases d refl (omega arith) (omega arith))
statement_complete d s ts rest call fits = refl
statement_complete d s ts rest return fits = refl

pub type_shrinks : {k : CType} {ts rest : List Token} → IsType k ts rest → length rest < length ts
type_shrinks number_type = omega arith
type_shrinks struct_type = omega arith

type_complete : {k : CType} {ts rest : List Token} → IsType k ts rest → type_at ts ≡ Some (k, rest)
unfolding type_at
type_complete number_type = refl
type_complete struct_type = refl

pub member_shrinks : (m : CMember) (ts rest : List Token) → IsMember m ts rest → length rest < length ts
member_shrinks m ts rest (single k) = omega (arith, type_shrinks k)
member_shrinks m ts rest (array low high k) = omega (arith, type_shrinks k)

member_complete : (m : CMember) (ts rest : List Token) → IsMember m ts rest → member_at ts ≡ Some (m, rest)
unfolding member_at member_end
member_complete m ts rest (single k) = rw (type_complete k)
member_complete m ts rest (array {n} low high k) = rw (type_complete k, lt-ltb 0 n low, le-leb n 65536 high)

pub struct_shrinks : (s : CStruct) (ts rest : List Token) → IsStruct s ts rest → length rest < length ts
struct_shrinks s ts rest (structure ms) = omega (arith, each_shrinks member_shrinks ms)

struct_complete : (d : ℕ) (s : CStruct) (ts rest : List Token) → IsStruct s ts rest → length ts ≤ d → struct_at d ts ≡ Some (s, rest)
unfolding struct_at struct_end member_at type_at
struct_complete d s ts rest (structure ms) fits =
    rw (each_complete IsMember member_at d member_shrinks (λ m us vs p within. member_complete m us vs p) ms d refl (omega arith) (omega arith))

pub global_shrinks : (g : CGlobal) (ts rest : List Token) → IsGlobal g ts rest → length rest < length ts
global_shrinks g ts rest (global k) = omega (arith, type_shrinks k)

global_complete : (g : CGlobal) (ts rest : List Token) → IsGlobal g ts rest → global_at ts ≡ Some (g, rest)
unfolding global_at
global_complete g ts rest (global k) = rw (type_complete k)

pub event_shrinks : (e : Word) (ts rest : List Token) → IsEvent e ts rest → length rest < length ts
event_shrinks e ts rest event = omega arith

event_complete : (e : Word) (ts rest : List Token) → IsEvent e ts rest → event_at ts ≡ Some (e, rest)
unfolding event_at head_at
event_complete e ts rest event = refl

pub function_shrinks : (f : CFunction) (ts rest : List Token) → IsFunction f ts rest → length rest < length ts
function_shrinks f ts rest (function body) = omega (arith, each_shrinks statement_shrinks body)

function_complete : (d : ℕ) (f : CFunction) (ts rest : List Token) → IsFunction f ts rest → length ts ≤ d → function_at d ts ≡ Some (f, rest)
unfolding function_at head_at statement_at
function_complete d f ts rest (function body) fits =
    rw (each_complete IsStatement (statement_at d) d statement_shrinks (statement_complete d) body d refl (omega arith) (omega arith))

-- where the functions begin no event, no global and no struct begins, and so on outward
no_event : {fs : List CFunction} {ts rest : List Token} → Each IsFunction fs ts rest → rest ≡ [] → event_at ts ≡ None
unfolding event_at head_at
no_event none e = rw e
no_event (one_more (function body) more) e = refl

no_global : {es : List Word} {fs : List CFunction} {ts us rest : List Token} → Each IsEvent es ts us → Each IsFunction fs us rest → rest ≡ []
    → global_at ts ≡ None
unfolding global_at type_at
no_global none none e = rw e
no_global none (one_more (function body) more) e = refl
no_global (one_more event more) fs e = refl

no_struct : {gs : List CGlobal} {es : List Word} {fs : List CFunction} {ts us vs rest : List Token} (d : ℕ) → Each IsGlobal gs ts us
    → Each IsEvent es us vs → Each IsFunction fs vs rest → rest ≡ [] → struct_at d ts ≡ None
unfolding struct_at
no_struct d none none none e = rw e
no_struct d none none (one_more (function body) more) e = refl
no_struct d none (one_more event more) fs e = refl
no_struct d (one_more (global number_type) more) es fs e = refl
no_struct d (one_more (global struct_type) more) es fs e = refl

program_complete : {P : CProgram} {ts : List Token} → IsProgram P ts → (d : ℕ) → length ts ≤ d → program_at d ts ≡ Some (P, [])
unfolding program_at function_at head_at
program_complete (program structs globals events functions) d fits =
    let a = each_shrinks struct_shrinks structs in
    let b = each_shrinks global_shrinks globals in
    let c = each_shrinks event_shrinks events in
    let e = each_complete IsStruct (struct_at d) d struct_shrinks (struct_complete d) structs d (no_struct d globals events functions refl) fits fits in
    let f = each_complete IsGlobal global_at d global_shrinks (λ g us vs p within. global_complete g us vs p) globals d (no_global events functions refl) (omega arith) (omega arith) in
    let g = each_complete IsEvent event_at d event_shrinks (λ x us vs p within. event_complete x us vs p) events d (no_event functions refl) (omega arith) (omega arith) in
    let h = each_complete IsFunction (function_at d) d function_shrinks (function_complete d) functions d refl (omega arith) (omega arith) in
    rw (e, f, g, h)

-- what the grammar has the reader finds
pub read_complete : {P : CProgram} {ts : List Token} → IsProgram P ts → read_tokens ts ≡ Some P
unfolding read_tokens
read_complete {ts} p = rw (program_complete p (length ts) (omega arith))

-- tokens are the text of one program at most
pub IsProgram-unique : {P Q : CProgram} {ts : List Token} → IsProgram P ts → IsProgram Q ts → P ≡ Q
IsProgram-unique {P} {Q} p q = Some-same P Q (sym (read_complete p) ∙ read_complete q)

pub CSpells-unique : (P Q : CProgram) (text : List ℕ) → CSpells P text → CSpells Q text → P ≡ Q
CSpells-unique P Q text h k =
    IsProgram-unique h.2 (subst (λ ts. IsProgram Q ts) (HasTokens-unique k.0 h.0 text k.1 h.1) k.2)
