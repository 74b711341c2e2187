-- The plain text of a program spells it.
use Rattle.std.proofs.Common.{◌≡◌, ℕ, zero, suc, ◌-◌, ◌^◌, ◌≤◌, Bool, true, false, cond, ◌==◌, nat_le, List, [], ◌∷◌, map, length, IsTrue, ℤ, pos, negsuc, Option, Some, None, refl, sym, ap, ◌∙◌, subst, arith, eqb-true, leb-true}
use Rattle.std.proofs.lemmas.Bool.{true≢false}
use Rattle.og_names.specs.declared.Word.{Word}
use Rattle.og_csubset.specs.declared.CProgram.{CProgram}
use Rattle.og_csubset.specs.declared.CStruct.{CStruct}
use Rattle.og_csubset.specs.declared.CMember.{CMember}
use Rattle.og_csubset.specs.declared.CGlobal.{CGlobal}
use Rattle.og_csubset.specs.declared.CType.{CType}
use Rattle.og_csubset.specs.declared.CType.TheVariants.{Int64, Struct}
use Rattle.og_csubset.specs.declared.CFunction.{CFunction}
use Rattle.og_csubset.specs.declared.CStmt.{CStmt}
use Rattle.og_csubset.specs.declared.CStmt.TheVariants.{Assign, IfGoto, Goto, Label, Switch, Call, Return}
use Rattle.og_csubset.specs.declared.CCase.{CCase}
use Rattle.og_csubset.specs.declared.CPlace.{CPlace, size-CPlace}
use Rattle.og_csubset.specs.declared.CStep.{CStep, Member, At}
use Rattle.og_csubset.specs.declared.CExpr.{CExpr, Number, Read, Minus, Op, Pick, size-CExpr, out-CExpr, roll-CExpr, roll-out-CExpr, size_is-CExpr}
use Rattle.og_csubset.specs.declared.CExpr.TheOpen as open'
use Rattle.og_csubset.specs.declared.CExpr.TheVariants.{rolls-Number, rolls-Read, rolls-Minus, rolls-Op, rolls-Pick, outs-Number, outs-Read, outs-Minus, outs-Op, outs-Pick}
use Rattle.og_csubset.specs.declared.CTest.{CTest, size-CTest}
use Rattle.og_csubset.specs.declared.COp.{COp}
use Rattle.og_csubset.specs.declared.COp.TheVariants.{Add, Sub, Mul, Div, Rem}
use Rattle.og_csubset.specs.Tokens.{Token, operator, relation, mark, close_brace, close_square, open_round, close_round, semicolon, dot, equals}
use Rattle.og_csubset.specs.Spelling.{literal, least_text, is_sum, is_product, IsSum, sum, SumGoesOn, sum_ends, add, IsProduct, product, ProductGoesOn, product_ends, multiply, IsSigned, positive, negative, minus_zero, unsigned, minus, IsOperand, read, bracket, pick, least_number, IsTest, test, IsPlace, place, IsPath, path_ends, member, index, Each, none, one_more, IsConstant, constant, negative_constant, least_constant, IsCase, case_goto, IsStatement, assign, if_goto, goto, label, switch, call, return, IsType, number_type, struct_type, IsMember, single, array, IsStruct, structure, IsGlobal, global, IsEvent, event, IsFunction, function, IsProgram, program}
use Rattle.og_csubset.specs.Plain.{Text, Piece, piece, bracketed, shown, number_piece, is_value, behind_sign, is_least_sum, operation, op_piece, joined, plain_piece, plain_place, plain_test, plain_number, each, plain_constant, plain_case, plain_statement, plain_type, plain_member, plain_struct, plain_global, plain_event, plain_function, plain_tokens, IsSize, HasSizes, HasMember, HasMembers}
use Rattle.og_csubset.proofs.Seen.{nothing, Some-same}
use Rattle.og_csubset.specs.Reading.{number_at, sum_at}
use Rattle.og_csubset.proofs.Complete.{sum_complete, least_sum}
use Rattle.og_csubset.proofs.Sizes.{op_left, op_right, minus_part, pick_first, pick_second, pick_test, read_place, test_left, test_right, Within, place_within, at_part}
use Rattle.og_csubset.proofs.PlainTexts.{plain_step, piece-Number, piece-Read, piece-Minus, piece-Op, piece-Pick, step-Member, step-At, place-text, test-text}

-- the forms of an expression
data Form : CExpr → Type 0 where
  of_number : (z : ℤ) → Form (Number z)
  of_read : (p : CPlace) → Form (Read p)
  of_minus : (e : CExpr) → Form (Minus e)
  of_op : (op : COp) (a b : CExpr) → Form (Op op a b)
  of_pick : (t : CTest) (a b : CExpr) → Form (Pick t a b)

form_of : (o : open'.CExpr-F CExpr CStep CPlace CTest) → Form (roll-CExpr o)
form_of (open'.Number z) = subst Form (sym (rolls-Number z)) (of_number z)
form_of (open'.Read p) = subst Form (sym (rolls-Read p)) (of_read p)
form_of (open'.Minus e) = subst Form (sym (rolls-Minus e)) (of_minus e)
form_of (open'.Op op a b) = subst Form (sym (rolls-Op op a b)) (of_op op a b)
form_of (open'.Pick t a b) = subst Form (sym (rolls-Pick t a b)) (of_pick t a b)

form : (e : CExpr) → Form e
form e = subst Form (roll-out-CExpr e) (form_of (out-CExpr e))

-- the sum that would be -2^63 in a bracket
least_tree : CExpr
least_tree = Op Sub (Number (negsuc (2 ^ 63 - 2))) (Number (pos 1))

sum_not_least : (e : CExpr) (ts r : List Token) → IsSum e ts (mark close_round ∷ r) → (e ≡ least_tree → ⊥) → (more : List Token)
    → mark open_round ∷ ts ≡ least_text more → ⊥
unfolding least_tree
sum_not_least e ts r h other more same =
    let d = length ts in
    let mine : sum_at (number_at d) (suc (suc d)) ts ≡ Some (e, mark close_round ∷ r) = sum_complete h d (suc (suc d)) refl (omega arith) (omega arith) in
    let inside : ts ≡ operator Sub ∷ literal (2 ^ 63 - 1) (operator Sub ∷ literal 1 (mark close_round ∷ more)) = ap tail same in
    let its : sum_at (number_at d) (suc (suc d)) ts ≡ Some (Op Sub (Number (negsuc (2 ^ 63 - 2))) (Number (pos 1)), mark close_round ∷ more) =
    ap (λ l. sum_at (number_at d) (suc (suc d)) l) inside ∙ least_sum d d more in
    other (ap (λ p. p.0) (Some-same (e, mark close_round ∷ r) (Op Sub (Number (negsuc (2 ^ 63 - 2))) (Number (pos 1)), mark close_round ∷ more) (sym mine ∙ its)))
  where
    tail : List Token → List Token
    tail [] = []
    tail (u ∷ us) = us

-- what a piece of text is of
record Good (e : CExpr) (p : Piece) : Type 0 where
  operand : p.level ≡ 0 → (rest : List Token) → IsOperand e (p.bare rest) rest
  signed : p.level ≤ 1 → (rest : List Token) → IsSigned e (p.bare rest) rest
  product : p.level ≤ 2 → (rest : List Token) → IsProduct e (p.bare rest) rest
  sum : (rest : List Token) → IsSum e (p.bare rest) rest
  inside : (rest : List Token) → IsOperand e (bracketed p rest) rest
  value : (z : ℤ) → p.value ≡ Some z → e ≡ Number z

pub to_product : {e : CExpr} {ts rest : List Token} → IsSigned e ts rest → IsProduct e ts rest
to_product h = product h product_ends

pub to_sum : {e : CExpr} {ts rest : List Token} → IsProduct e ts rest → IsSum e ts rest
to_sum h = sum h sum_ends

operand_good : (e : CExpr) (text : Text) → ((rest : List Token) → IsOperand e (text rest) rest) → (e ≡ least_tree → ⊥) → Good e (piece 0 text None)
operand_good e text h other = record {
  operand = λ _ rest. h rest;
  signed = λ _ rest. unsigned (h rest);
  product = λ _ rest. to_product (unsigned (h rest));
  sum = λ rest. to_sum (to_product (unsigned (h rest)));
  inside = λ rest. bracket (to_sum (to_product (unsigned (h (mark close_round ∷ rest)))))
      (sum_not_least e _ rest (to_sum (to_product (unsigned (h (mark close_round ∷ rest))))) other);
  value = λ z k. nothing z k;
}

signed_good : (e : CExpr) (text : Text) (v : Option ℤ) → ((rest : List Token) → IsSigned e (text rest) rest) → (e ≡ least_tree → ⊥)
    → ((z : ℤ) → v ≡ Some z → e ≡ Number z) → Good e (piece 1 text v)
signed_good e text v h other value = record {
  operand = λ k rest. absurd (omega (arith, k));
  signed = λ _ rest. h rest;
  product = λ _ rest. to_product (h rest);
  sum = λ rest. to_sum (to_product (h rest));
  inside = λ rest. bracket (to_sum (to_product (h (mark close_round ∷ rest))))
      (sum_not_least e _ rest (to_sum (to_product (h (mark close_round ∷ rest)))) other);
  value = value;
}

shown_operand : (e : CExpr) (p : Piece) → Good e p → (rest : List Token) → IsOperand e (shown 0 p rest) rest
shown_operand e p h rest = go (nat_le p.level 0) refl
  where
    go : (c : Bool) → nat_le p.level 0 ≡ c → IsOperand e (cond c (p.bare rest) (bracketed p rest)) rest
    go true k = let low = leb-true p.level 0 k in h.operand (omega arith) rest
    go false k = h.inside rest

shown_signed : (e : CExpr) (p : Piece) → Good e p → (rest : List Token) → IsSigned e (shown 1 p rest) rest
shown_signed e p h rest = go (nat_le p.level 1) refl
  where
    go : (c : Bool) → nat_le p.level 1 ≡ c → IsSigned e (cond c (p.bare rest) (bracketed p rest)) rest
    go true k = h.signed (leb-true p.level 1 k) rest
    go false k = unsigned (h.inside rest)

shown_product : (e : CExpr) (p : Piece) → Good e p → (rest : List Token) → IsProduct e (shown 2 p rest) rest
shown_product e p h rest = go (nat_le p.level 2) refl
  where
    go : (c : Bool) → nat_le p.level 2 ≡ c → IsProduct e (cond c (p.bare rest) (bracketed p rest)) rest
    go true k = h.product (leb-true p.level 2 k) rest
    go false k = to_product (unsigned (h.inside rest))

shown_sum : (e : CExpr) (p : Piece) → Good e p → (rest : List Token) → IsSum e (shown 3 p rest) rest
shown_sum e p h rest = go (nat_le p.level 3) refl
  where
    go : (c : Bool) → nat_le p.level 3 ≡ c → IsSum e (cond c (p.bare rest) (bracketed p rest)) rest
    go true k = h.sum rest
    go false k = to_sum (to_product (unsigned (h.inside rest)))

-- one more operand at the end
goes_on : {x a b : CExpr} {op : COp} {ts us rest : List Token} → SumGoesOn x a ts (operator op ∷ us) → IsTrue (is_sum op) → IsProduct b us rest
    → SumGoesOn x (Op op a b) ts rest
goes_on sum_ends is q = add is q sum_ends
goes_on (add was p more) is q = add was p (goes_on more is q)

pub sum_on : {a b : CExpr} {op : COp} {ts us rest : List Token} → IsSum a ts (operator op ∷ us) → IsTrue (is_sum op) → IsProduct b us rest
    → IsSum (Op op a b) ts rest
sum_on (sum p more) is q = sum p (goes_on more is q)

product_goes_on : {x a b : CExpr} {op : COp} {ts us rest : List Token} → ProductGoesOn x a ts (operator op ∷ us) → IsTrue (is_product op)
    → IsSigned b us rest → ProductGoesOn x (Op op a b) ts rest
product_goes_on product_ends is q = multiply is q product_ends
product_goes_on (multiply was p more) is q = multiply was p (product_goes_on more is q)

pub product_on : {a b : CExpr} {op : COp} {ts us rest : List Token} → IsProduct a ts (operator op ∷ us) → IsTrue (is_product op) → IsSigned b us rest
    → IsProduct (Op op a b) ts rest
product_on (product p more) is q = product p (product_goes_on more is q)

-- an operation is no other form, and the same operation only with the same parts
abbrev Opened : Type 0
Opened = open'.CExpr-F CExpr CStep CPlace CTest

opened_same : (e f : CExpr) (x y : Opened) → out-CExpr e ≡ x → out-CExpr f ≡ y → e ≡ f → x ≡ y
opened_same e f x y p q h = sym p ∙ ap out-CExpr h ∙ q

number_other : (z : ℤ) → Number z ≡ least_tree → ⊥
unfolding least_tree
number_other z h = let e = opened_same (Number z) least_tree _ _ (outs-Number z) (outs-Op _ _ _) h in cc

read_other : (p : CPlace) → Read p ≡ least_tree → ⊥
unfolding least_tree
read_other p h = let e = opened_same (Read p) least_tree _ _ (outs-Read p) (outs-Op _ _ _) h in cc

minus_other : (a : CExpr) → Minus a ≡ least_tree → ⊥
unfolding least_tree
minus_other a h = let e = opened_same (Minus a) least_tree _ _ (outs-Minus a) (outs-Op _ _ _) h in cc

pick_other : (t : CTest) (a b : CExpr) → Pick t a b ≡ least_tree → ⊥
unfolding least_tree
pick_other t a b h = let e = opened_same (Pick t a b) least_tree _ _ (outs-Pick t a b) (outs-Op _ _ _) h in cc

record SameParts (op : COp) (a b : CExpr) : Type 0 where
  op_same : op ≡ Sub
  left_same : a ≡ Number (negsuc (2 ^ 63 - 2))
  right_same : b ≡ Number (pos 1)

same_parts : (op : COp) (a b : CExpr) → Op op a b ≡ least_tree → SameParts op a b
unfolding least_tree
same_parts op a b h =
    let e = opened_same (Op op a b) least_tree _ _ (outs-Op op a b) (outs-Op _ _ _) h in
    record { op_same = cc; left_same = cc; right_same = cc }

number_good : (z : ℤ) → Good (Number z) (number_piece z)
number_good (pos n) =
    signed_good (Number (pos n)) (literal n) (Some (pos n)) (λ rest. positive) (number_other (pos n)) (λ z k. ap Number (Some-same (pos n) z k))
number_good (negsuc n) = go (n == 2 ^ 63 - 1) refl
  where
    go : (c : Bool) → (n == 2 ^ 63 - 1) ≡ c
        → Good (Number (negsuc n)) (cond c (piece 0 least_text None) (piece 1 (λ rest. operator Sub ∷ literal (suc n) rest) (Some (negsuc n))))
    go true k = operand_good (Number (negsuc n)) least_text
        (λ rest. subst (λ m. IsOperand (Number (negsuc m)) (least_text rest) rest) (sym (eqb-true n (2 ^ 63 - 1) k)) least_number) (number_other (negsuc n))
    go false k = signed_good (Number (negsuc n)) (λ rest. operator Sub ∷ literal (suc n) rest) (Some (negsuc n)) (λ rest. negative)
        (number_other (negsuc n)) (λ z j. ap Number (Some-same (negsuc n) z j))

-- what a test of a value says
value_is : (z : ℤ) (o : Option ℤ) → is_value z o ≡ true → o ≡ Some z
value_is z None h = absurd (true≢false (sym h))
value_is (pos n) (Some (pos m)) h = ap (λ k. Some (pos k)) (sym (eqb-true n m h))
value_is (pos n) (Some (negsuc m)) h = absurd (true≢false (sym h))
value_is (negsuc n) (Some (pos m)) h = absurd (true≢false (sym h))
value_is (negsuc n) (Some (negsuc m)) h = ap (λ k. Some (negsuc k)) (sym (eqb-true n m h))

-- an operation of sums, and one of products
sum_op_good : (op : COp) (a b : CExpr) (p q : Piece) (inside : Text) → is_sum op ≡ true → Good a p → Good b q
    → ((rest : List Token) → IsOperand (Op op a b) (mark open_round ∷ inside (mark close_round ∷ rest)) rest)
    → Good (Op op a b) (record { level = 3; bare = operation 3 op p q; inside = inside; value = None })
sum_op_good op a b p q inside is g h within = record {
  operand = λ k rest. absurd (omega (arith, k));
  signed = λ k rest. absurd (omega (arith, k));
  product = λ k rest. absurd (omega (arith, k));
  sum = λ rest. sum_on (shown_sum a p g (operator op ∷ shown 2 q rest)) is (shown_product b q h rest);
  inside = within;
  value = λ z k. nothing z k;
}

product_op_good : (op : COp) (a b : CExpr) (p q : Piece) → is_product op ≡ true → Good a p → Good b q → (op ≡ Sub → ⊥)
    → Good (Op op a b) (record { level = 2; bare = operation 2 op p q; inside = operation 2 op p q; value = None })
product_op_good op a b p q is g h other =
    let whole : (rest : List Token) → IsProduct (Op op a b) (operation 2 op p q rest) rest =
    λ rest. product_on (shown_product a p g (operator op ∷ shown 1 q rest)) is (shown_signed b q h rest) in
    record {
      operand = λ k rest. absurd (omega (arith, k));
      signed = λ k rest. absurd (omega (arith, k));
      product = λ k rest. whole rest;
      sum = λ rest. to_sum (whole rest);
      inside = λ rest. bracket (to_sum (whole (mark close_round ∷ rest)))
          (sum_not_least (Op op a b) _ rest (to_sum (whole (mark close_round ∷ rest))) (λ e. other (same_parts op a b e).op_same));
      value = λ z k. nothing z k;
    }

-- a sum that is not the one of -2^63 in a bracket
plain_inside : (op : COp) (a b : CExpr) (p q : Piece) → is_sum op ≡ true → Good a p → Good b q → (Op op a b ≡ least_tree → ⊥) → (rest : List Token)
    → IsOperand (Op op a b) (mark open_round ∷ operation 3 op p q (mark close_round ∷ rest)) rest
plain_inside op a b p q is g h other rest =
    let whole = sum_on (shown_sum a p g (operator op ∷ shown 2 q (mark close_round ∷ rest))) is (shown_product b q h (mark close_round ∷ rest)) in
    bracket whole (sum_not_least (Op op a b) _ rest whole other)

-- and the one that is
least_inside : (a b : CExpr) (p q : Piece) → Good a p → Good b q → (rest : List Token)
    → IsOperand (Op Sub a b) (mark open_round ∷ bracketed p (operator Sub ∷ shown 2 q (mark close_round ∷ rest))) rest
least_inside a b p q g h rest =
    bracket (sum_on (to_sum (to_product (unsigned (g.inside (operator Sub ∷ shown 2 q (mark close_round ∷ rest)))))) refl (shown_product b q h (mark close_round ∷ rest)))
    (λ more e. let clash : mark open_round ≡ operator Sub = ap second e in cc)
  where
    second : List Token → Token
    second [] = mark dot
    second (t ∷ []) = mark dot
    second (t ∷ u ∷ us) = u

-- the two values of that sum
least_values : (a b : CExpr) → SameParts Sub a b → is_least_sum Sub (plain_piece a) (plain_piece b) ≡ true
least_values a b h =
    let left : (plain_piece a).value ≡ Some (negsuc (2 ^ 63 - 2)) = ap (λ x. (plain_piece x).value) h.left_same ∙ ap (λ p. p.value) (piece-Number (negsuc (2 ^ 63 - 2))) in
    let right : (plain_piece b).value ≡ Some (pos 1) = ap (λ x. (plain_piece x).value) h.right_same ∙ ap (λ p. p.value) (piece-Number (pos 1)) in
    rw (left, right)

op_good : (op : COp) (a b : CExpr) → Good a (plain_piece a) → Good b (plain_piece b) → Good (Op op a b) (op_piece op (plain_piece a) (plain_piece b))
op_good Add a b g h =
    sum_op_good Add a b (plain_piece a) (plain_piece b) _ refl g h
    (plain_inside Add a b (plain_piece a) (plain_piece b) refl g h (λ e. let k = (same_parts Add a b e).op_same in cc))
op_good Sub a b g h = sum_op_good Sub a b (plain_piece a) (plain_piece b) _ refl g h (λ rest. go (is_least_sum Sub (plain_piece a) (plain_piece b)) refl rest)
  where
    p : Piece
    p = plain_piece a

    q : Piece
    q = plain_piece b

    go : (c : Bool) → is_least_sum Sub (plain_piece a) (plain_piece b) ≡ c → (rest : List Token) → IsOperand (Op Sub a b)
        (mark open_round ∷ (cond {A = Text} c (λ us. bracketed (plain_piece a) (operator Sub ∷ shown 2 (plain_piece b) us)) (operation 3 Sub (plain_piece a) (plain_piece b))) (mark close_round ∷ rest)) rest
    go true k rest = least_inside a b (plain_piece a) (plain_piece b) g h rest
    go false k rest = plain_inside Sub a b (plain_piece a) (plain_piece b) refl g h (λ e. true≢false (sym (least_values a b (same_parts Sub a b e)) ∙ k)) rest
op_good Mul a b g h = product_op_good Mul a b (plain_piece a) (plain_piece b) refl g h (λ e. cc)
op_good Div a b g h = product_op_good Div a b (plain_piece a) (plain_piece b) refl g h (λ e. cc)
op_good Rem a b g h = product_op_good Rem a b (plain_piece a) (plain_piece b) refl g h (λ e. cc)

minus_text : (a : CExpr) → Good a (plain_piece a) → (rest : List Token) → IsSigned (Minus a) (operator Sub ∷ behind_sign (plain_piece a) rest) rest
minus_text a g rest = go (is_value (pos 0) (plain_piece a).value) refl
  where
    zero_text : a ≡ Number (pos 0) → IsSigned (Minus a) (operator Sub ∷ (plain_piece a).bare rest) rest
    zero_text e =
        subst (λ x. IsSigned (Minus x) (operator Sub ∷ (plain_piece x).bare rest) rest) (sym e)
        (subst (λ p. IsSigned (Minus (Number (pos 0))) (operator Sub ∷ p.bare rest) rest) (sym (piece-Number (pos 0))) minus_zero)

    go : (c : Bool) → is_value (pos 0) (plain_piece a).value ≡ c
        → IsSigned (Minus a) (operator Sub ∷ (cond {A = Text} c (plain_piece a).bare (shown 0 (plain_piece a))) rest) rest
    go true k = zero_text (g.value (pos 0) (value_is (pos 0) (plain_piece a).value k))
    go false k = minus (shown_operand a (plain_piece a) g rest)

-- the parts of places and tests, where their expressions are good
GoodBelow : ℕ → Type 0
GoodBelow d = (e : CExpr) → size-CExpr e ≤ d → Good e (plain_piece e)

steps_text : (d : ℕ) → GoodBelow d → (steps : List CStep) → Within d steps → (rest : List Token) → IsPath steps (joined (map plain_step steps) rest) rest
unfolding GoodBelow
steps_text d good [] h rest = path_ends
steps_text d good (Member w ∷ steps) h rest =
    subst (λ t. IsPath (Member w ∷ steps) (t (joined (map plain_step steps) rest)) rest) (sym (step-Member w)) (member (steps_text d good steps h.1 rest))
steps_text d good (At e ∷ steps) h rest =
    let g = good e (omega (arith, at_part e, h.0)) in
    subst (λ t. IsPath (At e ∷ steps) (t (joined (map plain_step steps) rest)) rest) (sym (step-At e))
    (index (g.sum (mark close_square ∷ joined (map plain_step steps) rest)) (steps_text d good steps h.1 rest))

place_text_is : (d : ℕ) → GoodBelow d → (p : CPlace) → size-CPlace p ≤ suc d → (rest : List Token) → IsPlace p (plain_place p rest) rest
place_text_is d good p h rest =
    subst (λ t. IsPlace p (t rest) rest) (sym (place-text p.name p.path)) (place (steps_text d good p.path (place_within d p.name p.path h) rest))

test_text_is : (d : ℕ) → GoodBelow d → (t : CTest) → size-CTest t ≤ suc d → (rest : List Token) → IsTest t (plain_test t rest) rest
unfolding GoodBelow
test_text_is d good t h rest =
    let g = good t.left (omega (arith, test_left t.op t.left t.right)) in
    let k = good t.right (omega (arith, test_right t.op t.left t.right)) in
    subst (λ f. IsTest t (f rest) rest) (sym (test-text t.op t.left t.right)) (test (g.sum (relation t.op ∷ plain_number t.right rest)) (k.sum rest))

good : (d : ℕ) (e : CExpr) → size-CExpr e ≤ d → Good e (plain_piece e)
unfolding GoodBelow
good zero e h = absurd (omega (arith, h, size_is-CExpr e))
good (suc d) e h = go (good d) (form e) h
  where
    go : GoodBelow d → {f : CExpr} → Form f → size-CExpr f ≤ suc d → Good f (plain_piece f)
    go below (of_number z) k = subst (λ p. Good (Number z) p) (sym (piece-Number z)) (number_good z)
    go below (of_read p) k =
        subst (λ x. Good (Read p) x) (sym (piece-Read p))
        (operand_good (Read p) (plain_place p) (λ rest. read (place_text_is d below p (omega (arith, read_place p)) rest)) (read_other p))
    go below (of_minus a) k =
        let g = below a (omega (arith, minus_part a)) in
        subst (λ x. Good (Minus a) x) (sym (piece-Minus a))
        (signed_good (Minus a) (λ rest. operator Sub ∷ behind_sign (plain_piece a) rest) None (minus_text a g) (minus_other a) (λ z k. nothing z k))
    go below (of_op op a b) k =
        subst (λ x. Good (Op op a b) x) (sym (piece-Op op a b))
        (op_good op a b (below a (omega (arith, op_left op a b))) (below b (omega (arith, op_right op a b))))
    go below (of_pick t a b) k =
        let g = below a (omega (arith, pick_first t a b)) in
        let h = below b (omega (arith, pick_second t a b)) in
        subst (λ x. Good (Pick t a b) x) (sym (piece-Pick t a b))
        (operand_good (Pick t a b) _
        (λ rest. pick (test_text_is d below t (omega (arith, pick_test t a b)) _) (g.sum _) (h.sum (mark close_round ∷ rest)))
        (pick_other t a b))

number_text : (e : CExpr) (rest : List Token) → IsSum e (plain_number e rest) rest
number_text e rest = (good (size-CExpr e) e (omega arith)).sum rest

all_good : (d : ℕ) → GoodBelow d
unfolding GoodBelow
all_good d e h = good d e h

place_spelt : (p : CPlace) (rest : List Token) → IsPlace p (plain_place p rest) rest
place_spelt p rest = place_text_is (size-CPlace p) (all_good (size-CPlace p)) p (omega arith) rest

test_spelt : (t : CTest) (rest : List Token) → IsTest t (plain_test t rest) rest
test_spelt t rest = test_text_is (size-CTest t) (all_good (size-CTest t)) t (omega arith) rest

each_spelt : {A : Type 0} (Is : A → List Token → List Token → Type 0) (text : A → Text) → ((x : A) (rest : List Token) → Is x (text x rest) rest)
    → (xs : List A) (rest : List Token) → Each Is xs (each text xs rest) rest
each_spelt Is text h [] rest = none
each_spelt Is text h (x ∷ xs) rest = one_more (h x (each text xs rest)) (each_spelt Is text h xs rest)

constant_spelt : (z : ℤ) (rest : List Token) → IsConstant z (plain_constant z rest) rest
constant_spelt (pos n) rest = constant
constant_spelt (negsuc n) rest = go (n == 2 ^ 63 - 1) refl
  where
    go : (c : Bool) → (n == 2 ^ 63 - 1) ≡ c
        → IsConstant (negsuc n) ((cond c (piece 0 least_text None) (piece 1 (λ rest. operator Sub ∷ literal (suc n) rest) (Some (negsuc n)))).bare rest) rest
    go true k = subst (λ m. IsConstant (negsuc m) (least_text rest) rest) (sym (eqb-true n (2 ^ 63 - 1) k)) least_constant
    go false k = negative_constant

case_spelt : (c : CCase) (rest : List Token) → IsCase c (plain_case c rest) rest
case_spelt c rest = case_goto (constant_spelt c.value _)

statement_spelt : (s : CStmt) (rest : List Token) → IsStatement s (plain_statement s rest) rest
statement_spelt (Assign p e) rest = assign (place_spelt p (mark equals ∷ plain_number e (mark semicolon ∷ rest))) (number_text e (mark semicolon ∷ rest))
statement_spelt (IfGoto t l) rest = if_goto (test_spelt t _)
statement_spelt (Goto l) rest = goto
statement_spelt (Label l) rest = label
statement_spelt (Switch e cases l) rest = switch (number_text e _) (each_spelt IsCase plain_case case_spelt cases _)
statement_spelt (Call f) rest = call
statement_spelt Return rest = return

type_spelt : (t : CType) (rest : List Token) → IsType t (plain_type t rest) rest
type_spelt Int64 rest = number_type
type_spelt (Struct s) rest = struct_type

member_spelt : (m : CMember) → IsSize m.size → (rest : List Token) → IsMember m (plain_member m rest) rest
member_spelt m h rest = go m.size h
  where
    go : (size : Option ℕ) → IsSize size → IsMember (record { kind = m.kind; name = m.name; size = size }) (plain_member (record { kind = m.kind; name = m.name; size = size }) rest) rest
    go None h = single (type_spelt m.kind _)
    go (Some n) h = array h.0 h.1 (type_spelt m.kind _)

members_spelt : (ms : List CMember) → HasSizes ms → (rest : List Token) → Each IsMember ms (each plain_member ms rest) rest
members_spelt [] h rest = none
members_spelt (m ∷ ms) h rest = one_more (member_spelt m h.0 (each plain_member ms rest)) (members_spelt ms h.1 rest)

struct_spelt : (s : CStruct) → HasMember s.members → HasSizes s.members → (rest : List Token) → IsStruct s (plain_struct s rest) rest
struct_spelt s some sizes rest = go s.members some sizes
  where
    go : (ms : List CMember) → HasMember ms → HasSizes ms → IsStruct (record { name = s.name; members = ms }) (plain_struct (record { name = s.name; members = ms }) rest) rest
    go [] some sizes = absurd some
    go (m ∷ ms) some sizes = structure (members_spelt (m ∷ ms) sizes _)

structs_spelt : (ss : List CStruct) → HasMembers ss → (rest : List Token) → Each IsStruct ss (each plain_struct ss rest) rest
structs_spelt [] h rest = none
structs_spelt (s ∷ ss) h rest = one_more (struct_spelt s h.0 h.1 (each plain_struct ss rest)) (structs_spelt ss h.2 rest)

global_spelt : (g : CGlobal) (rest : List Token) → IsGlobal g (plain_global g rest) rest
global_spelt g rest = global (type_spelt g.kind _)

event_spelt : (e : Word) (rest : List Token) → IsEvent e (plain_event e rest) rest
event_spelt e rest = event

function_spelt : (f : CFunction) (rest : List Token) → IsFunction f (plain_function f rest) rest
function_spelt f rest = function (each_spelt IsStatement plain_statement statement_spelt f.body (mark close_brace ∷ rest))

-- the plain tokens of a program are its text
pub plain_spelt : (P : CProgram) → HasMembers P.structs → IsProgram P (plain_tokens P)
plain_spelt P h =
    program (structs_spelt P.structs h _) (each_spelt IsGlobal plain_global global_spelt P.globals _)
    (each_spelt IsEvent plain_event event_spelt P.events _) (each_spelt IsFunction plain_function function_spelt P.functions [])
