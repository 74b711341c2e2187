-- What the reader finds the grammar has.
use Rattle.std.proofs.Common.{◌≡◌, ℕ, zero, suc, ◌&&◌, List, [], ◌∷◌, length, ℤ, pos, neg_ℤ, ⊎_elim, Option, Some, None, refl, sym, ap, ◌∙◌, subst, nat_lt, nat_le, leb-true, ltb-true}
use Rattle.std.proofs.lemmas.Bool.{and_parts}
use Rattle.og_names.specs.declared.Word.{Word}
use Rattle.og_csubset.specs.declared.CProgram.{CProgram}
use Rattle.og_csubset.specs.declared.CStruct.{CStruct}
use Rattle.og_csubset.specs.declared.CMember.{CMember}
use Rattle.og_csubset.specs.declared.CGlobal.{CGlobal}
use Rattle.og_csubset.specs.declared.CType.{CType}
use Rattle.og_csubset.specs.declared.CType.TheVariants.{Int64, Struct}
use Rattle.og_csubset.specs.declared.CFunction.{CFunction}
use Rattle.og_csubset.specs.declared.CStmt.{CStmt}
use Rattle.og_csubset.specs.declared.CStmt.TheVariants.{Assign, IfGoto, Goto, Label, Switch, Call, Return}
use Rattle.og_csubset.specs.declared.CCase.{CCase}
use Rattle.og_csubset.specs.declared.CStep.{CStep, Member, At}
use Rattle.og_csubset.specs.declared.CExpr.{CExpr, Number, Read, Minus, Pick}
use Rattle.og_csubset.specs.declared.CTest.{CTest}
use Rattle.og_csubset.specs.declared.COp.TheVariants.{Add, Sub, Mul, Div, Rem}
use Rattle.og_csubset.specs.Tokens.{Token, name, number, operator, relation, keyword, mark, typedef_, struct_, void_, if_, goto_, switch_, case_, default_, return_, int64_t, open_brace, close_brace, open_square, close_square, open_round, close_round, semicolon, colon, question, dot, equals}
use Rattle.og_csubset.specs.Spelling.{word, least, literal, IsSum, sum, SumGoesOn, sum_ends, add, IsProduct, product, ProductGoesOn, product_ends, multiply, IsSigned, positive, negative, minus_zero, unsigned, minus, IsOperand, read, bracket, pick, least_number, IsTest, test, place, IsPath, path_ends, member, index, Each, none, one_more, IsConstant, constant, negative_constant, least_constant, IsCase, case_goto, IsStatement, assign, if_goto, goto, label, switch, call, return, IsType, number_type, struct_type, IsMember, single, array, IsStruct, structure, IsGlobal, global, IsEvent, event, IsFunction, function, IsProgram, program}
use Rattle.og_csubset.specs.Reading.{Found, Reader, and_then, or_else, at_mark, literal_at, least_at, negated, bracket_end, path_at, operand_at, signed_at, product_rest, product_at, sum_rest, sum_at, number_at, test_at, each_step, each_at, constant_at, case_at, named_at, goto_at, if_at, switch_at, return_at, statement_at, type_at, member_end, member_at, struct_end, struct_at, global_at, head_at, event_at, function_at, whole, program_at, read_tokens}
use Rattle.og_csubset.proofs.Seen.{nothing, Some-same, seen_then, seen_else, seen_cond, seen_mark, seen_keyword, seen_name, seen_number, seen_relation, seen_literal, seen_least, least_missed}

-- what holds of what was found holds of it by any name
given : {A : Type 0} (P : A × List Token → Type 0) (x : A) (us : List Token) (r : A × List Token)
    → ◌≡◌ {A = Option (A × List Token)} (Some (x, us)) (Some r) → P (x, us) → P r
given P x us r h p = subst P (Some-same (x, us) r h) p

negated_sound : (n : ℕ) (rest : List Token) → IsSigned (negated n) (operator Sub ∷ literal n rest) rest
negated_sound zero rest = minus_zero
negated_sound (suc n) rest = negative

module _ (inner : Reader CExpr) (sound : (ts : List Token) (r : CExpr × List Token) → inner ts ≡ Some r → IsSum r.0 ts r.1) where
  path_sound : (f : ℕ) (ts : List Token) (r : List CStep × List Token) → path_at inner f ts ≡ Some r → IsPath r.0 ts r.1
  unfolding path_at
  path_sound zero ts r h = given (λ p. IsPath p.0 ts p.1) [] ts r h path_ends
  path_sound (suc f) (mark dot ∷ ts) r h =
      let a = seen_name ts _ r h in
      let b = seen_then (path_at inner f a.1) _ r a.3 in
      given (λ p. IsPath p.0 (mark dot ∷ ts) p.1) (Member (word a.0) ∷ b.0) b.1 r b.3
      (subst (λ l. IsPath (Member (word a.0) ∷ b.0) (mark dot ∷ l) b.1) (sym a.2) (member (path_sound f a.1 (b.0, b.1) b.2)))
  path_sound (suc f) (mark open_square ∷ ts) r h =
      let a = seen_then (inner ts) _ r h in
      let b = seen_mark close_square a.1 _ r a.3 in
      let c = seen_then (path_at inner f b.0) _ r b.2 in
      given (λ p. IsPath p.0 (mark open_square ∷ ts) p.1) (At a.0 ∷ c.0) c.1 r c.3
      (index (subst (λ l. IsSum a.0 ts l) b.1 (sound ts (a.0, a.1) a.2)) (path_sound f b.0 (c.0, c.1) c.2))
  path_sound (suc f) [] r h = given (λ p. IsPath p.0 [] p.1) [] [] r h path_ends
  path_sound (suc f) (name w ∷ ts) r h = given (λ p. IsPath p.0 (name w ∷ ts) p.1) [] _ r h path_ends
  path_sound (suc f) (number n ∷ ts) r h = given (λ p. IsPath p.0 (number n ∷ ts) p.1) [] _ r h path_ends
  path_sound (suc f) (operator op ∷ ts) r h = given (λ p. IsPath p.0 (operator op ∷ ts) p.1) [] _ r h path_ends
  path_sound (suc f) (relation op ∷ ts) r h = given (λ p. IsPath p.0 (relation op ∷ ts) p.1) [] _ r h path_ends
  path_sound (suc f) (keyword k ∷ ts) r h = given (λ p. IsPath p.0 (keyword k ∷ ts) p.1) [] _ r h path_ends
  path_sound (suc f) (mark open_brace ∷ ts) r h = given (λ p. IsPath p.0 (mark open_brace ∷ ts) p.1) [] _ r h path_ends
  path_sound (suc f) (mark close_brace ∷ ts) r h = given (λ p. IsPath p.0 (mark close_brace ∷ ts) p.1) [] _ r h path_ends
  path_sound (suc f) (mark close_square ∷ ts) r h = given (λ p. IsPath p.0 (mark close_square ∷ ts) p.1) [] _ r h path_ends
  path_sound (suc f) (mark open_round ∷ ts) r h = given (λ p. IsPath p.0 (mark open_round ∷ ts) p.1) [] _ r h path_ends
  path_sound (suc f) (mark close_round ∷ ts) r h = given (λ p. IsPath p.0 (mark close_round ∷ ts) p.1) [] _ r h path_ends
  path_sound (suc f) (mark semicolon ∷ ts) r h = given (λ p. IsPath p.0 (mark semicolon ∷ ts) p.1) [] _ r h path_ends
  path_sound (suc f) (mark colon ∷ ts) r h = given (λ p. IsPath p.0 (mark colon ∷ ts) p.1) [] _ r h path_ends
  path_sound (suc f) (mark question ∷ ts) r h = given (λ p. IsPath p.0 (mark question ∷ ts) p.1) [] _ r h path_ends
  path_sound (suc f) (mark equals ∷ ts) r h = given (λ p. IsPath p.0 (mark equals ∷ ts) p.1) [] _ r h path_ends

  bracket_sound : (a : CExpr) (ts us : List Token) (r : CExpr × List Token) → IsSum a ts us → least_at ts ≡ None → bracket_end inner a us ≡ Some r
      → IsOperand r.0 (mark open_round ∷ ts) r.1
  unfolding bracket_end
  bracket_sound a ts [] r p missed h = nothing r h
  bracket_sound a ts (mark m ∷ us) r p missed h =
      let seen = seen_mark close_round (mark m ∷ us) (λ vs. Some (a, vs)) r h in
      given (λ q. IsOperand q.0 (mark open_round ∷ ts) q.1) a seen.0 r seen.2
      (bracket (subst (λ l. IsSum a ts l) seen.1 p) (least_missed ts missed))
  bracket_sound a ts (relation op ∷ us) r p missed h =
      let b = seen_then (inner us) _ r h in
      let c = seen_mark question b.1 _ r b.3 in
      let e = seen_then (inner c.0) _ r c.2 in
      let f = seen_mark colon e.1 _ r e.3 in
      let g = seen_then (inner f.0) _ r f.2 in
      let k = seen_mark close_round g.1 _ r g.3 in
      given (λ q. IsOperand q.0 (mark open_round ∷ ts) q.1) (Pick (record { op = op; left = a; right = b.0 }) e.0 g.0) k.0 r k.2
      (pick (test p (subst (λ l. IsSum b.0 us l) c.1 (sound us (b.0, b.1) b.2)))
      (subst (λ l. IsSum e.0 c.0 l) f.1 (sound c.0 (e.0, e.1) e.2))
      (subst (λ l. IsSum g.0 f.0 l) k.1 (sound f.0 (g.0, g.1) g.2)))
  bracket_sound a ts (_ ∷ us) r p missed h = nothing r h

  operand_sound : (f : ℕ) (ts : List Token) (r : CExpr × List Token) → operand_at inner f ts ≡ Some r → IsOperand r.0 ts r.1
  unfolding operand_at
  operand_sound f [] r h = nothing r h
  operand_sound f (name w ∷ ts) r h =
      let a = seen_then (path_at inner f ts) _ r h in
      given (λ p. IsOperand p.0 (name w ∷ ts) p.1) (Read (record { name = word w; path = a.0 })) a.1 r a.3
      (read (place (path_sound f ts (a.0, a.1) a.2)))
  operand_sound f (mark open_round ∷ ts) r h = ⊎_elim at_least other (seen_else (least_at ts) _ r h)
    where
      at_least : least_at ts ≡ Some r → IsOperand r.0 (mark open_round ∷ ts) r.1
      at_least e =
          let a = seen_least ts r.1 r.0 e in
          subst (λ x. IsOperand x (mark open_round ∷ ts) r.1) (sym a.0) (subst (λ l. IsOperand (Number least) l r.1) (sym a.1) least_number)

      other : (least_at ts ≡ None) × (and_then (inner ts) (bracket_end inner) ≡ Some r) → IsOperand r.0 (mark open_round ∷ ts) r.1
      other e = let a = seen_then (inner ts) _ r e.1 in bracket_sound a.0 ts a.1 r (sound ts (a.0, a.1) a.2) e.0 a.3
  operand_sound f (mark open_brace ∷ ts) r h = nothing r h
  operand_sound f (mark close_brace ∷ ts) r h = nothing r h
  operand_sound f (mark open_square ∷ ts) r h = nothing r h
  operand_sound f (mark close_square ∷ ts) r h = nothing r h
  operand_sound f (mark close_round ∷ ts) r h = nothing r h
  operand_sound f (mark semicolon ∷ ts) r h = nothing r h
  operand_sound f (mark colon ∷ ts) r h = nothing r h
  operand_sound f (mark question ∷ ts) r h = nothing r h
  operand_sound f (mark dot ∷ ts) r h = nothing r h
  operand_sound f (mark equals ∷ ts) r h = nothing r h
  operand_sound f (_ ∷ ts) r h = nothing r h

  unsigned_sound : (f : ℕ) (ts : List Token) (r : CExpr × List Token)
      → or_else (and_then (literal_at ts) (λ n rest. Some (Number (pos n), rest))) (operand_at inner f ts) ≡ Some r → IsSigned r.0 ts r.1
  unsigned_sound f ts r h = ⊎_elim at_literal other (seen_else _ (operand_at inner f ts) r h)
    where
      at_literal : and_then (literal_at ts) (λ n rest. Some (Number (pos n), rest)) ≡ Some r → IsSigned r.0 ts r.1
      at_literal e =
          let a = seen_then (literal_at ts) _ r e in
          given (λ p. IsSigned p.0 ts p.1) (Number (pos a.0)) a.1 r a.3
          (subst (λ l. IsSigned (Number (pos a.0)) l a.1) (sym (seen_literal ts a.1 a.0 a.2)) positive)

      other : {X : Type 0} → X × (operand_at inner f ts ≡ Some r) → IsSigned r.0 ts r.1
      other e = unsigned (operand_sound f ts r e.1)

  minus_sound : (f : ℕ) (ts : List Token) (r : CExpr × List Token)
      → or_else (and_then (literal_at ts) (λ n rest. Some (negated n, rest))) (and_then (operand_at inner f ts) (λ e rest. Some (Minus e, rest))) ≡ Some r
      → IsSigned r.0 (operator Sub ∷ ts) r.1
  minus_sound f ts r h = ⊎_elim at_literal other (seen_else _ _ r h)
    where
      at_literal : and_then (literal_at ts) (λ n rest. Some (negated n, rest)) ≡ Some r → IsSigned r.0 (operator Sub ∷ ts) r.1
      at_literal e =
          let a = seen_then (literal_at ts) _ r e in
          given (λ p. IsSigned p.0 (operator Sub ∷ ts) p.1) (negated a.0) a.1 r a.3
          (subst (λ l. IsSigned (negated a.0) (operator Sub ∷ l) a.1) (sym (seen_literal ts a.1 a.0 a.2)) (negated_sound a.0 a.1))

      other : {X : Type 0} → X × (and_then (operand_at inner f ts) (λ e rest. Some (Minus e, rest)) ≡ Some r) → IsSigned r.0 (operator Sub ∷ ts) r.1
      other e =
          let a = seen_then (operand_at inner f ts) _ r e.1 in
          given (λ p. IsSigned p.0 (operator Sub ∷ ts) p.1) (Minus a.0) a.1 r a.3 (minus (operand_sound f ts (a.0, a.1) a.2))

  signed_sound : (f : ℕ) (ts : List Token) (r : CExpr × List Token) → signed_at inner f ts ≡ Some r → IsSigned r.0 ts r.1
  unfolding signed_at
  signed_sound f (operator Sub ∷ ts) r h = minus_sound f ts r h
  signed_sound f [] r h = unsigned_sound f [] r h
  signed_sound f (operator Add ∷ ts) r h = unsigned_sound f (operator Add ∷ ts) r h
  signed_sound f (operator Mul ∷ ts) r h = unsigned_sound f (operator Mul ∷ ts) r h
  signed_sound f (operator Div ∷ ts) r h = unsigned_sound f (operator Div ∷ ts) r h
  signed_sound f (operator Rem ∷ ts) r h = unsigned_sound f (operator Rem ∷ ts) r h
  signed_sound f (name w ∷ ts) r h = unsigned_sound f (name w ∷ ts) r h
  signed_sound f (number n ∷ ts) r h = unsigned_sound f (number n ∷ ts) r h
  signed_sound f (relation op ∷ ts) r h = unsigned_sound f (relation op ∷ ts) r h
  signed_sound f (keyword k ∷ ts) r h = unsigned_sound f (keyword k ∷ ts) r h
  signed_sound f (mark m ∷ ts) r h = unsigned_sound f (mark m ∷ ts) r h

  product_rest_sound : (f : ℕ) (a : CExpr) (ts : List Token) (r : CExpr × List Token) → product_rest inner f a ts ≡ Some r → ProductGoesOn a r.0 ts r.1
  unfolding product_rest
  product_rest_sound zero a ts r h = given (λ p. ProductGoesOn a p.0 ts p.1) a ts r h product_ends
  product_rest_sound (suc f) a [] r h = given (λ p. ProductGoesOn a p.0 [] p.1) a [] r h product_ends
  product_rest_sound (suc f) a (operator Add ∷ ts) r h = given (λ p. ProductGoesOn a p.0 (operator Add ∷ ts) p.1) a _ r h product_ends
  product_rest_sound (suc f) a (operator Sub ∷ ts) r h = given (λ p. ProductGoesOn a p.0 (operator Sub ∷ ts) p.1) a _ r h product_ends
  product_rest_sound (suc f) a (operator Mul ∷ ts) r h =
      let b = seen_then (signed_at inner f ts) _ r h in
      multiply refl (signed_sound f ts (b.0, b.1) b.2) (product_rest_sound f _ b.1 r b.3)
  product_rest_sound (suc f) a (operator Div ∷ ts) r h =
      let b = seen_then (signed_at inner f ts) _ r h in
      multiply refl (signed_sound f ts (b.0, b.1) b.2) (product_rest_sound f _ b.1 r b.3)
  product_rest_sound (suc f) a (operator Rem ∷ ts) r h =
      let b = seen_then (signed_at inner f ts) _ r h in
      multiply refl (signed_sound f ts (b.0, b.1) b.2) (product_rest_sound f _ b.1 r b.3)
  product_rest_sound (suc f) a (name w ∷ ts) r h = given (λ p. ProductGoesOn a p.0 (name w ∷ ts) p.1) a _ r h product_ends
  product_rest_sound (suc f) a (number n ∷ ts) r h = given (λ p. ProductGoesOn a p.0 (number n ∷ ts) p.1) a _ r h product_ends
  product_rest_sound (suc f) a (relation op ∷ ts) r h = given (λ p. ProductGoesOn a p.0 (relation op ∷ ts) p.1) a _ r h product_ends
  product_rest_sound (suc f) a (keyword k ∷ ts) r h = given (λ p. ProductGoesOn a p.0 (keyword k ∷ ts) p.1) a _ r h product_ends
  product_rest_sound (suc f) a (mark m ∷ ts) r h = given (λ p. ProductGoesOn a p.0 (mark m ∷ ts) p.1) a _ r h product_ends

  product_sound : (f : ℕ) (ts : List Token) (r : CExpr × List Token) → product_at inner f ts ≡ Some r → IsProduct r.0 ts r.1
  unfolding product_at
  product_sound f ts r h =
      let a = seen_then (signed_at inner f ts) _ r h in
      product (signed_sound f ts (a.0, a.1) a.2) (product_rest_sound f a.0 a.1 r a.3)

  sum_rest_sound : (f : ℕ) (a : CExpr) (ts : List Token) (r : CExpr × List Token) → sum_rest inner f a ts ≡ Some r → SumGoesOn a r.0 ts r.1
  unfolding sum_rest
  sum_rest_sound zero a ts r h = given (λ p. SumGoesOn a p.0 ts p.1) a ts r h sum_ends
  sum_rest_sound (suc f) a [] r h = given (λ p. SumGoesOn a p.0 [] p.1) a [] r h sum_ends
  sum_rest_sound (suc f) a (operator Add ∷ ts) r h =
      let b = seen_then (product_at inner f ts) _ r h in
      add refl (product_sound f ts (b.0, b.1) b.2) (sum_rest_sound f _ b.1 r b.3)
  sum_rest_sound (suc f) a (operator Sub ∷ ts) r h =
      let b = seen_then (product_at inner f ts) _ r h in
      add refl (product_sound f ts (b.0, b.1) b.2) (sum_rest_sound f _ b.1 r b.3)
  sum_rest_sound (suc f) a (operator Mul ∷ ts) r h = given (λ p. SumGoesOn a p.0 (operator Mul ∷ ts) p.1) a _ r h sum_ends
  sum_rest_sound (suc f) a (operator Div ∷ ts) r h = given (λ p. SumGoesOn a p.0 (operator Div ∷ ts) p.1) a _ r h sum_ends
  sum_rest_sound (suc f) a (operator Rem ∷ ts) r h = given (λ p. SumGoesOn a p.0 (operator Rem ∷ ts) p.1) a _ r h sum_ends
  sum_rest_sound (suc f) a (name w ∷ ts) r h = given (λ p. SumGoesOn a p.0 (name w ∷ ts) p.1) a _ r h sum_ends
  sum_rest_sound (suc f) a (number n ∷ ts) r h = given (λ p. SumGoesOn a p.0 (number n ∷ ts) p.1) a _ r h sum_ends
  sum_rest_sound (suc f) a (relation op ∷ ts) r h = given (λ p. SumGoesOn a p.0 (relation op ∷ ts) p.1) a _ r h sum_ends
  sum_rest_sound (suc f) a (keyword k ∷ ts) r h = given (λ p. SumGoesOn a p.0 (keyword k ∷ ts) p.1) a _ r h sum_ends
  sum_rest_sound (suc f) a (mark m ∷ ts) r h = given (λ p. SumGoesOn a p.0 (mark m ∷ ts) p.1) a _ r h sum_ends

  sum_sound : (f : ℕ) (ts : List Token) (r : CExpr × List Token) → sum_at inner f ts ≡ Some r → IsSum r.0 ts r.1
  unfolding sum_at
  sum_sound f ts r h =
      let a = seen_then (product_at inner f ts) _ r h in
      sum (product_sound f ts (a.0, a.1) a.2) (sum_rest_sound f a.0 a.1 r a.3)

number_sound : (d : ℕ) (ts : List Token) (r : CExpr × List Token) → number_at d ts ≡ Some r → IsSum r.0 ts r.1
unfolding number_at
number_sound zero ts r h = nothing r h
number_sound (suc d) ts r h = sum_sound (number_at d) (number_sound d) (suc d) ts r h

test_sound : (d : ℕ) (ts : List Token) (r : CTest × List Token) → test_at d ts ≡ Some r → IsTest r.0 ts r.1
unfolding test_at
test_sound d ts r h =
    let a = seen_then (number_at d ts) _ r h in
    let b = seen_relation a.1 _ r a.3 in
    let c = seen_then (number_at d b.1) _ r b.3 in
    given (λ p. IsTest p.0 ts p.1) (record { op = b.0; left = a.0; right = c.0 }) c.1 r c.3
    (test (subst (λ l. IsSum a.0 ts l) b.2 (number_sound d ts (a.0, a.1) a.2)) (number_sound d b.1 (c.0, c.1) c.2))

module _ {A : Type 0} (Is : A → List Token → List Token → Type 0) (one : Reader A)
    (sound : (ts : List Token) (r : A × List Token) → one ts ≡ Some r → Is r.0 ts r.1) where
  each_sound : (f : ℕ) (ts : List Token) (r : List A × List Token) → each_at one f ts ≡ Some r → Each Is r.0 ts r.1
  unfolding each_at
  each_sound zero ts r h = given (λ p. Each Is p.0 ts p.1) [] ts r h none
  each_sound (suc f) ts r h = go (λ us q e. each_sound f us q e) (one ts) refl h
    where
      more : A → List Token → Found (List A)
      more x us = and_then (each_at one f us) (λ xs rest. Some (x ∷ xs, rest))

      Later : Type 0
      Later = (us : List Token) (q : List A × List Token) → each_at one f us ≡ Some q → Each Is q.0 us q.1

      one_found : Later → (p : A × List Token) → one ts ≡ Some p → more p.0 p.1 ≡ Some r → Each Is r.0 ts r.1
      one_found later p e h =
          let b = seen_then (each_at one f p.1) _ r h in
          given (λ q. Each Is q.0 ts q.1) (p.0 ∷ b.0) b.1 r b.3 (one_more (sound ts p e) (later p.1 (b.0, b.1) b.2))

      go : Later → (o : Found A) → one ts ≡ o → each_step ts o more ≡ Some r → Each Is r.0 ts r.1
      go later None e h = given (λ p. Each Is p.0 ts p.1) [] ts r h none
      go later (Some p) e h = one_found later p e h

-- one more token in front
pub on : (t : Token) {us vs : List Token} → us ≡ vs → t ∷ us ≡ t ∷ vs
on t e = ap (λ l. t ∷ l) e

constant_literal : (ts : List Token) (r : ℤ × List Token) → and_then (literal_at ts) (λ n rest. Some (pos n, rest)) ≡ Some r → IsConstant r.0 ts r.1
constant_literal ts r h =
    let a = seen_then (literal_at ts) _ r h in
    given (λ p. IsConstant p.0 ts p.1) (pos a.0) a.1 r a.3 (subst (λ l. IsConstant (pos a.0) l a.1) (sym (seen_literal ts a.1 a.0 a.2)) constant)

constant_sound : (ts : List Token) (r : ℤ × List Token) → constant_at ts ≡ Some r → IsConstant r.0 ts r.1
unfolding constant_at
constant_sound (operator Sub ∷ ts) r h =
    let a = seen_then (literal_at ts) _ r h in
    given (λ p. IsConstant p.0 (operator Sub ∷ ts) p.1) (neg_ℤ (pos a.0)) a.1 r a.3
    (subst (λ l. IsConstant (neg_ℤ (pos a.0)) (operator Sub ∷ l) a.1) (sym (seen_literal ts a.1 a.0 a.2)) negative_constant)
constant_sound (mark open_round ∷ ts) r h =
    let a = seen_then (least_at ts) _ r h in
    given (λ p. IsConstant p.0 (mark open_round ∷ ts) p.1) least a.1 r a.3
    (subst (λ l. IsConstant least l a.1) (sym (seen_least ts a.1 a.0 a.2).1) least_constant)
constant_sound [] r h = nothing r h
constant_sound (keyword k ∷ ts) r h = constant_literal (keyword k ∷ ts) r h
constant_sound (operator Add ∷ ts) r h = nothing r h
constant_sound (operator Mul ∷ ts) r h = nothing r h
constant_sound (operator Div ∷ ts) r h = nothing r h
constant_sound (operator Rem ∷ ts) r h = nothing r h
constant_sound (name w ∷ ts) r h = nothing r h
constant_sound (number n ∷ ts) r h = nothing r h
constant_sound (relation op ∷ ts) r h = nothing r h
constant_sound (mark open_brace ∷ ts) r h = nothing r h
constant_sound (mark close_brace ∷ ts) r h = nothing r h
constant_sound (mark open_square ∷ ts) r h = nothing r h
constant_sound (mark close_square ∷ ts) r h = nothing r h
constant_sound (mark close_round ∷ ts) r h = nothing r h
constant_sound (mark semicolon ∷ ts) r h = nothing r h
constant_sound (mark colon ∷ ts) r h = nothing r h
constant_sound (mark question ∷ ts) r h = nothing r h
constant_sound (mark dot ∷ ts) r h = nothing r h
constant_sound (mark equals ∷ ts) r h = nothing r h

case_sound : (ts : List Token) (r : CCase × List Token) → case_at ts ≡ Some r → IsCase r.0 ts r.1
unfolding case_at
case_sound ts r h =
    let a = seen_keyword case_ ts _ r h in
    let b = seen_then (constant_at a.0) _ r a.2 in
    let c = seen_mark colon b.1 _ r b.3 in
    let e = seen_keyword goto_ c.0 _ r c.2 in
    let f = seen_name e.0 _ r e.2 in
    let g = seen_mark semicolon f.1 _ r f.3 in
    let text : b.1 ≡ mark colon ∷ keyword goto_ ∷ name f.0 ∷ mark semicolon ∷ g.0 = c.1 ∙ on _ (e.1 ∙ on _ (f.2 ∙ on _ g.1)) in
    given (λ p. IsCase p.0 ts p.1) (record { value = b.0; label = word f.0 }) g.0 r g.2
    (subst (λ l. IsCase (record { value = b.0; label = word f.0 }) l g.0) (sym a.1)
    (case_goto (subst (λ l. IsConstant b.0 a.0 l) text (constant_sound a.0 (b.0, b.1) b.2))))

assign_sound : (d : ℕ) (w : List ℕ) (ts : List Token) (r : CStmt × List Token)
    → and_then (path_at (number_at d) d ts) (λ steps us. at_mark equals us (λ vs. and_then (number_at d vs)
    (λ e ws. at_mark semicolon ws (λ rest. Some (Assign (record { name = word w; path = steps }) e, rest))))) ≡ Some r
    → IsStatement r.0 (name w ∷ ts) r.1
assign_sound d w ts r h =
    let a = seen_then (path_at (number_at d) d ts) _ r h in
    let b = seen_mark equals a.1 _ r a.3 in
    let c = seen_then (number_at d b.0) _ r b.2 in
    let e = seen_mark semicolon c.1 _ r c.3 in
    given (λ p. IsStatement p.0 (name w ∷ ts) p.1) (Assign (record { name = word w; path = a.0 }) c.0) e.0 r e.2
    (assign (place (subst (λ l. IsPath a.0 ts l) b.1 (path_sound (number_at d) (number_sound d) d ts (a.0, a.1) a.2)))
    (subst (λ l. IsSum c.0 b.0 l) e.1 (number_sound d b.0 (c.0, c.1) c.2)))

named_sound : (d : ℕ) (w : List ℕ) (ts : List Token) (r : CStmt × List Token) → named_at d w ts ≡ Some r → IsStatement r.0 (name w ∷ ts) r.1
unfolding named_at
named_sound d w (mark colon ∷ ts) r h =
    let a = seen_mark semicolon ts _ r h in
    given (λ p. IsStatement p.0 (name w ∷ mark colon ∷ ts) p.1) (Label (word w)) a.0 r a.2
    (subst (λ l. IsStatement (Label (word w)) (name w ∷ mark colon ∷ l) a.0) (sym a.1) label)
named_sound d w (mark open_round ∷ ts) r h =
    let a = seen_mark close_round ts _ r h in
    let b = seen_mark semicolon a.0 _ r a.2 in
    given (λ p. IsStatement p.0 (name w ∷ mark open_round ∷ ts) p.1) (Call (word w)) b.0 r b.2
    (subst (λ l. IsStatement (Call (word w)) (name w ∷ mark open_round ∷ l) b.0) (sym (a.1 ∙ on _ b.1)) call)
named_sound d w [] r h = assign_sound d w [] r h
named_sound d w (name v ∷ ts) r h = assign_sound d w (name v ∷ ts) r h
named_sound d w (number n ∷ ts) r h = assign_sound d w (number n ∷ ts) r h
named_sound d w (operator op ∷ ts) r h = assign_sound d w (operator op ∷ ts) r h
named_sound d w (relation op ∷ ts) r h = assign_sound d w (relation op ∷ ts) r h
named_sound d w (keyword k ∷ ts) r h = assign_sound d w (keyword k ∷ ts) r h
named_sound d w (mark open_brace ∷ ts) r h = assign_sound d w (mark open_brace ∷ ts) r h
named_sound d w (mark close_brace ∷ ts) r h = assign_sound d w (mark close_brace ∷ ts) r h
named_sound d w (mark open_square ∷ ts) r h = assign_sound d w (mark open_square ∷ ts) r h
named_sound d w (mark close_square ∷ ts) r h = assign_sound d w (mark close_square ∷ ts) r h
named_sound d w (mark close_round ∷ ts) r h = assign_sound d w (mark close_round ∷ ts) r h
named_sound d w (mark semicolon ∷ ts) r h = assign_sound d w (mark semicolon ∷ ts) r h
named_sound d w (mark question ∷ ts) r h = assign_sound d w (mark question ∷ ts) r h
named_sound d w (mark dot ∷ ts) r h = assign_sound d w (mark dot ∷ ts) r h
named_sound d w (mark equals ∷ ts) r h = assign_sound d w (mark equals ∷ ts) r h

goto_sound : (ts : List Token) (r : CStmt × List Token) → goto_at ts ≡ Some r → IsStatement r.0 (keyword goto_ ∷ ts) r.1
unfolding goto_at
goto_sound ts r h =
    let a = seen_name ts _ r h in
    let b = seen_mark semicolon a.1 _ r a.3 in
    given (λ p. IsStatement p.0 (keyword goto_ ∷ ts) p.1) (Goto (word a.0)) b.0 r b.2
    (subst (λ l. IsStatement (Goto (word a.0)) (keyword goto_ ∷ l) b.0) (sym (a.2 ∙ on _ b.1)) goto)

if_sound : (d : ℕ) (ts : List Token) (r : CStmt × List Token) → if_at d ts ≡ Some r → IsStatement r.0 (keyword if_ ∷ ts) r.1
unfolding if_at
if_sound d ts r h =
    let a = seen_mark open_round ts _ r h in
    let b = seen_then (test_at d a.0) _ r a.2 in
    let c = seen_mark close_round b.1 _ r b.3 in
    let e = seen_keyword goto_ c.0 _ r c.2 in
    let f = seen_name e.0 _ r e.2 in
    let g = seen_mark semicolon f.1 _ r f.3 in
    let text : b.1 ≡ mark close_round ∷ keyword goto_ ∷ name f.0 ∷ mark semicolon ∷ g.0 = c.1 ∙ on _ (e.1 ∙ on _ (f.2 ∙ on _ g.1)) in
    given (λ p. IsStatement p.0 (keyword if_ ∷ ts) p.1) (IfGoto b.0 (word f.0)) g.0 r g.2
    (subst (λ l. IsStatement (IfGoto b.0 (word f.0)) (keyword if_ ∷ l) g.0) (sym a.1)
    (if_goto (subst (λ l. IsTest b.0 a.0 l) text (test_sound d a.0 (b.0, b.1) b.2))))

switch_sound : (d : ℕ) (ts : List Token) (r : CStmt × List Token) → switch_at d ts ≡ Some r → IsStatement r.0 (keyword switch_ ∷ ts) r.1
unfolding switch_at
switch_sound d ts r h =
    let a = seen_mark open_round ts _ r h in
    let b = seen_then (number_at d a.0) _ r a.2 in
    let c = seen_mark close_round b.1 _ r b.3 in
    let e = seen_mark open_brace c.0 _ r c.2 in
    let f = seen_then (each_at case_at d e.0) _ r e.2 in
    let g = seen_keyword default_ f.1 _ r f.3 in
    let i = seen_mark colon g.0 _ r g.2 in
    let j = seen_keyword goto_ i.0 _ r i.2 in
    let k = seen_name j.0 _ r j.2 in
    let m = seen_mark semicolon k.1 _ r k.3 in
    let n = seen_mark close_brace m.0 _ r m.2 in
    let before : b.1 ≡ mark close_round ∷ mark open_brace ∷ e.0 = c.1 ∙ on _ e.1 in
    let text : f.1 ≡ keyword default_ ∷ mark colon ∷ keyword goto_ ∷ name k.0 ∷ mark semicolon ∷ mark close_brace ∷ n.0 =
    g.1 ∙ on _ (i.1 ∙ on _ (j.1 ∙ on _ (k.2 ∙ on _ (m.1 ∙ on _ n.1)))) in
    given (λ p. IsStatement p.0 (keyword switch_ ∷ ts) p.1) (Switch b.0 f.0 (word k.0)) n.0 r n.2
    (subst (λ l. IsStatement (Switch b.0 f.0 (word k.0)) (keyword switch_ ∷ l) n.0) (sym a.1)
    (switch (subst (λ l. IsSum b.0 a.0 l) before (number_sound d a.0 (b.0, b.1) b.2))
    (subst (λ l. Each IsCase f.0 e.0 l) text (each_sound IsCase case_at case_sound d e.0 (f.0, f.1) f.2))))

return_sound : (ts : List Token) (r : CStmt × List Token) → return_at ts ≡ Some r → IsStatement r.0 (keyword return_ ∷ ts) r.1
unfolding return_at
return_sound ts r h =
    let a = seen_mark semicolon ts _ r h in
    given (λ p. IsStatement p.0 (keyword return_ ∷ ts) p.1) Return a.0 r a.2
    (subst (λ l. IsStatement Return (keyword return_ ∷ l) a.0) (sym a.1) return)

statement_sound : (d : ℕ) (ts : List Token) (r : CStmt × List Token) → statement_at d ts ≡ Some r → IsStatement r.0 ts r.1
unfolding statement_at
statement_sound d [] r h = nothing r h
statement_sound d (name w ∷ ts) r h = named_sound d w ts r h
statement_sound d (keyword goto_ ∷ ts) r h = goto_sound ts r h
statement_sound d (keyword if_ ∷ ts) r h = if_sound d ts r h
statement_sound d (keyword switch_ ∷ ts) r h = switch_sound d ts r h
statement_sound d (keyword return_ ∷ ts) r h = return_sound ts r h
statement_sound d (_ ∷ ts) r h = nothing r h

type_sound : (ts : List Token) (r : CType × List Token) → type_at ts ≡ Some r → IsType r.0 ts r.1
unfolding type_at
type_sound [] r h = nothing r h
type_sound (keyword int64_t ∷ ts) r h = given (λ p. IsType p.0 (keyword int64_t ∷ ts) p.1) Int64 ts r h number_type
type_sound (name s ∷ ts) r h = given (λ p. IsType p.0 (name s ∷ ts) p.1) (Struct (word s)) ts r h struct_type
type_sound (_ ∷ ts) r h = nothing r h

member_end_sound : (kind : CType) (m : List ℕ) (ts us : List Token) (r : CMember × List Token) → IsType kind ts (name m ∷ us)
    → member_end kind m us ≡ Some r → IsMember r.0 ts r.1
unfolding member_end
member_end_sound kind m ts (mark semicolon ∷ us) r p h =
    given (λ q. IsMember q.0 ts q.1) (record { kind = kind; name = word m; size = None }) us r h (single p)
member_end_sound kind m ts (mark open_square ∷ us) r p h =
    let a = seen_number us _ r h in
    let b = seen_cond (nat_lt 0 a.0 && nat_le a.0 65536) _ r a.3 in
    let c = seen_mark close_square a.1 _ r b.1 in
    let e = seen_mark semicolon c.0 _ r c.2 in
    let bounds = and_parts (nat_lt 0 a.0) (nat_le a.0 65536) b.0 in
    let text : mark open_square ∷ us ≡ mark open_square ∷ number a.0 ∷ mark close_square ∷ mark semicolon ∷ e.0 = on _ (a.2 ∙ on _ (c.1 ∙ on _ e.1)) in
    given (λ q. IsMember q.0 ts q.1) (record { kind = kind; name = word m; size = Some a.0 }) e.0 r e.2
    (array (ltb-true 0 a.0 bounds.0) (leb-true a.0 65536 bounds.1) (subst (λ l. IsType kind ts (name m ∷ l)) text p))
member_end_sound kind m ts [] r p h = nothing r h
member_end_sound kind m ts (name w ∷ us) r p h = nothing r h
member_end_sound kind m ts (number n ∷ us) r p h = nothing r h
member_end_sound kind m ts (operator op ∷ us) r p h = nothing r h
member_end_sound kind m ts (relation op ∷ us) r p h = nothing r h
member_end_sound kind m ts (keyword k ∷ us) r p h = nothing r h
member_end_sound kind m ts (mark open_brace ∷ us) r p h = nothing r h
member_end_sound kind m ts (mark close_brace ∷ us) r p h = nothing r h
member_end_sound kind m ts (mark close_square ∷ us) r p h = nothing r h
member_end_sound kind m ts (mark open_round ∷ us) r p h = nothing r h
member_end_sound kind m ts (mark close_round ∷ us) r p h = nothing r h
member_end_sound kind m ts (mark colon ∷ us) r p h = nothing r h
member_end_sound kind m ts (mark question ∷ us) r p h = nothing r h
member_end_sound kind m ts (mark dot ∷ us) r p h = nothing r h
member_end_sound kind m ts (mark equals ∷ us) r p h = nothing r h

member_sound : (ts : List Token) (r : CMember × List Token) → member_at ts ≡ Some r → IsMember r.0 ts r.1
unfolding member_at
member_sound ts r h =
    let a = seen_then (type_at ts) _ r h in
    let b = seen_name a.1 _ r a.3 in
    member_end_sound a.0 b.0 ts b.1 r (subst (λ l. IsType a.0 ts l) b.2 (type_sound ts (a.0, a.1) a.2)) b.3

struct_end_sound : (ms : List CMember) (ts us : List Token) (r : CStruct × List Token) → Each IsMember ms ts us → struct_end ms us ≡ Some r
    → IsStruct r.0 (keyword typedef_ ∷ keyword struct_ ∷ mark open_brace ∷ ts) r.1
unfolding struct_end
struct_end_sound [] ts us r p h = nothing r h
struct_end_sound (m ∷ ms) ts us r p h =
    let a = seen_mark close_brace us _ r h in
    let b = seen_name a.0 _ r a.2 in
    let c = seen_mark semicolon b.1 _ r b.3 in
    given (λ q. IsStruct q.0 (keyword typedef_ ∷ keyword struct_ ∷ mark open_brace ∷ ts) q.1) (record { name = word b.0; members = m ∷ ms }) c.0 r c.2
    (structure (subst (λ l. Each IsMember (m ∷ ms) ts l) (a.1 ∙ on _ (b.2 ∙ on _ c.1)) p))

struct_sound : (d : ℕ) (ts : List Token) (r : CStruct × List Token) → struct_at d ts ≡ Some r → IsStruct r.0 ts r.1
unfolding struct_at
struct_sound d ts r h =
    let a = seen_keyword typedef_ ts _ r h in
    let b = seen_keyword struct_ a.0 _ r a.2 in
    let c = seen_mark open_brace b.0 _ r b.2 in
    let e = seen_then (each_at member_at d c.0) _ r c.2 in
    subst (λ l. IsStruct r.0 l r.1) (sym (a.1 ∙ on _ (b.1 ∙ on _ c.1)))
    (struct_end_sound e.0 c.0 e.1 r (each_sound IsMember member_at member_sound d c.0 (e.0, e.1) e.2) e.3)

global_sound : (ts : List Token) (r : CGlobal × List Token) → global_at ts ≡ Some r → IsGlobal r.0 ts r.1
unfolding global_at
global_sound ts r h =
    let a = seen_then (type_at ts) _ r h in
    let b = seen_name a.1 _ r a.3 in
    let c = seen_mark semicolon b.1 _ r b.3 in
    given (λ q. IsGlobal q.0 ts q.1) (record { kind = a.0; name = word b.0 }) c.0 r c.2
    (global (subst (λ l. IsType a.0 ts l) (b.2 ∙ on _ c.1) (type_sound ts (a.0, a.1) a.2)))

seen_head : (ts rest : List Token) (w : List ℕ) → head_at ts ≡ Some (w, rest)
    → ts ≡ keyword void_ ∷ name w ∷ mark open_round ∷ keyword void_ ∷ mark close_round ∷ rest
unfolding head_at
seen_head ts rest w h =
    let a = seen_keyword void_ ts _ _ h in
    let b = seen_name a.0 _ _ a.2 in
    let c = seen_mark open_round b.1 _ _ b.3 in
    let e = seen_keyword void_ c.0 _ _ c.2 in
    let f = seen_mark close_round e.0 _ _ e.2 in
    let same = Some-same (b.0, f.0) (w, rest) f.2 in
    (a.1 ∙ on _ (b.2 ∙ on _ (c.1 ∙ on _ (e.1 ∙ on _ f.1))))
    ∙ ap (λ p. keyword void_ ∷ name p.0 ∷ mark open_round ∷ keyword void_ ∷ mark close_round ∷ p.1) same

event_sound : (ts : List Token) (r : Word × List Token) → event_at ts ≡ Some r → IsEvent r.0 ts r.1
unfolding event_at
event_sound ts r h =
    let a = seen_then (head_at ts) _ r h in
    let b = seen_mark semicolon a.1 _ r a.3 in
    given (λ q. IsEvent q.0 ts q.1) (word a.0) b.0 r b.2
    (subst (λ l. IsEvent (word a.0) l b.0)
    (sym (seen_head ts a.1 a.0 a.2 ∙ ap (λ l. keyword void_ ∷ name a.0 ∷ mark open_round ∷ keyword void_ ∷ mark close_round ∷ l) b.1)) event)

function_sound : (d : ℕ) (ts : List Token) (r : CFunction × List Token) → function_at d ts ≡ Some r → IsFunction r.0 ts r.1
unfolding function_at
function_sound d ts r h =
    let a = seen_then (head_at ts) _ r h in
    let b = seen_mark open_brace a.1 _ r a.3 in
    let c = seen_then (each_at (statement_at d) d b.0) _ r b.2 in
    let e = seen_mark close_brace c.1 _ r c.3 in
    let text : ts ≡ keyword void_ ∷ name a.0 ∷ mark open_round ∷ keyword void_ ∷ mark close_round ∷ mark open_brace ∷ b.0 =
    seen_head ts a.1 a.0 a.2 ∙ ap (λ l. keyword void_ ∷ name a.0 ∷ mark open_round ∷ keyword void_ ∷ mark close_round ∷ l) b.1 in
    given (λ q. IsFunction q.0 ts q.1) (record { name = word a.0; body = c.0 }) e.0 r e.2
    (subst (λ l. IsFunction (record { name = word a.0; body = c.0 }) l e.0) (sym text)
    (function (subst (λ l. Each IsStatement c.0 b.0 l) e.1
    (each_sound IsStatement (statement_at d) (statement_sound d) d b.0 (c.0, c.1) c.2))))

program_sound : (d : ℕ) (ts : List Token) (P : CProgram) → program_at d ts ≡ Some (P, []) → IsProgram P ts
unfolding program_at
program_sound d ts P h =
    let a = seen_then (each_at (struct_at d) d ts) _ _ h in
    let b = seen_then (each_at global_at d a.1) _ _ a.3 in
    let c = seen_then (each_at event_at d b.1) _ _ b.3 in
    let e = seen_then (each_at (function_at d) d c.1) _ _ c.3 in
    let same = Some-same (record { structs = a.0; globals = b.0; events = c.0; functions = e.0 }, e.1) (P, []) e.3 in
    let functions = each_sound IsFunction (function_at d) (function_sound d) d c.1 (e.0, e.1) e.2 in
    subst (λ Q. IsProgram Q ts) (ap (λ p. p.0) same)
    (program (each_sound IsStruct (struct_at d) (struct_sound d) d ts (a.0, a.1) a.2)
    (each_sound IsGlobal global_at global_sound d a.1 (b.0, b.1) b.2)
    (each_sound IsEvent event_at event_sound d b.1 (c.0, c.1) c.2)
    (subst (λ l. Each IsFunction e.0 c.1 l) (ap (λ p. p.1) same) functions))

seen_whole : {A : Type 0} (o : Found A) (x : A) → whole o ≡ Some x → o ≡ Some (x, [])
seen_whole None x h = nothing x h
seen_whole (Some (y, [])) x h = ap (λ z. Some (z, [])) (Some-same y x h)
seen_whole (Some (y, t ∷ ts)) x h = nothing x h

-- what the reader finds the grammar has
pub read_sound : (ts : List Token) (P : CProgram) → read_tokens ts ≡ Some P → IsProgram P ts
unfolding read_tokens
read_sound ts P h = program_sound (length ts) ts P (seen_whole (program_at (length ts) ts) P h)
