-- Expressions that are made of the same choices and the same tokens differ in places alone.
use Rattle.std.proofs.Common.{◌≡◌, ℕ, zero, suc, Bool, true, false, List, [], ◌∷◌, refl, sym, ap, subst, ◌∙◌}
use Rattle.og_lexer.specs.declared.Spanned.{Spanned}
use Rattle.og_lexer.specs.declared.Token.{Token}
use Rattle.og_lexer.specs.declared.Token.TheVariants as token
use Rattle.og_ast.specs.declared.ground.Name.{Name}
use Rattle.og_ast.specs.declared.expression.ExprTree.{ExprTree}
use Rattle.og_ast.specs.declared.expression.ExprNode.{ExprNode}
use Rattle.og_ast.specs.declared.expression.Operator.{Operator}
use Rattle.og_ast.specs.declared.expression.RelationOperator.{RelationOperator}
use Rattle.og_ast.specs.declared.expression.Operator.TheVariants as op
use Rattle.og_ast.specs.declared.expression.ComponentTree.{ComponentTree}
use Rattle.og_ast.specs.declared.expression.VarTree.{VarTree}
use Rattle.og_ast.specs.declared.expression.SelectorTree.{SelectorTree}
use Rattle.og_ast.specs.declared.expression.FieldTree.{FieldTree}
use Rattle.og_reading.specs.Reading.{Rest, Take, behind, after, name_in, onto, next}
use Rattle.og_parse_expr.specs.declared.operator.Level.{Level}
use Rattle.og_parse_expr.specs.declared.operator.Level.TheVariants as level
use Rattle.og_parse_expr.specs.declared.operator.Sign.{Sign}
use Rattle.og_parse_expr.specs.declared.operator.Related.{Related}
use Rattle.og_parse_expr.specs.Reading.{variable, variable_expr, sign_as, product_operator_at, sum_operator_at, relation_as, relation_sign_at, relation_operator_at, with_word, and_operator_at, or_operator_at, Inside, step, led, at_most_one, product_at, sum_at, relation_at, conjunction_at, right_at, step_at, operators_at, operator_at, tails_at, field_as, field_by, field_at, index_at, selector_at, variable_at, bracketed_at, choice_at, named_at, after_name_at, listed_rest_at, first_value_at, first_operand_at, leading_at, item_at, component_value_at, component_at, more_component_at, items_at, after_first_name_at, inside_at, expr_by, operand_by, braces_by, none_at, inside, expr_at, var_at}
use Rattle.og_parse.specs.Alike.{Alike, OneName, OneField, OneExpr, one_expr, OneNode, one_truth, one_variable, one_bracketed, one_minus, one_not, one_binary, one_choice, one_sequence, one_components, OneExprs, no_expr, more_exprs, OneComponents, no_component, more_components, OneComponent, one_component, OneVar, one_var, OneSelectors, no_selector, more_selectors, OneSelector, one_dot, one_exclamation, one_index}
use Rattle.og_parse.specs.Alike as alike
use Rattle.og_parse.proofs.Beside.{SameWords, Beside, on, past, one_number, one_name, Fit, Agree, either, agree_onto, agree_more, agree_next}

-- ---- lists

pub exprs : (ds es : List ExprTree) → Alike OneExpr ds es → OneExprs ds es
exprs [] [] a = no_expr
exprs [] (e ∷ es) a = absurd a
exprs (d ∷ ds) [] a = absurd a
exprs (d ∷ ds) (e ∷ es) a = more_exprs a.0 (exprs ds es a.1)

components : (bs cs : List ComponentTree) → Alike OneComponent bs cs → OneComponents bs cs
components [] [] a = no_component
components [] (c ∷ cs) a = absurd a
components (b ∷ bs) [] a = absurd a
components (b ∷ bs) (c ∷ cs) a = more_components a.0 (components bs cs a.1)

selectors : (ss ts : List SelectorTree) → Alike OneSelector ss ts → OneSelectors ss ts
selectors [] [] a = no_selector
selectors [] (t ∷ ts) a = absurd a
selectors (s ∷ ss) [] a = absurd a
selectors (s ∷ ss) (t ∷ ts) a = more_selectors a.0 (selectors ss ts a.1)

-- ---- operators

abbrev OneSign : Sign → Sign → Type 0
OneSign a b = a.operator ≡ b.operator

abbrev pub OneRelated : Related → Related → Type 0
OneRelated a b = a.relation ≡ b.relation

sign_fits : (o : Operator) {r s : Rest} → Beside r s → Fit OneSign (sign_as o r) (sign_as o s)
sign_fits o b = record { is = refl; left = past b }

related_fits : (o : RelationOperator) {r s : Rest} → Beside r s → Fit OneRelated (relation_as o r) (relation_as o s)
related_fits o b = record { is = refl; left = past b }

agree_product : Agree OneSign product_operator_at product_operator_at
unfolding product_operator_at
agree_product = record { by = λ r s b. either 0 b (sign_fits _ (on b)) (either 1 b (sign_fits _ (on b)) (either 2 b (sign_fits _ (on b)) (sign_fits _ (on b)))) }

agree_sum : Agree OneSign sum_operator_at sum_operator_at
unfolding sum_operator_at
agree_sum = record { by = λ r s b. either 0 b (sign_fits _ (on b)) (sign_fits _ (on b)) }

pub agree_relation_sign : Agree OneRelated relation_sign_at relation_sign_at
unfolding relation_sign_at
agree_relation_sign = record {
  by = λ r s b.
      either 0 b (related_fits _ (on b)) (either 1 b (related_fits _ (on b)) (either 2 b (related_fits _ (on b)) (either 3 b (related_fits _ (on b)) (either 4 b (related_fits _ (on b)) (related_fits _ (on b))))));
}

agree_relation : Agree OneSign relation_operator_at relation_operator_at
unfolding relation_operator_at
agree_relation = record { by = λ r s b. let f = agree_relation_sign.by r s b in record { is = ap op.Relation f.is; left = f.left } }

agree_and : Agree OneSign and_operator_at and_operator_at
unfolding and_operator_at
agree_and = record { by = λ r s b. either 1 (past (on b)) (record { is = refl; left = past (on (on (past (on b)))) }) (record { is = refl; left = on (past (on b)) }) }

agree_or : Agree OneSign or_operator_at or_operator_at
unfolding or_operator_at
agree_or = record {
  by = λ r s b.
      either 0 b
      (either 1 (past (on b)) (record { is = refl; left = past (on (on (past (on b)))) }) (record { is = refl; left = on (past (on b)) }))
      (sign_fits _ (on b));
}

-- ---- expressions

pub record Inner (i : Inside) : Type 0 where
  pub expr : Agree OneExpr i.expr i.expr
  pub operand : Agree OneExpr i.operand i.operand
  pub braces : Agree OneExpr i.braces i.braces

-- onto an expression
abbrev Onto : (ExprTree → Take ExprTree) → Type 0
Onto f = (x y : ExprTree) → OneExpr x y → Agree OneExpr (f x) (f y)

agree_step : {f : Take Sign} {g : Take ExprTree} → Agree OneSign f f → Agree OneExpr g g → Onto (step f g)
agree_step {f = f} a e x y i = record {
  by = λ r s b.
      let m = a.by (after r) (after s) (on b) in
      let n = e.by (f (after r)).1 (f (after s)).1 m.left in
      record { is = one_expr _ _ _ _ (one_binary m.is i n.is); left = n.left };
}

agree_led : {f : Take ExprTree} {g : ExprTree → Take ExprTree} → Agree OneExpr f f → Onto g → Agree OneExpr (led f g) (led f g)
agree_led {f = f} a o = record {
  by = λ r s b.
      let m = a.by (after r) (after s) (on b) in
      (o (f (after r)).0 (f (after s)).0 m.is).by (f (after r)).1 (f (after s)).1 m.left;
}

agree_at_most : {g : ExprTree → Take ExprTree} → Onto g → Onto (at_most_one g)
agree_at_most o x y i = record { by = λ r s b. either 1 b ((o x y i).by (after r) (after s) (on b)) (record { is = i; left = on b }) }

agree_repeated : {g : ExprTree → Take ExprTree} → Onto g → Onto (onto g)
agree_repeated {g = g} o = agree_onto g g o

at_product : {i : Inside} → Inner i → Agree OneExpr (product_at i) (product_at i)
at_product n = agree_led n.operand (agree_repeated (agree_step agree_product n.operand))

at_sum : {i : Inside} → Inner i → Agree OneExpr (sum_at i) (sum_at i)
at_sum n = agree_led (at_product n) (agree_repeated (agree_step agree_sum (at_product n)))

at_relation : {i : Inside} → Inner i → Agree OneExpr (relation_at i) (relation_at i)
at_relation n = agree_led (at_sum n) (agree_at_most (agree_step agree_relation (at_sum n)))

at_conjunction : {i : Inside} → Inner i → Agree OneExpr (conjunction_at i) (conjunction_at i)
at_conjunction n = agree_led (at_relation n) (agree_repeated (agree_step agree_and (at_relation n)))

operators : {i : Inside} → Inner i → (l : Level) → Onto (operators_at i l)
unfolding operators_at step_at right_at
operators n level.Product = agree_repeated (agree_step agree_product n.operand)
operators n level.Sum = agree_repeated (agree_step agree_sum (at_product n))
operators n level.Relation = agree_at_most (agree_step agree_relation (at_sum n))
operators n level.Conjunction = agree_repeated (agree_step agree_and (at_relation n))
operators n level.Disjunction = agree_repeated (agree_step agree_or (at_conjunction n))

tails : {i : Inside} → Inner i → Onto (tails_at i)
unfolding tails_at
tails n x y e = record {
  by = λ r s b.
      let v = (operators n level.Product x y e).by (after r) (after s) (on b) in
      let w = (operators n level.Sum _ _ v.is).by _ _ v.left in
      let t = (operators n level.Relation _ _ w.is).by _ _ w.left in
      let u = (operators n level.Conjunction _ _ t.is).by _ _ t.left in
      (operators n level.Disjunction _ _ u.is).by _ _ u.left;
}

-- ---- variables

field_alike : {r s : Rest} → Beside r s → (t : Token) → OneField (field_as r t) (field_as s t)
field_alike b (token.Keyword w) = refl
field_alike b (token.Name w) = one_name b
field_alike b (token.Number n) = one_name b
field_alike b (token.Text w) = one_name b
field_alike b token.End = one_name b
field_alike b (token.Mark m) = one_name b
field_alike b (token.AsnKeyword w) = one_name b
field_alike b (token.AsnMark m) = one_name b

field_in_front : {r s : Rest} → Beside r s → (ts us : List Spanned) → SameWords ts us → OneField (field_by r ts) (field_by s us)
field_in_front b [] [] w = one_name b
field_in_front b [] (u ∷ us) w = absurd w
field_in_front b (t ∷ ts) [] w = absurd w
field_in_front {r = r} {s = s} b (t ∷ ts) (u ∷ us) w = subst (λ (z : Token). OneField (field_as r t.token) (field_as s z)) w.0 (field_alike b t.token)

agree_field : Agree OneField field_at field_at
unfolding field_at
agree_field = record { by = λ r s b. record { is = field_in_front (on b) r.tokens s.tokens b.words; left = past (on b) } }

agree_index : {i : Inside} → Inner i → Agree OneSelector (index_at i) (index_at i)
unfolding index_at
agree_index n = record {
  by = λ r s b.
      let f = n.expr.by (behind (after r)) (behind (after s)) (past (on b)) in
      record { is = one_index _ _ f.is; left = past f.left };
}

agree_selector : {i : Inside} → Inner i → Agree OneSelector (selector_at i) (selector_at i)
unfolding selector_at
agree_selector n = record {
  by = λ r s b.
      let f = agree_field.by (behind (after r)) (behind (after s)) (past (on b)) in
      either 0 b (record { is = one_dot _ _ _ _ f.is; left = f.left })
      (either 1 b (record { is = one_exclamation _ _ _ _ f.is; left = f.left }) ((agree_index n).by (after r) (after s) (on b)));
}

agree_variable : {i : Inside} → Inner i → (a b : Name) → OneName a b → (ss ts : List SelectorTree) → Alike OneSelector ss ts → Agree OneVar (variable_at i a ss) (variable_at i b ts)
unfolding variable_at
agree_variable {i = i} n a b e ss ts l = record {
  by = λ r s c.
      let f = (agree_more (agree_selector n) ss ts l).by r s c in
      record { is = one_var a b e (selectors _ _ f.is); left = f.left };
}

variable_alike : {v w : VarTree} → OneVar v w → OneExpr (variable_expr v) (variable_expr w)
variable_alike e = one_expr _ _ _ _ (one_variable e)

-- ---- operands

agree_bracketed : {i : Inside} → Inner i → Agree OneExpr (bracketed_at i) (bracketed_at i)
unfolding bracketed_at
agree_bracketed n = record {
  by = λ r s b.
      let f = n.expr.by (behind (after r)) (behind (after s)) (past (on b)) in
      record { is = one_expr _ _ _ _ (one_bracketed f.is); left = past f.left };
}

agree_choice : {i : Inside} → Inner i → (a b : Name) → OneName a b → Agree OneExpr (choice_at i a) (choice_at i b)
unfolding choice_at
agree_choice n a b e = record {
  by = λ r s c.
      let f = n.expr.by (behind r) (behind s) (past c) in
      record { is = one_expr _ _ _ _ (one_choice e f.is); left = f.left };
}

agree_named : {i : Inside} → Inner i → (a b : Name) → OneName a b → (ss ts : List SelectorTree) → Alike OneSelector ss ts → Agree OneExpr (named_at i a ss) (named_at i b ts)
unfolding named_at
agree_named n a b e ss ts l = record {
  by = λ r s c.
      let f = (agree_variable n a b e ss ts l).by r s c in
      (tails n _ _ (variable_alike f.is)).by _ _ f.left;
}

agree_after_name : {i : Inside} → Inner i → (a b : Name) → OneName a b → Agree OneExpr (after_name_at i a) (after_name_at i b)
unfolding after_name_at
agree_after_name n a b e = record { by = λ r s c. either 0 c ((agree_choice n a b e).by _ _ (on c)) ((agree_named n a b e [] [] tt).by _ _ (on c)) }

agree_listed_rest : {i : Inside} → Inner i → (a b : Name) → OneName a b → Agree OneExpr (listed_rest_at i a) (listed_rest_at i b)
unfolding listed_rest_at
agree_listed_rest n a b e = record {
  by = λ r s c.
      let f = (agree_selector n).by (after r) (after s) (on c) in
      either 0 c ((agree_choice n a b e).by _ _ (on c))
      (either 1 c ((agree_named n a b e (_ ∷ []) (_ ∷ []) (f.is, tt)).by _ _ f.left) ((tails n _ _ (variable_alike (one_var a b e no_selector))).by _ _ (on c)));
}

agree_first_value : {i : Inside} → Inner i → Agree OneExpr (first_value_at i) (first_value_at i)
unfolding first_value_at
agree_first_value n = record {
  by = λ r s b.
      let f = n.operand.by (behind (after r)) (behind (after s)) (past (on b)) in
      either 0 b (record { is = one_expr _ _ _ _ (one_minus f.is); left = f.left })
      (either 1 b (record { is = one_expr _ _ _ _ (one_not f.is); left = f.left })
      (either 2 b (record { is = one_expr _ _ _ _ (alike.one_number (one_number (on b))); left = past (on b) })
      (either 3 b (record { is = one_expr _ _ _ _ (one_truth true); left = past (on b) })
      (either 4 b (record { is = one_expr _ _ _ _ (one_truth false); left = past (on b) }) (n.braces.by (after r) (after s) (on b))))));
}

agree_first_operand : {i : Inside} → Inner i → Agree OneExpr (first_operand_at i) (first_operand_at i)
unfolding first_operand_at
agree_first_operand n = record { by = λ r s b. either 0 b ((agree_first_value n).by _ _ (on b)) ((agree_bracketed n).by (after r) (after s) (on b)) }

agree_leading : {i : Inside} → Inner i → Agree OneExpr (leading_at i) (leading_at i)
unfolding leading_at
agree_leading n = record { by = λ r s b. let f = (agree_first_operand n).by r s b in (tails n _ _ f.is).by _ _ f.left }

-- ---- braces

agree_item : {i : Inside} → Inner i → Agree OneExpr (item_at i) (item_at i)
unfolding item_at
agree_item n = record {
  by = λ r s b. either 0 b ((agree_listed_rest n _ _ (one_name (on b))).by (behind (after r)) (behind (after s)) (past (on b))) ((agree_leading n).by (after r) (after s) (on b));
}

agree_component_value : {i : Inside} → Inner i → Agree OneExpr (component_value_at i) (component_value_at i)
unfolding component_value_at
agree_component_value n = record {
  by = λ r s b.
      let f = (agree_first_value n).by (after r) (after s) (on b) in
      either 0 b ((agree_after_name n _ _ (one_name (on b))).by (behind (after r)) (behind (after s)) (past (on b))) ((tails n _ _ f.is).by _ _ f.left);
}

agree_component : {i : Inside} → Inner i → (a b : Name) → OneName a b → Agree OneComponent (component_at i a) (component_at i b)
unfolding component_at
agree_component n a b e = record { by = λ r s c. let f = (agree_component_value n).by r s c in record { is = one_component a b e f.is; left = f.left } }

agree_more_component : {i : Inside} → Inner i → Agree OneComponent (more_component_at i) (more_component_at i)
unfolding more_component_at
agree_more_component n = record { by = λ r s b. (agree_component n _ _ (one_name (past (on b)))).by (behind (behind (after r))) (behind (behind (after s))) (past (past (on b))) }

agree_items : {i : Inside} → Inner i → (x y : ExprTree) → OneExpr x y → Agree OneNode (items_at i x) (items_at i y)
unfolding items_at
agree_items n x y e = record {
  by = λ r s b.
      let f = (agree_more (agree_next (agree_item n)) (x ∷ []) (y ∷ []) (e, tt)).by r s b in
      record { is = one_sequence (exprs _ _ f.is); left = f.left };
}

agree_after_first : {i : Inside} → Inner i → (a b : Name) → OneName a b → Agree OneNode (after_first_name_at i a) (after_first_name_at i b)
unfolding after_first_name_at
agree_after_first n a b e = record {
  by = λ r s c.
      let x = (agree_component n a b e).by (after r) (after s) (on c) in
      let xs = (agree_more (agree_more_component n) (_ ∷ []) (_ ∷ []) (x.is, tt)).by _ _ x.left in
      let y = (agree_listed_rest n a b e).by (after r) (after s) (on c) in
      either 0 c (record { is = one_components (components _ _ xs.is); left = xs.left }) ((agree_items n _ _ y.is).by _ _ y.left);
}

agree_inside : {i : Inside} → Inner i → Agree OneNode (inside_at i) (inside_at i)
unfolding inside_at
agree_inside n = record {
  by = λ r s b.
      let x = (agree_leading n).by (after (after r)) (after (after s)) (on (on b)) in
      either 0 b ((agree_after_first n _ _ (one_name (on b))).by (behind (after r)) (behind (after s)) (past (on b)))
      (either 1 b ((agree_items n _ _ x.is).by _ _ x.left) (record { is = one_sequence no_expr; left = on b }));
}

-- ---- one further out

agree_expr : {i : Inside} → Inner i → Agree OneExpr (expr_by i) (expr_by i)
unfolding expr_by
agree_expr n = record {
  by = λ r s b. either 0 b ((agree_after_name n _ _ (one_name (on b))).by (behind (after r)) (behind (after s)) (past (on b))) ((agree_leading n).by (after r) (after s) (on b));
}

agree_operand : {i : Inside} → Inner i → Agree OneExpr (operand_by i) (operand_by i)
unfolding operand_by
agree_operand n = record {
  by = λ r s b.
      let f = (agree_variable n _ _ (one_name (on b)) [] [] tt).by (behind (after r)) (behind (after s)) (past (on b)) in
      either 0 b (record { is = variable_alike f.is; left = f.left }) ((agree_first_operand n).by (after r) (after s) (on b));
}

agree_braces : {i : Inside} → Inner i → Agree OneExpr (braces_by i) (braces_by i)
unfolding braces_by
agree_braces n = record {
  by = λ r s b.
      let f = (agree_inside n).by (behind (after r)) (behind (after s)) (past (on b)) in
      record { is = one_expr _ _ _ _ f.is; left = past f.left };
}

agree_none : Agree OneExpr none_at none_at
agree_none = record { by = λ r s b. record { is = one_expr _ _ _ _ (alike.one_number refl); left = b } }

inners : (n : ℕ) → Inner (inside n)
unfolding inside
inners zero = record { expr = agree_none; operand = agree_none; braces = agree_none }
inners (suc n) = let i = inners n in record { expr = agree_expr i; operand = agree_operand i; braces = agree_braces i }

pub one_expr_at : (n : ℕ) → Agree OneExpr (expr_at n) (expr_at n)
one_expr_at n = (inners n).expr

pub one_var_at : (n : ℕ) → Agree OneVar (var_at n) (var_at n)
unfolding var_at
one_var_at n = record { by = λ r s b. (agree_variable (inners n) _ _ (one_name (on b)) [] [] tt).by (behind (after r)) (behind (after s)) (past (on b)) }
