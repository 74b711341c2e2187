-- The places that expressions keep are those of their tokens.
use Rattle.std.proofs.Common.{true, false, List, [], ◌∷◌, subst}
use Rattle.std.specs.List.{flat_map}
use Rattle.og_base.specs.declared.Place.{Place}
use Rattle.og_lexer.specs.declared.Spanned.{Spanned}
use Rattle.og_ast.specs.declared.expression.ExprTree.{ExprTree}
use Rattle.og_ast.specs.declared.expression.ExprNode.{ExprNode, Number, Truth, Variable, Bracketed, Minus, Not, Choice}
use Rattle.og_ast.specs.declared.expression.RelationOperator.{RelationOperator}
use Rattle.og_ast.specs.declared.expression.Operator.TheVariants as op
use Rattle.og_ast.specs.declared.expression.ComponentTree.{ComponentTree}
use Rattle.og_ast.specs.declared.expression.VarTree.{VarTree, out-VarTree}
use Rattle.og_ast.specs.declared.expression.SelectorTree.{SelectorTree}
use Rattle.og_ast.specs.declared.expression.SelectorKind.{Dot, Exclamation, Index}
use Rattle.og_ast.specs.declared.expression.FieldTree.{FieldTree}
use Rattle.og_ast.specs.declared.expression.FieldTree.TheVariants as field
use Rattle.og_places.specs.Contents.{Places, places_in_field, places_in_node, places_in_component, places_in_expr, places_in_selector, places_in_var}
use Rattle.og_places.proofs.Opens.{of-Number, of-Truth, of-Variable, of-Bracketed, of-Minus, of-Not, of-Binary, of-Choice, of-Sequence, of-Components, of-Dot, of-Exclamation, of-Index, of-component, of-expr, of-selector, of-var, of-variable}
use Rattle.og_parse_expr.specs.declared.operator.Sign.{Sign as Operation}
use Rattle.og_parse_expr.specs.Reading.{plain, joined, variable_expr}
use Rattle.og_parse_expr.specs.Grammar.{operation, IsProductOperator, times, divided, modulo, remainder, IsSumOperator, plus, minus, IsRelation, equal, not_equal, less, less_or_equal, greater, greater_or_equal, IsAndOperator, and_plain, and_then, IsOrOperator, or_plain, or_else, xor, IsField, IsExpr, choice_value, no_choice_value, IsOr, or_alone, or_more, IsAnd, and_alone, and_more, IsRel, rel_alone, rel_more, IsSum, sum_alone, sum_more, IsProd, prod_alone, prod_more, IsUnary, negative, denied, number, true_, false_, var, bracketed, braces, IsVar, selected, IsSelectors, no_selector, more_selectors, IsSelector, dot, exclamation, index, IsInside, no_items, some_items, some_components, IsItem, item, AreMoreItems, no_more_items, more_items, IsComponent, component, AreMoreComponents, no_more_components, more_components}
use Rattle.og_parse.proofs.PlacesKept.{Each, AreIn, Kept, Keeps, followed, as_places, keeps_none, token_in, passed_in, past}

module _ (P : Place → Type 0) where
  -- ---- operators

  product_operator_in : {sign : Operation} {ts rest : List Spanned} → IsProductOperator sign ts rest → AreIn P ts → Kept P (sign.place ∷ []) rest
  product_operator_in (times s) all = token_in P s all
  product_operator_in (divided s) all = token_in P s all
  product_operator_in (modulo s) all = token_in P s all
  product_operator_in (remainder s) all = token_in P s all

  sum_operator_in : {sign : Operation} {ts rest : List Spanned} → IsSumOperator sign ts rest → AreIn P ts → Kept P (sign.place ∷ []) rest
  sum_operator_in (plus s) all = token_in P s all
  sum_operator_in (minus s) all = token_in P s all

  relation_in : {relation : RelationOperator} {place : Place} {ts rest : List Spanned} → IsRelation relation place ts rest → AreIn P ts → Kept P (place ∷ []) rest
  relation_in (equal s) all = token_in P s all
  relation_in (not_equal s) all = token_in P s all
  relation_in (less s) all = token_in P s all
  relation_in (less_or_equal s) all = token_in P s all
  relation_in (greater s) all = token_in P s all
  relation_in (greater_or_equal s) all = token_in P s all

  and_operator_in : {sign : Operation} {ts rest : List Spanned} → IsAndOperator sign ts rest → AreIn P ts → Kept P (sign.place ∷ []) rest
  and_operator_in (and_plain s) all = token_in P s all
  and_operator_in (and_then s w) all = past (token_in P s all) w

  or_operator_in : {sign : Operation} {ts rest : List Spanned} → IsOrOperator sign ts rest → AreIn P ts → Kept P (sign.place ∷ []) rest
  or_operator_in (or_plain s) all = token_in P s all
  or_operator_in (or_else s w) all = past (token_in P s all) w
  or_operator_in (xor s) all = token_in P s all

  -- ---- what is put together

  -- an expression without an operator keeps the place of its first token twice
  plain_in : (place : Place) (node : ExprNode) {middle rest : List Spanned} → Kept P (place ∷ []) middle → Kept P (places_in_node node) rest → Kept P (places_in_expr (plain place node)) rest
  plain_in place node x y = as_places (of-expr (plain place node)) (record { here = (x.here.0, (x.here.0, y.here)); left = y.left })

  joined_in : (sign : Operation) (a b : ExprTree) {middle right rest : List Spanned} → Kept P (sign.place ∷ []) middle → Kept P (places_in_expr a) right → Kept P (places_in_expr b) rest
      → Kept P (places_in_expr (joined sign a b)) rest
  joined_in sign a b s x y =
      let first = subst (λ (z : Places). Each P z) (of-expr a) x.here in
      let both = as_places (of-Binary sign.operator a b) (followed x y) in
      as_places (of-expr (joined sign a b)) (record { here = (s.here.0, (first.1.0, both.here)); left = both.left })

  variable_in : (v : VarTree) {rest : List Spanned} → Kept P (places_in_var v) rest → Kept P (places_in_expr (variable_expr v)) rest
  variable_in v {rest = rest} x =
      let name = subst (λ (z : Places). Each P z) (of-var v) x.here in
      let first : Kept P ((out-VarTree v).name.place ∷ []) rest = record { here = (name.0, tt); left = x.left } in
      plain_in (out-VarTree v).name.place (Variable v) first (as_places (of-Variable v) x)

  field_in : (f : FieldTree) (ts rest : List Spanned) → IsField f ts rest → AreIn P ts → Kept P (places_in_field f) rest
  field_in (field.Name name) ts rest s all = token_in P s all
  field_in (field.Keyword place w) ts rest s all = token_in P s all

  -- ---- the relations, each by the others

  mutual
    expr_in : {e : ExprTree} {ts rest : List Spanned} → IsExpr e ts rest → AreIn P ts → Kept P (places_in_expr e) rest
    expr_in (choice_value {name = name} {e = e} s c i) all =
        let n = token_in P s all in
        let x = expr_in i (passed_in P c n.left) in
        plain_in name.place (Choice name e) n (as_places (of-Choice name e) (followed n x))
    expr_in (no_choice_value i) all = or_in i all

    or_in : {e : ExprTree} {ts rest : List Spanned} → IsOr e ts rest → AreIn P ts → Kept P (places_in_expr e) rest
    or_in (or_alone i) all = and_in i all
    or_in (or_more {a = a} {b = b} {sign = sign} i o j) all =
        let x = or_in i all in
        let s = or_operator_in o x.left in
        joined_in sign a b s x (and_in j s.left)

    and_in : {e : ExprTree} {ts rest : List Spanned} → IsAnd e ts rest → AreIn P ts → Kept P (places_in_expr e) rest
    and_in (and_alone i) all = rel_in i all
    and_in (and_more {a = a} {b = b} {sign = sign} i o j) all =
        let x = and_in i all in
        let s = and_operator_in o x.left in
        joined_in sign a b s x (rel_in j s.left)

    rel_in : {e : ExprTree} {ts rest : List Spanned} → IsRel e ts rest → AreIn P ts → Kept P (places_in_expr e) rest
    rel_in (rel_alone i) all = sum_in i all
    rel_in (rel_more {a = a} {b = b} {relation = relation} {place = place} i r j) all =
        let x = sum_in i all in
        let s = relation_in r x.left in
        joined_in (operation (op.Relation relation) place) a b s x (sum_in j s.left)

    sum_in : {e : ExprTree} {ts rest : List Spanned} → IsSum e ts rest → AreIn P ts → Kept P (places_in_expr e) rest
    sum_in (sum_alone i) all = prod_in i all
    sum_in (sum_more {a = a} {b = b} {sign = sign} i o j) all =
        let x = sum_in i all in
        let s = sum_operator_in o x.left in
        joined_in sign a b s x (prod_in j s.left)

    prod_in : {e : ExprTree} {ts rest : List Spanned} → IsProd e ts rest → AreIn P ts → Kept P (places_in_expr e) rest
    prod_in (prod_alone i) all = unary_in i all
    prod_in (prod_more {a = a} {b = b} {sign = sign} i o j) all =
        let x = prod_in i all in
        let s = product_operator_in o x.left in
        joined_in sign a b s x (unary_in j s.left)

    unary_in : {e : ExprTree} {ts rest : List Spanned} → IsUnary e ts rest → AreIn P ts → Kept P (places_in_expr e) rest
    unary_in (negative {e = e} {place = place} s i) all =
        let k = token_in P s all in
        plain_in place (Minus e) k (as_places (of-Minus e) (unary_in i k.left))
    unary_in (denied {e = e} {place = place} s i) all =
        let k = token_in P s all in
        plain_in place (Not e) k (as_places (of-Not e) (unary_in i k.left))
    unary_in (number {n = n} {place = place} s) all =
        let k = token_in P s all in
        plain_in place (Number n) k (as_places (of-Number n) (keeps_none P k.left))
    unary_in (true_ {place = place} s) all =
        let k = token_in P s all in
        plain_in place (Truth true) k (as_places (of-Truth true) (keeps_none P k.left))
    unary_in (false_ {place = place} s) all =
        let k = token_in P s all in
        plain_in place (Truth false) k (as_places (of-Truth false) (keeps_none P k.left))
    unary_in (var {v = v} i) all = variable_in v (var_in i all)
    unary_in (bracketed {e = e} {place = place} s i c) all =
        let k = token_in P s all in
        plain_in place (Bracketed e) k (as_places (of-Bracketed e) (past (expr_in i k.left) c))
    unary_in (braces {inside = inside} {place = place} s i c) all =
        let k = token_in P s all in
        plain_in place inside k (past (inside_in i k.left) c)

    var_in : {v : VarTree} {ts rest : List Spanned} → IsVar v ts rest → AreIn P ts → Kept P (places_in_var v) rest
    var_in (selected name selectors s i) all =
        let n = token_in P s all in
        as_places (of-variable name selectors) (followed n (selectors_in i n.left))

    selectors_in : {ss : List SelectorTree} {ts rest : List Spanned} → IsSelectors ss ts rest → AreIn P ts → Kept P (flat_map places_in_selector ss) rest
    selectors_in no_selector all = keeps_none P all
    selectors_in (more_selectors i j) all =
        let x = selector_in i all in
        followed x (selectors_in j x.left)

    selector_in : {s : SelectorTree} {ts rest : List Spanned} → IsSelector s ts rest → AreIn P ts → Kept P (places_in_selector s) rest
    selector_in (dot {f = f} {place = place} {us = us} {rest = rest} s i) all =
        let k = token_in P s all in
        as_places (of-selector (record { place = place; kind = Dot f })) (followed k (as_places (of-Dot f) (field_in f us rest i k.left)))
    selector_in (exclamation {f = f} {place = place} {us = us} {rest = rest} s i) all =
        let k = token_in P s all in
        as_places (of-selector (record { place = place; kind = Exclamation f })) (followed k (as_places (of-Exclamation f) (field_in f us rest i k.left)))
    selector_in (index {e = e} {place = place} s i c) all =
        let k = token_in P s all in
        as_places (of-selector (record { place = place; kind = Index e })) (followed k (past (as_places (of-Index e) (expr_in i k.left)) c))

    inside_in : {n : ExprNode} {ts rest : List Spanned} → IsInside n ts rest → AreIn P ts → Kept P (places_in_node n) rest
    inside_in no_items all = as_places (of-Sequence []) (keeps_none P all)
    inside_in (some_items {e = e} {es = es} i j) all =
        let x = item_in i all in
        as_places (of-Sequence (e ∷ es)) (followed x (more_items_in j x.left))
    inside_in (some_components {c = c} {cs = cs} i j) all =
        let x = component_in i all in
        as_places (of-Components (c ∷ cs)) (followed x (more_components_in j x.left))

    item_in : {e : ExprTree} {ts rest : List Spanned} → IsItem e ts rest → AreIn P ts → Kept P (places_in_expr e) rest
    item_in (item i not) all = expr_in i all

    more_items_in : {es : List ExprTree} {ts rest : List Spanned} → AreMoreItems es ts rest → AreIn P ts → Kept P (flat_map places_in_expr es) rest
    more_items_in no_more_items all = keeps_none P all
    more_items_in (more_items c i j) all =
        let x = item_in i (passed_in P c all) in
        followed x (more_items_in j x.left)

    component_in : {c : ComponentTree} {ts rest : List Spanned} → IsComponent c ts rest → AreIn P ts → Kept P (places_in_component c) rest
    component_in (component {name = name} {value = value} s i apart) all =
        let n = token_in P s all in
        as_places (of-component (record { name = name; value = value })) (followed n (expr_in i n.left))

    more_components_in : {cs : List ComponentTree} {ts rest : List Spanned} → AreMoreComponents cs ts rest → AreIn P ts → Kept P (flat_map places_in_component cs) rest
    more_components_in no_more_components all = keeps_none P all
    more_components_in (more_components c i j) all =
        let x = component_in i (passed_in P c all) in
        followed x (more_components_in j x.left)

  -- ---- what each of them keeps

  pub relation_kept : (relation : RelationOperator) (place : Place) → Keeps P (IsRelation relation place) (place ∷ [])
  relation_kept relation place = record { by = λ ts rest i all. relation_in i all }

  pub var_kept : (v : VarTree) → Keeps P (IsVar v) (places_in_var v)
  var_kept v = record { by = λ ts rest i all. var_in i all }

  pub expr_kept : (e : ExprTree) → Keeps P (IsExpr e) (places_in_expr e)
  expr_kept e = record { by = λ ts rest i all. expr_in i all }
