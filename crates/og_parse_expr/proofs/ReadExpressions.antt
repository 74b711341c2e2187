-- What is read as an expression is one.
use Rattle.std.proofs.Common.{◌≡◌, ℕ, zero, suc, ◌≤◌, Bool, true, false, List, [], ◌∷◌, ◌++◌, Option, Some, None, refl, sym, ap, subst, ◌∙◌, arith, cond, ◌⊎◌, inl, inr, ◌<◌, ◌==◌, ◌||◌, ◌&&◌, nat_le, nat_lt}
use Rattle.std.specs.List.{list_all}
use borrow.Author.Tests.{ltb-true, leb-true, eqb-true}
use Rattle.og_grammar.proofs.Known.{and_first, and_second}
use Rattle.og_ast.specs.Names.{is_name}
use Rattle.og_reading.proofs.KindsOfTokens.{mark_below}
use Rattle.og_grammar.specs.declared.Nesting.TheVariants.{Keeps, Rises, Falls}
use Rattle.og_grammar.specs.declared.Symbol.{Symbol}
use Rattle.og_grammar.specs.declared.Symbol.TheVariants.{Token, Part, Scope, Maybe, Many, NotBefore}
use Rattle.og_grammar.specs.Sentence.{rules_of, IsNotFirst}
use Rattle.og_base.specs.declared.Place.{Place}
use Rattle.og_names.specs.declared.Word.{Word}
use Rattle.og_lexer.specs.declared.Keyword.{Keyword}
use Rattle.og_lexer.specs.declared.Keyword.TheVariants as word
use Rattle.og_lexer.specs.declared.Mark.{Mark}
use Rattle.og_lexer.specs.declared.Mark.TheVariants as mark
use Rattle.og_lexer.specs.declared.Spanned.{Spanned}
use Rattle.og_lexer.specs.declared.Token.{Token as TheToken}
use Rattle.og_lexer.specs.declared.Token.TheVariants as token
use Rattle.og_ast.specs.declared.ground.Name.{Name}
use Rattle.og_ast.specs.declared.expression.ExprTree.{ExprTree}
use Rattle.og_ast.specs.declared.expression.ExprNode.{ExprNode, Number, Truth, Variable, Bracketed, Minus, Not, Binary, Choice, Sequence, Components}
use Rattle.og_ast.specs.declared.expression.Operator.{Operator}
use Rattle.og_ast.specs.declared.expression.Operator.TheVariants as op
use Rattle.og_ast.specs.declared.expression.RelationOperator.{RelationOperator}
use Rattle.og_ast.specs.declared.expression.RelationOperator.TheVariants as rel
use Rattle.og_ast.specs.declared.expression.ComponentTree.{ComponentTree}
use Rattle.og_ast.specs.declared.expression.VarTree.{VarTree}
use Rattle.og_ast.specs.declared.expression.SelectorTree.{SelectorTree}
use Rattle.og_ast.specs.declared.expression.SelectorKind.{SelectorKind, Dot, Exclamation, Index}
use Rattle.og_ast.specs.declared.expression.FieldTree.{FieldTree}
use Rattle.og_ast.specs.declared.expression.FieldTree.TheVariants as field
use Rattle.og_reading.specs.Kinds.{kinds_of, kind_of_mark, kind_of}
use Rattle.og_reading.specs.Reading.{Rest, Take, behind, after, place_in, name_in, onto, more_of, next}
use Rattle.og_reading.specs.Fronts.{Text, Stands, Reserved, Sign, Named, Numeral, Word as Passes, Passed, IsNotBefore, each, ◌▸◌}
use Rattle.og_reading.proofs.Deriving.{IsPart}
use Rattle.og_reading.proofs.ReadParts.{stands, name_stands, Made, Reads, rule, Both, Before, Grown, reads_word, reads_mark, reads_name, reads_number, reads_then, reads_as, reads_not, reads_nothing, reads_part, reads_deeper, reads_none, reads_option, reads_onto, reads_more, reads_all, is_token_way, reads_tokens}
use Rattle.og_parse_expr.specs.declared.operator.Level.TheVariants as level
use Rattle.og_parse_expr.specs.declared.operator.Sign.{Sign as Operation}
use Rattle.og_parse_expr.specs.declared.operator.Related.{Related}
use Rattle.og_parse_expr.specs.declared.table.TheConstants.{EXPRESSION}
use Rattle.og_parse_expr.specs.Reading.{plain, joined, variable, variable_expr, sign_as, product_operator_at, sum_operator_at, relation_as, relation_sign_at, relation_operator_at, with_word, and_operator_at, or_operator_at, operator_at, Inside, step, led, at_most_one, product_at, sum_at, relation_at, conjunction_at, right_at, step_at, operators_at, tails_at, field_as, field_in, field_at, index_at, selector_at, variable_at, bracketed_at, choice_at, named_at, after_name_at, listed_rest_at, first_value_at, first_operand_at, leading_at, item_at, component_value_at, component_at, more_component_at, items_at, after_first_name_at, inside_at, expr_by, operand_by, braces_by, inside, expr_at, var_at}
use Rattle.og_parse_expr.specs.Grammar.{BeginsNegative, operation, IsProductOperator, times, divided, modulo, remainder, IsSumOperator, plus, minus, IsRelation, equal, not_equal, less, less_or_equal, greater, greater_or_equal, IsAndOperator, and_plain, and_then, IsOrOperator, or_plain, or_else, xor}
use Rattle.og_parse_expr.specs.Grammar.{IsField, IsExpr, choice_value, no_choice_value, IsOr, or_alone, or_more, IsAnd, and_alone, and_more, IsRel, rel_alone, rel_more, IsSum, sum_alone, sum_more, IsProd, prod_alone, prod_more, IsUnary, negative, denied, number, true_, false_, var, bracketed, braces, IsVar, selected, IsSelectors, no_selector, more_selectors, IsSelector, dot, exclamation, index, IsInside, no_items, some_items, some_components, IsItem, item, AreMoreItems, no_more_items, more_items, IsComponent, component, AreMoreComponents, no_more_components, more_components}
use Rattle.og_parse_expr.proofs.Rules.{HasExpressions}

-- ---- what does not stand in front

pub not_in_front : {t : TheToken} {place : Place} {ts us : List Spanned} (u : TheToken) → Stands t place ts us → (t ≡ u → ⊥) → IsNotBefore u ts
not_in_front u s ne = subst (IsNotBefore u) (sym s.parts) (λ e. ne (sym s.is ∙ e))

-- no name stands in front
abbrev pub NoName : List Spanned → Type 0
NoName ts = (w : Word) → IsNotBefore (token.Name w) ts

abbrev pub NoBracket : List Spanned → Type 0
NoBracket = IsNotBefore (token.Mark mark.LeftParenthesis)

abbrev pub NoMinus : List Spanned → Type 0
NoMinus = IsNotBefore (token.Mark mark.Minus)

pub not_kind : (t : TheToken) (ts : List Spanned) → IsNotFirst (kind_of t) (kinds_of ts) → IsNotBefore t ts
not_kind t [] apart = tt
not_kind t (u ∷ ts) apart = λ e. apart (ap kind_of e)

pub in_front : (t : TheToken) (place : Place) (ts us : List Spanned) → Stands t place ts us → IsNotBefore t ts → ⊥
in_front t place [] us s not = absurd cc
in_front t place (u ∷ ts) us s not = let e = s.parts in let same : u ≡ s.first = cc in not (ap (λ (z : Spanned). z.token) same ∙ s.is)

-- no negative component begins where no name does, or no `-` stands behind it
no_negative : (ts : List Spanned) → NoName ts → BeginsNegative ts → ⊥
no_negative ts none b = in_front (token.Name b.0.word) b.0.place ts b.2 b.4 (none b.0.word)

behind_name : (name : Name) (ts us : List Spanned) → Named name ts us → NoMinus us → BeginsNegative ts → ⊥
behind_name name ts us s none b =
    let e = sym s.parts ∙ b.4.parts in
    let same : us ≡ b.2 = cc in
    in_front (token.Mark mark.Minus) b.1 us b.3 (subst (λ (z : List Spanned). Sign mark.Minus b.1 z b.3) (sym same) b.5) none

-- ---- operators

abbrev related : RelationOperator → Place → Related
related r place = record { relation = r; place = place }

abbrev IsRelated : Related → Text
IsRelated r = IsRelation r.relation r.place

-- a relation as an operator
abbrev IsRelating : Operation → Text
IsRelating sign ts us = (r : Related) × (sign ≡ operation (op.Relation r.relation) r.place) × IsRelated r ts us

-- the kinds of names and of keywords
abbrev is_field_kind : ℕ → Bool
is_field_kind k = (k == 0) || (nat_le 24 k && nat_lt k 128)

either_so : (a b : Bool) → (a || b) ≡ true → (a ≡ true) ⊎ (b ≡ true)
either_so true b e = inl refl
either_so false b e = inr e

field_kind : (k : ℕ) → is_field_kind k ≡ true → (k ≡ 0) ⊎ ((24 ≤ k) × (k < 128))
field_kind k e = elim (either_so (k == 0) (nat_le 24 k && nat_lt k 128) e) [
  | inl z ↦ inl (eqb-true k 0 z)
  | inr z ↦ inr (leb-true 24 k (and_first (nat_le 24 k) (nat_lt k 128) z), ltb-true k 128 (and_second (nat_le 24 k) (nat_lt k 128) z))
]

field_stands : (tk : TheToken) (t : Spanned) (ts : List Spanned) (cs : List ℕ) → t.token ≡ tk → is_field_kind (kind_of tk) ≡ true
    → IsField (field_as (record { choices = cs; tokens = t ∷ ts }) tk) (t ∷ ts) ts
field_stands (token.Keyword w) t ts cs e k = stands _ _ t ts e refl
field_stands (token.Name w) t ts cs e k = name_stands t ts cs (ap kind_of e ∙ code_so (is_name w.bytes) k)
  where
    code_so : (b : Bool) → is_field_kind (cond b 0 255) ≡ true → cond {A = ℕ} b 0 255 ≡ 0
    code_so true k = refl
    code_so false k = absurd cc
field_stands (token.Mark m) t ts cs e k = let lt = mark_below m in absurd (elim (field_kind (kind_of_mark m) k) [ inl z ↦ omega arith | inr z ↦ omega arith ])
field_stands (token.Number x) t ts cs e k = absurd cc
field_stands (token.Text x) t ts cs e k = absurd cc
field_stands token.End t ts cs e k = absurd cc
field_stands (token.AsnKeyword w) t ts cs e k = absurd cc
field_stands (token.AsnMark m) t ts cs e k = absurd cc

selectors_grown : (ss later : List SelectorTree) (ts us vs : List Spanned) → IsSelectors ss ts us → each IsSelector later us vs → IsSelectors (ss ++ later) ts vs
selectors_grown [] later ts us vs s e = all later ts vs (subst (λ (z : List Spanned). each IsSelector later z vs) (sym (none ts us s)) e)
  where
    none : (ts us : List Spanned) → IsSelectors [] ts us → ts ≡ us
    none ts us no_selector = refl

    all : (later : List SelectorTree) (ts vs : List Spanned) → each IsSelector later ts vs → IsSelectors later ts vs
    all [] ts vs e = subst (IsSelectors [] ts) e no_selector
    all (s ∷ later) ts vs e = more_selectors e.1 (all later e.0 vs e.2)
selectors_grown (s ∷ ss) later ts us vs (more_selectors {us = mid} first others) e = more_selectors first (selectors_grown ss later mid us vs others e)

selector_first : (s : SelectorTree) (ts us : List Spanned) → IsSelector s ts us → NoMinus ts
selector_first s ts us (dot a f) = not_in_front _ a (λ e. cc)
selector_first s ts us (exclamation a f) = not_in_front _ a (λ e. cc)
selector_first s ts us (index a e c) = not_in_front _ a (λ x. cc)

items_grown : (es : List ExprTree) (ts us : List Spanned) → each (λ e. Passed mark.Comma ▸ IsItem e) es ts us → AreMoreItems es ts us
items_grown [] ts us e = subst (AreMoreItems [] ts) e no_more_items
items_grown (x ∷ es) ts us e = more_items e.1.1 e.1.2 (items_grown es e.0 us e.2)

components_grown : (cs : List ComponentTree) (ts us : List Spanned) → each (λ c. Passed mark.Comma ▸ IsComponent c) cs ts us → AreMoreComponents cs ts us
components_grown [] ts us e = subst (AreMoreComponents [] ts) e no_more_components
components_grown (c ∷ cs) ts us e = more_components e.1.1 e.1.2 (components_grown cs e.0 us e.2)

module _ (table : List Symbol) (has : HasExpressions table) (n : ℕ) where
  reads_product_operator : Reads table n (Part 5 ∷ []) product_operator_at IsProductOperator
  unfolding product_operator_at
  reads_product_operator =
      reads_part 5 (Part 5) refl
      (rule (reads_as (operation op.Multiply) IsProductOperator (λ place ts us s. times s) (reads_mark mark.Asterisk)))
      (rule (reads_as (operation op.Divide) IsProductOperator (λ place ts us s. divided s) (reads_mark mark.Solidus))
      ∷ rule (reads_as (operation op.Mod) IsProductOperator (λ place ts us s. modulo s) (reads_word word.Mod))
      ∷ rule (reads_as (operation op.Rem) IsProductOperator (λ place ts us s. remainder s) (reads_word word.Rem)) ∷ [])
      (has.rules 4 refl)

  reads_sum_operator : Reads table n (Part 7 ∷ []) sum_operator_at IsSumOperator
  unfolding sum_operator_at
  reads_sum_operator =
      reads_part 7 (Part 7) refl
      (rule (reads_as (operation op.Add) IsSumOperator (λ place ts us s. plus s) (reads_mark mark.Plus)))
      (rule (reads_as (operation op.Subtract) IsSumOperator (λ place ts us s. minus s) (reads_mark mark.Minus)) ∷ [])
      (has.rules 6 refl)

  pub reads_relation : Reads table n (Part 10 ∷ []) relation_sign_at IsRelated
  unfolding relation_sign_at
  reads_relation =
      reads_part 10 (Part 10) refl
      (rule (reads_as (related rel.Equal) IsRelated (λ place ts us s. equal s) (reads_mark mark.Equal)))
      (rule (reads_as (related rel.NotEqual) IsRelated (λ place ts us s. not_equal s) (reads_mark mark.NotEqual))
      ∷ rule (reads_as (related rel.Less) IsRelated (λ place ts us s. less s) (reads_mark mark.Less))
      ∷ rule (reads_as (related rel.LessOrEqual) IsRelated (λ place ts us s. less_or_equal s) (reads_mark mark.LessOrEqual))
      ∷ rule (reads_as (related rel.Greater) IsRelated (λ place ts us s. greater s) (reads_mark mark.Greater))
      ∷ rule (reads_as (related rel.GreaterOrEqual) IsRelated (λ place ts us s. greater_or_equal s) (reads_mark mark.GreaterOrEqual)) ∷ [])
      (has.rules 9 refl)

  reads_relation_operator : Reads table n (Part 10 ∷ []) relation_operator_at IsRelating
  unfolding relation_operator_at
  reads_relation_operator = reads_as (λ r. operation (op.Relation r.relation) r.place) IsRelating (λ r ts us s. (r, refl, s)) reads_relation

  -- an operator that a word behind it changes
  reads_and_operator : Reads table n (Part 13 ∷ []) and_operator_at IsAndOperator
  unfolding and_operator_at
  reads_and_operator =
      reads_part 13 (Part 13) refl
      (rule (reads_as (λ x. x.1) IsAndOperator (λ x ts us b. b.2 ts b.1)
      (reads_then (reads_word word.And) (λ place.
      (reads_option {Is = λ sign us rest. (start : List Spanned) → Reserved word.And place start us → IsAndOperator sign start rest} (operation op.And place) (λ ts start s. and_plain s)
      (reads_part 14 (Part 14) refl (rule (reads_as (λ p. operation op.AndThen place) _ (λ p ts us s start r. and_then r (p, s)) (reads_word word.Then))) [] (has.rules 13 refl)))))))
      [] (has.rules 12 refl)

  reads_or_operator : Reads table n (Part 17 ∷ []) or_operator_at IsOrOperator
  unfolding or_operator_at
  reads_or_operator =
      reads_part 17 (Part 17) refl
      (rule (reads_as (λ x. x.1) IsOrOperator (λ x ts us b. b.2 ts b.1)
      (reads_then (reads_word word.Or) (λ place.
      (reads_option {Is = λ sign us rest. (start : List Spanned) → Reserved word.Or place start us → IsOrOperator sign start rest} (operation op.Or place) (λ ts start s. or_plain s)
      (reads_part 18 (Part 18) refl (rule (reads_as (λ p. operation op.OrElse place) _ (λ p ts us s start r. or_else r (p, s)) (reads_word word.Else))) [] (has.rules 17 refl)))))))
      (rule (reads_as (operation op.Xor) IsOrOperator (λ place ts us s. xor s) (reads_word word.Xor)) ∷ [])
      (has.rules 16 refl)

  -- ---- levels

  -- what stands behind is taken onto what stands before, whatever begins with that
  abbrev Onto : (ExprTree → Text) → (ExprTree → Text) → ExprTree → ExprTree → Text
  Onto Mid This left e ts us = (start : List Spanned) → Mid left start ts → This e start us

  level_step : {IsOp : Operation → Text} {Lower Mid This : ExprTree → Text} {operator : Take Operation} {right : Take ExprTree} {o r : Symbol} (p : ℕ) → rules_of p table ≡ (o ∷ r ∷ []) ∷ []
      → Reads table n (o ∷ []) operator IsOp → Reads table n (r ∷ []) right Lower
      → ((a b : ExprTree) (sign : Operation) (ts us vs rest : List Spanned) → Mid a ts us → IsOp sign us vs → Lower b vs rest → This (joined sign a b) ts rest)
      → (left : ExprTree) → Reads table n (Part p ∷ []) (step operator right left) (Onto Mid This left)
  level_step {Mid = Mid} {This = This} p rules op right more left =
      reads_part p (Part p) refl
      (rule (reads_as (λ x. joined x.0 left x.1) (Onto Mid This left) (λ x ts us b start covers. more left x.1 x.0 start ts b.0 us covers b.1 b.2) (reads_then op (λ sign. right)))) [] rules

  level_onto : {IsOp : Operation → Text} {Lower This : ExprTree → Text} {operator : Take Operation} {right : Take ExprTree} {o r : Symbol} (p : ℕ) → rules_of p table ≡ (o ∷ r ∷ []) ∷ []
      → Reads table n (o ∷ []) operator IsOp → Reads table n (r ∷ []) right Lower
      → ((a b : ExprTree) (sign : Operation) (ts us vs rest : List Spanned) → This a ts us → IsOp sign us vs → Lower b vs rest → This (joined sign a b) ts rest)
      → (left : ExprTree) → Reads table n (Many p ∷ []) (onto (step operator right) left) (Onto This This left)
  level_onto {This = This} {operator = operator} {right = right} p rules op right_reads more left =
      reads_all (λ start.
      (reads_onto (λ x ts. This x start ts)
      (λ x. reads_as (λ y. y) (λ y ts us. This x start ts → This y start us) (λ y ts us all. all start) (level_step {Mid = This} {This = This} p rules op right_reads more x)) left))

  level_led : {Lower Mid This : ExprTree → Text} {operand : Take ExprTree} {operators : ExprTree → Take ExprTree} {o r : Symbol} (p : ℕ) → rules_of p table ≡ (o ∷ r ∷ []) ∷ []
      → Reads table n (o ∷ []) operand Lower → ((x : ExprTree) → Reads table n (r ∷ []) (operators x) (Onto Mid This x)) → ((e : ExprTree) (ts us : List Spanned) → Lower e ts us → Mid e ts us)
      → Reads table n (Part p ∷ []) (led operand operators) This
  level_led {This = This} p rules operand operators up =
      reads_part p (Part p) refl (rule (reads_as (λ x. x.1) This (λ x ts us b. b.2 ts (up x.0 ts b.0 b.1)) (reads_then operand operators))) [] rules

  -- ---- expressions, where those further inside are read

  -- a first token that is this one
  abbrev pub Begins : TheToken → List Spanned → Type 0
  Begins t ts = (place : Place) × (rest : List Spanned) × Stands t place ts rest

  pub record InsideReads (i : Inside) : Type 0 where
    pub expr : (s : Symbol) → IsPart 1 s → Reads table n (s ∷ []) i.expr IsExpr
    pub operand : Reads table n (Part 20 ∷ []) i.operand IsUnary
    pub braces : Reads table n (Scope 26 ∷ []) i.braces (λ e ts us. IsUnary e ts us × Begins (token.Mark mark.LeftBrace) ts)

  module _ (i : Inside) (reads : InsideReads i) where
    factors : (left : ExprTree) → Reads table n (Many 4 ∷ []) (operators_at i level.Product left) (Onto IsProd IsProd left)
    unfolding operators_at step_at right_at
    factors = level_onto 4 (has.rules 3 refl) reads_product_operator reads.operand (λ a b sign ts us vs rest x y z. prod_more x y z)

    product : Reads table n (Part 8 ∷ []) (product_at i) IsProd
    unfolding operators_at step_at right_at
    product = level_led 8 (has.rules 7 refl) reads.operand factors (λ e ts us u. prod_alone u)

    terms : (left : ExprTree) → Reads table n (Many 6 ∷ []) (operators_at i level.Sum left) (Onto IsSum IsSum left)
    unfolding operators_at step_at right_at
    terms = level_onto 6 (has.rules 5 refl) reads_sum_operator product (λ a b sign ts us vs rest x y z. sum_more x y z)

    sum : Reads table n (Part 11 ∷ []) (sum_at i) IsSum
    unfolding operators_at step_at right_at
    sum = level_led 11 (has.rules 10 refl) product terms (λ e ts us u. sum_alone u)

    comparison : (left : ExprTree) → Reads table n (Maybe 9 ∷ []) (operators_at i level.Relation left) (Onto IsSum IsRel left)
    unfolding operators_at step_at right_at
    comparison left =
        reads_option left (λ ts start s. rel_alone s)
        (level_step 9 (has.rules 8 refl) reads_relation_operator sum
        (λ a b sign ts us vs rest x y z. subst (λ (o : Operation). IsRel (joined o a b) ts rest) (sym y.1) (rel_more x y.2 z)) left)

    relation : Reads table n (Part 15 ∷ []) (relation_at i) IsRel
    unfolding operators_at step_at right_at
    relation = level_led 15 (has.rules 14 refl) sum comparison (λ e ts us u. u)

    conjuncts : (left : ExprTree) → Reads table n (Many 12 ∷ []) (operators_at i level.Conjunction left) (Onto IsAnd IsAnd left)
    unfolding operators_at step_at right_at
    conjuncts = level_onto 12 (has.rules 11 refl) reads_and_operator relation (λ a b sign ts us vs rest x y z. and_more x y z)

    conjunction : Reads table n (Part 19 ∷ []) (conjunction_at i) IsAnd
    unfolding operators_at step_at right_at
    conjunction = level_led 19 (has.rules 18 refl) relation conjuncts (λ e ts us u. and_alone u)

    disjuncts : (left : ExprTree) → Reads table n (Many 16 ∷ []) (operators_at i level.Disjunction left) (Onto IsOr IsOr left)
    unfolding operators_at step_at right_at
    disjuncts = level_onto 16 (has.rules 15 refl) reads_or_operator conjunction (λ a b sign ts us vs rest x y z. or_more x y z)

    tails : (first : ExprTree) → Reads table n (Part 3 ∷ []) (tails_at i first) (Onto IsUnary IsOr first)
    unfolding tails_at
    tails first =
        reads_part 3 (Part 3) refl
        (rule (reads_as (λ x. x.1.1.1.1) (Onto IsUnary IsOr first)
        (λ x ts us b start u. b.2.2.2.2 start (or_alone (b.2.2.2.1 start (and_alone (b.2.2.1 start (b.2.1 start (sum_alone (b.1 start (prod_alone u)))))))))
        (reads_then (factors first) (λ a. reads_then (terms a) (λ b. reads_then (comparison b) (λ c. reads_then (conjuncts c) disjuncts)))))) []
        (has.rules 2 refl)

    -- ---- variables

    fields : Reads table n (Part 25 ∷ []) field_at IsField
    unfolding field_at
    fields = reads_tokens 25 (Part 25) refl is_field_kind (ap (list_all (is_token_way is_field_kind)) (has.rules 24 refl)) field_in IsField (λ t ts cs e. field_stands t.token t ts cs refl e)

    index_selector : Reads table n (Part 24 ∷ []) (index_at i) IsSelector
    unfolding index_at
    index_selector =
        reads_part 24 (Part 24) refl
        (rule (reads_as (λ x. record { place = x.0; kind = Index x.1.0 }) IsSelector (λ x ts us b. index b.1 b.2.1 (x.1.1, b.2.2))
        (reads_then (reads_mark mark.LeftParenthesis) (λ p. reads_then (reads.expr (Scope 1) refl) (λ e. reads_mark mark.RightParenthesis))))) []
        (has.rules 23 refl)

    selector : Reads table n (Part 23 ∷ []) (selector_at i) IsSelector
    unfolding selector_at
    selector =
        reads_part 23 (Part 23) refl
        (rule (reads_as (λ x. record { place = x.0; kind = Dot x.1 }) IsSelector (λ x ts us b. dot b.1 b.2) (reads_then (reads_mark mark.FullStop) (λ p. fields))))
        (rule (reads_as (λ x. record { place = x.0; kind = Exclamation x.1 }) IsSelector (λ x ts us b. exclamation b.1 b.2) (reads_then (reads_mark mark.Exclamation) (λ p. fields)))
        ∷ rule index_selector ∷ [])
        (has.rules 22 refl)

    -- behind a name and some selectors
    Behind : Name → List SelectorTree → {X : Type 0} → (X → Text) → X → Text
    Behind name selectors Is x ts us = (start middle : List Spanned) → Named name start middle → IsSelectors selectors middle ts → Is x start us

    variables : (name : Name) (selectors : List SelectorTree) → Reads table n (Many 23 ∷ []) (variable_at i name selectors) (Behind name selectors IsVar)
    unfolding variable_at Behind
    variables name selectors =
        reads_as (variable name) (Behind name selectors IsVar)
        (λ ss ts us g start middle named first. selected name ss named (subst (λ (z : List SelectorTree). IsSelectors z middle us) (sym g.1) (selectors_grown selectors g.0 middle ts us first g.2)))
        (reads_more selectors selector)

    -- ---- operands

    -- no name and no `(` begins it
    IsValue : ExprTree → Text
    IsValue e ts us = IsUnary e ts us × NoName ts × NoBracket ts

    first_values : Reads table n (Part 34 ∷ []) (first_value_at i) IsValue
    unfolding first_value_at IsValue
    first_values =
        reads_part 34 (Part 34) refl
        (rule (reads_as (λ x. plain x.0 (Minus x.1)) IsValue (λ x ts us b. (negative b.1 b.2, (λ w. not_in_front _ b.1 (λ e. cc)), not_in_front _ b.1 (λ e. cc))) (reads_then (reads_mark mark.Minus) (λ p. reads.operand))))
        (rule (reads_as (λ x. plain x.0 (Not x.1)) IsValue (λ x ts us b. (denied b.1 b.2, (λ w. not_in_front _ b.1 (λ e. cc)), not_in_front _ b.1 (λ e. cc))) (reads_then (reads_word word.Not) (λ p. reads.operand)))
        ∷ rule (reads_as (λ x. plain x.1 (Number x.0)) IsValue (λ x ts us s. (number s, (λ w. not_in_front _ s (λ e. cc)), not_in_front _ s (λ e. cc))) reads_number)
        ∷ rule (reads_as (λ p. plain p (Truth true)) IsValue (λ p ts us s. (true_ s, (λ w. not_in_front _ s (λ e. cc)), not_in_front _ s (λ e. cc))) (reads_word word.True))
        ∷ rule (reads_as (λ p. plain p (Truth false)) IsValue (λ p ts us s. (false_ s, (λ w. not_in_front _ s (λ e. cc)), not_in_front _ s (λ e. cc))) (reads_word word.False))
        ∷ rule (reads_as (λ e. e) IsValue (λ e ts us b. (b.0, (λ w. not_in_front _ b.1.2 (λ e. cc)), not_in_front _ b.1.2 (λ e. cc))) reads.braces) ∷ [])
        (has.rules 33 refl)

    -- no name begins it
    IsUnnamed : (ExprTree → Text) → ExprTree → Text
    IsUnnamed Is e ts us = Is e ts us × NoName ts

    brackets : Reads table n (Scope 22 ∷ []) (bracketed_at i) (IsUnnamed IsUnary)
    unfolding bracketed_at IsUnnamed
    brackets =
        reads_part 22 (Scope 22) refl
        (rule (reads_as (λ x. plain x.0 (Bracketed x.1.0)) (IsUnnamed IsUnary) (λ x ts us b. (bracketed b.1 b.2.1 (x.1.1, b.2.2), (λ w. not_in_front _ b.1 (λ e. cc))))
        (reads_then (reads_mark mark.LeftParenthesis) (λ p. reads_then (reads.expr (Scope 1) refl) (λ e. reads_mark mark.RightParenthesis))))) []
        (has.rules 21 refl)

    first_operands : Reads table n (Part 21 ∷ []) (first_operand_at i) (IsUnnamed IsUnary)
    unfolding first_operand_at IsValue IsUnnamed
    first_operands =
        reads_part 21 (Part 21) refl (rule (reads_as (λ e. e) (IsUnnamed IsUnary) (λ e ts us v. (v.0, v.1)) first_values)) (rule brackets ∷ []) (has.rules 20 refl)

    leading : Reads table n (Part 21 ∷ Part 3 ∷ []) (leading_at i) (IsUnnamed IsOr)
    unfolding leading_at IsUnnamed
    leading = reads_as (λ x. x.1) (IsUnnamed IsOr) (λ x ts us b. (b.2 ts b.1.0, b.1.1)) (reads_then first_operands tails)

    choices : (name : Name) → Reads table n (Token 6 (Rises 1) ∷ Part 1 ∷ []) (choice_at i name) (λ e ts us. (start : List Spanned) → Named name start ts → IsExpr e start us)
    unfolding choice_at
    choices name =
        reads_as (λ x. plain name.place (Choice name x.1)) _ (λ x ts us b start named. choice_value named (x.0, b.1) b.2) (reads_then (reads_mark mark.Colon) (λ p. reads.expr (Part 1) refl))

    named_ones : (name : Name) (selectors : List SelectorTree) → Reads table n (Many 23 ∷ Part 3 ∷ []) (named_at i name selectors) (Behind name selectors IsOr)
    unfolding named_at Behind
    named_ones name selectors =
        reads_as (λ x. x.1) (Behind name selectors IsOr) (λ x ts us b start middle named first. b.2 start (var (b.1 start middle named first)))
        (reads_then (variables name selectors) (λ v. tails (variable_expr v)))

    after_names : (name : Name) → Reads table n (Part 2 ∷ []) (after_name_at i name) (λ e ts us. (start : List Spanned) → Named name start ts → IsExpr e start us)
    unfolding after_name_at Behind
    after_names name =
        reads_part 2 (Part 2) refl (rule (choices name))
        (rule (reads_as (λ e. e) _ (λ e ts us b start named. no_choice_value (b start ts named no_selector)) (named_ones name [])) ∷ [])
        (has.rules 1 refl)

    -- ---- braces

    -- behind the name of an item, at no `-`
    Listed : Name → ExprTree → Text
    Listed name e ts us = ((start : List Spanned) → Named name start ts → IsExpr e start us) × NoMinus ts

    listed_rests : (s : Symbol) → IsPart 29 s → (name : Name) → Reads table n (s ∷ []) (listed_rest_at i name) (Listed name)
    unfolding listed_rest_at Listed Behind choice_at
    listed_rests s is name =
        reads_part 29 s is
        (rule (reads_as (λ x. plain name.place (Choice name x.1)) (Listed name) (λ x ts us b. ((λ start named. choice_value named (x.0, b.1) b.2), not_in_front _ b.1 (λ e. cc)))
        (reads_then (reads_mark mark.Colon) (λ p. reads.expr (Part 1) refl))))
        (rule (reads_as (λ x. x.1) (Listed name) (λ x ts us b. ((λ start named. no_choice_value (b.2 start ts named (more_selectors b.1 no_selector))), selector_first x.0 ts b.0 b.1))
        (reads_then selector (λ s. named_ones name (s ∷ []))))
        ∷ rule (reads_as (λ e. e) (Listed name) (λ e ts us b. ((λ start named. no_choice_value (b.1 start (var (selected name [] named no_selector)))), not_kind (token.Mark mark.Minus) ts b.0))
        (reads_not 15 (tails (variable_expr (variable name []))))) ∷ [])
        (has.rules 28 refl)

    items_one : Reads table n (Scope 32 ∷ []) (item_at i) IsItem
    unfolding item_at Listed IsUnnamed
    items_one =
        reads_part 32 (Scope 32) refl
        (rule (reads_as (λ x. x.1) IsItem (λ x ts us b. item (b.2.0 ts b.1) (behind_name x.0 ts b.0 b.1 b.2.1)) (reads_then reads_name (listed_rests (Part 29) refl))))
        (rule (reads_as (λ e. e) IsItem (λ e ts us b. item (no_choice_value b.0) (no_negative ts b.1)) leading) ∷ [])
        (has.rules 31 refl)

    more_items_read : Reads table n (Part 31 ∷ []) (next (item_at i)) (λ e. Passed mark.Comma ▸ IsItem e)
    more_items_read =
        reads_part 31 (Part 31) refl (rule (reads_as (λ x. x.1) (λ e. Passed mark.Comma ▸ IsItem e) (λ x ts us b. (b.0, (x.0, b.1), b.2)) (reads_then (reads_mark mark.Comma) (λ p. items_one)))) []
        (has.rules 30 refl)

    -- items behind a first one
    items_read : (first : ExprTree) → Reads table n (Many 31 ∷ []) (items_at i first) (λ node ts us. (start : List Spanned) → IsItem first start ts → IsInside node start us)
    unfolding items_at
    items_read first =
        reads_as Sequence _
        (λ xs ts us g start it. subst (λ (z : List ExprTree). IsInside (Sequence z) start us) (sym g.1) (some_items it (items_grown g.0 ts us g.2)))
        (reads_more (first ∷ []) more_items_read)

    component_values : Reads table n (Scope 33 ∷ []) (component_value_at i) (λ e ts us. IsExpr e ts us × NoBracket ts)
    unfolding component_value_at IsValue
    component_values =
        reads_part 33 (Scope 33) refl
        (rule (reads_as (λ x. x.1) _ (λ x ts us b. (b.2 ts b.1, not_in_front _ b.1 (λ e. cc))) (reads_then reads_name after_names)))
        (rule (reads_as (λ x. x.1) _ (λ x ts us b. (no_choice_value (b.2 ts b.1.0), b.1.2)) (reads_then first_values tails)) ∷ [])
        (has.rules 32 refl)

    components_one : (name : Name) → Reads table n (Scope 33 ∷ []) (component_at i name) (λ c ts us. (start : List Spanned) → Named name start ts → IsComponent c start us)
    unfolding component_at
    components_one name = reads_as (λ e. record { name = name; value = e }) _ (λ e ts us b start named. component named b.0 b.1) component_values

    more_components_read : Reads table n (Part 35 ∷ []) (more_component_at i) (λ c. Passed mark.Comma ▸ IsComponent c)
    unfolding more_component_at
    more_components_read =
        reads_part 35 (Part 35) refl
        (rule (reads_as (λ x. x.1.1) (λ c. Passed mark.Comma ▸ IsComponent c) (λ x ts us b. (b.0, (x.0, b.1), b.2.2 b.0 b.2.1))
        (reads_then (reads_mark mark.Comma) (λ p. reads_then reads_name components_one)))) []
        (has.rules 34 refl)

    after_first_names : (name : Name) → Reads table n (Part 28 ∷ []) (after_first_name_at i name) (λ node ts us. (start : List Spanned) → Named name start ts → IsInside node start us)
    unfolding after_first_name_at Listed
    after_first_names name =
        reads_part 28 (Part 28) refl
        (rule (reads_as (λ x. Components x.1) _
        (λ x ts us b start named. subst (λ (z : List ComponentTree). IsInside (Components z) start us) (sym b.2.1) (some_components (b.1 start named) (components_grown b.2.0 b.0 us b.2.2)))
        (reads_then (components_one name) (λ c. reads_more (c ∷ []) more_components_read))))
        (rule (reads_as (λ x. x.1) _ (λ x ts us b start named. b.2 start (item (b.1.0 start named) (behind_name name start ts named b.1.1)))
        (reads_then (listed_rests (Scope 29) refl name) items_read)) ∷ [])
        (has.rules 27 refl)

    insides : Reads table n (Part 27 ∷ []) (inside_at i) IsInside
    unfolding inside_at IsUnnamed
    insides =
        reads_part 27 (Part 27) refl
        (rule (reads_as (λ x. x.1) IsInside (λ x ts us b. b.2 ts b.1) (reads_then reads_name after_first_names)))
        (rule (reads_as (λ x. x.1) IsInside (λ x ts us b. b.2 ts (item (no_choice_value b.1.0) (no_negative ts b.1.1)))
        (reads_then (reads_part 30 (Scope 30) refl (rule leading) [] (has.rules 29 refl)) items_read))
        ∷ rule (reads_nothing (Sequence []) IsInside (λ ts. no_items)) ∷ [])
        (has.rules 26 refl)

-- ---- one further out

module _ (table : List Symbol) (has : HasExpressions table) (n : ℕ) (i : Inside) (reads : InsideReads table has n i) where
  exprs : (s : Symbol) → IsPart 1 s → Reads table (suc n) (s ∷ []) (expr_by i) IsExpr
  unfolding expr_by IsUnnamed
  exprs s is =
      reads_deeper 1 s is
      (rule (reads_as (λ x. x.1) IsExpr (λ x ts us b. b.2 ts b.1) (reads_then reads_name (after_names table has n i reads))))
      (rule (reads_as (λ e. e) IsExpr (λ e ts us b. no_choice_value b.0) (leading table has n i reads)) ∷ [])
      (has.rules 0 refl)

  operands : Reads table (suc n) (Part 20 ∷ []) (operand_by i) IsUnary
  unfolding operand_by IsUnnamed Behind
  operands =
      reads_deeper 20 (Part 20) refl
      (rule (reads_as (λ x. variable_expr x.1) IsUnary (λ x ts us b. var (b.2 ts b.0 b.1 no_selector)) (reads_then reads_name (λ name. variables table has n i reads name []))))
      (rule (reads_as (λ e. e) IsUnary (λ e ts us b. b.0) (first_operands table has n i reads)) ∷ [])
      (has.rules 19 refl)

  braces_read : Reads table (suc n) (Scope 26 ∷ []) (braces_by i) (λ e ts us. IsUnary e ts us × Begins table has n (token.Mark mark.LeftBrace) ts)
  unfolding braces_by
  braces_read =
      reads_deeper 26 (Scope 26) refl
      (rule (reads_as (λ x. plain x.0 x.1.0) _ (λ x ts us b. (braces b.1 b.2.1 (x.1.1, b.2.2), (x.0, b.0, b.1)))
      (reads_then (reads_mark mark.LeftBrace) (λ p. reads_then (insides table has n i reads) (λ node. reads_mark mark.RightBrace))))) []
      (has.rules 25 refl)

  pub further_out : InsideReads table has (suc n) (record { expr = expr_by i; operand = operand_by i; braces = braces_by i })
  further_out = record { expr = exprs; operand = operands; braces = braces_read }

pub all_read : (table : List Symbol) (has : HasExpressions table) (n : ℕ) → InsideReads table has n (inside n)
unfolding inside
all_read table has zero = record { expr = λ s is. reads_none 1 s is; operand = reads_none 20 (Part 20) refl; braces = reads_none 26 (Scope 26) refl }
all_read table has (suc n) = further_out table has n (inside n) (all_read table has n)

-- what is read as an expression is one
pub reads_expr : (table : List Symbol) (has : HasExpressions table) (n : ℕ) (s : Symbol) → IsPart 1 s → Reads table n (s ∷ []) (expr_at n) IsExpr
reads_expr table has n s is = (all_read table has n).expr s is

-- what is read as a variable is one
pub reads_var : (table : List Symbol) (has : HasExpressions table) (n p : ℕ) (s : Symbol) → IsPart p s → rules_of p table ≡ (Token 0 Keeps ∷ Many 23 ∷ []) ∷ [] → Reads table n (s ∷ []) (var_at n) IsVar
unfolding var_at Behind
reads_var table has n p s is rules =
    reads_part p s is
    (rule (reads_as (λ x. x.1) IsVar (λ x ts us b. b.2 ts b.0 b.1 no_selector) (reads_then reads_name (λ name. variables table has n (inside n) (all_read table has n) name [])))) [] rules
