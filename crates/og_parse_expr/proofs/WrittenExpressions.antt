-- Each expression is read as what it is.
use Rattle.std.proofs.Common.{◌≡◌, ℕ, zero, suc, ◌≤◌, Bool, true, false, List, [], ◌∷◌, ◌++◌, Option, Some, None, slice_get, refl, sym, ap, subst, ◌∙◌, arith, cond, ◌⊎◌, inl, inr, ◌<◌, ◌==◌, ◌||◌, ◌&&◌, nat_le, nat_lt}
use Rattle.std.specs.List.{list_all}
use borrow.Author.Tests.{ltb-true, leb-true, eqb-true}
use Rattle.og_grammar.proofs.Known.{and_first, and_second}
use Rattle.og_ast.specs.Names.{is_name}
use Rattle.og_reading.proofs.KindsOfTokens.{mark_is}
use Rattle.og_parse_expr.proofs.ReadExpressions.{in_front}
use Rattle.og_grammar.specs.declared.Nesting.TheVariants.{Keeps, Rises, Falls}
use Rattle.og_grammar.specs.declared.Symbol.{Symbol}
use Rattle.og_grammar.specs.declared.Symbol.TheVariants.{Token, Part, Scope, Maybe, Many, NotBefore}
use Rattle.og_grammar.specs.Sentence.{rules_of, IsNotFirst}
use Rattle.og_base.specs.declared.Place.{Place}
use Rattle.og_names.specs.declared.Word.{Word}
use Rattle.og_lexer.specs.declared.Keyword.{Keyword}
use Rattle.og_lexer.specs.declared.Keyword.TheVariants as word
use Rattle.og_lexer.specs.declared.Mark.{Mark}
use Rattle.og_lexer.specs.declared.Mark.TheVariants as mark
use Rattle.og_lexer.specs.declared.Spanned.{Spanned}
use Rattle.og_lexer.specs.declared.Token.{Token as TheToken}
use Rattle.og_lexer.specs.declared.Token.TheVariants as token
use Rattle.og_ast.specs.declared.ground.Name.{Name}
use Rattle.og_ast.specs.declared.expression.ExprTree.{ExprTree}
use Rattle.og_ast.specs.declared.expression.ExprNode.{ExprNode, Number, Truth, Variable, Bracketed, Minus, Not, Binary, Choice, Sequence, Components}
use Rattle.og_ast.specs.declared.expression.Operator.{Operator}
use Rattle.og_ast.specs.declared.expression.Operator.TheVariants as op
use Rattle.og_ast.specs.declared.expression.RelationOperator.{RelationOperator}
use Rattle.og_ast.specs.declared.expression.RelationOperator.TheVariants as rel
use Rattle.og_ast.specs.declared.expression.ComponentTree.{ComponentTree}
use Rattle.og_ast.specs.declared.expression.VarTree.{VarTree}
use Rattle.og_ast.specs.declared.expression.SelectorTree.{SelectorTree}
use Rattle.og_ast.specs.declared.expression.SelectorKind.{SelectorKind, Dot, Exclamation, Index}
use Rattle.og_ast.specs.declared.expression.FieldTree.{FieldTree}
use Rattle.og_ast.specs.declared.expression.FieldTree.TheVariants as field
use Rattle.og_reading.specs.Kinds.{kinds_of, kind_of_mark, kind_of_keyword, kind_of}
use denote.Enum.Declared.{tag_of}
use Rattle.og_lexer.specs.contracts.Keyword as keywords
use Rattle.og_reading.proofs.Naming.{named_so}
use Rattle.og_reading.specs.Reading.{Rest, Take, behind, after, place_in, word_by, named, name_in, onto, more_of, next}
use Rattle.og_reading.specs.Fronts.{Text, Stands, Reserved, Sign, Named, Numeral, Word as Passes, Passed, IsNotBefore, each, ◌▸◌}
use Rattle.og_reading.proofs.Deriving.{IsPart}
use Rattle.og_reading.proofs.ReadParts.{then_take, as_take, option_take}
use Rattle.og_reading.proofs.WrittenParts.{left, Written, Writes, writes_token, writes_word, writes_mark, writes_name, writes_number, writes_then, writes_and, writes_as, writes_nothing, writes_not, writes_deeper, writes_part, writes_none, writes_some, WritesTurns, no_turn, one_turn, writes_onto, one_more, writes_each}
use Rattle.og_parse_expr.specs.declared.operator.Level.{Level}
use Rattle.og_parse_expr.specs.declared.operator.Level.TheVariants as level
use Rattle.og_parse_expr.specs.declared.operator.Sign.{Sign as Operation}
use Rattle.og_parse_expr.specs.declared.operator.Related.{Related}
use Rattle.og_parse_expr.specs.declared.table.TheConstants.{EXPRESSION}
use Rattle.og_parse_expr.specs.Reading.{plain, joined, variable, variable_expr, sign_as, product_operator_at, sum_operator_at, relation_as, relation_sign_at, relation_operator_at, with_word, and_operator_at, or_operator_at, operator_at, Inside, step, led, at_most_one, product_at, sum_at, relation_at, conjunction_at, right_at, step_at, operators_at, tails_at, field_as, field_in, field_at, index_at, selector_at, variable_at, bracketed_at, choice_at, named_at, after_name_at, listed_rest_at, first_value_at, first_operand_at, leading_at, item_at, component_value_at, component_at, more_component_at, items_at, after_first_name_at, inside_at, expr_by, operand_by, braces_by, inside, expr_at, operand_at, braces_at, var_at}
use Rattle.og_parse_expr.specs.Grammar.{BeginsNegative, operation, IsProductOperator, times, divided, modulo, remainder, IsSumOperator, plus, minus, IsRelation, equal, not_equal, less, less_or_equal, greater, greater_or_equal, IsAndOperator, and_plain, and_then, IsOrOperator, or_plain, or_else, xor}
use Rattle.og_parse_expr.specs.Grammar.{IsField, IsExpr, choice_value, no_choice_value, IsOr, or_alone, or_more, IsAnd, and_alone, and_more, IsRel, rel_alone, rel_more, IsSum, sum_alone, sum_more, IsProd, prod_alone, prod_more, IsUnary, negative, denied, number, true_, false_, var, bracketed, braces, IsVar, selected, IsSelectors, no_selector, more_selectors, IsSelector, dot, exclamation, index, IsInside, no_items, some_items, some_components, IsItem, item, AreMoreItems, no_more_items, more_items, IsComponent, component, AreMoreComponents, no_more_components, more_components}
use Rattle.og_parse_expr.proofs.Rules.{HasExpressions}

abbrev related : RelationOperator → Place → Related
related r place = record { relation = r; place = place }

module _ (table : List Symbol) (has : HasExpressions table) where
  -- the rule of a part by its place
  by_rule : {X : Type 0} (q : ℕ) → nat_lt q 35 ≡ true → (s : Symbol) → IsPart (suc q) s → (c : ℕ) {way : List Symbol} → slice_get (rules_of (suc q) EXPRESSION) c ≡ Some way
      → {a : ℕ → Take X} (take : ℕ → Take X) {x : X} {ts us : List Spanned} → Writes table way a x ts us → ((n : ℕ) (cs : List ℕ) → take n (left (c ∷ cs) ts) ≡ a n (left cs ts)) → Writes table (s ∷ []) take x ts us
  by_rule q lt s is c {way = way} e take w so = writes_part (suc q) s is c way (ap (λ (z : List (List Symbol)). slice_get z c) (has.rules q lt) ∙ e) take w so

  -- the same, further inside
  deeper_rule : {X : Type 0} (q : ℕ) → nat_lt q 35 ≡ true → (s : Symbol) → IsPart (suc q) s → (c : ℕ) {way : List Symbol} → slice_get (rules_of (suc q) EXPRESSION) c ≡ Some way
      → {a : ℕ → Take X} (take : ℕ → Take X) {x : X} {ts us : List Spanned} → Writes table way a x ts us → ((n : ℕ) (cs : List ℕ) → take (suc n) (left (c ∷ cs) ts) ≡ a n (left cs ts)) → Writes table (s ∷ []) take x ts us
  deeper_rule q lt s is c {way = way} e take w so = writes_deeper (suc q) s is c way (ap (λ (z : List (List Symbol)). slice_get z c) (has.rules q lt) ∙ e) take w so

  -- ---- operators

  product_operators : {sign : Operation} {ts us : List Spanned} → IsProductOperator sign ts us → Writes table (Part 5 ∷ []) (λ n. product_operator_at) sign ts us
  unfolding product_operator_at
  product_operators (times s) = by_rule 4 refl (Part 5) refl 0 refl (λ n. product_operator_at) (writes_as (operation op.Multiply) (writes_mark mark.Asterisk _ _ _ s)) (λ n cs. refl)
  product_operators (divided s) = by_rule 4 refl (Part 5) refl 1 refl (λ n. product_operator_at) (writes_as (operation op.Divide) (writes_mark mark.Solidus _ _ _ s)) (λ n cs. refl)
  product_operators (modulo s) = by_rule 4 refl (Part 5) refl 2 refl (λ n. product_operator_at) (writes_as (operation op.Mod) (writes_word word.Mod _ _ _ s)) (λ n cs. refl)
  product_operators (remainder s) = by_rule 4 refl (Part 5) refl 3 refl (λ n. product_operator_at) (writes_as (operation op.Rem) (writes_word word.Rem _ _ _ s)) (λ n cs. refl)

  sum_operators : {sign : Operation} {ts us : List Spanned} → IsSumOperator sign ts us → Writes table (Part 7 ∷ []) (λ n. sum_operator_at) sign ts us
  unfolding sum_operator_at
  sum_operators (plus s) = by_rule 6 refl (Part 7) refl 0 refl (λ n. sum_operator_at) (writes_as (operation op.Add) (writes_mark mark.Plus _ _ _ s)) (λ n cs. refl)
  sum_operators (minus s) = by_rule 6 refl (Part 7) refl 1 refl (λ n. sum_operator_at) (writes_as (operation op.Subtract) (writes_mark mark.Minus _ _ _ s)) (λ n cs. refl)

  pub relations : {r : RelationOperator} {place : Place} {ts us : List Spanned} → IsRelation r place ts us → Writes table (Part 10 ∷ []) (λ n. relation_sign_at) (related r place) ts us
  unfolding relation_sign_at
  relations (equal s) = by_rule 9 refl (Part 10) refl 0 refl (λ n. relation_sign_at) (writes_as (related rel.Equal) (writes_mark mark.Equal _ _ _ s)) (λ n cs. refl)
  relations (not_equal s) = by_rule 9 refl (Part 10) refl 1 refl (λ n. relation_sign_at) (writes_as (related rel.NotEqual) (writes_mark mark.NotEqual _ _ _ s)) (λ n cs. refl)
  relations (less s) = by_rule 9 refl (Part 10) refl 2 refl (λ n. relation_sign_at) (writes_as (related rel.Less) (writes_mark mark.Less _ _ _ s)) (λ n cs. refl)
  relations (less_or_equal s) = by_rule 9 refl (Part 10) refl 3 refl (λ n. relation_sign_at) (writes_as (related rel.LessOrEqual) (writes_mark mark.LessOrEqual _ _ _ s)) (λ n cs. refl)
  relations (greater s) = by_rule 9 refl (Part 10) refl 4 refl (λ n. relation_sign_at) (writes_as (related rel.Greater) (writes_mark mark.Greater _ _ _ s)) (λ n cs. refl)
  relations (greater_or_equal s) = by_rule 9 refl (Part 10) refl 5 refl (λ n. relation_sign_at) (writes_as (related rel.GreaterOrEqual) (writes_mark mark.GreaterOrEqual _ _ _ s)) (λ n cs. refl)

  relation_operators : {r : RelationOperator} {place : Place} {ts us : List Spanned} → IsRelation r place ts us → Writes table (Part 10 ∷ []) (λ n. relation_operator_at) (operation (op.Relation r) place) ts us
  unfolding relation_operator_at
  relation_operators s = writes_as (λ r. operation (op.Relation r.relation) r.place) (relations s)

  -- the word behind an operator
  word_behind : (q : ℕ) (w : Keyword) → nat_lt q 35 ≡ true → slice_get (rules_of (suc q) EXPRESSION) 0 ≡ Some (Token (kind_of_keyword w) Keeps ∷ []) → (without o : Operator) (place : Place) {ts us : List Spanned} → Passes w ts us
      → Writes table (Maybe (suc q) ∷ []) (λ n. option_take (λ rest. (operation o place, behind (after rest))) (operation without place)) (operation o place) ts us
  word_behind q w lt rule without o place s =
      writes_some (operation without place)
      (by_rule q lt (Part (suc q)) refl 0 rule (λ n rest. (operation o place, behind (after rest))) (writes_as (λ p. operation o place) (writes_word w s.0 _ _ s.1)) (λ n cs. refl))

  and_operators : {sign : Operation} {ts us : List Spanned} → IsAndOperator sign ts us → Writes table (Part 13 ∷ []) (λ n. and_operator_at) sign ts us
  unfolding and_operator_at
  and_operators (and_plain {place = p} s) =
      by_rule 12 refl (Part 13) refl 0 refl (λ n. and_operator_at)
      (writes_as (λ x. x.1) (writes_then (λ n place. with_word op.And op.AndThen place) (writes_word word.And _ _ _ s) (writes_none (λ n rest. (operation op.AndThen p, behind (after rest))) (operation op.And p) _ _ refl))) (λ n cs. refl)
  and_operators (and_then {place = p} s t) =
      by_rule 12 refl (Part 13) refl 0 refl (λ n. and_operator_at)
      (writes_as (λ x. x.1) (writes_then (λ n place. with_word op.And op.AndThen place) (writes_word word.And _ _ _ s) (word_behind 13 word.Then refl refl op.And op.AndThen p t))) (λ n cs. refl)

  or_operators : {sign : Operation} {ts us : List Spanned} → IsOrOperator sign ts us → Writes table (Part 17 ∷ []) (λ n. or_operator_at) sign ts us
  unfolding or_operator_at
  or_operators (or_plain {place = p} s) =
      by_rule 16 refl (Part 17) refl 0 refl (λ n. or_operator_at)
      (writes_as (λ x. x.1) (writes_then (λ n place. with_word op.Or op.OrElse place) (writes_word word.Or _ _ _ s) (writes_none (λ n rest. (operation op.OrElse p, behind (after rest))) (operation op.Or p) _ _ refl))) (λ n cs. refl)
  or_operators (or_else {place = p} s t) =
      by_rule 16 refl (Part 17) refl 0 refl (λ n. or_operator_at)
      (writes_as (λ x. x.1) (writes_then (λ n place. with_word op.Or op.OrElse place) (writes_word word.Or _ _ _ s) (word_behind 17 word.Else refl refl op.Or op.OrElse p t))) (λ n cs. refl)
  or_operators (xor s) = by_rule 16 refl (Part 17) refl 1 refl (λ n. or_operator_at) (writes_as (operation op.Xor) (writes_word word.Xor _ _ _ s)) (λ n cs. refl)

  -- ---- fields and selectors

  keyword_rule : (w : Keyword) → slice_get (rules_of 25 EXPRESSION) (suc (tag_of keywords.the_type w)) ≡ Some (Token (kind_of_keyword w) Keeps ∷ [])
  keyword_rule word.Aggregation = refl
  keyword_rule _ = refl

  fields : (f : FieldTree) (ts us : List Spanned) → IsField f ts us → Writes table (Part 25 ∷ []) (λ n. field_at) f ts us
  unfolding field_at
  fields (field.Name name) ts us s =
      by_rule 24 refl (Part 25) refl 0 refl (λ n. field_at)
      (writes_token 0 field_in (field.Name name) (token.Name name.word) name.place ts us s (ap (λ (b : Bool). cond b 0 255) name.spelling)
      (λ t cs is at.
      (ap (λ (z : TheToken). field_as (left cs (t ∷ us)) z) is
      ∙ ap field.Name (ap (λ (z : TheToken). named t.place (word_by z)) is ∙ ap (λ (z : Place). named z name.word) at ∙ sym (named_so name.place name.word name.spelling)))))
      (λ n cs. refl)
  fields (field.Keyword place w) ts us s =
      by_rule 24 refl (Part 25) refl (suc (tag_of keywords.the_type w)) (keyword_rule w) (λ n. field_at)
      (writes_token (kind_of_keyword w) field_in (field.Keyword place w) (token.Keyword w) place ts us s refl
      (λ t cs is at. ap (λ (z : TheToken). field_as (left cs (t ∷ us)) z) is ∙ ap (λ (z : Place). field.Keyword z w) at))
      (λ n cs. refl)

  -- ---- what is found of each part of an expression

  -- an expression is read of these tokens
  abbrev ExprRead : ExprTree → Text
  ExprRead e ts us = (s : Symbol) → IsPart 1 s → Writes table (s ∷ []) expr_at e ts us

  abbrev SelectorRead : SelectorTree → Text
  SelectorRead s ts us = Writes table (Part 23 ∷ []) (λ n. selector_at (inside n)) s ts us

  -- a first operand: a variable, a value that no `(` begins, or a bracket
  data FirstRead : ExprTree → List Spanned → List Spanned → Type 0 where
    by_name : (name : Name) (selectors : List SelectorTree) {ts ms us : List Spanned} → Named name ts ms → each SelectorRead selectors ms us → FirstRead (variable_expr (variable name selectors)) ts us
    by_value : {e : ExprTree} {ts us : List Spanned} → Writes table (Part 34 ∷ []) (λ n. first_value_at (inside n)) e ts us → FirstRead e ts us
    by_bracket : {e : ExprTree} {ts us : List Spanned} → Writes table (Scope 22 ∷ []) (λ n. bracketed_at (inside n)) e ts us → (place : Place) (vs : List Spanned) → Sign mark.LeftParenthesis place ts vs → FirstRead e ts us

  variables_read : (name : Name) (first later : List SelectorTree) (ts us : List Spanned) → each SelectorRead later ts us
      → Writes table (Many 23 ∷ []) (λ n. variable_at (inside n) name first) (variable name (first ++ later)) ts us
  unfolding variable_at
  variables_read name first later ts us e = writes_as (variable name) (writes_onto (writes_each SelectorRead (λ x vs ws w. w) first later ts us e))

  value_operand : {e : ExprTree} {ts us : List Spanned} → Writes table (Part 34 ∷ []) (λ n. first_value_at (inside n)) e ts us → Writes table (Part 21 ∷ []) (λ n. first_operand_at (inside n)) e ts us
  unfolding first_operand_at
  value_operand w = by_rule 20 refl (Part 21) refl 0 refl (λ n. first_operand_at (inside n)) w (λ n cs. refl)

  bracket_operand : {e : ExprTree} {ts us : List Spanned} → Writes table (Scope 22 ∷ []) (λ n. bracketed_at (inside n)) e ts us → Writes table (Part 21 ∷ []) (λ n. first_operand_at (inside n)) e ts us
  unfolding first_operand_at
  bracket_operand w = by_rule 20 refl (Part 21) refl 1 refl (λ n. first_operand_at (inside n)) w (λ n cs. refl)

  operand_read : {e : ExprTree} {ts us : List Spanned} → FirstRead e ts us → Writes table (Part 20 ∷ []) operand_at e ts us
  unfolding inside operand_by
  operand_read (by_name name selectors s e) =
      deeper_rule 19 refl (Part 20) refl 0 refl operand_at
      (writes_as (λ x. variable_expr x.1) (writes_then (λ n z. variable_at (inside n) z []) (writes_name name _ _ s) (variables_read name [] selectors _ _ e))) (λ n cs. refl)
  operand_read (by_value w) = deeper_rule 19 refl (Part 20) refl 1 refl operand_at (value_operand w) (λ n cs. refl)
  operand_read (by_bracket w p vs s) = deeper_rule 19 refl (Part 20) refl 1 refl operand_at (bracket_operand w) (λ n cs. refl)

  -- ---- operators of each level

  -- the operators behind one expression make the other of it
  abbrev Turns : Level → ℕ → ExprTree → ExprTree → Text
  Turns lv p x y ts us = WritesTurns table p (λ n. step_at (inside n) lv) x y ts us

  record ProdRead (e : ExprTree) (ts us : List Spanned) : Type 0 where
    u : ExprTree
    mid : List Spanned
    first : FirstRead u ts mid
    turns : Turns level.Product 4 u e mid us

  factor : {a b z : ExprTree} {sign : Operation} {ts us vs ws : List Spanned} → IsProductOperator sign ts us → FirstRead b us vs → Turns level.Product 4 (joined sign a b) z vs ws → Turns level.Product 4 a z ts ws
  unfolding step_at right_at
  factor {a = a} o b turns =
      one_turn (by_rule 3 refl (Part 4) refl 0 refl (λ n. step_at (inside n) level.Product a) (writes_as (λ x. joined x.0 a x.1) (writes_and (product_operators o) (operand_read b))) (λ n cs. refl)) turns

  product_read : {e : ExprTree} {ts us : List Spanned} → ProdRead e ts us → Writes table (Part 8 ∷ []) (λ n. product_at (inside n)) e ts us
  unfolding step_at right_at operators_at
  product_read r =
      by_rule 7 refl (Part 8) refl 0 refl (λ n. product_at (inside n))
      (writes_as (λ x. x.1) (writes_then (λ n u. operators_at (inside n) level.Product u) (operand_read r.first) (writes_onto r.turns))) (λ n cs. refl)

  record SumRead (e : ExprTree) (ts us : List Spanned) : Type 0 where
    u : ExprTree
    mid : List Spanned
    first : ProdRead u ts mid
    turns : Turns level.Sum 6 u e mid us

  term : {a b z : ExprTree} {sign : Operation} {ts us vs ws : List Spanned} → IsSumOperator sign ts us → ProdRead b us vs → Turns level.Sum 6 (joined sign a b) z vs ws → Turns level.Sum 6 a z ts ws
  unfolding step_at right_at operators_at
  term {a = a} o b turns =
      one_turn (by_rule 5 refl (Part 6) refl 0 refl (λ n. step_at (inside n) level.Sum a) (writes_as (λ x. joined x.0 a x.1) (writes_and (sum_operators o) (product_read b))) (λ n cs. refl)) turns

  sum_read : {e : ExprTree} {ts us : List Spanned} → SumRead e ts us → Writes table (Part 11 ∷ []) (λ n. sum_at (inside n)) e ts us
  unfolding step_at right_at operators_at
  sum_read r =
      by_rule 10 refl (Part 11) refl 0 refl (λ n. sum_at (inside n))
      (writes_as (λ x. x.1) (writes_then (λ n u. operators_at (inside n) level.Sum u) (product_read r.first) (writes_onto r.turns))) (λ n cs. refl)

  record RelRead (e : ExprTree) (ts us : List Spanned) : Type 0 where
    u : ExprTree
    mid : List Spanned
    first : SumRead u ts mid
    turn : Writes table (Maybe 9 ∷ []) (λ n. operators_at (inside n) level.Relation u) e mid us

  comparison : (a : ExprTree) {b : ExprTree} {r : RelationOperator} {place : Place} {ts us vs : List Spanned} → IsRelation r place ts us → SumRead b us vs
      → Writes table (Maybe 9 ∷ []) (λ n. operators_at (inside n) level.Relation a) (joined (operation (op.Relation r) place) a b) ts vs
  unfolding step_at right_at operators_at
  comparison a o b =
      writes_some a (by_rule 8 refl (Part 9) refl 0 refl (λ n. step_at (inside n) level.Relation a) (writes_as (λ x. joined x.0 a x.1) (writes_and (relation_operators o) (sum_read b))) (λ n cs. refl))

  no_comparison : (a : ExprTree) (ts us : List Spanned) → ts ≡ us → Writes table (Maybe 9 ∷ []) (λ n. operators_at (inside n) level.Relation a) a ts us
  unfolding operators_at
  no_comparison a ts us e = writes_none (λ n. step_at (inside n) level.Relation a) a ts us e

  relation_read : {e : ExprTree} {ts us : List Spanned} → RelRead e ts us → Writes table (Part 15 ∷ []) (λ n. relation_at (inside n)) e ts us
  unfolding step_at right_at operators_at
  relation_read r =
      by_rule 14 refl (Part 15) refl 0 refl (λ n. relation_at (inside n))
      (writes_as (λ x. x.1) (writes_then (λ n u. operators_at (inside n) level.Relation u) (sum_read r.first) r.turn)) (λ n cs. refl)

  record AndRead (e : ExprTree) (ts us : List Spanned) : Type 0 where
    u : ExprTree
    mid : List Spanned
    first : RelRead u ts mid
    turns : Turns level.Conjunction 12 u e mid us

  conjunct : {a b z : ExprTree} {sign : Operation} {ts us vs ws : List Spanned} → IsAndOperator sign ts us → RelRead b us vs → Turns level.Conjunction 12 (joined sign a b) z vs ws → Turns level.Conjunction 12 a z ts ws
  unfolding step_at right_at operators_at
  conjunct {a = a} o b turns =
      one_turn (by_rule 11 refl (Part 12) refl 0 refl (λ n. step_at (inside n) level.Conjunction a) (writes_as (λ x. joined x.0 a x.1) (writes_and (and_operators o) (relation_read b))) (λ n cs. refl)) turns

  conjunction_read : {e : ExprTree} {ts us : List Spanned} → AndRead e ts us → Writes table (Part 19 ∷ []) (λ n. conjunction_at (inside n)) e ts us
  unfolding step_at right_at operators_at
  conjunction_read r =
      by_rule 18 refl (Part 19) refl 0 refl (λ n. conjunction_at (inside n))
      (writes_as (λ x. x.1) (writes_then (λ n u. operators_at (inside n) level.Conjunction u) (relation_read r.first) (writes_onto r.turns))) (λ n cs. refl)

  record OrRead (e : ExprTree) (ts us : List Spanned) : Type 0 where
    u : ExprTree
    mid : List Spanned
    first : AndRead u ts mid
    turns : Turns level.Disjunction 16 u e mid us

  disjunct : {a b z : ExprTree} {sign : Operation} {ts us vs ws : List Spanned} → IsOrOperator sign ts us → AndRead b us vs → Turns level.Disjunction 16 (joined sign a b) z vs ws → Turns level.Disjunction 16 a z ts ws
  unfolding step_at right_at operators_at
  disjunct {a = a} o b turns =
      one_turn (by_rule 15 refl (Part 16) refl 0 refl (λ n. step_at (inside n) level.Disjunction a) (writes_as (λ x. joined x.0 a x.1) (writes_and (or_operators o) (conjunction_read b))) (λ n cs. refl)) turns

  -- ---- the operators of all levels behind a first operand

  abbrev TailsRead : ExprTree → ExprTree → Text
  TailsRead u e ts us = Writes table (Part 3 ∷ []) (λ n. tails_at (inside n) u) e ts us

  tails_read : {e : ExprTree} {ts us : List Spanned} (r : OrRead e ts us) → TailsRead r.first.first.first.first.u e r.first.first.first.first.mid us
  unfolding tails_at operators_at step_at right_at
  tails_read r =
      by_rule 2 refl (Part 3) refl 0 refl (λ n. tails_at (inside n) r.first.first.first.first.u)
      (writes_as (λ x. x.1.1.1.1)
      (writes_then (λ n a. then_take (operators_at (inside n) level.Sum a) (λ b. then_take (operators_at (inside n) level.Relation b) (λ c. then_take (operators_at (inside n) level.Conjunction c) (λ d. operators_at (inside n) level.Disjunction d))))
      (writes_onto r.first.first.first.first.turns)
      (writes_then (λ n b. then_take (operators_at (inside n) level.Relation b) (λ c. then_take (operators_at (inside n) level.Conjunction c) (λ d. operators_at (inside n) level.Disjunction d)))
      (writes_onto r.first.first.first.turns)
      (writes_then (λ n c. then_take (operators_at (inside n) level.Conjunction c) (λ d. operators_at (inside n) level.Disjunction d))
      r.first.first.turn
      (writes_then (λ n d. operators_at (inside n) level.Disjunction d) (writes_onto r.first.turns) (writes_onto r.turns)))))) (λ n cs. refl)

  -- ---- expressions, items and components

  data ExprView : ExprTree → List Spanned → List Spanned → Type 0 where
    a_choice : {name : Name} {value : ExprTree} {ts ms ks us : List Spanned} → Named name ts ms → Passed mark.Colon ms ks → ExprRead value ks us → ExprView (plain name.place (Choice name value)) ts us
    an_or : {u e : ExprTree} {ts ms us : List Spanned} → FirstRead u ts ms → TailsRead u e ms us → ExprView e ts us

  choice_read : {name : Name} {value : ExprTree} {ms ks us : List Spanned} → Passed mark.Colon ms ks → ExprRead value ks us
      → Writes table (Token 6 (Rises 1) ∷ Part 1 ∷ []) (λ n. choice_at (inside n) name) (plain name.place (Choice name value)) ms us
  unfolding choice_at
  choice_read {name = name} c value = writes_as (λ x. plain name.place (Choice name x.1)) (writes_and (writes_mark mark.Colon c.0 _ _ c.1) (value (Part 1) refl))

  named_read : (name : Name) (first later : List SelectorTree) {e : ExprTree} {ts ms us : List Spanned} → each SelectorRead later ts ms → TailsRead (variable_expr (variable name (first ++ later))) e ms us
      → Writes table (Many 23 ∷ Part 3 ∷ []) (λ n. named_at (inside n) name first) e ts us
  unfolding named_at
  named_read name first later e tails = writes_as (λ x. x.1) (writes_then (λ n v. tails_at (inside n) (variable_expr v)) (variables_read name first later _ _ e) tails)

  leading_read : {u e : ExprTree} {ts ms us : List Spanned} → Writes table (Part 21 ∷ []) (λ n. first_operand_at (inside n)) u ts ms → TailsRead u e ms us
      → Writes table (Part 21 ∷ Part 3 ∷ []) (λ n. leading_at (inside n)) e ts us
  unfolding leading_at
  leading_read first tails = writes_as (λ x. x.1) (writes_then (λ n u. tails_at (inside n) u) first tails)

  after_choice : {name : Name} {value : ExprTree} {ms ks us : List Spanned} → Passed mark.Colon ms ks → ExprRead value ks us → Writes table (Part 2 ∷ []) (λ n. after_name_at (inside n) name) (plain name.place (Choice name value)) ms us
  unfolding after_name_at
  after_choice {name = name} c value = by_rule 1 refl (Part 2) refl 0 refl (λ n. after_name_at (inside n) name) (choice_read c value) (λ n cs. refl)

  after_variable : (name : Name) (selectors : List SelectorTree) {e : ExprTree} {ts ms us : List Spanned} → each SelectorRead selectors ts ms → TailsRead (variable_expr (variable name selectors)) e ms us
      → Writes table (Part 2 ∷ []) (λ n. after_name_at (inside n) name) e ts us
  unfolding after_name_at
  after_variable name selectors e tails = by_rule 1 refl (Part 2) refl 1 refl (λ n. after_name_at (inside n) name) (named_read name [] selectors e tails) (λ n cs. refl)

  expr_read : {e : ExprTree} {ts us : List Spanned} → ExprView e ts us → ExprRead e ts us
  unfolding inside expr_by
  expr_read (a_choice {name = name} s c v) q is =
      deeper_rule 0 refl q is 0 refl expr_at (writes_as (λ x. x.1) (writes_then (λ n z. after_name_at (inside n) z) (writes_name name _ _ s) (after_choice c v))) (λ n cs. refl)
  expr_read (an_or (by_name name selectors s e) tails) q is =
      deeper_rule 0 refl q is 0 refl expr_at (writes_as (λ x. x.1) (writes_then (λ n z. after_name_at (inside n) z) (writes_name name _ _ s) (after_variable name selectors e tails))) (λ n cs. refl)
  expr_read (an_or (by_value w) tails) q is = deeper_rule 0 refl q is 1 refl expr_at (leading_read (value_operand w) tails) (λ n cs. refl)
  expr_read (an_or (by_bracket w p vs s) tails) q is = deeper_rule 0 refl q is 1 refl expr_at (leading_read (bracket_operand w) tails) (λ n cs. refl)

  data ItemView : ExprTree → List Spanned → List Spanned → Type 0 where
    a_listed : (name : Name) {e : ExprTree} {ts ms us : List Spanned} → Named name ts ms → ((s : Symbol) → IsPart 29 s → Writes table (s ∷ []) (λ n. listed_rest_at (inside n) name) e ms us) → ItemView e ts us
    a_leading : {e : ExprTree} {ts us : List Spanned} → Writes table (Part 21 ∷ Part 3 ∷ []) (λ n. leading_at (inside n)) e ts us → ItemView e ts us

  -- a `-` behind a name begins a negative component
  not_minus : (name : Name) (ts ms : List Spanned) → Named name ts ms → (BeginsNegative ts → ⊥) → IsNotFirst 15 (kinds_of ms)
  not_minus name ts [] s neg = tt
  not_minus name ts (t ∷ ms) s neg = λ e. neg (name, t.place, t ∷ ms, ms, s, record { first = t; parts = refl; is = mark_is mark.Minus t.token e; at = refl })

  item_view : {e : ExprTree} {ts us : List Spanned} → ExprView e ts us → (BeginsNegative ts → ⊥) → ItemView e ts us
  unfolding listed_rest_at
  item_view (a_choice {name = name} s c v) neg = a_listed name s (λ q is. by_rule 28 refl q is 0 refl (λ n. listed_rest_at (inside n) name) (choice_read c v) (λ n cs. refl))
  item_view {e = x} {ts = ts} {us = us} (an_or (by_name name [] {ms = ms} s e) tails) neg = a_listed name s (λ q is.
      by_rule 28 refl q is 2 refl (λ n. listed_rest_at (inside n) name)
      (writes_not 15 (not_minus name ts ms s neg) (subst (λ (z : List Spanned). TailsRead (variable_expr (variable name [])) x z us) (sym e) tails)) (λ n cs. refl))
  item_view (an_or (by_name name (x ∷ xs) s e) tails) neg = a_listed name s (λ q is.
      by_rule 28 refl q is 1 refl (λ n. listed_rest_at (inside n) name)
      (writes_as (λ z. z.1) (writes_then (λ n z. named_at (inside n) name (z ∷ [])) e.1 (named_read name (x ∷ []) xs e.2 tails))) (λ n cs. refl))
  item_view (an_or (by_value w) tails) neg = a_leading (leading_read (value_operand w) tails)
  item_view (an_or (by_bracket w p vs s) tails) neg = a_leading (leading_read (bracket_operand w) tails)

  item_read : {e : ExprTree} {ts us : List Spanned} → ItemView e ts us → Writes table (Scope 32 ∷ []) (λ n. item_at (inside n)) e ts us
  unfolding item_at
  item_read (a_listed name s w) =
      by_rule 31 refl (Scope 32) refl 0 refl (λ n. item_at (inside n)) (writes_as (λ x. x.1) (writes_then (λ n z. listed_rest_at (inside n) z) (writes_name name _ _ s) (w (Part 29) refl))) (λ n cs. refl)
  item_read (a_leading w) = by_rule 31 refl (Scope 32) refl 1 refl (λ n. item_at (inside n)) w (λ n cs. refl)

  component_value_read : {e : ExprTree} {ts us : List Spanned} → ExprView e ts us → IsNotBefore (token.Mark mark.LeftParenthesis) ts → Writes table (Scope 33 ∷ []) (λ n. component_value_at (inside n)) e ts us
  unfolding component_value_at
  component_value_read (a_choice {name = name} s c v) apart =
      by_rule 32 refl (Scope 33) refl 0 refl (λ n. component_value_at (inside n)) (writes_as (λ x. x.1) (writes_then (λ n z. after_name_at (inside n) z) (writes_name name _ _ s) (after_choice c v))) (λ n cs. refl)
  component_value_read (an_or (by_name name selectors s e) tails) apart =
      by_rule 32 refl (Scope 33) refl 0 refl (λ n. component_value_at (inside n))
      (writes_as (λ x. x.1) (writes_then (λ n z. after_name_at (inside n) z) (writes_name name _ _ s) (after_variable name selectors e tails))) (λ n cs. refl)
  component_value_read (an_or (by_value w) tails) apart =
      by_rule 32 refl (Scope 33) refl 1 refl (λ n. component_value_at (inside n)) (writes_as (λ x. x.1) (writes_then (λ n u. tails_at (inside n) u) w tails)) (λ n cs. refl)
  component_value_read (an_or (by_bracket w p vs s) tails) apart = absurd (in_front _ p _ vs s apart)

  data ComponentView : ComponentTree → List Spanned → List Spanned → Type 0 where
    a_component : {name : Name} {value : ExprTree} {ts ms us : List Spanned} → Named name ts ms → Writes table (Scope 33 ∷ []) (λ n. component_value_at (inside n)) value ms us
        → ComponentView (record { name = name; value = value }) ts us

  component_read : {name : Name} {value : ExprTree} {ms us : List Spanned} → Writes table (Scope 33 ∷ []) (λ n. component_value_at (inside n)) value ms us
      → Writes table (Scope 33 ∷ []) (λ n. component_at (inside n) name) (record { name = name; value = value }) ms us
  unfolding component_at
  component_read {name = name} w = writes_as (λ e. record { name = name; value = e }) w

  more_component_read : {c : ComponentTree} {ts ks us : List Spanned} → Passed mark.Comma ts ks → ComponentView c ks us → Writes table (Part 35 ∷ []) (λ n. more_component_at (inside n)) c ts us
  unfolding more_component_at
  more_component_read c (a_component {name = name} s w) =
      by_rule 34 refl (Part 35) refl 0 refl (λ n. more_component_at (inside n))
      (writes_as (λ x. x.1.1) (writes_and (writes_mark mark.Comma c.0 _ _ c.1) (writes_then (λ n z. component_at (inside n) z) (writes_name name _ _ s) (component_read w)))) (λ n cs. refl)

  more_item_read : {e : ExprTree} {ts ks us : List Spanned} → Passed mark.Comma ts ks → ItemView e ks us → Writes table (Part 31 ∷ []) (λ n. next (item_at (inside n))) e ts us
  more_item_read c v =
      by_rule 30 refl (Part 31) refl 0 refl (λ n. next (item_at (inside n))) (writes_as (λ x. x.1) (writes_and (writes_mark mark.Comma c.0 _ _ c.1) (item_read v))) (λ n cs. refl)

  abbrev ItemMore : ExprTree → Text
  ItemMore e ts us = Writes table (Part 31 ∷ []) (λ n. next (item_at (inside n))) e ts us

  abbrev ComponentMore : ComponentTree → Text
  ComponentMore c ts us = Writes table (Part 35 ∷ []) (λ n. more_component_at (inside n)) c ts us

  items_read : (e : ExprTree) (es : List ExprTree) {ts us : List Spanned} → each ItemMore es ts us → Writes table (Many 31 ∷ []) (λ n. items_at (inside n) e) (Sequence (e ∷ es)) ts us
  unfolding items_at
  items_read e es more = writes_as Sequence (writes_onto (writes_each ItemMore (λ x vs ws w. w) (e ∷ []) es _ _ more))

  no_items_read : (ts us : List Spanned) → ts ≡ us → Writes table (Part 27 ∷ []) (λ n. inside_at (inside n)) (Sequence []) ts us
  unfolding inside_at
  no_items_read ts us e = by_rule 26 refl (Part 27) refl 2 refl (λ n. inside_at (inside n)) (writes_nothing (Sequence []) ts us e) (λ n cs. refl)

  some_items_read : {e : ExprTree} (es : List ExprTree) {ts ms us : List Spanned} → ItemView e ts ms → each ItemMore es ms us → Writes table (Part 27 ∷ []) (λ n. inside_at (inside n)) (Sequence (e ∷ es)) ts us
  unfolding inside_at after_first_name_at
  some_items_read {e = e} es (a_listed name s w) more =
      by_rule 26 refl (Part 27) refl 0 refl (λ n. inside_at (inside n))
      (writes_as (λ x. x.1)
      (writes_then (λ n z. after_first_name_at (inside n) z) (writes_name name _ _ s)
      (by_rule 27 refl (Part 28) refl 1 refl (λ n. after_first_name_at (inside n) name)
      (writes_as (λ x. x.1) (writes_then (λ n x. items_at (inside n) x) (w (Scope 29) refl) (items_read e es more))) (λ n cs. refl)))) (λ n cs. refl)
  some_items_read {e = e} es (a_leading w) more =
      by_rule 26 refl (Part 27) refl 1 refl (λ n. inside_at (inside n))
      (writes_as (λ x. x.1)
      (writes_then (λ n x. items_at (inside n) x) (by_rule 29 refl (Scope 30) refl 0 refl (λ n rest. leading_at (inside n) (after rest)) w (λ n cs. refl)) (items_read e es more))) (λ n cs. refl)

  some_components_read : {c : ComponentTree} (cs : List ComponentTree) {ts ms us : List Spanned} → ComponentView c ts ms → each ComponentMore cs ms us
      → Writes table (Part 27 ∷ []) (λ n. inside_at (inside n)) (Components (c ∷ cs)) ts us
  unfolding inside_at after_first_name_at
  some_components_read cs (a_component {name = name} {value = value} s w) more =
      by_rule 26 refl (Part 27) refl 0 refl (λ n. inside_at (inside n))
      (writes_as (λ x. x.1)
      (writes_then (λ n z. after_first_name_at (inside n) z) (writes_name name _ _ s)
      (by_rule 27 refl (Part 28) refl 0 refl (λ n. after_first_name_at (inside n) name)
      (writes_as (λ x. Components x.1)
      (writes_then (λ n c. more_of (more_component_at (inside n)) (c ∷ [])) (component_read w)
      (writes_onto (writes_each ComponentMore (λ x vs ws w. w) (record { name = name; value = value } ∷ []) cs _ _ more)))) (λ n ds. refl)))) (λ n ds. refl)

  -- ---- operands and selectors

  negative_read : {e : ExprTree} {place : Place} {ts ms us : List Spanned} → Sign mark.Minus place ts ms → FirstRead e ms us → FirstRead (plain place (Minus e)) ts us
  unfolding first_value_at
  negative_read s f = by_value (by_rule 33 refl (Part 34) refl 0 refl (λ n. first_value_at (inside n)) (writes_as (λ x. plain x.0 (Minus x.1)) (writes_and (writes_mark mark.Minus _ _ _ s) (operand_read f))) (λ n cs. refl))

  denied_read : {e : ExprTree} {place : Place} {ts ms us : List Spanned} → Reserved word.Not place ts ms → FirstRead e ms us → FirstRead (plain place (Not e)) ts us
  unfolding first_value_at
  denied_read s f = by_value (by_rule 33 refl (Part 34) refl 1 refl (λ n. first_value_at (inside n)) (writes_as (λ x. plain x.0 (Not x.1)) (writes_and (writes_word word.Not _ _ _ s) (operand_read f))) (λ n cs. refl))

  number_read : {m : ℕ} {place : Place} {ts us : List Spanned} → Numeral m place ts us → FirstRead (plain place (Number m)) ts us
  unfolding first_value_at
  number_read s = by_value (by_rule 33 refl (Part 34) refl 2 refl (λ n. first_value_at (inside n)) (writes_as (λ x. plain x.1 (Number x.0)) (writes_number _ _ _ _ s)) (λ n cs. refl))

  true_read : {place : Place} {ts us : List Spanned} → Reserved word.True place ts us → FirstRead (plain place (Truth true)) ts us
  unfolding first_value_at
  true_read s = by_value (by_rule 33 refl (Part 34) refl 3 refl (λ n. first_value_at (inside n)) (writes_as (λ p. plain p (Truth true)) (writes_word word.True _ _ _ s)) (λ n cs. refl))

  false_read : {place : Place} {ts us : List Spanned} → Reserved word.False place ts us → FirstRead (plain place (Truth false)) ts us
  unfolding first_value_at
  false_read s = by_value (by_rule 33 refl (Part 34) refl 4 refl (λ n. first_value_at (inside n)) (writes_as (λ p. plain p (Truth false)) (writes_word word.False _ _ _ s)) (λ n cs. refl))

  braces_read : {node : ExprNode} {place : Place} {ts ms ks us : List Spanned} → Sign mark.LeftBrace place ts ms → Writes table (Part 27 ∷ []) (λ n. inside_at (inside n)) node ms ks → Passed mark.RightBrace ks us
      → FirstRead (plain place node) ts us
  unfolding first_value_at inside braces_by
  braces_read s w c =
      by_value (by_rule 33 refl (Part 34) refl 5 refl (λ n. first_value_at (inside n))
      (deeper_rule 25 refl (Scope 26) refl 0 refl braces_at
      (writes_as (λ x. plain x.0 x.1.0) (writes_and (writes_mark mark.LeftBrace _ _ _ s) (writes_and w (writes_mark mark.RightBrace c.0 _ _ c.1)))) (λ n cs. refl)) (λ n cs. refl))

  bracket_read : {e : ExprTree} {place : Place} {ts ms ks us : List Spanned} → Sign mark.LeftParenthesis place ts ms → ExprRead e ms ks → Passed mark.RightParenthesis ks us → FirstRead (plain place (Bracketed e)) ts us
  unfolding bracketed_at
  bracket_read {place = place} {ms = ms} s e c =
      by_bracket (by_rule 21 refl (Scope 22) refl 0 refl (λ n. bracketed_at (inside n))
      (writes_as (λ x. plain x.0 (Bracketed x.1.0)) (writes_and (writes_mark mark.LeftParenthesis _ _ _ s) (writes_and (e (Scope 1) refl) (writes_mark mark.RightParenthesis c.0 _ _ c.1)))) (λ n cs. refl)) place ms s

  dot_read : {f : FieldTree} {place : Place} {ts ms us : List Spanned} → Sign mark.FullStop place ts ms → IsField f ms us → SelectorRead (record { place = place; kind = Dot f }) ts us
  unfolding selector_at
  dot_read {f = f} s i =
      by_rule 22 refl (Part 23) refl 0 refl (λ n. selector_at (inside n)) (writes_as (λ x. record { place = x.0; kind = Dot x.1 }) (writes_and (writes_mark mark.FullStop _ _ _ s) (fields f _ _ i))) (λ n cs. refl)

  exclamation_read : {f : FieldTree} {place : Place} {ts ms us : List Spanned} → Sign mark.Exclamation place ts ms → IsField f ms us → SelectorRead (record { place = place; kind = Exclamation f }) ts us
  unfolding selector_at
  exclamation_read {f = f} s i =
      by_rule 22 refl (Part 23) refl 1 refl (λ n. selector_at (inside n)) (writes_as (λ x. record { place = x.0; kind = Exclamation x.1 }) (writes_and (writes_mark mark.Exclamation _ _ _ s) (fields f _ _ i))) (λ n cs. refl)

  index_read : {e : ExprTree} {place : Place} {ts ms ks us : List Spanned} → Sign mark.LeftParenthesis place ts ms → ExprRead e ms ks → Passed mark.RightParenthesis ks us → SelectorRead (record { place = place; kind = Index e }) ts us
  unfolding selector_at index_at
  index_read s e c =
      by_rule 22 refl (Part 23) refl 2 refl (λ n. selector_at (inside n))
      (by_rule 23 refl (Part 24) refl 0 refl (λ n. index_at (inside n))
      (writes_as (λ x. record { place = x.0; kind = Index x.1.0 }) (writes_and (writes_mark mark.LeftParenthesis _ _ _ s) (writes_and (e (Scope 1) refl) (writes_mark mark.RightParenthesis c.0 _ _ c.1)))) (λ n cs. refl)) (λ n cs. refl)

  -- ---- the relations, each by the others

  data VarRead : VarTree → List Spanned → List Spanned → Type 0 where
    a_variable : (name : Name) (selectors : List SelectorTree) {ts ms us : List Spanned} → Named name ts ms → each SelectorRead selectors ms us → VarRead (variable name selectors) ts us

  named_first : {v : VarTree} {ts us : List Spanned} → VarRead v ts us → FirstRead (variable_expr v) ts us
  named_first (a_variable name selectors s e) = by_name name selectors s e

  or_view : {e : ExprTree} {ts us : List Spanned} → OrRead e ts us → ExprView e ts us
  or_view r = an_or r.first.first.first.first.first (tails_read r)

  mutual
    expr_view : {e : ExprTree} {ts us : List Spanned} → IsExpr e ts us → ExprView e ts us
    expr_view (choice_value s c e) = a_choice s c (expr_read (expr_view e))
    expr_view (no_choice_value o) = or_view (or_by o (no_turn _ _ _ refl))

    or_by : {e z : ExprTree} {ts us vs : List Spanned} → IsOr e ts us → Turns level.Disjunction 16 e z us vs → OrRead z ts vs
    or_by (or_alone a) turns = record { u = _; mid = _; first = and_by a (no_turn _ _ _ refl); turns = turns }
    or_by (or_more a o b) turns = or_by a (disjunct o (and_by b (no_turn _ _ _ refl)) turns)

    and_by : {e z : ExprTree} {ts us vs : List Spanned} → IsAnd e ts us → Turns level.Conjunction 12 e z us vs → AndRead z ts vs
    and_by (and_alone r) turns = record { u = _; mid = _; first = rel_by r; turns = turns }
    and_by (and_more a o b) turns = and_by a (conjunct o (rel_by b) turns)

    rel_by : {e : ExprTree} {ts us : List Spanned} → IsRel e ts us → RelRead e ts us
    rel_by (rel_alone s) = record { u = _; mid = _; first = sum_by s (no_turn _ _ _ refl); turn = no_comparison _ _ _ refl }
    rel_by (rel_more a r b) = record { u = _; mid = _; first = sum_by a (no_turn _ _ _ refl); turn = comparison _ r (sum_by b (no_turn _ _ _ refl)) }

    sum_by : {e z : ExprTree} {ts us vs : List Spanned} → IsSum e ts us → Turns level.Sum 6 e z us vs → SumRead z ts vs
    sum_by (sum_alone p) turns = record { u = _; mid = _; first = prod_by p (no_turn _ _ _ refl); turns = turns }
    sum_by (sum_more a o b) turns = sum_by a (term o (prod_by b (no_turn _ _ _ refl)) turns)

    prod_by : {e z : ExprTree} {ts us vs : List Spanned} → IsProd e ts us → Turns level.Product 4 e z us vs → ProdRead z ts vs
    prod_by (prod_alone u) turns = record { u = _; mid = _; first = unary_by u; turns = turns }
    prod_by (prod_more a o b) turns = prod_by a (factor o (unary_by b) turns)

    unary_by : {e : ExprTree} {ts us : List Spanned} → IsUnary e ts us → FirstRead e ts us
    unary_by (negative s u) = negative_read s (unary_by u)
    unary_by (denied s u) = denied_read s (unary_by u)
    unary_by (number s) = number_read s
    unary_by (true_ s) = true_read s
    unary_by (false_ s) = false_read s
    unary_by (var v) = named_first (var_by v)
    unary_by (bracketed s e c) = bracket_read s (expr_read (expr_view e)) c
    unary_by (braces s i c) = braces_read s (inside_by i) c

    var_by : {v : VarTree} {ts us : List Spanned} → IsVar v ts us → VarRead v ts us
    var_by (selected name selectors s e) = a_variable name selectors s (selectors_by e)

    selectors_by : {ss : List SelectorTree} {ts us : List Spanned} → IsSelectors ss ts us → each SelectorRead ss ts us
    selectors_by no_selector = refl
    selectors_by (more_selectors s e) = (_, selector_by s, selectors_by e)

    selector_by : {s : SelectorTree} {ts us : List Spanned} → IsSelector s ts us → SelectorRead s ts us
    selector_by (dot s f) = dot_read s f
    selector_by (exclamation s f) = exclamation_read s f
    selector_by (index s e c) = index_read s (expr_read (expr_view e)) c

    inside_by : {node : ExprNode} {ts us : List Spanned} → IsInside node ts us → Writes table (Part 27 ∷ []) (λ n. inside_at (inside n)) node ts us
    inside_by no_items = no_items_read _ _ refl
    inside_by (some_items i more) = some_items_read _ (item_by i) (more_items_by more)
    inside_by (some_components c more) = some_components_read _ (component_by c) (more_components_by more)

    item_by : {e : ExprTree} {ts us : List Spanned} → IsItem e ts us → ItemView e ts us
    item_by (item e neg) = item_view (expr_view e) neg

    more_items_by : {es : List ExprTree} {ts us : List Spanned} → AreMoreItems es ts us → each ItemMore es ts us
    more_items_by no_more_items = refl
    more_items_by (more_items c i more) = (_, more_item_read c (item_by i), more_items_by more)

    component_by : {c : ComponentTree} {ts us : List Spanned} → IsComponent c ts us → ComponentView c ts us
    component_by (component s e apart) = a_component s (component_value_read (expr_view e) apart)

    more_components_by : {cs : List ComponentTree} {ts us : List Spanned} → AreMoreComponents cs ts us → each ComponentMore cs ts us
    more_components_by no_more_components = refl
    more_components_by (more_components c i more) = (_, more_component_read c (component_by i), more_components_by more)

  -- each expression is read as what it is
  pub writes_expr : {e : ExprTree} {ts us : List Spanned} → IsExpr e ts us → (s : Symbol) → IsPart 1 s → Writes table (s ∷ []) expr_at e ts us
  writes_expr e = expr_read (expr_view e)

  pub writes_var : {v : VarTree} {ts us : List Spanned} → IsVar v ts us → (p : ℕ) (s : Symbol) → IsPart p s → rules_of p table ≡ (Token 0 Keeps ∷ Many 23 ∷ []) ∷ [] → Writes table (s ∷ []) var_at v ts us
  unfolding var_at
  writes_var v p s is rules = by (var_by v)
    where
      by : {v : VarTree} {ts us : List Spanned} → VarRead v ts us → Writes table (s ∷ []) var_at v ts us
      by (a_variable name selectors named e) =
          writes_part p s is 0 _ (ap (λ (z : List (List Symbol)). slice_get z 0) rules) var_at
          (writes_as (λ x. x.1) (writes_then (λ n z. variable_at (inside n) z []) (writes_name name _ _ named) (variables_read name [] selectors _ _ e))) (λ n cs. refl)
