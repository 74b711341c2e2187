-- Expressions (Z.101 clause 12), production by production: of which tokens a tree is the tree. In `IsSum e tokens rest` the tokens
-- begin with a sum whose tree is `e`, and `rest` is what stands behind it; the same holds of each other word here. Operators of one
-- level bind to the left, and relations do not bind. Of braces, an item that begins with a name followed by `-` is a component with a
-- negative value, and a component's value does not begin with `(`.
use Rattle.std.specs.Prelude.{◌≡◌, ℕ, true, false, List, [], ◌∷◌}
use Rattle.og_base.specs.declared.Place.{Place}
use Rattle.og_lexer.specs.declared.Keyword.{Keyword}
use Rattle.og_lexer.specs.declared.Keyword.TheVariants as word
use Rattle.og_lexer.specs.declared.Mark.TheVariants as mark
use Rattle.og_lexer.specs.declared.Spanned.{Spanned}
use Rattle.og_lexer.specs.declared.Token.TheVariants as token
use Rattle.og_ast.specs.declared.ground.Name.{Name}
use Rattle.og_ast.specs.declared.expression.ExprTree.{ExprTree}
use Rattle.og_ast.specs.declared.expression.ExprNode.{ExprNode, Number, Truth, Variable, Bracketed, Minus, Not, Choice, Sequence, Components}
use Rattle.og_ast.specs.declared.expression.Operator.{Operator}
use Rattle.og_ast.specs.declared.expression.Operator.TheVariants as op
use Rattle.og_ast.specs.declared.expression.RelationOperator.{RelationOperator}
use Rattle.og_ast.specs.declared.expression.RelationOperator.TheVariants as rel
use Rattle.og_ast.specs.declared.expression.ComponentTree.{ComponentTree}
use Rattle.og_ast.specs.declared.expression.VarTree.{VarTree}
use Rattle.og_ast.specs.declared.expression.SelectorTree.{SelectorTree}
use Rattle.og_ast.specs.declared.expression.SelectorKind.{Dot, Exclamation, Index}
use Rattle.og_ast.specs.declared.expression.FieldTree.{FieldTree}
use Rattle.og_ast.specs.declared.expression.FieldTree.TheVariants as field
use Rattle.og_reading.specs.Fronts.{Text, Stands, Reserved, Sign, Named, Numeral, Word, Passed, IsNotBefore}
use Rattle.og_reading.specs.Sentences.{IsText}
use Rattle.og_parse_expr.specs.declared.operator.Sign.{Sign as Operation}
use Rattle.og_parse_expr.specs.declared.table.TheConstants.{EXPRESSION}
use Rattle.og_parse_expr.specs.Reading.{plain, joined, variable, variable_expr}

-- ---- operators

abbrev pub operation : Operator → Place → Operation
operation o place = record { operator = o; place = place }

-- "*" | "/" | MOD | REM
pub data IsProductOperator : Operation → List Spanned → List Spanned → Type 0 where
  times : {place : Place} {ts rest : List Spanned} → Sign mark.Asterisk place ts rest → IsProductOperator (operation op.Multiply place) ts rest
  divided : {place : Place} {ts rest : List Spanned} → Sign mark.Solidus place ts rest → IsProductOperator (operation op.Divide place) ts rest
  modulo : {place : Place} {ts rest : List Spanned} → Reserved word.Mod place ts rest → IsProductOperator (operation op.Mod place) ts rest
  remainder : {place : Place} {ts rest : List Spanned} → Reserved word.Rem place ts rest → IsProductOperator (operation op.Rem place) ts rest

-- "+" | "-"
pub data IsSumOperator : Operation → List Spanned → List Spanned → Type 0 where
  plus : {place : Place} {ts rest : List Spanned} → Sign mark.Plus place ts rest → IsSumOperator (operation op.Add place) ts rest
  minus : {place : Place} {ts rest : List Spanned} → Sign mark.Minus place ts rest → IsSumOperator (operation op.Subtract place) ts rest

-- relop = "=" | "/=" | "<" | "<=" | ">" | ">=" .
pub data IsRelation : RelationOperator → Place → List Spanned → List Spanned → Type 0 where
  equal : {place : Place} {ts rest : List Spanned} → Sign mark.Equal place ts rest → IsRelation rel.Equal place ts rest
  not_equal : {place : Place} {ts rest : List Spanned} → Sign mark.NotEqual place ts rest → IsRelation rel.NotEqual place ts rest
  less : {place : Place} {ts rest : List Spanned} → Sign mark.Less place ts rest → IsRelation rel.Less place ts rest
  less_or_equal : {place : Place} {ts rest : List Spanned} → Sign mark.LessOrEqual place ts rest → IsRelation rel.LessOrEqual place ts rest
  greater : {place : Place} {ts rest : List Spanned} → Sign mark.Greater place ts rest → IsRelation rel.Greater place ts rest
  greater_or_equal : {place : Place} {ts rest : List Spanned} → Sign mark.GreaterOrEqual place ts rest → IsRelation rel.GreaterOrEqual place ts rest

-- AND [ THEN ]
pub data IsAndOperator : Operation → List Spanned → List Spanned → Type 0 where
  and_plain : {place : Place} {ts rest : List Spanned} → Reserved word.And place ts rest → IsAndOperator (operation op.And place) ts rest
  and_then : {place : Place} {ts us rest : List Spanned} → Reserved word.And place ts us → Word word.Then us rest → IsAndOperator (operation op.AndThen place) ts rest

-- OR [ ELSE ] | XOR
pub data IsOrOperator : Operation → List Spanned → List Spanned → Type 0 where
  or_plain : {place : Place} {ts rest : List Spanned} → Reserved word.Or place ts rest → IsOrOperator (operation op.Or place) ts rest
  or_else : {place : Place} {ts us rest : List Spanned} → Reserved word.Or place ts us → Word word.Else us rest → IsOrOperator (operation op.OrElse place) ts rest
  xor : {place : Place} {ts rest : List Spanned} → Reserved word.Xor place ts rest → IsOrOperator (operation op.Xor place) ts rest

-- ---- expressions

-- field = name | any keyword .
abbrev pub IsField : FieldTree → Text
IsField (field.Name name) = Named name
IsField (field.Keyword place word) = Reserved word place

-- a name followed by `-`
abbrev pub BeginsNegative : List Spanned → Type 0
BeginsNegative tokens = (name : Name) × (place : Place) × (middle rest : List Spanned) × Named name tokens middle × Sign mark.Minus place middle rest

mutual
  -- expr = name ":" expr | or .
  pub data IsExpr : ExprTree → List Spanned → List Spanned → Type 0 where
    choice_value : {name : Name} {e : ExprTree} {ts us vs rest : List Spanned} → Named name ts us → Passed mark.Colon us vs → IsExpr e vs rest
        → IsExpr (plain name.place (Choice name e)) ts rest
    no_choice_value : {e : ExprTree} {ts rest : List Spanned} → IsOr e ts rest → IsExpr e ts rest

  -- or = and { ( OR [ ELSE ] | XOR ) and } .
  pub data IsOr : ExprTree → List Spanned → List Spanned → Type 0 where
    or_alone : {e : ExprTree} {ts rest : List Spanned} → IsAnd e ts rest → IsOr e ts rest
    or_more : {a b : ExprTree} {sign : Operation} {ts us vs rest : List Spanned} → IsOr a ts us → IsOrOperator sign us vs → IsAnd b vs rest → IsOr (joined sign a b) ts rest

  -- and = rel { AND [ THEN ] rel } .
  pub data IsAnd : ExprTree → List Spanned → List Spanned → Type 0 where
    and_alone : {e : ExprTree} {ts rest : List Spanned} → IsRel e ts rest → IsAnd e ts rest
    and_more : {a b : ExprTree} {sign : Operation} {ts us vs rest : List Spanned} → IsAnd a ts us → IsAndOperator sign us vs → IsRel b vs rest → IsAnd (joined sign a b) ts rest

  -- rel = sum [ relop sum ] .
  pub data IsRel : ExprTree → List Spanned → List Spanned → Type 0 where
    rel_alone : {e : ExprTree} {ts rest : List Spanned} → IsSum e ts rest → IsRel e ts rest
    rel_more : {a b : ExprTree} {relation : RelationOperator} {place : Place} {ts us vs rest : List Spanned} → IsSum a ts us → IsRelation relation place us vs → IsSum b vs rest
        → IsRel (joined (operation (op.Relation relation) place) a b) ts rest

  -- sum = prod { ( "+" | "-" ) prod } .
  pub data IsSum : ExprTree → List Spanned → List Spanned → Type 0 where
    sum_alone : {e : ExprTree} {ts rest : List Spanned} → IsProd e ts rest → IsSum e ts rest
    sum_more : {a b : ExprTree} {sign : Operation} {ts us vs rest : List Spanned} → IsSum a ts us → IsSumOperator sign us vs → IsProd b vs rest → IsSum (joined sign a b) ts rest

  -- prod = unary { ( "*" | "/" | MOD | REM ) unary } .
  pub data IsProd : ExprTree → List Spanned → List Spanned → Type 0 where
    prod_alone : {e : ExprTree} {ts rest : List Spanned} → IsUnary e ts rest → IsProd e ts rest
    prod_more : {a b : ExprTree} {sign : Operation} {ts us vs rest : List Spanned} → IsProd a ts us → IsProductOperator sign us vs → IsUnary b vs rest → IsProd (joined sign a b) ts rest

  -- unary = ( "-" | NOT ) unary | number | TRUE | FALSE | var | "(" expr ")" | braces .
  pub data IsUnary : ExprTree → List Spanned → List Spanned → Type 0 where
    negative : {e : ExprTree} {place : Place} {ts us rest : List Spanned} → Sign mark.Minus place ts us → IsUnary e us rest → IsUnary (plain place (Minus e)) ts rest
    denied : {e : ExprTree} {place : Place} {ts us rest : List Spanned} → Reserved word.Not place ts us → IsUnary e us rest → IsUnary (plain place (Not e)) ts rest
    number : {n : ℕ} {place : Place} {ts rest : List Spanned} → Numeral n place ts rest → IsUnary (plain place (Number n)) ts rest
    true_ : {place : Place} {ts rest : List Spanned} → Reserved word.True place ts rest → IsUnary (plain place (Truth true)) ts rest
    false_ : {place : Place} {ts rest : List Spanned} → Reserved word.False place ts rest → IsUnary (plain place (Truth false)) ts rest
    var : {v : VarTree} {ts rest : List Spanned} → IsVar v ts rest → IsUnary (variable_expr v) ts rest
    bracketed : {e : ExprTree} {place : Place} {ts us vs rest : List Spanned} → Sign mark.LeftParenthesis place ts us → IsExpr e us vs → Passed mark.RightParenthesis vs rest
        → IsUnary (plain place (Bracketed e)) ts rest
    braces : {inside : ExprNode} {place : Place} {ts us vs rest : List Spanned} → Sign mark.LeftBrace place ts us → IsInside inside us vs → Passed mark.RightBrace vs rest
        → IsUnary (plain place inside) ts rest

  -- var = name { ( "." | "!" ) field | "(" expr ")" } .
  pub data IsVar : VarTree → List Spanned → List Spanned → Type 0 where
    selected : (name : Name) (selectors : List SelectorTree) {ts us rest : List Spanned} → Named name ts us → IsSelectors selectors us rest → IsVar (variable name selectors) ts rest

  pub data IsSelectors : List SelectorTree → List Spanned → List Spanned → Type 0 where
    no_selector : {ts : List Spanned} → IsSelectors [] ts ts
    more_selectors : {s : SelectorTree} {ss : List SelectorTree} {ts us rest : List Spanned} → IsSelector s ts us → IsSelectors ss us rest → IsSelectors (s ∷ ss) ts rest

  pub data IsSelector : SelectorTree → List Spanned → List Spanned → Type 0 where
    dot : {f : FieldTree} {place : Place} {ts us rest : List Spanned} → Sign mark.FullStop place ts us → IsField f us rest → IsSelector (record { place = place; kind = Dot f }) ts rest
    exclamation : {f : FieldTree} {place : Place} {ts us rest : List Spanned} → Sign mark.Exclamation place ts us → IsField f us rest
        → IsSelector (record { place = place; kind = Exclamation f }) ts rest
    index : {e : ExprTree} {place : Place} {ts us vs rest : List Spanned} → Sign mark.LeftParenthesis place ts us → IsExpr e us vs → Passed mark.RightParenthesis vs rest
        → IsSelector (record { place = place; kind = Index e }) ts rest

  -- braces = "{" "}" | "{" expr { "," expr } "}" | "{" name expr { "," name expr } "}" .
  pub data IsInside : ExprNode → List Spanned → List Spanned → Type 0 where
    no_items : {ts : List Spanned} → IsInside (Sequence []) ts ts
    some_items : {e : ExprTree} {es : List ExprTree} {ts us rest : List Spanned} → IsItem e ts us → AreMoreItems es us rest → IsInside (Sequence (e ∷ es)) ts rest
    some_components : {c : ComponentTree} {cs : List ComponentTree} {ts us rest : List Spanned} → IsComponent c ts us → AreMoreComponents cs us rest
        → IsInside (Components (c ∷ cs)) ts rest

  pub data IsItem : ExprTree → List Spanned → List Spanned → Type 0 where
    item : {e : ExprTree} {ts rest : List Spanned} → IsExpr e ts rest → (BeginsNegative ts → ⊥) → IsItem e ts rest

  pub data AreMoreItems : List ExprTree → List Spanned → List Spanned → Type 0 where
    no_more_items : {ts : List Spanned} → AreMoreItems [] ts ts
    more_items : {e : ExprTree} {es : List ExprTree} {ts us vs rest : List Spanned} → Passed mark.Comma ts us → IsItem e us vs → AreMoreItems es vs rest → AreMoreItems (e ∷ es) ts rest

  pub data IsComponent : ComponentTree → List Spanned → List Spanned → Type 0 where
    component : {name : Name} {value : ExprTree} {ts us rest : List Spanned} → Named name ts us → IsExpr value us rest → IsNotBefore (token.Mark mark.LeftParenthesis) us
        → IsComponent (record { name = name; value = value }) ts rest

  pub data AreMoreComponents : List ComponentTree → List Spanned → List Spanned → Type 0 where
    no_more_components : {ts : List Spanned} → AreMoreComponents [] ts ts
    more_components : {c : ComponentTree} {cs : List ComponentTree} {ts us vs rest : List Spanned} → Passed mark.Comma ts us → IsComponent c us vs → AreMoreComponents cs vs rest
        → AreMoreComponents (c ∷ cs) ts rest

-- ---- whole texts

-- the tokens are those of this expression and the end of the file, without a violation of class S
abbrev pub IsExpression : ExprTree → List Spanned → Type 0
IsExpression e tokens = IsText EXPRESSION IsExpr e tokens
