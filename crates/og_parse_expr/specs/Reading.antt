-- Expressions as trees of their derivations, by the parts of the table. `inside` reads what stands one expression or operand further
-- inside; a number of choices is enough for it.
use Rattle.std.specs.Prelude.{ℕ, zero, suc, Bool, true, false, List, [], ◌∷◌, length, Option, Some, None, if◌then◌else◌, ◌==◌}
use Rattle.og_base.specs.declared.Place.{Place}
use Rattle.og_lexer.specs.declared.Spanned.{Spanned}
use Rattle.og_lexer.specs.declared.Token.{Token}
use Rattle.og_lexer.specs.declared.Token.TheVariants as token
use Rattle.og_ast.specs.declared.ground.Name.{Name}
use Rattle.og_ast.specs.declared.expression.ExprTree.{ExprTree}
use Rattle.og_ast.specs.declared.expression.ExprNode.{ExprNode, Number, Truth, Variable, Bracketed, Minus, Not, Binary, Choice, Sequence, Components}
use Rattle.og_ast.specs.declared.expression.Operator.{Operator}
use Rattle.og_ast.specs.declared.expression.Operator.TheVariants as op
use Rattle.og_ast.specs.declared.expression.RelationOperator.{RelationOperator}
use Rattle.og_ast.specs.declared.expression.RelationOperator.TheVariants as rel
use Rattle.og_ast.specs.declared.expression.ComponentTree.{ComponentTree}
use Rattle.og_ast.specs.declared.expression.VarTree.{VarTree, roll-VarTree, out-VarTree}
use Rattle.og_ast.specs.declared.expression.SelectorTree.{SelectorTree}
use Rattle.og_ast.specs.declared.expression.SelectorKind.{SelectorKind, Dot, Exclamation, Index}
use Rattle.og_ast.specs.declared.expression.FieldTree.{FieldTree}
use Rattle.og_ast.specs.declared.expression.FieldTree.TheVariants as field
use Rattle.og_reading.specs.Reading.{Rest, Take, behind, after, choice_in, goes_on, place_in, place_of, name_in, number_in, named, word_of, onto, more_of, next}
use Rattle.og_parse_expr.specs.declared.operator.Level.{Level}
use Rattle.og_parse_expr.specs.declared.operator.Level.TheVariants as level
use Rattle.og_parse_expr.specs.declared.operator.Sign.{Sign}
use Rattle.og_parse_expr.specs.declared.operator.Related.{Related}

-- ---- what is made

-- an expression without an operator
abbrev pub plain : Place → ExprNode → ExprTree
plain place node = record { place = place; first = place; node = node }

-- an expression of an operator and its operands
abbrev pub joined : Sign → ExprTree → ExprTree → ExprTree
joined sign a b = record { place = sign.place; first = a.first; node = Binary sign.operator a b }

abbrev pub variable : Name → List SelectorTree → VarTree
variable name selectors = roll-VarTree (record { name = name; selectors = selectors })

abbrev pub variable_expr : VarTree → ExprTree
variable_expr v = plain (out-VarTree v).name.place (Variable v)

-- ---- operators

-- this operator
abbrev pub sign_as : Operator → Take Sign
sign_as o rest = (record { operator = o; place = place_in rest }, behind rest)

unfoldable pub product_operator_at : Take Sign
product_operator_at rest =
    let start = after rest in
    if choice_in rest == 0 then sign_as op.Multiply start
    else (if choice_in rest == 1 then sign_as op.Divide start
    else (if choice_in rest == 2 then sign_as op.Mod start
    else sign_as op.Rem start))

unfoldable pub sum_operator_at : Take Sign
sum_operator_at rest = if choice_in rest == 0 then sign_as op.Add (after rest) else sign_as op.Subtract (after rest)

-- this relation
abbrev pub relation_as : RelationOperator → Take Related
relation_as r rest = (record { relation = r; place = place_in rest }, behind rest)

unfoldable pub relation_sign_at : Take Related
relation_sign_at rest =
    let start = after rest in
    if choice_in rest == 0 then relation_as rel.Equal start
    else (if choice_in rest == 1 then relation_as rel.NotEqual start
    else (if choice_in rest == 2 then relation_as rel.Less start
    else (if choice_in rest == 3 then relation_as rel.LessOrEqual start
    else (if choice_in rest == 4 then relation_as rel.Greater start
    else relation_as rel.GreaterOrEqual start))))

unfoldable pub relation_operator_at : Take Sign
relation_operator_at rest =
    let r = relation_sign_at rest in
    (record { operator = op.Relation r.0.relation; place = r.0.place }, r.1)

-- an operator, or the other one where a word stands behind it
abbrev pub with_word : Operator → Operator → Place → Take Sign
with_word without «with» place rest =
    if goes_on rest then (record { operator = «with»; place = place }, behind (after (after rest))) else (record { operator = without; place = place }, after rest)

unfoldable pub and_operator_at : Take Sign
and_operator_at rest = let start = after rest in with_word op.And op.AndThen (place_in start) (behind start)

unfoldable pub or_operator_at : Take Sign
or_operator_at rest =
    let start = after rest in
    if choice_in rest == 0 then with_word op.Or op.OrElse (place_in start) (behind start) else sign_as op.Xor start

-- an operator of a level
abbrev pub operator_at : Level → Take Sign
operator_at level.Product = product_operator_at
operator_at level.Sum = sum_operator_at
operator_at level.Relation = relation_operator_at
operator_at level.Conjunction = and_operator_at
operator_at level.Disjunction = or_operator_at

-- ---- expressions

-- what reads the expressions, the operands and the braces further inside
pub record Inside : Type 0 where
  pub expr : Take ExprTree
  pub operand : Take ExprTree
  pub braces : Take ExprTree

-- an operator and its right operand, onto the left one
abbrev pub step : Take Sign → Take ExprTree → ExprTree → Take ExprTree
step operator right left rest =
    let sign = operator (after rest) in
    let b = right sign.1 in
    (joined sign.0 left b.0, b.1)

-- at most one of them
abbrev pub at_most_one : (ExprTree → Take ExprTree) → ExprTree → Take ExprTree
at_most_one one left rest = if goes_on rest then one left (after rest) else (left, after rest)

-- an operand and the operators of a level behind it
abbrev pub led : Take ExprTree → (ExprTree → Take ExprTree) → Take ExprTree
led operand operators rest = let a = operand (after rest) in operators a.0 a.1

-- a right operand of each level
abbrev pub product_at : Inside → Take ExprTree
product_at inside = led inside.operand (onto (step product_operator_at inside.operand))

abbrev pub sum_at : Inside → Take ExprTree
sum_at inside = led (product_at inside) (onto (step sum_operator_at (product_at inside)))

abbrev pub relation_at : Inside → Take ExprTree
relation_at inside = led (sum_at inside) (at_most_one (step relation_operator_at (sum_at inside)))

abbrev pub conjunction_at : Inside → Take ExprTree
conjunction_at inside = led (relation_at inside) (onto (step and_operator_at (relation_at inside)))

unfoldable pub right_at : Inside → Level → Take ExprTree
right_at inside level.Product = inside.operand
right_at inside level.Sum = product_at inside
right_at inside level.Relation = sum_at inside
right_at inside level.Conjunction = relation_at inside
right_at inside level.Disjunction = conjunction_at inside

-- relations stand alone, the operators of the other levels one behind the other
abbrev pub is_relation : Level → Bool
is_relation level.Product = false
is_relation level.Sum = false
is_relation level.Relation = true
is_relation level.Conjunction = false
is_relation level.Disjunction = false

-- an operator of a level and its right operand, onto the left one
unfoldable pub step_at : Inside → Level → ExprTree → Take ExprTree
step_at inside level = step (operator_at level) (right_at inside level)

-- the operators of a level, with their right operands, onto what stands to their left
unfoldable pub operators_at : Inside → Level → ExprTree → Take ExprTree
operators_at inside level = if is_relation level then at_most_one (step_at inside level) else onto (step_at inside level)

unfoldable pub led_at : Inside → Level → Take ExprTree
led_at inside level = led (right_at inside level) (operators_at inside level)

unfoldable pub tails_at : Inside → ExprTree → Take ExprTree
tails_at inside first rest =
    let a = operators_at inside level.Product first (after rest) in
    let b = operators_at inside level.Sum a.0 a.1 in
    let c = operators_at inside level.Relation b.0 b.1 in
    let d = operators_at inside level.Conjunction c.0 c.1 in
    operators_at inside level.Disjunction d.0 d.1

-- ---- variables

-- a name, or a keyword in its place
abbrev pub field_as : Rest → Token → FieldTree
field_as rest (token.Keyword word) = field.Keyword (place_in rest) word
field_as rest _ = field.Name (name_in rest)

abbrev pub field_by : Rest → List Spanned → FieldTree
field_by rest [] = field.Name (name_in rest)
field_by rest (t ∷ ts) = field_as rest t.token

abbrev pub field_in : Rest → FieldTree
field_in rest = field_by rest rest.tokens

unfoldable pub field_at : Take FieldTree
field_at rest = (field_in (after rest), behind (after rest))

unfoldable pub index_at : Inside → Take SelectorTree
index_at inside rest =
    let start = after rest in
    let e = inside.expr (behind start) in
    (record { place = place_in start; kind = Index e.0 }, behind e.1)

unfoldable pub selector_at : Inside → Take SelectorTree
selector_at inside rest =
    if choice_in rest == 0 then (let f = field_at (behind (after rest)) in (record { place = place_in rest; kind = Dot f.0 }, f.1))
    else (if choice_in rest == 1 then (let f = field_at (behind (after rest)) in (record { place = place_in rest; kind = Exclamation f.0 }, f.1))
    else index_at inside (after rest))

-- a variable, behind its name and these selectors
unfoldable pub variable_at : Inside → Name → List SelectorTree → Take VarTree
variable_at inside name selectors rest = let s = more_of (selector_at inside) selectors rest in (variable name s.0, s.1)

-- ---- operands

unfoldable pub bracketed_at : Inside → Take ExprTree
bracketed_at inside rest =
    let start = after rest in
    let e = inside.expr (behind start) in
    (plain (place_in start) (Bracketed e.0), behind e.1)

-- behind the name of a choice value, at its colon
unfoldable pub choice_at : Inside → Name → Take ExprTree
choice_at inside name rest = let e = inside.expr (behind rest) in (plain name.place (Choice name e.0), e.1)

-- behind the name of a variable, with these selectors
unfoldable pub named_at : Inside → Name → List SelectorTree → Take ExprTree
named_at inside name selectors rest =
    let v = variable_at inside name selectors rest in
    tails_at inside (variable_expr v.0) v.1

unfoldable pub after_name_at : Inside → Name → Take ExprTree
after_name_at inside name rest = if choice_in rest == 0 then choice_at inside name (after rest) else named_at inside name [] (after rest)

unfoldable pub listed_rest_at : Inside → Name → Take ExprTree
listed_rest_at inside name rest =
    if choice_in rest == 0 then choice_at inside name (after rest)
    else (if choice_in rest == 1 then (let s = selector_at inside (after rest) in named_at inside name (s.0 ∷ []) s.1)
    else tails_at inside (variable_expr (variable name [])) (after rest))

unfoldable pub first_value_at : Inside → Take ExprTree
first_value_at inside rest =
    let start = after rest in
    let c = choice_in rest in
    if c == 0 then (let e = inside.operand (behind start) in (plain (place_in start) (Minus e.0), e.1))
    else (if c == 1 then (let e = inside.operand (behind start) in (plain (place_in start) (Not e.0), e.1))
    else (if c == 2 then (plain (place_in start) (Number (number_in start)), behind start)
    else (if c == 3 then (plain (place_in start) (Truth true), behind start)
    else (if c == 4 then (plain (place_in start) (Truth false), behind start)
    else inside.braces start))))

unfoldable pub first_operand_at : Inside → Take ExprTree
first_operand_at inside rest = if choice_in rest == 0 then first_value_at inside (after rest) else bracketed_at inside (after rest)

-- a first operand and the operators behind it
unfoldable pub leading_at : Inside → Take ExprTree
leading_at inside rest = let o = first_operand_at inside rest in tails_at inside o.0 o.1

-- ---- braces

unfoldable pub item_at : Inside → Take ExprTree
item_at inside rest =
    let start = after rest in
    if choice_in rest == 0 then listed_rest_at inside (name_in start) (behind start) else leading_at inside start

unfoldable pub component_value_at : Inside → Take ExprTree
component_value_at inside rest =
    let start = after rest in
    if choice_in rest == 0 then after_name_at inside (name_in start) (behind start)
    else (let o = first_value_at inside start in tails_at inside o.0 o.1)

-- a component with this name, behind it
unfoldable pub component_at : Inside → Name → Take ComponentTree
component_at inside name rest = let v = component_value_at inside rest in (record { name = name; value = v.0 }, v.1)

unfoldable pub more_component_at : Inside → Take ComponentTree
more_component_at inside rest = let start = behind (after rest) in component_at inside (name_in start) (behind start)

-- the first item and those behind it
unfoldable pub items_at : Inside → ExprTree → Take ExprNode
items_at inside first rest = let xs = more_of (next (item_at inside)) (first ∷ []) rest in (Sequence xs.0, xs.1)

unfoldable pub after_first_name_at : Inside → Name → Take ExprNode
after_first_name_at inside name rest =
    if choice_in rest == 0 then (let x = component_at inside name (after rest) in let xs = more_of (more_component_at inside) (x.0 ∷ []) x.1 in (Components xs.0, xs.1))
    else (let x = listed_rest_at inside name (after rest) in items_at inside x.0 x.1)

unfoldable pub inside_at : Inside → Take ExprNode
inside_at inside rest =
    let start = after rest in
    if choice_in rest == 0 then after_first_name_at inside (name_in start) (behind start)
    else (if choice_in rest == 1 then (let x = leading_at inside (after start) in items_at inside x.0 x.1)
    else (Sequence [], start))

-- ---- one further out

unfoldable pub expr_by : Inside → Take ExprTree
expr_by inside rest =
    let start = after rest in
    if choice_in rest == 0 then after_name_at inside (name_in start) (behind start) else leading_at inside start

unfoldable pub operand_by : Inside → Take ExprTree
operand_by inside rest =
    let start = after rest in
    if choice_in rest == 0 then (let v = variable_at inside (name_in start) [] (behind start) in (variable_expr v.0, v.1))
    else first_operand_at inside start

unfoldable pub braces_by : Inside → Take ExprTree
braces_by inside rest =
    let start = after rest in
    let b = inside_at inside (behind start) in
    (plain (place_in start) b.0, behind b.1)

-- where nothing is left to go by
abbrev pub none_at : Take ExprTree
none_at rest = (plain (place_in rest) (Number 0), rest)

unfoldable pub inside : ℕ → Inside
inside zero = record { expr = none_at; operand = none_at; braces = none_at }
inside (suc n) = record { expr = expr_by (inside n); operand = operand_by (inside n); braces = braces_by (inside n) }

abbrev pub expr_at : ℕ → Take ExprTree
expr_at n = (inside n).expr

abbrev pub operand_at : ℕ → Take ExprTree
operand_at n = (inside n).operand

abbrev pub braces_at : ℕ → Take ExprTree
braces_at n = (inside n).braces

-- a variable on its own
unfoldable pub var_at : ℕ → Take VarTree
var_at n rest = let start = after rest in variable_at (inside n) (name_in start) [] (behind start)

-- an expression as part 0 of the table
abbrev pub whole_at : ℕ → Take ExprTree
whole_at n rest = expr_at n (after rest)

-- the expression of a derivation
abbrev pub expression_of : List ℕ → List Spanned → ExprTree
expression_of choices tokens = (whole_at (length choices) (record { choices = choices; tokens = tokens })).0
