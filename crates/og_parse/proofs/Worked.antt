-- The worked examples, each by its derivation.
use Rattle.std.proofs.Common.{◌≡◌, ℕ, Bool, true, false, List, [], ◌∷◌, Option, Some, None, nat_eq, refl, sym, ap, ◌∙◌, arith}
use Rattle.og_base.specs.declared.Place.{Place}
use Rattle.og_lexer.specs.declared.Mark.TheVariants as mark
use Rattle.og_lexer.specs.declared.Spanned.{Spanned}
use Rattle.og_lexer.specs.declared.Token.{Token}
use Rattle.og_lexer.specs.declared.Token.TheVariants as token
use Rattle.og_ast.specs.declared.ground.Name.{Name}
use Rattle.og_ast.specs.declared.expression.ExprTree.{ExprTree}
use Rattle.og_reading.specs.Kinds.{kind_of}
use Rattle.og_reading.specs.Fronts.{Stands, Named}
use Rattle.og_reading.proofs.ReadParts.{stands}
use Rattle.og_parse_expr.specs.Reading.{variable, variable_expr}
use Rattle.og_parse_expr.specs.Grammar.{times, plus, minus, and_plain, or_plain, BeginsNegative, IsExpr, choice_value, no_choice_value, IsOr, or_alone, or_more, IsAnd, and_alone, and_more, IsRel, rel_alone, IsSum, sum_alone, sum_more, IsProd, prod_alone, prod_more, IsUnary, negative, number, var, braces, IsVar, selected, no_selector, more_selectors, dot, no_items, some_items, some_components, item, no_more_items, more_items, component, no_more_components}
use Rattle.og_parse_body.specs.Grammar.{transition, no_step, step, assignments, decided, decision, no_branch, more_branches, branch, an_else}
use Rattle.og_parse.specs.Examples.{ProductInSum, SumToTheLeft, AndInOr, SignInProduct, KeywordAsField, ChoiceOfChoice, NoItems, TwoItems, NegativeComponent, LabelledTask, DecisionWithElse, HyphenedModule}

-- the token in front
front : {t : Token} {p : Place} {m n : ℕ} {ts : List Spanned} → Stands t p (record { token = t; place = p; start = m; end = n } ∷ ts) ts
front = stands _ _ _ _ refl refl

-- tokens of two kinds
differ : (m n : ℕ) → nat_eq m n ≡ false → m ≡ n → ⊥
differ m n f e = absurd (search arith)

other : (t u : Token) → nat_eq (kind_of t) (kind_of u) ≡ false → t ≡ u → ⊥
other t u f e = differ (kind_of t) (kind_of u) f (ap kind_of e)

-- ---- a name on each level

named : (n : Name) {ts us : List Spanned} → Named n ts us → IsUnary (variable_expr (variable n [])) ts us
named n s = var (selected n [] s no_selector)

prod : {e : ExprTree} {ts us : List Spanned} → IsUnary e ts us → IsProd e ts us
prod = prod_alone

sum : {e : ExprTree} {ts us : List Spanned} → IsUnary e ts us → IsSum e ts us
sum u = sum_alone (prod_alone u)

rel : {e : ExprTree} {ts us : List Spanned} → IsSum e ts us → IsRel e ts us
rel = rel_alone

whole : {e : ExprTree} {ts us : List Spanned} → IsSum e ts us → IsExpr e ts us
whole s = no_choice_value (or_alone (and_alone (rel_alone s)))

value : {e : ExprTree} {ts us : List Spanned} → IsUnary e ts us → IsExpr e ts us
value u = whole (sum u)

-- a name and a token behind it that is no `-`
no_minus : (t u : Spanned) (ts : List Spanned) → (u.token ≡ token.Mark mark.Minus → ⊥) → BeginsNegative (t ∷ u ∷ ts) → ⊥
no_minus t u ts ne b =
    let e = sym b.4.parts ∙ refl in
    let f = b.5.parts in
    let same : u ≡ b.5.first = cc in
    ne (ap (λ (z : Spanned). z.token) same ∙ b.5.is)

-- ---- the examples

pub product_in_sum : ProductInSum
product_in_sum = whole (sum_more (sum (named _ front)) (plus front) (prod_more (prod (named _ front)) (times front) (named _ front)))

pub sum_to_the_left : SumToTheLeft
sum_to_the_left = whole (sum_more (sum_more (sum (named _ front)) (minus front) (prod (named _ front))) (minus front) (prod (named _ front)))

pub and_in_or : AndInOr
and_in_or = no_choice_value (or_more (or_alone (and_alone (rel (sum (named _ front))))) (or_plain front) (and_more (and_alone (rel (sum (named _ front)))) (and_plain front) (rel (sum (named _ front)))))

pub sign_in_product : SignInProduct
sign_in_product = whole (sum_alone (prod_more (prod (negative front (named _ front))) (times front) (named _ front)))

pub keyword_as_field : KeywordAsField
keyword_as_field = value (var (selected _ _ front (more_selectors (dot front front) no_selector)))

pub choice_of_choice : ChoiceOfChoice
choice_of_choice = choice_value front (_, front) (choice_value front (_, front) (value (number front)))

pub without_items : NoItems
without_items = value (braces front no_items (_, front))

pub two_items : TwoItems
two_items =
    value (braces front (some_items (item (value (named _ front)) (no_minus _ _ _ (other _ _ refl))) (more_items (_, front) (item (value (named _ front)) (no_minus _ _ _ (other _ _ refl))) no_more_items)) (_, front))

pub negative_component : NegativeComponent
negative_component = value (braces front (some_components (component front (value (negative front (number front))) (other _ _ refl)) no_more_components) (_, front))

pub labelled_task : LabelledTask
labelled_task =
    step _ _ _ _ (_, front, (_, front))
    (assignments _ _ front (_, (_, selected _ _ front no_selector, (_, (_, front), value (number front))), refl))
    (_, refl, front)

pub decision_with_else : DecisionWithElse
decision_with_else =
    step _ _ _ _ refl
    (decided _ _ front
    (decision _ _ _ _ _ (value (named _ front)) (_, refl, front)
    (more_branches (branch _ _ _ front (_, front, refl) (_, front) (_, front) (transition _ _ no_step refl)) no_branch)
    (an_else _ _ front (_, front)
    (transition _ _ no_step (
      _,
      refl,
      (
        _,
        front,
        (
          _,
          (_, refl, front),
          (
            refl,
            record {
              label = λ name e. absurd cc;
              task = other _ _ refl;
              output = other _ _ refl;
              call = other _ _ refl;
              decision = other _ _ refl;
              nextstate = other _ _ refl;
              join = other _ _ refl;
              «return» = other _ _ refl;
              stop = other _ _ refl;
            },
          ),
        ),
      ),
    )))
    (_, front)))
    (_, refl, front)

pub hyphened_module : HyphenedModule
hyphened_module = (_, front, (_, (_, front, (_, (_, (_, front), front), refl)), (_, refl, front)))
