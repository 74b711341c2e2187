-- Worked examples of the grammar: texts of a few tokens, each token at the column of its number, and their trees.
use Rattle.std.specs.Prelude.{ℕ, ◌+◌, List, [], ◌∷◌, Option, Some, None, refl}
use Rattle.og_base.specs.declared.Place.{Place}
use Rattle.og_names.specs.declared.Word.{Word}
use Rattle.og_lexer.specs.declared.Keyword.TheVariants as word
use Rattle.og_lexer.specs.declared.Mark.TheVariants as mark
use Rattle.og_lexer.specs.declared.Spanned.{Spanned}
use Rattle.og_lexer.specs.declared.Token.{Token}
use Rattle.og_lexer.specs.declared.Token.TheVariants as token
use Rattle.og_ast.specs.declared.ground.Name.{Name}
use Rattle.og_ast.specs.declared.ground.EndTree.{EndTree}
use Rattle.og_ast.specs.declared.expression.ExprTree.{ExprTree}
use Rattle.og_ast.specs.declared.expression.ExprNode.{Number, Minus, Choice, Sequence, Components}
use Rattle.og_ast.specs.declared.expression.Operator.{Operator}
use Rattle.og_ast.specs.declared.expression.Operator.TheVariants as op
use Rattle.og_ast.specs.declared.expression.ComponentTree.{ComponentTree}
use Rattle.og_ast.specs.declared.expression.SelectorKind.{Dot}
use Rattle.og_ast.specs.declared.expression.FieldTree.TheVariants as field
use Rattle.og_ast.specs.declared.transition.AssignedTree.TheVariants as assigned
use Rattle.og_ast.specs.declared.transition.QuestionTree.TheVariants as question
use Rattle.og_ast.specs.declared.transition.AnswerTree.TheVariants as answer
use Rattle.og_ast.specs.declared.transition.ConstTree.TheVariants as constant
use Rattle.og_ast.specs.declared.transition.TerminatorKind.TheVariants as kind
use Rattle.og_ast.specs.declared.transition.StepTree.{StepTree}
use Rattle.og_ast.specs.declared.transition.ActionTree.{Task, Decision}
use Rattle.og_ast.specs.declared.transition.DecisionTree.{roll-DecisionTree}
use Rattle.og_ast.specs.declared.transition.BranchTree.{roll-BranchTree}
use Rattle.og_ast.specs.declared.transition.ElseTree.{roll-ElseTree}
use Rattle.og_ast.specs.declared.system.UseTree.{UseTree}
use Rattle.og_parse_expr.specs.Reading.{plain, joined, variable, variable_expr}
use Rattle.og_parse_expr.specs.Grammar.{operation, IsExpr}
use Rattle.og_parse_body.specs.Reading.{transition_of}
use Rattle.og_parse_body.specs.Grammar.{IsStep}
use Rattle.og_parse.specs.Grammar.{IsUse}

-- ---- tokens and names

abbrev pub at : ℕ → Place
at n = record { file = 0; line = 1; column = n }

-- tokens one behind the other, the first at this column
abbrev pub tokens_from : ℕ → List Token → List Spanned
tokens_from n [] = []
tokens_from n (t ∷ ts) = record { token = t; place = at n; start = n; end = n + 1 } ∷ tokens_from (n + 1) ts

abbrev letter : ℕ → Word
letter code = record { bytes = code ∷ [] }

abbrev a : Token
a = token.Name (letter 97)

abbrev b : Token
b = token.Name (letter 98)

abbrev c : Token
c = token.Name (letter 99)

abbrev a_at : ℕ → Name
a_at n = record { place = at n; word = letter 97; spelling = refl }

abbrev b_at : ℕ → Name
b_at n = record { place = at n; word = letter 98; spelling = refl }

abbrev c_at : ℕ → Name
c_at n = record { place = at n; word = letter 99; spelling = refl }

abbrev the : Name → ExprTree
the name = variable_expr (variable name [])

-- an operator at this column and its operands
abbrev by : Operator → ℕ → ExprTree → ExprTree → ExprTree
by o n = joined (operation o (at n))

-- ---- expressions

-- a + b * c
abbrev pub ProductInSum : Type 0
ProductInSum =
    IsExpr (by op.Add 2 (the (a_at 1)) (by op.Multiply 4 (the (b_at 3)) (the (c_at 5)))) (tokens_from 1 (a ∷ token.Mark mark.Plus ∷ b ∷ token.Mark mark.Asterisk ∷ c ∷ [])) []

-- a - b - c
abbrev pub SumToTheLeft : Type 0
SumToTheLeft =
    IsExpr (by op.Subtract 4 (by op.Subtract 2 (the (a_at 1)) (the (b_at 3))) (the (c_at 5))) (tokens_from 1 (a ∷ token.Mark mark.Minus ∷ b ∷ token.Mark mark.Minus ∷ c ∷ [])) []

-- a or b and c
abbrev pub AndInOr : Type 0
AndInOr = IsExpr (by op.Or 2 (the (a_at 1)) (by op.And 4 (the (b_at 3)) (the (c_at 5)))) (tokens_from 1 (a ∷ token.Keyword word.Or ∷ b ∷ token.Keyword word.And ∷ c ∷ [])) []

-- - a * b
abbrev pub SignInProduct : Type 0
SignInProduct = IsExpr (by op.Multiply 3 (plain (at 1) (Minus (the (a_at 2)))) (the (b_at 4))) (tokens_from 1 (token.Mark mark.Minus ∷ a ∷ token.Mark mark.Asterisk ∷ b ∷ [])) []

-- a . state
abbrev pub KeywordAsField : Type 0
KeywordAsField =
    IsExpr (variable_expr (variable (a_at 1) (record { place = at 2; kind = Dot (field.Keyword (at 3) word.State) } ∷ []))) (tokens_from 1 (a ∷ token.Mark mark.FullStop ∷ token.Keyword word.State ∷ [])) []

-- a : b : 5
abbrev pub ChoiceOfChoice : Type 0
ChoiceOfChoice =
    IsExpr (plain (at 1) (Choice (a_at 1) (plain (at 3) (Choice (b_at 3) (plain (at 5) (Number 5)))))) (tokens_from 1 (a ∷ token.Mark mark.Colon ∷ b ∷ token.Mark mark.Colon ∷ token.Number 5 ∷ [])) []

-- { }
abbrev pub NoItems : Type 0
NoItems = IsExpr (plain (at 1) (Sequence [])) (tokens_from 1 (token.Mark mark.LeftBrace ∷ token.Mark mark.RightBrace ∷ [])) []

-- { a , b }
abbrev pub TwoItems : Type 0
TwoItems =
    IsExpr (plain (at 1) (Sequence (the (a_at 2) ∷ the (b_at 4) ∷ []))) (tokens_from 1 (token.Mark mark.LeftBrace ∷ a ∷ token.Mark mark.Comma ∷ b ∷ token.Mark mark.RightBrace ∷ [])) []

-- { a - 1 }, a component with a negative value
abbrev pub NegativeComponent : Type 0
NegativeComponent =
    IsExpr (plain (at 1) (Components (record { name = a_at 2; value = plain (at 3) (Minus (plain (at 4) (Number 1))) } ∷ [])))
    (tokens_from 1 (token.Mark mark.LeftBrace ∷ a ∷ token.Mark mark.Minus ∷ token.Number 1 ∷ token.Mark mark.RightBrace ∷ [])) []

-- ---- steps

abbrev end_at : ℕ → EndTree
end_at n = record { place = at n; comment = None }

-- a : TASK b := 1 ;
abbrev pub LabelledTask : Type 0
LabelledTask =
    IsStep (record { label = Some (a_at 1); place = at 3; action = Task (record { target = variable (b_at 4) []; value = assigned.Value (plain (at 6) (Number 1)) } ∷ []); «end» = end_at 7 })
    (tokens_from 1 (a ∷ token.Mark mark.Colon ∷ token.Keyword word.Task ∷ b ∷ token.Mark mark.Assign ∷ token.Number 1 ∷ token.Mark mark.Semicolon ∷ [])) []

-- DECISION a ; ( 1 ) : ELSE : STOP ; ENDDECISION ;
abbrev pub DecisionWithElse : Type 0
DecisionWithElse =
    IsStep (record {
      label = None;
      place = at 1;
      action =
          Decision (roll-DecisionTree (record {
            question = question.Value (the (a_at 2));
            «end» = end_at 3;
            branches = roll-BranchTree (record { place = at 4; answers = answer.One (constant.Number (at 5) 1) ∷ []; transition = transition_of [] None }) ∷ [];
            otherwise = Some (roll-ElseTree (record { place = at 8; transition = transition_of [] (Some (record { label = None; place = at 10; kind = kind.Stop; «end» = end_at 11 })) }));
          }));
      «end» = end_at 13;
    })
    (tokens_from 1 (token.Keyword word.Decision ∷ a ∷ token.Mark mark.Semicolon ∷ token.Mark mark.LeftParenthesis ∷ token.Number 1 ∷ token.Mark mark.RightParenthesis ∷ token.Mark mark.Colon ∷ token.Keyword word.Else
    ∷ token.Mark mark.Colon ∷ token.Keyword word.Stop ∷ token.Mark mark.Semicolon ∷ token.Keyword word.Enddecision ∷ token.Mark mark.Semicolon ∷ [])) []

-- ---- files

-- USE a - b ;
abbrev pub HyphenedModule : Type 0
HyphenedModule =
    IsUse (record { place = at 1; «module» = record { parts = a_at 2 ∷ b_at 4 ∷ [] }; «end» = end_at 5 })
    (tokens_from 1 (token.Keyword word.Use ∷ a ∷ token.Mark mark.Minus ∷ b ∷ token.Mark mark.Semicolon ∷ [])) []
