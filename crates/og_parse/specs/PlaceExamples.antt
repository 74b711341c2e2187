-- Worked examples of the places that trees keep: texts of a few tokens, each token at the column of its number, their trees, and the
-- columns of what these keep.
use Rattle.std.specs.Prelude.{◌≡◌, ℕ, ◌+◌, false, List, [], ◌∷◌, Option, Some, None, map, refl}
use Rattle.og_base.specs.declared.Place.{Place}
use Rattle.og_names.specs.declared.Word.{Word}
use Rattle.og_lexer.specs.declared.Keyword.TheVariants as word
use Rattle.og_ast.specs.declared.ground.Name.{Name}
use Rattle.og_ast.specs.declared.ground.HyphenedName.{HyphenedName}
use Rattle.og_ast.specs.declared.ground.EndTree.{EndTree}
use Rattle.og_ast.specs.declared.ground.ClosingTree.{ClosingTree}
use Rattle.og_ast.specs.declared.expression.ExprTree.{ExprTree}
use Rattle.og_ast.specs.declared.expression.ExprNode.{Number, Components}
use Rattle.og_ast.specs.declared.expression.Operator.TheVariants as op
use Rattle.og_ast.specs.declared.expression.SelectorKind.{Exclamation, Index}
use Rattle.og_ast.specs.declared.expression.FieldTree.TheVariants as field
use Rattle.og_ast.specs.declared.data.Passing.TheVariants.{In}
use Rattle.og_ast.specs.declared.procedure.ProcedureBody.TheVariants as body
use Rattle.og_ast.specs.declared.state.ListTree.TheVariants as list
use Rattle.og_ast.specs.declared.state.PartTree.TheVariants as part
use Rattle.og_ast.specs.declared.state.InnerTree.{Start}
use Rattle.og_ast.specs.declared.state.AggregationPart as other
use Rattle.og_ast.specs.declared.system.Unit.TheVariants as unit
use Rattle.og_ast.specs.declared.system.SystemPart.TheVariants as piece
use Rattle.og_ast.specs.declared.system.PointTree.TheVariants as point
use Rattle.og_ast.specs.declared.transition.QuestionTree.TheVariants as question
use Rattle.og_ast.specs.declared.transition.AnswerTree.TheVariants as answer
use Rattle.og_ast.specs.declared.transition.ConstTree.TheVariants as constant
use Rattle.og_ast.specs.declared.transition.TerminatorKind.{TerminatorKind}
use Rattle.og_ast.specs.declared.transition.TerminatorKind.TheVariants as kind
use Rattle.og_ast.specs.declared.transition.TerminatorTree.{TerminatorTree}
use Rattle.og_ast.specs.declared.transition.ActionTree.{Decision}
use Rattle.og_ast.specs.declared.transition.DecisionTree.{roll-DecisionTree}
use Rattle.og_ast.specs.declared.transition.BranchTree.{roll-BranchTree}
use Rattle.og_ast.specs.declared.transition.ElseTree.{roll-ElseTree}
use Rattle.og_places.specs.Contents.{places_in_closing, places_in_field, places_in_expr, places_in_var, places_in_dcl, places_in_transition, places_in_procedure, places_in_state, places_in_aggregation, places_in_route, places_in_reference, places_in_units}
use Rattle.og_parse_expr.specs.Reading.{plain, joined, variable, variable_expr}
use Rattle.og_parse_expr.specs.Grammar.{operation}
use Rattle.og_parse_body.specs.Reading.{transition_of}

-- ---- parts of texts

abbrev at : ℕ → Place
at n = record { file = 0; line = 1; column = n }

abbrev at_columns : List ℕ → List Place
at_columns columns = map at columns

abbrev letter : ℕ → Word
letter code = record { bytes = code ∷ [] }

abbrev a_at : ℕ → Name
a_at n = record { place = at n; word = letter 97; spelling = refl }

abbrev b_at : ℕ → Name
b_at n = record { place = at n; word = letter 98; spelling = refl }

abbrev c_at : ℕ → Name
c_at n = record { place = at n; word = letter 99; spelling = refl }

abbrev one_name : Name → HyphenedName
one_name name = record { parts = name ∷ [] }

abbrev end_at : ℕ → EndTree
end_at n = record { place = at n; comment = None }

-- an END keyword at this column and `;` behind it
abbrev closed_at : ℕ → ClosingTree
closed_at n = record { place = at n; name = None; «end» = end_at (n + 1) }

abbrev one_at : ℕ → ExprTree
one_at n = plain (at n) (Number 1)

-- a terminator whose keyword stands at this column, and its `;` at that one
abbrev ends_at : ℕ → TerminatorKind → ℕ → Option TerminatorTree
ends_at n kind last = Some (record { label = None; place = at n; kind = kind; «end» = end_at last })

-- ---- names and ends

-- ENDSTATE a COMMENT 'b' ;
abbrev pub CommentBehindName : Type 0
CommentBehindName =
    places_in_closing (record { place = at 1; name = Some (a_at 2); «end» = record { place = at 5; comment = Some (record { place = at 4; text = letter 98 }) } })
    ≡ at_columns (1 ∷ 2 ∷ 4 ∷ 5 ∷ [])

-- a field that is spelt like the keyword STATE
abbrev pub KeywordAlone : Type 0
KeywordAlone = places_in_field (field.Keyword (at 2) word.State) ≡ at_columns (2 ∷ [])

-- ---- expressions

-- a + 1, whose place is that of its operator
abbrev pub OperatorFirst : Type 0
OperatorFirst = places_in_expr (joined (operation op.Add (at 2)) (variable_expr (variable (a_at 1) [])) (one_at 3)) ≡ at_columns (2 ∷ 1 ∷ 1 ∷ 1 ∷ 1 ∷ 3 ∷ 3 ∷ [])

-- a ! b ( 1 )
abbrev pub TwoSelectors : Type 0
TwoSelectors =
    places_in_var (variable (a_at 1) (record { place = at 2; kind = Exclamation (field.Name (b_at 3)) } ∷ record { place = at 4; kind = Index (one_at 5) } ∷ []))
    ≡ at_columns (1 ∷ 2 ∷ 3 ∷ 4 ∷ 5 ∷ 5 ∷ [])

-- { a 1 , b 1 }
abbrev pub TwoComponents : Type 0
TwoComponents =
    places_in_expr (plain (at 1) (Components (record { name = a_at 2; value = one_at 3 } ∷ record { name = b_at 5; value = one_at 6 } ∷ [])))
    ≡ at_columns (1 ∷ 1 ∷ 2 ∷ 3 ∷ 3 ∷ 5 ∷ 6 ∷ 6 ∷ [])

-- ---- declarations and transitions

-- DCL a , b c - a := 1 ;
abbrev pub TwoVariables : Type 0
TwoVariables =
    places_in_dcl (record {
      place = at 1;
      items = record { names = a_at 2 ∷ b_at 4 ∷ []; sort = record { parts = c_at 5 ∷ a_at 7 ∷ [] }; initial = Some (one_at 9) } ∷ [];
      «end» = end_at 10;
    })
    ≡ at_columns (1 ∷ 2 ∷ 4 ∷ 5 ∷ 7 ∷ 9 ∷ 9 ∷ 10 ∷ [])

-- a : DECISION 1 ; ( 1 ) : STOP ; ELSE : JOIN b ; ENDDECISION ;
abbrev pub DecisionInStep : Type 0
DecisionInStep =
    places_in_transition (transition_of (record {
      label = Some (a_at 1);
      place = at 3;
      action =
          Decision (roll-DecisionTree (record {
            question = question.Value (one_at 4);
            «end» = end_at 5;
            branches = roll-BranchTree (record { place = at 6; answers = answer.One (constant.Number (at 7) 1) ∷ []; transition = transition_of [] (ends_at 10 kind.Stop 11) }) ∷ [];
            otherwise = Some (roll-ElseTree (record { place = at 12; transition = transition_of [] (ends_at 14 (kind.Join (b_at 15)) 16) }));
          }));
      «end» = end_at 18;
    } ∷ []) None)
    ≡ at_columns (1 ∷ 3 ∷ 4 ∷ 4 ∷ 5 ∷ 6 ∷ 7 ∷ 10 ∷ 11 ∷ 12 ∷ 14 ∷ 15 ∷ 16 ∷ 18 ∷ [])

-- PROCEDURE a ; FPAR IN b c ; RETURNS c ; EXTERNAL ;
abbrev pub ExternalProcedure : Type 0
ExternalProcedure =
    places_in_procedure (record {
      place = at 1;
      name = a_at 2;
      «end» = end_at 3;
      fpar = Some (record { place = at 4; formals = record { passing = In; names = b_at 6 ∷ []; sort = one_name (c_at 7) } ∷ []; «end» = end_at 8 });
      returns = Some (record { place = at 9; sort = one_name (c_at 10); «end» = end_at 11 });
      body = body.External (at 12) (end_at 13);
    })
    ≡ at_columns (1 ∷ 2 ∷ 3 ∷ 4 ∷ 6 ∷ 7 ∷ 8 ∷ 9 ∷ 10 ∷ 11 ∷ 12 ∷ 13 ∷ [])

-- ---- states

-- STATE * ; INPUT a ( b ) , c ; PROVIDED 1 ; NEXTSTATE - ; SAVE a ; ENDSTATE ;
abbrev pub InputAndSave : Type 0
InputAndSave =
    places_in_state (record {
      place = at 1;
      list = list.All (at 2) [];
      «end» = end_at 3;
      parts =
          part.Input (record {
            place = at 4;
            inputs = record { signal = a_at 5; variables = b_at 7 ∷ [] } ∷ record { signal = c_at 10; variables = [] } ∷ [];
            «end» = end_at 11;
            enabling = Some (record { place = at 12; condition = one_at 13; «end» = end_at 14 });
            transition = transition_of [] (ends_at 15 (kind.Dash (at 16)) 17);
          })
          ∷ part.Save (record { place = at 18; names = a_at 19 ∷ []; «end» = end_at 20 }) ∷ [];
      closing = closed_at 21;
    })
    ≡ at_columns (1 ∷ 2 ∷ 3 ∷ 4 ∷ 5 ∷ 7 ∷ 10 ∷ 11 ∷ 12 ∷ 13 ∷ 13 ∷ 14 ∷ 15 ∷ 16 ∷ 17 ∷ 18 ∷ 19 ∷ 20 ∷ 21 ∷ 22 ∷ [])

-- STATE AGGREGATION a ; SUBSTRUCTURE IN ( b ) ; STATE c ; SUBSTRUCTURE START b ; RETURN ; ENDSUBSTRUCTURE ; ENDSUBSTRUCTURE ;
abbrev pub StateInPartition : Type 0
StateInPartition =
    places_in_aggregation (record {
      place = at 1;
      name = a_at 3;
      «end» = end_at 4;
      points = record { place = at 6; out = false; names = b_at 8 ∷ []; «end» = end_at 10 } ∷ [];
      parts =
          other.Composite (record {
            place = at 11;
            name = c_at 12;
            «end» = end_at 13;
            points = [];
            parts = Start (record { place = at 15; name = Some (b_at 16); «end» = end_at 17; transition = transition_of [] (ends_at 18 (kind.Return None) 19) }) ∷ [];
            closing = closed_at 20;
          }) ∷ [];
      closing = closed_at 22;
    })
    ≡ at_columns (1 ∷ 3 ∷ 4 ∷ 6 ∷ 8 ∷ 10 ∷ 11 ∷ 12 ∷ 13 ∷ 15 ∷ 16 ∷ 17 ∷ 18 ∷ 19 ∷ 20 ∷ 21 ∷ 22 ∷ 23 ∷ [])

-- ---- systems

-- SIGNALROUTE a FROM ENV TO b WITH c ;
abbrev pub RouteFromOutside : Type 0
RouteFromOutside =
    places_in_route (record { place = at 1; name = a_at 2; paths = record { place = at 3; from = point.Env (at 4); to = point.Name (b_at 6); signals = c_at 8 ∷ []; «end» = end_at 9 } ∷ [] })
    ≡ at_columns (1 ∷ 2 ∷ 3 ∷ 4 ∷ 6 ∷ 8 ∷ 9 ∷ [])

-- PROCESS a ( 1 , 1 ) REFERENCED ;
abbrev pub CountedReference : Type 0
CountedReference =
    places_in_reference (record { place = at 1; name = a_at 2; count = Some (record { place = at 3; initial = 1; most = 1 }); «end» = end_at 9 }) ≡ at_columns (1 ∷ 2 ∷ 3 ∷ 9 ∷ [])

-- USE a ; SYSTEM a ; SIGNAL b , c ( a ) ; ENDSYSTEM ;
abbrev pub TwoUnits : Type 0
TwoUnits =
    places_in_units (unit.Use (record { place = at 1; «module» = one_name (a_at 2); «end» = end_at 3 })
    ∷ unit.System (record {
      place = at 4;
      name = a_at 5;
      «end» = end_at 6;
      parts = piece.Signal (record { place = at 7; signals = record { name = b_at 8; sorts = [] } ∷ record { name = c_at 10; sorts = one_name (a_at 12) ∷ [] } ∷ []; «end» = end_at 14 }) ∷ [];
      closing = closed_at 15;
    }) ∷ [])
    ≡ at_columns (1 ∷ 2 ∷ 3 ∷ 4 ∷ 5 ∷ 6 ∷ 7 ∷ 8 ∷ 10 ∷ 12 ∷ 14 ∷ 15 ∷ 16 ∷ [])
