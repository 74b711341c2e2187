-- Worked examples of forms: texts of a few tokens, each token at the column of its number, and their forms.
use Rattle.std.specs.Prelude.{◌≡◌, ℕ, true, List, [], ◌∷◌, Option, Some, None, codes, refl}
use Rattle.og_base.specs.declared.Place.{Place}
use Rattle.og_base.specs.declared.Rule.TheVariants.{F1}
use Rattle.og_base.specs.declared.Violation.{Violation}
use Rattle.og_base.specs.Order.{first_of}
use Rattle.og_names.specs.declared.Word.{Word}
use Rattle.og_ast.specs.declared.ground.Name.{Name}
use Rattle.og_ast.specs.declared.ground.HyphenedName.{HyphenedName}
use Rattle.og_ast.specs.declared.ground.EndTree.{EndTree}
use Rattle.og_ast.specs.declared.ground.ClosingTree.{ClosingTree}
use Rattle.og_ast.specs.declared.expression.ExprTree.{ExprTree}
use Rattle.og_ast.specs.declared.expression.ExprNode.{Number}
use Rattle.og_ast.specs.declared.expression.VarTree.{VarTree, roll-VarTree}
use Rattle.og_ast.specs.declared.state.StartTree.{StartTree}
use Rattle.og_ast.specs.declared.state.StateTree.{StateTree}
use Rattle.og_ast.specs.declared.state.ListTree.TheVariants as list
use Rattle.og_ast.specs.declared.state.PartTree.TheVariants as part
use Rattle.og_ast.specs.declared.state.InnerTree.{InnerTree, Dcl, Start, State}
use Rattle.og_ast.specs.declared.state.CompositeTree.{CompositeTree}
use Rattle.og_ast.specs.declared.state.AggregationTree.{AggregationTree}
use Rattle.og_ast.specs.declared.state.AggregationPart as other
use Rattle.og_ast.specs.declared.system.Unit.TheVariants as unit
use Rattle.og_ast.specs.declared.system.SystemPart.TheVariants as piece
use Rattle.og_ast.specs.declared.transition.AssignedTree.TheVariants as assigned
use Rattle.og_ast.specs.declared.transition.QuestionTree.TheVariants as question
use Rattle.og_ast.specs.declared.transition.AnswerTree.TheVariants as answer
use Rattle.og_ast.specs.declared.transition.ConstTree.TheVariants as constant
use Rattle.og_ast.specs.declared.transition.TerminatorKind.{TerminatorKind}
use Rattle.og_ast.specs.declared.transition.TerminatorKind.TheVariants as kind
use Rattle.og_ast.specs.declared.transition.TerminatorTree.{TerminatorTree}
use Rattle.og_ast.specs.declared.transition.StepTree.{StepTree}
use Rattle.og_ast.specs.declared.transition.ActionTree.{ActionTree, Task, Output, Call, Decision}
use Rattle.og_ast.specs.declared.transition.DecisionTree.{roll-DecisionTree}
use Rattle.og_ast.specs.declared.transition.BranchTree.{roll-BranchTree}
use Rattle.og_ast.specs.declared.transition.ElseTree.{roll-ElseTree}
use Rattle.og_ast.specs.declared.transition.TransitionTree.{TransitionTree, roll-TransitionTree}
use Rattle.og_forms.specs.declared.form.Form.TheVariants as form
use Rattle.og_forms.specs.Forms.{at, in_transition, in_state, in_aggregation, in_unit, unbuilt}

-- ---- parts of texts

abbrev col : ℕ → Place
col n = record { file = 0; line = 1; column = n }

abbrev letter : ℕ → Word
letter code = record { bytes = code ∷ [] }

abbrev a_at : ℕ → Name
a_at n = record { place = col n; word = letter 97; spelling = refl }

abbrev b_at : ℕ → Name
b_at n = record { place = col n; word = letter 98; spelling = refl }

abbrev c_at : ℕ → Name
c_at n = record { place = col n; word = letter 99; spelling = refl }

abbrev end_at : ℕ → EndTree
end_at n = record { place = col n; comment = None }

abbrev closed_at : ℕ → ClosingTree
closed_at n = record { place = col n; name = None; «end» = end_at n }

abbrev one_at : ℕ → ExprTree
one_at n = record { place = col n; first = col n; node = Number 1 }

abbrev action_at : ℕ → ActionTree → StepTree
action_at n action = record { label = None; place = col n; action = action; «end» = end_at n }

abbrev ends_at : ℕ → TerminatorKind → Option TerminatorTree
ends_at n kind = Some (record { label = None; place = col n; kind = kind; «end» = end_at n })

abbrev pub goes : List StepTree → Option TerminatorTree → TransitionTree
goes steps terminator = roll-TransitionTree (record { steps = steps; terminator = terminator })

-- ---- transitions

-- a : DECISION 1 ; ( 1 ) : STOP ; ELSE : JOIN b ; ENDDECISION ;
abbrev pub LabelledDecision : Type 0
LabelledDecision =
    in_transition (goes (record {
      label = Some (a_at 1);
      place = col 3;
      action =
          Decision (roll-DecisionTree (record {
            question = question.Value (one_at 4);
            «end» = end_at 5;
            branches = roll-BranchTree (record { place = col 6; answers = answer.One (constant.Number (col 7) 1) ∷ []; transition = goes [] (ends_at 10 kind.Stop) }) ∷ [];
            otherwise = Some (roll-ElseTree (record { place = col 12; transition = goes [] (ends_at 14 (kind.Join (b_at 15))) }));
          }));
      «end» = end_at 18;
    } ∷ []) None)
    ≡ at form.Label (col 1) ∷ at form.Decision (col 3) ∷ at form.Stop (col 10) ∷ at form.Join (col 14) ∷ []

-- TASK a := 1 , b := CALL c ;
abbrev pub AssignedValueAndCall : Type 0
AssignedValueAndCall =
    in_transition (goes (action_at 1 (Task (record { target = roll-VarTree (record { name = a_at 2; selectors = [] }); value = assigned.Value (one_at 4) }
    ∷ record { target = roll-VarTree (record { name = b_at 6; selectors = [] }); value = assigned.Call (col 8) (record { procedure = c_at 9; args = None }) } ∷ [])) ∷ []) None)
    ≡ at form.Assignment (col 1) ∷ at form.AssignedCall (col 6) ∷ []

-- CALL Write ; CALL set_timer ; CALL a ;
abbrev pub CallsByName : Type 0
CallsByName =
    in_transition (goes (
    action_at 1 (Call (record { procedure = record { place = col 2; word = record { bytes = codes "Write" }; spelling = refl }; args = None }))
    ∷ action_at 4 (Call (record { procedure = record { place = col 5; word = record { bytes = codes "set_timer" }; spelling = refl }; args = None }))
    ∷ action_at 7 (Call (record { procedure = a_at 8; args = None })) ∷ []) None)
    ≡ at form.WriteCall (col 1) ∷ at form.TimerCall (col 4) ∷ at form.ProcedureCall (col 7) ∷ []

-- OUTPUT a , b ( 1 ) ; NEXTSTATE a VIA b ;
abbrev pub OutputsAndVia : Type 0
OutputsAndVia =
    in_transition (goes (action_at 1 (Output (record { signal = a_at 2; values = [] } ∷ record { signal = b_at 4; values = one_at 6 ∷ [] } ∷ [])) ∷ [])
    (ends_at 9 (kind.Next (a_at 10) (Some (b_at 12)))))
    ≡ at form.SeveralOutputs (col 1) ∷ at form.OutputValues (col 1) ∷ at form.Via (col 9) ∷ []

-- ---- states

-- STATE * ; INPUT a ( b ) , c ; PROVIDED 1 ; NEXTSTATE - ; SAVE a ; ENDSTATE ;
abbrev pub EveryStateSaves : Type 0
EveryStateSaves =
    in_state (record {
      place = col 1;
      list = list.All (col 2) [];
      «end» = end_at 3;
      parts =
          part.Input (record {
            place = col 4;
            inputs = record { signal = a_at 5; variables = b_at 7 ∷ [] } ∷ record { signal = c_at 10; variables = [] } ∷ [];
            «end» = end_at 11;
            enabling = Some (record { place = col 12; condition = one_at 13; «end» = end_at 14 });
            transition = goes [] (ends_at 15 (kind.Dash (col 16)));
          })
          ∷ part.Save (record { place = col 18; names = a_at 19 ∷ []; «end» = end_at 20 }) ∷ [];
      closing = closed_at 21;
    })
    ≡ at form.EveryState (col 1) ∷ at form.SeveralInputs (col 4) ∷ at form.InputVariables (col 4) ∷ at form.EnablingCondition (col 12) ∷ at form.Dash (col 15) ∷ at form.Save (col 18) ∷ []

-- STATE a ; INPUT b ; OUTPUT c ; NEXTSTATE a ; ENDSTATE ;
abbrev pub BasicState : Type 0
BasicState =
    in_state (record {
      place = col 1;
      list = list.Names (a_at 2 ∷ []);
      «end» = end_at 3;
      parts =
          part.Input (record {
            place = col 4;
            inputs = record { signal = b_at 5; variables = [] } ∷ [];
            «end» = end_at 6;
            enabling = None;
            transition = goes (action_at 7 (Output (record { signal = c_at 8; values = [] } ∷ [])) ∷ []) (ends_at 10 (kind.Next (a_at 11) None));
          }) ∷ [];
      closing = closed_at 13;
    })
    ≡ []

-- STATE AGGREGATION a ; SUBSTRUCTURE DCL b c ; STATE c ; SUBSTRUCTURE START b ; RETURN ; ENDSUBSTRUCTURE ; ENDSUBSTRUCTURE ;
abbrev pub Partition : Type 0
Partition =
    in_aggregation (record {
      place = col 1;
      name = a_at 3;
      «end» = end_at 4;
      points = [];
      parts =
          other.Dcl (record { place = col 6; items = []; «end» = end_at 9 })
          ∷ other.Composite (record {
            place = col 10;
            name = c_at 11;
            «end» = end_at 12;
            points = [];
            parts = Start (record { place = col 14; name = Some (b_at 15); «end» = end_at 16; transition = goes [] (ends_at 17 (kind.Return None)) }) ∷ [];
            closing = closed_at 19;
          }) ∷ [];
      closing = closed_at 21;
    })
    ≡ at form.Aggregation (col 1) ∷ at form.Dcl (col 6) ∷ at form.CompositeState (col 10) ∷ at form.NamedStart (col 14) ∷ at form.Return (col 17) ∷ []

-- ---- units

-- SYSTEM a ; SIGNAL b , c ( a ) ; ENDSYSTEM ;
abbrev pub SignalWithParameter : Type 0
SignalWithParameter =
    in_unit (unit.System (record {
      place = col 1;
      name = a_at 2;
      «end» = end_at 3;
      parts = piece.Signal (record { place = col 4; signals = record { name = b_at 5; sorts = [] } ∷ record { name = c_at 7; sorts = record { parts = a_at 9 ∷ [] } ∷ [] } ∷ []; «end» = end_at 11 }) ∷ [];
      closing = closed_at 12;
    }))
    ≡ at form.Parameters (col 4) ∷ []

-- of two forms the one with the lesser place is told
abbrev pub TheLesserPlace : Type 0
TheLesserPlace = first_of (unbuilt (at form.Stop (col 9) ∷ at form.Dcl (col 2) ∷ [])) ≡ Some (record { rule = F1; place = col 2 })

-- no violation is told of types of parameters and of a task that is a text
abbrev pub BuiltFormsAlone : Type 0
BuiltFormsAlone = unbuilt (at form.Parameters (col 4) ∷ at form.InformalTask (col 9) ∷ []) ≡ []

-- one that stands behind such a task is told
abbrev pub BuiltFormBefore : Type 0
BuiltFormBefore = first_of (unbuilt (at form.InformalTask (col 2) ∷ at form.Stop (col 9) ∷ [])) ≡ Some (record { rule = F1; place = col 9 })
