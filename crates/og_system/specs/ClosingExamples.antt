-- Worked examples of transitions that close, and of processes and partitions without a START that has no name. Each token that matters
-- stands at the column of its number.
use Rattle.std.specs.Prelude.{◌≡◌, ℕ, true, false, List, [], ◌∷◌, Option, Some, None}
use Rattle.og_base.specs.declared.Rule.TheVariants.{A1, A7}
use Rattle.og_ast.specs.declared.expression.ExprNode.{Number}
use Rattle.og_ast.specs.declared.ground.Name.{Name}
use Rattle.og_ast.specs.declared.procedure.ProcedureBody.TheVariants as body
use Rattle.og_ast.specs.declared.state.AggregationPart as other
use Rattle.og_ast.specs.declared.state.CompositeTree.{CompositeTree}
use Rattle.og_ast.specs.declared.state.InnerTree.{InnerTree, Start, State, Composite, Aggregation}
use Rattle.og_ast.specs.declared.state.ListTree.TheVariants as list
use Rattle.og_ast.specs.declared.state.PartTree.TheVariants as part
use Rattle.og_ast.specs.declared.system.ProcessTree.{ProcessTree}
use Rattle.og_ast.specs.declared.system.SystemPart.TheVariants as piece
use Rattle.og_ast.specs.declared.system.Unit.TheVariants as unit
use Rattle.og_ast.specs.declared.transition.ActionTree.{ActionTree, Informal, Decision}
use Rattle.og_ast.specs.declared.transition.BranchTree.{BranchTree, roll-BranchTree}
use Rattle.og_ast.specs.declared.transition.DecisionTree.{roll-DecisionTree}
use Rattle.og_ast.specs.declared.transition.ElseTree.{ElseTree, roll-ElseTree}
use Rattle.og_ast.specs.declared.transition.QuestionTree.TheVariants as question
use Rattle.og_ast.specs.declared.transition.StepTree.{StepTree}
use Rattle.og_ast.specs.declared.transition.TerminatorKind.TheVariants as kind
use Rattle.og_ast.specs.declared.transition.TerminatorTree.{TerminatorTree}
use Rattle.og_ast.specs.declared.transition.TransitionTree.{TransitionTree, roll-TransitionTree}
use Rattle.og_system.specs.Closing.{closes, in_process, unclosed_in}
use Rattle.og_system.specs.Examples.{col, p_at, q_at, b_at, end, closed, system_of}

-- ---- parts of texts

abbrev pub goes : List StepTree → Option TerminatorTree → TransitionTree
goes steps terminator = roll-TransitionTree (record { steps = steps; terminator = terminator })

abbrev pub stop : Option TerminatorTree
stop = Some (record { label = None; place = col 0; kind = kind.Stop; «end» = end })

-- STOP ;
abbrev pub stops : TransitionTree
stops = goes [] stop

-- nothing
abbrev pub nothing : TransitionTree
nothing = goes [] None

abbrev pub does : ActionTree → StepTree
does action = record { label = None; place = col 0; action = action; «end» = end }

-- TASK '' ;
abbrev pub task : StepTree
task = does (Informal (record { place = col 0; text = record { bytes = [] } }))

abbrev pub branch : TransitionTree → BranchTree
branch t = roll-BranchTree (record { place = col 0; answers = []; transition = t })

abbrev pub else : TransitionTree → Option ElseTree
else t = Some (roll-ElseTree (record { place = col 0; transition = t }))

-- DECISION ANY ; .. ENDDECISION ;
abbrev pub decision : List BranchTree → Option ElseTree → StepTree
decision branches otherwise = does (Decision (roll-DecisionTree (record { question = question.Any (col 0); «end» = end; branches = branches; otherwise = otherwise })))

-- ---- which transitions close

abbrev pub StopCloses : Type 0
StopCloses = closes (goes (task ∷ []) stop) ≡ true

abbrev pub TaskAloneDoesNot : Type 0
TaskAloneDoesNot = closes (goes (task ∷ []) None) ≡ false

abbrev pub NothingDoesNot : Type 0
NothingDoesNot = closes nothing ≡ false

abbrev pub EachBranchCloses : Type 0
EachBranchCloses = closes (goes (task ∷ decision (branch stops ∷ branch stops ∷ []) (else stops) ∷ []) None) ≡ true

-- without ELSE, which need not be there
abbrev pub BranchesWithoutElse : Type 0
BranchesWithoutElse = closes (goes (decision (branch stops ∷ branch stops ∷ []) None ∷ []) None) ≡ true

abbrev pub OneBranchDoesNot : Type 0
OneBranchDoesNot = closes (goes (decision (branch stops ∷ branch nothing ∷ []) (else stops) ∷ []) None) ≡ false

abbrev pub ElseDoesNot : Type 0
ElseDoesNot = closes (goes (decision (branch stops ∷ []) (else nothing) ∷ []) None) ≡ false

-- the decision is not the last action
abbrev pub TaskBehindADecision : Type 0
TaskBehindADecision = closes (goes (decision (branch stops ∷ []) None ∷ task ∷ []) None) ≡ false

-- a branch that ends in a decision
abbrev pub DecisionInABranch : Type 0
DecisionInABranch = closes (goes (decision (branch (goes (decision (branch stops ∷ []) None ∷ []) None) ∷ []) (else stops) ∷ []) None) ≡ true

-- ---- what is violated

abbrev start_at : ℕ → Option Name → TransitionTree → InnerTree
start_at n name t = Start (record { place = col n; name = name; «end» = end; transition = t })

abbrev process_of_parts : List InnerTree → ProcessTree
process_of_parts parts = record { place = col 1; name = p_at 2; count = None; «end» = end; parts = parts; closing = closed }

abbrev composite_at : ℕ → List InnerTree → CompositeTree
composite_at n parts = record { place = col 0; name = b_at n; «end» = end; points = []; parts = parts; closing = closed }

-- PROCESS p ; START ; STOP ; ENDPROCESS ;
abbrev pub StartAndStop : Type 0
StartAndStop = in_process (process_of_parts (start_at 3 None stops ∷ [])) ≡ []

-- PROCESS p ; ENDPROCESS ;
abbrev pub NoStart : Type 0
NoStart = in_process (process_of_parts []) ≡ record { rule = A1; place = col 2 } ∷ []

-- PROCESS p ; START q ; ENDPROCESS ;
abbrev pub NamedStartAlone : Type 0
NamedStartAlone = in_process (process_of_parts (start_at 3 (Some (q_at 4)) nothing ∷ [])) ≡ record { rule = A1; place = col 2 } ∷ record { rule = A7; place = col 3 } ∷ []

-- START ; STOP ; STATE b ; INPUT ; PROVIDED .. ; STOP ; CONNECT ; ENDSTATE ; where the input and the CONNECT go nowhere
abbrev pub InAState : Type 0
InAState =
    in_process (process_of_parts (start_at 3 None stops ∷ State (record {
      place = col 5;
      list = list.Names (b_at 6 ∷ []);
      «end» = end;
      parts =
          part.Input (record { place = col 7; inputs = []; «end» = end; enabling = None; transition = nothing })
          ∷ part.Provided (record { place = col 8; condition = record { place = col 9; first = col 9; node = Number 1 }; «end» = end; priority = None; transition = stops })
          ∷ part.Connect (record { place = col 11; names = []; «end» = end; transition = nothing }) ∷ [];
      closing = closed;
    }) ∷ []))
    ≡ record { rule = A7; place = col 7 } ∷ record { rule = A7; place = col 11 } ∷ []

-- a composite state needs no START without a name, but a partition does
abbrev pub CompositeAndPartition : Type 0
CompositeAndPartition =
    in_process (process_of_parts (start_at 3 None stops ∷ Composite (composite_at 5 []) ∷ Aggregation (record {
      place = col 6;
      name = q_at 7;
      «end» = end;
      points = [];
      parts = other.Composite (composite_at 9 (start_at 10 None stops ∷ [])) ∷ other.Composite (composite_at 12 []) ∷ [];
      closing = closed;
    }) ∷ []))
    ≡ record { rule = A1; place = col 12 } ∷ []

-- a procedure of a system: START at 14, CONNECTION at 15
abbrev pub ProcedureOfASystem : Type 0
ProcedureOfASystem =
    unclosed_in (unit.System (system_of (piece.Procedure (record {
      place = col 13;
      name = q_at 13;
      «end» = end;
      fpar = None;
      returns = None;
      body = body.Own [] (col 14) end nothing (record { place = col 15; label = q_at 16; transition = stops; «end» = end } ∷ record { place = col 17; label = b_at 18; transition = nothing; «end» = end } ∷ []) closed;
    }) ∷ [])) ∷ []) (process_of_parts (start_at 3 None stops ∷ []))
    ≡ record { rule = A7; place = col 14 } ∷ record { rule = A7; place = col 17 } ∷ []
