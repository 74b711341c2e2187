-- What is said of each tree, from what is said of its parts.
use Rattle.std.proofs.Common.{◌≡◌, ℕ, suc, arith, ◌-◌, ◌+◌, ◌≤◌, ◌<◌, length, get_or, Bool, true, false, not, ◌&&◌, ◌||◌, List, [], ◌∷◌, ◌++◌, map, Option, Some, None, is_some, refl, sym, ap, ◌∙◌}
use Rattle.std.specs.List.{flat_map, list_all, list_any}
use Rattle.std.proofs.lemmas.List.Folds.{flat_map-map}
use Rattle.og_names.proofs.Loops.{Left, left_first, left_more, left_stop, left_all}
use Rattle.og_base.specs.declared.Violation.{Violation}
use Rattle.og_ast.specs.declared.ground.EndTree.{EndTree}
use Rattle.og_ast.specs.declared.ground.TextTree.{TextTree}
use Rattle.og_ast.specs.declared.data.DclTree.{DclTree}
use Rattle.og_ast.specs.declared.data.TimerTree.{TimerTree}
use Rattle.og_ast.specs.declared.procedure.ConnectionTree.{ConnectionTree}
use Rattle.og_ast.specs.declared.procedure.ProcedureTree.{ProcedureTree}
use Rattle.og_ast.specs.declared.state.AggregationPart.{AggregationPart, fold-roll-AggregationPart}
use Rattle.og_ast.specs.declared.state.AggregationPart as other
use Rattle.og_ast.specs.declared.state.AggregationPart.TheOpen as open'
use Rattle.og_ast.specs.declared.state.AggregationPart.TheVariants as partition
use Rattle.og_ast.specs.declared.state.AggregationTree.{AggregationTree, fold-roll-AggregationTree}
use Rattle.og_ast.specs.declared.state.CompositeTree.{CompositeTree, fold-roll-CompositeTree}
use Rattle.og_ast.specs.declared.state.EmptyStateTree.{EmptyStateTree}
use Rattle.og_ast.specs.declared.state.InnerTree.{Dcl, Timer, Procedure, Start, State, Composite, Aggregation, Connection, fold-roll-InnerTree}
use Rattle.og_ast.specs.declared.state.InnerTree.TheVariants as inner
use Rattle.og_ast.specs.declared.state.StartTree.{StartTree}
use Rattle.og_ast.specs.declared.state.StateTree.{StateTree}
use Rattle.og_ast.specs.declared.transition.ActionTree.{Informal, Task, Output, Call, Decision, fold-roll-ActionTree}
use Rattle.og_ast.specs.declared.transition.ActionTree.TheOpen as action
use Rattle.og_ast.specs.declared.transition.ActionTree.TheVariants.{rolls-Informal, rolls-Task, rolls-Output, rolls-Call, rolls-Decision}
use Rattle.og_ast.specs.declared.transition.AssignTree.{AssignTree}
use Rattle.og_ast.specs.declared.transition.BranchTree.{BranchTree, out-BranchTree, fold_out-BranchTree}
use Rattle.og_ast.specs.declared.transition.CallTree.{CallTree}
use Rattle.og_ast.specs.declared.transition.DecisionTree.{DecisionTree, out-DecisionTree, roll-DecisionTree, roll-out-DecisionTree, fold-roll-DecisionTree}
use Rattle.og_ast.specs.declared.transition.ElseTree.{ElseTree, out-ElseTree, fold_out-ElseTree}
use Rattle.og_ast.specs.declared.transition.OutTree.{OutTree}
use Rattle.og_ast.specs.declared.transition.QuestionTree.{QuestionTree}
use Rattle.og_ast.specs.declared.transition.StepTree.{StepTree, fold-roll-StepTree}
use Rattle.og_ast.specs.declared.transition.TransitionTree.{TransitionTree, out-TransitionTree, fold_out-TransitionTree}
use Rattle.og_system.specs.Closing.{does_last, transition_layer, step_layer, action_layer, decision_layer, branch_layer, else_layer, closes, step_closes, action_closes, decision_closes, branch_closes, else_closes, in_start, in_state, in_connection, in_procedure, without_start, Within, inner_layer, composite_layer, aggregation_layer, partition_layer, within, in_composite, in_aggregation, in_partition, is_plain_start, in_inner}

all_mapped : {X : Type 0} (f : X → Bool) (xs : List X) → list_all (λ b. b) (map f xs) ≡ list_all f xs
all_mapped f [] = refl
all_mapped f (x ∷ xs) = ap (λ b. f x && b) (all_mapped f xs)

any_mapped : {X A : Type 0} (p : A → Bool) (f : X → A) (xs : List X) → list_any p (map f xs) ≡ list_any (λ x. p (f x)) xs
any_mapped p f [] = refl
any_mapped p f (x ∷ xs) = ap (λ b. p (f x) || b) (any_mapped p f xs)

-- ---- transitions

pub of-transition : (t : TransitionTree) → closes t ≡ (is_some (out-TransitionTree t).terminator || does_last (map step_closes (out-TransitionTree t).steps))
unfolding closes step_closes
of-transition t = fold_out-TransitionTree Bool Bool Bool Bool Bool Bool action_layer branch_layer decision_layer else_layer step_layer transition_layer t

pub of-step : (s : StepTree) → step_closes s ≡ action_closes s.action
unfolding step_closes action_closes
of-step s =
    fold-roll-StepTree Bool Bool Bool Bool Bool Bool action_layer branch_layer decision_layer else_layer step_layer transition_layer
    (record { label = s.label; place = s.place; action = s.action; «end» = s.«end» })

pub of-Informal : (text : TextTree) → action_closes (Informal text) ≡ false
unfolding action_closes
of-Informal text =
    ap action_closes (sym (rolls-Informal text)) ∙ fold-roll-ActionTree Bool Bool Bool Bool Bool Bool action_layer branch_layer decision_layer else_layer step_layer transition_layer (action.Informal text)

pub of-Task : (assigns : List AssignTree) → action_closes (Task assigns) ≡ false
unfolding action_closes
of-Task assigns =
    ap action_closes (sym (rolls-Task assigns)) ∙ fold-roll-ActionTree Bool Bool Bool Bool Bool Bool action_layer branch_layer decision_layer else_layer step_layer transition_layer (action.Task assigns)

pub of-Output : (outs : List OutTree) → action_closes (Output outs) ≡ false
unfolding action_closes
of-Output outs =
    ap action_closes (sym (rolls-Output outs)) ∙ fold-roll-ActionTree Bool Bool Bool Bool Bool Bool action_layer branch_layer decision_layer else_layer step_layer transition_layer (action.Output outs)

pub of-Call : (call : CallTree) → action_closes (Call call) ≡ false
unfolding action_closes
of-Call call =
    ap action_closes (sym (rolls-Call call)) ∙ fold-roll-ActionTree Bool Bool Bool Bool Bool Bool action_layer branch_layer decision_layer else_layer step_layer transition_layer (action.Call call)

pub of-Decision : (d : DecisionTree) → action_closes (Decision d) ≡ decision_closes d
unfolding action_closes decision_closes
of-Decision d =
    ap action_closes (sym (rolls-Decision d)) ∙ fold-roll-ActionTree Bool Bool Bool Bool Bool Bool action_layer branch_layer decision_layer else_layer step_layer transition_layer (action.Decision d)

-- whether what may be absent closes
abbrev pub maybe_closes : Option ElseTree → Bool
maybe_closes None = true
maybe_closes (Some e) = else_closes e

pub of-choice : (q : QuestionTree) (e : EndTree) (branches : List BranchTree) (otherwise : Option ElseTree)
    → decision_closes (roll-DecisionTree (record { question = q; «end» = e; branches = branches; otherwise = otherwise })) ≡ (list_all branch_closes branches && maybe_closes otherwise)
unfolding decision_closes branch_closes else_closes
of-choice q e branches None =
    fold-roll-DecisionTree Bool Bool Bool Bool Bool Bool action_layer branch_layer decision_layer else_layer step_layer transition_layer (record { question = q; «end» = e; branches = branches; otherwise = None })
    ∙ ap (λ b. b && true) (all_mapped branch_closes branches)
of-choice q e branches (Some x) =
    fold-roll-DecisionTree Bool Bool Bool Bool Bool Bool action_layer branch_layer decision_layer else_layer step_layer transition_layer (record { question = q; «end» = e; branches = branches; otherwise = Some x })
    ∙ ap (λ b. b && else_closes x) (all_mapped branch_closes branches)

pub of-decision : (d : DecisionTree) → decision_closes d ≡ (list_all branch_closes (out-DecisionTree d).branches && maybe_closes (out-DecisionTree d).otherwise)
of-decision d =
    ap decision_closes (sym (roll-out-DecisionTree d))
    ∙ of-choice (out-DecisionTree d).question (out-DecisionTree d).«end» (out-DecisionTree d).branches (out-DecisionTree d).otherwise

pub of-branch : (b : BranchTree) → branch_closes b ≡ closes (out-BranchTree b).transition
unfolding branch_closes closes
of-branch b = fold_out-BranchTree Bool Bool Bool Bool Bool Bool action_layer branch_layer decision_layer else_layer step_layer transition_layer b

pub of-else : (e : ElseTree) → else_closes e ≡ closes (out-ElseTree e).transition
unfolding else_closes closes
of-else e = fold_out-ElseTree Bool Bool Bool Bool Bool Bool action_layer branch_layer decision_layer else_layer step_layer transition_layer e

-- each branch before the i-th closes
pub record Closing {X : Type 0} (f : X → Bool) (xs : List X) (i : ℕ) : Type 0 where
  pub left : Left (list_all f) xs i (list_all f xs)

pub closing_first : {X : Type 0} (f : X → Bool) (xs : List X) → Closing f xs 0
closing_first f xs = record { left = left_first (list_all f) xs }

pub closing_more : {X : Type 0} (f : X → Bool) (xs : List X) (i : ℕ) (x : X) → i < length xs → x ≡ get_or xs i x → f x ≡ true → Closing f xs i → Closing f xs (i + 1)
closing_more f xs i x lt at yes' closing = record { left = left_more (list_all f) (list_all f) xs i x _ lt at (λ ys. ap (λ b. b && list_all f ys) yes') closing.left }

pub closing_stop : {X : Type 0} (f : X → Bool) (xs : List X) (i : ℕ) (x : X) → i < length xs → x ≡ get_or xs i x → f x ≡ false → Closing f xs i → false ≡ list_all f xs
closing_stop f xs i x lt at no' closing = left_stop (list_all f) xs i x false _ lt at (λ ys. ap (λ b. b && list_all f ys) no') closing.left

pub closing_all : {X : Type 0} (f : X → Bool) (xs : List X) (i : ℕ) → length xs ≤ i → Closing f xs i → true ≡ list_all f xs
closing_all f xs i le closing = left_all (list_all f) xs i _ le closing.left

-- the last of several steps
pub last_at : (steps : List StepTree) (s : StepTree) → 1 ≤ length steps → s ≡ get_or steps (length steps - 1) s → step_closes s ≡ does_last (map step_closes steps)
last_at [] s le at = absurd (omega arith)
last_at (t ∷ []) s le at = ap step_closes at
last_at (t ∷ u ∷ steps) s le at =
    let e : length (t ∷ u ∷ steps) - 1 ≡ suc (length (u ∷ steps) - 1) = omega arith in
    last_at (u ∷ steps) s (omega arith) (at ∙ ap (λ n. get_or (t ∷ u ∷ steps) n s) e)

-- ---- what stands in processes and composite states

abbrev V : Type 0
V = List Violation

pub of-composite : (c : CompositeTree) (is_partition : Bool) → in_composite c is_partition ≡ without_start (not is_partition || list_any is_plain_start c.parts) c.name ++ flat_map in_inner c.parts
unfolding in_composite within
of-composite c is_partition =
    ap (λ f. f is_partition) (fold-roll-CompositeTree V Within V (Bool → V) partition_layer inner_layer aggregation_layer composite_layer
    (record { place = c.place; name = c.name; «end» = c.«end»; points = c.points; parts = c.parts; closing = c.closing }))
    ∙ ap (λ b. without_start (not is_partition || b) c.name ++ flat_map (λ part. part.1) (map within c.parts)) (any_mapped (λ (part : Within). part.0) within c.parts)
    ∙ ap (λ vs. without_start (not is_partition || list_any is_plain_start c.parts) c.name ++ vs) (flat_map-map (λ (part : Within). part.1) within c.parts)

pub of-aggregation : (a : AggregationTree) → in_aggregation a ≡ flat_map in_partition a.parts
unfolding in_aggregation in_partition
of-aggregation a =
    fold-roll-AggregationTree V Within V (Bool → V) partition_layer inner_layer aggregation_layer composite_layer
    (record { place = a.place; name = a.name; «end» = a.«end»; points = a.points; parts = a.parts; closing = a.closing })
    ∙ flat_map-map (λ vs. vs) in_partition a.parts

within-Dcl : (dcl : DclTree) → within (Dcl dcl) ≡ (false, [])
unfolding within
within-Dcl dcl = ap within (sym (inner.rolls-Dcl dcl)) ∙ fold-roll-InnerTree V Within V (Bool → V) partition_layer inner_layer aggregation_layer composite_layer (open'.InnerTree::Dcl dcl)

pub starts-Dcl : (dcl : DclTree) → (within (Dcl dcl)).0 ≡ false
starts-Dcl dcl = ap (λ w. w.0) (within-Dcl dcl)

pub in-Dcl : (dcl : DclTree) → (within (Dcl dcl)).1 ≡ []
in-Dcl dcl = ap (λ w. w.1) (within-Dcl dcl)

within-Timer : (timer : TimerTree) → within (Timer timer) ≡ (false, [])
unfolding within
within-Timer timer = ap within (sym (inner.rolls-Timer timer)) ∙ fold-roll-InnerTree V Within V (Bool → V) partition_layer inner_layer aggregation_layer composite_layer (open'.InnerTree::Timer timer)

pub starts-Timer : (timer : TimerTree) → (within (Timer timer)).0 ≡ false
starts-Timer timer = ap (λ w. w.0) (within-Timer timer)

pub in-Timer : (timer : TimerTree) → (within (Timer timer)).1 ≡ []
in-Timer timer = ap (λ w. w.1) (within-Timer timer)

within-Procedure : (procedure : ProcedureTree) → within (Procedure procedure) ≡ (false, in_procedure procedure)
unfolding within
within-Procedure procedure = ap within (sym (inner.rolls-Procedure procedure)) ∙ fold-roll-InnerTree V Within V (Bool → V) partition_layer inner_layer aggregation_layer composite_layer (open'.InnerTree::Procedure procedure)

pub starts-Procedure : (procedure : ProcedureTree) → (within (Procedure procedure)).0 ≡ false
starts-Procedure procedure = ap (λ w. w.0) (within-Procedure procedure)

pub in-Procedure : (procedure : ProcedureTree) → (within (Procedure procedure)).1 ≡ in_procedure procedure
in-Procedure procedure = ap (λ w. w.1) (within-Procedure procedure)

within-Start : (start : StartTree) → within (Start start) ≡ (not (is_some start.name), in_start start)
unfolding within
within-Start start = ap within (sym (inner.rolls-Start start)) ∙ fold-roll-InnerTree V Within V (Bool → V) partition_layer inner_layer aggregation_layer composite_layer (open'.Start start)

pub starts-Start : (start : StartTree) → (within (Start start)).0 ≡ not (is_some start.name)
starts-Start start = ap (λ w. w.0) (within-Start start)

pub in-Start : (start : StartTree) → (within (Start start)).1 ≡ in_start start
in-Start start = ap (λ w. w.1) (within-Start start)

within-State : (state : StateTree) → within (State state) ≡ (false, in_state state)
unfolding within
within-State state = ap within (sym (inner.rolls-State state)) ∙ fold-roll-InnerTree V Within V (Bool → V) partition_layer inner_layer aggregation_layer composite_layer (open'.State state)

pub starts-State : (state : StateTree) → (within (State state)).0 ≡ false
starts-State state = ap (λ w. w.0) (within-State state)

pub in-State : (state : StateTree) → (within (State state)).1 ≡ in_state state
in-State state = ap (λ w. w.1) (within-State state)

within-Composite : (c : CompositeTree) → within (Composite c) ≡ (false, in_composite c false)
unfolding within in_composite
within-Composite c = ap within (sym (inner.rolls-Composite c)) ∙ fold-roll-InnerTree V Within V (Bool → V) partition_layer inner_layer aggregation_layer composite_layer (open'.InnerTree::Composite c)

pub starts-Composite : (c : CompositeTree) → (within (Composite c)).0 ≡ false
starts-Composite c = ap (λ w. w.0) (within-Composite c)

pub in-Composite : (c : CompositeTree) → (within (Composite c)).1 ≡ in_composite c false
in-Composite c = ap (λ w. w.1) (within-Composite c)

within-Aggregation : (a : AggregationTree) → within (Aggregation a) ≡ (false, in_aggregation a)
unfolding within in_aggregation
within-Aggregation a = ap within (sym (inner.rolls-Aggregation a)) ∙ fold-roll-InnerTree V Within V (Bool → V) partition_layer inner_layer aggregation_layer composite_layer (open'.Aggregation a)

pub starts-Aggregation : (a : AggregationTree) → (within (Aggregation a)).0 ≡ false
starts-Aggregation a = ap (λ w. w.0) (within-Aggregation a)

pub in-Aggregation : (a : AggregationTree) → (within (Aggregation a)).1 ≡ in_aggregation a
in-Aggregation a = ap (λ w. w.1) (within-Aggregation a)

within-Connection : (connection : ConnectionTree) → within (Connection connection) ≡ (false, in_connection connection)
unfolding within
within-Connection connection = ap within (sym (inner.rolls-Connection connection)) ∙ fold-roll-InnerTree V Within V (Bool → V) partition_layer inner_layer aggregation_layer composite_layer (open'.Connection connection)

pub starts-Connection : (connection : ConnectionTree) → (within (Connection connection)).0 ≡ false
starts-Connection connection = ap (λ w. w.0) (within-Connection connection)

pub in-Connection : (connection : ConnectionTree) → (within (Connection connection)).1 ≡ in_connection connection
in-Connection connection = ap (λ w. w.1) (within-Connection connection)

pub of-Dcl-partition : (dcl : DclTree) → in_partition (other.Dcl dcl) ≡ []
unfolding in_partition
of-Dcl-partition dcl = ap in_partition (sym (partition.rolls-Dcl dcl)) ∙ fold-roll-AggregationPart V Within V (Bool → V) partition_layer inner_layer aggregation_layer composite_layer (open'.AggregationPart::Dcl dcl)

pub of-Timer-partition : (timer : TimerTree) → in_partition (other.Timer timer) ≡ []
unfolding in_partition
of-Timer-partition timer = ap in_partition (sym (partition.rolls-Timer timer)) ∙ fold-roll-AggregationPart V Within V (Bool → V) partition_layer inner_layer aggregation_layer composite_layer (open'.AggregationPart::Timer timer)

pub of-Procedure-partition : (procedure : ProcedureTree) → in_partition (other.Procedure procedure) ≡ in_procedure procedure
unfolding in_partition
of-Procedure-partition procedure = ap in_partition (sym (partition.rolls-Procedure procedure)) ∙ fold-roll-AggregationPart V Within V (Bool → V) partition_layer inner_layer aggregation_layer composite_layer (open'.AggregationPart::Procedure procedure)

pub of-Empty-partition : (state : EmptyStateTree) → in_partition (other.Empty state) ≡ []
unfolding in_partition
of-Empty-partition state = ap in_partition (sym (partition.rolls-Empty state)) ∙ fold-roll-AggregationPart V Within V (Bool → V) partition_layer inner_layer aggregation_layer composite_layer (open'.Empty state)

pub of-Composite-partition : (c : CompositeTree) → in_partition (other.Composite c) ≡ in_composite c true
unfolding in_partition in_composite
of-Composite-partition c = ap in_partition (sym (partition.rolls-Composite c)) ∙ fold-roll-AggregationPart V Within V (Bool → V) partition_layer inner_layer aggregation_layer composite_layer (open'.AggregationPart::Composite c)

pub ruleset opens = (of-transition, of-step, of-Informal, of-Task, of-Output, of-Call, of-Decision, of-decision, of-branch, of-else, of-composite, of-aggregation, closing_first, closing_more, closing_stop, closing_all, starts-Dcl, in-Dcl, starts-Timer, in-Timer, starts-Procedure, in-Procedure, starts-Start, in-Start, starts-State, in-State, starts-Composite, in-Composite, starts-Aggregation, in-Aggregation, starts-Connection, in-Connection, of-Dcl-partition, of-Timer-partition, of-Procedure-partition, of-Empty-partition, of-Composite-partition)
