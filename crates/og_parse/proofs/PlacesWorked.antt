-- The worked examples of places, from the places of their parts.
use Rattle.std.proofs.Common.{refl}
use Rattle.og_ast.specs.declared.expression.VarTree.{out-roll-VarTree}
use Rattle.og_places.proofs.Opens.{of-Number, of-Variable, of-Binary, of-Components, of-Exclamation, of-Index, of-component, of-expr, of-selector, of-variable, of-Decision, of-way, of-other, of-choice, of-step, of-steps, of-composite, of-aggregation, of-Start-inner, of-Composite-partition}
use Rattle.og_parse.specs.PlaceExamples.{CommentBehindName, KeywordAlone, OperatorFirst, TwoSelectors, TwoComponents, TwoVariables, DecisionInStep, ExternalProcedure, InputAndSave, StateInPartition, RouteFromOutside, CountedReference, TwoUnits}

pub comment_behind_name : CommentBehindName
comment_behind_name = refl

pub keyword_alone : KeywordAlone
keyword_alone = refl

pub operator_first : OperatorFirst
operator_first = simp (of-expr, of-Binary, of-Variable, of-Number, of-variable, out-roll-VarTree) refl

pub two_selectors : TwoSelectors
two_selectors = simp (of-variable, of-selector, of-Exclamation, of-Index, of-expr, of-Number) refl

pub two_components : TwoComponents
two_components = simp (of-expr, of-Components, of-component, of-Number) refl

pub two_variables : TwoVariables
two_variables = simp (of-expr, of-Number) refl

pub decision_in_step : DecisionInStep
decision_in_step = simp (of-steps, of-step, of-Decision, of-choice, of-way, of-other, of-expr, of-Number) refl

pub external_procedure : ExternalProcedure
external_procedure = refl

pub input_and_save : InputAndSave
input_and_save = simp (of-steps, of-expr, of-Number) refl

pub state_in_partition : StateInPartition
state_in_partition = simp (of-aggregation, of-composite, of-Composite-partition, of-Start-inner, of-steps) refl

pub route_from_outside : RouteFromOutside
route_from_outside = refl

pub counted_reference : CountedReference
counted_reference = refl

pub two_units : TwoUnits
two_units = refl
