-- The worked examples, from what each of their parts gives.
use Rattle.std.proofs.Common.{refl}
use Rattle.og_ast.specs.declared.state.InnerTree.TheVariants.{outs-Start, outs-State}
use Rattle.og_ast.specs.declared.transition.ActionTree.TheVariants.{outs-Informal, outs-Output}
use Rattle.og_ast.specs.declared.transition.TransitionTree.{out-roll-TransitionTree}
use Rattle.og_outline.specs.Examples.{TextAndOutput, LeadsToAState, StopLeadsNowhere, ViaLeadsNowhere, OneStart, NamedStart, TwoHeaders, SeveralNames, HyphenedSort, SignalsOfRoutes, SameNameInTwoBlocks, Around, WholeOutline}

pub text_and_output : TextAndOutput
text_and_output = simp (out-roll-TransitionTree, outs-Informal, outs-Output) refl

pub leads_to_a_state : LeadsToAState
leads_to_a_state = simp (out-roll-TransitionTree) refl

pub stop_leads_nowhere : StopLeadsNowhere
stop_leads_nowhere = simp (out-roll-TransitionTree) refl

pub via_leads_nowhere : ViaLeadsNowhere
via_leads_nowhere = simp (out-roll-TransitionTree) refl

pub one_start : OneStart
one_start = simp (outs-Start, outs-State, out-roll-TransitionTree, outs-Informal) refl

pub named_start : NamedStart
named_start = simp (outs-Start) refl

pub two_headers : TwoHeaders
two_headers = simp (outs-Start, outs-State, out-roll-TransitionTree, outs-Output) refl

pub several_names : SeveralNames
several_names = simp (outs-State, out-roll-TransitionTree) refl

pub hyphened_sort : HyphenedSort
hyphened_sort = refl

pub signals_of_routes : SignalsOfRoutes
signals_of_routes = refl

pub same_name_in_two_blocks : SameNameInTwoBlocks
same_name_in_two_blocks = refl

pub around : Around
around = refl

pub whole_outline : WholeOutline
whole_outline = simp (outs-Start, outs-State, out-roll-TransitionTree, outs-Informal, outs-Output) refl
