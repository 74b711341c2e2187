-- What the examples show, computed.
use Rattle.std.specs.Prelude.{refl}
use Rattle.std.specs.Fmt.{digits}
use Rattle.og_types.specs.declared.Value.{out-Value}
use Rattle.og_model.proofs.Computing.{trees}
use Rattle.og_csubset.specs.declared.CExpr.{out-CExpr, roll-CExpr}
use Rattle.og_csubset.specs.declared.CExpr.TheBlock.{the_depth, shape-the_row-CStep-0, hidden-the_row-CStep-0, shown-the_row-CStep-0, shape-the_row-CExpr-1, hidden-the_row-CExpr-1, shown-the_row-CExpr-1}
use Rattle.og_ir.specs.Reading.{value_in, blank}
use Rattle.og_csubset.specs.Loading.{first_load_rule, is_number}
use Rattle.og_csubset.specs.Step.{value_of}
use Rattle.og_csubset.specs.Reads.{event_of, end_of}
use Rattle.og_csubset.specs.Run.{c}
use Rattle.og_csubset.specs.Examples.{HandWrittenRuns, CutAtTwo, CutAtFour, CutAtNone, HandWrittenLoads, SumOverflows, DifferenceOverflows, SignOverflows, QuotientOverflows, RemainderOverflows, DividesByZero, RemainderByZero, TruncatesTowardZero, RemainderHasTheSign, LeftComesFirst, IndexComesFirst, NegativeIndex, PicksOneSide, CopiesAStruct, SwitchTakesACase, SwitchFallsToDefault, VariableOutOfRange, RegionOutOfRange, NoStateIsActive, ItemsPastTheLength, OutputOutOfRange, CutBeforeAnOutput, EndsWithAFault, NoSuchFault, CalledAfterStop, RunsOn, NothingToDoLoads, BreaksK3, BreaksK4, ArrayWithoutAnIndex, NumberIntoAStruct, UnknownGlobal, StructIntoANumber, IndexOfANumber, UnknownMember, MissingLabel, LabelTwice, EqualCases, CallsALaterFunction, TooManyCells, MissingFunction, ForeignEvent, EventOfAnySignal, FieldOfAnotherShape, FieldNotNeeded}
use denote.Hole.Rolled
use denote.Hole.Carrier

pub hand_written_runs : HandWrittenRuns
unfolding trees c event_of end_of value_in blank value_of first_load_rule is_number digits out-CExpr roll-CExpr out-Value the_depth Rolled.depth Carrier.fold Carrier.roll Carrier.out shape-the_row-CStep-0 hidden-the_row-CStep-0 shown-the_row-CStep-0 shape-the_row-CExpr-1 hidden-the_row-CExpr-1 shown-the_row-CExpr-1 Carrier.hidden Carrier.shown
hand_written_runs = refl

pub cut_at_two : CutAtTwo
unfolding trees c event_of end_of value_in blank value_of first_load_rule is_number digits out-CExpr roll-CExpr out-Value the_depth Rolled.depth Carrier.fold Carrier.roll Carrier.out shape-the_row-CStep-0 hidden-the_row-CStep-0 shown-the_row-CStep-0 shape-the_row-CExpr-1 hidden-the_row-CExpr-1 shown-the_row-CExpr-1 Carrier.hidden Carrier.shown
cut_at_two = refl

pub cut_at_four : CutAtFour
unfolding trees c event_of end_of value_in blank value_of first_load_rule is_number digits out-CExpr roll-CExpr out-Value the_depth Rolled.depth Carrier.fold Carrier.roll Carrier.out shape-the_row-CStep-0 hidden-the_row-CStep-0 shown-the_row-CStep-0 shape-the_row-CExpr-1 hidden-the_row-CExpr-1 shown-the_row-CExpr-1 Carrier.hidden Carrier.shown
cut_at_four = refl

pub cut_at_none : CutAtNone
unfolding trees c event_of end_of value_in blank value_of first_load_rule is_number digits out-CExpr roll-CExpr out-Value the_depth Rolled.depth Carrier.fold Carrier.roll Carrier.out shape-the_row-CStep-0 hidden-the_row-CStep-0 shown-the_row-CStep-0 shape-the_row-CExpr-1 hidden-the_row-CExpr-1 shown-the_row-CExpr-1 Carrier.hidden Carrier.shown
cut_at_none = refl

pub hand_written_loads : HandWrittenLoads
unfolding trees c event_of end_of value_in blank value_of first_load_rule is_number digits out-CExpr roll-CExpr out-Value the_depth Rolled.depth Carrier.fold Carrier.roll Carrier.out shape-the_row-CStep-0 hidden-the_row-CStep-0 shown-the_row-CStep-0 shape-the_row-CExpr-1 hidden-the_row-CExpr-1 shown-the_row-CExpr-1 Carrier.hidden Carrier.shown
hand_written_loads = refl

pub sum_overflows : SumOverflows
unfolding trees c event_of end_of value_in blank value_of first_load_rule is_number digits out-CExpr roll-CExpr out-Value the_depth Rolled.depth Carrier.fold Carrier.roll Carrier.out shape-the_row-CStep-0 hidden-the_row-CStep-0 shown-the_row-CStep-0 shape-the_row-CExpr-1 hidden-the_row-CExpr-1 shown-the_row-CExpr-1 Carrier.hidden Carrier.shown
sum_overflows = refl

pub difference_overflows : DifferenceOverflows
unfolding trees c event_of end_of value_in blank value_of first_load_rule is_number digits out-CExpr roll-CExpr out-Value the_depth Rolled.depth Carrier.fold Carrier.roll Carrier.out shape-the_row-CStep-0 hidden-the_row-CStep-0 shown-the_row-CStep-0 shape-the_row-CExpr-1 hidden-the_row-CExpr-1 shown-the_row-CExpr-1 Carrier.hidden Carrier.shown
difference_overflows = refl

pub sign_overflows : SignOverflows
unfolding trees c event_of end_of value_in blank value_of first_load_rule is_number digits out-CExpr roll-CExpr out-Value the_depth Rolled.depth Carrier.fold Carrier.roll Carrier.out shape-the_row-CStep-0 hidden-the_row-CStep-0 shown-the_row-CStep-0 shape-the_row-CExpr-1 hidden-the_row-CExpr-1 shown-the_row-CExpr-1 Carrier.hidden Carrier.shown
sign_overflows = refl

pub quotient_overflows : QuotientOverflows
unfolding trees c event_of end_of value_in blank value_of first_load_rule is_number digits out-CExpr roll-CExpr out-Value the_depth Rolled.depth Carrier.fold Carrier.roll Carrier.out shape-the_row-CStep-0 hidden-the_row-CStep-0 shown-the_row-CStep-0 shape-the_row-CExpr-1 hidden-the_row-CExpr-1 shown-the_row-CExpr-1 Carrier.hidden Carrier.shown
quotient_overflows = refl

pub remainder_overflows : RemainderOverflows
unfolding trees c event_of end_of value_in blank value_of first_load_rule is_number digits out-CExpr roll-CExpr out-Value the_depth Rolled.depth Carrier.fold Carrier.roll Carrier.out shape-the_row-CStep-0 hidden-the_row-CStep-0 shown-the_row-CStep-0 shape-the_row-CExpr-1 hidden-the_row-CExpr-1 shown-the_row-CExpr-1 Carrier.hidden Carrier.shown
remainder_overflows = refl

pub divides_by_zero : DividesByZero
unfolding trees c event_of end_of value_in blank value_of first_load_rule is_number digits out-CExpr roll-CExpr out-Value the_depth Rolled.depth Carrier.fold Carrier.roll Carrier.out shape-the_row-CStep-0 hidden-the_row-CStep-0 shown-the_row-CStep-0 shape-the_row-CExpr-1 hidden-the_row-CExpr-1 shown-the_row-CExpr-1 Carrier.hidden Carrier.shown
divides_by_zero = refl

pub remainder_by_zero : RemainderByZero
unfolding trees c event_of end_of value_in blank value_of first_load_rule is_number digits out-CExpr roll-CExpr out-Value the_depth Rolled.depth Carrier.fold Carrier.roll Carrier.out shape-the_row-CStep-0 hidden-the_row-CStep-0 shown-the_row-CStep-0 shape-the_row-CExpr-1 hidden-the_row-CExpr-1 shown-the_row-CExpr-1 Carrier.hidden Carrier.shown
remainder_by_zero = refl

pub truncates_toward_zero : TruncatesTowardZero
unfolding trees c event_of end_of value_in blank value_of first_load_rule is_number digits out-CExpr roll-CExpr out-Value the_depth Rolled.depth Carrier.fold Carrier.roll Carrier.out shape-the_row-CStep-0 hidden-the_row-CStep-0 shown-the_row-CStep-0 shape-the_row-CExpr-1 hidden-the_row-CExpr-1 shown-the_row-CExpr-1 Carrier.hidden Carrier.shown
truncates_toward_zero = refl

pub remainder_has_the_sign : RemainderHasTheSign
unfolding trees c event_of end_of value_in blank value_of first_load_rule is_number digits out-CExpr roll-CExpr out-Value the_depth Rolled.depth Carrier.fold Carrier.roll Carrier.out shape-the_row-CStep-0 hidden-the_row-CStep-0 shown-the_row-CStep-0 shape-the_row-CExpr-1 hidden-the_row-CExpr-1 shown-the_row-CExpr-1 Carrier.hidden Carrier.shown
remainder_has_the_sign = refl

pub left_comes_first : LeftComesFirst
unfolding trees c event_of end_of value_in blank value_of first_load_rule is_number digits out-CExpr roll-CExpr out-Value the_depth Rolled.depth Carrier.fold Carrier.roll Carrier.out shape-the_row-CStep-0 hidden-the_row-CStep-0 shown-the_row-CStep-0 shape-the_row-CExpr-1 hidden-the_row-CExpr-1 shown-the_row-CExpr-1 Carrier.hidden Carrier.shown
left_comes_first = refl

pub index_comes_first : IndexComesFirst
unfolding trees c event_of end_of value_in blank value_of first_load_rule is_number digits out-CExpr roll-CExpr out-Value the_depth Rolled.depth Carrier.fold Carrier.roll Carrier.out shape-the_row-CStep-0 hidden-the_row-CStep-0 shown-the_row-CStep-0 shape-the_row-CExpr-1 hidden-the_row-CExpr-1 shown-the_row-CExpr-1 Carrier.hidden Carrier.shown
index_comes_first = refl

pub negative_index : NegativeIndex
unfolding trees c event_of end_of value_in blank value_of first_load_rule is_number digits out-CExpr roll-CExpr out-Value the_depth Rolled.depth Carrier.fold Carrier.roll Carrier.out shape-the_row-CStep-0 hidden-the_row-CStep-0 shown-the_row-CStep-0 shape-the_row-CExpr-1 hidden-the_row-CExpr-1 shown-the_row-CExpr-1 Carrier.hidden Carrier.shown
negative_index = refl

pub picks_one_side : PicksOneSide
unfolding trees c event_of end_of value_in blank value_of first_load_rule is_number digits out-CExpr roll-CExpr out-Value the_depth Rolled.depth Carrier.fold Carrier.roll Carrier.out shape-the_row-CStep-0 hidden-the_row-CStep-0 shown-the_row-CStep-0 shape-the_row-CExpr-1 hidden-the_row-CExpr-1 shown-the_row-CExpr-1 Carrier.hidden Carrier.shown
picks_one_side = refl

pub copies_a_struct : CopiesAStruct
unfolding trees c event_of end_of value_in blank value_of first_load_rule is_number digits out-CExpr roll-CExpr out-Value the_depth Rolled.depth Carrier.fold Carrier.roll Carrier.out shape-the_row-CStep-0 hidden-the_row-CStep-0 shown-the_row-CStep-0 shape-the_row-CExpr-1 hidden-the_row-CExpr-1 shown-the_row-CExpr-1 Carrier.hidden Carrier.shown
copies_a_struct = refl

pub switch_takes_a_case : SwitchTakesACase
unfolding trees c event_of end_of value_in blank value_of first_load_rule is_number digits out-CExpr roll-CExpr out-Value the_depth Rolled.depth Carrier.fold Carrier.roll Carrier.out shape-the_row-CStep-0 hidden-the_row-CStep-0 shown-the_row-CStep-0 shape-the_row-CExpr-1 hidden-the_row-CExpr-1 shown-the_row-CExpr-1 Carrier.hidden Carrier.shown
switch_takes_a_case = refl

pub switch_falls_to_default : SwitchFallsToDefault
unfolding trees c event_of end_of value_in blank value_of first_load_rule is_number digits out-CExpr roll-CExpr out-Value the_depth Rolled.depth Carrier.fold Carrier.roll Carrier.out shape-the_row-CStep-0 hidden-the_row-CStep-0 shown-the_row-CStep-0 shape-the_row-CExpr-1 hidden-the_row-CExpr-1 shown-the_row-CExpr-1 Carrier.hidden Carrier.shown
switch_falls_to_default = refl

pub variable_out_of_range : VariableOutOfRange
unfolding trees c event_of end_of value_in blank value_of first_load_rule is_number digits out-CExpr roll-CExpr out-Value the_depth Rolled.depth Carrier.fold Carrier.roll Carrier.out shape-the_row-CStep-0 hidden-the_row-CStep-0 shown-the_row-CStep-0 shape-the_row-CExpr-1 hidden-the_row-CExpr-1 shown-the_row-CExpr-1 Carrier.hidden Carrier.shown
variable_out_of_range = refl

pub region_out_of_range : RegionOutOfRange
unfolding trees c event_of end_of value_in blank value_of first_load_rule is_number digits out-CExpr roll-CExpr out-Value the_depth Rolled.depth Carrier.fold Carrier.roll Carrier.out shape-the_row-CStep-0 hidden-the_row-CStep-0 shown-the_row-CStep-0 shape-the_row-CExpr-1 hidden-the_row-CExpr-1 shown-the_row-CExpr-1 Carrier.hidden Carrier.shown
region_out_of_range = refl

pub no_state_is_active : NoStateIsActive
unfolding trees c event_of end_of value_in blank value_of first_load_rule is_number digits out-CExpr roll-CExpr out-Value the_depth Rolled.depth Carrier.fold Carrier.roll Carrier.out shape-the_row-CStep-0 hidden-the_row-CStep-0 shown-the_row-CStep-0 shape-the_row-CExpr-1 hidden-the_row-CExpr-1 shown-the_row-CExpr-1 Carrier.hidden Carrier.shown
no_state_is_active = refl

pub items_past_the_length : ItemsPastTheLength
unfolding trees c event_of end_of value_in blank value_of first_load_rule is_number digits out-CExpr roll-CExpr out-Value the_depth Rolled.depth Carrier.fold Carrier.roll Carrier.out shape-the_row-CStep-0 hidden-the_row-CStep-0 shown-the_row-CStep-0 shape-the_row-CExpr-1 hidden-the_row-CExpr-1 shown-the_row-CExpr-1 Carrier.hidden Carrier.shown
items_past_the_length = refl

pub output_out_of_range : OutputOutOfRange
unfolding trees c event_of end_of value_in blank value_of first_load_rule is_number digits out-CExpr roll-CExpr out-Value the_depth Rolled.depth Carrier.fold Carrier.roll Carrier.out shape-the_row-CStep-0 hidden-the_row-CStep-0 shown-the_row-CStep-0 shape-the_row-CExpr-1 hidden-the_row-CExpr-1 shown-the_row-CExpr-1 Carrier.hidden Carrier.shown
output_out_of_range = refl

pub cut_before_an_output : CutBeforeAnOutput
unfolding trees c event_of end_of value_in blank value_of first_load_rule is_number digits out-CExpr roll-CExpr out-Value the_depth Rolled.depth Carrier.fold Carrier.roll Carrier.out shape-the_row-CStep-0 hidden-the_row-CStep-0 shown-the_row-CStep-0 shape-the_row-CExpr-1 hidden-the_row-CExpr-1 shown-the_row-CExpr-1 Carrier.hidden Carrier.shown
cut_before_an_output = refl

pub ends_with_a_fault : EndsWithAFault
unfolding trees c event_of end_of value_in blank value_of first_load_rule is_number digits out-CExpr roll-CExpr out-Value the_depth Rolled.depth Carrier.fold Carrier.roll Carrier.out shape-the_row-CStep-0 hidden-the_row-CStep-0 shown-the_row-CStep-0 shape-the_row-CExpr-1 hidden-the_row-CExpr-1 shown-the_row-CExpr-1 Carrier.hidden Carrier.shown
ends_with_a_fault = refl

pub no_such_fault : NoSuchFault
unfolding trees c event_of end_of value_in blank value_of first_load_rule is_number digits out-CExpr roll-CExpr out-Value the_depth Rolled.depth Carrier.fold Carrier.roll Carrier.out shape-the_row-CStep-0 hidden-the_row-CStep-0 shown-the_row-CStep-0 shape-the_row-CExpr-1 hidden-the_row-CExpr-1 shown-the_row-CExpr-1 Carrier.hidden Carrier.shown
no_such_fault = refl

pub called_after_stop : CalledAfterStop
unfolding trees c event_of end_of value_in blank value_of first_load_rule is_number digits out-CExpr roll-CExpr out-Value the_depth Rolled.depth Carrier.fold Carrier.roll Carrier.out shape-the_row-CStep-0 hidden-the_row-CStep-0 shown-the_row-CStep-0 shape-the_row-CExpr-1 hidden-the_row-CExpr-1 shown-the_row-CExpr-1 Carrier.hidden Carrier.shown
called_after_stop = refl

pub runs_on : RunsOn
unfolding trees c event_of end_of value_in blank value_of first_load_rule is_number digits out-CExpr roll-CExpr out-Value the_depth Rolled.depth Carrier.fold Carrier.roll Carrier.out shape-the_row-CStep-0 hidden-the_row-CStep-0 shown-the_row-CStep-0 shape-the_row-CExpr-1 hidden-the_row-CExpr-1 shown-the_row-CExpr-1 Carrier.hidden Carrier.shown
runs_on = refl

pub nothing_to_do_loads : NothingToDoLoads
unfolding trees c event_of end_of value_in blank value_of first_load_rule is_number digits out-CExpr roll-CExpr out-Value the_depth Rolled.depth Carrier.fold Carrier.roll Carrier.out shape-the_row-CStep-0 hidden-the_row-CStep-0 shown-the_row-CStep-0 shape-the_row-CExpr-1 hidden-the_row-CExpr-1 shown-the_row-CExpr-1 Carrier.hidden Carrier.shown
nothing_to_do_loads = refl

pub breaks_k3 : BreaksK3
unfolding trees c event_of end_of value_in blank value_of first_load_rule is_number digits out-CExpr roll-CExpr out-Value the_depth Rolled.depth Carrier.fold Carrier.roll Carrier.out shape-the_row-CStep-0 hidden-the_row-CStep-0 shown-the_row-CStep-0 shape-the_row-CExpr-1 hidden-the_row-CExpr-1 shown-the_row-CExpr-1 Carrier.hidden Carrier.shown
breaks_k3 = refl

pub breaks_k4 : BreaksK4
unfolding trees c event_of end_of value_in blank value_of first_load_rule is_number digits out-CExpr roll-CExpr out-Value the_depth Rolled.depth Carrier.fold Carrier.roll Carrier.out shape-the_row-CStep-0 hidden-the_row-CStep-0 shown-the_row-CStep-0 shape-the_row-CExpr-1 hidden-the_row-CExpr-1 shown-the_row-CExpr-1 Carrier.hidden Carrier.shown
breaks_k4 = refl

pub array_without_an_index : ArrayWithoutAnIndex
unfolding trees c event_of end_of value_in blank value_of first_load_rule is_number digits out-CExpr roll-CExpr out-Value the_depth Rolled.depth Carrier.fold Carrier.roll Carrier.out shape-the_row-CStep-0 hidden-the_row-CStep-0 shown-the_row-CStep-0 shape-the_row-CExpr-1 hidden-the_row-CExpr-1 shown-the_row-CExpr-1 Carrier.hidden Carrier.shown
array_without_an_index = refl

pub number_into_a_struct : NumberIntoAStruct
unfolding trees c event_of end_of value_in blank value_of first_load_rule is_number digits out-CExpr roll-CExpr out-Value the_depth Rolled.depth Carrier.fold Carrier.roll Carrier.out shape-the_row-CStep-0 hidden-the_row-CStep-0 shown-the_row-CStep-0 shape-the_row-CExpr-1 hidden-the_row-CExpr-1 shown-the_row-CExpr-1 Carrier.hidden Carrier.shown
number_into_a_struct = refl

pub unknown_global : UnknownGlobal
unfolding trees c event_of end_of value_in blank value_of first_load_rule is_number digits out-CExpr roll-CExpr out-Value the_depth Rolled.depth Carrier.fold Carrier.roll Carrier.out shape-the_row-CStep-0 hidden-the_row-CStep-0 shown-the_row-CStep-0 shape-the_row-CExpr-1 hidden-the_row-CExpr-1 shown-the_row-CExpr-1 Carrier.hidden Carrier.shown
unknown_global = refl

pub struct_into_a_number : StructIntoANumber
unfolding trees c event_of end_of value_in blank value_of first_load_rule is_number digits out-CExpr roll-CExpr out-Value the_depth Rolled.depth Carrier.fold Carrier.roll Carrier.out shape-the_row-CStep-0 hidden-the_row-CStep-0 shown-the_row-CStep-0 shape-the_row-CExpr-1 hidden-the_row-CExpr-1 shown-the_row-CExpr-1 Carrier.hidden Carrier.shown
struct_into_a_number = refl

pub index_of_a_number : IndexOfANumber
unfolding trees c event_of end_of value_in blank value_of first_load_rule is_number digits out-CExpr roll-CExpr out-Value the_depth Rolled.depth Carrier.fold Carrier.roll Carrier.out shape-the_row-CStep-0 hidden-the_row-CStep-0 shown-the_row-CStep-0 shape-the_row-CExpr-1 hidden-the_row-CExpr-1 shown-the_row-CExpr-1 Carrier.hidden Carrier.shown
index_of_a_number = refl

pub unknown_member : UnknownMember
unfolding trees c event_of end_of value_in blank value_of first_load_rule is_number digits out-CExpr roll-CExpr out-Value the_depth Rolled.depth Carrier.fold Carrier.roll Carrier.out shape-the_row-CStep-0 hidden-the_row-CStep-0 shown-the_row-CStep-0 shape-the_row-CExpr-1 hidden-the_row-CExpr-1 shown-the_row-CExpr-1 Carrier.hidden Carrier.shown
unknown_member = refl

pub missing_label : MissingLabel
unfolding trees c event_of end_of value_in blank value_of first_load_rule is_number digits out-CExpr roll-CExpr out-Value the_depth Rolled.depth Carrier.fold Carrier.roll Carrier.out shape-the_row-CStep-0 hidden-the_row-CStep-0 shown-the_row-CStep-0 shape-the_row-CExpr-1 hidden-the_row-CExpr-1 shown-the_row-CExpr-1 Carrier.hidden Carrier.shown
missing_label = refl

pub label_twice : LabelTwice
unfolding trees c event_of end_of value_in blank value_of first_load_rule is_number digits out-CExpr roll-CExpr out-Value the_depth Rolled.depth Carrier.fold Carrier.roll Carrier.out shape-the_row-CStep-0 hidden-the_row-CStep-0 shown-the_row-CStep-0 shape-the_row-CExpr-1 hidden-the_row-CExpr-1 shown-the_row-CExpr-1 Carrier.hidden Carrier.shown
label_twice = refl

pub equal_cases : EqualCases
unfolding trees c event_of end_of value_in blank value_of first_load_rule is_number digits out-CExpr roll-CExpr out-Value the_depth Rolled.depth Carrier.fold Carrier.roll Carrier.out shape-the_row-CStep-0 hidden-the_row-CStep-0 shown-the_row-CStep-0 shape-the_row-CExpr-1 hidden-the_row-CExpr-1 shown-the_row-CExpr-1 Carrier.hidden Carrier.shown
equal_cases = refl

pub calls_a_later_function : CallsALaterFunction
unfolding trees c event_of end_of value_in blank value_of first_load_rule is_number digits out-CExpr roll-CExpr out-Value the_depth Rolled.depth Carrier.fold Carrier.roll Carrier.out shape-the_row-CStep-0 hidden-the_row-CStep-0 shown-the_row-CStep-0 shape-the_row-CExpr-1 hidden-the_row-CExpr-1 shown-the_row-CExpr-1 Carrier.hidden Carrier.shown
calls_a_later_function = refl

pub too_many_cells : TooManyCells
unfolding trees c event_of end_of value_in blank value_of first_load_rule is_number digits out-CExpr roll-CExpr out-Value the_depth Rolled.depth Carrier.fold Carrier.roll Carrier.out shape-the_row-CStep-0 hidden-the_row-CStep-0 shown-the_row-CStep-0 shape-the_row-CExpr-1 hidden-the_row-CExpr-1 shown-the_row-CExpr-1 Carrier.hidden Carrier.shown
too_many_cells = refl

pub missing_function : MissingFunction
unfolding trees c event_of end_of value_in blank value_of first_load_rule is_number digits out-CExpr roll-CExpr out-Value the_depth Rolled.depth Carrier.fold Carrier.roll Carrier.out shape-the_row-CStep-0 hidden-the_row-CStep-0 shown-the_row-CStep-0 shape-the_row-CExpr-1 hidden-the_row-CExpr-1 shown-the_row-CExpr-1 Carrier.hidden Carrier.shown
missing_function = refl

pub foreign_event : ForeignEvent
unfolding trees c event_of end_of value_in blank value_of first_load_rule is_number digits out-CExpr roll-CExpr out-Value the_depth Rolled.depth Carrier.fold Carrier.roll Carrier.out shape-the_row-CStep-0 hidden-the_row-CStep-0 shown-the_row-CStep-0 shape-the_row-CExpr-1 hidden-the_row-CExpr-1 shown-the_row-CExpr-1 Carrier.hidden Carrier.shown
foreign_event = refl

pub event_of_any_signal : EventOfAnySignal
unfolding trees c event_of end_of value_in blank value_of first_load_rule is_number digits out-CExpr roll-CExpr out-Value the_depth Rolled.depth Carrier.fold Carrier.roll Carrier.out shape-the_row-CStep-0 hidden-the_row-CStep-0 shown-the_row-CStep-0 shape-the_row-CExpr-1 hidden-the_row-CExpr-1 shown-the_row-CExpr-1 Carrier.hidden Carrier.shown
event_of_any_signal = refl

pub field_of_another_shape : FieldOfAnotherShape
unfolding trees c event_of end_of value_in blank value_of first_load_rule is_number digits out-CExpr roll-CExpr out-Value the_depth Rolled.depth Carrier.fold Carrier.roll Carrier.out shape-the_row-CStep-0 hidden-the_row-CStep-0 shown-the_row-CStep-0 shape-the_row-CExpr-1 hidden-the_row-CExpr-1 shown-the_row-CExpr-1 Carrier.hidden Carrier.shown
field_of_another_shape = refl

pub field_not_needed : FieldNotNeeded
unfolding trees c event_of end_of value_in blank value_of first_load_rule is_number digits out-CExpr roll-CExpr out-Value the_depth Rolled.depth Carrier.fold Carrier.roll Carrier.out shape-the_row-CStep-0 hidden-the_row-CStep-0 shown-the_row-CStep-0 shape-the_row-CExpr-1 hidden-the_row-CExpr-1 shown-the_row-CExpr-1 Carrier.hidden Carrier.shown
field_not_needed = refl
