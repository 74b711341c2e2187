-- What the examples of flat code show, computed.
use Rattle.std.specs.Prelude.{refl}
use Rattle.std.proofs.Common.{arith}
use Rattle.std.specs.Fmt.{digits}
use Rattle.og_types.specs.declared.Value.{out-Value}
use Rattle.og_model.proofs.Computing.{trees}
use Rattle.og_ir.specs.declared.Flat.{out-Flat, roll-Flat}
use Rattle.og_ir.specs.declared.Flat.TheBlock as block
use Rattle.og_ir.specs.Reading.{value_in, blank}
use Rattle.og_ir.specs.FlatSteps.{value_of}
use Rattle.og_csubset.specs.Reads.{event_of, end_of}
use Rattle.og_csubset.specs.FlatRun.{flat, flat_in_64_bits}
use Rattle.og_csubset.specs.Paced.{paced}
use Rattle.og_csubset.specs.Fair.{is_number}
use Rattle.og_csubset.specs.FlatText.{flat_piece}
use Rattle.og_csubset.specs.FlatExamples.{NumbersAreUnbounded, NumbersOf64Bits, IndexIsOutside, DivisorIsZero, CopiesItems, CallsTwice, CutInACall, NotYetShown, ShownByTheSixth, TableTakesACase, TableTakesTheLast, CountsAndLeavesItsType, CountingIsFair, SumOfFortyNests}
use denote.Hole.Rolled
use denote.Hole.Carrier

pub numbers_are_unbounded : NumbersAreUnbounded
unfolding trees flat flat_in_64_bits event_of end_of value_in blank value_of is_number flat_piece digits out-Flat roll-Flat out-Value block.the_depth Rolled.depth Carrier.fold Carrier.roll Carrier.out block.shape-the_row-Step2-0 block.hidden-the_row-Step2-0 block.shown-the_row-Step2-0 block.shape-the_row-Flat-1 block.hidden-the_row-Flat-1 block.shown-the_row-Flat-1 Carrier.hidden Carrier.shown
numbers_are_unbounded = refl

pub numbers_of_64_bits : NumbersOf64Bits
unfolding trees flat flat_in_64_bits event_of end_of value_in blank value_of is_number flat_piece digits out-Flat roll-Flat out-Value block.the_depth Rolled.depth Carrier.fold Carrier.roll Carrier.out block.shape-the_row-Step2-0 block.hidden-the_row-Step2-0 block.shown-the_row-Step2-0 block.shape-the_row-Flat-1 block.hidden-the_row-Flat-1 block.shown-the_row-Flat-1 Carrier.hidden Carrier.shown
numbers_of_64_bits = refl

pub index_is_outside : IndexIsOutside
unfolding trees flat flat_in_64_bits event_of end_of value_in blank value_of is_number flat_piece digits out-Flat roll-Flat out-Value block.the_depth Rolled.depth Carrier.fold Carrier.roll Carrier.out block.shape-the_row-Step2-0 block.hidden-the_row-Step2-0 block.shown-the_row-Step2-0 block.shape-the_row-Flat-1 block.hidden-the_row-Flat-1 block.shown-the_row-Flat-1 Carrier.hidden Carrier.shown
index_is_outside = refl

pub divisor_is_zero : DivisorIsZero
unfolding trees flat flat_in_64_bits event_of end_of value_in blank value_of is_number flat_piece digits out-Flat roll-Flat out-Value block.the_depth Rolled.depth Carrier.fold Carrier.roll Carrier.out block.shape-the_row-Step2-0 block.hidden-the_row-Step2-0 block.shown-the_row-Step2-0 block.shape-the_row-Flat-1 block.hidden-the_row-Flat-1 block.shown-the_row-Flat-1 Carrier.hidden Carrier.shown
divisor_is_zero = refl

pub copies_items : CopiesItems
unfolding trees flat flat_in_64_bits event_of end_of value_in blank value_of is_number flat_piece digits out-Flat roll-Flat out-Value block.the_depth Rolled.depth Carrier.fold Carrier.roll Carrier.out block.shape-the_row-Step2-0 block.hidden-the_row-Step2-0 block.shown-the_row-Step2-0 block.shape-the_row-Flat-1 block.hidden-the_row-Flat-1 block.shown-the_row-Flat-1 Carrier.hidden Carrier.shown
copies_items = refl

pub calls_twice : CallsTwice
unfolding trees flat flat_in_64_bits event_of end_of value_in blank value_of is_number flat_piece digits out-Flat roll-Flat out-Value block.the_depth Rolled.depth Carrier.fold Carrier.roll Carrier.out block.shape-the_row-Step2-0 block.hidden-the_row-Step2-0 block.shown-the_row-Step2-0 block.shape-the_row-Flat-1 block.hidden-the_row-Flat-1 block.shown-the_row-Flat-1 Carrier.hidden Carrier.shown
calls_twice = refl

pub cut_in_a_call : CutInACall
unfolding trees flat flat_in_64_bits event_of end_of value_in blank value_of is_number flat_piece digits out-Flat roll-Flat out-Value block.the_depth Rolled.depth Carrier.fold Carrier.roll Carrier.out block.shape-the_row-Step2-0 block.hidden-the_row-Step2-0 block.shown-the_row-Step2-0 block.shape-the_row-Flat-1 block.hidden-the_row-Flat-1 block.shown-the_row-Flat-1 Carrier.hidden Carrier.shown
cut_in_a_call = refl

pub not_yet_shown : NotYetShown
unfolding trees paced flat flat_in_64_bits event_of end_of value_in blank value_of is_number flat_piece digits out-Flat roll-Flat out-Value block.the_depth Rolled.depth Carrier.fold Carrier.roll Carrier.out block.shape-the_row-Step2-0 block.hidden-the_row-Step2-0 block.shown-the_row-Step2-0 block.shape-the_row-Flat-1 block.hidden-the_row-Flat-1 block.shown-the_row-Flat-1 Carrier.hidden Carrier.shown
not_yet_shown = refl

pub shown_by_the_sixth : ShownByTheSixth
unfolding trees paced flat flat_in_64_bits event_of end_of value_in blank value_of is_number flat_piece digits out-Flat roll-Flat out-Value block.the_depth Rolled.depth Carrier.fold Carrier.roll Carrier.out block.shape-the_row-Step2-0 block.hidden-the_row-Step2-0 block.shown-the_row-Step2-0 block.shape-the_row-Flat-1 block.hidden-the_row-Flat-1 block.shown-the_row-Flat-1 Carrier.hidden Carrier.shown
shown_by_the_sixth = refl

pub table_takes_a_case : TableTakesACase
unfolding trees flat flat_in_64_bits event_of end_of value_in blank value_of is_number flat_piece digits out-Flat roll-Flat out-Value block.the_depth Rolled.depth Carrier.fold Carrier.roll Carrier.out block.shape-the_row-Step2-0 block.hidden-the_row-Step2-0 block.shown-the_row-Step2-0 block.shape-the_row-Flat-1 block.hidden-the_row-Flat-1 block.shown-the_row-Flat-1 Carrier.hidden Carrier.shown
table_takes_a_case = refl

pub table_takes_the_last : TableTakesTheLast
unfolding trees flat flat_in_64_bits event_of end_of value_in blank value_of is_number flat_piece digits out-Flat roll-Flat out-Value block.the_depth Rolled.depth Carrier.fold Carrier.roll Carrier.out block.shape-the_row-Step2-0 block.hidden-the_row-Step2-0 block.shown-the_row-Step2-0 block.shape-the_row-Flat-1 block.hidden-the_row-Flat-1 block.shown-the_row-Flat-1 Carrier.hidden Carrier.shown
table_takes_the_last = refl

pub counts_and_leaves_its_type : CountsAndLeavesItsType
unfolding trees flat flat_in_64_bits event_of end_of value_in blank value_of is_number flat_piece digits out-Flat roll-Flat out-Value block.the_depth Rolled.depth Carrier.fold Carrier.roll Carrier.out block.shape-the_row-Step2-0 block.hidden-the_row-Step2-0 block.shown-the_row-Step2-0 block.shape-the_row-Flat-1 block.hidden-the_row-Flat-1 block.shown-the_row-Flat-1 Carrier.hidden Carrier.shown
counts_and_leaves_its_type = refl

pub counting_is_fair : CountingIsFair
unfolding trees flat flat_in_64_bits event_of end_of value_in blank value_of is_number flat_piece digits out-Flat roll-Flat out-Value block.the_depth Rolled.depth Carrier.fold Carrier.roll Carrier.out block.shape-the_row-Step2-0 block.hidden-the_row-Step2-0 block.shown-the_row-Step2-0 block.shape-the_row-Flat-1 block.hidden-the_row-Flat-1 block.shown-the_row-Flat-1 Carrier.hidden Carrier.shown
counting_is_fair = record {
  types = refl;
  supported = refl;
  right = refl;
  names = refl;
  differ = refl;
  labels = refl;
  small = omega arith;
  shallow = refl;
  control = refl;
  fields = refl;
  events = refl;
  values = refl;
  functions = refl;
}

pub sum_of_forty_nests : SumOfFortyNests
unfolding flat_piece out-Flat roll-Flat block.the_depth Rolled.depth Carrier.fold Carrier.roll Carrier.out block.shape-the_row-Step2-0 block.hidden-the_row-Step2-0 block.shown-the_row-Step2-0 block.shape-the_row-Flat-1 block.hidden-the_row-Flat-1 block.shown-the_row-Flat-1 Carrier.hidden Carrier.shown
sum_of_forty_nests = refl
