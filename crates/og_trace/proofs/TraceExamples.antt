-- What the examples write, computed.
use Rattle.std.specs.Prelude.{refl}
use Rattle.std.specs.Fmt.{digits}
use Rattle.og_model.proofs.Computing.{trees}
use Rattle.og_csubset.specs.declared.CExpr.{out-CExpr, roll-CExpr}
use Rattle.og_csubset.specs.declared.CExpr.TheBlock.{the_depth, shape-the_row-CStep-0, hidden-the_row-CStep-0, shown-the_row-CStep-0, shape-the_row-CExpr-1, hidden-the_row-CExpr-1, shown-the_row-CExpr-1}
use Rattle.og_ir.specs.Reading.{value_in, blank}
use Rattle.og_csubset.specs.Step.{value_of}
use Rattle.og_csubset.specs.Reads.{event_of, end_of}
use Rattle.og_csubset.specs.Run.{c}
use Rattle.og_value.specs.Scans.{name_at, word_at}
use Rattle.og_stim.specs.Scans.{form_in}
use Rattle.og_trace.specs.Examples.{BadLineIsShown, BadLineEnds, StuckBeforeABadLine, StuckEnds, CutAtFour, CutEnds, NoStatement, NoFunction, AllDone}
use denote.Hole.Rolled
use denote.Hole.Carrier

pub bad_line_is_shown : BadLineIsShown
unfolding trees form_in name_at word_at c event_of end_of value_in blank value_of digits out-CExpr roll-CExpr the_depth Rolled.depth Carrier.fold Carrier.roll Carrier.out shape-the_row-CStep-0 hidden-the_row-CStep-0 shown-the_row-CStep-0 shape-the_row-CExpr-1 hidden-the_row-CExpr-1 shown-the_row-CExpr-1 Carrier.hidden Carrier.shown
bad_line_is_shown = refl

pub bad_line_ends : BadLineEnds
unfolding trees form_in name_at word_at c event_of end_of value_in blank value_of digits out-CExpr roll-CExpr the_depth Rolled.depth Carrier.fold Carrier.roll Carrier.out shape-the_row-CStep-0 hidden-the_row-CStep-0 shown-the_row-CStep-0 shape-the_row-CExpr-1 hidden-the_row-CExpr-1 shown-the_row-CExpr-1 Carrier.hidden Carrier.shown
bad_line_ends = refl

pub stuck_before_a_bad_line : StuckBeforeABadLine
unfolding trees form_in name_at word_at c event_of end_of value_in blank value_of digits out-CExpr roll-CExpr the_depth Rolled.depth Carrier.fold Carrier.roll Carrier.out shape-the_row-CStep-0 hidden-the_row-CStep-0 shown-the_row-CStep-0 shape-the_row-CExpr-1 hidden-the_row-CExpr-1 shown-the_row-CExpr-1 Carrier.hidden Carrier.shown
stuck_before_a_bad_line = refl

pub stuck_ends : StuckEnds
unfolding trees form_in name_at word_at c event_of end_of value_in blank value_of digits out-CExpr roll-CExpr the_depth Rolled.depth Carrier.fold Carrier.roll Carrier.out shape-the_row-CStep-0 hidden-the_row-CStep-0 shown-the_row-CStep-0 shape-the_row-CExpr-1 hidden-the_row-CExpr-1 shown-the_row-CExpr-1 Carrier.hidden Carrier.shown
stuck_ends = refl

pub cut_at_four : CutAtFour
unfolding trees form_in name_at word_at c event_of end_of value_in blank value_of digits out-CExpr roll-CExpr the_depth Rolled.depth Carrier.fold Carrier.roll Carrier.out shape-the_row-CStep-0 hidden-the_row-CStep-0 shown-the_row-CStep-0 shape-the_row-CExpr-1 hidden-the_row-CExpr-1 shown-the_row-CExpr-1 Carrier.hidden Carrier.shown
cut_at_four = refl

pub cut_ends : CutEnds
unfolding trees form_in name_at word_at c event_of end_of value_in blank value_of digits out-CExpr roll-CExpr the_depth Rolled.depth Carrier.fold Carrier.roll Carrier.out shape-the_row-CStep-0 hidden-the_row-CStep-0 shown-the_row-CStep-0 shape-the_row-CExpr-1 hidden-the_row-CExpr-1 shown-the_row-CExpr-1 Carrier.hidden Carrier.shown
cut_ends = refl

pub no_statement : NoStatement
unfolding trees form_in name_at word_at c event_of end_of value_in blank value_of digits out-CExpr roll-CExpr the_depth Rolled.depth Carrier.fold Carrier.roll Carrier.out shape-the_row-CStep-0 hidden-the_row-CStep-0 shown-the_row-CStep-0 shape-the_row-CExpr-1 hidden-the_row-CExpr-1 shown-the_row-CExpr-1 Carrier.hidden Carrier.shown
no_statement = refl

pub no_function : NoFunction
unfolding trees form_in name_at word_at c event_of end_of value_in blank value_of digits out-CExpr roll-CExpr the_depth Rolled.depth Carrier.fold Carrier.roll Carrier.out shape-the_row-CStep-0 hidden-the_row-CStep-0 shown-the_row-CStep-0 shape-the_row-CExpr-1 hidden-the_row-CExpr-1 shown-the_row-CExpr-1 Carrier.hidden Carrier.shown
no_function = refl

pub all_done : AllDone
unfolding trees form_in name_at word_at c event_of end_of value_in blank value_of digits out-CExpr roll-CExpr the_depth Rolled.depth Carrier.fold Carrier.roll Carrier.out shape-the_row-CStep-0 hidden-the_row-CStep-0 shown-the_row-CStep-0 shape-the_row-CExpr-1 hidden-the_row-CExpr-1 shown-the_row-CExpr-1 Carrier.hidden Carrier.shown
all_done = refl
