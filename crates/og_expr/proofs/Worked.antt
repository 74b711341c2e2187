-- The worked examples of code, computed.
use Rattle.std.proofs.Common.{refl}
use Rattle.og_model.proofs.Computing.{trees}
use Rattle.og_ir.specs.declared.Flat.{out-Flat, roll-Flat}
use Rattle.og_ir.specs.declared.Flat.TheBlock as block
use Rattle.og_ir.specs.FlatSteps.{value_of}
use Rattle.og_ranges.specs.Ranges.{range_of}
use Rattle.og_expr.specs.Lowering.{lowered}
use Rattle.og_expr.specs.Examples.{CodeGivesNumbers, CodeGivesTruths}
use denote.Hole.Rolled
use denote.Hole.Carrier

pub numbers : CodeGivesNumbers
unfolding trees lowered range_of value_of out-Flat roll-Flat block.the_depth Rolled.depth Carrier.fold Carrier.roll Carrier.out block.shape-the_row-Step2-0 block.hidden-the_row-Step2-0 block.shown-the_row-Step2-0 block.shape-the_row-Flat-1 block.hidden-the_row-Flat-1 block.shown-the_row-Flat-1 Carrier.hidden Carrier.shown
numbers = record { product = refl; difference = refl; truncated = refl; modulus = refl; rest = refl; quotient = refl; fault = refl; constant = refl }

pub truths : CodeGivesTruths
unfolding trees lowered range_of value_of out-Flat roll-Flat block.the_depth Rolled.depth Carrier.fold Carrier.roll Carrier.out block.shape-the_row-Step2-0 block.hidden-the_row-Step2-0 block.shown-the_row-Step2-0 block.shape-the_row-Flat-1 block.hidden-the_row-Flat-1 block.shown-the_row-Flat-1 Carrier.hidden Carrier.shown
truths = record { less = refl; more = refl; not_needed = refl; needed = refl; both = refl; plain = refl; first = refl; second = refl; neither = refl; one = refl }
