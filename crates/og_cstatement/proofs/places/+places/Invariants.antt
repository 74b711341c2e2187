use Rattle.std.proofs.Common.{◌≤◌, []}
use Rattle.std.specs.Option.{option_map}
use Rattle.og_csubset.specs.Kinds.{global_kind}
use Rattle.og_cload.specs.Held.{kind_of}
use Rattle.og_names.proofs.Loops.{Left}
use Rattle.og_ccells.proofs.Widths.{most}
use Rattle.og_cstatement.specs.Resolved.{global_offset}
use Rattle.og_cstatement.proofs.Numbered.{far}
use Rattle.og_cstatement.proofs.places.+places.Given as goal

abbrev pub invariant-place_of-loop-step : goal.invariant-place_of-loop-step
invariant-place_of-loop-step l =
    (l.offset ≤ most) × Left (λ ys. far l.program l.offset l.terms ys (option_map kind_of l.held)) l.step-items l.step-index
    (far l.program (global_offset l.program l.place.name.bytes) [] l.place.path (global_kind l.program l.place.name.bytes))
