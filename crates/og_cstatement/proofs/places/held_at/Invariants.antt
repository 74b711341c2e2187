use Rattle.std.specs.Option.{option_map}
use Rattle.og_csubset.specs.Kinds.{global_kind}
use Rattle.og_cload.specs.Held.{kind_of}
use Rattle.og_names.proofs.Loops.{Left}
use Rattle.og_cstatement.specs.Resolved.{all_kind, path_of}
use Rattle.og_cstatement.proofs.places.held_at.Given as goal

abbrev pub invariant-loop-step : goal.invariant-loop-step
invariant-loop-step l =
    Left (λ ys. all_kind (path_of l.program ys) (option_map kind_of l.held)) l.step-items l.step-index
    (all_kind (path_of l.program l.place.path) (global_kind l.program l.place.name.bytes))
