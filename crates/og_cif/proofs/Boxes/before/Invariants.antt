use Rattle.og_names.proofs.Loops.{Left}
use Rattle.og_cif.specs.File.{or_else, box_before}
use Rattle.og_cif.proofs.Boxes.before.Given as goal

abbrev pub invariant-loop-one : goal.invariant-loop-one
invariant-loop-one l = Left (λ boxes. or_else (box_before boxes l.place) l.last) l.one-items l.one-index (box_before l.self.list l.place)
