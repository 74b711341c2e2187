use Rattle.std.specs.List.{flat_map}
use Rattle.og_declared.specs.Spaces.{in_space, spaces_of_unit}
use Rattle.og_system.proofs.Noticed.{Noted}
use Rattle.og_declared.proofs.spaces.note_spaces.Given as goal

abbrev pub invariant-loop-unit : goal.invariant-loop-unit
invariant-loop-unit l = Noted (λ unit. flat_map in_space (spaces_of_unit unit)) l.units l.unit-index l.first l.initial.first
