use Rattle.std.proofs.Common.{◌≡◌, map, take}
use Rattle.og_dataview.specs.View.{part_by, type_number}
use Rattle.og_data.proofs.numbers.Numbered.parts.Given as goal

abbrev pub invariant-loop-part : goal.invariant-loop-part
invariant-loop-part l = l.list ≡ map (part_by l.names (type_number l.self.known.limited.valued.scope.flat)) (take l.part-index l.parts)
