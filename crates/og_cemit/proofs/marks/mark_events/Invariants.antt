use Rattle.std.proofs.Common.{◌≡◌, take}
use Rattle.std.specs.List.{flat_map}
use Rattle.og_cemit.specs.Marks.{all_marked}
use Rattle.og_cemit.specs.Emitted.{shows}
use Rattle.og_cemit.proofs.marks.mark_events.Given as goal

abbrev pub invariant-loop-instruction : goal.invariant-loop-instruction
invariant-loop-instruction l = l.marks.items ≡ all_marked (flat_map shows (take l.instruction-index l.code)) l.initial.marks.items
