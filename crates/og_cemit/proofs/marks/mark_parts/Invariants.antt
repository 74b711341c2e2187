use Rattle.std.proofs.Common.{◌≡◌, take, map}
use Rattle.og_types.specs.declared.Part.{Part}
use Rattle.og_cemit.specs.Marks.{all_marked}
use Rattle.og_cemit.proofs.marks.mark_parts.Given as goal

abbrev pub invariant-loop-part : goal.invariant-loop-part
invariant-loop-part l = l.marks.items ≡ all_marked (map (λ (p : Part). p.sort.0) (take l.part-index l.parts)) l.initial.marks.items
