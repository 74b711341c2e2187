use Rattle.std.proofs.Common.{◌≡◌, take, map}
use Rattle.og_ir.specs.declared.Case.{Case}
use Rattle.og_cemit.specs.Marks.{all_marked}
use Rattle.og_cemit.proofs.marks.mark_cases.Given as goal

abbrev pub invariant-loop-case : goal.invariant-loop-case
invariant-loop-case l = l.marks.items ≡ all_marked (map (λ (c : Case). c.to) (take l.case-index l.cases)) l.initial.marks.items
