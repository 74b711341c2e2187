use Rattle.std.proofs.Common.{max}
use Rattle.og_names.proofs.Loops.{Left}
use Rattle.og_types.specs.Table.{depth_of_parts}
use Rattle.og_types.specs.Measures.{depth_in}
use Rattle.og_types.proofs.measures.deepest.Given as goal

abbrev pub invariant-loop-part : goal.invariant-loop-part
invariant-loop-part l =
    Left (λ parts. max l.deepest (depth_of_parts (depth_in l.measures) parts)) l.parts l.part-index (depth_of_parts (depth_in l.measures) l.parts)
