use Rattle.og_system.specs.Bodies.{home_at, bodies_of_block_part}
use Rattle.og_system.proofs.Counted.{Counting}
use Rattle.og_system.proofs.counting.count_block_parts.Given as goal

abbrev pub invariant-loop-part : goal.invariant-loop-part
invariant-loop-part l = Counting (bodies_of_block_part (home_at l.system l.block)) l.parts l.part-index l.count l.initial.count
