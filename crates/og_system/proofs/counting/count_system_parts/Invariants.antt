use Rattle.og_system.specs.Bodies.{bodies_of_system_part}
use Rattle.og_system.proofs.Counted.{Counting}
use Rattle.og_system.proofs.counting.count_system_parts.Given as goal

abbrev pub invariant-loop-part : goal.invariant-loop-part
invariant-loop-part l = Counting (bodies_of_system_part l.system) l.parts l.part-index l.count l.initial.count
