use Rattle.std.specs.List.{filter}
use Rattle.og_system.specs.Bodies.{homes_of_system_part, refers}
use Rattle.og_system.proofs.Foremost.{Searching}
use Rattle.og_system.proofs.bodies.home_in_system.Given as goal

abbrev pub invariant-loop-part : goal.invariant-loop-part
invariant-loop-part l = Searching (λ part. filter (refers l.process) (homes_of_system_part l.system part)) l.parts l.part-index
