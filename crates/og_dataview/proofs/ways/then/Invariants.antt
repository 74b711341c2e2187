use Rattle.std.proofs.Common.{◌≡◌, map, take}
use Rattle.og_dataview.specs.Ways.{step_in}
use Rattle.og_dataview.proofs.ways.then.Given as goal

abbrev pub invariant-loop-place : goal.invariant-loop-place
invariant-loop-place l = l.list.items ≡ map (step_in l.second) (take l.place-index l.first)
