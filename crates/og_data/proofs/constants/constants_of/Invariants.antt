use Rattle.std.proofs.Common.{◌≡◌, map, take}
use Rattle.std.specs.List.{enumerate_from}
use Rattle.og_dataview.specs.View.{constant_in_view}
use Rattle.og_data.proofs.constants.constants_of.Given as goal

abbrev pub invariant-loop-place : goal.invariant-loop-place
invariant-loop-place l = l.constants ≡ map (constant_in_view l.valued.scope.flat l.names) (enumerate_from 0 (take l.place l.declared))
