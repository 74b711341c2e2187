use Rattle.std.proofs.Common.{map, take}
use Rattle.og_flat.specs.declared.flat.TypeNode.{TypeNode}
use Rattle.og_dataview.specs.Scope.{key}
use Rattle.og_dataview.specs.Index.{IsIndex}
use Rattle.og_dataview.proofs.scope.types_of.Given as goal

abbrev pub invariant-loop-place : goal.invariant-loop-place
invariant-loop-place l = IsIndex (map (λ (t : TypeNode). key t.name) (take l.place l.types)) l.index
