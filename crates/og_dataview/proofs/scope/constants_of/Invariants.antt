use Rattle.std.proofs.Common.{map, take}
use Rattle.og_flat.specs.declared.flat.ConstantNode.{ConstantNode}
use Rattle.og_dataview.specs.Scope.{key}
use Rattle.og_dataview.specs.Index.{IsIndex}
use Rattle.og_dataview.proofs.scope.constants_of.Given as goal

abbrev pub invariant-loop-place : goal.invariant-loop-place
invariant-loop-place l = IsIndex (map (λ (c : ConstantNode). key c.name) (take l.place l.constants)) l.index
