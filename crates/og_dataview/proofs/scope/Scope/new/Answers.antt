use Rattle.std.proofs.Common.{map, subst}
use Rattle.og_dataview.specs.Scope.{key}
use Rattle.og_dataview.specs.Index.{IsIndex}
use Rattle.og_dataview.proofs.scope.Scope.new.Goals as goal

pub ends_of-requires : goal.ends_of-requires
ends_of-requires c = subst (λ ts. IsIndex (map (λ t. key t.name) ts) c.in_ok-types.types) c.as_slice.ensures c.in_ok-types.ensures

pub invariant_of-result : goal.invariant_of-result
invariant_of-result c = record {
  finds_types = subst (λ ts. IsIndex (map (λ t. key t.name) ts) c.in_ok-types.types) c.as_slice.ensures c.in_ok-types.ensures;
  finds_constants = subst (λ cs. IsIndex (map (λ x. key x.name) cs) c.in_ok-constants.constants) c.as_slice-2.ensures c.in_ok-constants.ensures;
  leads = c.in_ok-ends.ensures;
}
