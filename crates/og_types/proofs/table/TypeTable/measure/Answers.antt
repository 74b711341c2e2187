use Rattle.og_types.proofs.Measured.{measured_at, shallow_at}
use Rattle.og_types.proofs.table.TypeTable.measure.Goals as goal

pub returns-clause-value : goal.returns-clause-value
returns-clause-value c = measured_at _ _ _ _ _ _ c.self.invariant c.self.view_is c.as_slice.ensures c.requires

pub returns-clause-shallow : goal.returns-clause-shallow
returns-clause-shallow c = shallow_at _ _ _ _ _ _ c.self.invariant c.self.view_is c.as_slice.ensures c.requires
