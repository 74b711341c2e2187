use Rattle.og_ir.proofs.ValueCells.{cells_hold}
use Rattle.og_ir.proofs.ValueRead.{held_is_in}
use Rattle.og_ir.proofs.value_laws.cells_hold_values.Goals as goal

pub returns-clause-again : goal.returns-clause-again
returns-clause-again c = cells_hold

pub returns-clause-in_type : goal.returns-clause-in_type
returns-clause-in_type c = held_is_in
