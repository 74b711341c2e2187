use Rattle.og_ir.proofs.ValueCells.{cells_hold}
use Rattle.og_layout.proofs.values_are_held.Goals as goal

pub returns : goal.returns
returns c = λ sorts t v is. cells_hold sorts t v is
