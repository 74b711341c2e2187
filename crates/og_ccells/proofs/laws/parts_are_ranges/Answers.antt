use Rattle.og_ccells.proofs.Filling.{part_at_filled}
use Rattle.og_ccells.proofs.Shapes.{part_put}
use Rattle.og_ccells.proofs.laws.parts_are_ranges.Goals as goal

pub returns-clause-read : goal.returns-clause-read
returns-clause-read c = λ shape part path at xs found. part_at_filled path shape at xs part found

pub returns-clause-written : goal.returns-clause-written
returns-clause-written c = λ shape part new path at xs found same fits. part_put shape part new path at xs found same fits
