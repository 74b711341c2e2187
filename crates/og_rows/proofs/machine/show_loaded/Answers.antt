-- The regions are those that were numbered.
use Rattle.og_rows.proofs.machine.show_loaded.Goals as goal

pub started-requires : goal.started-requires
started-requires c = c.in-Ok-number.ensures
