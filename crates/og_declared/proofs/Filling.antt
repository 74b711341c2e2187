-- Loops that add names to a table.
use Rattle.og_system.proofs.Adding.{with_both, adding_first, adding_more, adding_all, naming_first, naming_more, naming_all}

pub ruleset fills = (with_both, adding_first, adding_more, adding_all, naming_first, naming_more, naming_all)
