use Rattle.std.proofs.Common.{refl}
use Rattle.og_flat.specs.Flattening.{flat_of}
use Rattle.og_dataview.specs.View.{names_after}
use Rattle.og_datatypes.proofs.Fit.{names_fit}
use Rattle.og_datatypes.proofs.Standing.{all_stand}
use Rattle.og_datatypes.proofs.laws.types_are_a_table.Goals as goal

pub returns-clause-names : goal.returns-clause-names
returns-clause-names c modules names none = names_fit modules names (names_after names modules) (flat_of modules) none refl refl

pub returns-clause-table : goal.returns-clause-table
returns-clause-table c modules names none few =
    all_stand (flat_of modules) (names_after names modules) (names_fit modules names (names_after names modules) (flat_of modules) none refl refl) few
