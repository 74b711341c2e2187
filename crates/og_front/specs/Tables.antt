-- The tables of the names of a model file, as the code holds them.
use Rattle.std.specs.Prelude.{◌≡◌}
use Rattle.og_front.specs.declared.rules.Tables.{Tables}
use Rattle.og_front.specs.declared.syntax.SystemText.{SystemText}
use Rattle.og_front.specs.Rules.{signal_table, state_table, outer_table}

-- the tables hold the names of the file
pub record AreTables (system : SystemText) (tables : Tables) : Type 0 where
  pub signals : tables.signals ≡ signal_table system
  pub states : tables.states ≡ state_table system
  pub outer : tables.outer ≡ outer_table system
