-- What is known of a model whose code was made.
use Rattle.std.proofs.Common.{◌^◌, ◌<◌}
use Rattle.og_names.specs.Table.{IsTable}
use Rattle.og_model.specs.declared.Model.{Model}
use Rattle.og_model.specs.Forms.{UsesBasicStatesOnly}
use Rattle.og_model.specs.WellFormed.{IsWellFormed}
use Rattle.og_flatten.specs.FlatCode.{end_place}

pub record IsMade (model : Model) : Type 0 where
  pub formed : IsWellFormed model
  pub basic : UsesBasicStatesOnly model
  -- no name stands twice in the table of names
  pub table : IsTable model.names
  -- a place in the code has 32 bits, and so there are no more bodies
  pub few : end_place model < 2 ^ 32
