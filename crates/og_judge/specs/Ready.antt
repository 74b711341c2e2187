-- Which models can be compiled and run today.
use Rattle.og_model.specs.declared.Model.{Model}
use Rattle.og_model.specs.Forms.{UsesBasicStatesOnly}
use Rattle.og_model.specs.WellFormed.{IsWellFormed}

pub record CanRun (model : Model) : Type 0 where
  pub formed : IsWellFormed model
  pub basic : UsesBasicStatesOnly model
