-- The flat code of a model can be printed.
use Rattle.std.proofs.Common.{refl, arith}
use Rattle.og_model.specs.declared.Model.{Model}
use Rattle.og_csubset.specs.Fair.{Fair}
use Rattle.og_flatten.specs.FlatCode.{code_of}
use Rattle.og_flatten.proofs.PlainSlots.{by_slots}
use Rattle.og_flatten.proofs.Parameters.{slots_supported, few_cells}
use Rattle.og_flatten.proofs.Made.{IsMade}
use Rattle.og_flatten.proofs.Right.{functions_right}
use Rattle.og_flatten.proofs.Instructions.{shallow}
use Rattle.og_flatten.proofs.Shapes.{control, fields, values}
use Rattle.og_flatten.proofs.Numbered.{events, functions}
use Rattle.og_flatten.proofs.Named.{named, labelled}
use Rattle.og_flatten.proofs.Apart.{apart}

pub fair : (model : Model) → IsMade model → Fair (code_of model) model
fair model made = by_slots model made.basic (λ ir. Fair ir model) (record {
  types = made.formed.resolved.types;
  supported = slots_supported model made.formed.rules.supported_parameters;
  right = functions_right model made;
  names = named model made;
  differ = apart model made;
  labels = labelled model made;
  small = let few = few_cells model made.formed.rules.few_cells in omega (arith, few);
  shallow = shallow model;
  control = control model made;
  fields = fields model made;
  events = events model made;
  values = values model made;
  functions = functions model made;
})
