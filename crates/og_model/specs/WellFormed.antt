-- Which models are accepted: the tree is one of a text, and no rule is broken. The rule on the inlined size (M4) is not
-- among them, so that this also holds of a model whose calls were replaced by the procedures that they call.
use Rattle.og_model.specs.declared.Model.{Model}
use Rattle.og_model.specs.Resolved.{IsResolved}
use Rattle.og_model.specs.Rules.{KeepsRules}

-- what the compiler asks of a model
pub record IsWellFormed (M : Model) : Type 0 where
  pub resolved : IsResolved M
  pub rules : KeepsRules M
