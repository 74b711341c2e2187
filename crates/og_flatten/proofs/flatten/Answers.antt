use Rattle.std.proofs.Common.{◌∙◌}
use Rattle.og_flatten.proofs.Composed.{made_is_code, made_has_own_units}
use Rattle.og_flatten.proofs.flatten.Goals as goal

pub returns-clause-code : goal.returns-clause-code
returns-clause-code c =
    made_is_code c.args.model.now c.as_slice.result.now c.make_code.result c.requires.formed c.requires.basic c.make_code.ensures.table (c.as_slice.ensures ∙ c.requires.numbered) c.make_code.ensures.made c.make_code.ensures.few

pub returns-clause-units : goal.returns-clause-units
returns-clause-units c =
    made_has_own_units c.args.model.now c.as_slice.result.now c.make_code.result c.requires.formed c.requires.basic c.make_code.ensures.table (c.as_slice.ensures ∙ c.requires.numbered) c.make_code.ensures.made c.make_code.ensures.few
