use Rattle.std.proofs.Common.{◌∙◌}
use Rattle.og_ranges.proofs.Back.{products_back}
use Rattle.og_ranges.proofs.operations.mul.Goals as goal

pub returns-clause-value : goal.returns-clause-value
returns-clause-value c = c.spanned.ensures.value ∙ products_back c.args.a c.args.b c.requires.left c.requires.right
