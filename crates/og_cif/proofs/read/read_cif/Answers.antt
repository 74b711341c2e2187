use Rattle.std.proofs.Common.{◌∙◌, sym}
use Rattle.og_cif.proofs.Whole.{box_in, box_out}
use Rattle.og_cif.proofs.read.read_cif.Goals as goal

pub returns : goal.returns
returns c box = (λ is. c.box_of.ensures ∙ box_in box c.args.comment.now is, λ e. box_out box c.args.comment.now (sym c.box_of.ensures ∙ e))
