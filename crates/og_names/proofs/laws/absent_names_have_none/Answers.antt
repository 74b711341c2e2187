use Rattle.og_names.specs.Folding.{folded}
use Rattle.og_names.proofs.Places.{absent, not_there}
use Rattle.og_names.proofs.laws.absent_names_have_none.Goals as goal

pub returns : goal.returns
returns c = λ names name. (not_there names (folded name), absent names (folded name))
