use Rattle.og_forms.proofs.Built.{none_unbuilt}
use Rattle.og_forms.proofs.laws.first_of_forms.Goals as goal

pub returns : goal.returns
returns c = none_unbuilt
