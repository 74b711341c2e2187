use Rattle.og_value.proofs.Again.{whole_is_longest}
use Rattle.og_value.proofs.laws.whole_texts_are_longest.Goals as goal

pub returns : goal.returns
returns c = whole_is_longest
