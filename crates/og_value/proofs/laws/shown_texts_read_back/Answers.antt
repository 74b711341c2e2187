use Rattle.og_value.proofs.Again.{reads_back}
use Rattle.og_value.proofs.laws.shown_texts_read_back.Goals as goal

pub returns : goal.returns
returns c = λ types names table numbered id v h m. reads_back types names id table numbered v h m
