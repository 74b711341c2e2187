use Rattle.std.proofs.lemmas.Bool.{false≢true}
use Rattle.og_model.proofs.Computing.{trees}
use Rattle.og_model_examples.proofs.numbers.first_values_are_in_their_types.Goals as goal

pub returns : goal.returns
unfolding trees
returns c = λ w. false≢true w.rules.first_values
