use Rattle.std.proofs.lemmas.Bool.{false≢true}
use Rattle.og_model.proofs.Computing.{trees}
use Rattle.og_model_examples.proofs.numbers.processes_have_a_start.Goals as goal

pub returns : goal.returns
unfolding trees
returns c = λ w. false≢true w.rules.start
