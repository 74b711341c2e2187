use Rattle.std.proofs.lemmas.Bool.{false≢true}
use Rattle.og_model.proofs.Computing.{trees}
use Rattle.og_model_examples.proofs.numbers.further_forms.Goals as goal

pub returns-clause-states : goal.returns-clause-states
unfolding trees
returns-clause-states c = λ u. false≢true u.states

pub returns-clause-data : goal.returns-clause-data
unfolding trees
returns-clause-data c = λ u. false≢true u.states
