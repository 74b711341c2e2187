use Rattle.std.proofs.lemmas.Bool.{false≢true}
use Rattle.og_model.proofs.Computing.{trees}
use Rattle.og_model_examples.proofs.numbers.trees_ask_no_rule.Goals as goal

pub returns-clause-refused : goal.returns-clause-refused
unfolding trees
returns-clause-refused c = λ w. false≢true w.rules.procedures_enter_none
