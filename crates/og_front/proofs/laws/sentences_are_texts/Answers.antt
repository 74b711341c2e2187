use Rattle.og_front.proofs.Sentences.{spelt_forms, forms_spelt}
use Rattle.og_front.proofs.laws.sentences_are_texts.Goals as goal

pub returns : goal.returns
returns c = λ system tokens. (spelt_forms system tokens, forms_spelt system tokens)
