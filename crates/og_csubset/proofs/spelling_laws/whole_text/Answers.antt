use Rattle.og_csubset.proofs.TextExamples.{whole_text_counting, whole_text_forms}
use Rattle.og_csubset.proofs.spelling_laws.whole_text.Goals as goal

pub returns-clause-counting : goal.returns-clause-counting
returns-clause-counting c = whole_text_counting

pub returns-clause-forms : goal.returns-clause-forms
returns-clause-forms c = whole_text_forms
