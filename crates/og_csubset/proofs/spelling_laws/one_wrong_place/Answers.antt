use Rattle.og_csubset.proofs.WrongPlace.{GoesWrong-unique, spelt_or_wrong}
use Rattle.og_csubset.proofs.Judged.{judged}
use Rattle.og_csubset.proofs.spelling_laws.one_wrong_place.Goals as goal

pub returns-clause-unique : goal.returns-clause-unique
returns-clause-unique c = GoesWrong-unique

pub returns-clause-nowhere : goal.returns-clause-nowhere
returns-clause-nowhere c = spelt_or_wrong

pub returns-clause-somewhere : goal.returns-clause-somewhere
returns-clause-somewhere c = judged
