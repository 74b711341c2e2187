use Rattle.std.proofs.Common.{arith}
use Rattle.og_csubset.proofs.Nested.{within_or_past}
use Rattle.og_csubset.proofs.WrongPlace.{spelt_or_wrong}
use Rattle.og_csubset.proofs.OneAnswer.{one_answer}
use Rattle.og_csubset.proofs.spelling_laws.one_answer.Goals as goal

pub returns-clause-some : goal.returns-clause-some
returns-clause-some c = one_answer

pub returns-clause-not_spelt_and_deep : goal.returns-clause-not_spelt_and_deep
returns-clause-not_spelt_and_deep c limit text before within deep = within_or_past limit text before deep.passes within

pub returns-clause-not_spelt_and_bad : goal.returns-clause-not_spelt_and_bad
returns-clause-not_spelt_and_bad c limit P text before spelt bad = spelt_or_wrong P text before spelt bad.wrong

pub returns-clause-not_deep_and_bad : goal.returns-clause-not_deep_and_bad
returns-clause-not_deep_and_bad c limit text before other deep bad =
    absurd (omega (arith, deep.wrong_later other bad.wrong, bad.passes_later before deep.passes))
