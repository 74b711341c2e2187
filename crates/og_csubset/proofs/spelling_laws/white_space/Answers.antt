use Rattle.og_csubset.proofs.TextExamples.{white_space_none, white_space_much}
use Rattle.og_csubset.proofs.spelling_laws.white_space.Goals as goal

pub returns-clause-none : goal.returns-clause-none
returns-clause-none c = white_space_none

pub returns-clause-much : goal.returns-clause-much
returns-clause-much c = white_space_much
