use Rattle.og_csubset.proofs.Nested.{PassesNesting-unique, within_or_past, past_somewhere}
use Rattle.og_csubset.proofs.spelling_laws.one_deep_place.Goals as goal

pub returns-clause-unique : goal.returns-clause-unique
returns-clause-unique c = PassesNesting-unique

pub returns-clause-no_place : goal.returns-clause-no_place
returns-clause-no_place c = within_or_past

pub returns-clause-place : goal.returns-clause-place
returns-clause-place c = past_somewhere
