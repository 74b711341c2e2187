use Rattle.og_csubset.proofs.TextLayout.{plain_text_spells, plain_text_nests}
use Rattle.og_csubset.proofs.WellMade.{well_made}
use Rattle.og_csubset.proofs.spelling_laws.plain_text_of_each.Goals as goal

pub returns-clause-well_made : goal.returns-clause-well_made
returns-clause-well_made c = well_made

pub returns-clause-spells : goal.returns-clause-spells
returns-clause-spells c = plain_text_spells

pub returns-clause-nests : goal.returns-clause-nests
returns-clause-nests c = plain_text_nests
