use Rattle.og_csubset.proofs.Complete.{CSpells-unique}
use Rattle.og_csubset.proofs.spelling_laws.one_program.Goals as goal

pub returns : goal.returns
returns c = CSpells-unique
