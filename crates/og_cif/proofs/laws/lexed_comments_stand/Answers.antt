use Rattle.og_cif.proofs.OneList.{they_stand}
use Rattle.og_cif.proofs.laws.lexed_comments_stand.Goals as goal

pub returns : goal.returns
returns c = they_stand
