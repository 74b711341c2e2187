use Rattle.og_cload.proofs.Known.{known_first}
use Rattle.og_cload.proofs.types.structs_known.Goals as goal

pub loop-one-init : goal.loop-one-init
loop-one-init c = known_first _ _ c.new-names.ensures.items
