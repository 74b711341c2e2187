use Rattle.std.proofs.Common.{[], ◌∷◌}
use Rattle.og_follow.specs.Carrying.{told, led, listed, ways}
use Rattle.og_follow.proofs.Carrying.{passes_then, then_passes}
use Rattle.og_follow.proofs.laws.straight_code_is_added.Goals as goal

pub returns-clause-before : goal.returns-clause-before
returns-clause-before g c = λ code fuel d before mid after X P passes carries apart near. passes_then code fuel d (told before) [] (told mid) (led after) (listed X) (ways P) passes carries apart near

pub returns-clause-showing : goal.returns-clause-showing
returns-clause-showing g c = λ code fuel event d before mid after X P passes carries apart near. passes_then code fuel d (told before) (event ∷ []) (told mid) (led after) (listed X) (ways P) passes carries apart near

pub returns-clause-after : goal.returns-clause-after
returns-clause-after g c = λ code fuel d before mid after X P carries passes head near tail. then_passes code fuel d (told before) (led mid) (led after) (listed X) (ways P) carries passes head near tail
