use Rattle.std.proofs.Common.{[], ◌∷◌}
use Rattle.og_follow.specs.Carrying.{told, led, listed, ways}
use Rattle.og_follow.proofs.Carrying.{begins_then, spends_nothing}
use Rattle.og_follow.proofs.laws.units_are_begun.Goals as goal

pub returns-clause-spend : goal.returns-clause-spend
returns-clause-spend g c = λ code fuel d before mid after X P begins carries apart. begins_then code fuel d (told before) [] (told mid) (led after) (listed X) (ways P) begins carries apart

pub returns-clause-showing : goal.returns-clause-showing
returns-clause-showing g c = λ code fuel event d before mid after X P begins carries apart. begins_then code fuel d (told before) (event ∷ []) (told mid) (led after) (listed X) (ways P) begins carries apart

pub returns-clause-nothing : goal.returns-clause-nothing
returns-clause-nothing g c = λ code d before after P runs. spends_nothing code d (told before) (led after) (ways P) runs
