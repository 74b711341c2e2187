use Rattle.og_follow.specs.Carrying.{told, led, listed, ways}
use Rattle.og_follow.proofs.Settling.{settles}
use Rattle.og_follow.proofs.trials.settling_is_followed.Goals as goal

pub returns : goal.returns
returns c = λ code M settling tests firing fired after T X F is a.
    settles code M (λ a. told (settling a)) (λ a xs. told (tests a xs)) (λ a x. told (firing a x)) (led fired) (led after) (listed T) (listed X) (ways F) is a
