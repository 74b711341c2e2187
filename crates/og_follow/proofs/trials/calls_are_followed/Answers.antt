use Rattle.og_follow.specs.Carrying.{told, led, ways}
use Rattle.og_follow.proofs.Calls.{call_carried, calls_itself, call_action}
use Rattle.og_follow.proofs.trials.calls_are_followed.Goals as goal

pub returns-clause-body : goal.returns-clause-body
returns-clause-body c = λ code fuel go p ps k before inside mid after P is. call_carried code fuel go p ps k (told before) (told inside) (led mid) (led after) (ways P) is

pub returns-clause-action : goal.returns-clause-action
returns-clause-action c = λ code fuel go M b place rest p args x before after P goes faults. call_action code fuel go M b place rest p args x (told before) (led after) (ways P) goes faults

pub returns-clause-recursive : goal.returns-clause-recursive
returns-clause-recursive c = λ code M p calling inside mid after P is.
    calls_itself code M p (λ k ps. told (calling k ps)) (λ k ps. told (inside k ps)) (λ k ps. led (mid k ps)) (λ k ps. led (after k ps)) (ways P) is
