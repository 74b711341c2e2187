-- Runs of steps, put together and at their end.
use Rattle.std.proofs.Common.{◌≡◌, ℕ, zero, suc, ◌+◌, List, ◌++◌, refl, sym, ap, ◌∙◌, arith}
use Rattle.std.proofs.lemmas.List.{append_assoc}
use Rattle.og_ir.specs.Steps.{Config, Ran, quiet, joined, and_then, exec}

-- events before events before a run
pub joined_twice : {E : Type 0} (first second : List E) (ran : Ran E) → joined first (joined second ran) ≡ joined (first ++ second) ran
joined_twice first second ran =
    ap (λ events. record { events = events; config = ran.config }) (sym (append_assoc first second ran.events))

-- n steps are j steps and then k steps, where n is j + k
pub exec_splits : {E : Type 0} (step : Config → Ran E) (j k n : ℕ) → n ≡ j + k → (config : Config) → exec step n config ≡ and_then (exec step j config) (exec step k)
exec_splits step zero k n e config =
    let same : n ≡ k = omega (arith, e) in ap (λ m. exec step m config) same
exec_splits step (suc j) k zero e config = absurd (omega (arith, e))
exec_splits step (suc j) k (suc n) e config =
    let here = step config in
    ap (joined here.events) (exec_splits step j k n (omega (arith, e)) here.config)
    ∙ joined_twice here.events (exec step j here.config).events (exec step k (exec step j here.config).config)

-- a configuration that one step keeps stays
pub exec_stays : {E : Type 0} (step : Config → Ran E) (config : Config) → step config ≡ quiet config → (n : ℕ) → exec step n config ≡ quiet config
exec_stays step config kept zero = refl
exec_stays step config kept (suc n) = ap (λ ran. and_then ran (exec step n)) kept ∙ exec_stays step config kept n
