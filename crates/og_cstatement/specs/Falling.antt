-- Calls that are being carried out: each function stands before the one that called it.
use Rattle.std.specs.Prelude.{ℕ, List, [], ◌∷◌, ◌++◌, Bool, true, nat_lt, ◌&&◌}
use Rattle.og_cstatement.specs.declared.position.Call.{Call}
use Rattle.og_cstatement.specs.declared.position.Standing.{Standing}
use Rattle.og_cstatement.specs.declared.position.Standing.TheVariants.{Running, Idle, Stuck}

-- from the outermost one on, below a bound
abbrev pub falls : ℕ → List Call → Bool
falls top [] = true
falls top (c ∷ calls) = nat_lt c.function top && falls c.function calls

-- the function that runs behind those that wait
abbrev pub calls_standing : Standing → List Call → List Call
calls_standing (Running call) callers = callers ++ call ∷ []
calls_standing Idle callers = []
calls_standing (Stuck rule) callers = []
