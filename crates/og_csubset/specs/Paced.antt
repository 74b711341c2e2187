-- Flat code of which each instruction takes some statements, as it does where it is printed as a program of the C subset.
-- A pace says how many, for each place of each function, the place behind the last instruction being the function's end.
-- What an instruction does is done with the last of its statements. At every pace code shows the same in the end; how far
-- it has come after a number of statements depends on the pace.
use Rattle.std.specs.Prelude.{◌≡◌, ℕ, zero, suc, ◌+◌, ◌≤◌, List, [], ◌∷◌, Option, false, if◌then◌else◌, nat_lt, length}
use Rattle.og_model.specs.declared.Model.{Model}
use Rattle.og_model.specs.Shown.{Shown, Stimulus, has_stuck}
use Rattle.og_ir.specs.declared.Ir.{Ir}
use Rattle.og_ir.specs.declared.FlatFn.{FlatFn}
use Rattle.og_ir.specs.Cells.{Cells}
use Rattle.og_ir.specs.Arithmetic.{in_64_bits}
use Rattle.og_ir.specs.Steps.{Config, Running, Over, Broken, Ran, quiet, and_then}
use Rattle.og_ir.specs.FlatSteps.{first_slots}
use Rattle.og_csubset.specs.Run.{Machine, shown_of, all_stimuli}
use Rattle.og_csubset.specs.FlatRun.{flat_machine, flat_in_64_bits}
use Rattle.og_csubset.specs.Agreement.{AreStimuli}

-- how many statements stand for the instruction of a function at a place
abbrev pub Pace : Type 0
Pace = ℕ → ℕ → ℕ

-- each takes a statement or more
abbrev pub IsPace : Pace → Type 0
IsPace pace = (function place : ℕ) → 1 ≤ pace function place

-- the statements of the next step
abbrev pub statements_at : Pace → Config → ℕ
statements_at pace (Running slots frame callers) = pace frame.function frame.place
statements_at pace (Over slots) = 1
statements_at pace (Broken trouble) = 1

-- so many statements, where some of those of the next step are carried out already
abbrev pub exec_paced : {E : Type 0} → Pace → (Config → Ran E) → ℕ → ℕ → Config → Ran E
exec_paced pace step zero begun config = quiet config
exec_paced pace step (suc n) begun config =
    if nat_lt (begun + 1) (statements_at pace config) then exec_paced pace step n (begun + 1) config
    else and_then (step config) (exec_paced pace step n 0)

-- the stimuli one after the other, with so many statements each
abbrev pub paced_runs : Machine → Pace → ℕ → List (Option Stimulus) → List Cells → List Shown
paced_runs machine pace statements [] slots = []
paced_runs machine pace statements (stimulus ∷ stimuli) slots =
    shown_of machine.ending (paced_runs machine pace statements stimuli)
    (exec_paced pace machine.step statements 0 (machine.begin stimulus slots))

-- what the code shows at a pace with at most so many statements for each stimulus, where a number outside 64 bits is Stuck
unfoldable pub paced : Pace → Ir → Model → List Stimulus → ℕ → List Shown
paced pace ir model stimuli statements =
    paced_runs (flat_machine in_64_bits ir model) pace statements (all_stimuli stimuli) (first_slots model.types ir)

-- the statements of the first places
abbrev pub statements_below : (ℕ → ℕ) → ℕ → ℕ
statements_below pace zero = 0
statements_below pace (suc n) = statements_below pace n + pace n

abbrev pub paced_size_from : Pace → ℕ → List FlatFn → ℕ
paced_size_from pace k [] = 0
paced_size_from pace k (f ∷ functions) = statements_below (pace k) (length f.code + 1) + paced_size_from pace (k + 1) functions

-- the statements of all functions, with their ends
abbrev pub paced_size : Pace → Ir → ℕ
paced_size pace ir = paced_size_from pace 0 ir.functions

-- the code is never stuck, whatever comes: each number that it computes is one of 64 bits, each index lies inside its array and
-- no divisor is zero
abbrev pub IsSafe : Ir → Model → Type 0
IsSafe ir model =
    (stimuli : List Stimulus) → AreStimuli model stimuli → (steps : ℕ) → has_stuck (flat_in_64_bits ir model stimuli steps) ≡ false
