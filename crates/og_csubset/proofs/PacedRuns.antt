-- Runs at a pace of one statement for each instruction are runs of single steps.
use Rattle.std.proofs.Common.{◌≡◌, ℕ, zero, suc, List, [], ◌∷◌, Option, refl, ap, ◌∙◌}
use Rattle.og_model.specs.declared.Model.{Model}
use Rattle.og_model.specs.Shown.{Event, End, Shown, Stimulus}
use Rattle.og_ir.specs.declared.Ir.{Ir}
use Rattle.og_ir.specs.Arithmetic.{in_64_bits}
use Rattle.og_ir.specs.Cells.{Cells}
use Rattle.og_ir.specs.Steps.{Config, Running, Over, Broken, Ran, joined, exec}
use Rattle.og_ir.specs.FlatSteps.{first_slots}
use Rattle.og_csubset.specs.Run.{Machine, shown_by, shown_of, runs, all_stimuli}
use Rattle.og_csubset.specs.FlatRun.{flat_machine, flat_runs}
use Rattle.og_csubset.specs.Paced.{Pace, exec_paced, paced_runs}

abbrev one : Pace
one = λ function place. 1

exec_at_one : {E : Type 0} (step : Config → Ran E) (n : ℕ) (config : Config) → exec_paced one step n 0 config ≡ exec step n config
exec_at_one step zero config = refl
exec_at_one step (suc n) (Running slots frame callers) =
    ap (joined (step (Running slots frame callers)).events) (exec_at_one step n (step (Running slots frame callers)).config)
exec_at_one step (suc n) (Over slots) = ap (joined (step (Over slots)).events) (exec_at_one step n (step (Over slots)).config)
exec_at_one step (suc n) (Broken trouble) =
    ap (joined (step (Broken trouble)).events) (exec_at_one step n (step (Broken trouble)).config)

shown_the_same : (ending : List Cells → End) (more more' : List Cells → List Shown) → ((slots : List Cells) → more slots ≡ more' slots) → (events : List Event) (config : Config) → shown_by ending more events config ≡ shown_by ending more' events config
shown_the_same ending more more' same events (Running slots frame callers) = refl
shown_the_same ending more more' same events (Over slots) = rw (same slots) refl
shown_the_same ending more more' same events (Broken trouble) = refl

runs_at_one : (machine : Machine) (n : ℕ) (stimuli : List (Option Stimulus)) (slots : List Cells) → paced_runs machine one n stimuli slots ≡ runs machine n stimuli slots
runs_at_one machine n [] slots = refl
runs_at_one machine n (stimulus ∷ stimuli) slots =
    ap (shown_of machine.ending (paced_runs machine one n stimuli)) (exec_at_one machine.step n (machine.begin stimulus slots))
    ∙ (let ran = exec machine.step n (machine.begin stimulus slots) in shown_the_same machine.ending (paced_runs machine one n stimuli) (runs machine n stimuli) (runs_at_one machine n stimuli) ran.events ran.config)

pub paced_at_one : (ir : Ir) (model : Model) (stimuli : List Stimulus) (n : ℕ) → paced_runs (flat_machine in_64_bits ir model) one n (all_stimuli stimuli) (first_slots model.types ir) ≡ flat_runs in_64_bits ir model stimuli n
paced_at_one ir model stimuli n = runs_at_one (flat_machine in_64_bits ir model) n (all_stimuli stimuli) (first_slots model.types ir)
