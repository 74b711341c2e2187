-- Flat code that is never stuck with the numbers of 64 bits shows the same with all numbers.
use Rattle.std.proofs.Common.{◌≡◌, ℕ, true, false, List, [], ◌∷◌, inl, inr, Option, refl, sym, ap, ◌∙◌}
use Rattle.std.proofs.lemmas.Bool.{false≢true}
use Rattle.og_model.specs.declared.Model.{Model}
use Rattle.og_model.specs.Shown.{Event, End, Rest, Fault, Stopped, Past, Stuck, Shown, Stimulus, has_stuck}
use Rattle.og_ir.specs.declared.Ir.{Ir}
use Rattle.og_ir.specs.Cells.{Cells}
use Rattle.og_ir.specs.Arithmetic.{Overflow, in_64_bits, any_number}
use Rattle.og_ir.specs.Steps.{Config, Running, Over, Broken, Ran, exec}
use Rattle.og_ir.specs.FlatSteps.{first_slots}
use Rattle.og_ir.proofs.Bounded.{UnderRun, under_run}
use Rattle.og_csubset.specs.Run.{goes_on, shown_by, shown_of, runs, all_stimuli}
use Rattle.og_csubset.specs.FlatRun.{flat_event, flat_machine, flat, flat_in_64_bits}

-- what goes on is the same where nothing is stuck
same_on : (end : End) (events : List Event) (more other : List Shown) → (has_stuck more ≡ false → other ≡ more) → has_stuck (record { events = events; end = end } ∷ goes_on end more []) ≡ false → goes_on end other [] ≡ goes_on end more []
same_on (Rest paths variables timers) events more other h free = h free
same_on (Fault kind place variables timers) events more other h free = refl
same_on (Stopped variables) events more other h free = h free
same_on Past events more other h free = refl
same_on (Stuck rule) events more other h free = refl

same_by : (ending : List Cells → End) (more other : List Cells → List Shown) → ((globals : List Cells) → has_stuck (more globals) ≡ false → other globals ≡ more globals) → (events : List Event) (config : Config) → has_stuck (shown_by ending more events config) ≡ false → shown_by ending other events config ≡ shown_by ending more events config
same_by ending more other h events (Running globals frame callers) free = refl
same_by ending more other h events (Broken trouble) free = refl
same_by ending more other h events (Over globals) free =
    ap (λ rest. record { events = events; end = ending globals } ∷ rest) (same_on (ending globals) events (more globals) (other globals) (h globals) free)

-- a broken run is stuck
broken_is_stuck : (ending : List Cells → End) (more : List Cells → List Shown) (ran : Ran Event) → ran.config ≡ Broken Overflow → has_stuck (shown_of ending more ran) ≡ true
broken_is_stuck ending more ran e = ap (λ config. has_stuck (shown_by ending more ran.events config)) e

same_one : (ending : List Cells → End) (more other : List Cells → List Shown) → ((globals : List Cells) → has_stuck (more globals) ≡ false → other globals ≡ more globals) → (ran ran' : Ran Event) → UnderRun ran ran' → has_stuck (shown_of ending more ran) ≡ false → shown_of ending other ran' ≡ shown_of ending more ran
same_one ending more other h ran ran' (inl broken) free = absurd (false≢true (sym free ∙ broken_is_stuck ending more ran broken))
same_one ending more other h ran ran' (inr same) free =
    ap (shown_of ending other) same ∙ same_by ending more other h ran.events ran.config free

runs_same : (ir : Ir) (model : Model) (n : ℕ) (stimuli : List (Option Stimulus)) (slots : List Cells) → has_stuck (runs (flat_machine in_64_bits ir model) n stimuli slots) ≡ false → runs (flat_machine any_number ir model) n stimuli slots ≡ runs (flat_machine in_64_bits ir model) n stimuli slots
runs_same ir model n [] slots free = refl
runs_same ir model n (stimulus ∷ stimuli) slots free =
    let config = (flat_machine in_64_bits ir model).begin stimulus slots in
    same_one (flat_machine in_64_bits ir model).ending (runs (flat_machine in_64_bits ir model) n stimuli) (runs (flat_machine any_number ir model) n stimuli)
    (runs_same ir model n stimuli)
    (exec (flat_machine in_64_bits ir model).step n config) (exec (flat_machine any_number ir model).step n config)
    (under_run (flat_event model ir) ir n config) free

pub bounded_same : (ir : Ir) (model : Model) (stimuli : List Stimulus) (n : ℕ) → has_stuck (flat_in_64_bits ir model stimuli n) ≡ false → flat ir model stimuli n ≡ flat_in_64_bits ir model stimuli n
unfolding flat flat_in_64_bits
bounded_same ir model stimuli n free =
    runs_same ir model n (all_stimuli stimuli) (first_slots model.types ir) free
