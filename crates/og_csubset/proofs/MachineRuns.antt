-- Runs over a list of stimuli with more and with fewer steps, for any machine whose ended runs stay.
use Rattle.std.proofs.Common.{◌≡◌, ℕ, ◌+◌, false, List, [], ◌∷◌, ◌++◌, Option, refl, sym, ap, subst, ◌∙◌}
use Rattle.std.proofs.lemmas.Bool.{false≢true}
use Rattle.std.proofs.lemmas.List.{append-nil}
use Rattle.og_model.specs.Shown.{Event, End, Rest, Fault, Stopped, Past, Stuck, Shown, Stimulus, has_past, BeginsEntry, Begins}
use Rattle.og_ir.specs.Cells.{Cells}
use Rattle.og_ir.specs.Arithmetic.{Trouble}
use Rattle.og_ir.specs.Steps.{Config, Running, Over, Broken, Ran, quiet, joined, exec}
use Rattle.og_ir.proofs.Runs.{exec_splits, exec_stays}
use Rattle.og_csubset.specs.Run.{Machine, goes_on, shown_by, shown_of, runs}

-- a run that is over or broken stays as it is
pub record Keeps (step : Config → Ran Event) : Type 0 where
  pub over : (globals : List Cells) → step (Over globals) ≡ quiet (Over globals)
  pub broken : (trouble : Trouble) → step (Broken trouble) ≡ quiet (Broken trouble)

-- nothing more is shown where a configuration stays
stays_joined : (step : Config → Ran Event) (k : ℕ) (events : List Event) (config : Config) → step config ≡ quiet config → joined events (exec step k config) ≡ record { events = events; config = config }
stays_joined step k events config kept =
    ap (joined events) (exec_stays step config kept k)
    ∙ ap (λ es. record { events = es; config = config }) (append-nil events)

-- an entry begins itself
begins_itself : (end : End) (events : List Event) → BeginsEntry end events (record { events = events; end = end }) (record { events = events; end = end })
begins_itself (Rest paths variables timers) events = refl
begins_itself (Fault kind place variables timers) events = refl
begins_itself (Stopped variables) events = refl
begins_itself Past events = ([], sym (append-nil events))
begins_itself (Stuck rule) events = refl

-- where further stimuli go on, and where they do not
begins_on : (end : End) (more more' : List Shown) → Begins more more' → Begins (goes_on end more []) (goes_on end more' [])
begins_on (Rest paths variables timers) more more' h = h
begins_on (Fault kind place variables timers) more more' h = tt
begins_on (Stopped variables) more more' h = h
begins_on Past more more' h = tt
begins_on (Stuck rule) more more' h = tt

-- an entry that was cut short begins whatever goes on after its events
begins_cut : (ending : List Cells → End) (more : List Cells → List Shown) (events rest : List Event) (config : Config) → Begins (record { events = events; end = Past } ∷ []) (shown_by ending more (events ++ rest) config)
begins_cut ending more events rest (Running globals frame callers) = ((rest, refl), tt)
begins_cut ending more events rest (Over globals) = ((rest, refl), tt)
begins_cut ending more events rest (Broken trouble) = ((rest, refl), tt)

-- one stimulus with k steps more
begins_one : (step : Config → Ran Event) → Keeps step → (ending : List Cells → End) (more more' : List Cells → List Shown) → ((globals : List Cells) → Begins (more globals) (more' globals)) → (k : ℕ) (events : List Event) (config : Config) → Begins (shown_by ending more events config) (shown_of ending more' (joined events (exec step k config)))
begins_one step keeps ending more more' h k events (Running globals frame callers) =
    let ran = exec step k (Running globals frame callers) in begins_cut ending more' events ran.events ran.config
begins_one step keeps ending more more' h k events (Over globals) =
    subst (λ ran. Begins (shown_by ending more events (Over globals)) (shown_of ending more' ran))
    (sym (stays_joined step k events (Over globals) (keeps.over globals)))
    (begins_itself (ending globals) events, begins_on (ending globals) (more globals) (more' globals) (h globals))
begins_one step keeps ending more more' h k events (Broken trouble) =
    subst (λ ran. Begins (shown_by ending more events (Broken trouble)) (shown_of ending more' ran))
    (sym (stays_joined step k events (Broken trouble) (keeps.broken trouble)))
    (refl, tt)

-- a run with k steps more begins with the same events, and has the same entries where it was not cut short
pub runs_begin : (machine : Machine) → Keeps machine.step → (m k n : ℕ) → n ≡ m + k → (stimuli : List (Option Stimulus)) (globals : List Cells) → Begins (runs machine m stimuli globals) (runs machine n stimuli globals)
runs_begin machine keeps m k n e [] globals = tt
runs_begin machine keeps m k n e (stimulus ∷ stimuli) globals =
    let config = machine.begin stimulus globals in
    let ran = exec machine.step m config in
    rw (exec_splits machine.step m k n e config)
    (begins_one machine.step keeps machine.ending (runs machine m stimuli) (runs machine n stimuli) (runs_begin machine keeps m k n e stimuli) k ran.events ran.config)

-- what goes on is the same where nothing was cut short
same_on : (end : End) (events : List Event) (more more' : List Shown) → (has_past more ≡ false → more' ≡ more) → has_past (record { events = events; end = end } ∷ goes_on end more []) ≡ false → goes_on end more' [] ≡ goes_on end more []
same_on (Rest paths variables timers) events more more' h not_cut = h not_cut
same_on (Fault kind place variables timers) events more more' h not_cut = refl
same_on (Stopped variables) events more more' h not_cut = h not_cut
same_on Past events more more' h not_cut = refl
same_on (Stuck rule) events more more' h not_cut = refl

same_one : (step : Config → Ran Event) → Keeps step → (ending : List Cells → End) (more more' : List Cells → List Shown) → ((globals : List Cells) → has_past (more globals) ≡ false → more' globals ≡ more globals) → (k : ℕ) (events : List Event) (config : Config) → has_past (shown_by ending more events config) ≡ false → shown_of ending more' (joined events (exec step k config)) ≡ shown_by ending more events config
same_one step keeps ending more more' h k events (Running globals frame callers) not_cut = absurd (false≢true (sym not_cut))
same_one step keeps ending more more' h k events (Over globals) not_cut =
    ap (shown_of ending more') (stays_joined step k events (Over globals) (keeps.over globals))
    ∙ ap (λ rest. record { events = events; end = ending globals } ∷ rest) (same_on (ending globals) events (more globals) (more' globals) (h globals) not_cut)
same_one step keeps ending more more' h k events (Broken trouble) not_cut =
    ap (shown_of ending more') (stays_joined step k events (Broken trouble) (keeps.broken trouble))

-- a run that was not cut short shows the same with k steps more
pub runs_same : (machine : Machine) → Keeps machine.step → (m k n : ℕ) → n ≡ m + k → (stimuli : List (Option Stimulus)) (globals : List Cells) → has_past (runs machine m stimuli globals) ≡ false → runs machine n stimuli globals ≡ runs machine m stimuli globals
runs_same machine keeps m k n e [] globals not_cut = refl
runs_same machine keeps m k n e (stimulus ∷ stimuli) globals not_cut =
    let config = machine.begin stimulus globals in
    let ran = exec machine.step m config in
    ap (shown_of machine.ending (runs machine n stimuli)) (exec_splits machine.step m k n e config)
    ∙ same_one machine.step keeps machine.ending (runs machine m stimuli) (runs machine n stimuli) (runs_same machine keeps m k n e stimuli) k ran.events ran.config not_cut
