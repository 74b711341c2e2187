-- Runs of programs and of flat code with more steps, and two programs that agree with one model.
use Rattle.std.proofs.Common.{◌≡◌, ℕ, ◌-◌, ◌≤◌, ℤ, Bool, false, List, refl, sym, ap, ◌∙◌, arith}
use Rattle.og_model.specs.declared.Model.{Model}
use Rattle.og_model.specs.Shown.{Stimulus, has_past, Begins}
use Rattle.og_model.specs.Run.{sdl}
use Rattle.og_ir.specs.declared.Ir.{Ir}
use Rattle.og_ir.specs.FlatSteps.{first_slots}
use Rattle.og_csubset.specs.declared.CProgram.{CProgram}
use Rattle.og_csubset.specs.Kinds.{first_globals}
use Rattle.og_csubset.specs.Run.{all_stimuli, c_machine, c}
use Rattle.og_csubset.specs.FlatRun.{flat_machine, flat_runs}
use Rattle.og_csubset.specs.Agreement.{enough, AreStimuli, SameBehaviour}
use Rattle.og_csubset.proofs.MachineRuns.{Keeps, runs_begin, runs_same}

program_keeps : (program : CProgram) (model : Model) → Keeps (c_machine program model).step
program_keeps program model = record { over = λ globals. refl; broken = λ trouble. refl }

code_keeps : (is_there : ℤ → Bool) (ir : Ir) (model : Model) → Keeps (flat_machine is_there ir model).step
code_keeps is_there ir model = record { over = λ slots. refl; broken = λ trouble. refl }

pub c_same : (program : CProgram) (model : Model) (stimuli : List Stimulus) (m n : ℕ) → m ≤ n → has_past (c program model stimuli m) ≡ false → c program model stimuli n ≡ c program model stimuli m
unfolding c
c_same program model stimuli m n le not_cut =
    runs_same (c_machine program model) (program_keeps program model) m (n - m) n (omega (arith, le)) (all_stimuli stimuli) (first_globals program) not_cut

pub c_begins : (program : CProgram) (model : Model) (stimuli : List Stimulus) (m n : ℕ) → m ≤ n → Begins (c program model stimuli m) (c program model stimuli n)
unfolding c
c_begins program model stimuli m n le =
    runs_begin (c_machine program model) (program_keeps program model) m (n - m) n (omega (arith, le)) (all_stimuli stimuli) (first_globals program)

pub code_same : (is_there : ℤ → Bool) (ir : Ir) (model : Model) (stimuli : List Stimulus) (m n : ℕ) → m ≤ n → has_past (flat_runs is_there ir model stimuli m) ≡ false → flat_runs is_there ir model stimuli n ≡ flat_runs is_there ir model stimuli m
code_same is_there ir model stimuli m n le not_cut =
    runs_same (flat_machine is_there ir model) (code_keeps is_there ir model) m (n - m) n (omega (arith, le)) (all_stimuli stimuli) (first_slots model.types ir) not_cut

pub code_begins : (is_there : ℤ → Bool) (ir : Ir) (model : Model) (stimuli : List Stimulus) (m n : ℕ) → m ≤ n → Begins (flat_runs is_there ir model stimuli m) (flat_runs is_there ir model stimuli n)
code_begins is_there ir model stimuli m n le =
    runs_begin (flat_machine is_there ir model) (code_keeps is_there ir model) m (n - m) n (omega (arith, le)) (all_stimuli stimuli) (first_slots model.types ir)

pub agree_enough : (model : Model) (P Q : CProgram) → SameBehaviour model P → SameBehaviour model Q → (stimuli : List Stimulus) → AreStimuli model stimuli → (n : ℕ) → 1 ≤ n → has_past (sdl model stimuli n) ≡ false → c P model stimuli (enough P n) ≡ c Q model stimuli (enough Q n)
agree_enough model P Q p q stimuli are n some not_cut =
    p.runs.shows stimuli are n some not_cut ∙ sym (q.runs.shows stimuli are n some not_cut)

pub agree_some : (model : Model) (P Q : CProgram) → SameBehaviour model P → SameBehaviour model Q → (stimuli : List Stimulus) → AreStimuli model stimuli → (m : ℕ) → has_past (c P model stimuli m) ≡ false → (k : ℕ) × (c Q model stimuli k ≡ c P model stimuli m)
agree_some model P Q p q stimuli are m not_cut =
    let found = p.runs.shows_only stimuli are m not_cut in
    let ends = ap has_past found.2 ∙ not_cut in
    (enough Q found.0, q.runs.shows stimuli are found.0 found.1 ends ∙ found.2)
