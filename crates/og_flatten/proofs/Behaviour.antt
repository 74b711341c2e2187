-- The code of a model is never stuck, and shows what the model shows.
use Rattle.std.proofs.Common.{◌∙◌, ap, sym, arith}
use Rattle.og_model.specs.declared.Model.{Model}
use Rattle.og_model.specs.Shown.{has_stuck}
use Rattle.og_model.specs.Run.{sdl}
use Rattle.og_ir.specs.FlatSteps.{first_slots}
use Rattle.og_csubset.specs.Agreement.{AreStimuli, SameRuns}
use Rattle.og_csubset.specs.FlatRun.{flat_in_64_bits}
use Rattle.og_csubset.specs.Paced.{Pace, IsPace, IsSafe, paced, paced_size}
use Rattle.og_csubset.proofs.PacedRuns.{paced_at_one}
use Rattle.og_flatten.specs.Code.{enough_at}
use Rattle.og_flatten.specs.FlatCode.{code_of}
use Rattle.og_follow.proofs.Agreeing.{same_runs}
use Rattle.og_flatten.proofs.Standings.{IsBasic}
use Rattle.og_flatten.proofs.Simulation.{Rests, Halts, simulates}
use Rattle.og_flatten.proofs.Transitions.{machine_of}

pub runs : (model : Model) → IsBasic model → (pace : Pace) → IsPace pace
    → SameRuns (AreStimuli model) (enough_at pace (code_of model)) (sdl model) (paced pace (code_of model) model)
unfolding paced
runs model is pace is_pace =
    same_runs model (machine_of model) pace (paced_size pace (code_of model)) (first_slots model.types (code_of model)) (Rests model) Halts (simulates model is pace is_pace)

pub safe : (model : Model) → IsBasic model → IsSafe (code_of model) model
unfolding paced flat_in_64_bits
safe model is stimuli are steps =
    let one : Pace = λ function place. 1 in
    let is_one : IsPace one = λ function place. omega (arith) in
    ap has_stuck (sym (paced_at_one (code_of model) model stimuli steps)) ∙ (runs model is one is_one).never_stuck stimuli are steps
