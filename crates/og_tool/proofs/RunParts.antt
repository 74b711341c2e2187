-- What the parts of the top call give, put together.
use Rattle.std.proofs.Common.{◌≡◌, ℕ, true, List, Option, ap, ◌∙◌, subst, inl, inr, refl}
use Rattle.og_base.specs.Store.{Files}
use Rattle.og_model.specs.declared.Model.{Model}
use Rattle.og_types.specs.Table.{is_table}
use Rattle.og_trace.specs.declared.Outcome.{Outcome}
use Rattle.og_trace.specs.declared.Outcome.TheVariants as outcome
use Rattle.og_trace.specs.Traces.{run_outcome}
use Rattle.og_tool.specs.declared.status.Status.{Status}
use Rattle.og_tool.specs.declared.status.Status.TheVariants.{Done, Refused, BadFile, Past, Faulted, Stuck}
use Rattle.og_tool.specs.Answers.{IsOutputFor, IsSimulation, status_of}
use Rattle.og_words.specs.Words.{Command, Check, Compile, Run, Simulate, AsksFor, AskForRun}
use Rattle.og_tool.proofs.GivenStimuli.{agreeing_is_never_stuck, types_of_tree}
use Rattle.og_tool.specs.Answering.{CommandAnswer, WroteAll}

-- ---- what a command calls for

-- a simulation is never stuck
not_stuck : (told : Option Files) (names : List (List ℕ)) (stimuli : List ℕ) (steps : ℕ) (text : List ℕ) → IsSimulation told names stimuli steps Stuck text → ⊥
not_stuck told names stimuli steps text is =
    let table : is_table is.model.types ≡ true = ap (λ (model : Model). is_table model.types) is.has_model.have.is ∙ types_of_tree is.has_model.have.system in
    agreeing_is_never_stuck is.model is.program is.agrees table is.traces.bytes steps (stuck_only (run_outcome is.model is.program is.traces.bytes steps) is.traces.ends)
  where
    stuck_only : (o : Outcome) → Stuck ≡ status_of o → o ≡ outcome.Stuck
    stuck_only outcome.Done e = absurd (let h : Stuck ≡ Done = e in cc)
    stuck_only outcome.BadFile e = absurd (let h : Stuck ≡ BadFile = e in cc)
    stuck_only outcome.Past e = absurd (let h : Stuck ≡ Past = e in cc)
    stuck_only outcome.Faulted e = absurd (let h : Stuck ≡ Faulted = e in cc)
    stuck_only outcome.Stuck e = refl

-- what was written for a command is stuck only where the command is a run
asks_for_run : (words : List (List ℕ)) (told : Option Files) (command : Command) (text : List ℕ) → AsksFor words command → IsOutputFor told command Stuck text → AskForRun words
asks_for_run words told (Check names) text asks (inl report) = absurd (let h : Stuck ≡ Refused = report.refused in cc)
asks_for_run words told (Check names) text asks (inr acceptance) = absurd (let h : Stuck ≡ Done = acceptance.done in cc)
asks_for_run words told (Compile names) text asks (inl report) = absurd (let h : Stuck ≡ Refused = report.refused in cc)
asks_for_run words told (Compile names) text asks (inr code) = absurd (let h : Stuck ≡ Done = code.done in cc)
asks_for_run words told (Run names program stimuli steps) text asks output = (names, program, stimuli, steps, asks)
asks_for_run words told (Simulate names stimuli steps) text asks (inl report) = absurd (let h : Stuck ≡ Refused = report.refused in cc)
asks_for_run words told (Simulate names stimuli steps) text asks (inr simulation) = absurd (not_stuck told names stimuli steps text simulation)

pub stuck_runs : (words : List (List ℕ)) (told : Option Files) (command : Command) (status : Status) (was is : List ℕ → ℕ) (old new : Option (List ℕ)) (before after : ℕ)
    → AsksFor words command → CommandAnswer status told command was is old new before after → status ≡ Stuck → AskForRun words
stuck_runs words told command status was is old new before after asks answer same =
    let P : Status → Type 0 = λ s. CommandAnswer s told command was is old new before after in
    let wrote : WroteAll told command Stuck old new = subst P same answer in
    asks_for_run words told command wrote.0 asks wrote.1
