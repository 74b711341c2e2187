use Rattle.std.proofs.Common.{ap, List, ℕ, string_bytes}
use Rattle.og_words.specs.Asked.{texts, IsStimuliWith}
use Rattle.og_words.proofs.CommandForms.{none_if}
use Rattle.og_words.proofs.OneCommand.{no_number}
use Rattle.og_words.proofs.command.stimuli_behind.Goals as goal

pub returns-in_err-steps-clause-none : goal.returns-in_err-steps-clause-none
returns-in_err-steps-clause-none c =
    none_if c.from_residual-in_err-steps.result ((stimuli : List ℕ) (n : ℕ) → IsStimuliWith stimuli n (texts c.args.words.now) → ⊥) c.from_residual-in_err-steps.ensures
    (no_number (texts c.args.words.now) (texts c.in_ok-stimuli.last.now) (string_bytes c.in_ok-stimuli.stimuli.now) (ap texts c.in_ok-stimuli.ensures.cases.0) c.in_err-steps.ensures.none)
