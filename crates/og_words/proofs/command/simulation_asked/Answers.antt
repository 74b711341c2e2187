use Rattle.std.proofs.Common.{codes}
use Rattle.og_words.specs.Asked.{texts, FitsNone}
use Rattle.og_words.proofs.CommandForms.{none_if}
use Rattle.og_words.proofs.OneCommand.{no_simulation_stimuli}
use Rattle.og_words.proofs.command.simulation_asked.Goals as goal

pub returns-in_err-stimuli-clause-none : goal.returns-in_err-stimuli-clause-none
returns-in_err-stimuli-clause-none c =
    none_if c.from_residual.result (FitsNone (codes "sim") (texts c.args.files.now) (texts c.args.behind.now)) c.from_residual.ensures
    (no_simulation_stimuli (texts c.args.files.now) (texts c.args.behind.now) c.in_err-stimuli.ensures.none)
