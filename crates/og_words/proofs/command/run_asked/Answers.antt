use Rattle.std.proofs.Common.{ap, codes, string_bytes}
use Rattle.og_words.specs.Asked.{texts, FitsNone}
use Rattle.og_words.proofs.CommandForms.{none_if}
use Rattle.og_words.proofs.OneCommand.{no_run_stimuli}
use Rattle.og_words.proofs.command.run_asked.Goals as goal

pub returns-in_err-stimuli-clause-none : goal.returns-in_err-stimuli-clause-none
returns-in_err-stimuli-clause-none c =
    none_if c.from_residual-in_err-stimuli.result (FitsNone (codes "run") (texts c.args.files.now) (texts c.args.behind.now)) c.from_residual-in_err-stimuli.ensures
    (no_run_stimuli (texts c.args.files.now) (texts c.args.behind.now) (texts c.in_ok-program.rest.now) (string_bytes c.in_ok-program.program.now) (ap texts c.in_ok-program.ensures.cases.0) c.in_err-stimuli.ensures.none)
