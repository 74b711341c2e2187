use Rattle.std.proofs.Common.{Option, subst}
use Rattle.og_base.specs.Store.{Files}
use Rattle.og_words.specs.Asked.{texts}
use Rattle.og_tool.specs.Answers.{IsTooLargeFor}
use Rattle.og_words.specs.Words.{Run}
use Rattle.og_tool.proofs.RunningParts.{failed_before}
use Rattle.og_tool.proofs.running.run_program.Goals as goal

pub returns-in-Accepted-clause-too_large : goal.returns-in-Accepted-clause-too_large
returns-in-Accepted-clause-too_large g c = λ e.
    let P : Option Files → Type 0 = λ told. IsTooLargeFor told (Run (texts c.args.files.now) c.args.program.now c.args.stimuli.now c.args.steps) in
    subst P c.in_ok-text.ensures.kept (c.run_over_model.ensures.too_large e)

pub returns-in-Accepted-clause-fault : goal.returns-in-Accepted-clause-fault
returns-in-Accepted-clause-fault g c = λ e.
    failed_before (g.S.Store.holds c.args.store.now) (g.S.Store.holds c.read_model.new.store) (Run (texts c.args.files.now) c.args.program.now c.args.stimuli.now c.args.steps)
    (g.S.Store.faults c.args.store.now) (g.S.Store.faults c.read_model.new.store) (g.S.Store.faults c.run_over_model.new.store)
    c.read_model.ensures.kept c.read_model.ensures.store_counts (c.run_over_model.ensures.fault e)
