use Rattle.std.proofs.Common.{sym, subst}
use Rattle.og_words.specs.declared.command.Command.{Command}
use Rattle.og_tool.specs.Answers.{FailedFor, IsTooLargeFor}
use Rattle.og_words.specs.Asked.{asked}
use Rattle.og_tool.proofs.run.output_of.Goals as goal

pub returns-in-Run-clause-too_large : goal.returns-in-Run-clause-too_large
returns-in-Run-clause-too_large g c = λ e.
    let P : Command → Type 0 = λ command. IsTooLargeFor (g.S.Store.holds c.args.store.now) (asked command) in
    subst P (sym c.in-Run.is) (c.run_program.ensures.too_large e)

pub returns-in-Simulate-clause-too_large : goal.returns-in-Simulate-clause-too_large
returns-in-Simulate-clause-too_large g c = λ e.
    let P : Command → Type 0 = λ command. IsTooLargeFor (g.S.Store.holds c.args.store.now) (asked command) in
    subst P (sym c.in-Simulate.is) (c.simulate.ensures.too_large e)

pub returns-in-Run-clause-fault : goal.returns-in-Run-clause-fault
returns-in-Run-clause-fault g c = λ e.
    let P : Command → Type 0 = λ command. FailedFor (g.S.Store.holds c.args.store.now) (asked command) (g.S.Store.faults c.args.store.now) (g.S.Store.faults c.run_program.new.store) in
    subst P (sym c.in-Run.is) (c.run_program.ensures.fault e)

pub returns-in-Simulate-clause-fault : goal.returns-in-Simulate-clause-fault
returns-in-Simulate-clause-fault g c = λ e.
    let P : Command → Type 0 = λ command. FailedFor (g.S.Store.holds c.args.store.now) (asked command) (g.S.Store.faults c.args.store.now) (g.S.Store.faults c.simulate.new.store) in
    subst P (sym c.in-Simulate.is) (c.simulate.ensures.fault e)
