use Rattle.std.proofs.Common.{length, sym, ◌∙◌, arith}
use Rattle.og_csubset.specs.Kinds.{is_in}
use Rattle.og_csubset.specs.Interface.{timer_function}
use Rattle.og_cload.specs.Names.{names_in}
use Rattle.og_cload.proofs.Declared.{timers_stop, timers_more, timers_all}
use Rattle.og_cload.proofs.interface.has_timers.Goals as goal

pub returns-then-not-has : goal.returns-then-not-has
returns-then-not-has c =
    timers_stop (λ k. is_in (timer_function c.args.model.now k) (names_in c.args.names.now)) (length c.args.model.now.timers) c.loop-timer.timer _ (omega (arith, c.loop-timer-test.true, c.in_ok-count.ensures, c.len.ensures))
    (sym c.in_ok-has.ensures ∙ c.if-not-has.true) c.loop-timer.invariant

pub loop-timer-preserved : goal.loop-timer-preserved
loop-timer-preserved c =
    timers_more (λ k. is_in (timer_function c.args.model.now k) (names_in c.args.names.now)) (length c.args.model.now.timers) c.loop-timer.timer _ (omega (arith, c.loop-timer-test.true, c.in_ok-count.ensures, c.len.ensures))
    (sym c.in_ok-has.ensures ∙ c.if-not-has.false) c.loop-timer.invariant

pub returns : goal.returns
returns c =
    timers_all (λ k. is_in (timer_function c.args.model.now k) (names_in c.args.names.now)) (length c.args.model.now.timers) c.loop-timer.timer _ (omega (arith, c.loop-timer-test.false, c.in_ok-count.ensures, c.len.ensures)) c.loop-timer.invariant
