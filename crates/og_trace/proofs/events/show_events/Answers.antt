use Rattle.std.proofs.Common.{◌≡◌, suc, ◌-◌, sym, ap, ◌∙◌, arith}
use Rattle.og_csubset.specs.Run.{c_machine}
use Rattle.og_cstep.specs.Answered.{answer_at_end}
use Rattle.og_cstep.specs.Machines.{run_of}
use Rattle.og_ir.specs.Steps.{exec}
use Rattle.og_trace.specs.Entries.{end_at}
use Rattle.og_trace.proofs.Steps.{Turned, going_lines, going_place, turned_going, turned_program, turned_model, turned_live, turned_still, turned_told, turned_stands}
use Rattle.og_trace.proofs.events.show_events.Goals as goal

pub returns-then-has_ended-clause-events : goal.returns-then-has_ended-clause-events
returns-then-has_ended-clause-events c =
    let P = (run_of c.args.machine.now).program in
    let M = c.args.model.now in
    let before = run_of c.loop-left.machine in
    let after = run_of c.show_step.new.machine in
    let first = (run_of c.args.machine.now).config in
    let turned : Turned P M before after c.in_ok-answer.answer = record { program = c.loop-left.invariant.program; model = c.loop-left.invariant.model; run = c.in_ok-answer.ensures.run; answer = c.in_ok-answer.ensures.answer } in
    let less : c.loop-left.left ≡ suc (c.loop-left.left - 1) = omega arith in
    going_lines M (c_machine P M).step (c.loop-left.left - 1) after.config c.show_step.new.out.items c.args.steps first c.args.out.now.items
    (turned_still P M before after c.in_ok-answer.answer turned (c.loop-left.left - 1) (sym c.has_ended.ensures ∙ c.if-has_ended.true))
    (turned_going P M before after c.in_ok-answer.answer turned c.loop-left.left (c.loop-left.left - 1) c.loop-left.out.items c.show_step.new.out.items c.args.steps first c.args.out.now.items
    less c.in_ok-answer.ensures.events c.loop-left.invariant.going)

pub returns-then-has_ended-clause-answer : goal.returns-then-has_ended-clause-answer
returns-then-has_ended-clause-answer c =
    let P = (run_of c.args.machine.now).program in
    let M = c.args.model.now in
    let before = run_of c.loop-left.machine in
    let after = run_of c.show_step.new.machine in
    let first = (run_of c.args.machine.now).config in
    let turned : Turned P M before after c.in_ok-answer.answer = record { program = c.loop-left.invariant.program; model = c.loop-left.invariant.model; run = c.in_ok-answer.ensures.run; answer = c.in_ok-answer.ensures.answer } in
    let less : c.loop-left.left ≡ suc (c.loop-left.left - 1) = omega arith in
    let ended = sym c.has_ended.ensures ∙ c.if-has_ended.true in
    turned_told P M before after c.in_ok-answer.answer turned ended
    ∙ ap (λ config. answer_at_end (end_at (c_machine P M).ending config))
    (going_place M (c_machine P M).step (c.loop-left.left - 1) after.config c.show_step.new.out.items c.args.steps first c.args.out.now.items
    (turned_still P M before after c.in_ok-answer.answer turned (c.loop-left.left - 1) ended)
    (turned_going P M before after c.in_ok-answer.answer turned c.loop-left.left (c.loop-left.left - 1) c.loop-left.out.items c.show_step.new.out.items c.args.steps first c.args.out.now.items
    less c.in_ok-answer.ensures.events c.loop-left.invariant.going))

pub returns-then-has_ended-clause-stands : goal.returns-then-has_ended-clause-stands
returns-then-has_ended-clause-stands c =
    let P = (run_of c.args.machine.now).program in
    let M = c.args.model.now in
    let before = run_of c.loop-left.machine in
    let after = run_of c.show_step.new.machine in
    let first = (run_of c.args.machine.now).config in
    let turned : Turned P M before after c.in_ok-answer.answer = record { program = c.loop-left.invariant.program; model = c.loop-left.invariant.model; run = c.in_ok-answer.ensures.run; answer = c.in_ok-answer.ensures.answer } in
    let less : c.loop-left.left ≡ suc (c.loop-left.left - 1) = omega arith in
    let ended = sym c.has_ended.ensures ∙ c.if-has_ended.true in
    turned_stands P M before after c.in_ok-answer.answer turned (exec (c_machine P M).step c.args.steps first).config
    (going_place M (c_machine P M).step (c.loop-left.left - 1) after.config c.show_step.new.out.items c.args.steps first c.args.out.now.items
    (turned_still P M before after c.in_ok-answer.answer turned (c.loop-left.left - 1) ended)
    (turned_going P M before after c.in_ok-answer.answer turned c.loop-left.left (c.loop-left.left - 1) c.loop-left.out.items c.show_step.new.out.items c.args.steps first c.args.out.now.items
    less c.in_ok-answer.ensures.events c.loop-left.invariant.going))

pub loop-left-preserved : goal.loop-left-preserved
loop-left-preserved c =
    let P = (run_of c.args.machine.now).program in
    let M = c.args.model.now in
    let before = run_of c.loop-left.machine in
    let after = run_of c.show_step.new.machine in
    let first = (run_of c.args.machine.now).config in
    let turned : Turned P M before after c.in_ok-answer.answer = record { program = c.loop-left.invariant.program; model = c.loop-left.invariant.model; run = c.in_ok-answer.ensures.run; answer = c.in_ok-answer.ensures.answer } in
    let less : c.loop-left.left ≡ suc (c.loop-left.left - 1) = omega arith in
    record {
      going =
          turned_going P M before after c.in_ok-answer.answer turned c.loop-left.left (c.loop-left.left - 1) c.loop-left.out.items c.show_step.new.out.items c.args.steps first c.args.out.now.items
          less c.in_ok-answer.ensures.events c.loop-left.invariant.going;
      program = turned_program P M before after c.in_ok-answer.answer turned;
      model = turned_model P M before after c.in_ok-answer.answer turned;
      live = turned_live P M before after c.in_ok-answer.answer turned (sym c.has_ended.ensures ∙ c.if-has_ended.false);
    }
