use Rattle.std.proofs.Common.{length, refl, subst, ◌∙◌}
use Rattle.std.proofs.lemmas.Option.{slice_get_read}
use Rattle.std.proofs.lemmas.List.{get_or_default}
use Rattle.og_trace.specs.Stims.{start}
use Rattle.og_csubset.specs.declared.CProgram.{CProgram}
use Rattle.og_cstep.specs.Machines.{run_of}
use Rattle.og_trace.proofs.Shows.{ShownOne, coming_next, coming_again, coming_lines, coming_outcome}
use Rattle.og_trace.proofs.runs.show_stimuli.Goals as goal

pub show_one-requires-clause-stimulus : goal.show_one-requires-clause-stimulus
show_one-requires-clause-stimulus c =
    c.requires.stimuli.each c.loop-stimulus.stimulus-index c.stimulus-item.result
    (slice_get_read c.args.stimuli.now (length c.args.stimuli.now) c.loop-stimulus.stimulus-index c.stimulus-item.result refl
    c.loop-stimulus-test.true c.stimulus-item.is)

pub returns-in-Some-clause-text : goal.returns-in-Some-clause-text
returns-in-Some-clause-text c =
    let scene = c.args.scene.now in
    let stimulus = c.stimulus-item.result in
    let at = c.stimulus-item.is ∙ get_or_default c.args.stimuli.now c.loop-stimulus.stimulus-index stimulus start c.loop-stimulus-test.true in
    let before = run_of c.loop-stimulus.machine in
    let after = run_of c.show_one.new.machine in
    let one =
    subst (λ (p : CProgram). ShownOne p scene.model.now scene.files.now c.args.steps stimulus before.cells c.loop-stimulus.out.items c.show_one.new.out.items c.in_ok-ended.ended after)
    c.loop-stimulus.invariant.ready.program
    (record { lines = c.in_ok-ended.ensures.text; outcome = c.in_ok-ended.ensures.outcome; ready = c.in_ok-ended.ensures.ready }) in
    coming_lines _ scene.model.now scene.files.now c.args.steps c.args.stimuli.now c.loop-stimulus.stimulus-index stimulus before.cells c.loop-stimulus.out.items c.show_one.new.out.items _ c.args.out.now.items c.in_ok-ended.ended after c.in-Some.outcome
    c.loop-stimulus-test.true at one c.in-Some.is c.loop-stimulus.invariant.coming

pub returns-in-Some-clause-outcome : goal.returns-in-Some-clause-outcome
returns-in-Some-clause-outcome c behind =
    let scene = c.args.scene.now in
    let stimulus = c.stimulus-item.result in
    let at = c.stimulus-item.is ∙ get_or_default c.args.stimuli.now c.loop-stimulus.stimulus-index stimulus start c.loop-stimulus-test.true in
    let before = run_of c.loop-stimulus.machine in
    let after = run_of c.show_one.new.machine in
    let one =
    subst (λ (p : CProgram). ShownOne p scene.model.now scene.files.now c.args.steps stimulus before.cells c.loop-stimulus.out.items c.show_one.new.out.items c.in_ok-ended.ended after)
    c.loop-stimulus.invariant.ready.program
    (record { lines = c.in_ok-ended.ensures.text; outcome = c.in_ok-ended.ensures.outcome; ready = c.in_ok-ended.ensures.ready }) in
    coming_outcome _ scene.model.now scene.files.now c.args.steps c.args.stimuli.now c.loop-stimulus.stimulus-index stimulus before.cells c.loop-stimulus.out.items c.show_one.new.out.items _ c.args.out.now.items c.in_ok-ended.ended after c.in-Some.outcome behind
    c.loop-stimulus-test.true at one c.in-Some.is c.loop-stimulus.invariant.coming

pub loop-stimulus-preserved : goal.loop-stimulus-preserved
loop-stimulus-preserved c =
    let scene = c.args.scene.now in
    let stimulus = c.stimulus-item.result in
    let at = c.stimulus-item.is ∙ get_or_default c.args.stimuli.now c.loop-stimulus.stimulus-index stimulus start c.loop-stimulus-test.true in
    let before = run_of c.loop-stimulus.machine in
    let after = run_of c.show_one.new.machine in
    let one =
    subst (λ (p : CProgram). ShownOne p scene.model.now scene.files.now c.args.steps stimulus before.cells c.loop-stimulus.out.items c.show_one.new.out.items c.in_ok-ended.ended after)
    c.loop-stimulus.invariant.ready.program
    (record { lines = c.in_ok-ended.ensures.text; outcome = c.in_ok-ended.ensures.outcome; ready = c.in_ok-ended.ensures.ready }) in
    record {
      coming =
          coming_next _ scene.model.now scene.files.now c.args.steps c.args.stimuli.now c.loop-stimulus.stimulus-index stimulus before.cells c.loop-stimulus.out.items c.show_one.new.out.items _ c.args.out.now.items c.in_ok-ended.ended after
          c.loop-stimulus-test.true at one c.in_default.is c.loop-stimulus.invariant.coming;
      ready = coming_again _ scene.model.now scene.files.now c.args.steps stimulus before.cells c.loop-stimulus.out.items c.show_one.new.out.items c.in_ok-ended.ended after one c.in_default.is;
    }
