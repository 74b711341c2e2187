use Rattle.std.proofs.Common.{refl, drop}
use Rattle.og_stim.specs.Lines.{lines_of}
use Rattle.og_stim.specs.Stimuli.{AtEnd, Bad}
use Rattle.og_trace.proofs.Lines.{at_end, at_stimulus, at_bad, stands_more, stands_bad, last_list, last_bad, shorter}
use Rattle.og_trace.proofs.listing.stimuli_of.Goals as goal

pub returns-in-Ok-None-clause-stimuli : goal.returns-in-Ok-None-clause-stimuli
returns-in-Ok-None-clause-stimuli c =
    let before = c.lines.cursor in
    last_list c.args.model.now before.line (lines_of (drop before.offset c.args.text.now)) AtEnd c.lines.stimuli.items _
    (at_end c.args.model.now c.args.text.now before c.next_stimulus.new.cursor c.in-Ok-None.field-0 c.in-Ok-None.field-0-is c.in-Ok-None.ensures.next) refl c.lines.invariant.stimuli

pub returns-in-Ok-None-clause-bad : goal.returns-in-Ok-None-clause-bad
returns-in-Ok-None-clause-bad c =
    let before = c.lines.cursor in
    last_bad c.args.model.now before.line (lines_of (drop before.offset c.args.text.now)) AtEnd _ _
    (at_end c.args.model.now c.args.text.now before c.next_stimulus.new.cursor c.in-Ok-None.field-0 c.in-Ok-None.field-0-is c.in-Ok-None.ensures.next) refl c.lines.invariant.bad

pub lines-smaller : goal.lines-smaller
lines-smaller c =
    let before = c.lines.cursor in
    shorter c.args.model.now before.line (lines_of (drop before.offset c.args.text.now)) _ _ _
    (at_stimulus c.args.model.now c.args.text.now before c.next_stimulus.new.cursor c.in-Ok-Some.field-0 c.in-Ok-Some.stimulus c.in-Ok-Some.field-0-is c.in-Ok-Some.ensures.next)

pub lines-preserved : goal.lines-preserved
lines-preserved c =
    let before = c.lines.cursor in
    let next = at_stimulus c.args.model.now c.args.text.now before c.next_stimulus.new.cursor c.in-Ok-Some.field-0 c.in-Ok-Some.stimulus c.in-Ok-Some.field-0-is c.in-Ok-Some.ensures.next in
    record {
      stimuli = stands_more c.args.model.now before.line (lines_of (drop before.offset c.args.text.now)) _ _ _ c.lines.stimuli.items c.push-in-Ok-Some.new.self.items _ next c.in_ok-push-in-Ok-Some.ensures.items c.lines.invariant.stimuli;
      bad = stands_bad c.args.model.now before.line (lines_of (drop before.offset c.args.text.now)) _ _ _ _ next c.lines.invariant.bad;
      inside = c.next_stimulus.ensures.inside;
      few = c.next_stimulus.ensures.few_lines;
    }

pub returns-in-Err-clause-stimuli : goal.returns-in-Err-clause-stimuli
returns-in-Err-clause-stimuli c =
    let before = c.lines.cursor in
    last_list c.args.model.now before.line (lines_of (drop before.offset c.args.text.now)) (Bad c.in_ok-bad-in-Err.bad.line c.in_ok-bad-in-Err.bad.rule) c.lines.stimuli.items _
    (at_bad c.args.model.now c.args.text.now before c.next_stimulus.new.cursor c.in-Err.error _ _ c.in_ok-bad-in-Err.ensures.bad c.in-Err.ensures.bad) refl c.lines.invariant.stimuli

pub returns-in-Err-clause-bad : goal.returns-in-Err-clause-bad
returns-in-Err-clause-bad c =
    let before = c.lines.cursor in
    last_bad c.args.model.now before.line (lines_of (drop before.offset c.args.text.now)) (Bad c.in_ok-bad-in-Err.bad.line c.in_ok-bad-in-Err.bad.rule) _ _
    (at_bad c.args.model.now c.args.text.now before c.next_stimulus.new.cursor c.in-Err.error _ _ c.in_ok-bad-in-Err.ensures.bad c.in-Err.ensures.bad) refl c.lines.invariant.bad
