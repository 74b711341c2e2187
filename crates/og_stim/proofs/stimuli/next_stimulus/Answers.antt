use Rattle.std.proofs.Common.{ap, refl, sym, ◌∙◌, drop}
use Rattle.std.specs.Prelude.{Ok}
use Rattle.std.proofs.lemmas.List.{drop_all}
use Rattle.og_stim.specs.declared.stimuli.Cursor.{Cursor}
use Rattle.og_stim.specs.Lines.{lines_of}
use Rattle.og_stim.specs.Stimuli.{next_in}
use Rattle.og_stim.proofs.Stepping.{turn}
use Rattle.og_stim.proofs.stimuli.next_stimulus.Goals as goal

pub returns-in-Ok-Err-clause-bad : goal.returns-in-Ok-Err-clause-bad
returns-in-Ok-Err-clause-bad c = (
  c.loop-offset.invariant.kept,
  sym (ap (λ (x : Cursor). next_in c.args.model.now x.line (lines_of (drop x.offset c.args.text.now))) c.loop-offset.invariant.kept)
      ∙ sym c.loop-offset.invariant.same
      ∙ turn c.args.model.now c.loop-offset.line c.args.text.now c.loop-offset.offset c.first_line-first.result.taken c.split_at.result.1.now c.first_line-first.result.bytes.now _ c.split_at.ensures.back c.first_line-first.ensures.lines (sym c.in-Ok-Err.ensures ∙ c.in-Ok-Err.field-0-is),
)

pub returns-in-Ok-Ok-Some-clause-next : goal.returns-in-Ok-Ok-Some-clause-next
returns-in-Ok-Ok-Some-clause-next c =
    sym (ap (λ (x : Cursor). next_in c.args.model.now x.line (lines_of (drop x.offset c.args.text.now))) c.loop-offset.invariant.kept)
    ∙ sym c.loop-offset.invariant.same
    ∙ turn c.args.model.now c.loop-offset.line c.args.text.now c.loop-offset.offset c.first_line-first.result.taken c.split_at.result.1.now c.first_line-first.result.bytes.now _ c.split_at.ensures.back c.first_line-first.ensures.lines
    (sym c.in-Ok-Ok-Some.ensures ∙ c.in-Ok-Ok-Some.field-0-is ∙ ap Ok c.in-Ok-Ok-Some.field-0-0-is)

pub returns-clause-next : goal.returns-clause-next
returns-clause-next c = (
  refl,
  sym (ap (λ (x : Cursor). next_in c.args.model.now x.line (lines_of (drop x.offset c.args.text.now))) c.loop-offset.invariant.kept)
      ∙ sym c.loop-offset.invariant.same
      ∙ ap (λ bs. next_in c.args.model.now c.loop-offset.line (lines_of bs)) (drop_all c.loop-offset.offset c.args.text.now c.loop-offset-test.false),
)
