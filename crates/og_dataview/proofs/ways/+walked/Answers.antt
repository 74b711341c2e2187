use Rattle.std.proofs.Common.{◌/◌, ◌∙◌, arith}
use Rattle.og_dataview.specs.Ways.{step_in}
use Rattle.og_dataview.proofs.Tables.{walks_odd}
use Rattle.og_dataview.proofs.ways.+walked.Goals as goal

pub returns-clause-leads : goal.returns-clause-leads
returns-clause-leads t c =
    walks_odd c.args.steps (c.args.steps / 2) c.args.nexts.now c.in_ok-half.half.items c.in_ok-twice.twice.items c.in_ok-all.all.items (omega arith) c.in_ok-half.ensures.leads
    (λ p. c.in_ok-twice.ensures.each p ∙ (λ i. step_in (c.as_slice-2.ensures.value i) (step_in (c.as_slice.ensures.value i) p)))
    (λ p. c.in_ok-all.ensures.each p ∙ (λ i. step_in c.args.nexts.now (step_in (c.as_slice-3.ensures.value i) p)))
