use Rattle.std.proofs.Common.{◌+◌, ◌/◌, ◌∙◌, refl, arith}
use Rattle.og_dataview.specs.Following.{both}
use Rattle.og_dataview.specs.Ways.{step_in}
use Rattle.og_dataview.proofs.Tables.{walks_even}
use Rattle.og_datatypes.specs.Kept.{range_at}
use Rattle.og_datatypes.proofs.Leaving.{leads_odd, leaves_even, leaves_odd}
use Rattle.og_datatypes.proofs.ranges.+walk.Goals as goal

pub returns-clause-leads : goal.returns-clause-leads
returns-clause-leads t c =
    leads_odd c.args.nexts.now c.in_ok-twice.twice.ends.items c.in_ok-all.all.ends.items c.args.steps (c.args.steps / 2 + c.args.steps / 2) (omega arith)
    (walks_even (step_in c.args.nexts.now) (c.args.steps / 2 + c.args.steps / 2) (c.args.steps / 2) c.in_ok-half.half.ends.items c.in_ok-twice.twice.ends.items refl c.in_ok-half.ensures.leads
    (λ p. c.in_ok-twice.ensures.leads p ∙ (λ i. step_in c.in_ok-half.half.ends.items (step_in (c.as_slice.ensures.value i) p))))
    c.in_ok-all.ensures.leads

pub returns-clause-leaves : goal.returns-clause-leaves
returns-clause-leaves t c =
    leaves_odd c.args.nexts.now c.args.owns.now c.in_ok-twice.twice.ranges.items c.in_ok-all.all.ranges.items c.args.steps (c.args.steps / 2 + c.args.steps / 2) (omega arith)
    (leaves_even (step_in c.args.nexts.now) (range_at c.args.owns.now) (c.args.steps / 2 + c.args.steps / 2) (c.args.steps / 2) c.in_ok-half.half.ends.items c.in_ok-half.half.ranges.items c.in_ok-twice.twice.ranges.items refl
    c.in_ok-half.ensures.leads c.in_ok-half.ensures.leaves
    (λ p. c.in_ok-twice.ensures.leaves p ∙ (λ i. both (range_at (c.as_slice-2.ensures.value i) p) (range_at c.in_ok-half.half.ranges.items (step_in (c.as_slice.ensures.value i) p)))))
    c.in_ok-all.ensures.leaves
