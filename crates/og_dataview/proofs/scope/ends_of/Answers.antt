use Rattle.std.proofs.Common.{◌+◌, suc, length, arith, ap, ◌∙◌}
use Rattle.og_dataview.specs.Following.{next_type}
use Rattle.og_dataview.specs.Ways.{step_in}
use Rattle.og_dataview.proofs.Tables.{leads_by}
use Rattle.og_dataview.proofs.scope.ends_of.Goals as goal

pub returns : goal.returns
returns c =
    leads_by (next_type c.args.flat.now) (c.in_ok-steps.steps + 1) (suc (length c.args.flat.now.types)) c.as_slice.result.now c.in_ok-ends.ends.items
    (omega (arith, c.in_ok-steps.ensures, c.len.ensures))
    (λ p. ap (λ xs. step_in xs p) c.as_slice.ensures.value ∙ c.in_ok-nexts.ensures.each p)
    c.in_ok-ends.ensures.leads
