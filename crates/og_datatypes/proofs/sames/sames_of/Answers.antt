use Rattle.std.proofs.Common.{◌+◌, ◌∙◌, arith, subst}
use Rattle.og_dataview.specs.Ways.{step_in, Leads}
use Rattle.og_datatypes.specs.Kept.{ended_in}
use Rattle.og_datatypes.proofs.Depths.{sames_are}
use Rattle.og_datatypes.proofs.sames.sames_of.Goals as goal

pub returns : goal.returns
returns c =
    sames_are c.args.scope.now.flat c.in_ok-nexts.nexts.items c.in_ok-ends.ends.items c.in_ok-sames.sames.items (c.in_ok-steps.steps + 1) (omega (arith, c.in_ok-steps.ensures, c.len.ensures))
    c.in_ok-nexts.ensures (subst (λ xs. Leads (step_in xs) (c.in_ok-steps.steps + 1) c.in_ok-ends.ends.items) c.as_slice.ensures.value c.in_ok-ends.ensures.leads)
    (λ p. c.in_ok-sames.ensures p ∙ (λ i. ended_in (c.as_slice-2.ensures.value i) (c.as_slice-3.ensures.value i) p))
