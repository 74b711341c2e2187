use Rattle.std.proofs.Common.{subst, reverse}
use Rattle.og_grammar.specs.declared.run.Step.{Step}
use Rattle.og_grammar.specs.Steps.{StepsTo, stepped}
use Rattle.og_grammar.proofs.Reaching.{leads_on, gets_lighter, reaches_by}
use Rattle.og_grammar.proofs.run.reach.Goals as goal

pub steps-smaller : goal.steps-smaller
steps-smaller c =
    let s = subst (λ (b : Step). StepsTo c.steps.run c.take_step.new.run b (stepped c.args.rows.now c.args.parts.now c.args.kind c.steps.run.count (reverse c.steps.run.due))) c.in-On.is c.in_ok-met.ensures in
    gets_lighter c.args.table.now c.args.parts.now c.args.last c.requires.test c.args.rows.now c.requires.rows c.args.kind c.args.run.now c.steps.run c.take_step.new.run c.steps.invariant s

pub steps-preserved : goal.steps-preserved
steps-preserved c =
    let s = subst (λ (b : Step). StepsTo c.steps.run c.take_step.new.run b (stepped c.args.rows.now c.args.parts.now c.args.kind c.steps.run.count (reverse c.steps.run.due))) c.in-On.is c.in_ok-met.ensures in
    leads_on c.args.table.now c.args.parts.now c.args.last c.requires.test c.args.rows.now c.requires.rows c.args.kind c.args.run.now c.steps.run c.take_step.new.run c.steps.invariant s

pub returns-in_default : goal.returns-in_default
returns-in_default c =
    reaches_by c.args.table.now c.args.parts.now c.args.last c.requires.test c.args.rows.now c.requires.rows c.args.kind c.args.run.now c.steps.run c.take_step.new.run
    c.in_ok-met.met c.in_default.not-On c.steps.invariant c.in_ok-met.ensures
