use Rattle.std.proofs.Common.{length, sym, ap, subst, ◌∙◌}
use Rattle.og_cstatement.specs.Effects.{CallsEarlier, effect_next, next_config, next_event, next_cells}
use Rattle.og_cstatement.specs.Positions.{config_of}
use Rattle.og_cstatement.proofs.Stepped.{is_step, earlier_calls, length_next}
use Rattle.og_cstatement.proofs.stepping.step.Goals as goal

pub advance-requires : goal.advance-requires
advance-requires c = subst CallsEarlier (sym c.requires.linked) (earlier_calls c.args.program.now c.args.model.now c.requires.loads)

pub returns-clause-step : goal.returns-clause-step
returns-clause-step c =
    let xs = c.args.cells.now.items in
    let from = c.args.position.now in
    is_step c.args.program.now c.args.model.now xs c.advance.new.cells.items from c.advance.new.position c.advance.result c.requires.loads c.requires.cells
    (λ g. c.advance.ensures.moved g ∙ ap (λ l. next_config (effect_next l xs from.standing) (config_of g from)) c.requires.linked)
    (c.advance.ensures.shown ∙ ap (λ l. next_event (effect_next l xs from.standing)) c.requires.linked)
    (c.advance.ensures.changed ∙ ap (λ l. next_cells (effect_next l xs from.standing) xs) c.requires.linked)

pub returns-clause-cells : goal.returns-clause-cells
returns-clause-cells c = ap length c.advance.ensures.changed ∙ length_next _ c.args.cells.now.items ∙ c.requires.cells
