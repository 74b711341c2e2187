use Rattle.std.proofs.Common.{◌+◌, sym, ◌∙◌}
use Rattle.og_csubset.specs.declared.CGlobal.{CGlobal}
use Rattle.og_csubset.specs.Kinds.{width_of}
use Rattle.og_cload.proofs.Widths.{within, none_many, cells_first, cells_last, cells_full, cells_more}
use Rattle.og_cload.proofs.width.cells_of_globals.Goals as goal

pub returns-then-is_many : goal.returns-then-is_many
returns-then-is_many c =
    cells_full (λ (g : CGlobal). width_of c.args.structs.now g.kind) c.args.globals.now c.loop-global.global-index c.loop-global.cells _ c.global-item.result
    (sym c.is_many.ensures ∙ c.if-is_many.true) c.loop-global-test.true c.global-item.is c.loop-global.invariant.1

pub loop-global-init : goal.loop-global-init
loop-global-init c = (none_many, cells_first (λ (g : CGlobal). width_of c.args.structs.now g.kind) c.args.globals.now)

pub loop-global-preserved : goal.loop-global-preserved
loop-global-preserved c = (
  within _ (c.loop-global.cells + c.width_within.result) c.sum-cells.ensures,
  cells_more (λ (g : CGlobal). width_of c.args.structs.now g.kind) c.args.globals.now c.loop-global.global-index c.loop-global.cells c.width_within.result
      c.sum-cells.result _ c.global-item.result c.width_within.ensures c.sum-cells.ensures c.loop-global-test.true c.global-item.is c.loop-global.invariant.1,
)

pub returns : goal.returns
returns c =
    cells_last (λ (g : CGlobal). width_of c.args.structs.now g.kind) c.args.globals.now c.loop-global.global-index c.loop-global.cells _
    c.loop-global.invariant.0 c.loop-global-test.false c.loop-global.invariant.1
