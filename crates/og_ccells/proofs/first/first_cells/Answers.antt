use Rattle.std.proofs.Common.{ap, ◌∙◌, length, pos}
use Rattle.std.proofs.lemmas.List.{length-replicate}
use Rattle.og_ccells.specs.declared.layout.Layout.{Layout}
use Rattle.og_ccells.specs.Vectors.{trees_of}
use Rattle.og_ccells.proofs.Zeros.{first_trees, counted_cells}
use Rattle.og_ccells.proofs.first.first_cells.Goals as goal

pub returns-clause-first : goal.returns-clause-first
returns-clause-first c = ap (trees_of c.args.program.now) c.in_ok-cells.ensures ∙ first_trees c.args.program.now c.cells_in-count.result

pub returns-clause-whole : goal.returns-clause-whole
returns-clause-whole c =
    ap length c.in_ok-cells.ensures ∙ length-replicate c.cells_in-count.result (pos 0)
    ∙ counted_cells c.args.program.now _ c.cells_in-count.result (c.as_slice.ensures ∙ ap (λ (l : Layout). l.extents) c.requires.layout) c.requires.few c.cells_in-count.ensures
