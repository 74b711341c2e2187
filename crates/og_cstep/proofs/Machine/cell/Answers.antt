use Rattle.std.proofs.Common.{ap, ◌∙◌, List, ℕ, ℤ}
use Rattle.og_ccells.specs.declared.layout.Extent.{Extent}
use Rattle.og_ccells.specs.declared.layout.Layout.{Layout}
use Rattle.og_cstatement.proofs.Loaded.{loaded}
use Rattle.og_cstep.specs.Slots.{cell_of}
use Rattle.og_cstep.proofs.Numbered.{cell_is}
use Rattle.og_cstep.proofs.Machine.cell.Goals as goal

pub returns : goal.returns
returns c =
    let m = c.args.self.now in
    let g = c.args.global in
    let k = c.args.offset in
    c.cell_of.ensures
    ∙ ap (λ xs. cell_of c.as_slice-extents.result.now xs g k) c.as_slice.ensures.value
    ∙ ap (λ (es : List Extent). cell_of es m.cells.items g k) c.as_slice-extents.ensures
    ∙ ap (λ (l : Layout). cell_of l.extents m.cells.items g k) m.layout_is
    ∙ cell_is m.program m.cells.items g k (loaded m.program m.model m.loads).small
