use Rattle.std.proofs.Common.{ap, ◌∙◌, List, ℕ, ℤ}
use Rattle.og_csubset.specs.Kinds.{global_names}
use Rattle.og_ccells.specs.declared.layout.Extent.{Extent}
use Rattle.og_ccells.specs.declared.layout.Layout.{Layout}
use Rattle.og_ccells.specs.Vectors.{trees_of}
use Rattle.og_cstatement.proofs.Loaded.{loaded}
use Rattle.og_cstep.specs.declared.interface.Interface.{Interface}
use Rattle.og_cstep.specs.Slots.{Numbers, in_trees, number_of, leaf_at}
use Rattle.og_cstep.proofs.Ended.{leaf_same}
use Rattle.og_cstep.proofs.Sighted.{numbers_same}
use Rattle.og_cstep.proofs.Machine.active.Goals as goal

pub returns : goal.returns
returns c =
    let m = c.args.self.now in
    let k = c.args.region in
    let small = (loaded m.program m.model m.loads).small in
    c.leaf_at.ensures
    ∙ ap (λ xs. leaf_at (number_of c.as_slice-extents.result.now xs) m.interface k) c.as_slice.ensures.value
    ∙ ap (λ (es : List Extent). leaf_at (number_of es m.cells.items) m.interface k) c.as_slice-extents.ensures
    ∙ ap (λ (l : Layout). leaf_at (number_of l.extents m.cells.items) m.interface k) m.layout_is
    ∙ ap (λ (n : Numbers). leaf_at n m.interface k) (numbers_same m.program small m.cells.items m.model.types)
    ∙ ap (λ (i : Interface). leaf_at (in_trees m.model.types (trees_of m.program m.cells.items)).number i k) m.interface_is
    ∙ leaf_same m.model (global_names m.program) (trees_of m.program m.cells.items) k
