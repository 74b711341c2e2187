use Rattle.std.proofs.Common.{ap, ◌∙◌, List, ℕ, ℤ}
use Rattle.og_csubset.specs.Kinds.{global_names}
use Rattle.og_ccells.specs.declared.layout.Extent.{Extent}
use Rattle.og_ccells.specs.declared.layout.Layout.{Layout}
use Rattle.og_ccells.specs.Vectors.{trees_of}
use Rattle.og_cstatement.proofs.Loaded.{loaded}
use Rattle.og_cstep.specs.declared.interface.Interface.{Interface}
use Rattle.og_cstep.specs.Machines.{is_not_zero}
use Rattle.og_cstep.specs.Slots.{Numbers, in_trees, number_of, timer_number}
use Rattle.og_cstep.proofs.Ended.{timer_same}
use Rattle.og_cstep.proofs.Sighted.{numbers_same}
use Rattle.og_cstep.proofs.Machine.running.Goals as goal

pub returns : goal.returns
returns c =
    let m = c.args.self.now in
    let k = c.args.timer in
    let small = (loaded m.program m.model m.loads).small in
    c.is_not_zero.ensures
    ∙ ap is_not_zero (c.timer_number.ensures
    ∙ ap (λ xs. timer_number (number_of c.as_slice-extents.result.now xs) m.interface k) c.as_slice.ensures.value
    ∙ ap (λ (es : List Extent). timer_number (number_of es m.cells.items) m.interface k) c.as_slice-extents.ensures
    ∙ ap (λ (l : Layout). timer_number (number_of l.extents m.cells.items) m.interface k) m.layout_is
    ∙ ap (λ (n : Numbers). timer_number n m.interface k) (numbers_same m.program small m.cells.items m.model.types)
    ∙ ap (λ (i : Interface). timer_number (in_trees m.model.types (trees_of m.program m.cells.items)).number i k) m.interface_is
    ∙ timer_same m.model (global_names m.program) (trees_of m.program m.cells.items) k)
