use Rattle.std.proofs.Common.{ap, ◌∙◌, List, Option, ℕ, ℤ, slice_get}
use Rattle.og_types.specs.declared.Sort.{Sort}
use Rattle.og_ccells.specs.declared.layout.Extent.{Extent}
use Rattle.og_ccells.specs.declared.layout.Layout.{Layout}
use Rattle.og_ccells.specs.Layouts.{layout_of}
use Rattle.og_cstep.specs.declared.interface.Interface.{Interface}
use Rattle.og_cstep.specs.declared.interface.Slot.{Slot}
use Rattle.og_cstep.specs.Slots.{value_if}
use Rattle.og_cstep.proofs.Sighted.{variable_seen}
use Rattle.og_cstep.proofs.Machine.variable.Goals as goal

pub returns : goal.returns
returns c =
    let m = c.args.self.now in
    let k = c.args.variable in
    c.in_ok-value.ensures
    ∙ ap (λ (o : Option Slot). value_if c.as_slice.result.now c.as_slice-2.result.now c.as_slice-3.result.now o) c.at.ensures
    ∙ ap (λ (slots : List Slot). value_if c.as_slice.result.now c.as_slice-2.result.now c.as_slice-3.result.now (slice_get slots k)) c.as_slice-4.ensures
    ∙ ap (λ (sorts : List Sort). value_if sorts c.as_slice-2.result.now c.as_slice-3.result.now (slice_get m.interface.variables k)) c.as_slice.ensures
    ∙ ap (λ (es : List Extent). value_if m.model.types es c.as_slice-3.result.now (slice_get m.interface.variables k)) c.as_slice-2.ensures
    ∙ ap (λ xs. value_if m.model.types m.layout.extents xs (slice_get m.interface.variables k)) c.as_slice-3.ensures.value
    ∙ ap (λ (l : Layout). value_if m.model.types l.extents m.cells.items (slice_get m.interface.variables k)) m.layout_is
    ∙ ap (λ (i : Interface). value_if m.model.types (layout_of m.program).extents m.cells.items (slice_get i.variables k)) m.interface_is
    ∙ variable_seen m.program m.model m.cells.items m.loads k
