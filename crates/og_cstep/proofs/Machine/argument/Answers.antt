use Rattle.std.proofs.Common.{ap, ◌∙◌, List, Option, ℕ, ℤ}
use Rattle.og_types.specs.declared.Sort.{Sort}
use Rattle.og_ccells.specs.declared.layout.Extent.{Extent}
use Rattle.og_ccells.specs.declared.layout.Layout.{Layout}
use Rattle.og_ccells.specs.Layouts.{layout_of}
use Rattle.og_cstep.specs.declared.interface.Interface.{Interface}
use Rattle.og_cstep.specs.declared.interface.Slot.{Slot}
use Rattle.og_cstep.specs.Slots.{value_if, output_slot}
use Rattle.og_cstep.proofs.Sighted.{argument_seen}
use Rattle.og_cstep.proofs.Machine.argument.Goals as goal

pub returns : goal.returns
returns c =
    let m = c.args.self.now in
    let signal = c.args.signal in
    let k = c.args.parameter in
    c.in_ok-value.ensures
    ∙ ap (λ (o : Option Slot). value_if c.as_slice.result.now c.as_slice-2.result.now c.as_slice-3.result.now o) c.output_slot.ensures
    ∙ ap (λ (sorts : List Sort). value_if sorts c.as_slice-2.result.now c.as_slice-3.result.now (output_slot m.interface signal k)) c.as_slice.ensures
    ∙ ap (λ (es : List Extent). value_if m.model.types es c.as_slice-3.result.now (output_slot m.interface signal k)) c.as_slice-2.ensures
    ∙ ap (λ xs. value_if m.model.types m.layout.extents xs (output_slot m.interface signal k)) c.as_slice-3.ensures.value
    ∙ ap (λ (l : Layout). value_if m.model.types l.extents m.cells.items (output_slot m.interface signal k)) m.layout_is
    ∙ ap (λ (i : Interface). value_if m.model.types (layout_of m.program).extents m.cells.items (output_slot i signal k)) m.interface_is
    ∙ argument_seen m.program m.model m.cells.items m.loads signal k
