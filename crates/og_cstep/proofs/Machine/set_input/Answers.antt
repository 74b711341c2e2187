use Rattle.std.proofs.Common.{List, length, ap, sym, ◌∙◌}
use Rattle.og_types.specs.declared.Sort.{Sort}
use Rattle.og_ccells.specs.declared.layout.Extent.{Extent}
use Rattle.og_ccells.specs.declared.layout.Layout.{Layout}
use Rattle.og_ccells.specs.Layouts.{layout_of}
use Rattle.og_cstep.specs.declared.interface.Interface.{Interface}
use Rattle.og_cstep.specs.Inputs.{put_in_vector}
use Rattle.og_cstep.specs.Slots.{input_slot}
use Rattle.og_cstep.proofs.Putting.{run_put, put_length}
use Rattle.og_cstep.proofs.Machine.set_input.Goals as goal

pub returns : goal.returns
returns c =
    let m = c.args.self.now in
    let xs = m.cells.items in
    let v = c.args.value.now in
    run_put m.program m.model m.last m.position xs c.put_input.new.cells.items c.args.signal c.args.parameter v m.loads m.whole c.requires.signal
    (c.put_input.ensures
    ∙ ap (λ (sorts : List Sort). put_in_vector sorts c.as_slice-2.result.now (input_slot m.interface c.args.signal c.args.parameter) v xs) c.as_slice.ensures
    ∙ ap (λ (es : List Extent). put_in_vector m.model.types es (input_slot m.interface c.args.signal c.args.parameter) v xs) c.as_slice-2.ensures
    ∙ ap (λ (l : Layout). put_in_vector m.model.types l.extents (input_slot m.interface c.args.signal c.args.parameter) v xs) m.layout_is
    ∙ ap (λ (i : Interface). put_in_vector m.model.types (layout_of m.program).extents (input_slot i c.args.signal c.args.parameter) v xs) m.interface_is)

pub invariant_of-self-clause-whole : goal.invariant_of-self-clause-whole
invariant_of-self-clause-whole c =
    let m = c.args.self.now in
    ap length c.put_input.ensures ∙ put_length c.as_slice.result.now c.as_slice-2.result.now (input_slot m.interface c.args.signal c.args.parameter) c.args.value.now m.cells.items ∙ m.whole
