use Rattle.std.proofs.Common.{ℕ, ℤ, List, ap, ◌∙◌}
use Rattle.og_types.specs.declared.Sort.{Sort}
use Rattle.og_ccells.specs.declared.layout.Extent.{Extent}
use Rattle.og_ccells.specs.declared.layout.Layout.{Layout}
use Rattle.og_ccells.specs.Layouts.{layout_of}
use Rattle.og_cstep.specs.declared.interface.Interface.{Interface}
use Rattle.og_cstep.specs.Slots.{in_vector, end_answer}
use Rattle.og_cstep.proofs.Sighted.{end_seen}
use Rattle.og_cstep.proofs.interface.answer_of_end.Goals as goal

pub returns : goal.returns
returns c =
    let I = c.args.interface.now in
    let xs = c.args.cells.now in
    let M = c.args.model.now in
    c.end_answer.ensures
    ∙ ap (λ (sorts : List Sort). end_answer (in_vector sorts c.as_slice-extents.result.now xs) I) c.as_slice.ensures
    ∙ ap (λ (extents : List Extent). end_answer (in_vector M.types extents xs) I) c.as_slice-extents.ensures
    ∙ ap (λ (l : Layout). end_answer (in_vector M.types l.extents xs) I) c.requires.layout
    ∙ ap (end_answer (in_vector M.types (layout_of c.args.program.now).extents xs)) c.requires.interface
    ∙ end_seen c.args.program.now M xs c.requires.loads
