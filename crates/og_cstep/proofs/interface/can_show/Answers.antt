use Rattle.std.proofs.Common.{ℕ, ℤ, List, ap, ◌∙◌}
use Rattle.og_types.specs.declared.Sort.{Sort}
use Rattle.og_ccells.specs.declared.layout.Extent.{Extent}
use Rattle.og_ccells.specs.declared.layout.Layout.{Layout}
use Rattle.og_ccells.specs.Layouts.{layout_of}
use Rattle.og_cstep.specs.declared.interface.Interface.{Interface}
use Rattle.og_cstep.specs.Slots.{in_vector, shows}
use Rattle.og_cstep.proofs.Sighted.{event_seen}
use Rattle.og_cstep.proofs.interface.can_show.Goals as goal

pub returns : goal.returns
returns c =
    let I = c.args.interface.now in
    let xs = c.args.cells.now in
    let M = c.args.model.now in
    let e = c.args.event in
    c.shows.ensures
    ∙ ap (λ (sorts : List Sort). shows (in_vector sorts c.as_slice-extents.result.now xs) I e) c.as_slice.ensures
    ∙ ap (λ (extents : List Extent). shows (in_vector M.types extents xs) I e) c.as_slice-extents.ensures
    ∙ ap (λ (l : Layout). shows (in_vector M.types l.extents xs) I e) c.requires.layout
    ∙ ap (λ (i : Interface). shows (in_vector M.types (layout_of c.args.program.now).extents xs) i e) c.requires.interface
    ∙ event_seen c.args.program.now M xs c.requires.loads e
