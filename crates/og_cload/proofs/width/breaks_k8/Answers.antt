use Rattle.std.proofs.Common.{map, nat_eq, ap, ◌∙◌}
use Rattle.og_csubset.specs.declared.CGlobal.{CGlobal}
use Rattle.og_csubset.specs.Kinds.{width_of, total}
use Rattle.og_csubset.specs.Loading.{cells_of_globals}
use Rattle.og_cload.specs.Widths.{many, capped}
use Rattle.og_cload.proofs.Widths.{over}
use Rattle.og_cload.proofs.width.breaks_k8.Goals as goal

pub returns : goal.returns
returns c =
    c.is_many.ensures
    ∙ ap (nat_eq many)
    (c.cells_of_globals.ensures
    ∙ ap (λ structs. capped (total (map (λ (g : CGlobal). width_of structs g.kind) c.as_slice-2.result.now))) c.as_slice.ensures
    ∙ ap (λ globals. capped (total (map (λ (g : CGlobal). width_of c.args.program.now.structs g.kind) globals))) c.as_slice-2.ensures)
    ∙ over (cells_of_globals c.args.program.now)
