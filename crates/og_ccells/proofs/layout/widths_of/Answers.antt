use Rattle.std.proofs.Common.{[], ◌∷◌, ◌++◌, map, sym, ap, ◌∙◌}
use Rattle.og_csubset.specs.declared.CMember.{CMember}
use Rattle.og_csubset.specs.Kinds.{total, times}
use Rattle.og_ccells.specs.Layouts.{capped, known_width}
use Rattle.og_ccells.proofs.Widths.{entry_is, entries_more}
use Rattle.og_ccells.proofs.layout.widths_of.Goals as goal

pub loop-one-preserved : goal.loop-one-preserved
loop-one-preserved c =
    let structs = c.args.structs.now in
    entries_more structs c.loop-one.widths c.push.new.self c.loop-one.one-index c.one-item.result c.members_width-width.result c.loop-one-test.true c.one-item.is c.loop-one.invariant
    (entry_is structs c.loop-one.widths c.loop-one.one-index c.one-item.result c.members_width-width.result c.requires c.loop-one-test.true c.one-item.is c.loop-one.invariant
    (c.members_width-width.ensures
    ∙ ap (λ ws. capped (total (map (λ (m : CMember). times m.size (known_width ws structs m.kind)) c.as_slice-in-loop-one.result.now))) c.as_slice.ensures
    ∙ ap (λ ms. capped (total (map (λ (m : CMember). times m.size (known_width c.loop-one.widths structs m.kind)) ms))) c.as_slice-in-loop-one.ensures))
    c.in_ok-push.ensures.ok
