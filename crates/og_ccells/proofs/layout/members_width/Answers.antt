use Rattle.std.proofs.Common.{map, arith}
use Rattle.og_csubset.specs.declared.CMember.{CMember}
use Rattle.og_csubset.specs.Kinds.{times}
use Rattle.og_ccells.specs.Layouts.{known_width}
use Rattle.og_ccells.proofs.Widths.{most, small, sum_first, sum_more, sum_all}
use Rattle.og_ccells.proofs.layout.members_width.Goals as goal

pub loop-member-init : goal.loop-member-init
loop-member-init c = (omega arith, sum_first most (λ (m : CMember). times m.size (known_width c.args.widths.now c.args.structs.now m.kind)) c.args.members.now)

pub loop-member-preserved : goal.loop-member-preserved
loop-member-preserved c = (
  small most c.loop-member.width c.member_width.result c.saturating_add-width.result c.saturating_add-width.ensures,
  sum_more most (λ (m : CMember). times m.size (known_width c.args.widths.now c.args.structs.now m.kind)) c.args.members.now c.loop-member.member-index c.loop-member.width
      c.member_width.result c.saturating_add-width.result _ c.member-item.result c.member_width.ensures c.saturating_add-width.ensures c.loop-member-test.true c.member-item.is
      c.loop-member.invariant.1,
)

pub returns : goal.returns
returns c =
    sum_all most (λ (m : CMember). times m.size (known_width c.args.widths.now c.args.structs.now m.kind)) c.args.members.now c.loop-member.member-index c.loop-member.width _
    c.loop-member.invariant.0 c.loop-member-test.false c.loop-member.invariant.1
