use Rattle.std.proofs.Common.{sym, ap, ◌∙◌, arith}
use Rattle.std.specs.Str.{bytes_eq}
use Rattle.og_ccells.proofs.Widths.{most, small, before_first, before_here, before_more, before_all}
use Rattle.og_ccells.proofs.layout.width_before.Goals as goal

pub returns-then-eq : goal.returns-then-eq
returns-then-eq c =
    before_here c.args.structs.now c.args.name.now c.args.members.now c.loop-member.member-index c.loop-member.width _ c.member-item.result c.loop-member.invariant.0
    (c.if-eq.ensures ∙ ap (bytes_eq c.args.name.now) c.as_slice.ensures) c.loop-member-test.true c.member-item.is c.loop-member.invariant.1

pub loop-member-init : goal.loop-member-init
loop-member-init c = (omega arith, before_first c.args.structs.now c.args.name.now c.args.members.now)

pub loop-member-preserved : goal.loop-member-preserved
loop-member-preserved c = (
  small most c.loop-member.width c.member_width.result c.saturating_add-width.result c.saturating_add-width.ensures,
  before_more c.args.structs.now c.args.name.now c.args.widths.now c.args.members.now c.loop-member.member-index c.loop-member.width c.member_width.result
      c.saturating_add-width.result _ c.member-item.result c.requires (c.if-eq.ensures ∙ ap (bytes_eq c.args.name.now) c.as_slice.ensures) c.member_width.ensures c.saturating_add-width.ensures
      c.loop-member-test.true c.member-item.is c.loop-member.invariant.1,
)

pub returns : goal.returns
returns c =
    before_all c.args.structs.now c.args.name.now c.args.members.now c.loop-member.member-index c.loop-member.width _ c.loop-member.invariant.0 c.loop-member-test.false
    c.loop-member.invariant.1
