use Rattle.std.proofs.Common.{◌+◌, sym, ap, ◌∙◌}
use Rattle.og_csubset.specs.declared.CMember.{CMember}
use Rattle.og_csubset.specs.Kinds.{width_within, times}
use Rattle.og_cload.specs.Widths.{capped}
use Rattle.og_cload.proofs.Widths.{within, none_many, none_capped, one_capped, times_capped, cells_first, cells_last, cells_full, cells_more, width_unknown, width_number, width_none, no_times}
use Rattle.og_cload.proofs.width.+width.Goals as goal

pub member_width-times-requires : goal.member_width-times-requires
member_width-times-requires t c = within _ (width_within c.args.depth c.args.structs.now c.args.member.now.kind) c.width_within.ensures

pub member_width-returns : goal.member_width-returns
member_width-returns t c =
    c.times.ensures ∙ ap (λ w. capped (times c.args.member.now.size w)) c.width_within.ensures ∙ times_capped c.args.member.now.size (width_within c.args.depth c.args.structs.now c.args.member.now.kind)

pub members_width-returns-then-is_many : goal.members_width-returns-then-is_many
members_width-returns-then-is_many t c =
    cells_full (λ (m : CMember). times m.size (width_within c.args.depth c.args.structs.now m.kind)) c.args.members.now c.loop-member.member-index c.loop-member.cells _ c.member-item.result
    (sym c.is_many.ensures ∙ c.if-is_many.true) c.loop-member-test.true c.member-item.is c.loop-member.invariant.1

pub members_width-sum-cells-requires-clause-left : goal.members_width-sum-cells-requires-clause-left
members_width-sum-cells-requires-clause-left t c = c.loop-member.invariant.0

pub members_width-sum-cells-requires-clause-right : goal.members_width-sum-cells-requires-clause-right
members_width-sum-cells-requires-clause-right t c =
    within _ (times c.member-item.result.size (width_within c.args.depth c.args.structs.now c.member-item.result.kind)) c.member_width.ensures

pub members_width-loop-member-init : goal.members_width-loop-member-init
members_width-loop-member-init t c =
    (none_many, cells_first (λ (m : CMember). times m.size (width_within c.args.depth c.args.structs.now m.kind)) c.args.members.now)

pub members_width-loop-member-preserved : goal.members_width-loop-member-preserved
members_width-loop-member-preserved t c = (
  within _ (c.loop-member.cells + c.member_width.result) c.sum-cells.ensures,
  cells_more (λ (m : CMember). times m.size (width_within c.args.depth c.args.structs.now m.kind)) c.args.members.now c.loop-member.member-index c.loop-member.cells c.member_width.result
      c.sum-cells.result _ c.member-item.result c.member_width.ensures c.sum-cells.ensures c.loop-member-test.true c.member-item.is c.loop-member.invariant.1,
)

pub members_width-returns : goal.members_width-returns
members_width-returns t c =
    cells_last (λ (m : CMember). times m.size (width_within c.args.depth c.args.structs.now m.kind)) c.args.members.now c.loop-member.member-index c.loop-member.cells _
    c.loop-member.invariant.0 c.loop-member-test.false c.loop-member.invariant.1

pub width_within-returns-then-depth-eq0 : goal.width_within-returns-then-depth-eq0
width_within-returns-then-depth-eq0 t c = none_capped ∙ ap capped (sym (width_none c.args.depth c.args.structs.now c.args.kind.now c.if-depth-eq0.true))

pub width_within-returns-in-Int64 : goal.width_within-returns-in-Int64
width_within-returns-in-Int64 t c = one_capped ∙ ap capped (sym (width_number c.args.depth c.args.structs.now c.args.kind.now c.if-depth-eq0.false c.in-Int64.is))

pub width_within-returns-in-None : goal.width_within-returns-in-None
width_within-returns-in-None t c =
    none_capped ∙ ap capped (sym (width_unknown c.args.depth c.args.structs.now c.args.kind.now c.in-Struct.field-0 c.in-Struct.is c.in-None.ensures))

pub member_width-returns-then-size-eq0 : goal.member_width-returns-then-size-eq0
member_width-returns-then-size-eq0 t c =
    none_capped ∙ ap capped (sym (no_times c.args.member.now.size c.in-Some.size (width_within c.args.depth c.args.structs.now c.args.member.now.kind) c.in-Some.is c.if-size-eq0.true))
