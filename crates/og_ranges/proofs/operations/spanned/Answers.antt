use Rattle.std.proofs.Common.{arith}
use Rattle.std.proofs.lemmas.Int.{ints, clamps}
use Rattle.std.specs.Int.{int_min, int_max}
use Rattle.og_ranges.proofs.Ends.{same_ends}
use Rattle.og_ranges.proofs.Back.{four_back}
use Rattle.og_ranges.proofs.operations.spanned.Goals as goal

pub returns-clause-value : goal.returns-clause-value
returns-clause-value c =
    let a = c.args in
    same_ends
    (four_back int_min a.p a.q a.r a.s c.min.result c.min-2.result c.min-3.result c.ranges.p c.ranges.q c.ranges.r c.ranges.s
    (record { sfits = c.min.type_inv }) (record { sfits = c.min-2.type_inv }) (record { sfits = c.min-3.type_inv }) c.min.ensures.value c.min-2.ensures.value c.min-3.ensures.value)
    (four_back int_max a.p a.q a.r a.s c.max.result c.max-2.result c.max-3.result c.ranges.p c.ranges.q c.ranges.r c.ranges.s
    (record { sfits = c.max.type_inv }) (record { sfits = c.max-2.type_inv }) (record { sfits = c.max-3.type_inv }) c.max.ensures.value c.max-2.ensures.value c.max-3.ensures.value)

pub returns-clause-ordered : goal.returns-clause-ordered
returns-clause-ordered c = omega (arith, ints, clamps)
