use Rattle.std.proofs.Common.{◌≡◌, true, sym, ap, cond, ◌∙◌, arith, pos, ◌≤ℤ◌, int_le, int_div}
use Rattle.std.proofs.lemmas.Int.{ints}
use Rattle.og_ranges.specs.Intervals.{corners, up_to, farthest}
use Rattle.og_ranges.proofs.Ends.{at_most_true}
use Rattle.og_ranges.proofs.Back.{quotients_back}
use Rattle.og_ranges.proofs.operations.div.Goals as goal

pub returns-then-b-ge1-clause-value : goal.returns-then-b-ge1-clause-value
returns-then-b-ge1-clause-value c =
    let some : pos 1 ≤ℤ c.args.b.lo = omega (arith, ints) in
    let tested : int_le (pos 1) c.args.b.lo ≡ true = at_most_true (pos 1) c.args.b.lo some in
    c.spanned.ensures.value ∙ quotients_back c.args.a c.args.b c.requires.left c.requires.right some
    ∙ ap (λ t. cond t (corners int_div c.args.a c.args.b) (up_to (farthest c.args.a))) (sym tested)
