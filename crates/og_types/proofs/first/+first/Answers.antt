use Rattle.og_types.proofs.Firsts.{first_at}
use Rattle.og_types.proofs.first.+first.Goals as goal

pub first_within-returns-in-Some : goal.first_within-returns-in-Some
first_within-returns-in-Some t c =
    rw (first_at c.args.depth c.args.sorts.now c.args.id c.in-Some.sort.now c.if-depth-eq0.false c.in-Some.ensures) c.first_of_sort.ensures
