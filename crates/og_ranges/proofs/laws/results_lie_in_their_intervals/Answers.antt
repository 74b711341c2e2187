use Rattle.og_ranges.proofs.Holding.{sums_hold, differences_hold, signs_hold, products_hold, quotients_hold, moduli_hold, rests_hold}
use Rattle.og_ranges.proofs.laws.results_lie_in_their_intervals.Goals as goal

pub returns : goal.returns
returns c = record {
  sums = sums_hold;
  differences = differences_hold;
  signs = signs_hold;
  products = products_hold;
  quotients = quotients_hold;
  moduli = moduli_hold;
  rests = rests_hold;
}
