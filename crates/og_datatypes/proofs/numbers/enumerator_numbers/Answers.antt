use Rattle.std.proofs.Common.{◌<◌, ◌^◌, sym, subst, length}
use Rattle.og_datatypes.proofs.Free.{all_fit, few_numbers}
use Rattle.og_datatypes.proofs.numbers.enumerator_numbers.Goals as goal

pub returns-clause-numbers : goal.returns-clause-numbers
returns-clause-numbers c = all_fit c.args.items.now c.in_ok-numbers.numbers c.in_ok-numbers.ensures.numbers c.in_ok-numbers.ensures.few

pub returns-clause-few : goal.returns-clause-few
returns-clause-few c = subst (λ zs. length zs < 2 ^ 32) (sym c.in_ok-numbers.ensures.numbers) (few_numbers c.args.items.now c.in_ok-numbers.ensures.few)
