use Rattle.std.proofs.Common.{sym, ◌∙◌}
use Rattle.og_data.proofs.Views.{broken_is}
use Rattle.og_data.proofs.read.scope_of.Goals as goal

pub returns-in-Some-clause-broken : goal.returns-in-Some-clause-broken
returns-in-Some-clause-broken c = broken_is c.args.modules.now c.in-Some.violation (sym c.in_ok-first_in.ensures ∙ c.in-Some.is)
