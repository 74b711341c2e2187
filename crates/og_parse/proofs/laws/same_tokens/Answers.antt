use Rattle.og_parse.proofs.SameTokens.{alike, read_too, broken_too}
use Rattle.og_parse.proofs.laws.same_tokens.Goals as goal

pub returns-clause-read : goal.returns-clause-read
returns-clause-read c = read_too

pub returns-clause-alike : goal.returns-clause-alike
returns-clause-alike c = alike c.can_be_read.ensures

pub returns-clause-broken : goal.returns-clause-broken
returns-clause-broken c = broken_too
