use Rattle.og_datatypes.proofs.Behind.{Standing}
use Rattle.og_data.proofs.numbers.Numbered.types.Given as goal

abbrev pub invariant-loop-place : goal.invariant-loop-place
invariant-loop-place l = Standing l.self.known.limited.valued.scope.flat l.names l.place-index l.types
