use Rattle.std.proofs.Common.{◌≡◌, take, map}
use Rattle.og_names.proofs.names.Names.copy.Given as goal

abbrev pub invariant-loop-word : goal.invariant-loop-word
invariant-loop-word l = map (λ word. word.items) l.set.keys ≡ take l.word-index l.self
