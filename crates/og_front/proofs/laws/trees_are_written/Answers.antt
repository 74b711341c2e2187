use Rattle.og_front.proofs.WrittenTrees.{written_spelt}
use Rattle.og_front.proofs.laws.trees_are_written.Goals as goal

pub returns : goal.returns
returns c = written_spelt
