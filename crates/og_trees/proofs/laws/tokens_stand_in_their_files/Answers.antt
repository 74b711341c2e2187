use Rattle.og_lexer.proofs.Reading.{lexes-tokens_in_place, lexes-ends}
use Rattle.og_trees.proofs.InPlace.{lexed_in}
use Rattle.og_trees.proofs.laws.tokens_stand_in_their_files.Goals as goal

pub returns-clause-placed : goal.returns-clause-placed
returns-clause-placed c = lexes-tokens_in_place

pub returns-clause-ends : goal.returns-clause-ends
returns-clause-ends c = lexes-ends

pub returns-clause-own : goal.returns-clause-own
returns-clause-own c = lexed_in
