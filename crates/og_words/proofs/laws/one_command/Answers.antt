use Rattle.og_words.proofs.OneCommand as command
use Rattle.og_words.proofs.laws.one_command.Goals as goal

pub returns : goal.returns
returns c = command.one_command
