use Rattle.og_layout.proofs.Written.{all_written}
use Rattle.og_layout.proofs.written_slots_are_read.Goals as goal

pub returns : goal.returns
returns c = λ sorts slots k cells held xs all holds. all_written sorts slots k cells held xs all holds
