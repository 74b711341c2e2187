use Rattle.std.proofs.Common.{length}
use Rattle.og_stim.proofs.show.+put_dotted.Given as goal

abbrev pub decreases-put_dotted : goal.decreases-put_dotted
decreases-put_dotted l = length l.names.now
