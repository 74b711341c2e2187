use Rattle.std.proofs.Common.{length}
use Rattle.og_stim.proofs.show.+put_timers.Given as goal

abbrev pub decreases-put_timers : goal.decreases-put_timers
decreases-put_timers l = length l.timers.now
