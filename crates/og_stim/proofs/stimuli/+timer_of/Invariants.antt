use Rattle.std.proofs.Common.{length}
use Rattle.og_stim.proofs.stimuli.+timer_of.Given as goal

abbrev pub decreases-timer_of : goal.decreases-timer_of
decreases-timer_of l = length l.timers.now
