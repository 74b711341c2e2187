use Rattle.std.proofs.Common.{length}
use Rattle.og_stim.proofs.stimuli.+signal_of.Given as goal

abbrev pub decreases-signal_of : goal.decreases-signal_of
decreases-signal_of l = length l.signals.now
