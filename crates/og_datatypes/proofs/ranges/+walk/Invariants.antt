use Rattle.og_datatypes.proofs.ranges.+walk.Given as goal

abbrev pub decreases-walk : goal.decreases-walk
decreases-walk l = l.steps
