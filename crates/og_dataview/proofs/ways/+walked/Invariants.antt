use Rattle.og_dataview.proofs.ways.+walked.Given as goal

abbrev pub decreases-walked : goal.decreases-walked
decreases-walked l = l.steps
