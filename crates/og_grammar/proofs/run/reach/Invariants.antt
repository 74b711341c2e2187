use Rattle.std.proofs.Common.{reverse}
use Rattle.og_grammar.specs.Standing.{LeadsTo}
use Rattle.og_grammar.proofs.Advances.{weight_due}
use Rattle.og_grammar.proofs.run.reach.Given as goal

abbrev pub invariant-steps : goal.invariant-steps
invariant-steps l = LeadsTo l.table l.parts l.last l.kind l.initial.run (reverse l.run.due) l.run.count l.run.choices

abbrev pub decreases-steps : goal.decreases-steps
decreases-steps l = weight_due l.parts (reverse l.run.due)
