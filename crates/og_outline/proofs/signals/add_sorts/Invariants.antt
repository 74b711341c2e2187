use Rattle.og_outline.specs.Outlines.{sort_of}
use Rattle.og_outline.proofs.Pieces.{Pieces}
use Rattle.og_outline.proofs.signals.add_sorts.Given as goal

abbrev pub invariant-loop-name : goal.invariant-loop-name
invariant-loop-name l = Pieces sort_of l.names l.name-index l.sorts l.initial.sorts
