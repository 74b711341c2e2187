use Rattle.og_outline.proofs.Pieces.{Hyphened}
use Rattle.og_outline.proofs.signals.add_hyphened.Given as goal

abbrev pub invariant-loop-name : goal.invariant-loop-name
invariant-loop-name l = Hyphened l.names l.name-index l.bytes l.initial.bytes
