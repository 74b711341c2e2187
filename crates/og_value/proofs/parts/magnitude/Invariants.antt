use Rattle.og_names.proofs.Loops.{Left}
use Rattle.og_value.specs.Bytes.{number_from, number_of}
use Rattle.og_value.proofs.parts.magnitude.Given as goal

abbrev pub invariant-loop-digit : goal.invariant-loop-digit
invariant-loop-digit l = Left (number_from l.number) l.digits l.digit-index (number_of l.digits)
