use Rattle.std.specs.List.{list_all}
use Rattle.og_names.proofs.Loops.{Left}
use Rattle.og_types.specs.Measures.{supported_in}
use Rattle.og_types.proofs.measures.are_supported.Given as goal

abbrev pub invariant-loop-part : goal.invariant-loop-part
invariant-loop-part l =
    Left (λ parts. list_all (λ part. supported_in l.measures part.sort) parts) l.parts l.part-index
    (list_all (λ part. supported_in l.measures part.sort) l.parts)
