use Rattle.std.proofs.Common.{map}
use Rattle.std.specs.List.{list_any}
use Rattle.og_csubset.specs.Loading.{has_twice}
use Rattle.og_csubset.specs.declared.CStruct.{CStruct}
use Rattle.og_names.proofs.Loops.{Left}
use Rattle.og_cload.proofs.repeats.repeats_member.Given as goal

abbrev pub invariant-loop-one : goal.invariant-loop-one
invariant-loop-one l =
    Left (λ ys. list_any (λ (s : CStruct). has_twice (map (λ m. m.name.bytes) s.members)) ys) l.structs l.one-index (list_any (λ (s : CStruct). has_twice (map (λ m. m.name.bytes) s.members)) l.structs)
