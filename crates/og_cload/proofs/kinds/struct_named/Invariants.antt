use Rattle.std.specs.List.{find}
use Rattle.std.specs.Str.{bytes_eq}
use Rattle.og_csubset.specs.declared.CStruct.{CStruct}
use Rattle.og_names.proofs.Loops.{Left}
use Rattle.og_cload.proofs.kinds.struct_named.Given as goal

abbrev pub invariant-loop-one : goal.invariant-loop-one
invariant-loop-one l =
    Left (λ ys. find (λ (s : CStruct). bytes_eq l.name s.name.bytes) ys) l.structs l.one-index (find (λ (s : CStruct). bytes_eq l.name s.name.bytes) l.structs)
