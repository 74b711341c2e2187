use Rattle.std.proofs.Common.{◌≡◌, map, take}
use Rattle.og_csubset.specs.declared.CStruct.{CStruct}
use Rattle.og_ccells.specs.Layouts.{capped, members_width}
use Rattle.og_ccells.proofs.layout.widths_of.Given as goal

abbrev pub invariant-loop-one : goal.invariant-loop-one
invariant-loop-one l = l.widths ≡ map (λ (s : CStruct). capped (members_width l.structs s.members)) (take l.one-index l.structs)
