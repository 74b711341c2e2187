use Rattle.std.proofs.Common.{◌++◌, codes}
use Rattle.std.specs.List.{flat_map}
use Rattle.og_csubset.specs.Interface as interface
use Rattle.og_names.proofs.Loops.{Left}
use Rattle.og_cload.proofs.fields.region_name.Given as goal

abbrev pub invariant-loop-id : goal.invariant-loop-id
invariant-loop-id l = Left (λ ys. l.bytes.items ++ flat_map (λ id. codes "__" ++ interface.name_of l.model id) ys) l.id-items l.id-index (interface.region_field l.model l.region).name
