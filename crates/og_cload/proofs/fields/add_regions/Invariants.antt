use Rattle.std.proofs.Common.{◌++◌, map}
use Rattle.og_cload.specs.Fields.{fields_in}
use Rattle.og_csubset.specs.Interface as interface
use Rattle.og_names.proofs.Loops.{Left}
use Rattle.og_cload.proofs.fields.add_regions.Given as goal

abbrev pub invariant-loop-region : goal.invariant-loop-region
invariant-loop-region l = Left (λ ys. fields_in l.fields.items ++ map (interface.region_field l.model) ys) l.regions l.region-index (fields_in l.initial.fields.items ++ map (interface.region_field l.model) l.regions)
