use Rattle.std.proofs.Common.{◌++◌}
use Rattle.std.specs.Prelude.{codes, flat_map}
use Rattle.og_csubset.specs.Interface.{name_of}
use Rattle.og_names.proofs.Loops.{Left}
use Rattle.og_flatten.proofs.slots.region_slot.Given as goal

abbrev pub invariant-loop-name : goal.invariant-loop-name
invariant-loop-name l =
    Left (λ ys. l.bytes ++ flat_map (λ id. codes "__" ++ name_of l.model id) ys) l.region.path l.name-index (codes "r" ++ flat_map (λ id. codes "__" ++ name_of l.model id) l.region.path)
