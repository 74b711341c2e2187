use Rattle.std.proofs.Common.{◌≡◌, ◌++◌, take, map}
use Rattle.og_csubset.specs.Interface.{region_field}
use Rattle.og_flatten.specs.Slots.{slots_of}
use Rattle.og_flatten.proofs.slots.put_regions.Given as goal

abbrev pub invariant-loop-region : goal.invariant-loop-region
invariant-loop-region l = l.slots ≡ l.initial.slots ++ slots_of (map (region_field l.model) (take l.region-index l.regions))
