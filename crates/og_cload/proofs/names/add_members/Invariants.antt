use Rattle.std.proofs.Common.{◌≡◌, ◌++◌, map, take}
use Rattle.og_cload.specs.Names.{names_in}
use Rattle.og_cload.proofs.names.add_members.Given as goal

abbrev pub invariant-loop-member : goal.invariant-loop-member
invariant-loop-member l = names_in l.names.items ≡ names_in l.initial.names.items ++ map (λ s. s.name.bytes) (take l.member-index l.members)
