use Rattle.std.specs.List.{list_all}
use Rattle.og_csubset.specs.declared.CMember.{CMember}
use Rattle.og_csubset.specs.Loading.{is_known}
use Rattle.og_cload.specs.Names.{names_in}
use Rattle.og_names.proofs.Loops.{Left}
use Rattle.og_cload.proofs.types.members_known.Given as goal

abbrev pub invariant-loop-member : goal.invariant-loop-member
invariant-loop-member l =
    Left (λ ys. list_all (λ (m : CMember). is_known (names_in l.names) m.kind) ys) l.members l.member-index (list_all (λ (m : CMember). is_known (names_in l.names) m.kind) l.members)
