use Rattle.og_csubset.specs.Kinds.{member_in}
use Rattle.og_names.proofs.Loops.{Left}
use Rattle.og_cload.proofs.Places.{member_from}
use Rattle.og_cload.proofs.kinds.member_in.Given as goal

abbrev pub invariant-loop-place : goal.invariant-loop-place
invariant-loop-place l = Left (λ ys. member_from l.place l.name ys) l.members l.place (member_in l.name l.members)
