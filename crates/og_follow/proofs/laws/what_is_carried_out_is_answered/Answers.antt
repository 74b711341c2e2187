use Rattle.std.specs.Prelude.{IsTrue}
use Rattle.og_follow.specs.Carrying.{told, ways}
use Rattle.og_follow.proofs.Answering.{carried_is_answered, carried_is_cut}
use Rattle.og_follow.proofs.laws.what_is_carried_out_is_answered.Goals as goal

pub returns-clause-answered : goal.returns-clause-answered
returns-clause-answered c = λ rests halts machine unit_at pace is_pace ir config d n s before P at carries.
    carried_is_answered (λ a s slots. IsTrue (rests a s slots)) (λ s slots. IsTrue (halts s slots)) machine unit_at pace is_pace ir config d n s (told before) (ways P) at carries

pub returns-clause-cut : goal.returns-clause-cut
returns-clause-cut c = λ rests halts machine unit_at pace is_pace ir config d n s before P at carries.
    carried_is_cut (λ a s slots. IsTrue (rests a s slots)) (λ s slots. IsTrue (halts s slots)) machine unit_at pace is_pace ir config d n s (told before) (ways P) at carries
