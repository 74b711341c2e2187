use Rattle.std.specs.Prelude.{IsTrue}
use Rattle.og_follow.proofs.Agreeing.{same_runs}
use Rattle.og_follow.proofs.laws.answering_code_agrees.Goals as goal

pub returns : goal.returns
returns c = λ model machine pace size first rests halts simulates.
    same_runs model machine pace size first (λ a s slots. IsTrue (rests a s slots)) (λ s slots. IsTrue (halts s slots)) simulates
