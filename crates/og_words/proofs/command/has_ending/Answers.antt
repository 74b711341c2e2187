use Rattle.std.proofs.Common.{◌↔◌, ℕ, List, IsTrue, subst, arith}
use Rattle.og_words.specs.Words.{HasEnding}
use Rattle.og_words.proofs.CommandForms.{ends_so}
use Rattle.og_words.proofs.command.has_ending.Goals as goal

pub returns : goal.returns
returns c =
    let P : List ℕ → Type 0 = λ name. IsTrue c.eq.result ↔ HasEnding c.args.ending.now name in
    subst P c.as_bytes-name.ensures.value
    (ends_so c.as_bytes-name.result.now c.args.ending.now c.split_at.result.1.now c.eq.result (omega (arith, c.if-name-ending.false)) c.split_at.ensures.back c.eq.ensures)
