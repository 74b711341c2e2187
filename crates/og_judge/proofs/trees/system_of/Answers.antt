use Rattle.std.proofs.Common.{Err, ap}
use Rattle.og_judge.proofs.Parts.{no_text}
use Rattle.og_judge.proofs.trees.system_of.Goals as goal

pub returns-in_ok-no_sentence_in-in-Err-clause-broken : goal.returns-in_ok-no_sentence_in-in-Err-clause-broken
returns-in_ok-no_sentence_in-in-Err-clause-broken c =
    no_text c.args.tokens.now c.no_sentence.result (c.in-Err.ensures.none (ap Err c.in_ok-no_sentence_in-in-Err.ensures.no_sentence)) c.no_sentence.ensures
