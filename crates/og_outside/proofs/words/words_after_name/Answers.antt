use Rattle.og_outside.proofs.Taken.{first_gone, none_taken, all_taken}
use Rattle.og_outside.proofs.words.words_after_name.Goals as goal

pub loop-word-init : goal.loop-word-init
loop-word-init c = none_taken _ _ _ c.new-words.ensures.items (first_gone c.next-name.result _ _ _ _ c.args.args.rest.ok.0 c.next-name.new.self.rest.ok.0 c.next-name.ensures.cases)

pub returns : goal.returns
returns c = all_taken _ _ _ _ c.loop-word.rest.rest.ok.0 c.in_default.ensures.cases.0 c.loop-word.invariant
