use Rattle.std.proofs.Common.{◌∙◌, ap, string_bytes}
use Rattle.og_words.proofs.CommandForms.{stands_at}
use Rattle.og_words.proofs.command.differs_from.Goals as goal

pub returns-then-is_word : goal.returns-then-is_word
returns-then-is_word c = (
  λ e. cc,
  λ all. absurd (stands_at c.args.words.now c.loop-other.other-index c.other-item.result c.as_str.result.now c.args.word.now c.loop-other-test.true (c.as_str.ensures.value ∙ ap string_bytes c.other-item.is)
      (c.is_word.ensures.0 c.if-is_word.true ∙ c.as_bytes.ensures.value) all),
)
