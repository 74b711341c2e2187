use Rattle.std.proofs.Common.{◌∙◌, ap, string_bytes}
use Rattle.og_words.proofs.CommandForms.{each_word_more}
use Rattle.og_words.specs.Words.{IsModelFile}
use Rattle.og_words.proofs.command.split_files.Goals as goal

pub loop-count-preserved : goal.loop-count-preserved
loop-count-preserved c =
    each_word_more IsModelFile c.args.words.now c.loop-count.count c.index-words-count.result c.as_str.result.now c.loop-count-test.true (c.as_str.ensures.value ∙ ap string_bytes c.index-words-count.is)
    c.loop-count.invariant (c.is_model_file.ensures.0 c.if-not-is_model_file.false)
