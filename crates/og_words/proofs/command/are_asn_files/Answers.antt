use Rattle.std.proofs.Common.{◌∙◌, ap, string_bytes}
use Rattle.og_words.proofs.CommandForms.{each_word_more, other_at, never_so}
use Rattle.og_words.specs.Words.{IsAsnFile}
use Rattle.og_words.proofs.command.are_asn_files.Goals as goal

pub returns-then-not-is_asn_file : goal.returns-then-not-is_asn_file
returns-then-not-is_asn_file c = (
  λ e. cc,
  λ all. absurd (other_at IsAsnFile c.args.files.now c.loop-file.file-index c.file-item.result c.as_str.result.now c.loop-file-test.true (c.as_str.ensures.value ∙ ap string_bytes c.file-item.is)
      (never_so c.is_asn_file.result (IsAsnFile c.as_str.result.now) c.is_asn_file.ensures c.if-not-is_asn_file.true) all),
)

pub loop-file-preserved : goal.loop-file-preserved
loop-file-preserved c =
    each_word_more IsAsnFile c.args.files.now c.loop-file.file-index c.file-item.result c.as_str.result.now c.loop-file-test.true (c.as_str.ensures.value ∙ ap string_bytes c.file-item.is)
    c.loop-file.invariant (c.is_asn_file.ensures.0 c.if-not-is_asn_file.false)
