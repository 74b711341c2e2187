use Rattle.std.proofs.Common.{refl, string_bytes}
use Rattle.og_words.specs.Asked.{texts, FitsNone}
use Rattle.og_words.specs.Words.{AreModelFiles, IsNoCommand}
use Rattle.og_words.proofs.CommandForms.{never_so, none_then}
use Rattle.og_words.proofs.OneCommand.{cut_words, no_fit, no_files}
use Rattle.og_words.proofs.command.command_of.Goals as goal

pub returns-then-are_model_files-clause-none : goal.returns-then-are_model_files-clause-none
returns-then-are_model_files-clause-none c =
    none_then c.command_with.result (FitsNone c.as_str.result.now (texts c.split_files.result.0.now) (texts c.split_files.result.1.now)) (IsNoCommand (texts c.args.words.now.items))
    (no_fit (texts c.args.words.now.items) c.as_str.result.now (texts c.split_files.result.0.now) (texts c.split_files.result.1.now)
    (cut_words c.args.words.now.items c.as_slice.result.now c.in_ok-name.rest.now c.split_files.result.0.now c.split_files.result.1.now c.in_ok-name.name.now c.as_str.result.now
    c.as_slice.ensures.value c.in_ok-name.ensures.cases.0 c.split_files.ensures.joined c.as_str.ensures.value c.split_files.ensures.files c.split_files.ensures.stops))
    c.command_with.ensures.none

pub returns-else-are_model_files-clause-none : goal.returns-else-are_model_files-clause-none
returns-else-are_model_files-clause-none c =
    no_files (texts c.args.words.now.items) (string_bytes c.in_ok-name.name.now) (texts c.split_files.result.0.now) (texts c.split_files.result.1.now)
    (cut_words c.args.words.now.items c.as_slice.result.now c.in_ok-name.rest.now c.split_files.result.0.now c.split_files.result.1.now c.in_ok-name.name.now (string_bytes c.in_ok-name.name.now)
    c.as_slice.ensures.value c.in_ok-name.ensures.cases.0 c.split_files.ensures.joined refl c.split_files.ensures.files c.split_files.ensures.stops)
    (never_so c.are_model_files.result (AreModelFiles (texts c.split_files.result.0.now)) c.are_model_files.ensures c.if-are_model_files.false)
