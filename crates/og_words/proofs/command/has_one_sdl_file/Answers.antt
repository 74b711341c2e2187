use Rattle.og_words.specs.Asked.{texts}
use Rattle.og_words.proofs.OneCommand.{one_here}
use Rattle.og_words.proofs.command.has_one_sdl_file.Goals as goal

pub returns-then-is_sdl_file : goal.returns-then-is_sdl_file
returns-then-is_sdl_file c =
    one_here c.loop-file.rest.now c.in-Some.file.now c.in-Some.others.now c.as_str.result.now (texts c.args.files.now) c.are_asn_files.result c.in-Some.ensures.cases.0 c.as_str.ensures.value
    (c.is_sdl_file.ensures.0 c.if-is_sdl_file.true) c.are_asn_files.ensures c.loop-file.invariant.tells
