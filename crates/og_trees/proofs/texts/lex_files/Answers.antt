use Rattle.og_trees.proofs.Parts.{short_here, lexis_broken, next_lexed}
use Rattle.og_trees.proofs.texts.lex_files.Goals as goal

pub lex_file-requires : goal.lex_file-requires
lex_file-requires c = short_here c.args.files.now c.loop-number.number c.index-files-number.result c.loop-number-test.true c.index-files-number.is c.requires.short

pub returns-in-Err-clause-broken : goal.returns-in-Err-clause-broken
returns-in-Err-clause-broken c =
    lexis_broken c.args.files.now c.loop-number.number c.index-files-number.result c.loop-number.texts.items c.in-Err.error c.loop-number-test.true c.index-files-number.is c.loop-number.invariant c.in-Err.ensures.broken

pub loop-number-preserved : goal.loop-number-preserved
loop-number-preserved c =
    next_lexed c.args.files.now c.loop-number.number c.index-files-number.result c.loop-number.texts.items c.keep.new.texts.items c.in-Ok.text c.loop-number-test.true c.index-files-number.is c.loop-number.invariant
    c.in-Ok.ensures.found c.in_ok-keep-in-Ok.ensures
