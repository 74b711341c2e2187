use Rattle.std.proofs.Common.{◌∙◌, sym, ap}
use Rattle.og_lexer.specs.declared.Lexed.{Lexed}
use Rattle.og_judge.proofs.Parts.{below_texts, ends_at, syntax_broken, next_modules}
use Rattle.og_judge.proofs.trees.modules_of.Goals as goal

pub bounds-texts-number : goal.bounds-texts-number
bounds-texts-number c = below_texts c.args.files.now c.args.texts.now c.loop-number.number c.loop-number-test.true c.requires

pub modules_in-requires : goal.modules_in-requires
modules_in-requires c =
    ends_at c.args.files.now c.args.texts.now c.loop-number.number c.index-files-number.result c.index-texts-number.result c.as_slice.result.now c.loop-number-test.true c.index-files-number.is c.index-texts-number.is (c.as_slice.ensures ∙ ap (λ (t : Lexed). t.tokens) (sym c.index-texts-number.is)) c.requires

pub returns-in-Err-clause-broken : goal.returns-in-Err-clause-broken
returns-in-Err-clause-broken c =
    syntax_broken c.args.files.now c.args.texts.now c.loop-number.number c.index-files-number.result c.index-texts-number.result c.as_slice.result.now c.loop-number.modules c.in-Err.error
    c.loop-number-test.true c.index-files-number.is c.index-texts-number.is (c.as_slice.ensures ∙ ap (λ (t : Lexed). t.tokens) (sym c.index-texts-number.is)) c.requires c.loop-number.invariant c.in-Err.ensures.broken

pub loop-number-preserved : goal.loop-number-preserved
loop-number-preserved c =
    next_modules c.args.files.now c.args.texts.now c.loop-number.number c.index-files-number.result c.index-texts-number.result c.as_slice.result.now c.loop-number.modules c.in-Ok.own c.add.new.modules
    c.loop-number-test.true c.index-files-number.is c.index-texts-number.is (c.as_slice.ensures ∙ ap (λ (t : Lexed). t.tokens) (sym c.index-texts-number.is)) c.requires c.loop-number.invariant c.in-Ok.ensures.found c.in_ok-add-in-Ok.ensures
