use Rattle.std.proofs.Common.{◌∙◌, sym, ap}
use Rattle.og_lexer.specs.declared.Lexed.{Lexed}
use Rattle.og_trees.proofs.Parts.{below_texts, stands_at, syntax_broken, next_trees}
use Rattle.og_trees.proofs.syntax.trees_of.Goals as goal

pub bounds-texts-number : goal.bounds-texts-number
bounds-texts-number c = below_texts c.args.files.now c.args.texts.now c.loop-number.number c.loop-number-test.true c.requires

pub trees_in-requires : goal.trees_in-requires
trees_in-requires c =
    (stands_at c.args.files.now c.args.texts.now c.loop-number.number c.index-files-number.result c.index-texts-number.result c.as_slice.result.now c.loop-number-test.true c.index-files-number.is c.index-texts-number.is (c.as_slice.ensures ∙ ap (λ (t : Lexed). t.tokens) (sym c.index-texts-number.is)) c.requires).ends

pub returns-in-Err-clause-broken : goal.returns-in-Err-clause-broken
returns-in-Err-clause-broken c =
    syntax_broken c.args.files.now c.loop-number.number c.index-files-number.result c.as_slice.result.now c.loop-number.trees c.in-Err.error
    (stands_at c.args.files.now c.args.texts.now c.loop-number.number c.index-files-number.result c.index-texts-number.result c.as_slice.result.now c.loop-number-test.true c.index-files-number.is c.index-texts-number.is (c.as_slice.ensures ∙ ap (λ (t : Lexed). t.tokens) (sym c.index-texts-number.is)) c.requires)
    c.loop-number.invariant c.in-Err.ensures.broken

pub loop-number-preserved : goal.loop-number-preserved
loop-number-preserved c =
    next_trees c.args.files.now c.loop-number.number c.index-files-number.result c.as_slice.result.now c.loop-number.trees c.in-Ok.own c.add.new.trees
    (stands_at c.args.files.now c.args.texts.now c.loop-number.number c.index-files-number.result c.index-texts-number.result c.as_slice.result.now c.loop-number-test.true c.index-files-number.is c.index-texts-number.is (c.as_slice.ensures ∙ ap (λ (t : Lexed). t.tokens) (sym c.index-texts-number.is)) c.requires)
    c.loop-number.invariant c.in-Ok.ensures.found c.in_ok-add-in-Ok.ensures.modules c.in_ok-add-in-Ok.ensures.units
