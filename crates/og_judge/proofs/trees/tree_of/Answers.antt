use Rattle.std.proofs.Common.{◌∙◌, sym, ap}
use Rattle.og_lexer.specs.declared.Lexed.{Lexed}
use Rattle.og_judge.proofs.Parts.{below_texts, ends_at, tree_found_if, forms_broken_if, none_left_of}
use Rattle.og_judge.proofs.trees.tree_of.Goals as goal

pub bounds-texts-number : goal.bounds-texts-number
bounds-texts-number c = below_texts c.args.files.now c.args.texts.now c.loop-number.number c.loop-number-test.true c.requires.lexed

pub system_of-requires : goal.system_of-requires
system_of-requires c =
    ends_at c.args.files.now c.args.texts.now c.loop-number.number c.index-files-number.result c.index-texts-number.result c.as_slice.result.now c.loop-number-test.true c.index-files-number.is c.index-texts-number.is (c.as_slice.ensures ∙ ap (λ (t : Lexed). t.tokens) (sym c.index-texts-number.is)) c.requires.lexed

pub returns-in-Sdl-clause-found : goal.returns-in-Sdl-clause-found
returns-in-Sdl-clause-found c =
    tree_found_if c.args.files.now c.args.texts.now c.loop-number.number c.index-files-number.result c.index-texts-number.result c.as_slice.result.now c.system_of.result c.loop-number-test.true c.requires.few
    c.index-files-number.is c.index-texts-number.is (c.as_slice.ensures ∙ ap (λ (t : Lexed). t.tokens) (sym c.index-texts-number.is)) c.requires.lexed c.requires.one c.loop-number.invariant c.in-Sdl.is c.system_of.ensures.found

pub returns-in-Sdl-clause-broken : goal.returns-in-Sdl-clause-broken
returns-in-Sdl-clause-broken c =
    forms_broken_if c.args.files.now c.args.texts.now c.loop-number.number c.index-files-number.result c.index-texts-number.result c.as_slice.result.now c.system_of.result c.loop-number-test.true
    c.index-files-number.is c.index-texts-number.is (c.as_slice.ensures ∙ ap (λ (t : Lexed). t.tokens) (sym c.index-texts-number.is)) c.requires.lexed c.loop-number.invariant c.in-Sdl.is c.system_of.ensures.broken

pub unreachable-requires : goal.unreachable-requires
unreachable-requires c = none_left_of c.args.files.now c.loop-number.number c.loop-number-test.false c.requires.one c.loop-number.invariant
