use Rattle.std.proofs.Common.{◌+◌, length, drop, take, sym, ap, ◌∙◌, subst, arith, length-drop}
use Rattle.og_lexer.specs.Pieces.{HasQuotes, IsWithin}
use Rattle.og_lexer.specs.Places.{place_after}
use Rattle.og_lexer.specs.AsnFront.{front_in}
use Rattle.og_lexer.specs.Texts.{GainsPiece}
use Rattle.og_lexer.proofs.Cutting.{lexes-once, lexes-apart}
use Rattle.og_lexer.proofs.Reading.{SoFar, FrontHere, front_here, so_far-low, so_far-more, so_far-done, so_far-broken, lexes-tokens_in_place, lexes-comments_in_place, lexes-ends, is_of-quotes}
use Rattle.og_lexer.proofs.lexing.lex.Goals as goal
use Rattle.og_lexer.proofs.lexing.lex.Goals.{In-Ok}

-- the piece that was found stands at the byte where the reader is
front_at : (c : In-Ok) → FrontHere c.args.language c.in-Ok.front (drop c.loop-at.at c.args.bytes.now)
front_at c =
    front_here c.args.language c.in-Ok.front (drop c.loop-at.at c.args.bytes.now) (omega (arith, length-drop c.loop-at.at c.args.bytes.now)) (c.in-Ok.ensures ∙ ap (front_in c.args.language) c.split_at.ensures.back)

pub returns-in-Err-clause-broken : goal.returns-in-Err-clause-broken
returns-in-Err-clause-broken c =
    let bytes = c.args.bytes.now in
    let first = so_far-broken c.args.language c.args.file bytes c.loop-at.at c.loop-at.place c.loop-at.lexed c.in-Err.rule c.loop-at.invariant c.loop-at-test.true (c.in-Err.ensures ∙ ap (front_in c.args.language) c.split_at.ensures.back) in
    (first, λ tokens comments lexes. lexes-apart c.args.language c.args.file bytes tokens comments _ lexes first)

pub split_at-requires-in-loop-at : goal.split_at-requires-in-loop-at
split_at-requires-in-loop-at c =
    let front = front_at (goal.at.split_at-requires-in-loop-at c).In-Ok in
    let n = front.inside in
    omega (arith, ap length c.split_at.ensures.back)

pub keep-requires-clause-form : goal.keep-requires-clause-form
keep-requires-clause-form c =
    let front = front_at (goal.at.keep-requires-clause-form c).In-Ok in
    let same = c.split_at-in-loop-at.ensures.front ∙ ap (take c.in-Ok.front.len) c.split_at.ensures.back in
    (subst (HasQuotes c.in-Ok.front.shape) (sym same) (is_of-quotes c.args.language c.in-Ok.front.shape (take c.in-Ok.front.len (drop c.loop-at.at c.args.bytes.now)) front.stands.is_of), subst (IsWithin c.in-Ok.front.shape) (sym same) front.within)

pub place_after-place-requires-clause-lines : goal.place_after-place-requires-clause-lines
place_after-place-requires-clause-lines c =
    let low = so_far-low c.args.language c.args.file c.args.bytes.now c.loop-at.at c.loop-at.place c.loop-at.lexed c.loop-at.invariant in
    let front = front_at (goal.at.place_after-place-requires-clause-lines c).In-Ok in
    let n = front.inside in
    let l = low.line in
    omega (arith, length-drop c.loop-at.at c.args.bytes.now)

pub place_after-place-requires-clause-columns : goal.place_after-place-requires-clause-columns
place_after-place-requires-clause-columns c =
    let low = so_far-low c.args.language c.args.file c.args.bytes.now c.loop-at.at c.loop-at.place c.loop-at.lexed c.loop-at.invariant in
    let front = front_at (goal.at.place_after-place-requires-clause-columns c).In-Ok in
    let n = front.inside in
    let l = low.column in
    omega (arith, length-drop c.loop-at.at c.args.bytes.now)

pub loop-at-smaller : goal.loop-at-smaller
loop-at-smaller c =
    let front = front_at (goal.at.loop-at-smaller c).In-Ok in
    let n = front.some in
    omega arith

pub loop-at-preserved : goal.loop-at-preserved
loop-at-preserved c =
    let bytes = c.args.bytes.now in
    let same = c.split_at-in-loop-at.ensures.front ∙ ap (take c.in-Ok.front.len) c.split_at.ensures.back in
    subst (λ p. SoFar c.args.language c.args.file bytes (c.loop-at.at + c.in-Ok.front.len) p c.keep.new.lexed) (sym (c.place_after-place.ensures ∙ ap (place_after c.loop-at.place) same))
    (so_far-more c.args.language c.args.file bytes c.loop-at.at c.loop-at.place c.loop-at.lexed c.keep.new.lexed c.in-Ok.front c.loop-at.invariant (front_at (goal.at.loop-at-preserved c).In-Ok)
    (subst (λ text. GainsPiece c.loop-at.lexed c.keep.new.lexed c.in-Ok.front.shape text c.loop-at.place c.loop-at.at) same c.in_ok-keep.ensures))

pub returns : goal.returns
returns c =
    let file = c.args.file in
    let bytes = c.args.bytes.now in
    let tokens = c.put.new.items in
    let comments = c.loop-at.lexed.comments in
    let read = so_far-done c.args.language file bytes c.loop-at.at c.loop-at.place c.loop-at.lexed tokens c.loop-at.invariant c.loop-at-test.false c.in_ok-put.ensures in
    record {
      found = read;
      only = λ others more lexes. lexes-once c.args.language file bytes others tokens more comments lexes read;
      broken = tt;
      tokens_in_place = lexes-tokens_in_place c.args.language file bytes tokens comments read;
      comments_in_place = lexes-comments_in_place c.args.language file bytes tokens comments read;
      ends = lexes-ends c.args.language file bytes tokens comments read;
    }
