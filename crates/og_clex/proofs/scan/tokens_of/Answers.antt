use Rattle.std.proofs.Common.{◌-◌, ◌<◌, ◌∷◌, ◌++◌, List, [], length, map, reverse, option_map, refl, sym, ap, ◌∙◌, subst, arith, rules, eqb-true}
use Rattle.std.proofs.lemmas.List.{map-append}
use Rattle.og_csubset.specs.Nesting.{outermost}
use Rattle.og_csubset.specs.Recognizer.{structs, globals, declarations}
use Rattle.og_clex.specs.declared.nest.Level.{Level}
use Rattle.og_clex.specs.Moves.{coming}
use Rattle.og_clex.specs.Nests.{level_view}
use Rattle.og_csubset.proofs.Nested.{depth}
use Rattle.og_clex.specs.Views.{token_view, tokens_view}
use Rattle.og_csubset.proofs.OneAnswer.{bad_at_once}
use Rattle.og_clex.proofs.Scanning.{behind_space, first, further_as, nothing_left, bad_token, bad_end, deep_token, done, lines_fit, here_fits, shorter, splits}
use Rattle.og_clex.proofs.scan.tokens_of.Goals as goal
use Rattle.og_clex.proofs.scan.tokens_of.Goals.{else-is_empty-via-then-is_empty+else-may_end, else-is_empty-via-else-is_empty}

pub returns-in_default-clause-bad : goal.returns-in_default-clause-bad
returns-in_default-clause-bad c = ([], bad_at_once 256 c.args.bytes.now c.in_default.ensures, refl)

pub loop-nest-init : goal.loop-nest-init
loop-nest-init c =
    first _ _ _ _ _ c.in-Some.ensures (ap tokens_view c.new-tokens.ensures)
    (c.in_ok-push_all.ensures ∙ ap (λ l. structs ∷ globals ∷ declarations ∷ coming l) c.new-stack.ensures.items)
    (ap (λ (l : List Level). record outermost { outward = map level_view (reverse l) }) c.new.ensures.items)

pub place_after-place-requires-clause-lines : goal.place_after-place-requires-clause-lines
place_after-place-requires-clause-lines c =
    (lines_fit _ _ c.split_at.result.0.now c.split_at.result.1.now _ _ _ _ c.loop-nest.invariant c.requires.small (omega arith)).0

pub place_after-place-requires-clause-columns : goal.place_after-place-requires-clause-columns
place_after-place-requires-clause-columns c =
    (lines_fit _ _ c.split_at.result.0.now c.split_at.result.1.now _ _ _ _ c.loop-nest.invariant c.requires.small (omega arith)).1

pub returns-then-may_end-clause-read : goal.returns-then-may_end-clause-read
returns-then-may_end-clause-read c =
    let h = behind_space _ _ _ _ _ _ _ _ _ _ c.loop-nest.invariant c.space_len.ensures.found c.split_at.ensures.front c.split_at.ensures.back c.place_after-place.ensures in
    done _ _ _ _ _ _ h (nothing_left c.split_at.result.1.now (eqb-true (length c.split_at.result.1.now) 0 (sym c.is_empty.ensures ∙ c.if-is_empty.true))) (sym c.may_end.ensures ∙ c.if-may_end.true)

pub returns-in_default-2-clause-bad : goal.returns-in_default-2-clause-bad
returns-in_default-2-clause-bad c =
    let h = behind_space _ _ _ _ _ _ _ _ _ _ c.loop-nest.invariant c.space_len.ensures.found c.split_at.ensures.front c.split_at.ensures.back c.place_after-place.ensures in
    bad_end _ _ _ _ _ _ h (sym c.in_ok-token.ensures ∙ ap (option_map (λ p. (token_view p.0, p.1.now))) c.in_default-2.is) (elim c.else-is_empty.branch [
      | else-is_empty-via-then-is_empty+else-may_end w ↦ λ _. sym w.may_end.ensures ∙ w.if-may_end.false
      | else-is_empty-via-else-is_empty w ↦ λ e. absurd (search rules)
    ])

pub returns-then-not-branch-clause-bad : goal.returns-then-not-branch-clause-bad
returns-then-not-branch-clause-bad c =
    let h = behind_space _ _ _ _ _ _ _ _ _ _ c.loop-nest.invariant c.space_len.ensures.found c.split_at.ensures.front c.split_at.ensures.back c.place_after-place.ensures in
    bad_token _ _ c.in-Some-2.behind.now _ _ _ _ (token_view c.in-Some-2.token) h (sym c.in_ok-token.ensures ∙ ap (option_map (λ p. (token_view p.0, p.1.now))) c.in-Some-2.is) (search rules)

pub returns-then-nest-gt256-clause-deep : goal.returns-then-nest-gt256-clause-deep
returns-then-nest-gt256-clause-deep c =
    let h = behind_space _ _ _ _ _ _ _ _ _ _ c.loop-nest.invariant c.space_len.ensures.found c.split_at.ensures.front c.split_at.ensures.back c.place_after-place.ensures in
    deep_token _ _ c.in-Some-2.behind.now _ _ _ (coming c.step.new.stack.items) _ (token_view c.in-Some-2.token) h (sym c.in_ok-token.ensures ∙ ap (option_map (λ p. (token_view p.0, p.1.now))) c.in-Some-2.is)
    (search rules) (subst (λ m. 256 < depth m) c.in_ok-go_on.ensures c.if-nest-gt256.true)

pub overflow_sub-here : goal.overflow_sub-here
overflow_sub-here c = omega (arith, shorter c.split_at.result.1.now (token_view c.in-Some-2.token) c.in-Some-2.behind.now (sym c.in_ok-token.ensures ∙ ap (option_map (λ p. (token_view p.0, p.1.now))) c.in-Some-2.is))

pub place_after-place-requires-in-loop-nest-clause-lines : goal.place_after-place-requires-in-loop-nest-clause-lines
place_after-place-requires-in-loop-nest-clause-lines c =
    let h = behind_space _ _ _ _ _ _ _ _ _ _ c.loop-nest.invariant c.space_len.ensures.found c.split_at.ensures.front c.split_at.ensures.back c.place_after-place.ensures in
    let short = shorter c.split_at.result.1.now (token_view c.in-Some-2.token) c.in-Some-2.behind.now (sym c.in_ok-token.ensures ∙ ap (option_map (λ p. (token_view p.0, p.1.now))) c.in-Some-2.is) in
    (here_fits _ _ c.split_at-in-loop-nest.result.0.now c.split_at-in-loop-nest.result.1.now _ _ _ _ h c.requires.small (omega (arith, short))).0

pub place_after-place-requires-in-loop-nest-clause-columns : goal.place_after-place-requires-in-loop-nest-clause-columns
place_after-place-requires-in-loop-nest-clause-columns c =
    let h = behind_space _ _ _ _ _ _ _ _ _ _ c.loop-nest.invariant c.space_len.ensures.found c.split_at.ensures.front c.split_at.ensures.back c.place_after-place.ensures in
    let short = shorter c.split_at.result.1.now (token_view c.in-Some-2.token) c.in-Some-2.behind.now (sym c.in_ok-token.ensures ∙ ap (option_map (λ p. (token_view p.0, p.1.now))) c.in-Some-2.is) in
    (here_fits _ _ c.split_at-in-loop-nest.result.0.now c.split_at-in-loop-nest.result.1.now _ _ _ _ h c.requires.small (omega (arith, short))).1

pub loop-nest-smaller : goal.loop-nest-smaller
loop-nest-smaller c =
    let short = shorter c.split_at.result.1.now (token_view c.in-Some-2.token) c.in-Some-2.behind.now (sym c.in_ok-token.ensures ∙ ap (option_map (λ p. (token_view p.0, p.1.now))) c.in-Some-2.is) in
    omega (arith, short)

pub loop-nest-preserved : goal.loop-nest-preserved
loop-nest-preserved c =
    let h = behind_space _ _ _ _ _ _ _ _ _ _ c.loop-nest.invariant c.space_len.ensures.found c.split_at.ensures.front c.split_at.ensures.back c.place_after-place.ensures in
    let found = (sym c.in_ok-token.ensures ∙ ap (option_map (λ p. (token_view p.0, p.1.now))) c.in-Some-2.is) in
    further_as _ _ c.in-Some-2.behind.now c.split_at-in-loop-nest.result.0.now _ _ _ _ _ (coming c.step.new.stack.items) _ _ (token_view c.in-Some-2.token) h found
    (search rules)
    c.if-nest-gt256.false
    (splits c.split_at.result.1.now (token_view c.in-Some-2.token) c.in-Some-2.behind.now (length c.split_at.result.1.now - length c.in-Some-2.behind.now) refl found
    ∙ ap (λ w. w ++ c.in-Some-2.behind.now) (sym c.split_at-in-loop-nest.ensures.front))
    c.place_after-place-in-loop-nest.ensures
    (ap tokens_view c.in_ok-push.ensures.ok ∙ map-append token_view c.loop-nest.tokens (c.in-Some-2.token ∷ []))
    c.in_ok-go_on.ensures
