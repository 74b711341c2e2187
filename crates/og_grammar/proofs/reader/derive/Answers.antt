use Rattle.std.proofs.Common.{ℕ, ◌+◌, ◌≤◌, List, get_or, take, reverse, refl, sym, subst}
use Rattle.og_grammar.specs.Answers.{IsFirstWrong, IsFirstTooDeep}
use Rattle.og_grammar.specs.declared.run.Step.{Step}
use Rattle.og_grammar.specs.Standing.{Reaches, Stands}
use Rattle.og_grammar.proofs.Reaching.{run_stands}
use Rattle.og_grammar.proofs.Deriving.{wrong_at, low_at, deep_at, met_at, found_at, cut_at, same_wrong, same_deep}
use Rattle.og_grammar.proofs.reader.derive.Goals as goal

pub loop-at-init : goal.loop-at-init
loop-at-init c = run_stands c.args.table.now c.args.parts.now c.args.last c.args.limit c.in_ok-run.run' c.requires c.in_ok-run.ensures

pub nested-requires : goal.nested-requires
nested-requires c =
    let r = subst (λ (b : Step). Reaches c.args.table.now c.args.parts.now c.args.last (get_or c.args.kinds.now c.loop-at.at 0) c.loop-at.run c.reach.new.run b) c.in-Met.is c.in_ok-nesting.ensures in
    low_at c.args.table.now c.args.parts.now c.args.last c.args.limit c.args.kinds.now c.loop-at.at c.loop-at.run c.reach.new.run c.in-Met.nesting c.loop-at.invariant r

pub returns-in-None-clause-deep : goal.returns-in-None-clause-deep
returns-in-None-clause-deep c = λ place e.
    (let r = subst (λ (b : Step). Reaches c.args.table.now c.args.parts.now c.args.last (get_or c.args.kinds.now c.loop-at.at 0) c.loop-at.run c.reach.new.run b) c.in-Met.is c.in_ok-nesting.ensures in
    subst (λ (n : ℕ). IsFirstTooDeep c.args.table.now c.args.last c.args.limit c.args.kinds.now n) (same_deep {A = List ℕ} c.loop-at.at place e)
    (deep_at c.args.table.now c.args.parts.now c.args.last c.args.limit c.args.kinds.now c.loop-at.at c.loop-at.run c.reach.new.run c.in-Met.nesting c.loop-at-test.true c.loop-at.invariant r (c.in-None.ensures.none refl)))

pub returns-in_default-clause-wrong : goal.returns-in_default-clause-wrong
returns-in_default-clause-wrong c = λ place e.
    (subst (λ (n : ℕ). IsFirstWrong c.args.table.now c.args.last c.args.limit c.args.kinds.now n) (same_wrong {A = List ℕ} c.loop-at.at place e)
    (wrong_at c.args.table.now c.args.parts.now c.args.last c.args.limit c.args.kinds.now c.loop-at.at c.loop-at.run c.reach.new.run c.in_ok-nesting.field-0 c.loop-at-test.true c.loop-at.invariant
    c.in_default.not-Met c.in_ok-nesting.ensures))

pub loop-at-preserved : goal.loop-at-preserved
loop-at-preserved c =
    let r = subst (λ (b : Step). Reaches c.args.table.now c.args.parts.now c.args.last (get_or c.args.kinds.now c.loop-at.at 0) c.loop-at.run c.reach.new.run b) c.in-Met.is c.in_ok-nesting.ensures in
    let new = c.in-Some.ensures.some in
    subst (λ (n : ℕ). Stands c.args.table.now c.args.parts.now c.args.last c.args.limit (take (c.loop-at.at + 1) c.args.kinds.now) (reverse c.reach.new.run.due) n c.reach.new.run.choices) (sym new.0)
    (met_at c.args.table.now c.args.parts.now c.args.last c.args.limit c.args.kinds.now c.loop-at.at c.loop-at.run c.reach.new.run c.in-Met.nesting c.loop-at-test.true c.loop-at.invariant r
    (subst (λ (n : ℕ). n ≤ c.args.limit) new.0 new.1))

pub returns-then-is_empty-clause-found : goal.returns-then-is_empty-clause-found
returns-then-is_empty-clause-found c =
    (found_at c.args.table.now c.args.parts.now c.args.last c.args.limit c.args.kinds.now c.loop-at.at c.loop-at.run c.loop-at-test.false c.loop-at.invariant (c.if-is_empty.ensures.0 refl)).0

pub returns-then-is_empty-clause-only : goal.returns-then-is_empty-clause-only
returns-then-is_empty-clause-only c =
    (found_at c.args.table.now c.args.parts.now c.args.last c.args.limit c.args.kinds.now c.loop-at.at c.loop-at.run c.loop-at-test.false c.loop-at.invariant (c.if-is_empty.ensures.0 refl)).1

pub returns-clause-cut : goal.returns-clause-cut
returns-clause-cut c = λ _.
    (cut_at c.args.table.now c.args.parts.now c.args.last c.args.limit c.args.kinds.now c.loop-at.at c.loop-at.run c.loop-at-test.false c.loop-at.invariant (λ e. let clash = c.if-is_empty.ensures.1 e in cc))
