use Rattle.std.proofs.Common.{◌≡◌, ◌+◌, ◌*◌, ◌^◌, ◌-◌, min, get_or, ap, sym, ◌∙◌, arith, drop}
use Rattle.std.proofs.lemmas.List.{at_drop_all}
use Rattle.std.specs.Str.Parse.{digits_value_after}
use Rattle.og_clex.proofs.Numerals.{after-capped, after-drop, all-drop}
use Rattle.og_clex.proofs.lex.number_value.Goals as goal

pub loop-digit-preserved : goal.loop-digit-preserved
loop-digit-preserved c =
    let digits = c.args.digits.now in
    let i = c.loop-digit.digit-index in
    let next = c.saturating_add-value.result in
    let whole = c.loop-digit.value * 10 + (get_or digits i 0 - 48) in
    let same : min next (2 ^ 64 - 1) ≡ min whole (2 ^ 64 - 1) = omega (arith, c.saturating_add-value.ensures, c.saturating_mul.ensures, c.saturating_sub.ensures, c.from.ensures) in
    record {
      fits = omega arith;
      all = (all-drop i digits c.loop-digit-test.true c.loop-digit.invariant.all).1;
      found = after-capped (2 ^ 64 - 1) next whole (drop (i + 1) digits) same
          ∙ ap (λ n. min n (2 ^ 64 - 1)) (sym (after-drop c.loop-digit.value i digits c.loop-digit-test.true (all-drop i digits c.loop-digit-test.true c.loop-digit.invariant.all).0))
          ∙ c.loop-digit.invariant.found;
    }

pub returns : goal.returns
returns c = omega (arith, c.loop-digit.invariant, at_drop_all (digits_value_after 10 c.loop-digit.value) c.args.digits.now c.loop-digit.digit-index c.loop-digit-test.false)
