use Rattle.std.proofs.Common.{◌≡◌, ◌+◌, ◌*◌, ◌^◌, ◌-◌, min, get_or, ap, sym, ◌∙◌, arith, drop}
use Rattle.std.proofs.lemmas.List.{at_drop_all}
use Rattle.og_lexer.specs.Bytes.{number_from}
use Rattle.og_lexer.proofs.Scans.{number_from-capped, number_from-drop}
use Rattle.og_cif.proofs.read.magnitude.Goals as goal

pub loop-digit-preserved : goal.loop-digit-preserved
loop-digit-preserved c =
    let digits = c.args.digits.now in
    let next = c.saturating_add-value.result in
    let whole = 10 * c.loop-digit.value + (get_or digits c.loop-digit.digit-index 0 - 48) in
    let same : min next (2 ^ 64 - 1) ≡ min whole (2 ^ 64 - 1) = omega (arith, c.saturating_add-value.ensures, c.saturating_mul.ensures, c.saturating_sub.ensures, c.from.ensures) in
    record {
      fits = omega arith;
      found = number_from-capped (2 ^ 64 - 1) next whole (drop (c.loop-digit.digit-index + 1) digits) same
          ∙ ap (λ n. min n (2 ^ 64 - 1)) (sym (number_from-drop c.loop-digit.value c.loop-digit.digit-index digits c.loop-digit-test.true))
          ∙ c.loop-digit.invariant.found;
    }

pub returns : goal.returns
returns c = omega (arith, c.loop-digit.invariant, at_drop_all (number_from c.loop-digit.value) c.args.digits.now c.loop-digit.digit-index c.loop-digit-test.false)
