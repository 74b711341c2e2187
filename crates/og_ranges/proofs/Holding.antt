-- What the operators give lies in the intervals that they make.
use Rattle.std.proofs.Common.{◌≡◌, Bool, true, false, cond, refl, sym, subst, ap, ◌∙◌, arith, ℤ, pos, ◌+ℤ◌, ◌-ℤ◌, ◌*ℤ◌, neg_ℤ, int_div, int_rem, Result, Ok, Err}
use Rattle.std.proofs.lemmas.Int.{ints}
use Rattle.std.specs.Int.{int_rem_euclid}
use Rattle.std.specs.Ordering.{int_eq}
use Rattle.og_types.specs.declared.Value.{Value}
use Rattle.og_types.specs.declared.Value.TheViews.{outs-Int}
use Rattle.og_types.specs.declared.Value as Values
use Rattle.og_model.specs.declared.FaultKind.{FaultKind}
use Rattle.og_model.specs.declared.FaultKind.TheVariants.{Division}
use Rattle.og_model.specs.declared.BinaryOp.TheVariants.{Add, Sub, Mul, Div, Mod, Rem}
use Rattle.og_model.specs.Expressions.{number_in, number_of, as_number, divided}
use Rattle.og_ranges.specs.declared.Interval.{Interval}
use Rattle.og_ranges.specs.Intervals.{LiesIn, sum_of, difference_of, negative_of, product_of, quotient_of, modulus_of, remainder_of}
use Rattle.og_ranges.specs.Laws.{GivesIn, GivesInWherePositive, SignGivesIn}
use Rattle.og_ranges.proofs.Ends.{product_holds, quotient_holds}
use Rattle.og_ranges.proofs.Left.{modulus_holds, rest_of_division_holds}

-- a number as a value is that number
number_is : (z : ℤ) → number_of (Values.Int z) ≡ z
number_is z = ap number_in (outs-Int z)

same_ok : (v w : Value) → ◌≡◌ {A = Result Value FaultKind} (Ok v) (Ok w) → v ≡ w
same_ok v w e = cc

-- what gives a number gives this one
pub given : (c : Interval) (z : ℤ) (v : Value) → as_number z ≡ Ok v → LiesIn z c → LiesIn (number_of v) c
given c z v e h = subst (λ (x : ℤ). LiesIn x c) (sym (number_is z) ∙ ap number_of (same_ok (Values.Int z) v e)) h

given_divided : (c : Interval) (f : ℤ → ℤ → ℤ) (p q : ℤ) (v : Value) → divided f p q ≡ Ok v → (int_eq q (pos 0) ≡ false → LiesIn (f p q) c) → LiesIn (number_of v) c
given_divided c f p q v e h = go (int_eq q (pos 0)) refl e
  where
    go : (t : Bool) → int_eq q (pos 0) ≡ t → cond t (Err Division) (as_number (f p q)) ≡ Ok v → LiesIn (number_of v) c
    go true s r = cc
    go false s r = given c (f p q) v r (h s)

pub sums_hold : GivesIn Add sum_of
sums_hold a b x y v h k e = given (sum_of a b) (number_of x +ℤ number_of y) v e (record {
  not_below = omega (arith, ints, h.not_below, k.not_below);
  not_above = omega (arith, ints, h.not_above, k.not_above);
})

pub differences_hold : GivesIn Sub difference_of
differences_hold a b x y v h k e = given (difference_of a b) (number_of x -ℤ number_of y) v e (record {
  not_below = omega (arith, ints, h.not_below, k.not_above);
  not_above = omega (arith, ints, h.not_above, k.not_below);
})

pub signs_hold : SignGivesIn
signs_hold a x v h e = given (negative_of a) (neg_ℤ (number_of x)) v e (record {
  not_below = omega (arith, ints, h.not_above);
  not_above = omega (arith, ints, h.not_below);
})

pub products_hold : GivesIn Mul product_of
products_hold a b x y v h k e = given (product_of a b) (number_of x *ℤ number_of y) v e (product_holds a b (number_of x) (number_of y) h k)

pub quotients_hold : GivesIn Div quotient_of
quotients_hold a b x y v h k e =
    given_divided (quotient_of a b) int_div (number_of x) (number_of y) v e (λ n. quotient_holds a b (number_of x) (number_of y) h k)

pub moduli_hold : GivesInWherePositive Mod modulus_of
moduli_hold a b x y v p h k e =
    given_divided (modulus_of a b) int_rem_euclid (number_of x) (number_of y) v e (λ n. modulus_holds a b (number_of x) (number_of y) p k n)

pub rests_hold : GivesInWherePositive Rem remainder_of
rests_hold a b x y v p h k e =
    given_divided (remainder_of a b) int_rem (number_of x) (number_of y) v e (λ n. rest_of_division_holds a b (number_of x) (number_of y) p h k n)
