use Rattle.std.proofs.Common.{◌≡◌, ◌<◌, ◌≤◌, ◌^◌, ℕ, false, sym, ap, ◌∙◌, nat_eq, nat_lt, arith}
use Rattle.std.proofs.lemmas.Nat.Bits.{bit_at_above}
use Rattle.std.proofs.lemmas.Bool.Decides.{nat_tests}
use Rattle.std.proofs.Math.Facts.{Fits-lt-pow}
use Rattle.og_grammar.specs.Predictive.{has}
use Rattle.og_grammar.proofs.rows.has.Goals as goal

not_below : (k : ℕ) → 128 ≤ k → nat_lt k 128 ≡ false
not_below k le = grind (arith, nat_tests)

none_above : (set k : ℕ) → set < 2 ^ 128 → 128 ≤ k → nat_lt k 128 ≡ has set k
none_above set k small le = not_below k le ∙ sym (ap (λ (n : ℕ). nat_eq n 1) (bit_at_above set 128 k small le))

pub returns-else-kind-lt128 : goal.returns-else-kind-lt128
returns-else-kind-lt128 c = none_above c.args.set c.args.kind (Fits-lt-pow c.ranges.set) c.if-kind-lt128.false
