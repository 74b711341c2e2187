-- The numbers that are left on ways: those on a way of a + b steps are those on its first a steps and on the b steps behind.
use Rattle.std.proofs.Common.{◌≡◌, ℕ, zero, suc, ◌+◌, List, length, sym, ap, ◌∙◌, arith, ℤ}
use Rattle.std.proofs.lemmas.Int.{ints}
use Rattle.og_dataview.specs.declared.numbers.Interval.{Interval}
use Rattle.og_dataview.specs.Following.{walk, greater, lesser, both, numbers_on, next_type, numbers_at}
use Rattle.og_dataview.specs.Ways.{step_in, Leads}
use Rattle.og_dataview.proofs.Tables.{walk_same, walks_none, walks_even, walk_by}
use Rattle.og_flat.specs.declared.flat.Flat.{Flat}
use Rattle.og_datatypes.specs.Kept.{range_at, Leaves, AreRanges}

-- ---- greater and lesser

pub greater_assoc : (a b c : ℤ) → greater (greater a b) c ≡ greater a (greater b c)
greater_assoc a b c = grind (arith, ints)

pub lesser_assoc : (a b c : ℤ) → lesser (lesser a b) c ≡ lesser a (lesser b c)
lesser_assoc a b c = grind (arith, ints)

greater_same : (a : ℤ) → greater a a ≡ a
greater_same a = grind (arith, ints)

lesser_same : (a : ℤ) → lesser a a ≡ a
lesser_same a = grind (arith, ints)

pub both_assoc : (i j k : Interval) → both (both i j) k ≡ both i (both j k)
both_assoc i j k = λ x. record { lo = greater_assoc i.lo j.lo k.lo x; hi = lesser_assoc i.hi j.hi k.hi x }

pub both_same : (i : Interval) → both i i ≡ i
both_same i = λ x. record { lo = greater_same i.lo x; hi = lesser_same i.hi x }

-- ---- ways

numbers_same : (next next' : ℕ → ℕ) (own own' : ℕ → Interval) → ((p : ℕ) → next p ≡ next' p) → ((p : ℕ) → own p ≡ own' p) → (n p : ℕ) → numbers_on next own n p ≡ numbers_on next' own' n p
numbers_same next next' own own' h g zero p = g p
numbers_same next next' own own' h g (suc n) p = λ i. both (g p i) ((ap (numbers_on next own n) (h p) ∙ numbers_same next next' own own' h g n (next' p)) i)

-- the first place counts twice, which changes nothing
first_again : (next : ℕ → ℕ) (own : ℕ → Interval) (n p : ℕ) → both (own p) (numbers_on next own n p) ≡ numbers_on next own n p
first_again next own zero p = both_same (own p)
first_again next own (suc n) p = sym (both_assoc (own p) (own p) (numbers_on next own n (next p))) ∙ ap (λ j. both j (numbers_on next own n (next p))) (both_same (own p))

numbers_by : (next : ℕ → ℕ) (own : ℕ → Interval) (m n p : ℕ) → m ≡ n → numbers_on next own m p ≡ numbers_on next own n p
numbers_by next own m n p e = ap (λ k. numbers_on next own k p) e

pub numbers_then : (next : ℕ → ℕ) (own : ℕ → Interval) (a b p : ℕ) → numbers_on next own (a + b) p ≡ both (numbers_on next own a p) (numbers_on next own b (walk next a p))
numbers_then next own zero b p = numbers_by next own (0 + b) b p (omega arith) ∙ sym (first_again next own b p)
numbers_then next own (suc a) b p =
    numbers_by next own (suc a + b) (suc (a + b)) p (omega arith)
    ∙ ap (both (own p)) (numbers_then next own a b (next p))
    ∙ sym (both_assoc (own p) (numbers_on next own a (next p)) (numbers_on next own b (walk next a (next p))))

pub leaves_none : (next : ℕ → ℕ) (owns ranges : List Interval) (steps : ℕ) → steps ≡ 0 → ranges ≡ owns → Leaves next (range_at owns) steps ranges
leaves_none next owns ranges steps e is = record { each = λ p. ap (λ rs. range_at rs p) is ∙ numbers_by next (range_at owns) 0 steps p (sym e) }

pub leaves_even : (next : ℕ → ℕ) (own : ℕ → Interval) (steps half : ℕ) (ends : List ℕ) (ranges twice : List Interval) → steps ≡ half + half → Leads next half ends → Leaves next own half ranges
    → ((p : ℕ) → range_at twice p ≡ both (range_at ranges p) (range_at ranges (step_in ends p))) → Leaves next own steps twice
leaves_even next own steps half ends ranges twice e leads leaves each = record {
  each = λ p. each p ∙ (λ i. both (leaves.each p i) ((ap (range_at ranges) (leads.each p) ∙ leaves.each (walk next half p)) i)) ∙ sym (numbers_then next own half half p)
      ∙ numbers_by next own (half + half) steps p (sym e);
}

pub leaves_odd : (nexts : List ℕ) (owns twice all : List Interval) (steps double : ℕ) → steps ≡ suc double → Leaves (step_in nexts) (range_at owns) double twice
    → ((p : ℕ) → range_at all p ≡ both (range_at owns p) (range_at twice (step_in nexts p))) → Leaves (step_in nexts) (range_at owns) steps all
leaves_odd nexts owns twice all steps double e leaves each = record {
  each = λ p. each p ∙ ap (both (range_at owns p)) (leaves.each (step_in nexts p)) ∙ numbers_by (step_in nexts) (range_at owns) (suc double) steps p (sym e);
}

pub leads_odd : (nexts twice all : List ℕ) (steps double : ℕ) → steps ≡ suc double → Leads (step_in nexts) double twice
    → ((p : ℕ) → step_in all p ≡ step_in twice (step_in nexts p)) → Leads (step_in nexts) steps all
leads_odd nexts twice all steps double e leads each = record {
  each = λ p. each p ∙ leads.each (step_in nexts p) ∙ walk_by (step_in nexts) (suc double) steps p (sym e);
}

pub ranges_by : (flat : Flat) (nexts : List ℕ) (owns ranges : List Interval) (steps : ℕ) → steps ≡ length flat.types → ((p : ℕ) → step_in nexts p ≡ next_type flat p)
    → ((p : ℕ) → range_at owns p ≡ numbers_at flat p) → Leaves (step_in nexts) (range_at owns) steps ranges → AreRanges flat ranges
ranges_by flat nexts owns ranges steps e next own leaves = record {
  each = λ p. leaves.each p ∙ numbers_same (step_in nexts) (next_type flat) (range_at owns) (numbers_at flat) next own steps p
      ∙ numbers_by (next_type flat) (numbers_at flat) steps (length flat.types) p e;
}

pub ruleset walks = (walks_none, walks_even, leaves_none, leaves_even, leaves_odd, leads_odd)
