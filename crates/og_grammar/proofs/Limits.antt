-- Where the nesting rises by at most so much at a token, a limit of that often the tokens is never passed.
use Rattle.std.proofs.Common.{◌≡◌, ℕ, zero, suc, ◌+◌, ◌*◌, ◌<◌, ◌≤◌, Bool, true, ◌&&◌, List, [], ◌∷◌, ◌++◌, length, Some, slice_get, nat_le, refl, sym, ap, subst, ◌∙◌, length-append, arith, IsTrue}
use Rattle.std.proofs.lemmas.Bool.Decides.{nat_tests}
use Rattle.std.proofs.Math.Nat.{mul-le-mul_left}
use Rattle.og_grammar.specs.declared.Nesting.{Nesting}
use Rattle.og_grammar.specs.declared.Nesting.TheVariants.{Keeps, Rises, Falls}
use Rattle.og_grammar.specs.declared.Symbol.{Symbol}
use Rattle.og_grammar.specs.declared.Symbol.TheVariants.{Rule, Token, Scope, Maybe, Many, NotBefore}
use Rattle.og_grammar.specs.declared.Symbol.TheVariants as symbol
use Rattle.og_grammar.specs.declared.Due.{Due}
use Rattle.og_grammar.specs.declared.Due.TheVariants.{Expect, Restore}
use Rattle.og_grammar.specs.Sentence.{ways, whole, expected, nested, rise_of, rises_within, Nests, ends, meets, restores, skips, takes}
use Rattle.og_grammar.specs.Answers.{IsFirstTooDeep}
use Rattle.og_grammar.proofs.Known.{and_intro, and_first, and_second, some_is, rule_all}
use Rattle.og_grammar.proofs.Advances.{AreLow, symbols_due, due_entered, low_entered}
use Rattle.og_grammar.proofs.Leading.{head_is, tail_is}
use Rattle.og_grammar.proofs.Standing.{some_counts}

low_more : (m n : ℕ) (due : List Due) → m ≤ n → AreLow m due → AreLow n due
low_more m n [] le h = h
low_more m n (Restore count ∷ due) le h = (omega (arith, h.0), low_more m n due le h.1)
low_more m n (Expect s ∷ due) le h = low_more m n due le h

le_of : (a b : ℕ) → nat_le a b ≡ true → a ≤ b
le_of a b h = grind (arith, nat_tests)

zero_le : (most : ℕ) → nat_le 0 most ≡ true
zero_le most = grind (arith, nat_tests)

none_rises : {a b : Bool} → a ≡ true → b ≡ true → (a && b) ≡ true
none_rises {a = a} {b = b} p q = and_intro a b p q

nested_within : (most k : ℕ) (nesting : Nesting) (count : ℕ) → nat_le (rise_of (Token k nesting)) most ≡ true → nested nesting count ≤ count + most
nested_within most k Keeps count h = omega arith
nested_within most k (Rises by) count h = let le = le_of by most h in omega arith
nested_within most k (Falls by) count h = omega arith

within-append : (most : ℕ) (a b : List Symbol) → rises_within most a ≡ true → rises_within most b ≡ true → rises_within most (a ++ b) ≡ true
within-append most [] b h g = g
within-append most (s ∷ a) b h g =
    and_intro (nat_le (rise_of s) most) (rises_within most (a ++ b)) (and_first (nat_le (rise_of s) most) (rises_within most a) h)
    (within-append most a b (and_second (nat_le (rise_of s) most) (rises_within most a) h) g)

module _ (table : List Symbol) (most : ℕ) (within : rises_within most table ≡ true) where
  way_within : (s : Symbol) (c : ℕ) (way : List Symbol) → slice_get (ways table s) c ≡ Some way → rises_within most way ≡ true
  way_within (Rule p) c way w = absurd cc
  way_within (Token k nesting) c way w = absurd cc
  way_within (NotBefore k) c way w = absurd cc
  way_within (symbol.Part p) c way w = rule_all (λ s. nat_le (rise_of s) most) p table within c way w
  way_within (Scope p) c way w = rule_all (λ s. nat_le (rise_of s) most) p table within c way w
  way_within (Maybe p) zero way w = subst (λ (x : List Symbol). rises_within most x ≡ true) (some_is [] way w) refl
  way_within (Maybe p) (suc zero) way w = subst (λ (x : List Symbol). rises_within most x ≡ true) (some_is (symbol.Part p ∷ []) way w) (none_rises (zero_le most) refl)
  way_within (Maybe p) (suc (suc c)) way w = absurd cc
  way_within (Many p) zero way w = subst (λ (x : List Symbol). rises_within most x ≡ true) (some_is [] way w) refl
  way_within (Many p) (suc zero) way w = subst (λ (x : List Symbol). rises_within most x ≡ true) (some_is (symbol.Part p ∷ Many p ∷ []) way w) (none_rises (zero_le most) (none_rises (zero_le most) refl))
  way_within (Many p) (suc (suc c)) way w = absurd cc

  count_low : {n : ℕ} {due : List Due} {cs counts : List ℕ} → Nests table n due cs counts → (m : ℕ) → n ≤ m → AreLow m due → rises_within most (symbols_due due) ≡ true
      → (before : List ℕ) (here : ℕ) (later : List ℕ) → counts ≡ before ++ here ∷ later → here ≤ m + most * suc (length before)
  count_low ends m le low flat [] here later e = absurd cc
  count_low ends m le low flat (x ∷ before) here later e = absurd cc
  count_low (meets {count = n} {k = k} {nesting = nesting} {due = due} d) m le low flat [] here later e =
      let is : nested nesting n ≡ here = head_is e in
      let up = nested_within most k nesting n (and_first _ (rises_within most (symbols_due due)) flat) in
      omega arith
  count_low (meets {count = n} {k = k} {nesting = nesting} {due = due} d) m le low flat (x ∷ before) here later e =
      let up = nested_within most k nesting n (and_first _ (rises_within most (symbols_due due)) flat) in
      let more : m ≤ m + most = omega arith in
      let inner = count_low d (m + most) (omega arith) (low_more m (m + most) due more low) (and_second (nat_le (rise_of (Token k nesting)) most) _ flat) before here later (tail_is e) in
      omega arith
  count_low (restores d) m le low flat before here later e = count_low d m low.0 low.1 flat before here later e
  count_low (skips {k = k} d) m le low flat before here later e = count_low d m le low (and_second (nat_le (rise_of (NotBefore k)) most) _ flat) before here later e
  count_low (takes {count = n} {due = due} s c way w d) m le low flat before here later e =
      let behind = and_second (nat_le (rise_of s) most) (rises_within most (symbols_due due)) flat in
      let all = within-append most way (symbols_due due) (way_within s c way w) behind in
      count_low d m le (low_entered m n s way due le low) (subst (λ (x : List Symbol). rises_within most x ≡ true) (sym (due_entered n s way due)) all) before here later e

pub never_deeper : (table : List Symbol) (last most : ℕ) → IsTrue (rises_within most table) → (tokens : List ℕ) (place : ℕ) → IsFirstTooDeep table last (most * length tokens) tokens place → ⊥
never_deeper table last most within tokens place h =
    let counts = some_counts h.spells 0 (expected (whole last) []) refl in
    let p = h.each h.more h.choices counts.0 h.spells counts.1 in
    let low : p.here ≤ 0 + most * suc (length p.before) = count_low table most within counts.1 0 (omega arith) tt (none_rises (zero_le most) (none_rises (zero_le most) refl)) p.before p.here p.later p.parts in
    let long : length tokens ≡ length h.front + length (h.deep ∷ h.behind) = ap length h.parts ∙ length-append h.front (h.deep ∷ h.behind) in
    let passes : most * length tokens < p.here = p.passes in
    let same : length p.before ≡ length h.front = p.each in
    let enough : suc (length p.before) ≤ length tokens = omega arith in
    omega (arith, mul-le-mul_left most enough)
