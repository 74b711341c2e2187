-- What begins where a derivation begins: the kinds ahead of a list of symbols.
use Rattle.std.proofs.Common.{◌≡◌, ◌≢◌, ℕ, zero, suc, ◌^◌, Bool, true, false, cond, not, ◌&&◌, ◌||◌, List, [], ◌∷◌, ◌++◌, Some, slice_get, ◌⊎◌, inl, inr, nat_eq, refl, sym, ap, subst, ◌∙◌, append_assoc}
use Rattle.std.specs.Prelude.{bit_or}
use Rattle.og_grammar.specs.declared.Symbol.{Symbol}
use Rattle.og_grammar.specs.declared.Symbol.TheVariants.{Rule, Token, Scope, Maybe, Many, NotBefore}
use Rattle.og_grammar.specs.declared.Symbol.TheVariants as symbol
use Rattle.og_grammar.specs.declared.Part.{Part}
use Rattle.og_grammar.specs.Sentence.{rules_of, ways, IsNotFirst, Derives, nothing, token, passes, chosen}
use Rattle.og_grammar.specs.Predictive.{has, without, is_within, part_at, is_empty, are_empty, ahead_of, ahead, is_right_rule}
pub use Rattle.og_grammar.proofs.Known.{option, some_is}
use Rattle.og_grammar.proofs.Known.{and_intro, and_first, and_second}
use Rattle.og_grammar.proofs.Sets.{is_same, not_same, never_in, has-or_left, has-or_right, in_either, none, within_has, has-pow, has-without, without_has}

pub ahead-append : (parts : List Part) (a b : List Symbol) (behind : ℕ) → ahead parts (a ++ b) behind ≡ ahead parts a (ahead parts b behind)
ahead-append parts [] b behind = refl
ahead-append parts (s ∷ a) b behind = ap (ahead_of parts s) (ahead-append parts a b behind)

-- each rule of the table agrees with what is said of its part
abbrev pub AreRight : List Symbol → List Part → Type 0
AreRight table parts = (p c : ℕ) (way : List Symbol) → slice_get (rules_of p table) c ≡ Some way → is_right_rule parts (part_at parts p) way ≡ true

or_none : (e : Bool) (begins behind k : ℕ) → has (bit_or begins (cond e behind 0)) k ≡ true → (has begins k ≡ true) ⊎ ((e ≡ true) × (has behind k ≡ true))
or_none true begins behind k h = elim (in_either begins behind k h) [ inl a ↦ inl a | inr b ↦ inr (refl, b) ]
or_none false begins behind k h = elim (in_either begins 0 k h) [ inl a ↦ inl a | inr b ↦ let f : has 0 k ≡ false = none k in absurd cc ]

-- of one symbol
split_of : (parts : List Part) (s : Symbol) (behind k : ℕ) → has (ahead_of parts s behind) k ≡ true → (has (ahead_of parts s 0) k ≡ true) ⊎ ((is_empty parts s ≡ true) × (has behind k ≡ true))
split_of parts (Rule p) behind k h = inl h
split_of parts (Token t nesting) behind k h = inl h
split_of parts (symbol.Part p) behind k h =
    elim (or_none (part_at parts p).empty (part_at parts p).begins behind k h)
    [ inl a ↦ inl (has-or_left (part_at parts p).begins (cond (part_at parts p).empty 0 0) k a) | inr b ↦ inr b ]
split_of parts (Scope p) behind k h =
    elim (or_none (part_at parts p).empty (part_at parts p).begins behind k h)
    [ inl a ↦ inl (has-or_left (part_at parts p).begins (cond (part_at parts p).empty 0 0) k a) | inr b ↦ inr b ]
split_of parts (Maybe p) behind k h =
    elim (in_either (part_at parts p).begins behind k h) [ inl a ↦ inl (has-or_left (part_at parts p).begins 0 k a) | inr b ↦ inr (refl, b) ]
split_of parts (Many p) behind k h =
    elim (in_either (part_at parts p).begins behind k h) [ inl a ↦ inl (has-or_left (part_at parts p).begins 0 k a) | inr b ↦ inr (refl, b) ]
split_of parts (NotBefore t) behind k h = inr (refl, without_has behind t k h)

-- where more stands behind, more is ahead
pub or_grows : (begins a b k : ℕ) → (has a k ≡ true → has b k ≡ true) → has (bit_or begins a) k ≡ true → has (bit_or begins b) k ≡ true
or_grows begins a b k g h = elim (in_either begins a k h) [ inl x ↦ has-or_left begins b k x | inr y ↦ has-or_right begins b k (g y) ]

cond_grows : (e : Bool) (a b k : ℕ) → (has a k ≡ true → has b k ≡ true) → has (cond e a 0) k ≡ true → has (cond e b 0) k ≡ true
cond_grows true a b k g h = g h
cond_grows false a b k g h = h

without_grows : (a b t k : ℕ) (same : Bool) → nat_eq k t ≡ same → (has a k ≡ true → has b k ≡ true) → has (without a t) k ≡ true → has (without b t) k ≡ true
without_grows a b t k false e g h = has-without b t k (not_same k t e) (g (without_has a t k h))
without_grows a b t k true e g h =
    let same : k ≡ t = is_same k t e in
    let out : has (without a k) k ≡ false = never_in a k in
    let there : has (without a k) k ≡ true = subst (λ (n : ℕ). has (without a n) k ≡ true) (sym same) h in
    absurd cc

grows_of : (parts : List Part) (s : Symbol) (a b k : ℕ) → (has a k ≡ true → has b k ≡ true) → has (ahead_of parts s a) k ≡ true → has (ahead_of parts s b) k ≡ true
grows_of parts (Rule p) a b k g h = h
grows_of parts (Token t nesting) a b k g h = h
grows_of parts (symbol.Part p) a b k g h =
    or_grows (part_at parts p).begins (cond (part_at parts p).empty a 0) (cond (part_at parts p).empty b 0) k (cond_grows (part_at parts p).empty a b k g) h
grows_of parts (Scope p) a b k g h =
    or_grows (part_at parts p).begins (cond (part_at parts p).empty a 0) (cond (part_at parts p).empty b 0) k (cond_grows (part_at parts p).empty a b k g) h
grows_of parts (Maybe p) a b k g h = or_grows (part_at parts p).begins a b k g h
grows_of parts (Many p) a b k g h = or_grows (part_at parts p).begins a b k g h
grows_of parts (NotBefore t) a b k g h = without_grows a b t k (nat_eq k t) refl g h

-- what is ahead of an empty symbol, and behind it too, is ahead where that stands behind it
comes_of : (parts : List Part) (s : Symbol) (a b k : ℕ) → is_empty parts s ≡ true → has (ahead_of parts s a) k ≡ true → has b k ≡ true → has (ahead_of parts s b) k ≡ true
comes_of parts s a b k e h c = grows_of parts s a b k (λ _. c) h

-- a kind ahead of the symbols is one with which they may begin, or they may be empty and it stands behind them
pub split : (parts : List Part) (ss : List Symbol) (behind k : ℕ) → has (ahead parts ss behind) k ≡ true → (has (ahead parts ss 0) k ≡ true) ⊎ ((are_empty parts ss ≡ true) × (has behind k ≡ true))
split parts [] behind k h = inr (refl, h)
split parts (s ∷ ss) behind k h =
    elim (split_of parts s (ahead parts ss behind) k h) [
      | inl a ↦ inl (grows_of parts s 0 (ahead parts ss 0) k (λ z. let f : has 0 k ≡ false = none k in absurd cc) a)
      | inr b ↦ elim (split parts ss behind k b.1) [
        | inl c ↦ inl (comes_of parts s (ahead parts ss behind) (ahead parts ss 0) k b.0 h c)
        | inr d ↦ inr (and_intro (is_empty parts s) (are_empty parts ss) b.0 d.0, d.1)
      ]
    ]

-- ---- what begins where a derivation begins

pub head_is : {A : Type 0} {x y : A} {xs ys : List A} → x ∷ xs ≡ y ∷ ys → x ≡ y
head_is e = cc

pub tail_is : {A : Type 0} {x y : A} {xs ys : List A} → x ∷ xs ≡ y ∷ ys → xs ≡ ys
tail_is e = cc

number_is : {x y : ℕ} {xs ys : List ℕ} → x ∷ xs ≡ y ∷ ys → x ≡ y
number_is e = cc

pub cond_out : (e : Bool) (a k : ℕ) → has (cond e a 0) k ≡ true → has a k ≡ true
cond_out true a k h = h
cond_out false a k h = let f : has 0 k ≡ false = none k in absurd cc

right_split : (parts : List Part) (part : Part) (way : List Symbol) (behind k : ℕ) → is_right_rule parts part way ≡ true → has (ahead parts way behind) k ≡ true → has (bit_or part.begins (cond part.empty behind 0)) k ≡ true
right_split parts part way behind k right h =
    let first = and_first (is_within (ahead parts way 0) part.begins && (not (are_empty parts way) || part.empty)) _ right in
    let within : is_within (ahead parts way 0) part.begins ≡ true = and_first _ _ first in
    let empty : (not (are_empty parts way) || part.empty) ≡ true = and_second (is_within (ahead parts way 0) part.begins) _ first in
    elim (split parts way behind k h) [
      | inl a ↦ has-or_left part.begins (cond part.empty behind 0) k (within_has (ahead parts way 0) part.begins k within a)
      | inr b ↦ has-or_right part.begins (cond part.empty behind 0) k (behind_too (are_empty parts way) part.empty behind k b.0 empty b.1)
    ]
  where
    behind_too : (a b : Bool) (behind k : ℕ) → a ≡ true → (not a || b) ≡ true → has behind k ≡ true → has (cond b behind 0) k ≡ true
    behind_too true true behind k e f h = h
    behind_too true false behind k e f h = absurd cc
    behind_too false b behind k e f h = absurd cc

way_ahead : (table : List Symbol) (parts : List Part) → AreRight table parts → (s : Symbol) (c : ℕ) (way : List Symbol) (behind k : ℕ) → slice_get (ways table s) c ≡ Some way
    → has (ahead parts way behind) k ≡ true → has (ahead_of parts s behind) k ≡ true
way_ahead table parts right (Rule p) c way behind k w h = absurd cc
way_ahead table parts right (Token t nesting) c way behind k w h = absurd cc
way_ahead table parts right (NotBefore t) c way behind k w h = absurd cc
way_ahead table parts right (symbol.Part p) c way behind k w h = right_split parts (part_at parts p) way behind k (right p c way w) h
way_ahead table parts right (Scope p) c way behind k w h = right_split parts (part_at parts p) way behind k (right p c way w) h
way_ahead table parts right (Maybe p) zero way behind k w h =
    has-or_right (part_at parts p).begins behind k (subst (λ (x : List Symbol). has (ahead parts x behind) k ≡ true) (sym (some_is [] way w)) h)
way_ahead table parts right (Maybe p) (suc zero) way behind k w h =
    let there : has (ahead parts (symbol.Part p ∷ []) behind) k ≡ true = subst (λ (x : List Symbol). has (ahead parts x behind) k ≡ true) (sym (some_is (symbol.Part p ∷ []) way w)) h in
    or_grows (part_at parts p).begins (cond (part_at parts p).empty behind 0) behind k (cond_out (part_at parts p).empty behind k) there
way_ahead table parts right (Maybe p) (suc (suc c)) way behind k w h = absurd cc
way_ahead table parts right (Many p) zero way behind k w h =
    has-or_right (part_at parts p).begins behind k (subst (λ (x : List Symbol). has (ahead parts x behind) k ≡ true) (sym (some_is [] way w)) h)
way_ahead table parts right (Many p) (suc zero) way behind k w h =
    let there : has (ahead parts (symbol.Part p ∷ Many p ∷ []) behind) k ≡ true = subst (λ (x : List Symbol). has (ahead parts x behind) k ≡ true) (sym (some_is (symbol.Part p ∷ Many p ∷ []) way w)) h in
    elim (in_either (part_at parts p).begins (cond (part_at parts p).empty (bit_or (part_at parts p).begins behind) 0) k there) [
      | inl a ↦ has-or_left (part_at parts p).begins behind k a
      | inr b ↦ cond_out (part_at parts p).empty (bit_or (part_at parts p).begins behind) k b
    ]
way_ahead table parts right (Many p) (suc (suc c)) way behind k w h = absurd cc

-- where symbols derive tokens that begin with k, then k is ahead of the first of them
pub leads : (table : List Symbol) (parts : List Part) → AreRight table parts → {symbols : List Symbol} {tokens choices : List ℕ} → Derives table symbols tokens choices
    → (front rest : List Symbol) (k : ℕ) (ts : List ℕ) (behind : ℕ) → symbols ≡ front ++ rest → tokens ≡ k ∷ ts
    → ((cs : List ℕ) → Derives table rest (k ∷ ts) cs → has behind k ≡ true) → has (ahead parts front behind) k ≡ true
leads table parts right {symbols = symbols} {tokens = tokens} {choices = choices} d [] rest k ts behind e f h =
    h choices (subst (λ (x : List ℕ). Derives table rest x choices) f (subst (λ (x : List Symbol). Derives table x tokens choices) e d))
leads table parts right nothing (s ∷ front) rest k ts behind e f h = absurd cc
leads table parts right (token {k = j} {nesting = nesting} d) (s ∷ front) rest k ts behind e f h =
    let first : Token j nesting ≡ s = head_is e in
    let same : j ≡ k = number_is f in
    subst (λ (x : Symbol). has (ahead_of parts x (ahead parts front behind)) k ≡ true) first (subst (λ (x : ℕ). has (2 ^ j) x ≡ true) same (has-pow j))
leads table parts right (passes {k = j} apart d) (s ∷ front) rest k ts behind e f h =
    let first : NotBefore j ≡ s = head_is e in
    let inner = leads table parts right d front rest k ts behind (tail_is e) f h in
    let ne : k ≢ j = subst (λ (x : List ℕ). IsNotFirst j x) f apart in
    subst (λ (x : Symbol). has (ahead_of parts x (ahead parts front behind)) k ≡ true) first (has-without (ahead parts front behind) j k ne inner)
leads table parts right (chosen {symbols = symbols} s' c way w d) (s ∷ front) rest k ts behind e f h =
    let first : s' ≡ s = head_is e in
    let joined : way ++ symbols ≡ (way ++ front) ++ rest = ap (λ (x : List Symbol). way ++ x) (tail_is e) ∙ sym (append_assoc way front rest) in
    let inner = leads table parts right d (way ++ front) rest k ts behind joined f h in
    let before : has (ahead parts way (ahead parts front behind)) k ≡ true = subst (λ (n : ℕ). has n k ≡ true) (ahead-append parts way front behind) inner in
    subst (λ (x : Symbol). has (ahead_of parts x (ahead parts front behind)) k ≡ true) first (way_ahead table parts right s' c way (ahead parts front behind) k w before)
