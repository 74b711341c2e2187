-- Every list of symbols of a table that passes its test derives something: the least text of each part.
use Rattle.std.proofs.Common.{◌≡◌, ◌≢◌, ℕ, zero, suc, ◌<◌, ◌^◌, Bool, true, false, cond, not, ◌&&◌, ◌||◌, List, [], ◌∷◌, ◌++◌, length, Some, slice_get, ◌⊎◌, inl, inr, nat_eq, nat_lt, refl, sym, ap, subst, ◌∙◌, arith}
use Rattle.std.proofs.lemmas.Bool.Decides.{nat_tests}
use Rattle.og_grammar.specs.declared.Symbol.{Symbol}
use Rattle.og_grammar.specs.declared.Symbol.TheVariants.{Rule, Token, Scope, Maybe, Many, NotBefore}
use Rattle.og_grammar.specs.declared.Symbol.TheVariants as symbol
use Rattle.og_grammar.specs.declared.Part.{Part}
use Rattle.og_grammar.specs.Sentence.{rules_of, IsNotFirst, Derives, token, passes, chosen}
use Rattle.og_grammar.specs.Predictive.{has, is_within, are_apart, part_at, bars_of, lead_of, is_clear, are_placed, may_follow, ahead, is_ranked, are_ranked, is_right_rule, are_empty}
pub use Rattle.og_grammar.specs.Standing.{Avoids, Goes}
use Rattle.og_grammar.proofs.Known.{and_first, and_second}
use Rattle.og_grammar.proofs.Sets.{is_same, not_same, none, has-pow, within_has, apart_has}
use Rattle.og_grammar.proofs.Leading.{AreRight}

-- the tokens are those behind, or they begin with the one kind of the set
abbrev pub Begun : ℕ → List ℕ → List ℕ → Type 0
Begun lead tokens behind = ((lead ≡ 0) × (tokens ≡ behind)) ⊎ ((k : ℕ) × (more : List ℕ) × (tokens ≡ k ∷ more) × (lead ≡ 2 ^ k))

-- some tokens with this beginning
abbrev pub Gives : List Symbol → List Symbol → ℕ → List ℕ → Type 0
Gives table symbols lead behind = (tokens : List ℕ) × (choices : List ℕ) × Derives table symbols tokens choices × Begun lead tokens behind

-- the part p has a least text
abbrev pub HasLeast : List Symbol → List Part → ℕ → Type 0
HasLeast table parts p = (way : List Symbol) × (slice_get (rules_of p table) (part_at parts p).least ≡ Some way)
    × (are_ranked parts (part_at parts p).rank way ≡ true) × (lead_of parts way ≡ (part_at parts p).lead)

abbrev pub AllHaveLeast : List Symbol → List Part → Type 0
AllHaveLeast table parts = (p : ℕ) → p < length parts → HasLeast table parts p

pow_is_more : (k : ℕ) → 2 ^ k ≡ 0 → ⊥
pow_is_more k z = let f : has 0 k ≡ true = ap (λ (n : ℕ). has n k) (sym z) ∙ has-pow k in let n : has 0 k ≡ false = none k in absurd cc

avoids_more : (a b : ℕ) (ts : List ℕ) → is_within a b ≡ true → Avoids b ts → Avoids a ts
avoids_more a b [] w h = tt
avoids_more a b (t ∷ ts) w h = by (has a t) refl
  where
    by : (here : Bool) → has a t ≡ here → has a t ≡ false
    by false e = e
    by true e = let f : has b t ≡ true = within_has a b t w e in absurd cc

clear_by : (set lead bars : ℕ) (ts behind : List ℕ) (none : Bool) → nat_eq lead 0 ≡ none → cond none (is_within set bars) (are_apart lead set) ≡ true → Begun lead ts behind → Avoids bars behind → Avoids set ts
clear_by set lead bars ts behind true e clear (inl b) h = subst (λ (x : List ℕ). Avoids set x) (sym b.1) (avoids_more set bars behind clear h)
clear_by set lead bars ts behind true e clear (inr b) h = let z : lead ≡ 0 = is_same lead 0 e in absurd (pow_is_more b.0 (sym b.3 ∙ z))
clear_by set lead bars ts behind false e clear (inl b) h = let ne : lead ≢ 0 = not_same lead 0 e in absurd (ne b.0)
clear_by set lead bars ts behind false e clear (inr b) h =
    let there : has lead b.0 ≡ true = ap (λ (n : ℕ). has n b.0) b.3 ∙ has-pow b.0 in
    subst (λ (x : List ℕ). Avoids set x) (sym b.2) (apart_has lead set b.0 clear there)

pub clear_avoids : (set lead bars : ℕ) (ts behind : List ℕ) → is_clear set lead bars ≡ true → Begun lead ts behind → Avoids bars behind → Avoids set ts
clear_avoids set lead bars ts behind clear b h = clear_by set lead bars ts behind (nat_eq lead 0) refl clear b h

not_first : (k : ℕ) (ts : List ℕ) → Avoids (2 ^ k) ts → IsNotFirst k ts
not_first k [] h = tt
not_first k (t ∷ ts) h = λ e. let f : has (2 ^ k) t ≡ true = ap (has (2 ^ k)) e ∙ has-pow k in absurd cc

as_scope : {table : List Symbol} {p : ℕ} {rest : List Symbol} {ts cs : List ℕ} → Derives table (symbol.Part p ∷ rest) ts cs → Derives table (Scope p ∷ rest) ts cs
as_scope {p = p} (chosen _ c way w d) = chosen (Scope p) c way w d

begun_both : (lead first : ℕ) (a b c : List ℕ) (none : Bool) → nat_eq first 0 ≡ none → Begun first a b → Begun lead b c → Begun (cond none lead first) a c
begun_both lead first a b c true e (inl x) (inl y) = inl (y.0, x.1 ∙ y.1)
begun_both lead first a b c true e (inl x) (inr y) = inr (y.0, y.1, x.1 ∙ y.2, y.3)
begun_both lead first a b c true e (inr x) y = let z : first ≡ 0 = is_same first 0 e in absurd (pow_is_more x.0 (sym x.3 ∙ z))
begun_both lead first a b c false e (inl x) y = let ne : first ≢ 0 = not_same first 0 e in absurd (ne x.0)
begun_both lead first a b c false e (inr x) y = inr x

-- a part of lesser rank gives its least text before what avoids its bars
abbrev pub Below : List Symbol → List Part → ℕ → Type 0
Below table parts n = (p : ℕ) (rest : List Symbol) (ts cs : List ℕ) → (part_at parts p).rank < n → p < length parts → Derives table rest ts cs → Avoids (part_at parts p).bars ts
    → Gives table (symbol.Part p ∷ rest) (part_at parts p).lead ts

pub lt_of : (a b : ℕ) → nat_lt a b ≡ true → a < b
lt_of a b h = grind (arith, nat_tests)

pub list_gives : (table : List Symbol) (parts : List Part) (n : ℕ) → Below table parts n → (ss rest : List Symbol) (follows bars : ℕ) (ts cs : List ℕ)
    → are_ranked parts n ss ≡ true → are_placed parts ss follows bars ≡ true → Derives table rest ts cs → Avoids bars ts → Gives table (ss ++ rest) (lead_of parts ss) ts
list_gives table parts n go [] rest follows bars ts cs ranked placed d h = (ts, cs, d, inl (refl, refl))
list_gives table parts n go (s ∷ ss) rest follows bars ts cs ranked placed d h =
    let behind = list_gives table parts n go ss rest follows bars ts cs (and_second (is_ranked parts n s) (are_ranked parts n ss) ranked)
    (and_second (may_follow parts s (ahead parts ss follows) && is_clear (bars_of parts s) (lead_of parts ss) bars) (are_placed parts ss follows bars) placed) d h in
    let here : (may_follow parts s (ahead parts ss follows) && is_clear (bars_of parts s) (lead_of parts ss) bars) ≡ true = and_first _ (are_placed parts ss follows bars) placed in
    let clear : is_clear (bars_of parts s) (lead_of parts ss) bars ≡ true = and_second (may_follow parts s (ahead parts ss follows)) _ here in
    by s (and_first (is_ranked parts n s) (are_ranked parts n ss) ranked) behind.0 behind.1 behind.2 behind.3 (clear_avoids (bars_of parts s) (lead_of parts ss) bars behind.0 ts clear behind.3 h)
  where
    by : (s : Symbol) → is_ranked parts n s ≡ true → (ts' cs' : List ℕ) → Derives table (ss ++ rest) ts' cs' → Begun (lead_of parts ss) ts' ts → Avoids (bars_of parts s) ts'
        → Gives table (s ∷ (ss ++ rest)) (lead_of parts (s ∷ ss)) ts
    by (Rule p) r ts' cs' d' b a = absurd cc
    by (Token k nesting) r ts' cs' d' b a = (k ∷ ts', cs', token d', inr (k, ts', refl, refl))
    by (symbol.Part p) r ts' cs' d' b a =
        let g = go p (ss ++ rest) ts' cs' (lt_of _ _ (and_first _ _ r)) (lt_of _ _ (and_second (nat_lt (part_at parts p).rank n) _ r)) d' a in
        (g.0, g.1, g.2, begun_both (lead_of parts ss) (part_at parts p).lead g.0 ts' ts (nat_eq (part_at parts p).lead 0) refl g.3 b)
    by (Scope p) r ts' cs' d' b a =
        let g = go p (ss ++ rest) ts' cs' (lt_of _ _ (and_first _ _ r)) (lt_of _ _ (and_second (nat_lt (part_at parts p).rank n) _ r)) d' a in
        (g.0, g.1, as_scope g.2, begun_both (lead_of parts ss) (part_at parts p).lead g.0 ts' ts (nat_eq (part_at parts p).lead 0) refl g.3 b)
    by (Maybe p) r ts' cs' d' b a = (ts', 0 ∷ cs', chosen (Maybe p) 0 [] refl d', b)
    by (Many p) r ts' cs' d' b a = (ts', 0 ∷ cs', chosen (Many p) 0 [] refl d', b)
    by (NotBefore k) r ts' cs' d' b a = (ts', cs', passes (not_first k ts' a) d', b)

pub rule_placed : (parts : List Part) (part : Part) (way : List Symbol) → is_right_rule parts part way ≡ true → are_placed parts way part.follows part.bars ≡ true
rule_placed parts part way r = and_first _ _ (and_second (is_within (ahead parts way 0) part.begins && (not (are_empty parts way) || part.empty)) _ r)

pub part_gives : (table : List Symbol) (parts : List Part) → AreRight table parts → AllHaveLeast table parts → (n : ℕ) → Below table parts n
part_gives table parts right least zero p rest ts cs lt within d h = absurd (omega arith)
part_gives table parts right least (suc n) p rest ts cs lt within d h =
    let l = least p within in
    let below : Below table parts (part_at parts p).rank = λ q rest' ts' cs' lt' within' d' h'. part_gives table parts right least n q rest' ts' cs' (omega arith) within' d' h' in
    let g = list_gives table parts (part_at parts p).rank below l.0 rest (part_at parts p).follows (part_at parts p).bars ts cs l.2 (rule_placed parts (part_at parts p) l.0 (right p (part_at parts p).least l.0 l.1)) d h in
    (g.0, (part_at parts p).least ∷ g.1, chosen (symbol.Part p) (part_at parts p).least l.0 l.1 g.2, subst (λ (x : ℕ). Begun x g.0 ts) l.3 g.3)

-- some rank is above those of the symbols
abbrev AreThere : List Part → List Symbol → Type 0
AreThere parts ss = (n : ℕ) × (are_ranked parts n ss ≡ true)
