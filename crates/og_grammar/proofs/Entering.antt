-- The step that takes up a symbol that leaves a choice.
use Rattle.std.proofs.Common.{◌≡◌, ℕ, zero, suc, ◌+◌, ◌<◌, Bool, true, false, cond, not, ◌&&◌, ◌||◌, List, [], ◌∷◌, ◌++◌, length, Some, slice_get, inl, inr, refl, sym, ap, subst, ◌∙◌, arith}
use Rattle.std.specs.Prelude.{bit_or}
use Rattle.og_grammar.specs.declared.Symbol.{Symbol}
use Rattle.og_grammar.specs.declared.Nesting.TheVariants.{Keeps}
use Rattle.og_grammar.specs.declared.Symbol.TheVariants.{Rule, Token, Scope, Maybe, Many, NotBefore}
use Rattle.og_grammar.specs.declared.Symbol.TheVariants as symbol
use Rattle.og_grammar.specs.declared.Due.{Due}
use Rattle.og_grammar.specs.declared.Due.TheVariants.{Expect, Restore}
use Rattle.og_grammar.specs.declared.Part.{Part}
use Rattle.og_grammar.specs.Sentence.{rules_of, ways, expected, entered, Derives, chosen, takes}
use Rattle.og_grammar.specs.Predictive.{has, is_within, part_at, is_empty, are_empty, weight_of, weights, ahead, is_right_rule, are_placed}
use Rattle.og_grammar.specs.Rows.{choice_of, way_of}
pub use Rattle.og_grammar.specs.Standing.{IsReady}
use Rattle.og_grammar.proofs.Known.{and_first, and_second}
use Rattle.og_grammar.proofs.Sets.{in_either, within_has}
use Rattle.og_grammar.proofs.Leading.{some_is, leads}
use Rattle.og_grammar.proofs.Least.{Goes, part_gives, rule_placed, lt_of}
use Rattle.og_grammar.proofs.Stack.{IsFit, IsBefore, Leads, MayStand, AreInLine, avoids_none, in_line, all_go}
use Rattle.og_grammar.proofs.Choices.{IsSound, rows, leaves_choice, taken_way, forced}
use Rattle.og_grammar.proofs.Advances.{symbols_due, IsBottomed, weight_due, Advances, due_entered, bottom_entered, low_entered}

-- what may be taken up in a way and behind it
weight_expected : (parts : List Part) (ss : List Symbol) (due : List Due) → weight_due parts (expected ss due) ≡ weights parts ss + cond (are_empty parts ss) (weight_due parts due) 0
weight_expected parts [] due = omega arith
weight_expected parts (s ∷ ss) due =
    ap (λ (n : ℕ). weight_of parts s + cond (is_empty parts s) n 0) (weight_expected parts ss due)
    ∙ by (is_empty parts s) (are_empty parts ss) (weight_of parts s) (weights parts ss) (weight_due parts due)
  where
    by : (a b : Bool) (x y z : ℕ) → x + cond a (y + cond b z 0) 0 ≡ (x + cond a y 0) + cond (a && b) z 0
    by true true x y z = omega arith
    by true false x y z = omega arith
    by false b x y z = omega arith

rule_weighs : (parts : List Part) (part : Part) (way : List Symbol) → is_right_rule parts part way ≡ true → weights parts way < part.weight
rule_weighs parts part way r =
    lt_of _ _ (and_second (are_placed parts way part.follows part.bars) _ (and_second (is_within (ahead parts way 0) part.begins && (not (are_empty parts way) || part.empty)) _ r))

rule_empty : (parts : List Part) (part : Part) (way : List Symbol) → is_right_rule parts part way ≡ true → (not (are_empty parts way) || part.empty) ≡ true
rule_empty parts part way r = and_second (is_within (ahead parts way 0) part.begins) _ (and_first (is_within (ahead parts way 0) part.begins && (not (are_empty parts way) || part.empty)) _ r)

part_lighter : (parts : List Part) (part : Part) (way : List Symbol) (due : List Due) → is_right_rule parts part way ≡ true → weight_due parts (expected way due) < part.weight + cond part.empty (weight_due parts due) 0
part_lighter parts part way due r =
    let e = weight_expected parts way due in
    let lt : weights parts way < part.weight = rule_weighs parts part way r in
    subst (λ (n : ℕ). n < part.weight + cond part.empty (weight_due parts due) 0) (sym e) (by (are_empty parts way) part.empty (weights parts way) part.weight (weight_due parts due) (rule_empty parts part way r) lt)
  where
    by : (a b : Bool) (x y z : ℕ) → (not a || b) ≡ true → x < y → x + cond a z 0 < y + cond b z 0
    by true true x y z h lt = omega arith
    by true false x y z h lt = absurd cc
    by false true x y z h lt = omega arith
    by false false x y z h lt = omega arith

-- taking up a symbol makes what is due lighter
pub lighter : (table : List Symbol) (parts : List Part) (last : ℕ) → IsSound table parts last → (s : Symbol) (c k count : ℕ) (way : List Symbol) (due : List Due) → leaves_choice s ≡ true
    → slice_get (ways table s) c ≡ Some way → MayStand table parts s (symbols_due due) → weight_due parts (entered count s way due) < weight_due parts (Expect s ∷ due)
lighter table parts last sound (Rule p) c k count way due l w m = absurd cc
lighter table parts last sound (Token t nesting) c k count way due l w m = absurd cc
lighter table parts last sound (NotBefore t) c k count way due l w m = absurd cc
lighter table parts last sound (symbol.Part p) c k count way due l w m = part_lighter parts (part_at parts p) way due (sound.fit.right p c way w)
lighter table parts last sound (Scope p) c k count way due l w m =
    let x = part_lighter parts (part_at parts p) way (Restore count ∷ due) (sound.fit.right p c way w) in
    by (part_at parts p).empty (weight_due parts (expected way (Restore count ∷ due))) (part_at parts p).weight (weight_due parts due) x
  where
    by : (b : Bool) (x y z : ℕ) → x < y + cond b (suc z) 0 → x < suc y + cond b z 0
    by true x y z h = omega arith
    by false x y z h = omega arith
lighter table parts last sound (Maybe p) zero k count way due l w m =
    let e : [] ≡ way = some_is [] way w in
    subst (λ (x : List Symbol). weight_due parts (expected x due) < suc (suc (part_at parts p).weight) + weight_due parts due) e (omega arith)
lighter table parts last sound (Maybe p) (suc zero) k count way due l w m =
    let e : (symbol.Part p ∷ []) ≡ way = some_is (symbol.Part p ∷ []) way w in
    subst (λ (x : List Symbol). weight_due parts (expected x due) < suc (suc (part_at parts p).weight) + weight_due parts due) e
    (by (part_at parts p).empty (part_at parts p).weight (weight_due parts due) m.filled)
  where
    by : (b : Bool) (y z : ℕ) → b ≡ false → y + cond b z 0 < suc (suc y) + z
    by true y z h = absurd cc
    by false y z h = omega arith
lighter table parts last sound (Maybe p) (suc (suc c)) k count way due l w m = absurd cc
lighter table parts last sound (Many p) zero k count way due l w m =
    let e : [] ≡ way = some_is [] way w in
    subst (λ (x : List Symbol). weight_due parts (expected x due) < suc (suc (part_at parts p).weight) + weight_due parts due) e (omega arith)
lighter table parts last sound (Many p) (suc zero) k count way due l w m =
    let e : (symbol.Part p ∷ Many p ∷ []) ≡ way = some_is (symbol.Part p ∷ Many p ∷ []) way w in
    subst (λ (x : List Symbol). weight_due parts (expected x due) < suc (suc (part_at parts p).weight) + weight_due parts due) e
    (by (part_at parts p).empty (part_at parts p).weight (weight_due parts due) m.filled)
  where
    by : (b : Bool) (y z : ℕ) → b ≡ false → y + cond b (suc (suc y) + z) 0 < suc (suc y) + z
    by true y z h = absurd cc
    by false y z h = omega arith
lighter table parts last sound (Many p) (suc (suc c)) k count way due l w m = absurd cc

-- ---- what is due after it is in line

pub part_goes : (table : List Symbol) (parts : List Part) → IsFit table parts → (p : ℕ) (rest : List Symbol) → p < length parts → Goes table rest (part_at parts p).bars → Goes table (symbol.Part p ∷ rest) 0
part_goes table parts fit p rest there g =
    let r = part_gives table parts fit.right fit.least (suc (part_at parts p).rank) p rest g.0 g.1 (omega arith) there g.2 g.3 in
    (r.0, r.1, r.2, avoids_none r.0)

plain : (table : List Symbol) (rest : List Symbol) (bars : ℕ) → Goes table rest bars → Goes table rest 0
plain table rest bars g = (g.0, g.1, g.2, avoids_none g.0)

rule_ready : (table : List Symbol) (parts : List Part) (last : ℕ) → IsSound table parts last → (p c : ℕ) (way rest : List Symbol) → slice_get (rules_of p table) c ≡ Some way → IsBefore table (part_at parts p) rest
    → AreInLine table parts rest → IsReady table parts (way ++ rest)
rule_ready table parts last sound p c way rest w m line =
    let placed = rule_placed parts (part_at parts p) way (sound.fit.right p c way w) in
    let inner = sound.inner p c way w in
    let all = all_go table parts sound.fit way rest (part_at parts p).follows (part_at parts p).bars inner placed m.goes in
    record {
      line = in_line table parts sound.fit way rest (part_at parts p).follows (part_at parts p).bars inner placed m.leads m.goes line;
      goes = (all.0, all.1, all.2, avoids_none all.0);
    }

pub ready : (table : List Symbol) (parts : List Part) (last : ℕ) → IsSound table parts last → (s : Symbol) (c : ℕ) (way rest : List Symbol) → leaves_choice s ≡ true → slice_get (ways table s) c ≡ Some way
    → MayStand table parts s rest → AreInLine table parts rest → IsReady table parts (way ++ rest)
ready table parts last sound (Rule p) c way rest l w m line = absurd cc
ready table parts last sound (Token t nesting) c way rest l w m line = absurd cc
ready table parts last sound (NotBefore t) c way rest l w m line = absurd cc
ready table parts last sound (symbol.Part p) c way rest l w m line = rule_ready table parts last sound p c way rest w m line
ready table parts last sound (Scope p) c way rest l w m line = rule_ready table parts last sound p c way rest w m line
ready table parts last sound (Maybe p) zero way rest l w m line =
    subst (λ (x : List Symbol). IsReady table parts (x ++ rest)) (some_is [] way w) (record { line = line; goes = plain table rest (part_at parts p).bars m.goes })
ready table parts last sound (Maybe p) (suc zero) way rest l w m line =
    subst (λ (x : List Symbol). IsReady table parts (x ++ rest)) (some_is (symbol.Part p ∷ []) way w)
    (record { line = (record { leads = m.leads; goes = m.goes }, line); goes = part_goes table parts sound.fit p rest m.there m.goes })
ready table parts last sound (Maybe p) (suc (suc c)) way rest l w m line = absurd cc
ready table parts last sound (Many p) zero way rest l w m line =
    subst (λ (x : List Symbol). IsReady table parts (x ++ rest)) (some_is [] way w) (record { line = line; goes = plain table rest (part_at parts p).bars m.goes })
ready table parts last sound (Many p) (suc zero) way rest l w m line =
    let again : Goes table (Many p ∷ rest) (part_at parts p).bars = (m.goes.0, 0 ∷ m.goes.1, chosen (Many p) 0 [] refl m.goes.2, m.goes.3) in
    let follow : Leads table (Many p ∷ rest) (part_at parts p).follows = λ k ts cs d.
    (let here : has (bit_or (part_at parts p).begins (part_at parts p).follows) k ≡ true = leads table parts sound.fit.right d (Many p ∷ []) rest k ts (part_at parts p).follows refl refl (λ cs' d'. m.leads k ts cs' d') in
    elim (in_either (part_at parts p).begins (part_at parts p).follows k here) [ inl x ↦ within_has (part_at parts p).begins (part_at parts p).follows k m.again x | inr y ↦ y ]) in
    subst (λ (x : List Symbol). IsReady table parts (x ++ rest)) (some_is (symbol.Part p ∷ Many p ∷ []) way w)
    (record { line = (record { leads = follow; goes = again }, (m, line)); goes = part_goes table parts sound.fit p (Many p ∷ rest) m.there again })
ready table parts last sound (Many p) (suc (suc c)) way rest l w m line = absurd cc

no_token : (s : Symbol) (last : ℕ) → leaves_choice s ≡ true → Expect s ≡ Expect (Token last Keeps) → ⊥
no_token s last l e = let same : s ≡ Token last Keeps = cc in let clash : leaves_choice (Token last Keeps) ≡ true = subst (λ (x : Symbol). leaves_choice x ≡ true) same l in absurd cc

pub entering : (table : List Symbol) (parts : List Part) (last : ℕ) → IsSound table parts last → (s : Symbol) (c k count : ℕ) (due : List Due) → leaves_choice s ≡ true → choice_of (rows table parts) parts s k ≡ Some c
    → MayStand table parts s (symbols_due due) → AreInLine table parts (symbols_due due) → IsBottomed last (Expect s ∷ due)
    → Advances table parts last k (Expect s ∷ due) count (entered count s (way_of (rows table parts) s c) due) count (c ∷ [])
entering table parts last sound s c k count due l made m line bottom =
    let way : List Symbol = way_of (rows table parts) s c in
    let w : slice_get (ways table s) c ≡ Some way = taken_way table parts last sound s c k made in
    let e : symbols_due (entered count s way due) ≡ way ++ symbols_due due = due_entered count s way due in
    let r = ready table parts last sound s c way (symbols_due due) l w m line in
    record {
      fore = λ ts cs d. chosen s c way w (subst (λ (x : List Symbol). Derives table x (k ∷ ts) cs) e d);
      back = λ ts cs d.
          let f = forced table parts last sound d s (symbols_due due) k ts refl refl l m in
          let same : f.choice ≡ c = some_is f.choice c (sym f.made ∙ made) in
          (f.others, f.first ∙ ap (λ (n : ℕ). n ∷ f.others) same, subst (λ (x : List Symbol). Derives table x (k ∷ ts) f.others) (sym e) (subst (λ (n : ℕ). Derives table (way_of (rows table parts) s n ++ symbols_due due) (k ∷ ts) f.others) same f.goes_on));
      nests = λ cs counts n. takes s c way w n;
      line = subst (AreInLine table parts) (sym e) r.line;
      goes = subst (λ (x : List Symbol). Goes table x 0) (sym e) r.goes;
      bottom = bottom_entered last count s way due (no_token s last l) bottom;
      low = λ limit le low. (le, low_entered limit count s way due le low);
    }
