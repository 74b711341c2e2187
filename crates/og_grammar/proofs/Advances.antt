-- What a step before a token keeps: before that token, the derivations are the same.
use Rattle.std.proofs.Common.{◌≡◌, ℕ, suc, ◌+◌, ◌≤◌, Bool, true, false, cond, List, [], ◌∷◌, ◌++◌, inl, inr, refl, sym, ap, subst, ◌∙◌, append_assoc}
use Rattle.og_grammar.specs.declared.Symbol.{Symbol}
use Rattle.og_grammar.specs.declared.Nesting.TheVariants.{Keeps}
use Rattle.og_grammar.specs.declared.Symbol.TheVariants.{Token}
use Rattle.og_grammar.specs.declared.Due.{Due}
use Rattle.og_grammar.specs.declared.Due.TheVariants.{Expect, Restore}
use Rattle.og_grammar.specs.declared.Part.{Part}
use Rattle.og_grammar.specs.Sentence.{is_scope, expected, entered, Derives, Nests}
use Rattle.og_grammar.specs.Predictive.{is_empty, weight_of}
pub use Rattle.og_grammar.specs.Standing.{symbols_due, IsBottomed, AreLow, Advances}
use Rattle.og_grammar.proofs.Leading.{head_is, tail_is}
use Rattle.og_grammar.proofs.Least.{Goes}
use Rattle.og_grammar.proofs.Stack.{AreInLine}

-- the weight of what may be taken up before the next token is
abbrev pub weight_due : List Part → List Due → ℕ
weight_due parts [] = 0
weight_due parts (Restore count ∷ due) = suc (weight_due parts due)
weight_due parts (Expect s ∷ due) = weight_of parts s + cond (is_empty parts s) (weight_due parts due) 0

pub stays : (table : List Symbol) (parts : List Part) (last k : ℕ) (due : List Due) (count : ℕ) → AreInLine table parts (symbols_due due) → Goes table (symbols_due due) 0 → IsBottomed last due
    → Advances table parts last k due count due count []
stays table parts last k due count line goes bottom = record {
  fore = λ ts cs d. d;
  back = λ ts cs d. (cs, refl, d);
  nests = λ cs counts n. n;
  line = line;
  goes = goes;
  bottom = bottom;
  low = λ limit le low. (le, low);
}

pub goes_on : (table : List Symbol) (parts : List Part) (last k : ℕ) (a b c : List Due) (a_count b_count c_count : ℕ) (first second : List ℕ)
    → Advances table parts last k a a_count b b_count first → Advances table parts last k b b_count c c_count second → Advances table parts last k a a_count c c_count (first ++ second)
goes_on table parts last k a b c a_count b_count c_count first second x y = record {
  fore = λ ts cs d. subst (λ (z : List ℕ). Derives table (symbols_due a) (k ∷ ts) z) (sym (append_assoc first second cs)) (x.fore ts (second ++ cs) (y.fore ts cs d));
  back = λ ts cs d.
      let p = x.back ts cs d in
      let q = y.back ts p.0 p.2 in
      (q.0, p.1 ∙ ap (λ (z : List ℕ). first ++ z) q.1 ∙ sym (append_assoc first second q.0), q.2);
  nests = λ cs counts n. subst (λ (z : List ℕ). Nests table a_count a z counts) (sym (append_assoc first second cs)) (x.nests (second ++ cs) counts (y.nests cs counts n));
  line = y.line;
  goes = y.goes;
  bottom = y.bottom;
  low = λ limit le low. let l = x.low limit le low in y.low limit l.0 l.1;
}

-- ---- what is entered

pub due_expected : (ss : List Symbol) (due : List Due) → symbols_due (expected ss due) ≡ ss ++ symbols_due due
due_expected [] due = refl
due_expected (s ∷ ss) due = ap (λ (x : List Symbol). s ∷ x) (due_expected ss due)

due_closed : (b : Bool) (count : ℕ) (due : List Due) → symbols_due (cond b (Restore count ∷ due) due) ≡ symbols_due due
due_closed true count due = refl
due_closed false count due = refl

pub due_entered : (count : ℕ) (s : Symbol) (way : List Symbol) (due : List Due) → symbols_due (entered count s way due) ≡ way ++ symbols_due due
due_entered count s way due = due_expected way (cond (is_scope s) (Restore count ∷ due) due) ∙ ap (λ (x : List Symbol). way ++ x) (due_closed (is_scope s) count due)

-- what was under a thing that is due stays under what takes its place
pub under : (last : ℕ) (d : Due) (due : List Due) (front : List Due) → (d ≡ Expect (Token last Keeps) → ⊥) → IsBottomed last (d ∷ due) → IsBottomed last (front ++ due)
under last d due front other (inl e) = absurd cc
under last d due front other (inr ([], e)) = absurd (other (head_is e))
under last d due front other (inr (x ∷ f, e)) = inr (front ++ f, ap (λ (z : List Due). front ++ z) (tail_is e) ∙ sym (append_assoc front f (Expect (Token last Keeps) ∷ [])))

abbrev fronted : List Symbol → List Due → List Due
fronted ss due = expected ss due

expected_front : (ss : List Symbol) (due : List Due) → expected ss due ≡ expected ss [] ++ due
expected_front [] due = refl
expected_front (s ∷ ss) due = ap (λ (x : List Due). Expect s ∷ x) (expected_front ss due)

pub bottom_entered : (last count : ℕ) (s : Symbol) (way : List Symbol) (due : List Due) → (Expect s ≡ Expect (Token last Keeps) → ⊥) → IsBottomed last (Expect s ∷ due) → IsBottomed last (entered count s way due)
bottom_entered last count s way due other b = by (is_scope s)
  where
    by : (scope : Bool) → IsBottomed last (expected way (cond scope (Restore count ∷ due) due))
    by true = subst (IsBottomed last) (append_assoc (expected way []) (Restore count ∷ []) due ∙ sym (expected_front way (Restore count ∷ due))) (under last (Expect s) due (expected way [] ++ Restore count ∷ []) other b)
    by false = subst (IsBottomed last) (sym (expected_front way due)) (under last (Expect s) due (expected way []) other b)

low_expected : (limit : ℕ) (ss : List Symbol) (due : List Due) → AreLow limit due → AreLow limit (expected ss due)
low_expected limit [] due h = h
low_expected limit (s ∷ ss) due h = low_expected limit ss due h

pub low_entered : (limit count : ℕ) (s : Symbol) (way : List Symbol) (due : List Due) → count ≤ limit → AreLow limit due → AreLow limit (entered count s way due)
low_entered limit count s way due le h = low_expected limit way (cond (is_scope s) (Restore count ∷ due) due) (by (is_scope s))
  where
    by : (b : Bool) → AreLow limit (cond b (Restore count ∷ due) due)
    by true = (le, h)
    by false = h
