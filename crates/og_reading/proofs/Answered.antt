-- The tokens of a file have a derivation that nests within the limit, or a first token that is wrong or nests too deep, and one of
-- these alone.
use Rattle.std.proofs.Common.{◌≡◌, ℕ, zero, suc, ◌+◌, ◌<◌, ◌≤◌, Bool, true, false, List, [], ◌∷◌, ◌++◌, length, ◌⊎◌, Some, slice_get, nat_lt, nat_le, inl, inr, refl, sym, ap, subst, ◌∙◌, append_assoc, arith, IsTrue}
use Rattle.std.proofs.lemmas.List.{append-nil}
use Rattle.std.proofs.lemmas.Bool.Decides.{nat_tests}
use Rattle.og_base.specs.declared.Place.{Place}
use Rattle.og_base.specs.declared.Rule.{Rule}
use Rattle.og_base.specs.declared.Rule.TheVariants.{S1, S2}
use Rattle.og_base.specs.declared.Violation.{Violation}
use Rattle.og_lexer.specs.declared.Spanned.{Spanned}
use Rattle.og_lexer.specs.Texts.{EndsOnce}
use Rattle.og_grammar.specs.declared.Nesting.{Nesting}
use Rattle.og_grammar.specs.declared.Nesting.TheVariants.{Keeps}
use Rattle.og_grammar.specs.declared.Symbol.{Symbol}
use Rattle.og_grammar.specs.declared.Symbol.TheVariants.{Token}
use Rattle.og_grammar.specs.declared.Due.{Due}
use Rattle.og_grammar.specs.declared.Due.TheVariants.{Expect}
use Rattle.og_grammar.specs.declared.Part.{Part}
use Rattle.og_grammar.specs.declared.run.Step.{Step}
use Rattle.og_grammar.specs.declared.run.Step.TheVariants as step
use Rattle.og_grammar.specs.Sentence.{Derives, Spells, whole, expected, nested}
use Rattle.og_grammar.specs.Answers.{AreWithin, BeginSome, PassAt, IsDerivation, IsFirstWrong, IsFirstTooDeep, IsCutOff}
use Rattle.og_grammar.specs.Predictive.{is_predictive}
use Rattle.og_grammar.specs.Steps.{Stepped, stepped}
use Rattle.og_grammar.specs.Standing.{symbols_due, IsBottomed, Advances, IsReady, Stands}
use Rattle.og_grammar.proofs.Choices.{IsSound, rows}
use Rattle.og_grammar.proofs.Advances.{weight_due, stays, goes_on}
use Rattle.og_grammar.proofs.Known.{some_is}
use Rattle.og_grammar.proofs.Leading.{head_is, tail_is}
use Rattle.og_grammar.proofs.Telling.{Tells, tells}
use Rattle.og_grammar.proofs.Sound.{sound_of}
use Rattle.og_grammar.proofs.Standing.{some_counts, stands_met, answers_wrong, answers_deep, answers_cut, answers_found}
use Rattle.og_grammar.proofs.Reaching.{first_stands}
use Rattle.og_reading.specs.declared.kind.TheConstants.{LAST}
use Rattle.og_reading.specs.declared.sentence.TheConstants.{LIMIT}
use Rattle.og_reading.specs.Kinds.{kinds_of}
use Rattle.og_reading.specs.Sentences.{lacks, StandsAt, IsWrongAt, IsTooDeepAt, FirstSyntactic}
use Rattle.og_reading.proofs.Cutting.{not_cut}

-- ---- one place alone

-- of two fronts of one list the shorter begins the other
front_begins : (front long : List ℕ) (x y : ℕ) (xs ys : List ℕ) → front ++ x ∷ xs ≡ long ++ y ∷ ys → length front < length long → (mid : List ℕ) × (long ≡ front ++ x ∷ mid)
front_begins front [] x y xs ys e lt = absurd (omega arith)
front_begins [] (b ∷ long) x y xs ys e lt = (long, ap (λ (h : ℕ). h ∷ long) (sym (head_is e)))
front_begins (a ∷ front) (b ∷ long) x y xs ys e lt =
    let i = front_begins front long x y xs ys (tail_is e) (omega arith) in
    (i.0, ap (λ (h : ℕ). h ∷ long) (sym (head_is e)) ∙ ap (λ (z : List ℕ). a ∷ z) i.1)

-- and two of one length are one
same_front : (front long : List ℕ) (x y : ℕ) (xs ys : List ℕ) → front ++ x ∷ xs ≡ long ++ y ∷ ys → length front ≡ length long → (front ≡ long) × (x ≡ y)
same_front [] [] x y xs ys e l = (refl, head_is e)
same_front [] (b ∷ long) x y xs ys e l = absurd (omega arith)
same_front (a ∷ front) [] x y xs ys e l = absurd (omega arith)
same_front (a ∷ front) (b ∷ long) x y xs ys e l =
    let i = same_front front long x y xs ys (tail_is e) (omega arith) in
    (ap (λ (h : ℕ). h ∷ front) (head_is e) ∙ ap (λ (z : List ℕ). b ∷ z) i.0, i.1)

-- what stands before the end of these counts is one of them
low_before : (limit : ℕ) (counts later before : List ℕ) (here : ℕ) (behind : List ℕ) → counts ++ later ≡ before ++ here ∷ behind → length before < length counts → AreWithin limit counts → here ≤ limit
low_before limit [] later before here behind e lt all = absurd (omega arith)
low_before limit (c ∷ counts) later [] here behind e lt all = subst (λ (n : ℕ). n ≤ limit) (head_is e) all.0
low_before limit (c ∷ counts) later (b ∷ before) here behind e lt all = low_before limit counts later before here behind (tail_is e) (omega arith) all.1

module _ (table : List Symbol) (last limit : ℕ) (tokens : List ℕ) where
  -- sentences begin with what stands before a place, beyond another one
  begins_beyond : (front : List ℕ) (x : ℕ) (mid more choices : List ℕ) {long : List ℕ} → long ≡ front ++ x ∷ mid → Spells table last (long ++ more) choices → Spells table last (front ++ x ∷ (mid ++ more)) choices
  begins_beyond front x mid more choices e d =
      subst (λ (z : List ℕ). Spells table last z choices) (append_assoc front (x ∷ mid) more) (subst (λ (z : List ℕ). Spells table last (z ++ more) choices) e d)

  not_wrong_before : (p q : ℕ) → IsFirstWrong table last limit tokens p → (front : List ℕ) (y : ℕ) (behind : List ℕ) → tokens ≡ front ++ y ∷ behind → length front ≡ q → p < q
      → (more choices : List ℕ) → Spells table last (front ++ more) choices → ⊥
  not_wrong_before p q w front y behind e l lt more choices d =
      let same : length w.front ≡ p = w.before in
      let i = front_begins w.front front w.wrong y w.behind behind (sym w.parts ∙ e) (omega arith) in
      w.none (i.0 ++ more) choices (begins_beyond w.front w.wrong i.0 more choices i.1 d)

  two_wrong : (p q : ℕ) → IsFirstWrong table last limit tokens p → IsFirstWrong table last limit tokens q → p < q → ⊥
  two_wrong p q w v lt = not_wrong_before p q w v.front v.wrong v.behind v.parts v.before lt v.begins.more v.begins.choices v.begins.spells

  wrong_before_deep : (p q : ℕ) → IsFirstWrong table last limit tokens p → IsFirstTooDeep table last limit tokens q → p < q → ⊥
  wrong_before_deep p q w v lt = not_wrong_before p q w v.front v.deep v.behind v.parts v.before lt (v.deep ∷ v.more) v.choices v.spells

  wrong_at_deep : (p q : ℕ) → IsFirstWrong table last limit tokens p → IsFirstTooDeep table last limit tokens q → p ≡ q → ⊥
  wrong_at_deep p q w v e =
      let l : length w.front ≡ length v.front = w.before ∙ e ∙ sym v.before in
      let i = same_front w.front v.front w.wrong v.deep w.behind v.behind (sym w.parts ∙ v.parts) l in
      w.none v.more v.choices (subst (λ (z : List ℕ). Spells table last (z ++ w.wrong ∷ v.more) v.choices) (sym i.0) (subst (λ (n : ℕ). Spells table last (v.front ++ n ∷ v.more) v.choices) (sym i.1) v.spells))

  -- no sentence that nests within the limit begins with more than what nests too deep
  not_deep_before : (q p : ℕ) → IsFirstTooDeep table last limit tokens q → (front : List ℕ) (y : ℕ) (behind : List ℕ) → tokens ≡ front ++ y ∷ behind → length front ≡ p → q < p → BeginSome table last limit front → ⊥
  not_deep_before q p v front y behind e l lt b =
      let same : length v.front ≡ q = v.before in
      let i = front_begins v.front front v.deep y v.behind behind (sym v.parts ∙ e) (omega arith) in
      let pass = v.each (i.0 ++ b.more) b.choices (b.counts ++ b.later) (begins_beyond v.front v.deep i.0 b.more b.choices i.1 b.spells) b.nests in
      let before : length pass.before ≡ length v.front = pass.each in
      let long : length b.counts ≡ length front = b.each in
      let le = low_before limit b.counts b.later pass.before pass.here pass.later pass.parts (omega arith) b.within in
      let passes = pass.passes in
      absurd (omega arith)

  two_deep : (p q : ℕ) → IsFirstTooDeep table last limit tokens p → IsFirstTooDeep table last limit tokens q → p < q → ⊥
  two_deep p q v w lt =
      let same : length v.front ≡ p = v.before in
      let other : length w.front ≡ q = w.before in
      let i = front_begins v.front w.front v.deep w.deep v.behind w.behind (sym v.parts ∙ w.parts) (omega arith) in
      let counts = some_counts w.spells 0 (expected (whole last) []) refl in
      let first = v.each (i.0 ++ w.deep ∷ w.more) w.choices counts.0 (begins_beyond v.front v.deep i.0 (w.deep ∷ w.more) w.choices i.1 w.spells) counts.1 in
      let second = w.each w.more w.choices counts.0 w.spells counts.1 in
      let one : length first.before ≡ length v.front = first.each in
      let two : length second.before ≡ length w.front = second.each in
      let le = low_before limit second.before (second.here ∷ second.later) first.before first.here first.later (sym second.parts ∙ first.parts) (omega arith) second.within in
      let passes = first.passes in
      absurd (omega arith)

  pub one_wrong : (p q : ℕ) → IsFirstWrong table last limit tokens p → IsFirstWrong table last limit tokens q → p ≡ q
  one_wrong p q w v = by (nat_lt p q) refl (nat_lt q p) refl
    where
      by : (a : Bool) → nat_lt p q ≡ a → (b : Bool) → nat_lt q p ≡ b → p ≡ q
      by true e b f = absurd (two_wrong p q w v (grind (arith, nat_tests)))
      by false e true f = absurd (two_wrong q p v w (grind (arith, nat_tests)))
      by false e false f = grind (arith, nat_tests)

  pub one_deep : (p q : ℕ) → IsFirstTooDeep table last limit tokens p → IsFirstTooDeep table last limit tokens q → p ≡ q
  one_deep p q w v = by (nat_lt p q) refl (nat_lt q p) refl
    where
      by : (a : Bool) → nat_lt p q ≡ a → (b : Bool) → nat_lt q p ≡ b → p ≡ q
      by true e b f = absurd (two_deep p q w v (grind (arith, nat_tests)))
      by false e true f = absurd (two_deep q p v w (grind (arith, nat_tests)))
      by false e false f = grind (arith, nat_tests)

  pub wrong_or_deep : (p q : ℕ) → IsFirstWrong table last limit tokens p → IsFirstTooDeep table last limit tokens q → ⊥
  wrong_or_deep p q w v = by (nat_lt p q) refl (nat_lt q p) refl
    where
      by : (a : Bool) → nat_lt p q ≡ a → (b : Bool) → nat_lt q p ≡ b → ⊥
      by true e b f = wrong_before_deep p q w v (grind (arith, nat_tests))
      by false e true f = not_deep_before q p v w.front w.wrong w.behind w.parts w.before (grind (arith, nat_tests)) w.begins
      by false e false f = wrong_at_deep p q w v (grind (arith, nat_tests))

-- ---- one answer at least

-- after some steps a token of kind k is due, or no derivation has it here
data Meets (table : List Symbol) (parts : List Part) (last k : ℕ) (due : List Due) (count : ℕ) : Type 0 where
  meets_token : (nesting : Nesting) (new : List Due) (new_count : ℕ) (made : List ℕ) → Advances table parts last k due count (Expect (Token k nesting) ∷ new) new_count made → Meets table parts last k due count
  meets_none : ((ts cs : List ℕ) → Derives table (symbols_due due) (k ∷ ts) cs → ⊥) → Meets table parts last k due count

-- what a reader may answer
data Answer (table : List Symbol) (last limit : ℕ) (tokens : List ℕ) : Type 0 where
  derived : (choices : List ℕ) → IsDerivation table last limit tokens choices → Answer table last limit tokens
  wrong : (place : ℕ) → IsFirstWrong table last limit tokens place → Answer table last limit tokens
  deep : (place : ℕ) → IsFirstTooDeep table last limit tokens place → Answer table last limit tokens
  cut : IsCutOff table last limit tokens → Answer table last limit tokens

module _ (table : List Symbol) (parts : List Part) (last : ℕ) (sound : IsSound table parts last) (limit : ℕ) where
  meets_behind : (k : ℕ) (due mid : List Due) (count mid_count : ℕ) (first : List ℕ) → Advances table parts last k due count mid mid_count first → Meets table parts last k mid mid_count → Meets table parts last k due count
  meets_behind k due mid count mid_count first a (meets_token nesting new new_count made b) =
      meets_token nesting new new_count (first ++ made) (goes_on table parts last k due mid (Expect (Token k nesting) ∷ new) count mid_count new_count first made a b)
  meets_behind k due mid count mid_count first a (meets_none none) =
      meets_none (λ ts cs d. let b = a.back ts cs d in none ts b.0 b.2)

  stays_at : (k : ℕ) (d : Due) (due new : List Due) (count : ℕ) → IsReady table parts (symbols_due due) → IsBottomed last due → due ≡ d ∷ new → Advances table parts last k due count (d ∷ new) count []
  stays_at k d due new count ready bottom e =
      subst (λ (x : List Due). Advances table parts last k due count x count []) e (stays table parts last k due count ready.line ready.goes bottom)

  meets_by : (k fuel : ℕ) (due : List Due) (count : ℕ) (to : Stepped) (by : Step) → Tells table parts last k count due to by → weight_due parts due < suc fuel → IsReady table parts (symbols_due due) → IsBottomed last due
      → ((new : List Due) (new_count : ℕ) → weight_due parts new < fuel → IsReady table parts (symbols_due new) → IsBottomed last new → Meets table parts last k new new_count) → Meets table parts last k due count
  meets_by k fuel due count to step.On t lt ready bottom go =
      let lighter : weight_due parts to.due < weight_due parts due = t.1 in
      meets_behind k due to.due count to.count to.choices t.0 (go to.due to.count (omega arith) (record { line = t.0.line; goes = t.0.goes }) t.0.bottom)
  meets_by k fuel due count to (step.Met nesting) t lt ready bottom go = meets_token nesting to.due count [] (stays_at k (Expect (Token k nesting)) due to.due count ready bottom t.0)
  meets_by k fuel due count to step.Wrong t lt ready bottom go = meets_none t

  meets : (k fuel : ℕ) (due : List Due) (count : ℕ) → weight_due parts due < fuel → IsReady table parts (symbols_due due) → IsBottomed last due → Meets table parts last k due count
  meets k zero due count lt ready bottom = absurd (omega arith)
  meets k (suc fuel) due count lt ready bottom =
      meets_by k fuel due count (stepped (rows table parts) parts k count due) (stepped (rows table parts) parts k count due).step (tells table parts last sound k count due ready bottom) lt ready bottom
      (λ new new_count below ready' bottom'. meets k fuel new new_count below ready' bottom')

  at_end : (front : List ℕ) (due : List Due) (count : ℕ) (choices : List ℕ) → Stands table parts last limit front due count choices → IsBottomed last due → Answer table last limit front
  at_end front due count choices s (inl e) = derived choices (answers_found table parts last limit front due count choices s e).0
  at_end front due count choices s (inr b) = cut (answers_cut table parts last limit front due count choices s (λ e. some b.0 (sym b.1 ∙ e)))
    where
      some : (f : List Due) → f ++ Expect (Token last Keeps) ∷ [] ≡ [] → ⊥
      some [] e = cc
      some (x ∷ f) e = cc

  at_token : (k : ℕ) (front ts : List ℕ) (due : List Due) (count : ℕ) (choices : List ℕ) → Stands table parts last limit front due count choices → Meets table parts last k due count
      → ((new : List Due) (new_count : ℕ) (made : List ℕ) → Stands table parts last limit (front ++ k ∷ []) new new_count made → Answer table last limit ((front ++ k ∷ []) ++ ts)) → Answer table last limit (front ++ k ∷ ts)
  at_token k front ts due count choices s (meets_none none) go = wrong (length front) (answers_wrong table parts last limit k front ts due count choices s none)
  at_token k front ts due count choices s (meets_token nesting new new_count made a) go = by (nat_le (nested nesting new_count) limit) refl
    where
      by : (b : Bool) → nat_le (nested nesting new_count) limit ≡ b → Answer table last limit (front ++ k ∷ ts)
      by true e =
          subst (Answer table last limit) (append_assoc front (k ∷ []) ts)
          (go new (nested nesting new_count) (choices ++ made) (stands_met table parts last limit k nesting front due new count new_count choices made s a (grind (arith, nat_tests))))
      by false e = deep (length front) (answers_deep table parts last limit k nesting front ts due new count new_count choices made s a (grind (arith, nat_tests)))

  answered : (ts front : List ℕ) (due : List Due) (count : ℕ) (choices : List ℕ) → Stands table parts last limit front due count choices → Answer table last limit (front ++ ts)
  answered [] front due count choices s = subst (Answer table last limit) (sym (append-nil front)) (at_end front due count choices s s.bottom)
  answered (k ∷ ts) front due count choices s =
      at_token k front ts due count choices s (meets k (suc (weight_due parts due)) due count (omega arith) s.ready s.bottom) (λ new new_count made t. answered ts (front ++ k ∷ []) new new_count made t)

answer_of : (table : List Symbol) (parts : List Part) (last limit : ℕ) → IsTrue (is_predictive table parts last) → (tokens : List ℕ) → Answer table last limit tokens
answer_of table parts last limit known tokens = answered table parts last (sound_of table parts last known) limit tokens [] (expected (whole last) []) 0 [] (first_stands table parts last limit known)

-- ---- of tokens

-- the token at the place of a kind
token_at : (tokens : List Spanned) (front : List ℕ) (k : ℕ) (behind : List ℕ) → kinds_of tokens ≡ front ++ k ∷ behind → (t : Spanned) × (slice_get tokens (length front) ≡ Some t)
token_at [] [] k behind e = absurd (let no : ⊥ = cc in no)
token_at [] (f ∷ front) k behind e = absurd (let no : ⊥ = cc in no)
token_at (t ∷ ts) [] k behind e = (t, refl)
token_at (t ∷ ts) (f ∷ front) k behind e = token_at ts front k behind (tail_is e)

violation_of : (tokens : List Spanned) (rule : Rule) (number : ℕ) (front : List ℕ) (k : ℕ) (behind : List ℕ) → kinds_of tokens ≡ front ++ k ∷ behind → length front ≡ number
    → (v : Violation) × (v.rule ≡ rule) × StandsAt tokens number v
violation_of tokens rule number front k behind e l =
    let t = token_at tokens front k behind e in
    (record { rule = rule; place = t.0.place }, refl, (t.0, ap (λ (n : ℕ). slice_get tokens n) (sym l) ∙ t.1, refl))

-- a derivation within the limit, or a violation
pub answers : (table : List Symbol) (parts : List Part) → IsTrue (is_predictive table parts LAST) → lacks LAST table ≡ true → (tokens : List Spanned) → EndsOnce tokens
    → ((choices : List ℕ) × IsDerivation table LAST LIMIT (kinds_of tokens) choices) ⊎ ((v : Violation) × FirstSyntactic table tokens v)
answers table parts known apart tokens ends = by (answer_of table parts LAST LIMIT known (kinds_of tokens))
  where
    by : Answer table LAST LIMIT (kinds_of tokens) → ((choices : List ℕ) × IsDerivation table LAST LIMIT (kinds_of tokens) choices) ⊎ ((v : Violation) × FirstSyntactic table tokens v)
    by (derived choices d) = inl (choices, d)
    by (wrong place w) =
        let v = violation_of tokens S1 place w.front w.wrong w.behind w.parts w.before in
        inr (v.0, inl (record { number = place; first = w; rule = v.1; place = v.2 }))
    by (deep place w) =
        let v = violation_of tokens S2 place w.front w.deep w.behind w.parts w.before in
        inr (v.0, inr (record { number = place; first = w; rule = v.1; place = v.2 }))
    by (cut c) = absurd (not_cut table tokens apart ends c)

same_token : (tokens : List Spanned) (m n : ℕ) (s t : Spanned) → m ≡ n → slice_get tokens m ≡ Some s → slice_get tokens n ≡ Some t → s ≡ t
same_token tokens m n s t e f g = some_is s t (sym f ∙ ap (λ (k : ℕ). slice_get tokens k) e ∙ g)

same_violation : (tokens : List Spanned) (m n : ℕ) (v w : Violation) → m ≡ n → v.rule ≡ w.rule → StandsAt tokens m v → StandsAt tokens n w → v ≡ w
same_violation tokens m n v w e rule s t =
    let place : v.place ≡ w.place = s.2 ∙ ap (λ (x : Spanned). x.place) (same_token tokens m n s.0 t.0 e s.1 t.1) ∙ sym t.2 in
    ap (λ (r : Rule). record { rule = r; place = v.place }) rule ∙ ap (λ (p : Place). record { rule = w.rule; place = p }) place

-- and one violation alone
pub one_violation : (table : List Symbol) (tokens : List Spanned) (v w : Violation) → FirstSyntactic table tokens v → FirstSyntactic table tokens w → v ≡ w
one_violation table tokens v w (inl a) (inl b) =
    same_violation tokens a.number b.number v w (one_wrong table LAST LIMIT (kinds_of tokens) a.number b.number a.first b.first) (a.rule ∙ sym b.rule) a.place b.place
one_violation table tokens v w (inr a) (inr b) =
    same_violation tokens a.number b.number v w (one_deep table LAST LIMIT (kinds_of tokens) a.number b.number a.first b.first) (a.rule ∙ sym b.rule) a.place b.place
one_violation table tokens v w (inl a) (inr b) = absurd (wrong_or_deep table LAST LIMIT (kinds_of tokens) a.number b.number a.first b.first)
one_violation table tokens v w (inr a) (inl b) = absurd (wrong_or_deep table LAST LIMIT (kinds_of tokens) b.number a.number b.first a.first)
