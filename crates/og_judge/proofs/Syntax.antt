-- Tokens are those of modules, in one way, or they have a first violation of class S, which is one.
use Rattle.std.proofs.Common.{◌≡◌, ◌∙◌, ℕ, Bool, true, false, ◌+◌, ◌<◌, ◌≤◌, ◌⊎◌, List, [], ◌∷◌, ◌++◌, length, Some, sym, ap, subst, refl, inl, inr, arith, IsTrue, length-append}
use Rattle.std.specs.Prelude.{slice_get, nat_lt}
use Rattle.std.proofs.lemmas.Bool.{ltb-true, ltb-false}
use Rattle.std.specs.List.{AllByRecursion}
use Rattle.std.proofs.lemmas.List.{append_assoc}
use Rattle.og_base.specs.declared.Place.{Place}
use Rattle.og_base.specs.declared.Rule.{Rule}
use Rattle.og_base.specs.declared.Violation.{Violation}
use Rattle.og_lexer.specs.declared.Spanned.{Spanned}
use Rattle.og_grammar.specs.declared.Symbol.{Symbol}
use Rattle.og_grammar.specs.declared.Part.{Part}
use Rattle.og_grammar.specs.Sentence.{Spells as Derived, NestsAs, whole, expected}
use Rattle.og_grammar.specs.Predictive.{is_predictive}
use Rattle.og_grammar.specs.Answers.{AreWithin, IsFirstWrong, IsFirstTooDeep, PassAt}
use Rattle.og_grammar.proofs.Standing.{some_counts}
use Rattle.og_asn1.specs.declared.grammar.TheConstants.{GRAMMAR, PARTS, LAST, LIMIT}
use Rattle.og_asn1.specs.declared.syntax.ModuleTree.{ModuleTree}
use Rattle.og_asn1.specs.Grammar.{AreModules, IsWrongAt, IsTooDeepAt, StandsAt, FirstSyntactic}
use Rattle.og_asn1.specs.Kinds.{kinds_of}
use Rattle.og_asn1.specs.Trees.{trees_of}
use Rattle.og_names.proofs.Truths.{same_value as same_some}

-- what the law of grammars says
abbrev pub OneDerivation : Type 0
OneDerivation = (table : List Symbol) (parts : List Part) (last : ℕ) → IsTrue (is_predictive table parts last) → (tokens a b : List ℕ) → Derived table last tokens a → Derived table last tokens b → a ≡ b

pub one_file : OneDerivation → (tokens : List Spanned) (a b : List ModuleTree) → AreModules a tokens → AreModules b tokens → a ≡ b
one_file law tokens a b x y =
    x.0.trees ∙ ap (λ (choices : List ℕ). trees_of choices tokens) (law GRAMMAR PARTS LAST refl (kinds_of tokens) x.0.choices y.0.choices x.0.derived y.0.derived) ∙ sym y.0.trees

-- ---- fronts of one list

-- the longer front of a list begins with the shorter one and the element behind it
splits : (a : List ℕ) (x : ℕ) (b c : List ℕ) (y : ℕ) (d : List ℕ) → a ++ x ∷ b ≡ c ++ y ∷ d → length a < length c → (middle : List ℕ) × (c ≡ a ++ x ∷ middle)
splits [] x b [] y d e less = absurd (omega arith)
splits [] x b (z ∷ c) y d e less = (c, let h : x ≡ z = cc in ap (λ u. u ∷ c) (sym h))
splits (z ∷ a) x b [] y d e less = absurd (omega arith)
splits (z ∷ a) x b (u ∷ c) y d e less =
    let rest : a ++ x ∷ b ≡ c ++ y ∷ d = cc in
    let more = splits a x b c y d rest (omega (arith, less)) in
    let h : z ≡ u = cc in
    (more.0, ap (λ w. w ∷ c) (sym h) ∙ ap (λ w. z ∷ w) more.1)

-- fronts of one length are one
same_front : (a : List ℕ) (x : ℕ) (b c : List ℕ) (y : ℕ) (d : List ℕ) → a ++ x ∷ b ≡ c ++ y ∷ d → length a ≡ length c → (a ≡ c) × (x ≡ y)
same_front [] x b [] y d e same = (refl, cc)
same_front [] x b (z ∷ c) y d e same = absurd (omega (arith, same))
same_front (z ∷ a) x b [] y d e same = absurd (omega (arith, same))
same_front (z ∷ a) x b (u ∷ c) y d e same =
    let rest : a ++ x ∷ b ≡ c ++ y ∷ d = cc in
    let more = same_front a x b c y d rest (omega (arith, same)) in
    let h : z ≡ u = cc in
    (ap (λ w. w ∷ a) h ∙ ap (λ w. u ∷ w) more.0, more.1)

-- a number among those within a limit
within_at : (limit : ℕ) (a : List ℕ) (x : ℕ) (b : List ℕ) → AreWithin limit (a ++ x ∷ b) → x ≤ limit
within_at limit [] x b all = all.0
within_at limit (y ∷ a) x b all = within_at limit a x b all.1

-- a front that is within the limit does not reach a number that passes it
hidden : {limit : ℕ} (here : ℕ) (a b c d : List ℕ) → a ++ here ∷ b ≡ c ++ d → length a < length c → AreWithin limit c → limit < here → ⊥
hidden here [] b [] d e less within passes = omega (arith, less)
hidden here [] b (z ∷ c) d e less within passes = let h : here ≡ z = cc in let w = within.0 in omega (arith, w, passes, h)
hidden here (z ∷ a) b [] d e less within passes = omega (arith, less)
hidden here (z ∷ a) b (u ∷ c) d e less within passes = let rest : a ++ here ∷ b ≡ c ++ d = cc in hidden here a b c d rest (omega (arith, less)) within.1 passes

-- nor does a front of counts that is within the limit
passed : {limit : ℕ} {front counts : List ℕ} (pass : PassAt limit front counts) (before later : List ℕ) → counts ≡ before ++ later → length front < length before → AreWithin limit before → ⊥
passed pass before later e less within = hidden pass.here pass.before pass.later before later (sym pass.parts ∙ e) (let a = pass.each in omega (arith, a, less)) within pass.passes

-- ---- over any table

module _ (table : List Symbol) (last limit : ℕ) where
  -- no sentence begins with the tokens up to one that is wrong
  wrong_first : {tokens : List ℕ} {p : ℕ} → (w : IsFirstWrong table last limit tokens p) → (front : List ℕ) (x : ℕ) (back : List ℕ) → tokens ≡ front ++ x ∷ back → p < length front
      → (more choices : List ℕ) → Derived table last (front ++ more) choices → ⊥
  wrong_first w front x back e less more choices derived =
      let apart = splits w.front w.wrong w.behind front x back (sym w.parts ∙ e) (let b = w.before in omega (arith, less, b)) in
      let same : front ++ more ≡ w.front ++ w.wrong ∷ (apart.0 ++ more) = ap (λ (f : List ℕ). f ++ more) apart.1 ∙ append_assoc w.front (w.wrong ∷ apart.0) more in
      w.none (apart.0 ++ more) choices (subst (λ (ts : List ℕ). Derived table last ts choices) same derived)

  -- counts up to a place past a first that is too deep pass the limit
  deep_first : {tokens : List ℕ} {p : ℕ} → (w : IsFirstTooDeep table last limit tokens p) → (front : List ℕ) (x : ℕ) (back : List ℕ) → tokens ≡ front ++ x ∷ back → p < length front
      → (more choices counts before later : List ℕ) → Derived table last (front ++ more) choices → NestsAs table last choices counts → counts ≡ before ++ later → length before ≡ length front → AreWithin limit before → ⊥
  deep_first w front x back e less more choices counts before later derived nests parts len within =
      let apart = splits w.front w.deep w.behind front x back (sym w.parts ∙ e) (let b = w.before in omega (arith, less, b)) in
      let same : front ++ more ≡ w.front ++ w.deep ∷ (apart.0 ++ more) = ap (λ (f : List ℕ). f ++ more) apart.1 ∙ append_assoc w.front (w.deep ∷ apart.0) more in
      let pass = w.each (apart.0 ++ more) choices counts (subst (λ (ts : List ℕ). Derived table last ts choices) same derived) nests in
      passed pass before later parts (let b = w.before in omega (arith, less, b, len)) within

  -- the first wrong token is one
  one_wrong : {tokens : List ℕ} {p q : ℕ} → IsFirstWrong table last limit tokens p → IsFirstWrong table last limit tokens q → p < q → ⊥
  one_wrong x y less =
      wrong_first x y.front y.wrong y.behind y.parts (let b = y.before in omega (arith, less, b)) y.begins.more y.begins.choices y.begins.spells

  wrong_before_deep : {tokens : List ℕ} {p q : ℕ} → IsFirstWrong table last limit tokens p → IsFirstTooDeep table last limit tokens q → p < q → ⊥
  wrong_before_deep x y less =
      wrong_first x y.front y.deep y.behind y.parts (let b = y.before in omega (arith, less, b)) (y.deep ∷ y.more) y.choices y.spells

  wrong_is_not_deep : {tokens : List ℕ} {p : ℕ} → IsFirstWrong table last limit tokens p → IsFirstTooDeep table last limit tokens p → ⊥
  wrong_is_not_deep x y =
      let same = same_front y.front y.deep y.behind x.front x.wrong x.behind (sym y.parts ∙ x.parts) (let a = x.before in let b = y.before in omega (arith, a, b)) in
      let P : List ℕ → Type 0 = λ f. Derived table last (f ++ y.deep ∷ y.more) y.choices in
      let Q : ℕ → Type 0 = λ k. Derived table last (x.front ++ k ∷ y.more) y.choices in
      x.none y.more y.choices (subst Q same.1 (subst P same.0 y.spells))

  deep_before_wrong : {tokens : List ℕ} {p q : ℕ} → IsFirstTooDeep table last limit tokens p → IsFirstWrong table last limit tokens q → p < q → ⊥
  deep_before_wrong x y less =
      let b = y.begins in
      deep_first x y.front y.wrong y.behind y.parts (let at = y.before in omega (arith, less, at)) b.more b.choices (b.counts ++ b.later) b.counts b.later b.spells b.nests refl b.each b.within

  one_deep : {tokens : List ℕ} {p q : ℕ} → IsFirstTooDeep table last limit tokens p → IsFirstTooDeep table last limit tokens q → p < q → ⊥
  one_deep x y less =
      let counts = some_counts y.spells 0 (expected (whole last) []) refl in
      let pass = y.each y.more y.choices counts.0 y.spells counts.1 in
      deep_first x y.front y.deep y.behind y.parts (let at = y.before in omega (arith, less, at)) (y.deep ∷ y.more) y.choices counts.0 pass.before (pass.here ∷ pass.later) y.spells counts.1 pass.parts pass.each pass.within

  -- where a sentence stands none of its tokens is wrong
  none_wrong : {tokens : List ℕ} {p : ℕ} (choices : List ℕ) → Derived table last tokens choices → IsFirstWrong table last limit tokens p → ⊥
  none_wrong choices derived x = x.none x.behind choices (subst (λ (ts : List ℕ). Derived table last ts choices) x.parts derived)

  none_deep : {tokens : List ℕ} {p : ℕ} (choices counts : List ℕ) → Derived table last tokens choices → NestsAs table last choices counts → AreWithin limit counts → IsFirstTooDeep table last limit tokens p → ⊥
  none_deep choices counts derived nests within x =
      let pass = x.each x.behind choices counts (subst (λ (ts : List ℕ). Derived table last ts choices) x.parts derived) nests in
      let most = within_at limit pass.before pass.here pass.later (subst (AreWithin limit) pass.parts within) in
      let more = pass.passes in
      omega (arith, most, more)

-- ---- one violation

by_order : (p q : ℕ) → (p < q → ⊥) → (q < p → ⊥) → p ≡ q
by_order p q a b = by (nat_lt p q) refl (nat_lt q p) refl
  where
    by : (less : Bool) → nat_lt p q ≡ less → (more : Bool) → nat_lt q p ≡ more → p ≡ q
    by true e more f = absurd (a (ltb-true p q e))
    by false e true f = absurd (b (ltb-true q p f))
    by false e false f = let x = ltb-false p q e in let y = ltb-false q p f in omega (arith, x, y)

same_violation : (v w : Violation) → v.rule ≡ w.rule → v.place ≡ w.place → v ≡ w
same_violation v w rule place =
    let by_rule : Rule → Violation = λ r. record { rule = r; place = v.place } in
    let by_place : Place → Violation = λ p. record { rule = w.rule; place = p } in
    ap by_rule rule ∙ ap by_place place

same_place : (tokens : List Spanned) (p q : ℕ) (v w : Violation) → p ≡ q → StandsAt tokens p v → StandsAt tokens q w → v.place ≡ w.place
same_place tokens p q v w e x y =
    let found : Some x.0 ≡ Some y.0 = sym x.1 ∙ ap (λ n. slice_get tokens n) e ∙ y.1 in
    x.2 ∙ ap (λ (t : Spanned). t.place) (same_some x.0 y.0 found) ∙ sym y.2

wrong_and_deep : (tokens : List Spanned) (v w : Violation) → IsWrongAt tokens v → IsTooDeepAt tokens w → ⊥
wrong_and_deep tokens v w x y =
    let same = by_order x.number y.number (wrong_before_deep GRAMMAR LAST LIMIT x.first y.first) (deep_before_wrong GRAMMAR LAST LIMIT y.first x.first) in
    let P : ℕ → Type 0 = λ n. IsFirstTooDeep GRAMMAR LAST LIMIT (kinds_of tokens) n in
    wrong_is_not_deep GRAMMAR LAST LIMIT x.first (subst P (sym same) y.first)

pub one_syntactic : (tokens : List Spanned) (v w : Violation) → FirstSyntactic tokens v → FirstSyntactic tokens w → v ≡ w
one_syntactic tokens v w (inl x) (inl y) =
    let same = by_order x.number y.number (one_wrong GRAMMAR LAST LIMIT x.first y.first) (one_wrong GRAMMAR LAST LIMIT y.first x.first) in
    same_violation v w (x.rule ∙ sym y.rule) (same_place tokens x.number y.number v w same x.place y.place)
one_syntactic tokens v w (inl x) (inr y) = absurd (wrong_and_deep tokens v w x y)
one_syntactic tokens v w (inr x) (inl y) = absurd (wrong_and_deep tokens w v y x)
one_syntactic tokens v w (inr x) (inr y) =
    let same = by_order x.number y.number (one_deep GRAMMAR LAST LIMIT x.first y.first) (one_deep GRAMMAR LAST LIMIT y.first x.first) in
    same_violation v w (x.rule ∙ sym y.rule) (same_place tokens x.number y.number v w same x.place y.place)

pub syntax_apart : (tokens : List Spanned) (modules : List ModuleTree) (v : Violation) → AreModules modules tokens → FirstSyntactic tokens v → ⊥
syntax_apart tokens modules v are (inl x) = none_wrong GRAMMAR LAST LIMIT are.0.choices are.0.derived x.first
syntax_apart tokens modules v are (inr x) = none_deep GRAMMAR LAST LIMIT are.1.choices are.1.counts are.1.derived are.1.nests are.1.within x.first
