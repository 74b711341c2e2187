-- Any tokens that end once are those of modules, or have a first violation of class S, and one of these alone: before each token there
-- are steps, as often as what is due gets lighter, until it is met within the limit, nests too deep or is wrong, and behind the last one
-- nothing is due.
use Rattle.std.proofs.Common.{◌≡◌, ◌∙◌, ℕ, zero, suc, ◌+◌, ◌<◌, ◌⊎◌, Bool, true, false, List, [], ◌∷◌, ◌++◌, length, Some, inl, inr, refl, sym, ap, subst, arith, IsTrue, length-append}
use Rattle.std.specs.Prelude.{slice_get, nat_lt}
use Rattle.std.proofs.lemmas.Bool.{ltb-true, ltb-false}
use Rattle.std.proofs.lemmas.List.{append_assoc, append-nil, length-map}
use Rattle.og_base.specs.declared.Place.{Place}
use Rattle.og_base.specs.declared.Rule.{Rule}
use Rattle.og_base.specs.declared.Rule.TheVariants.{S1, S2}
use Rattle.og_base.specs.declared.Violation.{Violation}
use Rattle.og_lexer.specs.declared.Spanned.{Spanned}
use Rattle.og_lexer.specs.Texts.{EndsOnce}
use Rattle.og_grammar.specs.declared.Symbol.{Symbol}
use Rattle.og_grammar.specs.declared.Symbol.TheVariants.{Token}
use Rattle.og_grammar.specs.declared.Nesting.{Nesting}
use Rattle.og_grammar.specs.declared.Due.{Due}
use Rattle.og_grammar.specs.declared.Due.TheVariants.{Expect}
use Rattle.og_grammar.specs.declared.Part.{Part}
use Rattle.og_grammar.specs.declared.run.Step.{Step}
use Rattle.og_grammar.specs.declared.run.Step.TheVariants as step
use Rattle.og_grammar.specs.Sentence.{Derives, Spells as Derived, nested, whole, expected}
use Rattle.og_grammar.specs.Predictive.{is_predictive}
use Rattle.og_grammar.specs.Steps.{Stepped, stepped}
use Rattle.og_grammar.specs.Standing.{Stands}
use Rattle.og_grammar.specs.Answers.{IsDerivation, IsFirstWrong, IsFirstTooDeep, IsCutOff}
use Rattle.og_grammar.proofs.Choices.{IsSound, rows}
use Rattle.og_grammar.proofs.Advances.{symbols_due, IsBottomed, weight_due, Advances, stays, goes_on}
use Rattle.og_grammar.proofs.Entering.{IsReady}
use Rattle.og_grammar.proofs.Telling.{Tells, tells}
use Rattle.og_grammar.proofs.Sound.{sound_of}
use Rattle.og_grammar.proofs.Standing.{stands_met, answers_wrong, answers_deep, answers_cut, answers_found}
use Rattle.og_grammar.proofs.Reaching.{first_stands}
use Rattle.og_reading.proofs.Answered.{one_wrong, one_deep, wrong_or_deep}
use Rattle.og_asn1.specs.declared.grammar.TheConstants.{GRAMMAR, PARTS, LAST, LIMIT}
use Rattle.og_asn1.specs.declared.syntax.ModuleTree.{ModuleTree}
use Rattle.og_asn1.specs.Grammar.{AreModules, StandsAt, FirstSyntactic}
use Rattle.og_asn1.specs.Kinds.{kind_of, kinds_of}
use Rattle.og_asn1.specs.Trees.{trees_of}
use Rattle.og_asn1.proofs.Parsing.{not_cut, wrong_none, deep_none}
use Rattle.og_names.proofs.Truths.{same_value as same_some}

-- after some steps a token of kind k is due, or no derivation has it here
data Meets (table : List Symbol) (parts : List Part) (last k : ℕ) (due : List Due) (count : ℕ) : Type 0 where
  meets_token : (nesting : Nesting) (new : List Due) (new_count : ℕ) (made : List ℕ) → Advances table parts last k due count (Expect (Token k nesting) ∷ new) new_count made → Meets table parts last k due count
  meets_none : ((ts cs : List ℕ) → Derives table (symbols_due due) (k ∷ ts) cs → ⊥) → Meets table parts last k due count

-- what a reader says of the tokens
data Told (table : List Symbol) (last limit : ℕ) (tokens : List ℕ) : Type 0 where
  is_told : (choices : List ℕ) → IsDerivation table last limit tokens choices → Told table last limit tokens
  wrong_told : (place : ℕ) → IsFirstWrong table last limit tokens place → Told table last limit tokens
  deep_told : (place : ℕ) → IsFirstTooDeep table last limit tokens place → Told table last limit tokens
  cut_told : IsCutOff table last limit tokens → Told table last limit tokens

module _ (table : List Symbol) (parts : List Part) (last limit : ℕ) (sound : IsSound table parts last) where
  meets_behind : (k : ℕ) (due mid : List Due) (count mid_count : ℕ) (first : List ℕ) → Advances table parts last k due count mid mid_count first → Meets table parts last k mid mid_count → Meets table parts last k due count
  meets_behind k due mid count mid_count first a (meets_token nesting new new_count made b) =
      meets_token nesting new new_count (first ++ made) (goes_on table parts last k due mid (Expect (Token k nesting) ∷ new) count mid_count new_count first made a b)
  meets_behind k due mid count mid_count first a (meets_none none) = meets_none (λ ts cs d. let b = a.back ts cs d in none ts b.0 b.2)

  stays_at : (k : ℕ) (d : Due) (due new : List Due) (count : ℕ) → IsReady table parts (symbols_due due) → IsBottomed last due → due ≡ d ∷ new → Advances table parts last k due count (d ∷ new) count []
  stays_at k d due new count ready bottom e =
      subst (λ (x : List Due). Advances table parts last k due count x count []) e (stays table parts last k due count ready.line ready.goes bottom)

  meets_by : (k fuel : ℕ) (due : List Due) (count : ℕ) (to : Stepped) (by : Step) → Tells table parts last k count due to by → weight_due parts due < suc fuel → IsReady table parts (symbols_due due) → IsBottomed last due
      → ((new : List Due) (new_count : ℕ) → weight_due parts new < fuel → IsReady table parts (symbols_due new) → IsBottomed last new → Meets table parts last k new new_count) → Meets table parts last k due count
  meets_by k fuel due count to step.On t lt ready bottom go =
      let lighter : weight_due parts to.due < weight_due parts due = t.1 in
      meets_behind k due to.due count to.count to.choices t.0 (go to.due to.count (omega arith) (record { line = t.0.line; goes = t.0.goes }) t.0.bottom)
  meets_by k fuel due count to (step.Met nesting) t lt ready bottom go = meets_token nesting to.due count [] (stays_at k (Expect (Token k nesting)) due to.due count ready bottom t.0)
  meets_by k fuel due count to step.Wrong t lt ready bottom go = meets_none t

  meets : (k fuel : ℕ) (due : List Due) (count : ℕ) → weight_due parts due < fuel → IsReady table parts (symbols_due due) → IsBottomed last due → Meets table parts last k due count
  meets k zero due count lt ready bottom = absurd (omega arith)
  meets k (suc fuel) due count lt ready bottom =
      meets_by k fuel due count (stepped (rows table parts) parts k count due) (stepped (rows table parts) parts k count due).step (tells table parts last sound k count due ready bottom) lt ready bottom
      (λ new new_count below ready' bottom'. meets k fuel new new_count below ready' bottom')

  at_end : (front : List ℕ) (due : List Due) (count : ℕ) (choices : List ℕ) → Stands table parts last limit front due count choices → Told table last limit front
  at_end front [] count choices s = is_told choices (answers_found table parts last limit front [] count choices s refl).0
  at_end front (d ∷ due) count choices s = cut_told (answers_cut table parts last limit front (d ∷ due) count choices s (λ e. let h : d ∷ due ≡ [] = e in cc))

  by_meets : (front : List ℕ) (k : ℕ) (rest : List ℕ) (due : List Due) (count : ℕ) (choices : List ℕ) → Stands table parts last limit front due count choices → Meets table parts last k due count
      → ((new : List Due) (new_count : ℕ) (new_choices : List ℕ) → Stands table parts last limit (front ++ k ∷ []) new new_count new_choices → Told table last limit ((front ++ k ∷ []) ++ rest)) → Told table last limit (front ++ k ∷ rest)
  by_meets front k rest due count choices s (meets_token nesting new new_count made a) go = by (nat_lt limit (nested nesting new_count)) refl
    where
      by : (b : Bool) → nat_lt limit (nested nesting new_count) ≡ b → Told table last limit (front ++ k ∷ rest)
      by true e = deep_told (length front) (answers_deep table parts last limit k nesting front rest due new count new_count choices made s a (ltb-true limit (nested nesting new_count) e))
      by false e =
          subst (Told table last limit) (append_assoc front (k ∷ []) rest)
          (go new (nested nesting new_count) (choices ++ made) (stands_met table parts last limit k nesting front due new count new_count choices made s a (ltb-false limit (nested nesting new_count) e)))
  by_meets front k rest due count choices s (meets_none none) go = wrong_told (length front) (answers_wrong table parts last limit k front rest due count choices s none)

  told : (rest front : List ℕ) (due : List Due) (count : ℕ) (choices : List ℕ) → Stands table parts last limit front due count choices → Told table last limit (front ++ rest)
  told [] front due count choices s = subst (Told table last limit) (sym (append-nil front)) (at_end front due count choices s)
  told (k ∷ rest) front due count choices s =
      by_meets front k rest due count choices s (meets k (suc (weight_due parts due)) due count (omega arith) s.ready s.bottom)
      (λ new new_count new_choices s'. told rest (front ++ k ∷ []) new new_count new_choices s')

told_all : (table : List Symbol) (parts : List Part) (last limit : ℕ) → is_predictive table parts last ≡ true → (tokens : List ℕ) → Told table last limit tokens
told_all table parts last limit known tokens =
    told table parts last limit (sound_of table parts last known) tokens [] (expected (whole last) []) 0 [] (first_stands table parts last limit known)

-- ---- modules

token_there : (tokens : List Spanned) (n : ℕ) → n < length tokens → (t : Spanned) × (slice_get tokens n ≡ Some t)
token_there [] n less = absurd (omega (arith, less))
token_there (t ∷ ts) zero less = (t, refl)
token_there (t ∷ ts) (suc n) less = token_there ts n (omega (arith, less))

place_there : (tokens : List Spanned) (front : List ℕ) (k : ℕ) (back : List ℕ) (place : ℕ) → kinds_of tokens ≡ front ++ k ∷ back → length front ≡ place → place < length tokens
place_there tokens front k back place e at =
    let long = ap length e ∙ length-append front (k ∷ back) in
    let same = length-map tokens (λ (t : Spanned). kind_of t.token) in
    omega (arith, long, same, at)

by_told : (tokens : List Spanned) → EndsOnce tokens → Told GRAMMAR LAST LIMIT (kinds_of tokens) → ((modules : List ModuleTree) × AreModules modules tokens) ⊎ ((v : Violation) × FirstSyntactic tokens v)
by_told tokens ends (is_told choices d) =
    inl (
      trees_of choices tokens,
      (record { choices = choices; derived = d.spells; trees = refl }, record { choices = choices; derived = d.spells; counts = d.counts; nests = d.nests; within = d.within }),
    )
by_told tokens ends (wrong_told place w) =
    let t = token_there tokens place (place_there tokens w.front w.wrong w.behind place w.parts w.before) in
    inr (record { rule = S1; place = t.0.place }, inl (record { number = place; first = w; rule = refl; place = (t.0, t.1, refl) }))
by_told tokens ends (deep_told place w) =
    let t = token_there tokens place (place_there tokens w.front w.deep w.behind place w.parts w.before) in
    inr (record { rule = S2; place = t.0.place }, inr (record { number = place; first = w; rule = refl; place = (t.0, t.1, refl) }))
by_told tokens ends (cut_told cut) = absurd (not_cut tokens ends cut)

pub each_tokens : (tokens : List Spanned) → EndsOnce tokens → ((modules : List ModuleTree) × AreModules modules tokens) ⊎ ((v : Violation) × FirstSyntactic tokens v)
each_tokens tokens ends = by_told tokens ends (told_all GRAMMAR PARTS LAST LIMIT refl (kinds_of tokens))

-- ---- one answer alone

-- what the law of grammars says
abbrev pub OneDerivation : Type 0
OneDerivation = (table : List Symbol) (parts : List Part) (last : ℕ) → IsTrue (is_predictive table parts last) → (tokens a b : List ℕ) → Derived table last tokens a → Derived table last tokens b → a ≡ b

pub one_file : OneDerivation → (tokens : List Spanned) (a b : List ModuleTree) → AreModules a tokens → AreModules b tokens → a ≡ b
one_file law tokens a b x y =
    x.0.trees ∙ ap (λ (choices : List ℕ). trees_of choices tokens) (law GRAMMAR PARTS LAST refl (kinds_of tokens) x.0.choices y.0.choices x.0.derived y.0.derived) ∙ sym y.0.trees

same_violation : (v w : Violation) → v.rule ≡ w.rule → v.place ≡ w.place → v ≡ w
same_violation v w rule place =
    let by_rule : Rule → Violation = λ r. record { rule = r; place = v.place } in
    let by_place : Place → Violation = λ p. record { rule = w.rule; place = p } in
    ap by_rule rule ∙ ap by_place place

same_place : (tokens : List Spanned) (p q : ℕ) (v w : Violation) → p ≡ q → StandsAt tokens p v → StandsAt tokens q w → v.place ≡ w.place
same_place tokens p q v w e x y =
    let found : Some x.0 ≡ Some y.0 = sym x.1 ∙ ap (λ n. slice_get tokens n) e ∙ y.1 in
    x.2 ∙ ap (λ (t : Spanned). t.place) (same_some x.0 y.0 found) ∙ sym y.2

pub one_violation : (tokens : List Spanned) (v w : Violation) → FirstSyntactic tokens v → FirstSyntactic tokens w → v ≡ w
one_violation tokens v w (inl x) (inl y) =
    let same = one_wrong GRAMMAR LAST LIMIT (kinds_of tokens) x.number y.number x.first y.first in
    same_violation v w (x.rule ∙ sym y.rule) (same_place tokens x.number y.number v w same x.place y.place)
one_violation tokens v w (inl x) (inr y) = absurd (wrong_or_deep GRAMMAR LAST LIMIT (kinds_of tokens) x.number y.number x.first y.first)
one_violation tokens v w (inr x) (inl y) = absurd (wrong_or_deep GRAMMAR LAST LIMIT (kinds_of tokens) y.number x.number y.first x.first)
one_violation tokens v w (inr x) (inr y) =
    let same = one_deep GRAMMAR LAST LIMIT (kinds_of tokens) x.number y.number x.first y.first in
    same_violation v w (x.rule ∙ sym y.rule) (same_place tokens x.number y.number v w same x.place y.place)

pub not_both : (tokens : List Spanned) (modules : List ModuleTree) (v : Violation) → AreModules modules tokens → FirstSyntactic tokens v → ⊥
not_both tokens modules v are (inl x) = wrong_none tokens x.number x.first modules are
not_both tokens modules v are (inr x) = deep_none tokens x.number x.first modules are
