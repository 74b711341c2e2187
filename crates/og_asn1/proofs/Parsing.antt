-- What the reader of the table answers, said of tokens.
use Rattle.std.proofs.Common.{◌≡◌, ℕ, zero, suc, ◌≤◌, Bool, true, false, not, List, [], ◌∷◌, ◌++◌, Option, Some, slice_get, refl, sym, ap, ◌∙◌, subst, inl, inr, arith, append_assoc, append-nil}
use Rattle.std.specs.Prelude.{◌==◌, if◌then◌else◌}
use Rattle.std.specs.List.{list_all}
use Rattle.std.proofs.lemmas.Bool.{and_parts, and_from, eq-eqb, not-true, false≢true}
use Rattle.og_base.specs.declared.ModelError.TheVariants.{Broken}
use Rattle.og_base.specs.declared.Rule.TheVariants.{S1, S2}
use Rattle.og_base.specs.declared.Violation.{Violation}
use Rattle.og_lexer.specs.declared.Spanned.{Spanned}
use Rattle.og_lexer.specs.Texts.{EndsOnce}
use Rattle.og_grammar.specs.declared.Nesting.{Nesting}
use Rattle.og_grammar.specs.declared.Nesting.TheVariants.{Keeps}
use Rattle.og_grammar.specs.declared.Symbol.{Symbol}
use Rattle.og_grammar.specs.declared.Symbol.TheVariants.{Rule, Token, Part, Scope, Maybe, Many, NotBefore}
use Rattle.og_grammar.specs.Sentence.{body_of, rules_of, ways, Derives, nothing, token as token_met, passes, chosen, Spells as Derived}
use Rattle.og_grammar.specs.Answers.{AreWithin, IsDerivation, IsFirstWrong, IsFirstTooDeep, IsCutOff}
use Rattle.og_asn1.specs.declared.grammar.TheConstants.{GRAMMAR, LAST, LIMIT}
use Rattle.og_asn1.specs.declared.syntax.ModuleTree.{ModuleTree}
use Rattle.og_asn1.specs.Kinds.{kind_of, kinds_of}
use Rattle.og_asn1.specs.Trees.{trees_of}
use Rattle.og_asn1.specs.Grammar.{AreModules, StandsAt, Refuses}

-- tokens that go wrong are those of no modules
pub wrong_none : (tokens : List Spanned) (number : ℕ) → IsFirstWrong GRAMMAR LAST LIMIT (kinds_of tokens) number → (modules : List ModuleTree) → AreModules modules tokens → ⊥
wrong_none tokens number w modules h = w.none w.behind h.0.choices (subst (λ (k : List ℕ). Derived GRAMMAR LAST k h.0.choices) w.parts h.0.derived)

within_at : (limit : ℕ) (before : List ℕ) (here : ℕ) (later : List ℕ) → AreWithin limit (before ++ here ∷ later) → here ≤ limit
within_at limit [] here later all = all.0
within_at limit (b ∷ before) here later all = within_at limit before here later all.1

-- tokens that nest too deep are those of no modules
pub deep_none : (tokens : List Spanned) (number : ℕ) → IsFirstTooDeep GRAMMAR LAST LIMIT (kinds_of tokens) number → (modules : List ModuleTree) → AreModules modules tokens → ⊥
deep_none tokens number w modules h =
    let n = h.1 in
    let p = w.each w.behind n.choices n.counts (subst (λ (k : List ℕ). Derived GRAMMAR LAST k n.choices) w.parts n.derived) n.nests in
    let le = within_at LIMIT p.before p.here p.later (subst (AreWithin LIMIT) p.parts n.within) in
    let lt = p.passes in
    absurd (omega arith)

-- ---- the last token stands at the end of a sentence alone

abbrev is_token : ℕ → Symbol → Bool
is_token k (Token j nesting) = j == k
is_token k (Rule p) = false
is_token k (Part p) = false
is_token k (Scope p) = false
is_token k (Maybe p) = false
is_token k (Many p) = false
is_token k (NotBefore j) = false

abbrev lack : ℕ → List Symbol → Bool
lack k symbols = list_all (λ s. not (is_token k s)) symbols

lack_behind : (k : ℕ) (s : Symbol) (ss : List Symbol) → lack k (s ∷ ss) ≡ true → lack k ss ≡ true
lack_behind k s ss h = (and_parts (not (is_token k s)) (lack k ss) h).1

lack_append : (k : ℕ) (xs ys : List Symbol) → lack k xs ≡ true → lack k ys ≡ true → lack k (xs ++ ys) ≡ true
lack_append k [] ys h i = i
lack_append k (x ∷ xs) ys h i = let p = and_parts (not (is_token k x)) (lack k xs) h in and_from (not (is_token k x)) (lack k (xs ++ ys)) p.0 (lack_append k xs ys p.1 i)

body_lacks : (k : ℕ) (table : List Symbol) → lack k table ≡ true → lack k (body_of table) ≡ true
body_lacks k [] h = refl
body_lacks k (Rule p ∷ table) h = refl
body_lacks k (Token j n ∷ table) h = let p = and_parts (not (j == k)) (lack k table) h in and_from (not (j == k)) (lack k (body_of table)) p.0 (body_lacks k table p.1)
body_lacks k (Part p ∷ table) h = body_lacks k table h
body_lacks k (Scope p ∷ table) h = body_lacks k table h
body_lacks k (Maybe p ∷ table) h = body_lacks k table h
body_lacks k (Many p ∷ table) h = body_lacks k table h
body_lacks k (NotBefore j ∷ table) h = body_lacks k table h

some_is : {X : Type 0} (x y : X) → ◌≡◌ {A = Option X} (Some x) (Some y) → x ≡ y
some_is x y e = cc

rules_lack : (k p : ℕ) (table : List Symbol) (c : ℕ) (way : List Symbol) → lack k table ≡ true → slice_get (rules_of p table) c ≡ Some way → lack k way ≡ true
rules_lack k p [] c way h w = absurd (let no : ⊥ = cc in no)
rules_lack k p (Rule q ∷ table) c way h w = by (q == p) c w (λ d v. rules_lack k p table d way h v)
  where
    by : (t : Bool) (c : ℕ) → slice_get (if t then body_of table ∷ rules_of p table else rules_of p table) c ≡ Some way
        → ((d : ℕ) → slice_get (rules_of p table) d ≡ Some way → lack k way ≡ true) → lack k way ≡ true
    by true zero w go = subst (λ (x : List Symbol). lack k x ≡ true) (some_is (body_of table) way w) (body_lacks k table h)
    by true (suc c) w go = go c w
    by false c w go = go c w
rules_lack k p (Token j n ∷ table) c way h w = rules_lack k p table c way (lack_behind k (Token j n) table h) w
rules_lack k p (Part q ∷ table) c way h w = rules_lack k p table c way h w
rules_lack k p (Scope q ∷ table) c way h w = rules_lack k p table c way h w
rules_lack k p (Maybe q ∷ table) c way h w = rules_lack k p table c way h w
rules_lack k p (Many q ∷ table) c way h w = rules_lack k p table c way h w
rules_lack k p (NotBefore j ∷ table) c way h w = rules_lack k p table c way h w

ways_lack : (k : ℕ) (table : List Symbol) (s : Symbol) (c : ℕ) (way : List Symbol) → lack k table ≡ true → slice_get (ways table s) c ≡ Some way → lack k way ≡ true
ways_lack k table (Part p) c way h w = rules_lack k p table c way h w
ways_lack k table (Scope p) c way h w = rules_lack k p table c way h w
ways_lack k table (Maybe p) zero way h w = subst (λ (x : List Symbol). lack k x ≡ true) (some_is [] way w) refl
ways_lack k table (Maybe p) (suc zero) way h w = subst (λ (x : List Symbol). lack k x ≡ true) (some_is (Part p ∷ []) way w) refl
ways_lack k table (Maybe p) (suc (suc c)) way h w = absurd (let no : ⊥ = cc in no)
ways_lack k table (Many p) zero way h w = subst (λ (x : List Symbol). lack k x ≡ true) (some_is [] way w) refl
ways_lack k table (Many p) (suc zero) way h w = subst (λ (x : List Symbol). lack k x ≡ true) (some_is (Part p ∷ Many p ∷ []) way w) refl
ways_lack k table (Many p) (suc (suc c)) way h w = absurd (let no : ⊥ = cc in no)
ways_lack k table (Rule p) c way h w = absurd (let no : ⊥ = cc in no)
ways_lack k table (Token j n) c way h w = absurd (let no : ⊥ = cc in no)
ways_lack k table (NotBefore j) c way h w = absurd (let no : ⊥ = cc in no)

abbrev numbers_lack : ℕ → List ℕ → Bool
numbers_lack k numbers = list_all (λ n. not (n == k)) numbers

-- tokens of which the last alone is of this kind
record EndsSo (last : ℕ) (tokens : List ℕ) : Type 0 where
  front : List ℕ
  parts : tokens ≡ front ++ last ∷ []
  others : numbers_lack last front ≡ true

head_is : {X : Type 0} {x y : X} {xs ys : List X} → x ∷ xs ≡ y ∷ ys → x ≡ y
head_is e = cc

tail_is : {X : Type 0} {x y : X} {xs ys : List X} → x ∷ xs ≡ y ∷ ys → xs ≡ ys
tail_is e = cc

none_left : {table : List Symbol} {tokens choices : List ℕ} → Derives table [] tokens choices → tokens ≡ []
none_left nothing = refl

token_kind : (j k : ℕ) (m n : Nesting) → Token j m ≡ Token k n → j ≡ k
token_kind j k m n e = cc

module _ (table : List Symbol) (last : ℕ) (lacks : lack last table ≡ true) where
  last_alone : {symbols : List Symbol} {tokens choices : List ℕ} → Derives table symbols tokens choices → (front : List Symbol) → symbols ≡ front ++ Token last Keeps ∷ [] → lack last front ≡ true → EndsSo last tokens
  last_alone nothing [] e h = absurd (let no : ⊥ = cc in no)
  last_alone nothing (f ∷ fs) e h = absurd (let no : ⊥ = cc in no)
  last_alone (token_met {k = k} {nesting = n} {tokens = ts} {choices = cs} d) [] e h =
      record {
        front = [];
        parts = ap (λ (j : ℕ). j ∷ ts) (token_kind k last n Keeps (head_is e)) ∙ ap (λ (xs : List ℕ). last ∷ xs) (none_left (subst (λ (x : List Symbol). Derives table x ts cs) (tail_is e) d));
        others = refl;
      }
  last_alone (token_met {k = k} {nesting = n} d) (f ∷ fs) e h =
      let p = and_parts (not (is_token last f)) (lack last fs) h in
      let i = last_alone d fs (tail_is e) p.1 in
      record {
        front = k ∷ i.front;
        parts = ap (λ (xs : List ℕ). k ∷ xs) i.parts;
        others = and_from (not (k == last)) (numbers_lack last i.front) (subst (λ (s : Symbol). not (is_token last s) ≡ true) (sym (head_is e)) p.0) i.others;
      }
  last_alone (passes q d) [] e h = absurd (let no : ⊥ = cc in no)
  last_alone (passes q d) (f ∷ fs) e h = last_alone d fs (tail_is e) (lack_behind last f fs h)
  last_alone (chosen s c way w d) [] e h = absurd (no_way s c way w (head_is e))
    where
      no_way : (s : Symbol) (c : ℕ) (way : List Symbol) → slice_get (ways table s) c ≡ Some way → s ≡ Token last Keeps → ⊥
      no_way s c way w e = none c (subst (λ (x : Symbol). slice_get (ways table x) c ≡ Some way) e w)
        where
          none : (c : ℕ) → slice_get (ways table (Token last Keeps)) c ≡ Some way → ⊥
          none c w = cc
  last_alone (chosen s c way w d) (f ∷ fs) e h =
      last_alone d (way ++ fs) (ap (λ (x : List Symbol). way ++ x) (tail_is e) ∙ sym (append_assoc way fs (Token last Keeps ∷ [])))
      (lack_append last way fs (ways_lack last table s c way lacks w) (lack_behind last f fs h))

-- nothing stands behind the last token
nothing_behind : (last : ℕ) (ts ks more : List ℕ) → numbers_lack last ts ≡ true → ts ++ last ∷ [] ≡ ks ++ last ∷ more → more ≡ []
nothing_behind last [] [] more h e = sym (tail_is e)
nothing_behind last [] (k ∷ ks) more h e = absurd (some ks more (tail_is e))
  where
    some : (ks more : List ℕ) → [] ≡ ks ++ last ∷ more → ⊥
    some [] more e = cc
    some (k ∷ ks) more e = cc
nothing_behind last (t ∷ ts) [] more h e = absurd (false≢true (sym (not-true (t == last) (and_parts (not (t == last)) (numbers_lack last ts) h).0) ∙ eq-eqb t last (head_is e)))
nothing_behind last (t ∷ ts) (k ∷ ks) more h e = nothing_behind last ts ks more (and_parts (not (t == last)) (numbers_lack last ts) h).1 (tail_is e)

-- the kinds of a file's tokens, of which the last is its end
kinds_end : (tokens : List Spanned) → EndsOnce tokens → (front : List ℕ) × (kinds_of tokens ≡ front ++ LAST ∷ [])
unfolding kind_of
kinds_end [] ends = absurd ends
kinds_end (t ∷ []) ends = ([], ap (λ k. kind_of k ∷ []) ends)
kinds_end (t ∷ u ∷ ts) ends = let i = kinds_end (u ∷ ts) ends.1 in (kind_of t.token ∷ i.0, ap (λ (xs : List ℕ). kind_of t.token ∷ xs) i.1)

-- the tokens of a file are a sentence or go wrong
pub not_cut : (tokens : List Spanned) → EndsOnce tokens → IsCutOff GRAMMAR LAST LIMIT (kinds_of tokens) → ⊥
not_cut tokens ends cut =
    let b = cut.begins in
    let k = kinds_end tokens ends in
    let alone = last_alone GRAMMAR LAST refl b.spells (Part 0 ∷ []) refl refl in
    let none = nothing_behind LAST alone.front k.0 b.more alone.others (sym alone.parts ∙ ap (λ (xs : List ℕ). xs ++ b.more) k.1 ∙ append_assoc k.0 (LAST ∷ []) b.more) in
    cut.none b.choices (subst (λ (xs : List ℕ). Derived GRAMMAR LAST xs b.choices) (ap (λ (xs : List ℕ). kinds_of tokens ++ xs) none ∙ append-nil (kinds_of tokens)) b.spells)

-- ---- what the reader answers

pub are_modules : (tokens : List Spanned) (kinds choices : List ℕ) (modules : List ModuleTree) → kinds ≡ kinds_of tokens → IsDerivation GRAMMAR LAST LIMIT kinds choices → modules ≡ trees_of choices tokens → AreModules modules tokens
are_modules tokens kinds choices modules same d is =
    let here = subst (λ (k : List ℕ). Derived GRAMMAR LAST k choices) same d.spells in
    (record { choices = choices; derived = here; trees = is }, record { choices = choices; derived = here; counts = d.counts; nests = d.nests; within = d.within })

pub are_no_others : (tokens : List Spanned) (kinds choices : List ℕ) (modules : List ModuleTree) → kinds ≡ kinds_of tokens → ((other : List ℕ) → Derived GRAMMAR LAST kinds other → other ≡ choices) → modules ≡ trees_of choices tokens
    → (others : List ModuleTree) → AreModules others tokens → others ≡ modules
are_no_others tokens kinds choices modules same only is others h =
    h.0.trees ∙ ap (λ (cs : List ℕ). trees_of cs tokens) (only h.0.choices (subst (λ (k : List ℕ). Derived GRAMMAR LAST k h.0.choices) (sym same) h.0.derived)) ∙ sym is

pub refuses_wrong : (tokens : List Spanned) (kinds : List ℕ) (number : ℕ) (v : Violation) → kinds ≡ kinds_of tokens → IsFirstWrong GRAMMAR LAST LIMIT kinds number → v.rule ≡ S1 → StandsAt tokens number v → Refuses tokens (Broken v)
refuses_wrong tokens kinds number v same w rule place =
    let first = subst (λ (k : List ℕ). IsFirstWrong GRAMMAR LAST LIMIT k number) same w in
    (inl (record { number = number; first = first; rule = rule; place = place }), wrong_none tokens number first)

pub refuses_deep : (tokens : List Spanned) (kinds : List ℕ) (number : ℕ) (v : Violation) → kinds ≡ kinds_of tokens → IsFirstTooDeep GRAMMAR LAST LIMIT kinds number → v.rule ≡ S2 → StandsAt tokens number v → Refuses tokens (Broken v)
refuses_deep tokens kinds number v same w rule place =
    let first = subst (λ (k : List ℕ). IsFirstTooDeep GRAMMAR LAST LIMIT k number) same w in
    (inr (record { number = number; first = first; rule = rule; place = place }), deep_none tokens number first)
