-- The last token stands at the end of a sentence alone, so that the tokens of a file are a sentence or go wrong.
use Rattle.std.proofs.Common.{◌≡◌, ℕ, zero, suc, ◌≤◌, Bool, true, false, not, List, [], ◌∷◌, ◌++◌, Option, Some, slice_get, refl, sym, ap, ◌∙◌, subst, arith, append_assoc, append-nil}
use Rattle.std.specs.Prelude.{◌==◌, if◌then◌else◌}
use Rattle.std.specs.List.{list_all}
use Rattle.std.proofs.lemmas.Bool.{and_parts, and_from, eq-eqb, not-true, false≢true}
use Rattle.og_lexer.specs.declared.Spanned.{Spanned}
use Rattle.og_lexer.specs.Texts.{EndsOnce}
use Rattle.og_grammar.specs.declared.Nesting.{Nesting}
use Rattle.og_grammar.specs.declared.Nesting.TheVariants.{Keeps}
use Rattle.og_grammar.specs.declared.Symbol.{Symbol}
use Rattle.og_grammar.specs.declared.Symbol.TheVariants.{Rule, Token, Part, Scope, Maybe, Many, NotBefore}
use Rattle.og_grammar.specs.Sentence.{rules_of, ways, Derives, nothing, token as token_met, passes, chosen, Spells}
use Rattle.og_grammar.specs.Answers.{IsCutOff}
use Rattle.og_grammar.proofs.Known.{some_is, rule_all}
use Rattle.og_reading.specs.declared.kind.TheConstants.{LAST}
use Rattle.og_reading.specs.declared.sentence.TheConstants.{LIMIT}
use Rattle.og_reading.specs.Kinds.{kind_of, kinds_of}
use Rattle.og_reading.specs.Sentences.{is_token, lacks}

lacks_behind : (k : ℕ) (s : Symbol) (ss : List Symbol) → lacks k (s ∷ ss) ≡ true → lacks k ss ≡ true
lacks_behind k s ss h = (and_parts (not (is_token k s)) (lacks k ss) h).1

lacks_append : (k : ℕ) (xs ys : List Symbol) → lacks k xs ≡ true → lacks k ys ≡ true → lacks k (xs ++ ys) ≡ true
lacks_append k [] ys h i = i
lacks_append k (x ∷ xs) ys h i = let p = and_parts (not (is_token k x)) (lacks k xs) h in and_from (not (is_token k x)) (lacks k (xs ++ ys)) p.0 (lacks_append k xs ys p.1 i)

rules_lack : (k p : ℕ) (table : List Symbol) (c : ℕ) (way : List Symbol) → lacks k table ≡ true → slice_get (rules_of p table) c ≡ Some way → lacks k way ≡ true
rules_lack k p table c way h w = rule_all (λ s. not (is_token k s)) p table h c way w

ways_lack : (k : ℕ) (table : List Symbol) (s : Symbol) (c : ℕ) (way : List Symbol) → lacks k table ≡ true → slice_get (ways table s) c ≡ Some way → lacks k way ≡ true
ways_lack k table (Part p) c way h w = rules_lack k p table c way h w
ways_lack k table (Scope p) c way h w = rules_lack k p table c way h w
ways_lack k table (Maybe p) zero way h w = subst (λ (x : List Symbol). lacks k x ≡ true) (some_is [] way w) refl
ways_lack k table (Maybe p) (suc zero) way h w = subst (λ (x : List Symbol). lacks k x ≡ true) (some_is (Part p ∷ []) way w) refl
ways_lack k table (Maybe p) (suc (suc c)) way h w = absurd (let no : ⊥ = cc in no)
ways_lack k table (Many p) zero way h w = subst (λ (x : List Symbol). lacks k x ≡ true) (some_is [] way w) refl
ways_lack k table (Many p) (suc zero) way h w = subst (λ (x : List Symbol). lacks k x ≡ true) (some_is (Part p ∷ Many p ∷ []) way w) refl
ways_lack k table (Many p) (suc (suc c)) way h w = absurd (let no : ⊥ = cc in no)
ways_lack k table (Rule p) c way h w = absurd (let no : ⊥ = cc in no)
ways_lack k table (Token j n) c way h w = absurd (let no : ⊥ = cc in no)
ways_lack k table (NotBefore j) c way h w = absurd (let no : ⊥ = cc in no)

abbrev numbers_lack : ℕ → List ℕ → Bool
numbers_lack k numbers = list_all (λ n. not (n == k)) numbers

-- tokens of which the last alone is of this kind
record EndsSo (last : ℕ) (tokens : List ℕ) : Type 0 where
  front : List ℕ
  parts : tokens ≡ front ++ last ∷ []
  others : numbers_lack last front ≡ true

head_is : {X : Type 0} {x y : X} {xs ys : List X} → x ∷ xs ≡ y ∷ ys → x ≡ y
head_is e = cc

tail_is : {X : Type 0} {x y : X} {xs ys : List X} → x ∷ xs ≡ y ∷ ys → xs ≡ ys
tail_is e = cc

none_left : {table : List Symbol} {tokens choices : List ℕ} → Derives table [] tokens choices → tokens ≡ []
none_left nothing = refl

token_kind : (j k : ℕ) (m n : Nesting) → Token j m ≡ Token k n → j ≡ k
token_kind j k m n e = cc

module _ (table : List Symbol) (last : ℕ) (apart : lacks last table ≡ true) where
  last_alone : {symbols : List Symbol} {tokens choices : List ℕ} → Derives table symbols tokens choices → (front : List Symbol) → symbols ≡ front ++ Token last Keeps ∷ [] → lacks last front ≡ true → EndsSo last tokens
  last_alone nothing [] e h = absurd (let no : ⊥ = cc in no)
  last_alone nothing (f ∷ fs) e h = absurd (let no : ⊥ = cc in no)
  last_alone (token_met {k = k} {nesting = n} {tokens = ts} {choices = cs} d) [] e h =
      record {
        front = [];
        parts = ap (λ (j : ℕ). j ∷ ts) (token_kind k last n Keeps (head_is e)) ∙ ap (λ (xs : List ℕ). last ∷ xs) (none_left (subst (λ (x : List Symbol). Derives table x ts cs) (tail_is e) d));
        others = refl;
      }
  last_alone (token_met {k = k} {nesting = n} d) (f ∷ fs) e h =
      let p = and_parts (not (is_token last f)) (lacks last fs) h in
      let i = last_alone d fs (tail_is e) p.1 in
      record {
        front = k ∷ i.front;
        parts = ap (λ (xs : List ℕ). k ∷ xs) i.parts;
        others = and_from (not (k == last)) (numbers_lack last i.front) (subst (λ (s : Symbol). not (is_token last s) ≡ true) (sym (head_is e)) p.0) i.others;
      }
  last_alone (passes q d) [] e h = absurd (let no : ⊥ = cc in no)
  last_alone (passes q d) (f ∷ fs) e h = last_alone d fs (tail_is e) (lacks_behind last f fs h)
  last_alone (chosen s c way w d) [] e h = absurd (no_way s c way w (head_is e))
    where
      no_way : (s : Symbol) (c : ℕ) (way : List Symbol) → slice_get (ways table s) c ≡ Some way → s ≡ Token last Keeps → ⊥
      no_way s c way w e = none c (subst (λ (x : Symbol). slice_get (ways table x) c ≡ Some way) e w)
        where
          none : (c : ℕ) → slice_get (ways table (Token last Keeps)) c ≡ Some way → ⊥
          none c w = cc
  last_alone (chosen s c way w d) (f ∷ fs) e h =
      last_alone d (way ++ fs) (ap (λ (x : List Symbol). way ++ x) (tail_is e) ∙ sym (append_assoc way fs (Token last Keeps ∷ [])))
      (lacks_append last way fs (ways_lack last table s c way apart w) (lacks_behind last f fs h))

-- nothing stands behind the last token
nothing_behind : (last : ℕ) (ts ks more : List ℕ) → numbers_lack last ts ≡ true → ts ++ last ∷ [] ≡ ks ++ last ∷ more → more ≡ []
nothing_behind last [] [] more h e = sym (tail_is e)
nothing_behind last [] (k ∷ ks) more h e = absurd (some ks more (tail_is e))
  where
    some : (ks more : List ℕ) → [] ≡ ks ++ last ∷ more → ⊥
    some [] more e = cc
    some (k ∷ ks) more e = cc
nothing_behind last (t ∷ ts) [] more h e = absurd (false≢true (sym (not-true (t == last) (and_parts (not (t == last)) (numbers_lack last ts) h).0) ∙ eq-eqb t last (head_is e)))
nothing_behind last (t ∷ ts) (k ∷ ks) more h e = nothing_behind last ts ks more (and_parts (not (t == last)) (numbers_lack last ts) h).1 (tail_is e)

-- the kinds of a file's tokens, of which the last is its end
kinds_end : (tokens : List Spanned) → EndsOnce tokens → (front : List ℕ) × (kinds_of tokens ≡ front ++ LAST ∷ [])
unfolding kind_of
kinds_end [] ends = absurd ends
kinds_end (t ∷ []) ends = ([], ap (λ k. kind_of k ∷ []) ends)
kinds_end (t ∷ u ∷ ts) ends = let i = kinds_end (u ∷ ts) ends.1 in (kind_of t.token ∷ i.0, ap (λ (xs : List ℕ). kind_of t.token ∷ xs) i.1)

-- the tokens of a file are a sentence or go wrong
pub not_cut : (table : List Symbol) (tokens : List Spanned) → lacks LAST table ≡ true → EndsOnce tokens → IsCutOff table LAST LIMIT (kinds_of tokens) → ⊥
not_cut table tokens apart ends cut =
    let b = cut.begins in
    let k = kinds_end tokens ends in
    let alone = last_alone table LAST apart b.spells (Part 0 ∷ []) refl refl in
    let none = nothing_behind LAST alone.front k.0 b.more alone.others (sym alone.parts ∙ ap (λ (xs : List ℕ). xs ++ b.more) k.1 ∙ append_assoc k.0 (LAST ∷ []) b.more) in
    cut.none b.choices (subst (λ (xs : List ℕ). Spells table LAST xs b.choices) (ap (λ (xs : List ℕ). kinds_of tokens ++ xs) none ∙ append-nil (kinds_of tokens)) b.spells)
