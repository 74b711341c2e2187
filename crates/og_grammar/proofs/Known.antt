-- What holds of each symbol of a table holds of each symbol of its rules.
use Rattle.std.proofs.Common.{◌≡◌, ℕ, zero, suc, Bool, true, false, cond, ◌&&◌, List, [], ◌∷◌, Option, Some, slice_get, nat_eq, refl, sym, ap, subst, ◌∙◌, IsTrue}
use Rattle.std.specs.List.{list_all}
use Rattle.og_grammar.specs.declared.Symbol.{Symbol}
use Rattle.og_grammar.specs.declared.Symbol.TheVariants.{Rule, Token, Part, Scope, Maybe, Many, NotBefore}
use Rattle.og_grammar.specs.Sentence.{body_of, rules_of}
use Rattle.og_grammar.specs.Predictive.{is_known, are_known}

pub and_intro : (a b : Bool) → a ≡ true → b ≡ true → (a && b) ≡ true
and_intro true b p q = q
and_intro false b p q = p

pub and_first : (a b : Bool) → (a && b) ≡ true → a ≡ true
and_first true b p = refl
and_first false b p = p

pub and_second : (a b : Bool) → (a && b) ≡ true → b ≡ true
and_second true b p = p
and_second false b p = absurd cc

abbrev pub option : {A : Type 0} → A → Option A
option x = Some x

pub some_is : {A : Type 0} (x y : A) → option x ≡ option y → x ≡ y
some_is x y e = cc

module _ (test : Symbol → Bool) where
  one_more : (s : Symbol) (rest body : List Symbol) → list_all test (s ∷ rest) ≡ true → (list_all test rest ≡ true → list_all test body ≡ true) → list_all test (s ∷ body) ≡ true
  one_more s rest body h go = and_intro (test s) (list_all test body) (and_first (test s) (list_all test rest) h) (go (and_second (test s) (list_all test rest) h))

  pub body_all : (table : List Symbol) → list_all test table ≡ true → list_all test (body_of table) ≡ true
  body_all [] h = refl
  body_all (Rule p ∷ table) h = refl
  body_all (Token k nesting ∷ table) h = one_more (Token k nesting) table (body_of table) h (body_all table)
  body_all (Part p ∷ table) h = one_more (Part p) table (body_of table) h (body_all table)
  body_all (Scope p ∷ table) h = one_more (Scope p) table (body_of table) h (body_all table)
  body_all (Maybe p ∷ table) h = one_more (Maybe p) table (body_of table) h (body_all table)
  body_all (Many p ∷ table) h = one_more (Many p) table (body_of table) h (body_all table)
  body_all (NotBefore k ∷ table) h = one_more (NotBefore k) table (body_of table) h (body_all table)

  pub rule_all : (p : ℕ) (table : List Symbol) → list_all test table ≡ true → (c : ℕ) (way : List Symbol) → slice_get (rules_of p table) c ≡ Some way → list_all test way ≡ true
  rule_all p [] h c way w = absurd cc
  rule_all p (Rule q ∷ table) h c way w = by (nat_eq q p) c w (rule_all p table (and_second (test (Rule q)) _ h))
    where
      by : (b : Bool) (c : ℕ) → slice_get (cond b (body_of table ∷ rules_of p table) (rules_of p table)) c ≡ Some way
          → ((d : ℕ) (way' : List Symbol) → slice_get (rules_of p table) d ≡ Some way' → list_all test way' ≡ true) → list_all test way ≡ true
      by false c w go = go c way w
      by true zero w go = subst (λ (x : List Symbol). list_all test x ≡ true) (some_is (body_of table) way w) (body_all table (and_second (test (Rule q)) _ h))
      by true (suc c) w go = go c way w
  rule_all p (Token k nesting ∷ table) h c way w = rule_all p table (and_second (test (Token k nesting)) _ h) c way w
  rule_all p (Part q ∷ table) h c way w = rule_all p table (and_second (test (Part q)) _ h) c way w
  rule_all p (Scope q ∷ table) h c way w = rule_all p table (and_second (test (Scope q)) _ h) c way w
  rule_all p (Maybe q ∷ table) h c way w = rule_all p table (and_second (test (Maybe q)) _ h) c way w
  rule_all p (Many q ∷ table) h c way w = rule_all p table (and_second (test (Many q)) _ h) c way w
  rule_all p (NotBefore k ∷ table) h c way w = rule_all p table (and_second (test (NotBefore k)) _ h) c way w

known_all : (n : ℕ) (symbols : List Symbol) → are_known n symbols ≡ list_all (is_known n) symbols
known_all n [] = refl
known_all n (s ∷ ss) = ap (λ (b : Bool). is_known n s && b) (known_all n ss)

pub body_known : (n : ℕ) (rest : List Symbol) → IsTrue (are_known n rest) → IsTrue (are_known n (body_of rest))
body_known n rest h = known_all n (body_of rest) ∙ body_all (is_known n) rest (sym (known_all n rest) ∙ h)

pub tail_known : (n : ℕ) (s : Symbol) (rest : List Symbol) → IsTrue (are_known n (s ∷ rest)) → IsTrue (are_known n rest)
tail_known n s rest h = and_second (is_known n s) (are_known n rest) h

pub head_known : (n : ℕ) (s : Symbol) (rest : List Symbol) → IsTrue (are_known n (s ∷ rest)) → IsTrue (are_known n (s ∷ []))
head_known n s rest h = and_intro (is_known n s) true (and_first (is_known n s) (are_known n rest) h) refl
