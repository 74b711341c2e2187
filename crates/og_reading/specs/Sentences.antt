-- Whole texts by a table, and which violation of class S tokens have that are none. A text may nest 64 deep. Where its tokens are no
-- sentence the first one is reported that no sentence has there; where they nest deeper before that, the first at which they do. The
-- two rules are this project's own.
use Rattle.std.specs.Prelude.{◌≡◌, ◌⊎◌, ℕ, Bool, true, false, not, List, [], ◌∷◌, ◌++◌, suc, Some, slice_get, take, nat_lt, ◌==◌}
use Rattle.std.specs.List.{list_all}
use Rattle.og_base.specs.declared.Place.{Place}
use Rattle.og_base.specs.declared.Rule.TheVariants.{S1, S2}
use Rattle.og_base.specs.declared.Violation.{Violation}
use Rattle.og_base.specs.declared.ModelError.{ModelError}
use Rattle.og_base.specs.declared.ModelError.TheVariants.{Broken, NoMemory}
use Rattle.og_lexer.specs.declared.Spanned.{Spanned}
use Rattle.og_lexer.specs.declared.Token.TheVariants as token
use Rattle.og_grammar.specs.declared.Nesting.{Nesting}
use Rattle.og_grammar.specs.declared.Symbol.{Symbol}
use Rattle.og_grammar.specs.declared.Symbol.TheVariants.{Rule, Token, Part, Scope, Maybe, Many, NotBefore}
use Rattle.og_grammar.specs.Sentence.{Spells, NestsAs}
use Rattle.og_grammar.specs.Answers.{AreWithin, IsFirstWrong, IsFirstTooDeep}
use Rattle.og_reading.specs.declared.kind.TheConstants.{LAST}
use Rattle.og_reading.specs.declared.sentence.TheConstants.{LIMIT}
use Rattle.og_reading.specs.Kinds.{kinds_of}
use Rattle.og_reading.specs.Fronts.{Text, Stands, ◌▸◌}

-- ---- whole texts

-- the end of the file
abbrev pub Ended : Text
Ended tokens rest = (place : Place) × Stands token.End place tokens rest

-- a text of something, and then the end of the file
abbrev pub Whole : {X : Type 0} → (X → Text) → X → List Spanned → Type 0
Whole Is x tokens = (Is x ▸ Ended) tokens []

-- the tokens, as the table derives them, nest nowhere past the limit
pub record NestsWithin (table : List Symbol) (tokens : List Spanned) : Type 0 where
  pub choices : List ℕ
  pub derived : Spells table LAST (kinds_of tokens) choices
  pub counts : List ℕ
  pub nests : NestsAs table LAST choices counts
  pub within : AreWithin LIMIT counts

-- a whole text without a violation of class S
abbrev pub IsText : {X : Type 0} → List Symbol → (X → Text) → X → List Spanned → Type 0
IsText table Is x tokens = Whole Is x tokens × NestsWithin table tokens

-- ---- violations

-- the violation stands at the token of this number
abbrev pub StandsAt : List Spanned → ℕ → Violation → Type 0
StandsAt tokens number v = (t : Spanned) × (slice_get tokens number ≡ Some t) × (v.place ≡ t.place)

-- the first token such that no sentence begins with the tokens up to and including it, where none before it nests too deep
pub record IsWrongAt (table : List Symbol) (tokens : List Spanned) (v : Violation) : Type 0 where
  pub number : ℕ
  pub first : IsFirstWrong table LAST LIMIT (kinds_of tokens) number
  pub rule : v.rule ≡ S1
  pub place : StandsAt tokens number v

-- the first token that nests too deep, where up to it a sentence begins
pub record IsTooDeepAt (table : List Symbol) (tokens : List Spanned) (v : Violation) : Type 0 where
  pub number : ℕ
  pub first : IsFirstTooDeep table LAST LIMIT (kinds_of tokens) number
  pub rule : v.rule ≡ S2
  pub place : StandsAt tokens number v

-- the first violation of class S
abbrev pub FirstSyntactic : List Symbol → List Spanned → Violation → Type 0
FirstSyntactic table tokens v = IsWrongAt table tokens v ⊎ IsTooDeepAt table tokens v

-- why there is no derivation: the first violation of class S, or want of memory
abbrev pub Breaks : List Symbol → List Spanned → ModelError → Type 0
Breaks table tokens (Broken v) = FirstSyntactic table tokens v
Breaks table tokens (NoMemory met) = Unit {0}

-- and then the tokens are a whole text of nothing
abbrev pub Refuses : {X : Type 0} → List Symbol → (X → Text) → List Spanned → ModelError → Type 0
Refuses {X = X} table Is tokens (Broken v) = FirstSyntactic table tokens v × ((x : X) → IsText table Is x tokens → ⊥)
Refuses table Is tokens (NoMemory met) = Unit {0}

-- ---- S1, said of texts and not of the table

-- some whole text begins with these tokens
pub record BeginsText {X : Type 0} (Is : X → Text) (front : List Spanned) : Type 0 where
  pub more : List Spanned
  pub x : X
  pub is : Whole Is x (front ++ more)

-- the token of this number is the first such that no whole text begins with the tokens up to and including it
pub record IsFirstForeign {X : Type 0} (Is : X → Text) (tokens : List Spanned) (number : ℕ) : Type 0 where
  pub begins : BeginsText Is (take number tokens)
  pub none : (more : List Spanned) (x : X) → Whole Is x (take (suc number) tokens ++ more) → ⊥

-- S1 stands at that token
abbrev pub SaysWrong : {X : Type 0} → (X → Text) → List Spanned → ModelError → Type 0
SaysWrong Is tokens (Broken v) = v.rule ≡ S1 → (number : ℕ) × StandsAt tokens number v × IsFirstForeign Is tokens number
SaysWrong Is tokens (NoMemory met) = Unit {0}

-- ---- tables in whose productions a kind of tokens does not stand

abbrev pub is_token : ℕ → Symbol → Bool
is_token k (Token j nesting) = j == k
is_token k (Rule p) = false
is_token k (Part p) = false
is_token k (Scope p) = false
is_token k (Maybe p) = false
is_token k (Many p) = false
is_token k (NotBefore j) = false

abbrev pub lacks : ℕ → List Symbol → Bool
lacks k symbols = list_all (λ s. not (is_token k s)) symbols

-- the kinds of tokens are those of SDL/PR
abbrev pub is_low : Symbol → Bool
is_low (Token k nesting) = nat_lt k 84
is_low (Rule p) = true
is_low (Part p) = true
is_low (Scope p) = true
is_low (Maybe p) = true
is_low (Many p) = true
is_low (NotBefore k) = true
