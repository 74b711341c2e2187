-- Sentences of a table, as derivations. A derivation is the list of its choices from left to right: which rule of a part, whether
-- an option is there (1) or not (0), whether a repetition goes on (1) or ends (0). It follows the usual notion of a leftmost
-- derivation; a symbol that forbids the next token is this project's own.
use Rattle.std.specs.Prelude.{◌≡◌, ◌≢◌, ℕ, ◌+◌, ◌-◌, Bool, true, false, List, [], ◌∷◌, ◌++◌, Some, slice_get, if◌then◌else◌, nat_le, ◌==◌}
use Rattle.std.specs.List.{list_all}
use Rattle.og_grammar.specs.declared.Symbol.{Symbol}
use Rattle.og_grammar.specs.declared.Nesting.{Nesting}
use Rattle.og_grammar.specs.declared.Nesting.TheVariants.{Keeps, Rises, Falls}
use Rattle.og_grammar.specs.declared.Symbol.TheVariants.{Rule, Token, Part, Scope, Maybe, Many, NotBefore}
use Rattle.og_grammar.specs.declared.Due.{Due}
use Rattle.og_grammar.specs.declared.Due.TheVariants.{Expect, Restore}

-- the symbols up to the next rule
abbrev pub body_of : List Symbol → List Symbol
body_of [] = []
body_of (Rule p ∷ table) = []
body_of (Token k nesting ∷ table) = Token k nesting ∷ body_of table
body_of (Part p ∷ table) = Part p ∷ body_of table
body_of (Scope p ∷ table) = Scope p ∷ body_of table
body_of (Maybe p ∷ table) = Maybe p ∷ body_of table
body_of (Many p ∷ table) = Many p ∷ body_of table
body_of (NotBefore k ∷ table) = NotBefore k ∷ body_of table

-- the rules of a part
abbrev pub rules_of : ℕ → List Symbol → List (List Symbol)
rules_of p [] = []
rules_of p (Rule q ∷ table) = if q == p then body_of table ∷ rules_of p table else rules_of p table
rules_of p (Token k nesting ∷ table) = rules_of p table
rules_of p (Part q ∷ table) = rules_of p table
rules_of p (Scope q ∷ table) = rules_of p table
rules_of p (Maybe q ∷ table) = rules_of p table
rules_of p (Many q ∷ table) = rules_of p table
rules_of p (NotBefore k ∷ table) = rules_of p table

-- what may stand for a symbol that leaves a choice
abbrev pub ways : List Symbol → Symbol → List (List Symbol)
ways table (Rule p) = []
ways table (Token k nesting) = []
ways table (Part p) = rules_of p table
ways table (Scope p) = rules_of p table
ways table (Maybe p) = [] ∷ (Part p ∷ []) ∷ []
ways table (Many p) = [] ∷ (Part p ∷ Many p ∷ []) ∷ []
ways table (NotBefore k) = []

-- the first token is not of this kind
abbrev pub IsNotFirst : ℕ → List ℕ → Type 0
IsNotFirst k [] = Unit {0}
IsNotFirst k (t ∷ ts) = t ≢ k

-- by these choices the symbols give the tokens
pub data Derives (table : List Symbol) : List Symbol → List ℕ → List ℕ → Type 0 where
  nothing : Derives table [] [] []
  token : {k : ℕ} {nesting : Nesting} {symbols : List Symbol} {tokens choices : List ℕ} → Derives table symbols tokens choices → Derives table (Token k nesting ∷ symbols) (k ∷ tokens) choices
  passes : {k : ℕ} {symbols : List Symbol} {tokens choices : List ℕ} → IsNotFirst k tokens → Derives table symbols tokens choices → Derives table (NotBefore k ∷ symbols) tokens choices
  chosen : {symbols : List Symbol} {tokens choices : List ℕ} (symbol : Symbol) (choice : ℕ) (way : List Symbol) → slice_get (ways table symbol) choice ≡ Some way
      → Derives table (way ++ symbols) tokens choices → Derives table (symbol ∷ symbols) tokens (choice ∷ choices)

-- a sentence is what part 0 gives, and a token of the last kind
abbrev pub whole : ℕ → List Symbol
whole last = Part 0 ∷ Token last Keeps ∷ []

-- the tokens are a sentence, with this derivation
abbrev pub Spells : List Symbol → ℕ → List ℕ → List ℕ → Type 0
Spells table last tokens choices = Derives table (whole last) tokens choices

-- ---- nesting

abbrev pub is_scope : Symbol → Bool
is_scope (Scope p) = true
is_scope (Rule p) = false
is_scope (Token k nesting) = false
is_scope (Part p) = false
is_scope (Maybe p) = false
is_scope (Many p) = false
is_scope (NotBefore k) = false

abbrev pub expected : List Symbol → List Due → List Due
expected [] due = due
expected (s ∷ ss) due = Expect s ∷ expected ss due

-- what is due where this way is taken for the symbol at this nesting
abbrev pub entered : ℕ → Symbol → List Symbol → List Due → List Due
entered count symbol way due = expected way (if is_scope symbol then Restore count ∷ due else due)

-- the nesting behind a token that does this to it
abbrev pub nested : Nesting → ℕ → ℕ
nested Keeps count = count
nested (Rises by) count = count + by
nested (Falls by) count = count - by

-- by these choices what is due has tokens behind which the nesting is as these counts say, one for each token
pub data Nests (table : List Symbol) : ℕ → List Due → List ℕ → List ℕ → Type 0 where
  ends : {count : ℕ} → Nests table count [] [] []
  meets : {count k : ℕ} {nesting : Nesting} {due : List Due} {choices after : List ℕ} → Nests table (nested nesting count) due choices after → Nests table count (Expect (Token k nesting) ∷ due) choices (nested nesting count ∷ after)
  restores : {count before : ℕ} {due : List Due} {choices after : List ℕ} → Nests table before due choices after → Nests table count (Restore before ∷ due) choices after
  skips : {count k : ℕ} {due : List Due} {choices after : List ℕ} → Nests table count due choices after → Nests table count (Expect (NotBefore k) ∷ due) choices after
  takes : {count : ℕ} {due : List Due} {choices after : List ℕ} (symbol : Symbol) (choice : ℕ) (way : List Symbol) → slice_get (ways table symbol) choice ≡ Some way
      → Nests table count (entered count symbol way due) choices after → Nests table count (Expect symbol ∷ due) (choice ∷ choices) after

-- after each of its tokens a sentence of these choices nests as deep as these counts say
abbrev pub NestsAs : List Symbol → ℕ → List ℕ → List ℕ → Type 0
NestsAs table last choices counts = Nests table 0 (expected (whole last) []) choices counts

-- by how much the nesting rises at a symbol
abbrev pub rise_of : Symbol → ℕ
rise_of (Token k (Rises by)) = by
rise_of _ = 0

-- it never rises by more than this
abbrev pub rises_within : ℕ → List Symbol → Bool
rises_within most symbols = list_all (λ s. nat_le (rise_of s) most) symbols
