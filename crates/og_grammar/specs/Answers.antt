-- What a reader of a table answers: the one derivation of its tokens, the first token that no sentence has there, the first
-- that nests too deep, or that the tokens break off. A token at which a sentence goes wrong is never one that nests too deep:
-- what nests too deep still begins a sentence.
use Rattle.std.specs.Prelude.{◌≡◌, ℕ, ◌<◌, ◌≤◌, List, ◌∷◌, ◌++◌, length}
use Rattle.std.specs.List.{AllByRecursion}
use Rattle.og_grammar.specs.declared.Symbol.{Symbol}
use Rattle.og_grammar.specs.Sentence.{Spells, NestsAs}

abbrev pub AreWithin : ℕ → List ℕ → Type 0
AreWithin limit counts = AllByRecursion (λ n. n ≤ limit) counts

-- a sentence with this derivation nests nowhere past the limit
pub record IsDerivation (table : List Symbol) (last limit : ℕ) (tokens choices : List ℕ) : Type 0 where
  pub spells : Spells table last tokens choices
  pub counts : List ℕ
  pub nests : NestsAs table last choices counts
  pub within : AreWithin limit counts

-- some sentence begins with these tokens, and in them it nests nowhere past the limit
pub record BeginSome (table : List Symbol) (last limit : ℕ) (front : List ℕ) : Type 0 where
  pub more : List ℕ
  pub choices : List ℕ
  pub spells : Spells table last (front ++ more) choices
  pub counts : List ℕ
  pub later : List ℕ
  pub nests : NestsAs table last choices (counts ++ later)
  pub each : length counts ≡ length front
  pub within : AreWithin limit counts

-- the token at this place is the first such that no sentence begins with the tokens up to and including it
pub record IsFirstWrong (table : List Symbol) (last limit : ℕ) (tokens : List ℕ) (place : ℕ) : Type 0 where
  pub front : List ℕ
  pub wrong : ℕ
  pub behind : List ℕ
  pub parts : tokens ≡ front ++ wrong ∷ behind
  pub before : length front ≡ place
  pub begins : BeginSome table last limit front
  pub none : (more choices : List ℕ) → Spells table last (front ++ wrong ∷ more) choices → ⊥

-- the count for the token behind these passes the limit, and none for these does
pub record PassAt (limit : ℕ) (front : List ℕ) (counts : List ℕ) : Type 0 where
  pub here : ℕ
  pub before : List ℕ
  pub later : List ℕ
  pub parts : counts ≡ before ++ here ∷ later
  pub each : length before ≡ length front
  pub within : AreWithin limit before
  pub passes : limit < here

-- sentences begin with the tokens up to and including that at this place, and each of them passes the limit there first
pub record IsFirstTooDeep (table : List Symbol) (last limit : ℕ) (tokens : List ℕ) (place : ℕ) : Type 0 where
  pub front : List ℕ
  pub deep : ℕ
  pub behind : List ℕ
  pub parts : tokens ≡ front ++ deep ∷ behind
  pub before : length front ≡ place
  pub more : List ℕ
  pub choices : List ℕ
  pub spells : Spells table last (front ++ deep ∷ more) choices
  pub each : (more' choices' counts : List ℕ) → Spells table last (front ++ deep ∷ more') choices' → NestsAs table last choices' counts → PassAt limit front counts

-- the tokens begin a sentence, but are none
pub record IsCutOff (table : List Symbol) (last limit : ℕ) (tokens : List ℕ) : Type 0 where
  pub begins : BeginSome table last limit tokens
  pub none : (choices : List ℕ) → Spells table last tokens choices → ⊥
