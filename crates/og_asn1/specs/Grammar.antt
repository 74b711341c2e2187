-- The grammar of modules (X.680) is the table GRAMMAR of the source: tokens are a sentence where they have a derivation there, the
-- end of the file last, and their trees are a function of it. A file may nest 64 deep. Where its tokens are no sentence the first
-- one is reported that no sentence has there; where they nest deeper before that, the first at which they do.
use Rattle.std.specs.Prelude.{◌≡◌, ◌⊎◌, ℕ, List, Some, slice_get}
use Rattle.og_base.specs.declared.Rule.TheVariants.{S1, S2}
use Rattle.og_base.specs.declared.Violation.{Violation}
use Rattle.og_base.specs.declared.ModelError.{ModelError}
use Rattle.og_base.specs.declared.ModelError.TheVariants.{Broken, NoMemory}
use Rattle.og_lexer.specs.declared.Spanned.{Spanned}
use Rattle.og_grammar.specs.Sentence.{Spells as Derived, NestsAs}
use Rattle.og_grammar.specs.Answers.{AreWithin, IsFirstWrong, IsFirstTooDeep}
use Rattle.og_asn1.specs.declared.grammar.TheConstants.{GRAMMAR, LAST, LIMIT}
use Rattle.og_asn1.specs.declared.syntax.ModuleTree.{ModuleTree}
use Rattle.og_asn1.specs.Kinds.{kinds_of}
use Rattle.og_asn1.specs.Trees.{trees_of}

-- the tokens are a sentence of the grammar, with these trees
pub record Spells (modules : List ModuleTree) (tokens : List Spanned) : Type 0 where
  pub choices : List ℕ
  pub derived : Derived GRAMMAR LAST (kinds_of tokens) choices
  pub trees : modules ≡ trees_of choices tokens

-- where they are a sentence, they nest nowhere past the limit
pub record NestsWithin (tokens : List Spanned) : Type 0 where
  pub choices : List ℕ
  pub derived : Derived GRAMMAR LAST (kinds_of tokens) choices
  pub counts : List ℕ
  pub nests : NestsAs GRAMMAR LAST choices counts
  pub within : AreWithin LIMIT counts

-- the tokens are those of a file of these modules, without a violation of class S
abbrev pub AreModules : List ModuleTree → List Spanned → Type 0
AreModules modules tokens = Spells modules tokens × NestsWithin tokens

-- the violation stands at the token of this number
abbrev pub StandsAt : List Spanned → ℕ → Violation → Type 0
StandsAt tokens number v = (t : Spanned) × (slice_get tokens number ≡ Some t) × (v.place ≡ t.place)

-- the first token such that no sentence begins with the tokens up to and including it, where none before it nests too deep
pub record IsWrongAt (tokens : List Spanned) (v : Violation) : Type 0 where
  pub number : ℕ
  pub first : IsFirstWrong GRAMMAR LAST LIMIT (kinds_of tokens) number
  pub rule : v.rule ≡ S1
  pub place : StandsAt tokens number v

-- the first token that nests too deep, where up to it a sentence begins
pub record IsTooDeepAt (tokens : List Spanned) (v : Violation) : Type 0 where
  pub number : ℕ
  pub first : IsFirstTooDeep GRAMMAR LAST LIMIT (kinds_of tokens) number
  pub rule : v.rule ≡ S2
  pub place : StandsAt tokens number v

-- the first violation of class S
abbrev pub FirstSyntactic : List Spanned → Violation → Type 0
FirstSyntactic tokens v = IsWrongAt tokens v ⊎ IsTooDeepAt tokens v

-- why there are no trees: the first violation of class S, and then the tokens are those of no modules; or want of memory
abbrev pub Refuses : List Spanned → ModelError → Type 0
Refuses tokens (Broken v) = FirstSyntactic tokens v × ((modules : List ModuleTree) → AreModules modules tokens → ⊥)
Refuses tokens (NoMemory met) = Unit {0}
