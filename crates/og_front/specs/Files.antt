-- What the rules say of a model file as bytes. A file that violates no rule is accepted; any other one has a first violation:
-- of the tokens (Z.101 section 6.1), of the grammar, of names, of states or of limits, each where what comes before is kept.
use Rattle.std.specs.Prelude.{◌≡◌, ◌⊎◌, ℕ, List, ◌∷◌, Some, None}
use Rattle.og_base.specs.declared.Rule.TheVariants as rule
use Rattle.og_base.specs.declared.Violation.{Violation}
use Rattle.og_lexer.specs.declared.Spanned.{Spanned}
use Rattle.og_lexer.specs.declared.Comment.{Comment}
use Rattle.og_lexer.specs.Texts.{Lexes, FirstLexical}
use Rattle.og_front.specs.declared.syntax.SystemText.{SystemText}
use Rattle.og_front.specs.Grammar.{Spells}
use Rattle.og_front.specs.Rules.{first_of_rules}

-- the bytes of the file with this number are a text of this tree
pub record IsTextOf (file : ℕ) (system : SystemText) (bytes : List ℕ) : Type 0 where
  pub tokens : List Spanned
  pub comments : List Comment
  pub lexes : Lexes file bytes tokens comments
  pub spells : Spells system tokens

-- the bytes are a text of a tree that violates no rule
pub record Accepts (file : ℕ) (bytes : List ℕ) (system : SystemText) : Type 0 where
  pub text : IsTextOf file system bytes
  pub keeps : first_of_rules system ≡ None

pub record IsAccepted (file : ℕ) (bytes : List ℕ) : Type 0 where
  pub system : SystemText
  pub accepts : Accepts file bytes system

-- the tokens are no sentence of the grammar, which is said of the first of them
pub record BreaksGrammar (file : ℕ) (bytes : List ℕ) (v : Violation) : Type 0 where
  pub first : Spanned
  pub more : List Spanned
  pub comments : List Comment
  pub lexes : Lexes file bytes (first ∷ more) comments
  pub unspelt : (system : SystemText) → Spells system (first ∷ more) → ⊥
  pub is : v ≡ record { rule = rule.F1; place = first.place }

-- the bytes are a text of a tree whose first violation this is
pub record BreaksRule (file : ℕ) (bytes : List ℕ) (v : Violation) : Type 0 where
  pub system : SystemText
  pub text : IsTextOf file system bytes
  pub first : first_of_rules system ≡ Some v

-- the violation that is reported of the bytes
abbrev pub FirstViolation : ℕ → List ℕ → Violation → Type 0
FirstViolation file bytes v = FirstLexical file bytes v ⊎ (BreaksGrammar file bytes v ⊎ BreaksRule file bytes v)

-- the bytes have a first violation
abbrev pub IsRefused : ℕ → List ℕ → Type 0
IsRefused file bytes = (v : Violation) × FirstViolation file bytes v
