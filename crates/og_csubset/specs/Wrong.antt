-- Where a text that no program spells goes wrong: at the first token such that no program begins with the tokens up to and
-- including it. What is no token of a program is such a token too: a byte that begins none, a word of C99 that is no name
-- and that no program has, a number with a leading zero or past 2^63 - 1, `++` and `--`; and so is the end of the text where
-- the tokens are no program. The first line counts as one token.
use Rattle.std.specs.Prelude.{◌≡◌, ℕ, List, [], ◌∷◌, ◌++◌, IsTrue, IsFalse, ⊤}
use Rattle.std.specs.List.{list_all}
use Rattle.og_csubset.specs.declared.CProgram.{CProgram}
use Rattle.og_csubset.specs.Tokens.{Token, is_space, Begins, Cuts, first_line}
use Rattle.og_csubset.specs.Spelling.{IsProgram}

-- some program begins with these tokens
abbrev pub BeginsProgram : List Token → Type 0
BeginsProgram tokens = (P : CProgram) × (more : List Token) × IsProgram P (tokens ++ more)

-- the bytes are at their end, or do not begin with white space
abbrev pub BeginsWithNoSpace : List ℕ → Type 0
BeginsWithNoSpace [] = ⊤
BeginsWithNoSpace (byte ∷ bytes) = IsFalse (is_space byte)

-- the text goes wrong behind its first line and these bytes
pub record GoesWrongBehind (text before : List ℕ) : Type 0 where
  pub tokens : List Token
  pub body : List ℕ
  pub rest : List ℕ
  pub space : List ℕ
  pub here : List ℕ
  pub starts : text ≡ first_line ++ body
  pub cuts : Cuts tokens body rest
  pub so_far : BeginsProgram tokens
  pub no_token : (token : Token) (more : List ℕ) → Begins rest token more → BeginsProgram (tokens ++ token ∷ []) → ⊥
  pub no_end : IsTrue (list_all is_space rest) → (P : CProgram) → IsProgram P tokens → ⊥
  pub joined : rest ≡ space ++ here
  pub blank : IsTrue (list_all is_space space)
  pub at_byte : BeginsWithNoSpace here
  pub place : text ≡ before ++ here

-- the text goes wrong right behind the bytes `before`
pub data GoesWrong (text : List ℕ) : List ℕ → Type 0 where
  in_first_line : ((body : List ℕ) → text ≡ first_line ++ body → ⊥) → GoesWrong text []
  behind : {before : List ℕ} → GoesWrongBehind text before → GoesWrong text before
