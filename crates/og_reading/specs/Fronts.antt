-- What stands in front of a list of tokens. A text is said by the tokens that it begins, and by those behind it; grammars of SDL/PR
-- (Z.106) are put together of such words: a token, one text behind another, an option, a repetition.
use Rattle.std.specs.Prelude.{◌≡◌, ℕ, List, [], ◌∷◌, Option, Some, None}
use Rattle.og_base.specs.declared.Place.{Place}
use Rattle.og_lexer.specs.declared.Keyword.{Keyword}
use Rattle.og_lexer.specs.declared.Mark.{Mark}
use Rattle.og_lexer.specs.declared.Mark.TheVariants.{Comma, LeftParenthesis, RightParenthesis}
use Rattle.og_lexer.specs.declared.Spanned.{Spanned}
use Rattle.og_lexer.specs.declared.Token.{Token}
use Rattle.og_lexer.specs.declared.Token.TheVariants as token
use Rattle.og_ast.specs.declared.ground.Name.{Name}
use Rattle.og_ast.specs.declared.ground.TextTree.{TextTree}

infixr 40 ◌▸◌
-- tokens, and those behind a text that they begin with
abbrev pub Text : Type 1
Text = List Spanned → List Spanned → Type 0

-- ---- one token

-- this token stands in front, at this place
pub record Stands (token : Token) (place : Place) (tokens rest : List Spanned) : Type 0 where
  pub first : Spanned
  pub parts : tokens ≡ first ∷ rest
  pub is : first.token ≡ token
  pub at : first.place ≡ place

abbrev pub Reserved : Keyword → Place → Text
Reserved word = Stands (token.Keyword word)

abbrev pub Sign : Mark → Place → Text
Sign mark = Stands (token.Mark mark)

abbrev pub Named : Name → Text
Named name = Stands (token.Name name.word) name.place

abbrev pub Numeral : ℕ → Place → Text
Numeral n = Stands (token.Number n)

abbrev pub Quoted : TextTree → Text
Quoted text = Stands (token.Text text.text) text.place

-- a keyword, a mark and a number whose place is not kept
abbrev pub Word : Keyword → Text
Word word tokens rest = (place : Place) × Reserved word place tokens rest

abbrev pub Passed : Mark → Text
Passed mark tokens rest = (place : Place) × Sign mark place tokens rest

abbrev pub Digits : ℕ → Text
Digits n tokens rest = (place : Place) × Numeral n place tokens rest

-- ---- texts one behind the other

abbrev pub nothing : Text
nothing tokens rest = tokens ≡ rest

abbrev pub ◌▸◌ : Text → Text → Text
(a ▸ b) tokens rest = (middle : List Spanned) × a tokens middle × b middle rest

abbrev pub optional : {X : Type 0} → (X → Text) → Option X → Text
optional Is None = nothing
optional Is (Some x) = Is x

abbrev pub each : {X : Type 0} → (X → Text) → List X → Text
each Is [] = nothing
each Is (x ∷ xs) = Is x ▸ each Is xs

-- one at least, with this mark between them
abbrev pub separated_by : {X : Type 0} → Mark → (X → Text) → List X → Text
separated_by mark Is [] tokens rest = ⊥
separated_by mark Is (x ∷ xs) tokens rest = (Is x ▸ each (λ y. Passed mark ▸ Is y) xs) tokens rest

-- with commas
abbrev pub separated : {X : Type 0} → (X → Text) → List X → Text
separated = separated_by Comma

-- such a list, or nothing where it is empty
abbrev pub perhaps_separated : {X : Type 0} → (X → Text) → List X → Text
perhaps_separated Is [] = nothing
perhaps_separated Is (x ∷ xs) = separated Is (x ∷ xs)

-- such a list in brackets, or nothing where it is empty
abbrev pub in_brackets : {X : Type 0} → (X → Text) → List X → Text
in_brackets Is [] = nothing
in_brackets Is (x ∷ xs) = Passed LeftParenthesis ▸ separated Is (x ∷ xs) ▸ Passed RightParenthesis

-- ---- what may not stand in front

-- the first token is not this one
abbrev pub IsNotBefore : Token → List Spanned → Type 0
IsNotBefore token [] = Unit {0}
IsNotBefore token (t ∷ ts) = t.token ≡ token → ⊥
