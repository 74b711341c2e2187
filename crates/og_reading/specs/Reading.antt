-- How a tree is made of a derivation and its tokens: each part is made of the choices and the tokens in front, and hands on those
-- behind. Where tokens or choices are missing something is made all the same; a derivation has them.
use Rattle.std.specs.Prelude.{◌≡◌, ℕ, zero, suc, Bool, true, false, IsTrue, List, [], ◌∷◌, ◌++◌, length, Option, Some, None, if◌then◌else◌, ◌==◌, refl}
use Rattle.og_base.specs.declared.Place.{Place}
use Rattle.og_names.specs.declared.Word.{Word}
use Rattle.og_lexer.specs.declared.Spanned.{Spanned}
use Rattle.og_lexer.specs.declared.Token.{Token}
use Rattle.og_lexer.specs.declared.Token.TheVariants as token
use Rattle.og_ast.specs.declared.ground.Name.{Name}
use Rattle.og_ast.specs.declared.ground.TextTree.{TextTree}
use Rattle.og_ast.specs.Names.{is_name}
use Rattle.og_reading.specs.declared.left.Left.{Left}

-- the choices and the tokens that are left
pub record Rest : Type 0 where
  pub choices : List ℕ
  pub tokens : List Spanned

abbrev pub rest_of : Left → Rest
rest_of left = record { choices = left.choices.now; tokens = left.tokens.now }

abbrev pub tail_of : {A : Type 0} → List A → List A
tail_of [] = []
tail_of (x ∷ xs) = xs

-- behind one token, and behind one choice
abbrev pub behind : Rest → Rest
behind rest = record { choices = rest.choices; tokens = tail_of rest.tokens }

abbrev pub after : Rest → Rest
after rest = record { choices = tail_of rest.choices; tokens = rest.tokens }

-- ---- choices

-- the choice in front
abbrev pub first_of : List ℕ → ℕ
first_of [] = 0
first_of (c ∷ cs) = c

abbrev pub choice_in : Rest → ℕ
choice_in rest = first_of rest.choices

-- whether a repetition goes on, or an option is there
abbrev pub goes_on : Rest → Bool
goes_on rest = choice_in rest == 1

-- ---- tokens

abbrev pub place_of : List Spanned → Place
place_of [] = record { file = 0; line = 0; column = 0 }
place_of (t ∷ ts) = t.place

abbrev pub place_in : Rest → Place
place_in rest = place_of rest.tokens

abbrev pub word_by : Token → Word
word_by (token.Name word) = word
word_by (token.Text text) = text
word_by _ = record { bytes = [] }

abbrev pub word_of : List Spanned → Word
word_of [] = record { bytes = [] }
word_of (t ∷ ts) = word_by t.token

abbrev pub word_in : Rest → Word
word_in rest = word_of rest.tokens

abbrev pub number_by : Token → ℕ
number_by (token.Number n) = n
number_by _ = 0

abbrev pub number_of : List Spanned → ℕ
number_of [] = 0
number_of (t ∷ ts) = number_by t.token

abbrev pub number_in : Rest → ℕ
number_in rest = number_of rest.tokens

abbrev pub text_in : Rest → TextTree
text_in rest = record { place = place_in rest; text = word_in rest }

-- the name that a word is, and `x` where it is none
abbrev pub named_by : (place : Place) (word : Word) (b : Bool) → is_name word.bytes ≡ b → Name
named_by place word true e = record { place = place; word = word; spelling = e }
named_by place word false e = record { place = place; word = record { bytes = 120 ∷ [] }; spelling = refl }

unfoldable pub named : Place → Word → Name
named place word = named_by place word (is_name word.bytes) refl

abbrev pub name_in : Rest → Name
name_in rest = named (place_in rest) (word_in rest)

-- ---- parts

-- a part is made of what stands in front; what is left is handed on
abbrev pub Take : Type 0 → Type 0
Take X = Rest → X × Rest

-- an option
abbrev pub maybe : {X : Type 0} → Take X → Take (Option X)
maybe p rest = if goes_on rest then (let x = p (after rest) in (Some x.0, x.1)) else (None, after rest)

-- each turn of a repetition makes something of what was made before, up to this number of turns
unfoldable pub turns : {X : Type 0} → (X → Take X) → ℕ → X → Take X
turns step zero x rest = (x, rest)
turns step (suc n) x rest = if goes_on rest then (let y = step x (after rest) in turns step n y.0 y.1) else (x, after rest)

-- as often as the choices say: not more than there are choices
unfoldable pub onto : {X : Type 0} → (X → Take X) → X → Take X
onto step x rest = turns step (length rest.choices) x rest

-- one more at the end
abbrev pub pushed : {X : Type 0} → Take X → List X → Take (List X)
pushed p xs rest = let x = p rest in (xs ++ x.0 ∷ [], x.1)

-- these, and then a part as often as the choices say
abbrev pub more_of : {X : Type 0} → Take X → List X → Take (List X)
more_of p = onto (pushed p)

-- a part behind a mark
abbrev pub next : {X : Type 0} → Take X → Take X
next p rest = p (behind (after rest))

-- a part, and then others behind a mark each
abbrev pub listed : {X : Type 0} → Take X → Take (List X)
listed p rest = let x = p rest in more_of (next p) (x.0 ∷ []) x.1

-- a part of its own that is such a list
abbrev pub list_at : {X : Type 0} → Take X → Take (List X)
list_at p rest = listed p (after rest)

-- such a list in brackets, or nothing
abbrev pub list_in_brackets : {X : Type 0} → Take X → Take (List X)
list_in_brackets p rest = if goes_on rest then (let xs = list_at p (behind (after (after rest))) in (xs.0, behind xs.1)) else ([], after rest)

-- such a list, or nothing
abbrev pub list_or_none : {X : Type 0} → Take X → Take (List X)
list_or_none p rest = if goes_on rest then list_at p (after rest) else ([], after rest)
