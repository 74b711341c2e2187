-- The tree of a model file as a function of its derivation and its tokens: each part is made of the choices and the tokens in
-- front, and hands on those behind. Where tokens or choices are missing something is made all the same; a derivation has them.
use Rattle.std.specs.Prelude.{ℕ, ◌%◌, Bool, true, false, List, [], ◌∷◌, map, Option, Some, None, position}
use denote.Enum.Bare.{sameb}
use Rattle.og_base.specs.declared.Place.{Place}
use Rattle.og_names.specs.declared.Word.{Word}
use Rattle.og_lexer.specs.contracts.Keyword as keywords
use Rattle.og_lexer.specs.contracts.Mark as marks
use Rattle.og_lexer.specs.declared.Keyword.{Keyword}
use Rattle.og_lexer.specs.declared.Mark.{Mark}
use Rattle.og_lexer.specs.declared.Spanned.{Spanned}
use Rattle.og_lexer.specs.declared.Token.{Token}
use Rattle.og_lexer.specs.declared.Token.TheVariants as token
use Rattle.og_grammar.specs.Reading.{Take, behind, after, many}
use Rattle.og_front.specs.declared.parse.ParseError.{ParseError}
use Rattle.og_front.specs.declared.parse.ParseError.TheVariants.{NoSentence, NoMemory}
use Rattle.og_front.specs.declared.parse.Fixed.{Fixed}
use Rattle.og_front.specs.declared.parse.Fixed.TheVariants as fixed
use Rattle.og_front.specs.declared.kind.TheConstants.{FORMS}
use Rattle.og_front.specs.declared.syntax.Ident.{Ident}
use Rattle.og_front.specs.declared.syntax.SystemText.{SystemText}
use Rattle.og_front.specs.declared.syntax.SignalText.{SignalText}
use Rattle.og_front.specs.declared.syntax.StartText.{StartText}
use Rattle.og_front.specs.declared.syntax.StateText.{StateText}
use Rattle.og_front.specs.declared.syntax.InputText.{InputText}
use Rattle.og_front.specs.declared.syntax.NextText.{NextText}

-- memory could not be had
abbrev pub IsOutOfMemory : ParseError → Type 0
IsOutOfMemory NoSentence = ⊥
IsOutOfMemory (NoMemory met) = Unit {0}

-- ---- kinds of tokens

-- `==` on keywords, and on marks
unfoldable pub same_keyword : Keyword → Keyword → Bool
same_keyword = sameb keywords.the_type

unfoldable pub same_mark : Mark → Mark → Bool
same_mark = sameb marks.the_type

-- whether the token is of this form
abbrev pub is_fixed : Fixed → Token → Bool
is_fixed fixed.Name (token.Name word) = true
is_fixed (fixed.Keyword word) (token.Keyword found) = same_keyword found word
is_fixed (fixed.Mark mark) (token.Mark found) = same_mark found mark
is_fixed fixed.End token.End = true
is_fixed _ _ = false

unfoldable pub fixed_place : Token → Option ℕ
fixed_place t = position (λ form. is_fixed form t) FORMS

abbrev pub kind_by : Option ℕ → ℕ
kind_by (Some place) = place % 256
kind_by None = 255

abbrev pub kind_of : Token → ℕ
kind_of t = kind_by (fixed_place t)

abbrev pub kinds_of : List Spanned → List ℕ
kinds_of tokens = map (λ t. kind_of t.token) tokens

-- ---- tokens

abbrev pub place_in : List Spanned → Place
place_in [] = record { file = 0; line = 0; column = 0 }
place_in (t ∷ ts) = t.place

abbrev pub word_by : Token → Word
word_by (token.Name word) = word
word_by _ = record { bytes = [] }

abbrev pub word_in : List Spanned → Word
word_in [] = record { bytes = [] }
word_in (t ∷ ts) = word_by t.token

abbrev pub name_in : List Spanned → Ident
name_in tokens = record { place = place_in tokens; word = word_in tokens }

-- ---- the parts

-- NEXTSTATE name ;
unfoldable pub next_at : Take Spanned NextText
next_at choices tokens = (record { place = place_in tokens; state = name_in (behind tokens) }, after choices, behind (behind (behind tokens)))

-- OUTPUT name ;
unfoldable pub output_at : Take Spanned Ident
output_at choices tokens = (name_in (behind tokens), after choices, behind (behind (behind tokens)))

-- INPUT name ; { output } next
unfoldable pub input_at : Take Spanned InputText
input_at choices tokens =
    let outputs = many output_at (after choices) (behind (behind (behind tokens))) in
    let next = next_at outputs.1 outputs.2 in
    (record { place = place_in tokens; signal = name_in (behind tokens); outputs = outputs.0; next = next.0 }, next.1, next.2)

-- STATE name ; { input } ENDSTATE ;
unfoldable pub state_at : Take Spanned StateText
state_at choices tokens =
    let inputs = many input_at (after choices) (behind (behind (behind tokens))) in
    (record { name = name_in (behind tokens); inputs = inputs.0 }, inputs.1, behind (behind inputs.2))

-- , name
unfoldable pub further_at : Take Spanned Ident
further_at choices tokens = (name_in (behind tokens), after choices, behind (behind tokens))

-- SIGNAL name { , name } ;
unfoldable pub signal_at : Take Spanned SignalText
signal_at choices tokens =
    let others = many further_at (after choices) (behind (behind tokens)) in
    (record { first = name_in (behind tokens); others = others.0 }, others.1, behind others.2)

-- START ; next
unfoldable pub start_at : Take Spanned StartText
start_at choices tokens =
    let next = next_at (after choices) (behind (behind tokens)) in
    (record { place = place_in tokens; next = next.0 }, next.1, next.2)

-- SYSTEM name ; { signal } BLOCK name ; PROCESS name ; start { state } and the closings
unfoldable pub system_at : Take Spanned SystemText
system_at choices tokens =
    let signals = many signal_at (after choices) (behind (behind (behind tokens))) in
    let process = behind (behind (behind signals.2)) in
    let start = start_at signals.1 (behind (behind (behind process))) in
    let states = many state_at start.1 start.2 in
    (record { system = name_in (behind tokens); signals = signals.0; block = name_in (behind signals.2); process = name_in (behind process); start = start.0; states = states.0 }, states.1, states.2)

-- the tree of a derivation
abbrev pub tree_of : List ℕ → List Spanned → SystemText
tree_of choices tokens = (system_at choices tokens).0
