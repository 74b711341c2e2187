-- The grammar of a model file (Z.106) is the table GRAMMAR of the source: a file is a sentence where its tokens have a
-- derivation there, the end of the file last, and its tree is a function of it. The forms say of which tokens a tree consists.
use Rattle.std.specs.Prelude.{◌≡◌, ℕ, List, [], ◌∷◌, ◌++◌}
use Rattle.std.specs.List.{flat_map}
use Rattle.og_base.specs.declared.Place.{Place}
use Rattle.og_lexer.specs.declared.Keyword.{Keyword}
use Rattle.og_lexer.specs.declared.Keyword.TheVariants as keyword
use Rattle.og_lexer.specs.declared.Mark.{Mark}
use Rattle.og_lexer.specs.declared.Mark.TheVariants.{Semicolon, Comma}
use Rattle.og_lexer.specs.declared.Spanned.{Spanned}
use Rattle.og_lexer.specs.declared.Token.TheVariants as token
use Rattle.og_grammar.specs.Reading.{Begins as BeginsBy}
use Rattle.og_grammar.specs.Sentence.{Spells as Derived}
use Rattle.og_front.specs.declared.grammar.TheConstants.{GRAMMAR, LAST}
use Rattle.og_front.specs.Reading.{kinds_of, tree_of}
use Rattle.og_front.specs.declared.syntax.Ident.{Ident}
use Rattle.og_front.specs.declared.syntax.SystemText.{SystemText}
use Rattle.og_front.specs.declared.syntax.SignalText.{SignalText}
use Rattle.og_front.specs.declared.syntax.StartText.{StartText}
use Rattle.og_front.specs.declared.syntax.StateText.{StateText}
use Rattle.og_front.specs.declared.syntax.InputText.{InputText}
use Rattle.og_front.specs.declared.syntax.NextText.{NextText}

-- what a production asks of one token: a keyword, a keyword at a place that the tree keeps, a mark, a name at its place, or the end
pub data Form : Type 0 where
  Reserved : (word : Keyword) → Form
  ReservedAt : (word : Keyword) (place : Place) → Form
  Sign : (mark : Mark) → Form
  Named : (name : Ident) → Form
  Last : Form

abbrev pub IsSo : Form → Spanned → Type 0
IsSo (Reserved word) t = t.token ≡ token.Keyword word
IsSo (ReservedAt word place) t = (t.token ≡ token.Keyword word) × (t.place ≡ place)
IsSo (Sign mark) t = t.token ≡ token.Mark mark
IsSo (Named name) t = (t.token ≡ token.Name name.word) × (t.place ≡ name.place)
IsSo Last t = t.token ≡ token.End

-- tokens of these forms stand in front, and then the rest
abbrev pub Begins : List Form → List Spanned → List Spanned → Type 0
Begins forms tokens rest = BeginsBy IsSo forms tokens rest

-- NEXTSTATE name ;
abbrev pub next_forms : NextText → List Form
next_forms next = ReservedAt keyword.Nextstate next.place ∷ Named next.state ∷ Sign Semicolon ∷ []

-- OUTPUT name ;
abbrev pub output_forms : Ident → List Form
output_forms signal = Reserved keyword.Output ∷ Named signal ∷ Sign Semicolon ∷ []

-- INPUT name ; { output } next
abbrev pub input_forms : InputText → List Form
input_forms input = ReservedAt keyword.Input input.place ∷ Named input.signal ∷ Sign Semicolon ∷ (flat_map output_forms input.outputs ++ next_forms input.next)

-- STATE name ; { input } ENDSTATE ;
abbrev pub state_forms : StateText → List Form
state_forms state = Reserved keyword.State ∷ Named state.name ∷ Sign Semicolon ∷ (flat_map input_forms state.inputs ++ Reserved keyword.Endstate ∷ Sign Semicolon ∷ [])

-- , name
abbrev pub further_forms : Ident → List Form
further_forms name = Sign Comma ∷ Named name ∷ []

-- SIGNAL name { , name } ;
abbrev pub signal_forms : SignalText → List Form
signal_forms signal = Reserved keyword.Signal ∷ Named signal.first ∷ (flat_map further_forms signal.others ++ Sign Semicolon ∷ [])

-- START ; next
abbrev pub start_forms : StartText → List Form
start_forms start = ReservedAt keyword.Start start.place ∷ Sign Semicolon ∷ next_forms start.next

-- ENDPROCESS ; ENDBLOCK ; ENDSYSTEM ; and the end of the file
abbrev pub closing_forms : List Form
closing_forms = Reserved keyword.Endprocess ∷ Sign Semicolon ∷ Reserved keyword.Endblock ∷ Sign Semicolon ∷ Reserved keyword.Endsystem ∷ Sign Semicolon ∷ Last ∷ []

-- SYSTEM name ; { signal } BLOCK name ; PROCESS name ; start { state } ENDPROCESS ; ENDBLOCK ; ENDSYSTEM ;
abbrev pub system_forms : SystemText → List Form
system_forms system =
    Reserved keyword.System ∷ Named system.system ∷ Sign Semicolon ∷ (flat_map signal_forms system.signals
    ++ Reserved keyword.Block ∷ Named system.block ∷ Sign Semicolon ∷ Reserved keyword.Process ∷ Named system.process ∷ Sign Semicolon ∷ (start_forms system.start
    ++ flat_map state_forms system.states ++ closing_forms))

-- the tokens are a sentence of the grammar, with this tree
pub record Spells (system : SystemText) (tokens : List Spanned) : Type 0 where
  pub choices : List ℕ
  pub derived : Derived GRAMMAR LAST (kinds_of tokens) choices
  pub tree : system ≡ tree_of choices tokens
