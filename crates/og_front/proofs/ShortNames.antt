-- Names that are short: those of a part of the file, and those of a file whose tokens stand in their places.
use Rattle.std.proofs.Common.{◌≡◌, ℕ, zero, suc, ◌<◌, ◌≤◌, List, [], ◌∷◌, ◌++◌, length, map, get_or, refl, sym, ap, subst, ◌∙◌, arith}
use Rattle.std.specs.List.{flat_map, AllByRecursion}
use Rattle.std.specs.Prelude.{slice_range}
use Rattle.std.proofs.lemmas.List.{append-nil}
use Rattle.og_names.specs.declared.Word.{Word}
use Rattle.og_lexer.specs.declared.Keyword.TheVariants as keyword
use Rattle.og_lexer.specs.declared.Mark.TheVariants.{Semicolon}
use Rattle.og_lexer.specs.declared.Spanned.{Spanned}
use Rattle.og_lexer.specs.declared.Token.{Token}
use Rattle.og_lexer.specs.declared.Token.TheVariants as token
use Rattle.og_lexer.specs.Texts.{IsWritten, AreInPlace}
use Rattle.og_front.specs.declared.syntax.Ident.{Ident}
use Rattle.og_front.specs.declared.syntax.SystemText.{SystemText}
use Rattle.og_front.specs.declared.syntax.SignalText.{SignalText}
use Rattle.og_front.specs.declared.syntax.StateText.{StateText}
use Rattle.og_front.specs.declared.syntax.InputText.{InputText}
use Rattle.og_front.specs.Grammar.{Form, Reserved, ReservedAt, Sign, Named, Last, Begins, next_forms, output_forms, input_forms, state_forms, further_forms, signal_forms, start_forms, closing_forms, system_forms, Spells}
use Rattle.og_front.specs.Names.{declared_by, input_names, state_names, all_names, IsShort, AreShort, HasShortNames}
use Rattle.og_front.specs.Rules.{signal_names, header_names}
use Rattle.og_front.proofs.Sentences.{spelt_forms}

-- ---- parts of a list of which each element is so

front_of : {X : Type 0} (P : X → Type 0) (xs ys : List X) → AllByRecursion P (xs ++ ys) → AllByRecursion P xs
front_of P [] ys all = tt
front_of P (x ∷ xs) ys all = (all.0, front_of P xs ys all.1)

back_of : {X : Type 0} (P : X → Type 0) (xs ys : List X) → AllByRecursion P (xs ++ ys) → AllByRecursion P ys
back_of P [] ys all = all
back_of P (x ∷ xs) ys all = back_of P xs ys all.1

one_of : {X : Type 0} (P : X → Type 0) (xs : List X) (i : ℕ) (x : X) → AllByRecursion P xs → i < length xs → x ≡ get_or xs i x → P x
one_of P [] i x all lt at = absurd (omega arith)
one_of P (y ∷ ys) zero x all lt at = subst P (sym at) all.0
one_of P (y ∷ ys) (suc i) x all lt at = one_of P ys i x all.1 (omega arith) at

image_of : {X Y : Type 0} (P : Y → Type 0) (f : X → Y) (xs : List X) (i : ℕ) (x : X) → AllByRecursion P (map f xs) → i < length xs → x ≡ get_or xs i x → P (f x)
image_of P f [] i x all lt at = absurd (omega arith)
image_of P f (y ∷ ys) zero x all lt at = subst (λ z. P (f z)) (sym at) all.0
image_of P f (y ∷ ys) (suc i) x all lt at = image_of P f ys i x all.1 (omega arith) at

piece_of : {X Y : Type 0} (P : Y → Type 0) (f : X → List Y) (xs : List X) (i : ℕ) (x : X) → AllByRecursion P (flat_map f xs) → i < length xs → x ≡ get_or xs i x → AllByRecursion P (f x)
piece_of P f [] i x all lt at = absurd (omega arith)
piece_of P f (y ∷ ys) zero x all lt at = subst (λ z. AllByRecursion P (f z)) (sym at) (front_of P (f y) (flat_map f ys) all)
piece_of P f (y ∷ ys) (suc i) x all lt at = piece_of P f ys i x (back_of P (f y) (flat_map f ys) all) (omega arith) at

-- ---- the names of a part of the file

pub short_name : (names : List Ident) (i : ℕ) (name : Ident) → AreShort names → i < length names → name ≡ get_or names i name → IsShort name
short_name names i name short lt at = one_of IsShort names i name short.each lt at

pub short_image : {X : Type 0} (f : X → Ident) (xs : List X) (i : ℕ) (x : X) → AreShort (map f xs) → i < length xs → x ≡ get_or xs i x → IsShort (f x)
short_image f xs i x short lt at = image_of IsShort f xs i x short.each lt at

pub short_piece : {X : Type 0} (f : X → List Ident) (xs : List X) (i : ℕ) (x : X) → AreShort (flat_map f xs) → i < length xs → x ≡ get_or xs i x → AreShort (f x)
short_piece f xs i x short lt at = record { each = piece_of IsShort f xs i x short.each lt at }

pub short_first : (name : Ident) (names : List Ident) → AreShort (name ∷ names) → IsShort name
short_first name names short = short.each.0

pub short_others : (name : Ident) (names : List Ident) → AreShort (name ∷ names) → AreShort names
short_others name names short = record { each = short.each.1 }

-- the names behind the signals
behind : (system : SystemText) → HasShortNames system → AllByRecursion IsShort (system.block ∷ system.process ∷ system.start.next.state ∷ flat_map state_names system.states)
behind system short = back_of IsShort (signal_names system) (system.block ∷ system.process ∷ system.start.next.state ∷ flat_map state_names system.states) short.each.1

pub short_signals : (system : SystemText) → HasShortNames system → AreShort (signal_names system)
short_signals system short =
    record { each = front_of IsShort (signal_names system) (system.block ∷ system.process ∷ system.start.next.state ∷ flat_map state_names system.states) short.each.1 }

pub short_block : (system : SystemText) → HasShortNames system → IsShort system.block
short_block system short = (behind system short).0

pub short_process : (system : SystemText) → HasShortNames system → IsShort system.process
short_process system short = (behind system short).1.0

headers_of : (states : List StateText) → AllByRecursion IsShort (flat_map state_names states) → AllByRecursion IsShort (map (λ state. state.name) states)
headers_of [] all = tt
headers_of (state ∷ states) all = (all.0, headers_of states (back_of IsShort (flat_map input_names state.inputs) (flat_map state_names states) all.1))

pub short_headers : (system : SystemText) → HasShortNames system → AreShort (header_names system)
short_headers system short = record { each = headers_of system.states (behind system short).1.1.1 }

-- what each call that adds a name rests on
pub ruleset shorts = (short_name, short_image, short_piece, short_first, short_others, short_signals, short_block, short_process, short_headers)

-- ---- the names of a file whose tokens stand in their places

abbrev pub named : List Form → List Ident
named [] = []
named (Reserved word ∷ forms) = named forms
named (ReservedAt word place ∷ forms) = named forms
named (Sign mark ∷ forms) = named forms
named (Named name ∷ forms) = name ∷ named forms
named (Last ∷ forms) = named forms

named-append : (forms more : List Form) → named (forms ++ more) ≡ named forms ++ named more
named-append [] more = refl
named-append (Reserved word ∷ forms) more = named-append forms more
named-append (ReservedAt word place ∷ forms) more = named-append forms more
named-append (Sign mark ∷ forms) more = named-append forms more
named-append (Named name ∷ forms) more = ap (λ (names : List Ident). name ∷ names) (named-append forms more)
named-append (Last ∷ forms) more = named-append forms more

named_each : (forms_of : Ident → List Form) → ((name : Ident) → named (forms_of name) ≡ name ∷ []) → (names : List Ident) → named (flat_map forms_of names) ≡ names
named_each forms_of one [] = refl
named_each forms_of one (name ∷ names) = named-append (forms_of name) (flat_map forms_of names) ∙ (λ i. one name i ++ named_each forms_of one names i)

named_pieces : {X : Type 0} (forms_of : X → List Form) (names_of : X → List Ident) → ((x : X) → named (forms_of x) ≡ names_of x) → (xs : List X) → named (flat_map forms_of xs) ≡ flat_map names_of xs
named_pieces forms_of names_of one [] = refl
named_pieces forms_of names_of one (x ∷ xs) = named-append (forms_of x) (flat_map forms_of xs) ∙ (λ i. one x i ++ named_pieces forms_of names_of one xs i)

-- names behind which no name follows
named_before : (forms more : List Form) (names : List Ident) → named more ≡ [] → named forms ≡ names → named (forms ++ more) ≡ names
named_before forms more names none is = named-append forms more ∙ (λ i. is i ++ none i) ∙ append-nil names

in_signal : (signal : SignalText) → named (signal_forms signal) ≡ declared_by signal
in_signal signal =
    ap (λ (names : List Ident). signal.first ∷ names) (named_before (flat_map further_forms signal.others) (Sign Semicolon ∷ []) signal.others refl (named_each further_forms (λ name. refl) signal.others))

in_input : (input : InputText) → named (input_forms input) ≡ input_names input
in_input input =
    ap (λ (names : List Ident). input.signal ∷ names) (named-append (flat_map output_forms input.outputs) (next_forms input.next)
    ∙ ap (λ (names : List Ident). names ++ input.next.state ∷ []) (named_each output_forms (λ name. refl) input.outputs))

in_state : (state : StateText) → named (state_forms state) ≡ state_names state
in_state state =
    ap (λ (names : List Ident). state.name ∷ names) (named_before (flat_map input_forms state.inputs) (Reserved keyword.Endstate ∷ Sign Semicolon ∷ []) (flat_map input_names state.inputs) refl
    (named_pieces input_forms input_names in_input state.inputs))

-- what stands behind the signals
abbrev pub rest_forms : SystemText → List Form
rest_forms system =
    Reserved keyword.Block ∷ Named system.block ∷ Sign Semicolon ∷ Reserved keyword.Process ∷ Named system.process ∷ Sign Semicolon ∷ (start_forms system.start
    ++ flat_map state_forms system.states ++ closing_forms)

in_rest : (system : SystemText) → named (rest_forms system) ≡ system.block ∷ system.process ∷ system.start.next.state ∷ flat_map state_names system.states
in_rest system =
    ap (λ (names : List Ident). system.block ∷ system.process ∷ system.start.next.state ∷ names)
    (named_before (flat_map state_forms system.states) closing_forms (flat_map state_names system.states) refl (named_pieces state_forms state_names in_state system.states))

-- the names that the grammar asks for are all names
pub named_system : (system : SystemText) → named (system_forms system) ≡ all_names system
named_system system =
    ap (λ (names : List Ident). system.system ∷ names) (named-append (flat_map signal_forms system.signals) (rest_forms system)
    ∙ (λ i. named_pieces signal_forms declared_by in_signal system.signals i ++ in_rest system i))

short_written : (t : Token) (word : Word) (text : List ℕ) → t ≡ token.Name word → IsWritten t text → length word.bytes ≤ 64
short_written t word text e written =
    let w = subst (λ k. IsWritten k text) e written in
    subst (λ bytes. length bytes ≤ 64) w.0 w.2

begun_short : (file : ℕ) (bytes : List ℕ) (at : ℕ) (forms : List Form) (tokens rest : List Spanned) → Begins forms tokens rest → AreInPlace file bytes at tokens → AllByRecursion IsShort (named forms)
begun_short file bytes at [] tokens rest h placed = tt
begun_short file bytes at (Reserved word ∷ forms) tokens rest h placed =
    let p = subst (λ ts. AreInPlace file bytes at ts) h.2 placed in begun_short file bytes h.0.end forms h.1 rest h.4 p.2
begun_short file bytes at (ReservedAt word place ∷ forms) tokens rest h placed =
    let p = subst (λ ts. AreInPlace file bytes at ts) h.2 placed in begun_short file bytes h.0.end forms h.1 rest h.4 p.2
begun_short file bytes at (Sign mark ∷ forms) tokens rest h placed =
    let p = subst (λ ts. AreInPlace file bytes at ts) h.2 placed in begun_short file bytes h.0.end forms h.1 rest h.4 p.2
begun_short file bytes at (Named name ∷ forms) tokens rest h placed =
    let p = subst (λ ts. AreInPlace file bytes at ts) h.2 placed in
    (short_written h.0.token name.word (slice_range bytes h.0.start h.0.end) h.3.0 p.1.written, begun_short file bytes h.0.end forms h.1 rest h.4 p.2)
begun_short file bytes at (Last ∷ forms) tokens rest h placed =
    let p = subst (λ ts. AreInPlace file bytes at ts) h.2 placed in begun_short file bytes h.0.end forms h.1 rest h.4 p.2

-- a name token has at most 64 bytes, so that each name of the tree is short
pub short_spelt : (system : SystemText) (tokens : List Spanned) (file : ℕ) (bytes : List ℕ) (at : ℕ) → Spells system tokens → AreInPlace file bytes at tokens → HasShortNames system
short_spelt system tokens file bytes at spells placed =
    record { each = subst (AllByRecursion IsShort) (named_system system) (begun_short file bytes at (system_forms system) tokens [] (spelt_forms system tokens spells) placed) }
