-- A first violation stands in one of the files.
use Rattle.std.proofs.Common.{◌≡◌, ◌∙◌, ℕ, zero, suc, ◌+◌, ◌<◌, ◌≤◌, Bool, true, false, if◌then◌else◌, List, [], ◌∷◌, ◌++◌, length, take, Option, Some, None, sym, ap, subst, refl, inl, inr, arith}
use Rattle.std.specs.Prelude.{slice_get, ◌==◌, ◌-◌, ◌||◌, nat_lt}
use Rattle.std.specs.List.{AllByRecursion, flat_map}
use Rattle.og_base.specs.declared.Place.{Place}
use Rattle.og_base.specs.declared.Rule.{Rule}
use Rattle.og_base.specs.declared.Rule.TheVariants as rules
use Rattle.og_base.specs.declared.Violation.{Violation}
use Rattle.og_base.specs.Order.{comes_before, sooner, first_from, first_of}
use Rattle.og_lexer.specs.declared.Spanned.{Spanned}
use Rattle.og_lexer.specs.declared.Comment.{Comment}
use Rattle.og_lexer.specs.declared.Token.{Token}
use Rattle.og_lexer.specs.Places.{first_place, next_place, place_after, place_at}
use Rattle.og_lexer.specs.declared.Language.{Language}
use Rattle.og_lexer.specs.declared.Language.TheVariants.{Sdl, Asn}
use Rattle.og_lexer.specs.Texts.{Piece, token_of, spanned, tokens_from, LexesIn}
use Rattle.og_asn1.specs.Grammar.{FirstSyntactic}
use Rattle.og_names.proofs.Truths.{same_value as same_some}
use Rattle.og_front.specs.declared.rules.Tables.{Tables}
use Rattle.og_front.specs.declared.syntax.Ident.{Ident}
use Rattle.og_front.specs.declared.syntax.InputText.{InputText}
use Rattle.og_front.specs.declared.syntax.SignalText.{SignalText}
use Rattle.og_front.specs.declared.syntax.StateText.{StateText}
use Rattle.og_front.specs.declared.syntax.SystemText.{SystemText}
use Rattle.og_front.specs.Files.{IsTextOf}
use Rattle.og_front.specs.Grammar.{Form, Reserved, ReservedAt, Sign, Named, Last, Begins, system_forms}
use Rattle.og_front.specs.Names.{declared_by, input_names, state_names, all_names}
use Rattle.og_front.specs.Rules.{key, tables_of, signal_names, is_in, looked_up, as_signal, as_state, used_by_input, used_by_state, unknown_names, violated, violated_if, repeated_from, double_underline, double_underlines_of, has_double_underline, double_underlines, handlers_of, handlers_in, is_handled, with_handler, repeated_handlers_from}
use Rattle.og_names.specs.Folding.{with_name}
use Rattle.og_front.proofs.Elements.{each_both, each_more, each_pieces, pieces_each, front_of, back_of}
use Rattle.og_front.proofs.Sentences.{spelt_forms}
use Rattle.og_front.proofs.ShortNames.{named, named_system}
use Rattle.og_judge.specs.Judging.{SourceFile, Class, Lexical, Syntactic, Forms, Data, Names, States, Limits, classes, IsLexed, BreaksLexis, BreaksModules, AreOwnModules, AreModulesOf, DataBreaks, LacksSyntax, IsParsed, BreaksSyntax, LacksForm, IsBuilt, BreaksForms, AreTextOf, violations_in, IsFirstOf, IsFirstAmong, IsFirstViolation}
use Rattle.og_judge.proofs.OneByOne.{first_in as first_file_in}
use Rattle.og_judge.proofs.TypeNames.{ModuleIn, trees_are_in}
use Rattle.og_judge.proofs.DataPlaces.{violation_in}
use Rattle.og_asn1.specs.declared.syntax.ModuleTree.{ModuleTree}

-- ---- places of tokens

abbrev stepped : Place → Bool → Place
stepped p c = if c then record { file = p.file; line = p.line + 1; column = 1 } else record { file = p.file; line = p.line; column = p.column + 1 }

stepped_file : (p : Place) (c : Bool) → (stepped p c).file ≡ p.file
stepped_file p true = refl
stepped_file p false = refl

after_file : (p : Place) (bytes : List ℕ) → (place_after p bytes).file ≡ p.file
after_file p [] = refl
after_file p (b ∷ bs) = after_file (next_place p b) bs ∙ stepped_file p (b == 10)

at_file : (file : ℕ) (bytes : List ℕ) (at : ℕ) → (place_at file bytes at).file ≡ file
at_file file bytes at = after_file (first_place file) (take at bytes)

-- the token stands in the file of this number
abbrev TokenIn : ℕ → Spanned → Type 0
TokenIn file t = t.place.file ≡ file

spanned_in : (file : ℕ) (token : Option Token) (place : Place) (start end : ℕ) → place.file ≡ file → AllByRecursion (TokenIn file) (spanned token place start end)
spanned_in file None place start end h = tt
spanned_in file (Some t) place start end h = (h, tt)

tokens_in : (file : ℕ) (bytes : List ℕ) (at : ℕ) (pieces : List Piece) → AllByRecursion (TokenIn file) (tokens_from file bytes at pieces)
tokens_in file bytes at [] = (at_file file bytes at, tt)
tokens_in file bytes at (p ∷ ps) =
    each_both (TokenIn file) (spanned (token_of p.shape p.text) (place_at file bytes at) at (at + length p.text)) (tokens_from file bytes (at + length p.text) ps)
    (spanned_in file (token_of p.shape p.text) (place_at file bytes at) at (at + length p.text) (at_file file bytes at))
    (tokens_in file bytes (at + length p.text) ps)

lexed_in : (language : Language) (file : ℕ) (bytes : List ℕ) (tokens : List Spanned) (comments : List Comment) → LexesIn language file bytes tokens comments → AllByRecursion (TokenIn file) tokens
lexed_in language file bytes tokens comments lexes = subst (AllByRecursion (TokenIn file)) (sym lexes.tokens_are) (tokens_in file bytes 0 lexes.pieces)

-- ---- names of a tree

module _ (number : ℕ) where
  -- the name stands in this file
  abbrev NameIn : Ident → Type 0
  NameIn name = name.place.file ≡ number

  abbrev FormIn : Form → Type 0
  FormIn (Named name) = NameIn name
  FormIn _ = Unit {0}

  begun_in : (forms : List Form) (tokens rest : List Spanned) → Begins forms tokens rest → AllByRecursion (TokenIn number) tokens → AllByRecursion NameIn (named forms)
  begun_in [] tokens rest h all = tt
  begun_in (Reserved word ∷ forms) tokens rest h all = let a = subst (AllByRecursion (TokenIn number)) h.2 all in begun_in forms h.1 rest h.4 a.1
  begun_in (ReservedAt word place ∷ forms) tokens rest h all = let a = subst (AllByRecursion (TokenIn number)) h.2 all in begun_in forms h.1 rest h.4 a.1
  begun_in (Sign mark ∷ forms) tokens rest h all = let a = subst (AllByRecursion (TokenIn number)) h.2 all in begun_in forms h.1 rest h.4 a.1
  begun_in (Named name ∷ forms) tokens rest h all =
      let a = subst (AllByRecursion (TokenIn number)) h.2 all in
      (subst (λ (p : Place). p.file ≡ number) h.3.1 a.0, begun_in forms h.1 rest h.4 a.1)
  begun_in (Last ∷ forms) tokens rest h all = let a = subst (AllByRecursion (TokenIn number)) h.2 all in begun_in forms h.1 rest h.4 a.1

  names_in : (system : SystemText) (bytes : List ℕ) → IsTextOf number system bytes → AllByRecursion NameIn (all_names system)
  names_in system bytes text =
      subst (AllByRecursion NameIn) (named_system system)
      (begun_in (system_forms system) text.tokens [] (spelt_forms system text.tokens text.spells) (lexed_in Sdl number bytes text.tokens text.comments text.lexes))

  -- the names of a tree, by what they are the names of
  record TreeIn (system : SystemText) : Type 0 where
    signals : AllByRecursion (λ (signal : SignalText). AllByRecursion NameIn (declared_by signal)) system.signals
    block : NameIn system.block
    process : NameIn system.process
    start : NameIn system.start.next.state
    states : AllByRecursion (λ (state : StateText). AllByRecursion NameIn (state_names state)) system.states

  tree_in : (system : SystemText) (bytes : List ℕ) → IsTextOf number system bytes → TreeIn system
  tree_in system bytes text =
      let all = (names_in system bytes text).1 in
      let back = back_of NameIn (flat_map declared_by system.signals) (system.block ∷ system.process ∷ system.start.next.state ∷ flat_map state_names system.states) all in
      record {
        signals = pieces_each NameIn declared_by system.signals (front_of NameIn (flat_map declared_by system.signals) (system.block ∷ system.process ∷ system.start.next.state ∷ flat_map state_names system.states) all);
        block = back.0;
        process = back.1.0;
        start = back.1.1.0;
        states = pieces_each NameIn state_names system.states back.1.1.1;
      }

  -- ---- violations of a tree

  abbrev ViolationIn : Violation → Type 0
  ViolationIn v = v.place.file ≡ number

  abbrev AreIn : List Violation → Type 0
  AreIn vs = AllByRecursion ViolationIn vs

  if_in : (broken : Bool) (rule : Rule) (name : Ident) → NameIn name → AreIn (violated_if broken rule name)
  if_in true rule name h = (h, tt)
  if_in false rule name h = tt

  looked_in : (own other outer : List (List ℕ)) (name : Ident) → NameIn name → AreIn (looked_up own other outer name)
  looked_in own other outer name h = by (is_in own (key name)) (is_in other (key name) || is_in outer (key name))
    where
      by : (a b : Bool) → AreIn (if a then [] else (if b then violated rules.N3 name ∷ [] else violated rules.N1 name ∷ []))
      by true b = tt
      by false true = (h, tt)
      by false false = (h, tt)

  signal_in : (tables : Tables) (name : Ident) → NameIn name → AreIn (as_signal tables name)
  signal_in tables name h = looked_in tables.signals tables.states tables.outer name h

  state_in : (tables : Tables) (name : Ident) → NameIn name → AreIn (as_state tables name)
  state_in tables name h = looked_in tables.states tables.signals tables.outer name h

  input_in : (tables : Tables) (input : InputText) → AllByRecursion NameIn (input_names input) → AreIn (used_by_input tables input)
  input_in tables input all =
      let outputs = front_of NameIn input.outputs (input.next.state ∷ []) all.1 in
      let next = back_of NameIn input.outputs (input.next.state ∷ []) all.1 in
      each_both ViolationIn (as_signal tables input.signal) (flat_map (as_signal tables) input.outputs ++ as_state tables input.next.state)
      (signal_in tables input.signal all.0)
      (each_both ViolationIn (flat_map (as_signal tables) input.outputs) (as_state tables input.next.state)
      (each_pieces ViolationIn (as_signal tables) input.outputs (each_more NameIn (λ name. AreIn (as_signal tables name)) input.outputs (signal_in tables) outputs))
      (state_in tables input.next.state next.0))

  inputs_of : (state : StateText) → AllByRecursion NameIn (state_names state) → AllByRecursion (λ (input : InputText). AllByRecursion NameIn (input_names input)) state.inputs
  inputs_of state all = pieces_each NameIn input_names state.inputs all.1

  used_in : (tables : Tables) (state : StateText) → AllByRecursion NameIn (state_names state) → AreIn (used_by_state tables state)
  used_in tables state all =
      each_pieces ViolationIn (used_by_input tables) state.inputs
      (each_more (λ (input : InputText). AllByRecursion NameIn (input_names input)) (λ input. AreIn (used_by_input tables input)) state.inputs (input_in tables) (inputs_of state all))

  unknown_in : (tables : Tables) (system : SystemText) → TreeIn system → AreIn (unknown_names tables system)
  unknown_in tables system h =
      each_both ViolationIn (as_state tables system.start.next.state) (flat_map (used_by_state tables) system.states)
      (state_in tables system.start.next.state h.start)
      (each_pieces ViolationIn (used_by_state tables) system.states
      (each_more (λ (state : StateText). AllByRecursion NameIn (state_names state)) (λ state. AreIn (used_by_state tables state)) system.states (used_in tables) h.states))

  repeated_in : (table : List (List ℕ)) (names : List Ident) → AllByRecursion NameIn names → AreIn (repeated_from table names)
  repeated_in table [] all = tt
  repeated_in table (name ∷ names) all =
      each_both ViolationIn (violated_if (is_in table (key name)) rules.N2 name) (repeated_from (with_name table (key name)) names)
      (if_in (is_in table (key name)) rules.N2 name all.0) (repeated_in (with_name table (key name)) names all.1)

  underline_in : (name : Ident) → NameIn name → AreIn (double_underline name)
  underline_in name h = if_in (has_double_underline name.word.bytes) rules.N4 name h

  underlines_of : (signal : SignalText) → AllByRecursion NameIn (declared_by signal) → AreIn (double_underlines_of signal)
  underlines_of signal all = each_pieces ViolationIn double_underline (declared_by signal) (each_more NameIn (λ name. AreIn (double_underline name)) (declared_by signal) underline_in all)

  underlines_in : (system : SystemText) → TreeIn system → AreIn (double_underlines system)
  underlines_in system h =
      let states = flat_map (λ (state : StateText). double_underline state.name) system.states in
      each_both ViolationIn (flat_map double_underlines_of system.signals) (double_underline system.block ++ (double_underline system.process ++ states))
      (each_pieces ViolationIn double_underlines_of system.signals
      (each_more (λ (signal : SignalText). AllByRecursion NameIn (declared_by signal)) (λ signal. AreIn (double_underlines_of signal)) system.signals underlines_of h.signals))
      (each_both ViolationIn (double_underline system.block) (double_underline system.process ++ states) (underline_in system.block h.block)
      (each_both ViolationIn (double_underline system.process) states (underline_in system.process h.process)
      (each_pieces ViolationIn (λ (state : StateText). double_underline state.name) system.states
      (each_more (λ (state : StateText). AllByRecursion NameIn (state_names state)) (λ state. AreIn (double_underline state.name)) system.states
      (λ state all. underline_in state.name all.0) h.states))))

  abbrev HandlerIn : (ℕ × ℕ) × Ident → Type 0
  HandlerIn h = NameIn h.1

  handled_in : (handled : List (ℕ × ℕ)) (handlers : List ((ℕ × ℕ) × Ident)) → AllByRecursion HandlerIn handlers → AreIn (repeated_handlers_from handled handlers)
  handled_in handled [] all = tt
  handled_in handled (h ∷ hs) all =
      each_both ViolationIn (violated_if (is_handled handled h.0) rules.A2 h.1) (repeated_handlers_from (with_handler handled h.0) hs)
      (if_in (is_handled handled h.0) rules.A2 h.1 all.0) (handled_in (with_handler handled h.0) hs all.1)

  inputs_handled : (tables : Tables) (state : StateText) (inputs : List InputText) → AllByRecursion (λ (input : InputText). AllByRecursion NameIn (input_names input)) inputs
      → AllByRecursion HandlerIn (handlers_in tables state inputs)
  inputs_handled tables state [] all = tt
  inputs_handled tables state (input ∷ inputs) all = (all.0.0, inputs_handled tables state inputs all.1)

  handlers_are_in : (tables : Tables) (system : SystemText) → TreeIn system → AllByRecursion HandlerIn (flat_map (handlers_of tables) system.states)
  handlers_are_in tables system h =
      each_pieces HandlerIn (handlers_of tables) system.states
      (each_more (λ (state : StateText). AllByRecursion NameIn (state_names state)) (λ state. AllByRecursion HandlerIn (handlers_of tables state)) system.states
      (λ state all. inputs_handled tables state state.inputs (inputs_of state all)) h.states)

  class_in : (class : Class) (system : SystemText) → TreeIn system → AreIn (violations_in class system)
  class_in Lexical system h = tt
  class_in Syntactic system h = tt
  class_in Data system h = tt
  class_in Forms system h = tt
  class_in Names system h =
      each_both ViolationIn (unknown_names (tables_of system) system) (repeated_from [] (signal_names system) ++ double_underlines system)
      (unknown_in (tables_of system) system h)
      (each_both ViolationIn (repeated_from [] (signal_names system)) (double_underlines system)
      (repeated_in [] (signal_names system) (each_pieces NameIn declared_by system.signals h.signals)) (underlines_in system h))
  class_in States system h = handled_in [] (flat_map (handlers_of (tables_of system)) system.states) (handlers_are_in (tables_of system) system h)
  class_in Limits system h =
      each_both ViolationIn (violated_if (nat_lt 1000 (length (tables_of system).states)) rules.M1 system.process) (violated_if (nat_lt 200 (length (tables_of system).signals)) rules.M2 system.process)
      (if_in (nat_lt 1000 (length (tables_of system).states)) rules.M1 system.process h.process)
      (if_in (nat_lt 200 (length (tables_of system).signals)) rules.M2 system.process h.process)

  -- ---- the first of violations

  abbrev IfAny : Option Violation → Type 0
  IfAny None = Unit {0}
  IfAny (Some v) = ViolationIn v

  sooner_in : (best : Option Violation) (v : Violation) → IfAny best → ViolationIn v → IfAny (sooner best v)
  sooner_in None v b h = h
  sooner_in (Some w) v b h = by (comes_before v w)
    where
      by : (c : Bool) → IfAny (if c then Some v else Some w)
      by true = h
      by false = b

  first_in : (best : Option Violation) (vs : List Violation) → IfAny best → AreIn vs → IfAny (first_from best vs)
  first_in best [] b all = b
  first_in best (v ∷ vs) b all = first_in (sooner best v) vs (sooner_in best v b all.0) all.1

  pub tree_breaks_in : (class : Class) (bytes : List ℕ) (system : SystemText) (v : Violation) → IsTextOf number system bytes → first_of (violations_in class system) ≡ Some v → ViolationIn v
  tree_breaks_in class bytes system v text first = subst IfAny first (first_in None (violations_in class system) tt (class_in class system (tree_in system bytes text)))

-- ---- in one of the files

lexical_here : (v : Violation) (number : ℕ) (file : SourceFile) → BreaksLexis v number file → v.place.file ≡ number
lexical_here v number file first = ap (λ (p : Place). p.file) first.place ∙ at_file number file.bytes (length file.bytes - length first.rest)

-- the token of any number
token_at : (file : ℕ) (tokens : List Spanned) (at : ℕ) (t : Spanned) → AllByRecursion (TokenIn file) tokens → slice_get tokens at ≡ Some t → t.place.file ≡ file
token_at file [] at t all e = let h : None ≡ Some t = e in cc
token_at file (x ∷ tokens) zero t all e = subst (TokenIn file) (same_some x t e) all.0
token_at file (x ∷ tokens) (suc at) t all e = token_at file tokens at t all.1 e

syntax_here : (v : Violation) (number : ℕ) (bytes : List ℕ) → BreaksModules number bytes v → v.place.file ≡ number
syntax_here v number bytes breaks = by breaks.first
  where
    all : AllByRecursion (TokenIn number) breaks.tokens
    all = lexed_in Asn number bytes breaks.tokens breaks.comments breaks.lexes

    by : FirstSyntactic breaks.tokens v → v.place.file ≡ number
    by (inl x) = let at = x.place in ap (λ (p : Place). p.file) at.2 ∙ token_at number breaks.tokens x.number at.0 all at.1
    by (inr x) = let at = x.place in ap (λ (p : Place). p.file) at.2 ∙ token_at number breaks.tokens x.number at.0 all at.1

lacks_syntax_here : (v : Violation) (language : Language) (number : ℕ) (bytes : List ℕ) → LacksSyntax language number bytes v → v.place.file ≡ number
lacks_syntax_here v Sdl number bytes lacks = absurd lacks
lacks_syntax_here v Asn number bytes lacks = syntax_here v number bytes lacks

form_here : (v : Violation) (language : Language) (number : ℕ) (bytes : List ℕ) → LacksForm language number bytes v → v.place.file ≡ number
form_here v Sdl number bytes none =
    ap (λ (w : Violation). w.place.file) none.is ∙ (lexed_in Sdl number bytes (none.first ∷ none.more) none.comments none.lexes).0
form_here v Asn number bytes none = absurd none

-- the tokens of a file stand below a number of files
below : (bound number : ℕ) (tokens : List Spanned) → number < bound → AllByRecursion (TokenIn number) tokens → AllByRecursion (λ (t : Spanned). t.place.file < bound) tokens
below bound number [] less all = tt
below bound number (t ∷ ts) less all = (let e = all.0 in omega (arith, e, less), below bound number ts less all.1)

own_here : (bound : ℕ) (language : Language) (number : ℕ) (bytes : List ℕ) (own : List ModuleTree) → number < bound → AreOwnModules language number bytes own → AllByRecursion (ModuleIn (λ p. p.file < bound)) own
own_here bound Sdl number bytes own less is = subst (AllByRecursion (ModuleIn (λ p. p.file < bound))) (sym is) tt
own_here bound Asn number bytes own less is =
    subst (AllByRecursion (ModuleIn (λ p. p.file < bound))) (sym is.are.0.trees)
    (trees_are_in (λ p. p.file < bound) (omega (arith, less)) is.are.0.choices is.tokens (below bound number is.tokens less (lexed_in Asn number bytes is.tokens is.comments is.lexes)))

-- the modules of files have names in these
modules_here : (bound number : ℕ) (files : List SourceFile) (all : List ModuleTree) → number + length files ≤ bound → AreModulesOf number files all → AllByRecursion (ModuleIn (λ p. p.file < bound)) all
modules_here bound number [] all less are = subst (AllByRecursion (ModuleIn (λ p. p.file < bound))) (sym are) tt
modules_here bound number (file ∷ files) all less are =
    subst (AllByRecursion (ModuleIn (λ p. p.file < bound))) (sym are.4)
    (each_both (ModuleIn (λ p. p.file < bound)) are.0 are.1 (own_here bound file.language number file.bytes are.0 (omega (arith, less)) are.2) (modules_here bound (number + 1) files are.1 (omega (arith, less)) are.3))

breaks_in : (class : Class) (number : ℕ) (files : List SourceFile) (v : Violation) (system : SystemText) → AreTextOf system number files → first_of (violations_in class system) ≡ Some v
    → v.place.file < number + length files
breaks_in class number [] v system text first = absurd text
breaks_in class number (file ∷ files) v system (inl text) first = let e = tree_breaks_in number class file.bytes system v text.1 first in omega (arith, e)
breaks_in class number (file ∷ files) v system (inr text) first = let less = breaks_in class (number + 1) files v system text.1 first in omega (arith, less)

first_of_class_in : (class : Class) (files : List SourceFile) (v : Violation) → IsFirstOf class files v → v.place.file < length files
first_of_class_in Lexical files v first = let h = first_file_in IsLexed (BreaksLexis v) v (lexical_here v) 0 files first in omega (arith, h)
first_of_class_in Syntactic files v first =
    let h = first_file_in IsParsed (BreaksSyntax v) v (λ number file lacks. lacks_syntax_here v file.language number file.bytes lacks) 0 files first in omega (arith, h)
first_of_class_in Forms files v first =
    let h = first_file_in IsBuilt (BreaksForms v) v (λ number file lacks. form_here v file.language number file.bytes lacks) 0 files first in omega (arith, h)
first_of_class_in Data files v first = violation_in (λ p. p.file < length files) first.modules v (modules_here (length files) 0 files first.modules (omega arith) first.are) first.first
first_of_class_in Names files v first = let h = breaks_in Names 0 files v first.system first.text first.first in omega (arith, h)
first_of_class_in States files v first = let h = breaks_in States 0 files v first.system first.text first.first in omega (arith, h)
first_of_class_in Limits files v first = let h = breaks_in Limits 0 files v first.system first.text first.first in omega (arith, h)

among_in : (some : List Class) (files : List SourceFile) (v : Violation) → IsFirstAmong some files v → v.place.file < length files
among_in [] files v first = absurd first
among_in (class ∷ more) files v (inl first) = first_of_class_in class files v first
among_in (class ∷ more) files v (inr later) = among_in more files v later.1

pub stands_in_a_file : (files : List SourceFile) (v : Violation) → IsFirstViolation files v → v.place.file < length files
stands_in_a_file files v first = among_in classes files v first
