-- What a tree keeps of which no rule is broken, and what its table of names keeps.
use Rattle.std.proofs.Common.{◌≡◌, ℕ, ◌≤◌, Bool, true, false, ◌||◌, nat_lt, if◌then◌else◌, List, [], ◌∷◌, ◌++◌, length, map, Option, Some, None, refl, sym, ap, ◌∙◌}
use Rattle.std.specs.List.{AllByRecursion, flat_map, list_any}
use Rattle.og_base.specs.declared.Rule.{Rule}
use Rattle.og_base.specs.declared.Rule.TheVariants.{N1, N3, N4, A2, M1, M2}
use Rattle.og_base.specs.declared.Violation.{Violation}
use Rattle.og_base.specs.Order.{first_of}
use Rattle.og_front.specs.declared.rules.Tables.{Tables}
use Rattle.og_front.specs.declared.syntax.Ident.{Ident}
use Rattle.og_front.specs.declared.syntax.InputText.{InputText}
use Rattle.og_front.specs.declared.syntax.StateText.{StateText}
use Rattle.og_front.specs.declared.syntax.SystemText.{SystemText}
use Rattle.og_front.specs.Names.{declared_by}
use Rattle.og_front.specs.ModelOf.{Transition, transitions_in, transitions}
use Rattle.og_front.specs.Rules.{key, tables_of, signal_names, header_names, is_in, looked_up, as_signal, as_state, used_by_input, used_by_state, unknown_names, violated, violated_if, repeated_from, repeated_signals, has_double_underline, double_underline, double_underlines_of, double_underlines, name_violations, number_in, same_handler, is_handled, with_handler, handler_of, handlers_in, handlers_of, repeated_handlers_from, repeated_handlers, limit_violations, or_else, first_of_rules}
use Rattle.og_front.proofs.Least.{first_none}
use Rattle.og_front.proofs.Elements.{neither, most_from, Apart, none_before, none_of_pieces, each_both, each_map, map_each, each_more, each_pieces}

-- ---- no violation

or_else_none : (a b : Option Violation) → or_else a b ≡ None → (a ≡ None) × (b ≡ None)
or_else_none None b h = (refl, h)
or_else_none (Some v) b h = cc

pub not_broken : (b : Bool) (rule : Rule) (name : Ident) → violated_if b rule name ≡ [] → b ≡ false
not_broken true rule name h = cc
not_broken false rule name h = refl

known_by : (a b : Bool) (v w : Violation) → (if a then [] else (if b then v ∷ [] else w ∷ [])) ≡ [] → a ≡ true
known_by true b v w e = refl
known_by false true v w e = cc
known_by false false v w e = cc

known : (own other outer : List (List ℕ)) (name : Ident) → looked_up own other outer name ≡ [] → is_in own (key name) ≡ true
known own other outer name h = known_by (is_in own (key name)) (is_in other (key name) || is_in outer (key name)) (violated N3 name) (violated N1 name) h

-- an input names signals and a state that are declared
pub record UsesKnown (tables : Tables) (t : Transition) : Type 0 where
  pub signal : is_in tables.signals (key t.input.signal) ≡ true
  pub outputs : AllByRecursion (λ name. is_in tables.signals (key name) ≡ true) t.input.outputs
  pub next : is_in tables.states (key t.input.next.state) ≡ true

known_outputs : (tables : Tables) (names : List Ident) → AllByRecursion (λ name. as_signal tables name ≡ []) names → AllByRecursion (λ name. is_in tables.signals (key name) ≡ true) names
known_outputs tables names all = each_more (λ name. as_signal tables name ≡ []) (λ name. is_in tables.signals (key name) ≡ true) names (λ name. known tables.signals tables.states tables.outer name) all

known_in_input : (tables : Tables) (state : Ident) (input : InputText) → used_by_input tables input ≡ [] → UsesKnown tables (record { state = state; input = input })
known_in_input tables state input h =
    let one = none_before (as_signal tables input.signal) (flat_map (as_signal tables) input.outputs ++ as_state tables input.next.state) h in
    let two = none_before (flat_map (as_signal tables) input.outputs) (as_state tables input.next.state) one.1 in
    record {
      signal = known tables.signals tables.states tables.outer input.signal one.0;
      outputs = known_outputs tables input.outputs (none_of_pieces (as_signal tables) input.outputs two.0);
      next = known tables.states tables.signals tables.outer input.next.state two.1;
    }

known_in_states : (tables : Tables) (states : List StateText) → AllByRecursion (λ s. used_by_state tables s ≡ []) states → AllByRecursion (UsesKnown tables) (flat_map transitions_in states)
known_in_states tables [] all = tt
known_in_states tables (s ∷ ss) all =
    each_both (UsesKnown tables) (transitions_in s) (flat_map transitions_in ss)
    (each_map (λ (input : InputText). record { state = s.name; input = input }) (UsesKnown tables) s.inputs
    (each_more (λ input. used_by_input tables input ≡ []) (λ input. UsesKnown tables (record { state = s.name; input = input })) s.inputs (known_in_input tables s.name)
    (none_of_pieces (used_by_input tables) s.inputs all.0)))
    (known_in_states tables ss all.1)

-- ---- handlers

-- a transition by the numbers of its state and of its signal
abbrev pub pair_of : Tables → Transition → ℕ × ℕ
pair_of tables t = (number_in tables.states t.state, number_in tables.signals t.input.signal)

abbrev pub AreOther : Tables → Transition → Transition → Type 0
AreOther tables t u = same_handler (pair_of tables u) (pair_of tables t) ≡ false

abbrev noted : Tables → Transition → (ℕ × ℕ) × Ident
noted tables t = (pair_of tables t, t.input.signal)

noted_are : (tables : Tables) (states : List StateText) → flat_map (handlers_of tables) states ≡ map (noted tables) (flat_map transitions_in states)
noted_are tables [] = refl
noted_are tables (s ∷ ss) = of_state s.inputs (flat_map transitions_in ss) (flat_map (handlers_of tables) ss) (noted_are tables ss)
  where
    of_state : (inputs : List InputText) (ts : List Transition) (hs : List ((ℕ × ℕ) × Ident)) → hs ≡ map (noted tables) ts
        → handlers_in tables s inputs ++ hs ≡ map (noted tables) (map (λ (input : InputText). record { state = s.name; input = input }) inputs ++ ts)
    of_state [] ts hs e = e
    of_state (input ∷ inputs) ts hs e = ap (λ xs. (handler_of tables s input, input.signal) ∷ xs) (of_state inputs ts hs e)

any_append : (p : ℕ × ℕ → Bool) (xs : List (ℕ × ℕ)) (y : ℕ × ℕ) → list_any p (xs ++ y ∷ []) ≡ false → (list_any p xs ≡ false) × (p y ≡ false)
any_append p [] y h = (refl, (neither (p y) false h).0)
any_append p (x ∷ xs) y h =
    let one = neither (p x) (list_any p (xs ++ y ∷ [])) h in
    let more = any_append p xs y one.1 in
    (rw (one.0, more.0) refl, more.1)

with_new_handler : (handled : List (ℕ × ℕ)) (h : ℕ × ℕ) → is_handled handled h ≡ false → with_handler handled h ≡ handled ++ h ∷ []
with_new_handler handled h e = ap (λ (b : Bool). if b then handled else handled ++ h ∷ []) e

-- none of the further handlers is one of those so far
unhandled : (handled : List (ℕ × ℕ)) (hs : List ((ℕ × ℕ) × Ident)) → repeated_handlers_from handled hs ≡ [] → AllByRecursion (λ h. is_handled handled h.0 ≡ false) hs
unhandled handled [] e = tt
unhandled handled (h ∷ hs) e =
    let parts = none_before (violated_if (is_handled handled h.0) A2 h.1) (repeated_handlers_from (with_handler handled h.0) hs) e in
    let new : is_handled handled h.0 ≡ false = not_broken (is_handled handled h.0) A2 h.1 parts.0 in (
      new,
      each_more (λ g. is_handled (with_handler handled h.0) g.0 ≡ false) (λ g. is_handled handled g.0 ≡ false) hs
          (λ g f. (any_append (same_handler g.0) handled h.0 (sym (ap (λ gs. is_handled gs g.0) (with_new_handler handled h.0 new)) ∙ f)).0) (unhandled (with_handler handled h.0) hs parts.1),
    )

handlers_apart : (handled : List (ℕ × ℕ)) (hs : List ((ℕ × ℕ) × Ident)) → repeated_handlers_from handled hs ≡ [] → Apart (λ h g. same_handler g.0 h.0 ≡ false) hs
handlers_apart handled [] e = tt
handlers_apart handled (h ∷ hs) e =
    let parts = none_before (violated_if (is_handled handled h.0) A2 h.1) (repeated_handlers_from (with_handler handled h.0) hs) e in
    let new : is_handled handled h.0 ≡ false = not_broken (is_handled handled h.0) A2 h.1 parts.0 in (
      each_more (λ g. is_handled (with_handler handled h.0) g.0 ≡ false) (λ g. same_handler g.0 h.0 ≡ false) hs
          (λ g f. (any_append (same_handler g.0) handled h.0 (sym (ap (λ gs. is_handled gs g.0) (with_new_handler handled h.0 new)) ∙ f)).1) (unhandled (with_handler handled h.0) hs parts.1),
      handlers_apart (with_handler handled h.0) hs parts.1,
    )

map_apart_noted : (tables : Tables) (ts : List Transition) → Apart (λ h g. same_handler g.0 h.0 ≡ false) (map (noted tables) ts) → Apart (AreOther tables) ts
map_apart_noted tables [] all = tt
map_apart_noted tables (t ∷ ts) all = (map_each (noted tables) (λ g. same_handler g.0 (pair_of tables t) ≡ false) ts all.0, map_apart_noted tables ts all.1)

-- ---- all that is kept

pub record Keeps (system : SystemText) : Type 0 where
  pub start : is_in (tables_of system).states (key system.start.next.state) ≡ true
  pub known : AllByRecursion (UsesKnown (tables_of system)) (transitions system)
  pub once : repeated_from [] (signal_names system) ≡ []
  pub plain_signals : AllByRecursion (λ name. has_double_underline name.word.bytes ≡ false) (signal_names system)
  pub plain_process : has_double_underline system.process.word.bytes ≡ false
  pub plain_states : AllByRecursion (λ name. has_double_underline name.word.bytes ≡ false) (header_names system)
  pub apart : Apart (AreOther (tables_of system)) (transitions system)
  pub few_states : length (tables_of system).states ≤ 1000
  pub few_signals : length (tables_of system).signals ≤ 200

plain_names : (names : List Ident) → flat_map double_underline names ≡ [] → AllByRecursion (λ name. has_double_underline name.word.bytes ≡ false) names
plain_names names e =
    each_more (λ name. double_underline name ≡ []) (λ name. has_double_underline name.word.bytes ≡ false) names (λ name. not_broken (has_double_underline name.word.bytes) N4 name) (none_of_pieces double_underline names e)

pub kept : (system : SystemText) → first_of_rules system ≡ None → Keeps system
kept system e =
    let tables : Tables = tables_of system in
    let all = or_else_none (first_of (name_violations tables system)) (or_else (first_of (repeated_handlers tables system)) (first_of (limit_violations tables system))) e in
    let rest = or_else_none (first_of (repeated_handlers tables system)) (first_of (limit_violations tables system)) all.1 in
    let names = none_before (unknown_names tables system) (repeated_signals system ++ double_underlines system) ((first_none (name_violations tables system)).0 all.0) in
    let used = none_before (as_state tables system.start.next.state) (flat_map (used_by_state tables) system.states) names.0 in
    let more = none_before (repeated_signals system) (double_underlines system) names.1 in
    let headers = flat_map (λ (state : StateText). double_underline state.name) system.states in
    let lines = none_before (flat_map double_underlines_of system.signals) (double_underline system.block ++ (double_underline system.process ++ headers)) more.1 in
    let around = none_before (double_underline system.block) (double_underline system.process ++ headers) lines.1 in
    let inside = none_before (double_underline system.process) headers around.1 in
    let limits = none_before (violated_if (nat_lt 1000 (length tables.states)) M1 system.process) (violated_if (nat_lt 200 (length tables.signals)) M2 system.process) ((first_none (limit_violations tables system)).0 rest.1) in
    record {
      start = known tables.states tables.signals tables.outer system.start.next.state used.0;
      known = known_in_states tables system.states (none_of_pieces (used_by_state tables) system.states used.1);
      once = more.0;
      plain_signals = each_pieces (λ name. has_double_underline name.word.bytes ≡ false) declared_by system.signals
          (each_more (λ s. double_underlines_of s ≡ []) (λ s. AllByRecursion (λ name. has_double_underline name.word.bytes ≡ false) (declared_by s)) system.signals (λ s. plain_names (declared_by s))
          (none_of_pieces double_underlines_of system.signals lines.0));
      plain_process = not_broken (has_double_underline system.process.word.bytes) N4 system.process inside.0;
      plain_states = each_map (λ (state : StateText). state.name) (λ name. has_double_underline name.word.bytes ≡ false) system.states
          (each_more (λ (s : StateText). double_underline s.name ≡ []) (λ (s : StateText). has_double_underline s.name.word.bytes ≡ false) system.states
          (λ s. not_broken (has_double_underline s.name.word.bytes) N4 s.name) (none_of_pieces (λ (state : StateText). double_underline state.name) system.states inside.1));
      apart = map_apart_noted tables (transitions system)
          (handlers_apart [] (map (noted tables) (transitions system)) (ap (repeated_handlers_from []) (sym (noted_are tables system.states)) ∙ (first_none (repeated_handlers tables system)).0 rest.0));
      few_states = most_from 1000 (length tables.states) (not_broken (nat_lt 1000 (length tables.states)) M1 system.process limits.0);
      few_signals = most_from 200 (length tables.signals) (not_broken (nat_lt 200 (length tables.signals)) M2 system.process limits.1);
    }
