-- The model of a tree has basic states alone, and where the tree comes from a text and keeps the rules, it is resolved.
use Rattle.std.proofs.Common.{◌≡◌, ℕ, zero, suc, ◌+◌, ◌<◌, ◌≤◌, Bool, true, false, ◌&&◌, nat_lt, List, [], ◌∷◌, length, map, None, refl, sym, ap, ◌∙◌, arith}
use Rattle.std.specs.List.{AllByRecursion, list_all, filter, flat_map}
use Rattle.std.proofs.lemmas.List.{length-map}
use Rattle.og_base.specs.declared.Place.{Place}
use Rattle.og_model.specs.declared.Signal.{Signal}
use Rattle.og_model.specs.declared.Handler.{Handler}
use Rattle.og_model.specs.declared.StateDef.{StateDef}
use Rattle.og_model.specs.declared.StateKind.{out-StateKind}
use Rattle.og_model.specs.declared.StateKind as kinds
use Rattle.og_model.specs.declared.StateKind.TheViews.{outs-Basic}
use Rattle.og_model.specs.declared.Action.{out-Action}
use Rattle.og_model.specs.declared.Action.TheViews.{outs-Output}
use Rattle.og_model.specs.declared.Step.{Step}
use Rattle.og_model.specs.declared.Body.{Body}
use Rattle.og_model.specs.declared.Block.{Block, out-Block, out-roll-Block, size-Block, size_is-Block}
use Rattle.og_model.specs.declared.Scope.{Scope, out-roll-Scope, size-Scope, size_is-Scope}
use Rattle.og_model.specs.declared.Model.{Model}
use Rattle.og_model.specs.Forms.{UsesBasicStatesOnly, is_plain_state, is_plain_body, is_plain_step, is_plain_trigger, is_plain_ending, is_output, is_basic}
use Rattle.og_model.specs.Resolved.{IsResolved, Surroundings, in_states, is_signal, is_step, is_action, is_ending, is_block_within, is_block, is_body, is_handler, is_state, is_kind, is_scope_within, is_declared_signal}
use Rattle.og_model.specs.WellSorted.{is_place}
use Rattle.og_front.specs.declared.rules.Tables.{Tables}
use Rattle.og_front.specs.declared.syntax.Ident.{Ident}
use Rattle.og_front.specs.declared.syntax.NextText.{NextText}
use Rattle.og_front.specs.declared.syntax.StateText.{StateText}
use Rattle.og_front.specs.declared.syntax.SystemText.{SystemText}
use Rattle.og_front.specs.ModelOf.{Transition, is_of, numbered_from, name_table, signal_of, ending_of, step_of, block_of, handler_at, handlers_at, state_of, start_body, input_body, bodies_of, transitions, first_headers, scope_of, model_of_tree}
use Rattle.og_front.specs.Names.{state_names, all_names}
use Rattle.og_front.specs.Rules.{key, signal_names, header_names, is_in, number_in, repeated_from, has_double_underline, tables_of}
use Rattle.og_front.specs.Written.{IsWrittenName, IsWrittenTree}
use Rattle.og_front.proofs.Kept.{Keeps, UsesKnown}
use Rattle.og_front.proofs.NameTables.{all_known, number_below, once_firsts, each_first, all_names_are}
use Rattle.og_front.proofs.States.{firsts_are, first_table}
use Rattle.og_front.proofs.TreePlaces.{written_names, IsPlaced, HasPlaces, has_places}
use Rattle.og_front.proofs.Elements.{less_test, all_so, each_so, each_map, each_more, each_two, each_filter, pieces_each, front_of, back_of, Apart}
use Rattle.og_names.proofs.Truths.{both_true as both}

-- ---- basic states alone

plain_step : (tables : Tables) (output : Ident) → is_plain_step (step_of tables output) ≡ true
plain_step tables output = ap is_output (outs-Output (number_in tables.signals output) [])

plain_block : (tables : Tables) (outputs : List Ident) (next : NextText)
    → list_all is_plain_step (out-Block (block_of tables outputs next)).steps && is_plain_ending (out-Block (block_of tables outputs next)).end ≡ true
plain_block tables outputs next =
    rw out-roll-Block (both (list_all is_plain_step (map (step_of tables) outputs)) true (all_so is_plain_step (map (step_of tables) outputs) (each_map (step_of tables) (λ s. is_plain_step s ≡ true) outputs (each_so _ outputs (plain_step tables)))) refl)

plain_state : (tables : Tables) (system : SystemText) (name : Ident) → is_plain_state (state_of tables system name) ≡ true
plain_state tables system name =
    both (is_basic (out-StateKind kinds.Basic)) (list_all (λ (h : Handler). is_plain_trigger h.trigger) (handlers_at tables system name)) (ap is_basic outs-Basic)
    (all_so (λ (h : Handler). is_plain_trigger h.trigger) (handlers_at tables system name)
    (each_map (handler_at tables) (λ (h : Handler). is_plain_trigger h.trigger ≡ true) (filter (is_of name) (numbered_from 1 (transitions system))) (each_so _ (filter (is_of name) (numbered_from 1 (transitions system))) (λ t. refl))))

pub model_is_basic : (system : SystemText) → UsesBasicStatesOnly (model_of_tree system)
model_is_basic system =
    let tables : Tables = tables_of system in
    record {
      no_timers = refl;
      no_variables = refl;
      no_procedures = refl;
      states = rw out-roll-Scope (all_so is_plain_state (map (state_of tables system) (first_headers system))
          (each_map (state_of tables system) (λ d. is_plain_state d ≡ true) (first_headers system) (each_so _ (first_headers system) (plain_state tables system))));
      start = rw out-roll-Scope refl;
      bodies = rw out-roll-Scope (both (is_plain_body (start_body tables system.start)) (list_all is_plain_body (map (λ (t : Transition). input_body tables t.input) (transitions system)))
          (plain_block tables [] system.start.next)
          (all_so is_plain_body (map (λ (t : Transition). input_body tables t.input) (transitions system))
          (each_map (λ (t : Transition). input_body tables t.input) (λ b. is_plain_body b ≡ true) (transitions system) (each_so _ (transitions system) (λ t. plain_block tables t.input.outputs t.input.next)))));
    }

-- ---- parts of what holds of all names

pub record OfNames (P : Ident → Type 0) (system : SystemText) : Type 0 where
  pub process : P system.process
  pub signals : AllByRecursion P (signal_names system)
  pub headers : AllByRecursion P (header_names system)

pub of_names : (P : Ident → Type 0) (system : SystemText) → AllByRecursion P (all_names system) → OfNames P system
of_names P system all =
    let behind = back_of P (signal_names system) (system.block ∷ system.process ∷ system.start.next.state ∷ flat_map state_names system.states) all.1 in
    record {
      process = behind.1.0;
      signals = front_of P (signal_names system) (system.block ∷ system.process ∷ system.start.next.state ∷ flat_map state_names system.states) all.1;
      headers = each_map (λ (state : StateText). state.name) P system.states
          (each_more (λ (s : StateText). AllByRecursion P (state_names s)) (λ (s : StateText). P s.name) system.states (λ s h. h.0) (pieces_each P state_names system.states behind.1.1.1));
    }

abbrev pub IsKnown : SystemText → Ident → Type 0
IsKnown system name = is_in (name_table system) (key name) ≡ true

pub known_names : (system : SystemText) → OfNames (IsKnown system) system
known_names system = of_names (IsKnown system) system (all_known [] (name_table system) (all_names system) refl)

-- ---- lengths

pub signals_length : (system : SystemText) → repeated_from [] (signal_names system) ≡ [] → length (tables_of system).signals ≡ length (model_of_tree system).signals
signals_length system once =
    ap length (firsts_are [] (signal_names system)) ∙ ap (λ (ns : List Ident). length (map key ns)) (once_firsts [] (signal_names system) once) ∙ length-map (signal_names system) key
    ∙ sym (length-map (signal_names system) (signal_of (name_table system)))

abbrev pub states_of : SystemText → List StateDef
states_of system = map (state_of (tables_of system) system) (first_headers system)

pub states_length : (system : SystemText) → length (tables_of system).states ≡ length (states_of system)
states_length system =
    ap length (first_table system) ∙ length-map (first_headers system) key ∙ sym (length-map (first_headers system) (state_of (tables_of system) system))

-- ---- transitions

-- a transition names what is there
pub record IsGood (system : SystemText) (t : Transition) : Type 0 where
  pub known : UsesKnown (tables_of system) t
  pub placed : IsPlaced t

all_good : (system : SystemText) → Keeps system → HasPlaces system → AllByRecursion (IsGood system) (transitions system)
all_good system keeps places =
    each_more (λ t. UsesKnown (tables_of system) t × IsPlaced t) (IsGood system) (transitions system) (λ t h. record { known = h.0; placed = h.1 })
    (each_two (UsesKnown (tables_of system)) IsPlaced (transitions system) keeps.known places.transitions)

is_signal_of : (system : SystemText) (name : Ident) → repeated_from [] (signal_names system) ≡ [] → is_in (tables_of system).signals (key name) ≡ true
    → is_signal (model_of_tree system) (number_in (tables_of system).signals name) ≡ true
is_signal_of system name once there =
    sym (ap (nat_lt (number_in (tables_of system).signals name)) (signals_length system once)) ∙ number_below (tables_of system).signals name there

is_state_of : (system : SystemText) (name : Ident) → is_in (tables_of system).states (key name) ≡ true → nat_lt (number_in (tables_of system).states name) (length (states_of system)) ≡ true
is_state_of system name there =
    sym (ap (nat_lt (number_in (tables_of system).states name)) (states_length system)) ∙ number_below (tables_of system).states name there

abbrev around : SystemText → Surroundings
around system = in_states (states_of system)

good_step : (system : SystemText) (inner : Block → Bool) (output : Ident) → is_place output.place ≡ true → is_signal (model_of_tree system) (number_in (tables_of system).signals output) ≡ true
    → is_step (model_of_tree system) (around system) inner (step_of (tables_of system) output) ≡ true
good_step system inner output place there =
    both (is_place output.place) (is_action (model_of_tree system) (around system) inner (out-Action (step_of (tables_of system) output).action)) place
    (ap (is_action (model_of_tree system) (around system) inner) (outs-Output (number_in (tables_of system).signals output) [])
    ∙ both (is_signal (model_of_tree system) (number_in (tables_of system).signals output)) true there refl)

good_ending : (system : SystemText) (next : NextText) → is_place next.place ≡ true → is_in (tables_of system).states (key next.state) ≡ true
    → is_ending (model_of_tree system) (around system) (ending_of (tables_of system) next) ≡ true
good_ending system next place there =
    both (is_place next.place) (nat_lt (number_in (tables_of system).states next.state) (length (states_of system)) && true) place
    (both (nat_lt (number_in (tables_of system).states next.state) (length (states_of system))) true (is_state_of system next.state there) refl)

good_block_within : (system : SystemText) (outputs : List Ident) (next : NextText) (depth : ℕ) → 1 ≤ depth
    → AllByRecursion (λ (name : Ident). (is_place name.place ≡ true) × (is_signal (model_of_tree system) (number_in (tables_of system).signals name) ≡ true)) outputs
    → is_place next.place ≡ true → is_in (tables_of system).states (key next.state) ≡ true
    → is_block_within depth (model_of_tree system) (around system) (block_of (tables_of system) outputs next) ≡ true
good_block_within system outputs next zero le all place there = absurd (omega arith)
good_block_within system outputs next (suc depth) le all place there =
    let inner : Block → Bool = is_block_within depth (model_of_tree system) (around system) in
    let test : Step → Bool = is_step (model_of_tree system) (around system) inner in
    rw out-roll-Block (both (list_all test (map (step_of (tables_of system)) outputs)) (is_ending (model_of_tree system) (around system) (ending_of (tables_of system) next))
    (all_so test (map (step_of (tables_of system)) outputs) (each_map (step_of (tables_of system)) (λ s. test s ≡ true) outputs
    (each_more (λ (name : Ident). (is_place name.place ≡ true) × (is_signal (model_of_tree system) (number_in (tables_of system).signals name) ≡ true)) (λ (name : Ident). test (step_of (tables_of system) name) ≡ true) outputs
    (λ name h. good_step system inner name h.0 h.1) all)))
    (good_ending system next place there))

good_body : (system : SystemText) (place : Place) (outputs : List Ident) (next : NextText) → is_place place ≡ true
    → AllByRecursion (λ (name : Ident). (is_place name.place ≡ true) × (is_signal (model_of_tree system) (number_in (tables_of system).signals name) ≡ true)) outputs
    → is_place next.place ≡ true → is_in (tables_of system).states (key next.state) ≡ true
    → is_body (model_of_tree system) (around system) (record { place = place; label = None; block = block_of (tables_of system) outputs next }) ≡ true
good_body system place outputs next here all there known =
    let block : Block = block_of (tables_of system) outputs next in
    let size = size_is-Block block in
    both (is_place place) (is_block (model_of_tree system) (around system) block) here (good_block_within system outputs next (size-Block block) (omega (arith, size)) all there known)

good_input : (system : SystemText) (t : Transition) → repeated_from [] (signal_names system) ≡ [] → IsGood system t
    → is_body (model_of_tree system) (around system) (input_body (tables_of system) t.input) ≡ true
good_input system t once good =
    good_body system t.input.place t.input.outputs t.input.next good.placed.body
    (each_more (λ (name : Ident). (is_place name.place ≡ true) × (is_in (tables_of system).signals (key name) ≡ true)) _ t.input.outputs (λ name h. (h.0, is_signal_of system name once h.1))
    (each_two (λ (name : Ident). is_place name.place ≡ true) (λ (name : Ident). is_in (tables_of system).signals (key name) ≡ true) t.input.outputs good.placed.outputs good.known.outputs))
    good.placed.next good.known.next

abbrev body_of : SystemText → Transition → Body
body_of system t = input_body (tables_of system) t.input

good_bodies : (system : SystemText) → Keeps system → HasPlaces system → list_all (is_body (model_of_tree system) (around system)) (bodies_of (tables_of system) system) ≡ true
good_bodies system keeps places =
    let test : Body → Bool = is_body (model_of_tree system) (around system) in
    both (test (start_body (tables_of system) system.start)) (list_all test (map (body_of system) (transitions system)))
    (good_body system system.start.place [] system.start.next places.start tt places.next keeps.start)
    (all_so test (map (body_of system) (transitions system)) (each_map (body_of system) (λ b. test b ≡ true) (transitions system)
    (each_more (IsGood system) (λ t. test (body_of system t) ≡ true) (transitions system) (λ t. good_input system t keeps.once) (all_good system keeps places))))

-- ---- numbered transitions

pub each_numbered : (P : Transition → Type 0) (n : ℕ) (ts : List Transition) → AllByRecursion P ts → AllByRecursion (λ (t : ℕ × Transition). P t.1) (numbered_from n ts)
each_numbered P n [] all = tt
each_numbered P n (t ∷ ts) all = (all.0, each_numbered P (n + 1) ts all.1)

pub apart_numbered : (R : Transition → Transition → Type 0) (n : ℕ) (ts : List Transition) → Apart R ts → Apart (λ (t u : ℕ × Transition). R t.1 u.1) (numbered_from n ts)
apart_numbered R n [] all = tt
apart_numbered R n (t ∷ ts) all = (each_numbered (R t) (n + 1) ts all.0, apart_numbered R (n + 1) ts all.1)

numbers_below : (n most : ℕ) (ts : List Transition) → n + length ts ≤ most → AllByRecursion (λ (t : ℕ × Transition). t.0 < most) (numbered_from n ts)
numbers_below n most [] le = tt
numbers_below n most (t ∷ ts) le = (omega arith, numbers_below (n + 1) most ts (omega arith))

abbrev count_of : SystemText → ℕ
count_of system = length (bodies_of (tables_of system) system)

good_handler : (system : SystemText) (t : ℕ × Transition) → repeated_from [] (signal_names system) ≡ [] → IsGood system t.1 → t.0 < count_of system
    → is_handler (model_of_tree system) (around system) (count_of system) (handler_at (tables_of system) t) ≡ true
good_handler system t once good lt =
    let signal : Bool = is_signal (model_of_tree system) (number_in (tables_of system).signals t.1.input.signal) in
    both (is_place t.1.input.signal.place) (nat_lt t.0 (count_of system) && (signal && true)) good.placed.signal
    (both (nat_lt t.0 (count_of system)) (signal && true) (less_test t.0 (count_of system) lt) (both signal true (is_signal_of system t.1.input.signal once good.known.signal) refl))

good_handlers : (system : SystemText) (name : Ident) → Keeps system → HasPlaces system
    → list_all (is_handler (model_of_tree system) (around system) (count_of system)) (handlers_at (tables_of system) system name) ≡ true
good_handlers system name keeps places =
    let test : Handler → Bool = is_handler (model_of_tree system) (around system) (count_of system) in
    let ts : List (ℕ × Transition) = numbered_from 1 (transitions system) in
    let e : length (map (body_of system) (transitions system)) ≡ length (transitions system) = length-map (transitions system) (body_of system) in
    let le : 1 + length (transitions system) ≤ count_of system = omega (arith, e) in
    all_so test (handlers_at (tables_of system) system name) (each_map (handler_at (tables_of system)) (λ h. test h ≡ true) (filter (is_of name) ts)
    (each_filter (λ t. test (handler_at (tables_of system) t) ≡ true) (is_of name) ts
    (each_more (λ (t : ℕ × Transition). IsGood system t.1 × (t.0 < count_of system)) (λ t. test (handler_at (tables_of system) t) ≡ true) ts (λ t h. good_handler system t keeps.once h.0 h.1)
    (each_two (λ (t : ℕ × Transition). IsGood system t.1) (λ (t : ℕ × Transition). t.0 < count_of system) ts (each_numbered (IsGood system) 1 (transitions system) (all_good system keeps places))
    (numbers_below 1 (count_of system) (transitions system) le)))))

-- ---- states

-- a header's name is known, and is one of a text
pub record IsHeader (system : SystemText) (name : Ident) : Type 0 where
  pub known : IsKnown system name
  pub written : IsWrittenName name
  pub plain : has_double_underline name.word.bytes ≡ false

pub all_headers : (system : SystemText) → Keeps system → IsWrittenTree system → AllByRecursion (IsHeader system) (first_headers system)
all_headers system keeps written =
    each_first (IsHeader system) [] (header_names system)
    (each_more (λ (n : Ident). (IsKnown system n × IsWrittenName n) × (has_double_underline n.word.bytes ≡ false)) (IsHeader system) (header_names system) (λ n h. record { known = h.0.0; written = h.0.1; plain = h.1 })
    (each_two (λ (n : Ident). IsKnown system n × IsWrittenName n) (λ (n : Ident). has_double_underline n.word.bytes ≡ false) (header_names system)
    (each_two (IsKnown system) IsWrittenName (header_names system) (known_names system).headers (of_names IsWrittenName system (written_names system written)).headers) keeps.plain_states))

good_state : (system : SystemText) (inner : Scope → Bool) (name : Ident) → Keeps system → HasPlaces system → IsHeader system name
    → is_state (model_of_tree system) (around system) (count_of system) inner (state_of (tables_of system) system name) ≡ true
good_state system inner name keeps places header =
    let M : Model = model_of_tree system in
    let handlers : Bool = list_all (is_handler M (around system) (count_of system)) (handlers_at (tables_of system) system name) in
    let kind : Bool = is_kind M inner (out-StateKind kinds.Basic) in
    both (nat_lt (number_in (name_table system) name) (length (name_table system))) (is_place name.place && (handlers && kind)) (number_below (name_table system) name header.known)
    (both (is_place name.place) (handlers && kind) header.written.place (both handlers kind (good_handlers system name keeps places) (ap (is_kind M inner) outs-Basic)))

good_scope_within : (system : SystemText) (depth : ℕ) → 1 ≤ depth → Keeps system → HasPlaces system → IsWrittenTree system → is_scope_within depth (model_of_tree system) (scope_of (tables_of system) system) ≡ true
good_scope_within system zero le keeps places written = absurd (omega arith)
good_scope_within system (suc depth) le keeps places written =
    let M : Model = model_of_tree system in
    let inner : Scope → Bool = is_scope_within depth M in
    let test : StateDef → Bool = is_state M (around system) (count_of system) inner in
    let bodies : Bool = list_all (is_body M (around system)) (bodies_of (tables_of system) system) in
    rw out-roll-Scope (both (nat_lt 0 (count_of system) && true) (list_all test (states_of system) && bodies) (both (nat_lt 0 (count_of system)) true (less_test 0 (count_of system) (omega arith)) refl)
    (both (list_all test (states_of system)) bodies
    (all_so test (states_of system) (each_map (state_of (tables_of system) system) (λ d. test d ≡ true) (first_headers system)
    (each_more (IsHeader system) (λ n. test (state_of (tables_of system) system n) ≡ true) (first_headers system) (λ n. good_state system inner n keeps places) (all_headers system keeps written))))
    (good_bodies system keeps places)))

-- ---- the tree is one of a text

good_signals : (system : SystemText) → list_all (is_declared_signal (model_of_tree system)) (model_of_tree system).signals ≡ true
good_signals system =
    let test : Signal → Bool = is_declared_signal (model_of_tree system) in
    all_so test (map (signal_of (name_table system)) (signal_names system)) (each_map (signal_of (name_table system)) (λ s. test s ≡ true) (signal_names system)
    (each_more (IsKnown system) (λ n. test (signal_of (name_table system) n) ≡ true) (signal_names system)
    (λ n h. both (nat_lt (number_in (name_table system) n) (length (name_table system))) true (number_below (name_table system) n h) refl) (known_names system).signals))

pub resolved : (system : SystemText) → IsWrittenTree system → Keeps system → IsResolved (model_of_tree system)
resolved system written keeps =
    let size = size_is-Scope (scope_of (tables_of system) system) in
    record {
      names = all_names_are [] (all_names system) refl (written_names system written);
      process = number_below (name_table system) system.process (known_names system).process;
      types = refl;
      few_types = refl;
      type_names = refl;
      signals = good_signals system;
      timers = refl;
      variables = refl;
      procedures = refl;
      states = good_scope_within system (size-Scope (scope_of (tables_of system) system)) (omega (arith, size)) keeps (has_places system written) written;
    }
