-- The model of a tree that comes from a text and keeps the rules is well formed.
use Rattle.std.proofs.Common.{◌≡◌, ℕ, zero, suc, ◌+◌, ◌≤◌, Bool, true, false, ◌&&◌, nat_eq, List, [], ◌∷◌, length, map, slice_get, None, refl, sym, ap, subst, ◌∙◌, arith}
use Rattle.std.specs.List.{AllByRecursion, list_all, filter}
use Rattle.std.specs.Str.{bytes_eq}
use Rattle.std.specs.Cmp.Lexicographic.{bytes_decides}
use Rattle.std.specs.Option.{unwrap_or}
use Rattle.std.proofs.lemmas.List.{length-map, append-nil}
use Rattle.og_names.specs.declared.NameId.{NameId}
use Rattle.og_names.specs.Folding.{place_of}
use Rattle.og_types.specs.declared.Sort.{Sort}
use Rattle.og_types.specs.Table.{all_differ, same_name}
use Rattle.og_types.specs.Values.{cells}
use Rattle.og_model.specs.declared.Signal.{Signal}
use Rattle.og_model.specs.declared.Handler.{Handler}
use Rattle.og_model.specs.declared.StateDef.{StateDef}
use Rattle.og_model.specs.declared.StateKind.{out-StateKind}
use Rattle.og_model.specs.declared.StateKind as kinds
use Rattle.og_model.specs.declared.StateKind.TheViews.{outs-Basic}
use Rattle.og_model.specs.declared.Action.{out-Action}
use Rattle.og_model.specs.declared.Action.TheViews.{outs-Output}
use Rattle.og_model.specs.declared.Step.{Step}
use Rattle.og_model.specs.declared.Body.{Body}
use Rattle.og_model.specs.declared.Block.{Block, out-roll-Block, size-Block}
use Rattle.og_model.specs.declared.Scope.{Scope, out-roll-Scope, size-Scope, size_is-Scope}
use Rattle.og_model.specs.declared.Model.{Model}
use Rattle.og_model.specs.Resolved.{if_any}
use Rattle.og_model.specs.Rules.{KeepsRules, is_plain_name, states_differ, handlers_differ, same_trigger, are_plain_in_action, are_plain_labels_within, are_plain_labels, parameters_of, sends_all_in_action, sends_all_within, sends_all, has_supported_parameters, keeps_in_kind, keeps_in_state, keeps_within}
use Rattle.og_model.specs.Size.{total, states_in_kind, states_within}
use Rattle.og_model.specs.WellFormed.{IsWellFormed}
use Rattle.og_front.specs.declared.rules.Tables.{Tables}
use Rattle.og_front.specs.declared.syntax.Ident.{Ident}
use Rattle.og_front.specs.declared.syntax.NextText.{NextText}
use Rattle.og_front.specs.declared.syntax.SystemText.{SystemText}
use Rattle.og_front.specs.ModelOf.{Transition, is_of, numbered_from, name_table, id_in, signal_of, step_of, block_of, handler_at, handlers_at, state_of, start_body, input_body, bodies_of, transitions, first_headers, scope_of, model_of_tree}
use Rattle.og_front.specs.Rules.{key, signal_names, header_names, number_in, has_double_underline, tables_of, first_of_rules}
use Rattle.og_front.specs.Written.{IsWrittenName, IsWrittenTree}
use Rattle.og_front.proofs.Kept.{Keeps, AreOther, kept}
use Rattle.og_front.proofs.NameTables.{numbers_differ, Differ, apart_names, once_firsts, plain_name}
use Rattle.og_front.proofs.Resolving.{of_names, IsKnown, known_names, signals_length, states_of, states_length, apart_numbered, IsHeader, all_headers, resolved}
use Rattle.og_front.proofs.States.{AreApart, firsts_apart}
use Rattle.og_front.proofs.TreePlaces.{written_names}
use Rattle.og_front.proofs.Elements.{by_not, not_second, same_from, same_test, all_so, each_so, each_map, each_more, each_two, passed, Apart, apart_map, apart_filter, apart_more, apart_differ}
use Rattle.og_names.proofs.Truths.{both_true as both}

-- ---- names that differ

differ_ids : (system : SystemText) (names : List Ident) → AllByRecursion (IsKnown system) names → Apart Differ names
    → Apart (λ (a b : Ident). same_name (id_in (name_table system) a) (id_in (name_table system) b) ≡ false) names
differ_ids system names known apart =
    apart_more (IsKnown system) Differ (λ (a b : Ident). same_name (id_in (name_table system) a) (id_in (name_table system) b) ≡ false) names (λ a b. numbers_differ (name_table system) a b) known apart

abbrev signal_name : Signal → NameId
signal_name s = s.name

abbrev signal_ids : SystemText → List NameId
signal_ids system = map signal_name (map (signal_of (name_table system)) (signal_names system))

signals_apart : (system : SystemText) → Keeps system → all_differ same_name (signal_ids system) ≡ true
signals_apart system keeps =
    let apart : Apart Differ (signal_names system) =
    apart_names (signal_names system) (subst (λ (ns : List Ident). AreApart (map key ns)) (once_firsts [] (signal_names system) keeps.once) (firsts_apart [] (signal_names system))) in
    apart_differ same_name (signal_ids system) (apart_map (λ (a b : NameId). same_name a b ≡ false) signal_name (map (signal_of (name_table system)) (signal_names system))
    (apart_map (λ (s t : Signal). same_name s.name t.name ≡ false) (signal_of (name_table system)) (signal_names system)
    (differ_ids system (signal_names system) (known_names system).signals apart)))

states_apart : (system : SystemText) → Keeps system → IsWrittenTree system → states_differ (states_of system) ≡ true
states_apart system keeps written =
    let known : AllByRecursion (IsKnown system) (first_headers system) = each_more (IsHeader system) (IsKnown system) (first_headers system) (λ n h. h.known) (all_headers system keeps written) in
    apart_differ (λ (d e : StateDef). same_name d.name e.name) (states_of system) (apart_map (λ (d e : StateDef). same_name d.name e.name ≡ false) (state_of (tables_of system) system) (first_headers system)
    (differ_ids system (first_headers system) known (apart_names (first_headers system) (firsts_apart [] (header_names system)))))

-- ---- handlers that differ

same_number : (table : List (List ℕ)) (name a b : Ident) → bytes_eq (key a) (key name) ≡ true → bytes_eq (key b) (key name) ≡ true → number_in table b ≡ number_in table a
same_number table name a b e f =
    ap (λ k. unwrap_or (place_of table k) 0) ((bytes_decides (key b) (key name)).0 f ∙ sym ((bytes_decides (key a) (key name)).0 e))

other_trigger : (tables : Tables) (name : Ident) (t u : ℕ × Transition) → is_of name t ≡ true → is_of name u ≡ true → AreOther tables t.1 u.1
    → same_trigger (handler_at tables t).trigger (handler_at tables u).trigger ≡ false
other_trigger tables name t u e f other =
    let a : ℕ = number_in tables.signals t.1.input.signal in
    let b : ℕ = number_in tables.signals u.1.input.signal in
    let states : nat_eq (number_in tables.states u.1.state) (number_in tables.states t.1.state) ≡ true =
    same_test (number_in tables.states u.1.state) (number_in tables.states t.1.state) (same_number tables.states name t.1.state u.1.state e f) in
    let apart : nat_eq b a ≡ false = not_second (nat_eq (number_in tables.states u.1.state) (number_in tables.states t.1.state)) (nat_eq b a) other states in
    by_not (nat_eq a b) (λ h. let wrong : true ≡ false = sym (same_test b a (sym (same_from a b h))) ∙ apart in cc)

handlers_apart : (system : SystemText) (name : Ident) → Keeps system → handlers_differ (handlers_at (tables_of system) system name) ≡ true
handlers_apart system name keeps =
    let ts : List (ℕ × Transition) = numbered_from 1 (transitions system) in
    apart_differ (λ (h g : Handler). same_trigger h.trigger g.trigger) (handlers_at (tables_of system) system name)
    (apart_map (λ (h g : Handler). same_trigger h.trigger g.trigger ≡ false) (handler_at (tables_of system)) (filter (is_of name) ts)
    (apart_more (λ t. is_of name t ≡ true) (λ (t u : ℕ × Transition). AreOther (tables_of system) t.1 u.1) (λ t u. same_trigger (handler_at (tables_of system) t).trigger (handler_at (tables_of system) u).trigger ≡ false)
    (filter (is_of name) ts) (other_trigger (tables_of system) name) (passed (is_of name) ts)
    (apart_filter (λ (t u : ℕ × Transition). AreOther (tables_of system) t.1 u.1) (is_of name) ts (apart_numbered (AreOther (tables_of system)) 1 (transitions system) keeps.apart))))

-- ---- plain names and labels

abbrev label_test : Model → (Block → Bool) → Step → Bool
label_test M inner s = if_any (is_plain_name M) s.label && are_plain_in_action inner (out-Action s.action)

plain_step : (tables : Tables) (inner : Block → Bool) (output : Ident) → are_plain_in_action inner (out-Action (step_of tables output).action) ≡ true
plain_step tables inner output = ap (are_plain_in_action inner) (outs-Output (number_in tables.signals output) [])

plain_block : (M : Model) (tables : Tables) (outputs : List Ident) (next : NextText) (depth : ℕ) → are_plain_labels_within depth M (block_of tables outputs next) ≡ true
plain_block M tables outputs next zero = refl
plain_block M tables outputs next (suc depth) =
    let inner : Block → Bool = are_plain_labels_within depth M in
    let test : Step → Bool = label_test M inner in
    let steps : List Step = map (step_of tables) outputs in
    rw out-roll-Block (both (list_all test steps) true
    (all_so test steps (each_map (step_of tables) (λ s. test s ≡ true) outputs (each_so _ outputs (plain_step tables inner)))) refl)

plain_bodies : (system : SystemText) → list_all (are_plain_labels (model_of_tree system)) (bodies_of (tables_of system) system) ≡ true
plain_bodies system =
    let M : Model = model_of_tree system in
    let body : Transition → Body = λ t. input_body (tables_of system) t.input in
    both (are_plain_labels M (start_body (tables_of system) system.start)) (list_all (are_plain_labels M) (map body (transitions system)))
    (plain_block M (tables_of system) [] system.start.next (size-Block (block_of (tables_of system) [] system.start.next)))
    (all_so (are_plain_labels M) (map body (transitions system)) (each_map body (λ b. are_plain_labels M b ≡ true) (transitions system)
    (each_so _ (transitions system) (λ t. plain_block M (tables_of system) t.input.outputs t.input.next (size-Block (block_of (tables_of system) t.input.outputs t.input.next))))))

-- ---- parameters, of which no signal has any

no_parameters : (table : List (List ℕ)) (names : List Ident) (k : ℕ) → parameters_of (slice_get (map (signal_of table) names) k) ≡ 0
no_parameters table [] k = refl
no_parameters table (name ∷ names) zero = refl
no_parameters table (name ∷ names) (suc k) = no_parameters table names k

no_cells : (types : List Sort) (table : List (List ℕ)) (names : List Ident) → total (λ (s : Signal). total (cells types) s.sorts) (map (signal_of table) names) ≡ 0
no_cells types table [] = refl
no_cells types table (name ∷ names) = let more = no_cells types table names in omega (arith, more)

sending_step : (system : SystemText) (inner : Block → Bool) (output : Ident) → sends_all_in_action (model_of_tree system) inner (out-Action (step_of (tables_of system) output).action) ≡ true
sending_step system inner output =
    let k : ℕ = number_in (tables_of system).signals output in
    ap (sends_all_in_action (model_of_tree system) inner) (outs-Output k [])
    ∙ ap (nat_eq 0) (no_parameters (name_table system) (signal_names system) k)

sending_block : (system : SystemText) (outputs : List Ident) (next : NextText) (depth : ℕ) → sends_all_within depth (model_of_tree system) (block_of (tables_of system) outputs next) ≡ true
sending_block system outputs next zero = refl
sending_block system outputs next (suc depth) =
    let inner : Block → Bool = sends_all_within depth (model_of_tree system) in
    let test : Step → Bool = λ s. sends_all_in_action (model_of_tree system) inner (out-Action s.action) in
    let steps : List Step = map (step_of (tables_of system)) outputs in
    rw out-roll-Block (all_so test steps (each_map (step_of (tables_of system)) (λ s. test s ≡ true) outputs (each_so _ outputs (sending_step system inner))))

sending_bodies : (system : SystemText) → list_all (sends_all (model_of_tree system)) (bodies_of (tables_of system) system) ≡ true
sending_bodies system =
    let M : Model = model_of_tree system in
    let body : Transition → Body = λ t. input_body (tables_of system) t.input in
    both (sends_all M (start_body (tables_of system) system.start)) (list_all (sends_all M) (map body (transitions system)))
    (sending_block system [] system.start.next (size-Block (block_of (tables_of system) [] system.start.next)))
    (all_so (sends_all M) (map body (transitions system)) (each_map body (λ b. sends_all M b ≡ true) (transitions system)
    (each_so _ (transitions system) (λ t. sending_block system t.input.outputs t.input.next (size-Block (block_of (tables_of system) t.input.outputs t.input.next))))))

plain_signals : (system : SystemText) → IsWrittenTree system → Keeps system → list_all (is_plain_name (model_of_tree system)) (signal_ids system) ≡ true
plain_signals system written keeps =
    let test : NameId → Bool = is_plain_name (model_of_tree system) in
    all_so test (signal_ids system) (each_map signal_name (λ n. test n ≡ true) (map (signal_of (name_table system)) (signal_names system))
    (each_map (signal_of (name_table system)) (λ (s : Signal). test s.name ≡ true) (signal_names system)
    (each_more (λ (n : Ident). (IsKnown system n × IsWrittenName n) × (has_double_underline n.word.bytes ≡ false)) (λ (n : Ident). test (id_in (name_table system) n) ≡ true) (signal_names system)
    (λ n h. plain_name (name_table system) n h.0.0 h.0.1 h.1)
    (each_two (λ (n : Ident). IsKnown system n × IsWrittenName n) (λ (n : Ident). has_double_underline n.word.bytes ≡ false) (signal_names system)
    (each_two (IsKnown system) IsWrittenName (signal_names system) (known_names system).signals (of_names IsWrittenName system (written_names system written)).signals) keeps.plain_signals))))

-- ---- states

plain_state : (system : SystemText) (inner : Scope → Bool) (name : Ident) → Keeps system → IsHeader system name → keeps_in_state (model_of_tree system) inner (state_of (tables_of system) system name) ≡ true
plain_state system inner name keeps header =
    let M : Model = model_of_tree system in
    let handlers : Bool = handlers_differ (handlers_at (tables_of system) system name) in
    let kind : Bool = keeps_in_kind M inner (out-StateKind kinds.Basic) in
    both (is_plain_name M (id_in (name_table system) name)) (handlers && kind) (plain_name (name_table system) name header.known header.written header.plain)
    (both handlers kind (handlers_apart system name keeps) (ap (keeps_in_kind M inner) outs-Basic))

kept_within : (system : SystemText) (depth : ℕ) → 1 ≤ depth → Keeps system → IsWrittenTree system → keeps_within depth (model_of_tree system) (scope_of (tables_of system) system) ≡ true
kept_within system zero le keeps written = absurd (omega arith)
kept_within system (suc depth) le keeps written =
    let M : Model = model_of_tree system in
    let inner : Scope → Bool = keeps_within depth M in
    let test : StateDef → Bool = keeps_in_state M inner in
    let labels : Bool = list_all (are_plain_labels M) (bodies_of (tables_of system) system) in
    let outputs : Bool = list_all (sends_all M) (bodies_of (tables_of system) system) in
    let bodies : Bool = labels && outputs in
    rw out-roll-Scope (both (states_differ (states_of system)) (list_all test (states_of system) && bodies) (states_apart system keeps written)
    (both (list_all test (states_of system)) bodies
    (all_so test (states_of system) (each_map (state_of (tables_of system) system) (λ d. test d ≡ true) (first_headers system)
    (each_more (IsHeader system) (λ n. test (state_of (tables_of system) system n) ≡ true) (first_headers system) (λ n. plain_state system inner n keeps) (all_headers system keeps written))))
    (both labels outputs (plain_bodies system) (sending_bodies system))))

total_states : (tables : Tables) (system : SystemText) (inner : Scope → ℕ) (names : List Ident)
    → total (λ (d : StateDef). 1 + states_in_kind inner (out-StateKind d.kind)) (map (state_of tables system) names) ≡ length names
total_states tables system inner [] = refl
total_states tables system inner (name ∷ names) =
    let one : states_in_kind inner (out-StateKind kinds.Basic) ≡ 0 = ap (states_in_kind inner) outs-Basic in
    let more = total_states tables system inner names in
    omega (arith, one, more)

few_states : (system : SystemText) (depth : ℕ) → Keeps system → states_within depth (scope_of (tables_of system) system) ≤ 1000
few_states system zero keeps = omega arith
few_states system (suc depth) keeps =
    let count = total_states (tables_of system) system (states_within depth) (first_headers system) in
    let same = states_length system in
    let named : length (states_of system) ≡ length (first_headers system) = length-map (first_headers system) (state_of (tables_of system) system) in
    let few = keeps.few_states in
    rw out-roll-Scope (omega (arith, count, same, named, few))

-- ---- all rules

keeps_rules : (system : SystemText) → IsWrittenTree system → Keeps system → KeepsRules (model_of_tree system)
keeps_rules system written keeps =
    let M : Model = model_of_tree system in
    let size = size_is-Scope (scope_of (tables_of system) system) in
    let few = keeps.few_signals in
    let same = signals_length system keeps.once in
    record {
      signals_differ = subst (λ ids. all_differ same_name ids ≡ true) (sym (append-nil (signal_ids system))) (signals_apart system keeps);
      process_name = plain_name (name_table system) system.process (known_names system).process (of_names IsWrittenName system (written_names system written)).process keeps.plain_process;
      plain_signals = subst (λ ids. list_all (is_plain_name M) ids ≡ true) (sym (append-nil (signal_ids system))) (plain_signals system written keeps);
      plain_variables = refl;
      plain_procedures = refl;
      first_values = refl;
      first_values_of_procedures = refl;
      procedures_enter_none = refl;
      procedures_send_all = refl;
      supported_parameters = all_so (has_supported_parameters M) (map (signal_of (name_table system)) (signal_names system))
          (each_map (signal_of (name_table system)) (λ (s : Signal). has_supported_parameters M s ≡ true) (signal_names system) (each_so _ (signal_names system) (λ x. refl)));
      scopes = kept_within system (size-Scope (scope_of (tables_of system) system)) (omega (arith, size)) keeps written;
      start = rw out-roll-Scope refl;
      few_states = few_states system (size-Scope (scope_of (tables_of system) system)) keeps;
      few_signals = omega (arith, few, same);
      few_timers = omega arith;
      few_cells = let none = no_cells M.types (name_table system) (signal_names system) in omega (arith, none);
    }

pub model_is_formed : (system : SystemText) → IsWrittenTree system → first_of_rules system ≡ None → IsWellFormed (model_of_tree system)
model_is_formed system written none =
    let keeps : Keeps system = kept system none in
    record { resolved = resolved system written keeps; rules = keeps_rules system written keeps }
