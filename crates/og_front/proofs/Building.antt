-- Loops that build the model, and the handlers that each STATE gives.
use Rattle.std.proofs.Common.{◌≡◌, ℕ, zero, suc, ◌+◌, ◌≤◌, ◌<◌, List, [], ◌∷◌, ◌++◌, length, map, get_or, None, refl, sym, ap, subst, ◌∙◌, arith, append_assoc, true, false}
use Rattle.std.specs.List.{flat_map}
use Rattle.std.proofs.lemmas.List.{append-nil, map-append}
use Rattle.std.proofs.Math.ListN.{set}
use Rattle.og_model.specs.declared.StateDef.{StateDef}
use Rattle.og_model.specs.declared.Handler.{Handler}
use Rattle.og_model.specs.declared.Body.{Body}
use Rattle.og_model.specs.declared.Start.{Start}
use Rattle.og_model.specs.declared.Signal.{Signal}
use Rattle.og_model.specs.declared.Scope.{Scope, roll-Scope}
use Rattle.og_model.specs.declared.Variable.{Variable}
use Rattle.og_model.specs.declared.Proc.{Proc}
use Rattle.og_types.specs.declared.Sort.{Sort}
use Rattle.og_names.specs.declared.NameId.{NameId}
use Rattle.og_front.specs.declared.rules.Tables.{Tables}
use Rattle.og_front.specs.declared.syntax.StateText.{StateText}
use Rattle.og_front.specs.declared.syntax.Ident.{Ident}
use Rattle.og_front.specs.declared.syntax.InputText.{InputText}
use Rattle.og_front.specs.declared.syntax.SystemText.{SystemText}
use Rattle.og_names.specs.Folding.{with_name}
use Rattle.og_front.specs.Names.{input_names, state_names}
use Rattle.og_front.specs.Rules.{key, with_names, signal_names, is_in}
use Rattle.og_front.specs.ModelOf.{name_table, id_in, signal_of, handler_at, start_body, input_body, bodies_of, firsts_from, first_headers, scope_of, model_by, model_of_tree}
use Rattle.og_front.specs.Building.{bare_state, handlers_from, given, all_given}
use Rattle.og_front.specs.Tables.{AreTables}
use Rattle.og_front.proofs.States.{firsts_both, firsts_known, firsts_new, states_are, bodies_are}
use Rattle.og_front.proofs.Additions.{names_both, the_tables}
use Rattle.og_names.proofs.Loops.{Left, left_more, left_all}

-- ---- the steps of loops

-- names that are added piece by piece
pub names_more : {X : Type 0} (f : X → List Ident) (table table' : List (List ℕ)) (xs : List X) (i : ℕ) (x : X) (total : List (List ℕ))
    → i < length xs → x ≡ get_or xs i x → table' ≡ with_names table (map key (f x))
    → Left (λ ys. with_names table (map key (flat_map f ys))) xs i total → Left (λ ys. with_names table' (map key (flat_map f ys))) xs (i + 1) total
names_more f table table' xs i x total lt at is left =
    left_more (λ ys. with_names table (map key (flat_map f ys))) (λ ys. with_names table' (map key (flat_map f ys))) xs i x total lt at
    (λ ys. names_both table (f x) (flat_map f ys) ∙ ap (λ t. with_names t (map key (flat_map f ys))) (sym is)) left

-- a list to which pieces are added
pub pieces_more : {X Y : Type 0} (f : X → List Y) (out out' : List Y) (xs : List X) (i : ℕ) (x : X) (total : List Y)
    → i < length xs → x ≡ get_or xs i x → out' ≡ out ++ f x
    → Left (λ ys. out ++ flat_map f ys) xs i total → Left (λ ys. out' ++ flat_map f ys) xs (i + 1) total
pieces_more f out out' xs i x total lt at is left =
    left_more (λ ys. out ++ flat_map f ys) (λ ys. out' ++ flat_map f ys) xs i x total lt at
    (λ ys. sym (append_assoc out (f x) (flat_map f ys)) ∙ ap (λ o. o ++ flat_map f ys) (sym is)) left

-- the names of an input, of a state and of a file

pub input_added : (signal next : Ident) (outputs shown : List Ident) (t0 t1 t2 t3 : List (List ℕ)) → shown ≡ outputs
    → t1 ≡ with_name t0 (key signal) → t2 ≡ with_names t1 (map key shown) → t3 ≡ with_name t2 (key next) → t3 ≡ with_names t0 (map key (signal ∷ (outputs ++ next ∷ [])))
input_added signal next outputs shown t0 t1 t2 t3 same e1 e2 e3 =
    e3 ∙ ap (λ t. with_name t (key next)) (e2 ∙ (λ i. with_names (e1 i) (map key (same i)))) ∙ sym (names_both (with_name t0 (key signal)) outputs (next ∷ []))

pub state_added : (name : Ident) (inputs shown : List InputText) (t0 t1 t2 : List (List ℕ)) → shown ≡ inputs
    → t1 ≡ with_name t0 (key name) → t2 ≡ with_names t1 (map key (flat_map input_names shown)) → t2 ≡ with_names t0 (map key (name ∷ flat_map input_names inputs))
state_added name inputs shown t0 t1 t2 same e1 e2 = e2 ∙ (λ i. with_names (e1 i) (map key (flat_map input_names (same i))))

pub all_added : (system : SystemText) (t0 t1 t2 t3 t4 t5 t6 : List (List ℕ)) → t0 ≡ []
    → t1 ≡ with_name t0 (key system.system) → t2 ≡ with_names t1 (map key (signal_names system)) → t3 ≡ with_name t2 (key system.block) → t4 ≡ with_name t3 (key system.process)
    → t5 ≡ with_name t4 (key system.start.next.state) → t6 ≡ with_names t5 (map key (flat_map state_names system.states)) → t6 ≡ name_table system
all_added system t0 t1 t2 t3 t4 t5 t6 e0 e1 e2 e3 e4 e5 e6 =
    let rest : List Ident = system.block ∷ system.process ∷ system.start.next.state ∷ flat_map state_names system.states in
    e6 ∙ ap (λ t. with_names t (map key (flat_map state_names system.states))) (e5 ∙ ap (λ t. with_name t (key system.start.next.state)) (e4 ∙ ap (λ t. with_name t (key system.process)) (e3
    ∙ ap (λ t. with_name t (key system.block)) (e2 ∙ ap (λ t. with_names t (map key (signal_names system))) (e1 ∙ ap (λ t. with_name t (key system.system)) e0)))))
    ∙ sym (names_both (with_name [] (key system.system)) (signal_names system) rest)

-- ---- handlers that are given

pub given_none : (n : ℕ) (ds : List StateDef) → given n [] ds ≡ ds
given_none n [] = refl
given_none zero (d ∷ ds) = ap (λ hs. record d { handlers = hs } ∷ ds) (append-nil d.handlers)
given_none (suc n) (d ∷ ds) = ap (λ (es : List StateDef). d ∷ es) (given_none n ds)

pub given_both : (n : ℕ) (hs gs : List Handler) (ds : List StateDef) → given n (hs ++ gs) ds ≡ given n gs (given n hs ds)
given_both n hs gs [] = refl
given_both zero hs gs (d ∷ ds) = ap (λ fs. record d { handlers = fs } ∷ ds) (sym (append_assoc d.handlers hs gs))
given_both (suc n) hs gs (d ∷ ds) = ap (λ (es : List StateDef). d ∷ es) (given_both n hs gs ds)

pub given_past : (n : ℕ) (hs : List Handler) (ds : List StateDef) → length ds ≤ n → ds ≡ given n hs ds
given_past n hs [] le = refl
given_past zero hs (d ∷ ds) le = absurd (omega arith)
given_past (suc n) hs (d ∷ ds) le = ap (λ (es : List StateDef). d ∷ es) (given_past n hs ds (omega arith))

pub given_at : (n : ℕ) (hs : List Handler) (ds : List StateDef) (d : StateDef) → n < length ds → d ≡ get_or ds n d → set ds n (record d { handlers = d.handlers ++ hs }) ≡ given n hs ds
given_at n hs [] d lt at = absurd (omega arith)
given_at zero hs (e ∷ ds) d lt at = ap (λ (x : StateDef). record x { handlers = x.handlers ++ hs } ∷ ds) at
given_at (suc n) hs (e ∷ ds) d lt at = ap (λ (es : List StateDef). e ∷ es) (given_at n hs ds d (omega arith) at)

pub handed_more : (tables : Tables) (name : Ident) (state body body' : ℕ) (states states' : List StateDef) (h : Handler) (shown xs : List InputText) (i : ℕ) (x : InputText) (total : List StateDef)
    → shown ≡ xs → i < length shown → x ≡ get_or shown i x → h ≡ handler_at tables (body, record { state = name; input = x }) → states' ≡ given state (h ∷ []) states → body' ≡ body + 1
    → Left (λ ys. given state (handlers_from tables name body ys) states) xs i total → Left (λ ys. given state (handlers_from tables name body' ys) states') xs (i + 1) total
handed_more tables name state body body' states states' h shown xs i x total same lt at is gave next left =
    left_more (λ ys. given state (handlers_from tables name body ys) states) (λ ys. given state (handlers_from tables name body' ys) states') xs i x total (subst (λ ys. i < length ys) same lt) (at ∙ ap (λ ys. get_or ys i x) same)
    (λ ys. ap (λ (g : Handler). given state (g ∷ handlers_from tables name (body + 1) ys) states) (sym is) ∙ given_both state (h ∷ []) (handlers_from tables name (body + 1) ys) states
    ∙ (λ j. given state (handlers_from tables name (sym next j) ys) (sym gave j))) left

pub handed_all : (tables : Tables) (name : Ident) (state number first body : ℕ) (states states' : List StateDef) (shown xs : List InputText) (i : ℕ)
    → shown ≡ xs → length shown ≤ i → state ≡ number → Left (λ ys. given state (handlers_from tables name body ys) states') xs i (given state (handlers_from tables name first xs) states)
    → states' ≡ given number (handlers_from tables name first xs) states
handed_all tables name state number first body states states' shown xs i is le same left =
    sym (given_none state states') ∙ left_all (λ ys. given state (handlers_from tables name body ys) states') xs i (given state (handlers_from tables name first xs) states) (subst (λ ys. length ys ≤ i) is le) left
    ∙ ap (λ n. given n (handlers_from tables name first xs) states) same

-- ---- states

abbrev name_of : StateText → Ident
name_of s = s.name

pub bare_more : (names seen seen' : List (List ℕ)) (states states' : List StateDef) (xs : List StateText) (i : ℕ) (x : StateText) (total : List StateDef)
    → i < length xs → x ≡ get_or xs i x → seen' ≡ with_name seen (key x.name) → states' ≡ states ++ map (bare_state names) (firsts_from seen (x.name ∷ []))
    → Left (λ ys. states ++ map (bare_state names) (firsts_from seen (map name_of ys))) xs i total
    → Left (λ ys. states' ++ map (bare_state names) (firsts_from seen' (map name_of ys))) xs (i + 1) total
bare_more names seen seen' states states' xs i x total lt at known more left =
    left_more (λ ys. states ++ map (bare_state names) (firsts_from seen (map name_of ys))) (λ ys. states' ++ map (bare_state names) (firsts_from seen' (map name_of ys))) xs i x total lt at
    (λ ys. ap (λ (ns : List Ident). states ++ map (bare_state names) ns) (firsts_both seen x.name (map name_of ys))
    ∙ ap (λ (ds : List StateDef). states ++ ds) (map-append (bare_state names) (firsts_from seen (x.name ∷ [])) (firsts_from (with_name seen (key x.name)) (map name_of ys)))
    ∙ sym (append_assoc states (map (bare_state names) (firsts_from seen (x.name ∷ []))) (map (bare_state names) (firsts_from (with_name seen (key x.name)) (map name_of ys))))
    ∙ (λ j. sym more j ++ map (bare_state names) (firsts_from (sym known j) (map name_of ys)))) left

pub state_there : (names seen : List (List ℕ)) (name : Ident) (states : List StateDef) → is_in seen (key name) ≡ true → states ≡ states ++ map (bare_state names) (firsts_from seen (name ∷ []))
state_there names seen name states there = sym (append-nil states) ∙ ap (λ (ns : List Ident). states ++ map (bare_state names) ns) (sym (firsts_known seen name there))

pub state_new : (names seen : List (List ℕ)) (name : Ident) (states states' : List StateDef) (d : StateDef) → is_in seen (key name) ≡ false → d ≡ bare_state names name → states' ≡ states ++ d ∷ []
    → states' ≡ states ++ map (bare_state names) (firsts_from seen (name ∷ []))
state_new names seen name states states' d new is more =
    more ∙ ap (λ (e : StateDef). states ++ e ∷ []) is ∙ ap (λ (ns : List Ident). states ++ map (bare_state names) ns) (sym (firsts_new seen name new))

-- ---- the scope and the model

pub bodies_made : (tables : Tables) (system : SystemText) (b0 b1 b2 : List Body) (start : Body) (shown : List StateText)
    → b0 ≡ [] → start ≡ start_body tables system.start → b1 ≡ b0 ++ start ∷ [] → shown ≡ system.states
    → b2 ≡ b1 ++ flat_map (λ (state : StateText). map (input_body tables) state.inputs) shown → b2 ≡ bodies_of tables system
bodies_made tables system b0 b1 b2 start shown e0 e1 e2 same e3 =
    e3 ∙ (λ i. (e2 ∙ (λ j. e0 j ++ e1 j ∷ [])) i ++ flat_map (λ (state : StateText). map (input_body tables) state.inputs) (same i))
    ∙ ap (λ (bs : List Body). start_body tables system.start ∷ bs) (bodies_are tables system.states)

pub scope_made : (tables : Tables) (system : SystemText) (names : List (List ℕ)) (states : List StateDef) (starts : List Start) (bodies : List Body)
    → AreTables system tables → names ≡ name_table system → states ≡ all_given tables 1 system.states (map (bare_state names) (first_headers system))
    → starts ≡ record { entry = None; body = 0 } ∷ [] → bodies ≡ bodies_of tables system → roll-Scope (record { states = states; starts = starts; bodies = bodies }) ≡ scope_of tables system
scope_made tables system names states starts bodies are same e1 e2 e3 =
    λ i. roll-Scope (record { states = (e1 ∙ states_are tables system names are.states same) i; starts = e2 i; bodies = e3 i })

pub model_made : (tables : Tables) (system : SystemText) (names : List (List ℕ)) (id : NameId) (signals : List Signal) (root : Scope) (types : List Sort) (timers : List NameId) (variables : List Variable) (procs : List Proc)
    → AreTables system tables → names ≡ name_table system → id ≡ id_in names system.process → signals ≡ map (signal_of names) (signal_names system) → root ≡ scope_of tables system
    → types ≡ [] → timers ≡ [] → variables ≡ [] → procs ≡ []
    → record { name = id; names = names; types = types; signals = signals; timers = timers; variables = variables; procs = procs; root = root } ≡ model_of_tree system
model_made tables system names id signals root types timers variables procs are same e1 e2 e3 e4 e5 e6 e7 =
    (λ i. record {
      name = (e1 ∙ ap (λ ns. id_in ns system.process) same) i;
      names = same i;
      types = e4 i;
      signals = (e2 ∙ ap (λ ns. map (signal_of ns) (signal_names system)) same) i;
      timers = e5 i;
      variables = e6 i;
      procs = e7 i;
      root = e3 i;
    }) ∙ ap (λ ts. model_by ts system) (the_tables system tables are)
