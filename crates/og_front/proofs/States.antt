-- The states of a model: the first headers are the table of states, and what all headers give are the handlers of the definition.
use Rattle.std.proofs.Common.{◌≡◌, ℕ, zero, suc, ◌+◌, Bool, true, false, cond, List, [], ◌∷◌, ◌++◌, length, map, Option, Some, None, is_some, unwrap_or, refl, sym, ap, ◌∙◌, arith, append_assoc, if◌then◌else◌, subst}
use Rattle.std.specs.List.{flat_map, filter, AllByRecursion}
use Rattle.std.specs.Option.{option_map}
use Rattle.std.specs.Str.{bytes_eq}
use Rattle.std.specs.Cmp.Lexicographic.{bytes_decides}
use Rattle.std.proofs.lemmas.List.{append-nil, map-append, length-map}
use Rattle.std.proofs.lemmas.List.Elements.{filter-append}
use Rattle.og_names.specs.Folding.{place_of, with_name}
use Rattle.og_names.proofs.Places.{with_known, with_new, place_at_end, earlier_stays}
use Rattle.og_model.specs.declared.Body.{Body}
use Rattle.og_model.specs.declared.StateDef.{StateDef}
use Rattle.og_model.specs.declared.StateKind as kinds
use Rattle.og_model.specs.declared.Handler.{Handler}
use Rattle.og_front.specs.declared.rules.Tables.{Tables}
use Rattle.og_front.specs.declared.syntax.Ident.{Ident}
use Rattle.og_front.specs.declared.syntax.InputText.{InputText}
use Rattle.og_front.specs.declared.syntax.StateText.{StateText}
use Rattle.og_front.specs.declared.syntax.SystemText.{SystemText}
use Rattle.og_front.specs.Building.{bare_state, handlers_from, given, all_given}
use Rattle.og_front.specs.ModelOf.{id_in, Transition, transitions_in, input_body, numbered_from, handler_at, is_of, name_table, state_of, firsts_from, first_headers}
use Rattle.og_front.specs.Rules.{key, is_in, number_in, with_names, header_names, state_table}

-- ---- the names of first headers

same_name : (a b : List ℕ) → bytes_eq a b ≡ true → a ≡ b
same_name a b h = (bytes_decides a b).0 h

own_name : (a : List ℕ) → bytes_eq a a ≡ true
own_name a = (bytes_decides a a).1 refl

-- no name is another one
abbrev pub AreApart : List (List ℕ) → Type 0
AreApart [] = Unit {0}
AreApart (k ∷ ks) = (place_of ks k ≡ None) × AreApart ks

pub none_in : (o : Option ℕ) → is_some o ≡ false → o ≡ None
none_in None e = refl
none_in (Some n) e = cc

pub some_in : (o : Option ℕ) → is_some o ≡ true → o ≡ Some (unwrap_or o 0)
some_in None e = cc
some_in (Some n) e = refl

pub known_in : (table : List (List ℕ)) (k : List ℕ) → is_in table k ≡ true → with_name table k ≡ table
known_in table k e = with_known table k (unwrap_or (place_of table k) 0) (some_in (place_of table k) e)

pub new_in : (table : List (List ℕ)) (k : List ℕ) → is_in table k ≡ false → with_name table k ≡ table ++ k ∷ []
new_in table k e = with_new table k (none_in (place_of table k) e)

pub own_in : (table : List (List ℕ)) (k : List ℕ) → is_in (with_name table k) k ≡ true
own_in table k = by (is_in table k) refl
  where
    by : (b : Bool) → is_in table k ≡ b → is_in (with_name table k) k ≡ true
    by true e = ap (λ t. is_in t k) (known_in table k e) ∙ e
    by false e = ap (λ t. is_in t k) (new_in table k e) ∙ ap is_some (place_at_end table k (none_in (place_of table k) e))

pub stays_in : (table : List (List ℕ)) (k more : List ℕ) → is_in table k ≡ true → is_in (with_name table more) k ≡ true
stays_in table k more e = ap is_some (earlier_stays table k more (unwrap_or (place_of table k) 0) (some_in (place_of table k) e))

pub stay_in : (table : List (List ℕ)) (k : List ℕ) (names : List (List ℕ)) → is_in table k ≡ true → is_in (with_names table names) k ≡ true
stay_in table k [] e = e
stay_in table k (name ∷ names) e = stay_in (with_name table name) k names (stays_in table k name e)

-- the first headers are what is added to a table
pub firsts_are : (table : List (List ℕ)) (names : List Ident) → with_names table (map key names) ≡ table ++ map key (firsts_from table names)
firsts_are table [] = sym (append-nil table)
firsts_are table (name ∷ names) = by (is_in table (key name)) refl (firsts_are table names) (firsts_are (with_name table (key name)) names)
  where
    by : (b : Bool) → is_in table (key name) ≡ b → with_names table (map key names) ≡ table ++ map key (firsts_from table names)
        → with_names (with_name table (key name)) (map key names) ≡ with_name table (key name) ++ map key (firsts_from (with_name table (key name)) names)
        → with_names table (map key (name ∷ names)) ≡ table ++ map key (firsts_from table (name ∷ names))
    by true e known more =
        ap (λ t. with_names t (map key names)) (known_in table (key name) e) ∙ known
        ∙ ap (λ (c : Bool). table ++ map key (if c then firsts_from table names else name ∷ firsts_from (with_name table (key name)) names)) (sym e)
    by false e known more =
        more ∙ ap (λ t. t ++ map key (firsts_from (with_name table (key name)) names)) (new_in table (key name) e)
        ∙ append_assoc table (key name ∷ []) (map key (firsts_from (with_name table (key name)) names))
        ∙ ap (λ (c : Bool). table ++ map key (if c then firsts_from table names else name ∷ firsts_from (with_name table (key name)) names)) (sym e)

-- a name of the table is none of the further ones
firsts_without : (table : List (List ℕ)) (names : List Ident) (k : List ℕ) → is_in table k ≡ true → place_of (map key (firsts_from table names)) k ≡ None
firsts_without table [] k there = refl
firsts_without table (name ∷ names) k there =
    by (is_in table (key name)) (bytes_eq k (key name)) refl refl (firsts_without table names k there) (firsts_without (with_name table (key name)) names k (stays_in table k (key name) there))
  where
    P : Bool → Type 0
    P c = place_of (map key (if c then firsts_from table names else name ∷ firsts_from (with_name table (key name)) names)) k ≡ None

    by : (b c : Bool) → is_in table (key name) ≡ b → bytes_eq k (key name) ≡ c → place_of (map key (firsts_from table names)) k ≡ None
        → place_of (map key (firsts_from (with_name table (key name)) names)) k ≡ None → place_of (map key (firsts_from table (name ∷ names))) k ≡ None
    by true c e same known more = subst P (sym e) known
    by false true e same known more =
        let wrong : true ≡ false = sym there ∙ ap (is_in table) (same_name k (key name) same) ∙ e in
        cc
    by false false e same known more =
        subst P (sym e) (ap (λ (c : Bool). cond c (Some 0) (option_map suc (place_of (map key (firsts_from (with_name table (key name)) names)) k))) same ∙ ap (option_map suc) more)

pub firsts_apart : (table : List (List ℕ)) (names : List Ident) → AreApart (map key (firsts_from table names))
firsts_apart table [] = tt
firsts_apart table (name ∷ names) = by (is_in table (key name)) refl (firsts_apart table names) (firsts_apart (with_name table (key name)) names)
  where
    P : Bool → Type 0
    P c = AreApart (map key (if c then firsts_from table names else name ∷ firsts_from (with_name table (key name)) names))

    by : (b : Bool) → is_in table (key name) ≡ b → AreApart (map key (firsts_from table names)) → AreApart (map key (firsts_from (with_name table (key name)) names))
        → AreApart (map key (firsts_from table (name ∷ names)))
    by true e known more = subst P (sym e) known
    by false e known more = subst P (sym e) (firsts_without (with_name table (key name)) names (key name) (own_in table (key name)), more)

pub first_table : (system : SystemText) → state_table system ≡ map key (first_headers system)
first_table system = firsts_are [] (header_names system)

-- each name is in the table
abbrev pub AreIn : List (List ℕ) → List StateText → Type 0
AreIn table texts = AllByRecursion (λ (s : StateText). is_in table (key s.name) ≡ true) texts

all_in : (table total : List (List ℕ)) (texts : List StateText) → with_names table (map key (map (λ (s : StateText). s.name) texts)) ≡ total → AreIn total texts
all_in table total [] e = tt
all_in table total (s ∷ ss) e = (
  subst (λ t. is_in t (key s.name) ≡ true) e (stay_in (with_name table (key s.name)) (key s.name) (map key (map (λ (x : StateText). x.name) ss)) (own_in table (key s.name))),
  all_in (with_name table (key s.name)) total ss e,
)

pub headers_in : (system : SystemText) → AreIn (map key (first_headers system)) system.states
headers_in system = all_in [] (map key (first_headers system)) system.states (first_table system)

-- ---- the handlers of each state

-- a state with these handlers
abbrev pub state_with : List (List ℕ) → (Ident → List Handler) → Ident → StateDef
state_with names H name = record { name = id_in names name; place = name.place; kind = kinds.Basic; handlers = H name }

-- what is for one name, added to what each has
abbrev pub for_name : List ℕ → List Handler → Ident → List Handler
for_name k hs name = if bytes_eq k (key name) then hs else []

given_absent : (names : List (List ℕ)) (H : Ident → List Handler) (k : List ℕ) (hs : List Handler) (firsts : List Ident) → place_of (map key firsts) k ≡ None
    → map (state_with names H) firsts ≡ map (state_with names (λ name. H name ++ for_name k hs name)) firsts
given_absent names H k hs [] none = refl
given_absent names H k hs (name ∷ firsts) none = by (bytes_eq k (key name)) (place_of (map key firsts) k) refl refl none (given_absent names H k hs firsts)
  where
    by : (b : Bool) (o : Option ℕ) → bytes_eq k (key name) ≡ b → place_of (map key firsts) k ≡ o → cond b (Some 0) (option_map suc o) ≡ None
        → (place_of (map key firsts) k ≡ None → map (state_with names H) firsts ≡ map (state_with names (λ x. H x ++ for_name k hs x)) firsts)
        → map (state_with names H) (name ∷ firsts) ≡ map (state_with names (λ x. H x ++ for_name k hs x)) (name ∷ firsts)
    by true o e at h more = cc
    by false (Some n) e at h more = cc
    by false None e at h more =
        let here : H name ≡ H name ++ for_name k hs name = sym (append-nil (H name)) ∙ ap (λ (c : Bool). H name ++ (if c then hs else [])) (sym e) in
        (λ i. record { name = id_in names name; place = name.place; kind = kinds.Basic; handlers = here i } ∷ more at i)

pub given_named : (names : List (List ℕ)) (H : Ident → List Handler) (k : List ℕ) (n : ℕ) (hs : List Handler) (firsts : List Ident) → AreApart (map key firsts) → place_of (map key firsts) k ≡ Some n
    → given n hs (map (state_with names H) firsts) ≡ map (state_with names (λ name. H name ++ for_name k hs name)) firsts
given_named names H k n hs [] apart at = cc
given_named names H k n hs (name ∷ firsts) apart at =
    by (bytes_eq k (key name)) (place_of (map key firsts) k) n refl refl at (λ (m : ℕ). given_named names H k m hs firsts apart.1)
  where
    by : (b : Bool) (o : Option ℕ) (m : ℕ) → bytes_eq k (key name) ≡ b → place_of (map key firsts) k ≡ o → cond b (Some 0) (option_map suc o) ≡ Some m
        → ((l : ℕ) → place_of (map key firsts) k ≡ Some l → given l hs (map (state_with names H) firsts) ≡ map (state_with names (λ x. H x ++ for_name k hs x)) firsts)
        → given m hs (map (state_with names H) (name ∷ firsts)) ≡ map (state_with names (λ x. H x ++ for_name k hs x)) (name ∷ firsts)
    by true o zero e there h more =
        let here : H name ++ hs ≡ H name ++ for_name k hs name = ap (λ (c : Bool). H name ++ (if c then hs else [])) (sym e) in
        let none : place_of (map key firsts) k ≡ None = ap (place_of (map key firsts)) (same_name k (key name) e) ∙ apart.0 in
        (λ i. record { name = id_in names name; place = name.place; kind = kinds.Basic; handlers = here i } ∷ given_absent names H k hs firsts none i)
    by true o (suc m) e there h more = cc
    by false None m e there h more = cc
    by false (Some l) zero e there h more = cc
    by false (Some l) (suc m) e there h more =
        let same : l ≡ m = cc in
        let here : H name ≡ H name ++ for_name k hs name = sym (append-nil (H name)) ∙ ap (λ (c : Bool). H name ++ (if c then hs else [])) (sym e) in
        (λ i. record { name = id_in names name; place = name.place; kind = kinds.Basic; handlers = here i } ∷ more m (there ∙ ap Some same) i)

-- what the headers from here on give to a state
abbrev pub handlers_for : Tables → Ident → ℕ → List StateText → List Handler
handlers_for tables name n [] = []
handlers_for tables name n (s ∷ ss) = for_name (key s.name) (handlers_from tables s.name n s.inputs) name ++ handlers_for tables name (n + length s.inputs) ss

pub all_named : (tables : Tables) (names : List (List ℕ)) (H : Ident → List Handler) (n : ℕ) (texts : List StateText) (firsts : List Ident)
    → tables.states ≡ map key firsts → AreApart (map key firsts) → AreIn (map key firsts) texts
    → all_given tables n texts (map (state_with names H) firsts) ≡ map (state_with names (λ name. H name ++ handlers_for tables name n texts)) firsts
all_named tables names H n [] firsts same apart there = ap (λ (G : Ident → List Handler). map (state_with names G) firsts) (λ i name. sym (append-nil (H name)) i)
all_named tables names H n (s ∷ ss) firsts same apart there =
    let hs : List Handler = handlers_from tables s.name n s.inputs in
    let G : Ident → List Handler = λ name. H name ++ for_name (key s.name) hs name in
    let at : place_of (map key firsts) (key s.name) ≡ Some (number_in tables.states s.name) =
    some_in (place_of (map key firsts) (key s.name)) there.0 ∙ ap (λ t. Some (number_in t s.name)) (sym same) in
    ap (λ ds. all_given tables (n + length s.inputs) ss ds) (given_named names H (key s.name) (number_in tables.states s.name) hs firsts apart at)
    ∙ all_named tables names G (n + length s.inputs) ss firsts same apart there.1
    ∙ ap (λ (F : Ident → List Handler). map (state_with names F) firsts) (λ i name. append_assoc (H name) (for_name (key s.name) hs name) (handlers_for tables name (n + length s.inputs) ss) i)

-- ---- these are the handlers of the definition

numbered-append : (n : ℕ) (ts us : List Transition) → numbered_from n (ts ++ us) ≡ numbered_from n ts ++ numbered_from (n + length ts) us
numbered-append n [] us = ap (λ m. numbered_from m us) (omega arith)
numbered-append n (t ∷ ts) us =
    let e : n + 1 + length ts ≡ n + length (t ∷ ts) = omega arith in
    ap (λ (xs : List (ℕ × Transition)). (n, t) ∷ xs) (numbered-append (n + 1) ts us ∙ ap (λ m. numbered_from (n + 1) ts ++ numbered_from m us) e)

abbrev transition : Ident → InputText → Transition
transition state input = record { state = state; input = input }

of_header : (tables : Tables) (name state : Ident) (b : Bool) (n : ℕ) (inputs : List InputText) → bytes_eq (key state) (key name) ≡ b
    → map (handler_at tables) (filter (is_of name) (numbered_from n (map (transition state) inputs))) ≡ (if b then handlers_from tables state n inputs else [])
of_header tables name state true n [] e = refl
of_header tables name state false n [] e = refl
of_header tables name state true n (input ∷ inputs) e =
    rw e (ap (λ (hs : List Handler). handler_at tables (n, transition state input) ∷ hs) (of_header tables name state true (n + 1) inputs e))
of_header tables name state false n (input ∷ inputs) e = rw e (of_header tables name state false (n + 1) inputs e)

pub handlers_are : (tables : Tables) (name : Ident) (n : ℕ) (texts : List StateText)
    → handlers_for tables name n texts ≡ map (handler_at tables) (filter (is_of name) (numbered_from n (flat_map transitions_in texts)))
handlers_are tables name n [] = refl
handlers_are tables name n (s ∷ ss) =
    let ts : List Transition = transitions_in s in
    let us : List Transition = flat_map transitions_in ss in
    let e : n + length ts ≡ n + length s.inputs = ap (λ m. n + m) (length-map s.inputs (transition s.name)) in
    sym (ap (λ xs. map (handler_at tables) (filter (is_of name) xs)) (numbered-append n ts us)
    ∙ ap (map (handler_at tables)) (filter-append (is_of name) (numbered_from n ts) (numbered_from (n + length ts) us))
    ∙ map-append (handler_at tables) (filter (is_of name) (numbered_from n ts)) (filter (is_of name) (numbered_from (n + length ts) us))
    ∙ (λ i. of_header tables name s.name (bytes_eq (key s.name) (key name)) n s.inputs refl i ++ map (handler_at tables) (filter (is_of name) (numbered_from (e i) us)))
    ∙ ap (λ hs. for_name (key s.name) (handlers_from tables s.name n s.inputs) name ++ hs) (sym (handlers_are tables name (n + length s.inputs) ss)))

-- the states that the code makes are those of the definition
pub states_are : (tables : Tables) (system : SystemText) (names : List (List ℕ)) → tables.states ≡ state_table system → names ≡ name_table system
    → all_given tables 1 system.states (map (bare_state names) (first_headers system)) ≡ map (state_of tables system) (first_headers system)
states_are tables system names same e =
    all_named tables names (λ _. []) 1 system.states (first_headers system) (same ∙ first_table system) (firsts_apart [] (header_names system)) (headers_in system)
    ∙ (λ i. map (state_with (e i) (λ name. handlers_are tables name 1 system.states i)) (first_headers system))

-- ---- bodies

pub bodies_are : (tables : Tables) (texts : List StateText)
    → flat_map (λ (state : StateText). map (input_body tables) state.inputs) texts ≡ map (λ (t : Transition). input_body tables t.input) (flat_map transitions_in texts)
bodies_are tables [] = refl
bodies_are tables (s ∷ ss) =
    (λ i. of_state s.inputs i ++ bodies_are tables ss i) ∙ sym (map-append (λ (t : Transition). input_body tables t.input) (transitions_in s) (flat_map transitions_in ss))
  where
    of_state : (inputs : List InputText) → map (input_body tables) inputs ≡ map (λ (t : Transition). input_body tables t.input) (map (transition s.name) inputs)
    of_state [] = refl
    of_state (input ∷ inputs) = ap (λ (bs : List Body). input_body tables input ∷ bs) (of_state inputs)

-- one name more among the first headers
pub firsts_both : (table : List (List ℕ)) (name : Ident) (names : List Ident) → firsts_from table (name ∷ names) ≡ firsts_from table (name ∷ []) ++ firsts_from (with_name table (key name)) names
firsts_both table name names = by (is_in table (key name)) refl
  where
    by : (b : Bool) → is_in table (key name) ≡ b → firsts_from table (name ∷ names) ≡ firsts_from table (name ∷ []) ++ firsts_from (with_name table (key name)) names
    by true e =
        ap (λ (c : Bool). if c then firsts_from table names else name ∷ firsts_from (with_name table (key name)) names) e ∙ ap (λ t. firsts_from t names) (sym (known_in table (key name) e))
        ∙ ap (λ (c : Bool). (if c then [] else name ∷ []) ++ firsts_from (with_name table (key name)) names) (sym e)
    by false e =
        ap (λ (c : Bool). if c then firsts_from table names else name ∷ firsts_from (with_name table (key name)) names) e
        ∙ ap (λ (c : Bool). (if c then [] else name ∷ []) ++ firsts_from (with_name table (key name)) names) (sym e)

pub firsts_known : (table : List (List ℕ)) (name : Ident) → is_in table (key name) ≡ true → firsts_from table (name ∷ []) ≡ []
firsts_known table name e = ap (λ (c : Bool). if c then [] else name ∷ []) e

pub firsts_new : (table : List (List ℕ)) (name : Ident) → is_in table (key name) ≡ false → firsts_from table (name ∷ []) ≡ name ∷ []
firsts_new table name e = ap (λ (c : Bool). if c then [] else name ∷ []) e
