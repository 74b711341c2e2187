-- How the code of a model of basic states is reached from outside, and what its slots say: the functions of its stimuli, the
-- events that it shows, and the state in which it rests.
use Rattle.std.proofs.Common.{◌≡◌, ℕ, zero, suc, ◌+◌, ◌<◌, Bool, true, false, not, cond, if◌then◌else◌, List, [], ◌∷◌, ◌++◌, map, length, slice_get, Option, Some, codes, refl, sym, ap, subst, ◌∙◌, arith, IsTrue}
use Rattle.std.specs.Option.{option_map}
use Rattle.std.specs.List.{range_with_len}
use Rattle.std.specs.Str.{bytes_eq}
use Rattle.std.proofs.lemmas.Slice.Eq.{bytes_eq-Decides}
use Rattle.std.proofs.lemmas.Bool.{false≢true}
use Rattle.std.proofs.lemmas.Option.{none-some, slice_get-map}
use Rattle.og_names.specs.declared.Word.{Word}
use Rattle.og_model.specs.declared.Model.{Model}
use Rattle.og_model.specs.declared.Signal.{Signal}
use Rattle.og_model.specs.declared.EventId.{EventId}
use Rattle.og_model.specs.declared.EventId.TheVariants as event
use Rattle.og_model.specs.declared.StateDef.{StateDef}
use Rattle.og_model.specs.RegionTypes.{Leaf}
use Rattle.og_model.specs.Regions.{Insides, state_insides, states_insides}
use Rattle.og_model.specs.Shown as Shows
use Rattle.og_ir.specs.declared.FlatFn.{FlatFn}
use Rattle.og_ir.specs.Cells.{◌>>=◌, Cells}
use Rattle.og_csubset.specs.Kinds.{place_in, is_in}
use Rattle.og_csubset.specs.Loading.{has_twice}
use Rattle.og_csubset.specs.Interface as interface
use Rattle.og_csubset.specs.Fair.{Fair, names_of}
use Rattle.og_csubset.specs.FlatRun.{slot_names, flat_function_names, flat_event}
use Rattle.og_csubset.specs.Reads.{Globals, event_shown, event_named, event_of, values_of}
use Rattle.og_flatten.specs.Slots.{inputs_of, control_of}
use Rattle.og_flatten.specs.FlatCode.{code_of, event_word, signal_function, function_if_incoming, signal_functions}
use Rattle.og_names.proofs.Truths.{neither_first as or_left, neither_second as or_right, neither_true as both_false, same_value as some_is}

-- ---- names that differ

own_bytes : (name : List ℕ) → bytes_eq name name ≡ true
own_bytes name = (bytes_eq-Decides name name).1 refl

-- a name that does not stand among others is none of them
other_bytes : (other name : List ℕ) (names : List (List ℕ)) (i : ℕ) → is_in other names ≡ false → slice_get names i ≡ Some name → bytes_eq name other ≡ false
other_bytes other name [] i out at = absurd (none-some name at)
other_bytes other name (first ∷ names) zero out at =
    by_test (bytes_eq name other) refl
  where
    by_test : (b : Bool) → bytes_eq name other ≡ b → b ≡ false
    by_test false e = refl
    by_test true e =
        let same = (bytes_eq-Decides name other).0 e in
        let here = some_is first name at in
        absurd (false≢true (sym (or_left (bytes_eq other first) (is_in other names) out) ∙ (bytes_eq-Decides other first).1 (sym same ∙ sym here)))
other_bytes other name (first ∷ names) (suc i) out at = other_bytes other name names i (or_right (bytes_eq other first) (is_in other names) out) at

-- a name's place is where it stands
pub place_of : (names : List (List ℕ)) (i : ℕ) (name : List ℕ) → has_twice names ≡ false → slice_get names i ≡ Some name → place_in name names ≡ Some i
place_of [] i name once at = absurd (none-some name at)
place_of (first ∷ names) zero name once at =
    ap (λ b. if b then Some 0 else (place_in name names >>= λ k. Some (k + 1)))
    (ap (bytes_eq name) (some_is first name at) ∙ own_bytes name)
place_of (first ∷ names) (suc i) name once at =
    ap (λ b. if b then Some 0 else (place_in name names >>= λ k. Some (k + 1)))
    (other_bytes first name names i (or_left (is_in first names) (has_twice names) once) at)
    ∙ ap (λ o. o >>= λ k. Some (k + 1)) (place_of names i name (or_right (is_in first names) (has_twice names) once) at)
    ∙ ap Some (plus_one i)
  where
    plus_one : (i : ℕ) → i + 1 ≡ suc i
    plus_one i = omega (arith)

in_more : (name : List ℕ) (xs ys : List (List ℕ)) → is_in name (xs ++ ys) ≡ false → is_in name ys ≡ false
in_more name [] ys h = h
in_more name (x ∷ xs) ys h = in_more name xs ys (or_right (bytes_eq name x) (is_in name (xs ++ ys)) h)

in_fewer : (name : List ℕ) (xs ys : List (List ℕ)) → is_in name (xs ++ ys) ≡ false → is_in name xs ≡ false
in_fewer name [] ys h = refl
in_fewer name (x ∷ xs) ys h =
    both_false (bytes_eq name x) (is_in name xs) (or_left (bytes_eq name x) (is_in name (xs ++ ys)) h) (in_fewer name xs ys (or_right (bytes_eq name x) (is_in name (xs ++ ys)) h))

-- names of a part differ where all names do
pub once_behind : (xs ys : List (List ℕ)) → has_twice (xs ++ ys) ≡ false → has_twice ys ≡ false
once_behind [] ys h = h
once_behind (x ∷ xs) ys h = once_behind xs ys (or_right (is_in x (xs ++ ys)) (has_twice (xs ++ ys)) h)

pub once_before : (xs ys : List (List ℕ)) → has_twice (xs ++ ys) ≡ false → has_twice xs ≡ false
once_before [] ys h = refl
once_before (x ∷ xs) ys h =
    both_false (is_in x xs) (has_twice xs) (in_fewer x xs ys (or_left (is_in x (xs ++ ys)) (has_twice (xs ++ ys)) h)) (once_before xs ys (or_right (is_in x (xs ++ ys)) (has_twice (xs ++ ys)) h))

pub not_true : (b : Bool) → IsTrue (not b) → b ≡ false
not_true true h = absurd (false≢true h)
not_true false h = refl

pub functions_once : (M : Model) → Fair (code_of M) M → has_twice (flat_function_names (code_of M)) ≡ false
functions_once M fair =
    let all = not_true (has_twice (names_of (code_of M))) fair.differ in
    once_behind (slot_names (code_of M) ++ map (λ (e : Word). e.bytes) (code_of M).events) (flat_function_names (code_of M)) all

pub events_once : (M : Model) → Fair (code_of M) M → has_twice (map (λ (e : Word). e.bytes) (code_of M).events) ≡ false
events_once M fair =
    let all = not_true (has_twice (names_of (code_of M))) fair.differ in
    once_behind (slot_names (code_of M)) (map (λ (e : Word). e.bytes) (code_of M).events) (once_before (slot_names (code_of M) ++ map (λ (e : Word). e.bytes) (code_of M).events) (flat_function_names (code_of M)) all)

-- ---- functions

-- the function of the start
pub start_placed : (M : Model) → Fair (code_of M) M → place_in interface.start_function (flat_function_names (code_of M)) ≡ Some 1
start_placed M fair = place_of (flat_function_names (code_of M)) 1 interface.start_function (functions_once M fair) refl

-- The function of a signal.
pub record SignalAt (M : Model) (k : ℕ) (s : Signal) : Type 0 where
  pub function : ℕ
  pub at : slice_get (code_of M).functions function ≡ Some (signal_function (control_of M) M k s)
  pub placed : place_in (interface.signal_function M k) (flat_function_names (code_of M)) ≡ Some function
  pub other : function ≡ 0 → ⊥

abbrev Among : Model → ℕ → List FlatFn → Signal → Type 0
Among M k functions s = (i : ℕ) × (slice_get functions i ≡ Some (signal_function (control_of M) M k s))

behind_one : (M : Model) (n k : ℕ) (c s : Signal) (functions : List FlatFn) → Among M k functions s → Among M k (function_if_incoming (control_of M) M n c ++ functions) s
behind_one M n k c s functions found = by_test c.incoming
  where
    by_test : (b : Bool) → Among M k (cond b (signal_function (control_of M) M n c ∷ []) [] ++ functions) s
    by_test true = (suc found.0, found.1)
    by_test false = found

among : (M : Model) (n k : ℕ) (signals : List Signal) (s : Signal) → slice_get signals k ≡ Some s → s.incoming ≡ true → Among M (n + k) (signal_functions (control_of M) M n signals) s
among M n k [] s at incoming = absurd (none-some s at)
among M n zero (c ∷ signals) s at incoming =
    let is = some_is c s at in
    subst (λ d. Among M (n + zero) (function_if_incoming (control_of M) M n c ++ signal_functions (control_of M) M (n + 1) signals) d) is (
      0,
      ap (λ b. slice_get (cond b (signal_function (control_of M) M n c ∷ []) [] ++ signal_functions (control_of M) M (n + 1) signals) 0) (ap (λ (d : Signal). d.incoming) is ∙ incoming)
          ∙ ap (λ m. Some (signal_function (control_of M) M m c)) (plus_zero n),
    )
  where
    plus_zero : (n : ℕ) → n ≡ n + zero
    plus_zero n = omega (arith)
among M n (suc k) (c ∷ signals) s at incoming =
    subst (λ m. Among M m (function_if_incoming (control_of M) M n c ++ signal_functions (control_of M) M (n + 1) signals) s) (shift n k)
    (behind_one M n (n + 1 + k) c s (signal_functions (control_of M) M (n + 1) signals) (among M (n + 1) k signals s at incoming))
  where
    shift : (n k : ℕ) → n + 1 + k ≡ n + suc k
    shift n k = omega (arith)

pub signal_at : (M : Model) → Fair (code_of M) M → (k : ℕ) (s : Signal) → slice_get M.signals k ≡ Some s → s.incoming ≡ true → SignalAt M k s
signal_at M fair k s at incoming =
    let found = subst (λ m. Among M m (signal_functions (control_of M) M 0 M.signals) s) (none_more k) (among M 0 k M.signals s at incoming) in
    let f = suc (suc found.0) in
    let named : interface.signal_function M k ≡ (signal_function (control_of M) M k s).name.bytes =
    ap (λ o. codes "on_" ++ interface.name_if M (interface.signal_id o)) at in
    record {
      function = f;
      at = found.1;
      placed = place_of (flat_function_names (code_of M)) f (interface.signal_function M k) (functions_once M fair)
          (slice_get-map (λ (g : FlatFn). g.name.bytes) (code_of M).functions f ∙ ap (option_map (λ (g : FlatFn). g.name.bytes)) found.1 ∙ ap Some (sym named));
      other = λ e. omega (arith, e);
    }
  where
    none_more : (k : ℕ) → 0 + k ≡ k
    none_more k = omega (arith)

-- ---- events

named : (M : Model) (ids : List EventId) (i : ℕ) (id : EventId) → has_twice (map (interface.event_name M) ids) ≡ false → slice_get ids i ≡ Some id → event_named M (interface.event_name M id) ids ≡ Some id
named M [] i id once at = absurd (none-some id at)
named M (first ∷ ids) zero id once at =
    ap (λ b. if b then Some first else event_named M (interface.event_name M id) ids)
    (ap (λ x. bytes_eq (interface.event_name M id) (interface.event_name M x)) (some_is first id at) ∙ own_bytes (interface.event_name M id))
    ∙ at
named M (first ∷ ids) (suc i) id once at =
    ap (λ b. if b then Some first else event_named M (interface.event_name M id) ids)
    (other_bytes (interface.event_name M first) (interface.event_name M id) (map (interface.event_name M) ids) i (or_left (is_in (interface.event_name M first) (map (interface.event_name M) ids)) _ once)
    (slice_get-map (interface.event_name M) ids i ∙ ap (option_map (interface.event_name M)) at))
    ∙ named M ids i id (or_right (is_in (interface.event_name M first) (map (interface.event_name M) ids)) _ once) at

get_number : (a n k : ℕ) → k < n → slice_get (range_with_len a n) k ≡ Some (a + k)
get_number a zero k lt = absurd (omega (arith, lt))
get_number a (suc n) zero lt = ap Some (plus_zero a)
  where
    plus_zero : (a : ℕ) → a ≡ a + zero
    plus_zero a = omega (arith)
get_number a (suc n) (suc k) lt = get_number (a + 1) n k (omega (arith, lt)) ∙ ap Some (shift a k)
  where
    shift : (a k : ℕ) → a + 1 + k ≡ a + suc k
    shift a k = omega (arith)

get_before : {A : Type 0} (xs ys : List A) (k : ℕ) (x : A) → slice_get xs k ≡ Some x → slice_get (xs ++ ys) k ≡ Some x
get_before [] ys k x at = absurd (none-some x at)
get_before (z ∷ xs) ys zero x at = at
get_before (z ∷ xs) ys (suc k) x at = get_before xs ys k x at

event_at : (M : Model) (k : ℕ) → k < length M.signals → slice_get (interface.events_of M) k ≡ Some (event.Output k)
event_at M k lt =
    get_before (map event.Output (interface.numbers_below (length M.signals))) _ k (event.Output k)
    (slice_get-map event.Output (interface.numbers_below (length M.signals)) k
    ∙ ap (option_map event.Output) (get_number 0 (length M.signals) k lt)
    ∙ ap (λ m. Some (event.Output m)) (none_more k))
  where
    none_more : (k : ℕ) → 0 + k ≡ k
    none_more k = omega (arith)

abbrev SignalThere : Model → ℕ → Type 0
SignalThere M k = (s : Signal) × (slice_get M.signals k ≡ Some s)

pub there : {A : Type 0} (xs : List A) (k : ℕ) → k < length xs → (x : A) × (slice_get xs k ≡ Some x)
there [] k lt = absurd (omega (arith, lt))
there (x ∷ xs) zero lt = (x, refl)
there (x ∷ xs) (suc k) lt = there xs k (omega (arith, lt))

-- an output of a signal without parameters is shown without values
pub emits : (M : Model) → Fair (code_of M) M → (k : ℕ) → k < length M.signals → interface.signal_sorts M k ≡ [] → (slots : List Cells) → flat_event M (code_of M) k slots ≡ Some (Shows.Output k [])
unfolding event_of
emits M fair k lt silent slots =
    let found = there M.signals k lt in
    let s = found.0 in
    let globals : Globals = record { names = slot_names (code_of M); cells = slots } in
    let name_is : (event_word M s).bytes ≡ interface.event_name M (event.Output k) =
    sym (ap (λ o. codes "o_" ++ interface.name_if M (interface.signal_id o)) found.1) in
    let once = subst (λ names. has_twice names ≡ false) fair.events (events_once M fair) in
    ap (λ o. o >>= λ name. event_of M (slot_names (code_of M)) name.bytes slots)
    (slice_get-map (event_word M) M.signals k ∙ ap (option_map (event_word M)) found.1)
    ∙ ap (λ bytes. event_named M bytes (interface.events_of M) >>= event_shown M globals) name_is
    ∙ ap (λ o. o >>= event_shown M globals) (named M (interface.events_of M) k (event.Output k) once (event_at M k lt))
    ∙ ap (λ types. values_of M globals (interface.parameters_from 1 (codes "o_" ++ interface.signal_name M k) types) >>= λ vs. Some (Shows.Output k vs)) silent

-- the fields of an incoming signal's parameters
pub inputs_at : (M : Model) (k : ℕ) (s : Signal) → slice_get M.signals k ≡ Some s → s.incoming ≡ true → interface.inputs_of M k ≡ inputs_of M s
inputs_at M k s at incoming =
    ap (λ (o : Option Signal). interface.parameters_from 1 (codes "i_" ++ interface.name_if M (interface.signal_id o)) (interface.sorts_of o)) at
    ∙ ap (λ b. cond b (interface.parameters_from 1 (codes "i_" ++ interface.name_of M s.name) s.sorts) []) (sym incoming)

-- ---- the state in which the process rests

abbrev pub leaf_of : StateDef → Leaf
leaf_of d = record { path = d.name ∷ []; basic = true }

pub no_regions : (within : _ → Insides) (states : List StateDef) → ((i : ℕ) (x : StateDef) → slice_get states i ≡ Some x → state_insides within x ≡ record { leaves = leaf_of x ∷ []; regions = [] }) → (states_insides within states).regions ≡ []
no_regions within [] basic = refl
no_regions within (c ∷ states) basic =
    ap (λ (x : Insides). x.regions ++ (states_insides within states).regions) (basic 0 c refl)
    ∙ no_regions within states (λ i x e. basic (suc i) x e)
