-- The events and the functions of signals have the interface's names.
use Rattle.std.proofs.Common.{◌≡◌, ℕ, suc, ◌+◌, List, [], ◌∷◌, ◌++◌, Bool, true, false, cond, ◌||◌, map, length, slice_get, append-nil, Option, Some, refl, sym, ap, ◌∙◌, arith}
use Rattle.std.specs.Prelude.{codes, flat_map, if◌then◌else◌}
use Rattle.std.specs.List.{list_all, range_with_len}
use Rattle.std.specs.Str.{bytes_eq}
use Rattle.std.specs.Cmp.Lexicographic.{bytes_decides}
use Rattle.std.proofs.lemmas.Bool.{and_from}
use Rattle.og_names.specs.declared.NameId.{NameId}
use Rattle.og_names.specs.declared.Word.{Word}
use Rattle.og_model.specs.declared.Model.{Model}
use Rattle.og_model.specs.declared.Signal.{Signal}
use Rattle.og_model.specs.declared.EventId.{EventId}
use Rattle.og_model.specs.declared.EventId.TheVariants as event
use Rattle.og_ir.specs.declared.FlatFn.{FlatFn}
use Rattle.og_csubset.specs.Interface as interface
use Rattle.og_csubset.specs.Interface.{name_of, name_if, signal_id, signal_name, numbers_below, incoming_from, incoming, event_name, events_of, timer_function, functions_of}
use Rattle.og_csubset.specs.Kinds.{is_in}
use Rattle.og_csubset.specs.FlatRun.{flat_function_names}
use Rattle.og_flatten.specs.FlatCode.{event_word, signal_function, signal_functions}
use Rattle.og_flatten.specs.Slots.{control_of}
use Rattle.og_flatten.proofs.PlainSlots.{plain_code}
use Rattle.og_flatten.proofs.Made.{IsMade}
use Rattle.og_flatten.proofs.Tests.{all_append, all_by}

-- these are the signals from the k-th on
pub record From (model : Model) (k : ℕ) (signals : List Signal) : Type 0 where
  pub at : (j : ℕ) → slice_get model.signals (k + j) ≡ slice_get signals j

pub all_signals : (model : Model) → From model 0 model.signals
all_signals model = record { at = λ j. ap (slice_get model.signals) (omega arith) }

pub the_others : (model : Model) (k : ℕ) (s : Signal) (signals : List Signal) → From model k (s ∷ signals) → From model (k + 1) signals
the_others model k s signals from = record { at = λ j. ap (slice_get model.signals) (omega arith) ∙ from.at (suc j) }

pub at_first : (model : Model) (k : ℕ) (s : Signal) (signals : List Signal) → From model k (s ∷ signals) → slice_get model.signals k ≡ Some s
at_first model k s signals from = ap (slice_get model.signals) (omega arith) ∙ from.at 0

pub name_at : (model : Model) (k : ℕ) (s : Signal) (signals : List Signal) → From model k (s ∷ signals) → signal_name model k ≡ name_of model s.name
name_at model k s signals from =
    ap (λ (o : Option Signal). name_if model (signal_id o)) (at_first model k s signals from)

-- ---- events

names_from : (model : Model) (k : ℕ) (signals : List Signal) → From model k signals
    → map (λ (e : Word). e.bytes) (map (event_word model) signals) ≡ map (event_name model) (map event.Output (range_with_len k (length signals)))
names_from model k [] from = refl
names_from model k (s ∷ signals) from =
    ap (λ name. (codes "o_" ++ name) ∷ map (λ (e : Word). e.bytes) (map (event_word model) signals)) (sym (name_at model k s signals from))
    ∙ ap (λ names. (codes "o_" ++ signal_name model k) ∷ names) (names_from model (k + 1) signals (the_others model k s signals from))

abbrev with_timers : Model → List NameId → List EventId
with_timers model timers =
    map event.Output (numbers_below (length model.signals))
    ++ flat_map (λ (k : ℕ). event.Set k ∷ event.Reset k ∷ []) (numbers_below (length timers))

pub events : (model : Model) → IsMade model → map (λ (e : Word). e.bytes) (map (event_word model) model.signals) ≡ map (event_name model) (events_of model)
events model made =
    names_from model 0 model.signals (all_signals model)
    ∙ ap (map (event_name model)) (sym (ap (with_timers model) made.basic.no_timers ∙ append-nil (map event.Output (numbers_below (length model.signals)))))

-- ---- functions

abbrev names_of_functions : List FlatFn → List (List ℕ)
names_of_functions functions = map (λ (f : FlatFn). f.name.bytes) functions

one_more : (model : Model) (k : ℕ) (s : Signal) (b : Bool) (functions : List FlatFn) (ks : List ℕ) → signal_name model k ≡ name_of model s.name
    → names_of_functions functions ≡ map (interface.signal_function model) ks
    → names_of_functions (cond b (signal_function (control_of model) model k s ∷ []) [] ++ functions) ≡ map (interface.signal_function model) ((if b then k ∷ [] else []) ++ ks)
one_more model k s true functions ks named others =
    ap (λ name. (codes "on_" ++ name) ∷ names_of_functions functions) (sym named) ∙ ap (λ names. (codes "on_" ++ signal_name model k) ∷ names) others
one_more model k s false functions ks named others = others

pub functions_from : (model : Model) (k : ℕ) (signals : List Signal) → From model k signals
    → names_of_functions (signal_functions (control_of model) model k signals) ≡ map (interface.signal_function model) (incoming_from k signals)
functions_from model k [] from = refl
functions_from model k (s ∷ signals) from =
    one_more model k s s.incoming (signal_functions (control_of model) model (k + 1) signals) (incoming_from (k + 1) signals) (name_at model k s signals from)
    (functions_from model (k + 1) signals (the_others model k s signals from))

same_bytes : (name : List ℕ) → bytes_eq name name ≡ true
same_bytes name = (bytes_decides name name).1 refl

in_more : (name other : List ℕ) (names : List (List ℕ)) → is_in name names ≡ true → is_in name (other ∷ names) ≡ true
in_more name other names is = grind (arith, is)

all_in : (names : List (List ℕ)) → list_all (λ name. is_in name names) names ≡ true
all_in [] = refl
all_in (name ∷ names) =
    and_from _ _ (ap (λ b. b || is_in name names) (same_bytes name))
    (all_by (λ other. is_in other names) (λ other. is_in other (name ∷ names)) (λ other is. in_more other name names is) names (all_in names))

pub functions : (model : Model) → IsMade model → list_all (λ name. is_in name (flat_function_names (plain_code model))) (functions_of model) ≡ true
functions model made =
    let found : List ℕ → Bool = λ name. is_in name (flat_function_names (plain_code model)) in
    let names : List (List ℕ) = names_of_functions (signal_functions (control_of model) model 0 model.signals) in
    all_append found (map (interface.signal_function model) (incoming model)) (map (timer_function model) (numbers_below (length model.timers)))
    (ap (list_all found) (sym (functions_from model 0 model.signals (all_signals model)))
    ∙ all_by (λ name. is_in name names) found
    (λ name is. in_more name (codes "transition") (codes "start" ∷ names) (in_more name (codes "start") names is)) names (all_in names))
    (ap (λ (ts : List NameId). list_all found (map (timer_function model) (numbers_below (length ts)))) made.basic.no_timers)
