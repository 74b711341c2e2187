-- What is declared under the names of an interface.
use Rattle.std.proofs.Common.{◌≡◌, ℕ, ◌+◌, ◌<◌, ◌≤◌, List, [], ◌∷◌, map, length, get_or, Bool, true, false, cond, ◌&&◌, ◌||◌, Option, Some, is_some, not, refl, sym, ap, ◌∙◌, arith}
use Rattle.std.specs.List.{list_all}
use Rattle.std.specs.Str.{bytes_eq}
use Rattle.std.proofs.lemmas.List.FromFn.{length-range_with_len, get_or-range_with_len}
use Rattle.std.proofs.lemmas.List.Folds.{list_all-append, list_all-map}
use Rattle.og_model.specs.declared.Model.{Model}
use Rattle.og_model.specs.declared.EventId.{EventId}
use Rattle.og_csubset.specs.Kinds.{is_in}
use Rattle.og_csubset.specs.Interface as interface
use Rattle.og_csubset.specs.Interface.{numbers_below}
use Rattle.og_csubset.specs.Reads.{event_named}
use Rattle.og_types.specs.declared.Sort.{Sort}
use Rattle.og_csubset.specs.declared.CProgram.{CProgram}
use Rattle.og_csubset.specs.Kinds.{event_names}
use Rattle.og_csubset.specs.Loading.{all_names, has_field, has_event}
use Rattle.og_cload.specs.Fields.{free_or_has}
use Rattle.og_names.proofs.Loops.{Left, left_more, left_stop, left_all}

pub number_at : (k n : ℕ) → k < n → k ≡ get_or (numbers_below n) k k
number_at k n h = let e = get_or-range_with_len 0 n k k h in omega (arith, e)

pub number_within : (k n : ℕ) → k < n → k < length (numbers_below n)
number_within k n h = let e = length-range_with_len 0 n in omega (arith, e, h)

pub no_number : (k n : ℕ) → n ≤ k → length (numbers_below n) ≤ k
no_number k n h = let e = length-range_with_len 0 n in omega (arith, e, h)

found_if : {A : Type 0} (b : Bool) (x : A) (o : Option A) → is_some (cond b (Some x) o) ≡ (b || is_some o)
found_if true x o = refl
found_if false x o = refl

-- a name is that of an event exactly where it is found
pub named_is : (model : Model) (name : List ℕ) (ids : List EventId) → is_some (event_named model name ids) ≡ is_in name (map (interface.event_name model) ids)
named_is model name [] = refl
named_is model name (id ∷ ids) =
    found_if (bytes_eq name (interface.event_name model id)) id (event_named model name ids) ∙ ap (λ b. bytes_eq name (interface.event_name model id) || b) (named_is model name ids)

-- the functions of an interface, one kind after the other
pub functions_all : (p : List ℕ → Bool) (model : Model)
    → list_all p (interface.functions_of model)
    ≡ (p interface.start_function
    && (list_all (λ k. p (interface.signal_function model k)) (interface.incoming model) && list_all (λ k. p (interface.timer_function model k)) (numbers_below (length model.timers))))
functions_all p model =
    ap (λ b. p interface.start_function && b)
    (list_all-append p (map (interface.signal_function model) (interface.incoming model)) (map (interface.timer_function model) (numbers_below (length model.timers)))
    ∙ ap (λ b. b && list_all p (map (interface.timer_function model) (numbers_below (length model.timers)))) (list_all-map p (interface.signal_function model) (interface.incoming model))
    ∙ ap (λ b. list_all (λ k. p (interface.signal_function model k)) (interface.incoming model) && b) (list_all-map p (interface.timer_function model) (numbers_below (length model.timers))))

-- a test of all numbers below a bound, from a number on
pub timers_stop : (p : ℕ → Bool) (n k : ℕ) (total : Bool) → k < n → p k ≡ false → Left (λ ys. list_all p ys) (numbers_below n) k total → false ≡ total
timers_stop p n k total h never left =
    left_stop (λ ys. list_all p ys) (numbers_below n) k k false total (number_within k n h) (number_at k n h) (λ ys. ap (λ b. b && list_all p ys) never) left

pub timers_more : (p : ℕ → Bool) (n k : ℕ) (total : Bool) → k < n → p k ≡ true → Left (λ ys. list_all p ys) (numbers_below n) k total → Left (λ ys. list_all p ys) (numbers_below n) (k + 1) total
timers_more p n k total h always left =
    left_more (λ ys. list_all p ys) (λ ys. list_all p ys) (numbers_below n) k k total (number_within k n h) (number_at k n h) (λ ys. ap (λ b. b && list_all p ys) always) left

pub timers_all : (p : ℕ → Bool) (n k : ℕ) (total : Bool) → n ≤ k → Left (λ ys. list_all p ys) (numbers_below n) k total → true ≡ total
timers_all p n k total h left = left_all (λ ys. list_all p ys) (numbers_below n) k total (no_number k n h) left

-- an event that is not declared
pub event_undeclared : (program : CProgram) (model : Model) (event : EventId) (name : List ℕ) (declared all : List (List ℕ)) (sorts : List Sort) (fields : List interface.Field) (fit : Bool)
    → name ≡ interface.event_name model event → declared ≡ event_names program → all ≡ all_names program → sorts ≡ model.types → fields ≡ interface.event_globals model event
    → is_in name declared ≡ false → is_in name all ≡ false → fit ≡ list_all (free_or_has program sorts all) fields → fit ≡ has_event program model event
event_undeclared program model event name declared all sorts fields fit n d a t g never none fits =
    let undeclared : is_in (interface.event_name model event) (event_names program) ≡ false =
    ap (λ x. is_in x (event_names program)) (sym n) ∙ ap (is_in name) (sym d) ∙ never in
    let free : is_in (interface.event_name model event) (all_names program) ≡ false = ap (λ x. is_in x (all_names program)) (sym n) ∙ ap (is_in name) (sym a) ∙ none in
    fits
    ∙ ap (list_all (free_or_has program sorts all)) g
    ∙ ap (λ s. list_all (free_or_has program s all) (interface.event_globals model event)) t
    ∙ ap (λ x. list_all (free_or_has program model.types x) (interface.event_globals model event)) a
    ∙ sym (ap (λ b. cond b (list_all (has_field program model) (interface.event_globals model event))
    (not (is_in (interface.event_name model event) (all_names program)) && list_all (free_or_has program model.types (all_names program)) (interface.event_globals model event))) undeclared
    ∙ ap (λ b. not b && list_all (free_or_has program model.types (all_names program)) (interface.event_globals model event)) free)

pub ruleset declared = (named_is, functions_all)
