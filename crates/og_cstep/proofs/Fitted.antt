-- The globals of an interface among those of a program that loads: each is missing, or has its shape.
use Rattle.std.proofs.Common.{◌≡◌, ℕ, zero, suc, ◌+◌, ◌<◌, ◌≤◌, List, [], ◌∷◌, ◌++◌, length, map, Bool, true, false, cond, not, ◌&&◌, ◌||◌, ◌⊎◌, inl, inr, nat_lt, codes, Option, Some, None, slice_get, refl, sym, ap, ◌∙◌, subst, arith}
use Rattle.std.specs.List.{list_all, list_any, flat_map, range_with_len}
use Rattle.std.specs.Str.{bytes_eq}
use Rattle.std.proofs.lemmas.Bool.{false≢true}
use Rattle.std.proofs.lemmas.Option.{none-some, slice_get_cases}
use Rattle.std.proofs.lemmas.List.Folds.{list_all-append, list_any-append}
use Rattle.og_names.proofs.Truths.{both_first, both_second, either_first, either_second, either_true, neither_first, neither_second, not_true, same_value}
use Rattle.og_model.specs.declared.Model.{Model}
use Rattle.og_model.specs.declared.Signal.{Signal}
use Rattle.og_model.specs.declared.EventId.{EventId}
use Rattle.og_model.specs.declared.EventId.TheVariants.{Output, Set, Reset}
use Rattle.og_ir.specs.Cells.{◌>>=◌}
use Rattle.og_csubset.specs.declared.CProgram.{CProgram}
use Rattle.og_csubset.specs.Kinds.{place_in, is_in, struct_names, global_names, event_names, function_names}
use Rattle.og_csubset.specs.Interface.{Field, control_fields, variable_fields, timer_fields, inputs_of, outputs_of, incoming, incoming_from, fields_of, events_of, event_name, event_globals, functions_of, numbers_below, parameters_from, signal_name, sorts_of}
use Rattle.og_csubset.specs.Loading.{has_field, is_free, has_event, all_names, breaks_K3, breaks_K4, breaks_K5, breaks_K6, breaks_K7, breaks_K8, breaks_K9, first_load_rule}
use Rattle.og_csubset.proofs.Extension.{not_false}
use Rattle.og_csubset.proofs.Steady.{all_at, all_of_each, unchained}
use Rattle.og_cstep.specs.Machines.{is_signal}

-- nothing is declared under the name, or the global with its shape
abbrev pub fits : CProgram → Model → Field → Bool
fits P M field = is_free P field.name || has_field P M field

-- ---- lists

pub range_get : {B : Type 0} (f : ℕ → B) (a n k j : ℕ) → k < n → a + k ≡ j → slice_get (map f (range_with_len a n)) k ≡ Some (f j)
range_get f a zero k j lt e = absurd (omega arith)
range_get f a (suc n) zero j lt e = let same : a ≡ j = omega (arith, e) in ap (λ i. Some (f i)) same
range_get f a (suc n) (suc k) j lt e = range_get f (a + 1) n k j (omega arith) (omega (arith, e))

front : {A : Type 0} (p : A → Bool) (xs ys : List A) → list_all p (xs ++ ys) ≡ true → list_all p xs ≡ true
front p xs ys h = both_first (list_all p xs) (list_all p ys) (sym (list_all-append p xs ys) ∙ h)

back : {A : Type 0} (p : A → Bool) (xs ys : List A) → list_all p (xs ++ ys) ≡ true → list_all p ys ≡ true
back p xs ys h = both_second (list_all p xs) (list_all p ys) (sym (list_all-append p xs ys) ∙ h)

weaker : (P : CProgram) (M : Model) (fields : List Field) → list_all (has_field P M) fields ≡ true → list_all (fits P M) fields ≡ true
weaker P M [] h = refl
weaker P M (field ∷ fields) h =
    ap (λ b. b && list_all (fits P M) fields) (either_second (is_free P field.name) (has_field P M field) (both_first (has_field P M field) (list_all (has_field P M) fields) h))
    ∙ weaker P M fields (both_second (has_field P M field) (list_all (has_field P M) fields) h)

-- ---- names

named_in : (name : List ℕ) (names : List (List ℕ)) (k : ℕ) → place_in name names ≡ Some k → is_in name names ≡ true
named_in name [] k e = absurd (none-some k e)
named_in name (other ∷ names) k e = by_test (bytes_eq name other) (place_in name names) refl e (named_in name names)
  where
    by_test : (b : Bool) (o : Option ℕ) → place_in name names ≡ o → cond b (Some 0) (o >>= λ i. Some (i + 1)) ≡ Some k
        → ((i : ℕ) → place_in name names ≡ Some i → is_in name names ≡ true) → (b || is_in name names) ≡ true
    by_test true o is h later = refl
    by_test false None is h later = absurd (none-some k h)
    by_test false (Some i) is h later = later i is

free_global : (P : CProgram) (name : List ℕ) → is_free P name ≡ true → is_in name (global_names P) ≡ false
free_global P name h =
    let q = bytes_eq name in
    let front = struct_names P ++ global_names P in
    let whole : list_any q ((front ++ event_names P) ++ function_names P) ≡ false = not_true (is_in name (all_names P)) h in
    let events = neither_first (list_any q (front ++ event_names P)) (list_any q (function_names P)) (sym (list_any-append q (front ++ event_names P) (function_names P)) ∙ whole) in
    let both = neither_first (list_any q front) (list_any q (event_names P)) (sym (list_any-append q front (event_names P)) ∙ events) in
    neither_second (list_any q (struct_names P)) (list_any q (global_names P)) (sym (list_any-append q (struct_names P) (global_names P)) ∙ both)

-- a global that fits and is there has its shape
pub fits_there : (P : CProgram) (M : Model) (field : Field) (k : ℕ) → fits P M field ≡ true → place_in field.name (global_names P) ≡ Some k → has_field P M field ≡ true
fits_there P M field k h e =
    elim (either_true (is_free P field.name) (has_field P M field) h) [
      | inl free ↦ absurd (false≢true (sym (free_global P field.name free) ∙ named_in field.name (global_names P) k e))
      | inr has ↦ has
    ]

-- ---- signals

-- the place of an incoming signal among those that come in
record Comes (signals : List Signal) (from k : ℕ) : Type 0 where
  place : ℕ
  there : slice_get (incoming_from from signals) place ≡ Some (from + k)

comes_later : (s : Signal) (signals : List Signal) (from k : ℕ) (b : Bool) → s.incoming ≡ b → Comes signals (from + 1) k → Comes (s ∷ signals) from (suc k)
comes_later s signals from k true e c =
    let next : from + 1 + k ≡ from + suc k = omega arith in record {
      place = suc c.place;
      there = ap (λ b. slice_get (cond b (from ∷ []) [] ++ incoming_from (from + 1) signals) (suc c.place)) e ∙ c.there ∙ ap Some next;
    }
comes_later s signals from k false e c =
    let next : from + 1 + k ≡ from + suc k = omega arith in record {
      place = c.place;
      there = ap (λ b. slice_get (cond b (from ∷ []) [] ++ incoming_from (from + 1) signals) c.place) e ∙ c.there ∙ ap Some next;
    }

comes : (signals : List Signal) (from k : ℕ) → is_signal (slice_get signals k) ≡ true → Comes signals from k
comes [] from zero h = absurd (false≢true h)
comes [] from (suc k) h = absurd (false≢true h)
comes (s ∷ signals) from zero h =
    let same : from ≡ from + 0 = omega arith in
    record { place = 0; there = ap (λ b. slice_get (cond b (from ∷ []) [] ++ incoming_from (from + 1) signals) 0) h ∙ ap Some same }
comes (s ∷ signals) from (suc k) h = comes_later s signals from k s.incoming refl (comes signals (from + 1) k h)

-- ---- the rule

pub record Fitted (P : CProgram) (M : Model) : Type 0 where
  pub variables : list_all (fits P M) (variable_fields M) ≡ true
  pub inputs : (k : ℕ) → is_signal (slice_get M.signals k) ≡ true → list_all (fits P M) (inputs_of M k) ≡ true
  pub outputs : (k : ℕ) → list_all (fits P M) (outputs_of M k) ≡ true

inputs_fit : (P : CProgram) (M : Model) → list_all (has_field P M) (fields_of M) ≡ true → (k : ℕ) → is_signal (slice_get M.signals k) ≡ true → list_all (fits P M) (inputs_of M k) ≡ true
inputs_fit P M h k incoming_is =
    let q = has_field P M in
    let all : list_all q (flat_map (inputs_of M) (incoming M)) ≡ true =
    back q ((control_fields M ++ variable_fields M) ++ timer_fields M) (flat_map (inputs_of M) (incoming M)) h in
    let c = comes M.signals 0 k incoming_is in
    let place : 0 + k ≡ k = omega arith in
    weaker P M (inputs_of M k) (all_of_each q (inputs_of M) (incoming M) c.place k all (c.there ∙ ap Some place))

event_by : (P : CProgram) (M : Model) (fields : List Field) (b free : Bool) → cond b (list_all (has_field P M) fields) (free && list_all (fits P M) fields) ≡ true → list_all (fits P M) fields ≡ true
event_by P M fields true free h = weaker P M fields h
event_by P M fields false free h = both_second free (list_all (fits P M) fields) h

outputs_fit : (P : CProgram) (M : Model) → list_all (has_event P M) (events_of M) ≡ true → (k : ℕ) → list_all (fits P M) (outputs_of M k) ≡ true
outputs_fit P M h k =
    let outputs = map Output (numbers_below (length M.signals)) in
    let others = flat_map (λ i. Set i ∷ Reset i ∷ []) (numbers_below (length M.timers)) in
    elim (slice_get_cases M.signals k).1 [
      | inl found ↦ event_by P M (outputs_of M k) (is_in (event_name M (Output k)) (event_names P)) (is_free P (event_name M (Output k)))
          (all_at (has_event P M) outputs k (Output k) (front (has_event P M) outputs others h) (range_get Output 0 (length M.signals) k k found.1 (omega arith)))
      | inr none ↦ ap (λ o. list_all (fits P M) (parameters_from 1 (codes "o_" ++ signal_name M k) (sorts_of o))) none.1
    ]

pub fitted : (P : CProgram) (M : Model) → first_load_rule P M ≡ None → Fitted P M
unfolding first_load_rule
fitted P M h =
    let a = unchained (breaks_K3 P) _ _ h in
    let b = unchained (breaks_K4 P) _ _ a.1 in
    let c = unchained (breaks_K5 P) _ _ b.1 in
    let d = unchained (breaks_K6 P) _ _ c.1 in
    let e = unchained (breaks_K7 P) _ _ d.1 in
    let f = unchained (breaks_K8 P) _ _ e.1 in
    let g = unchained (breaks_K9 P M) _ _ f.1 in
    let functions = list_all (λ name. is_in name (function_names P)) (functions_of M) in
    let fields = list_all (has_field P M) (fields_of M) in
    let events = list_all (has_event P M) (events_of M) in
    let declared = list_all (λ name. is_in name (map (event_name M) (events_of M))) (event_names P) in
    let three : ((functions && fields) && events) ≡ true = both_first ((functions && fields) && events) declared (not_false _ g.0) in
    let events_are : events ≡ true = both_second (functions && fields) events three in
    let fields_are : fields ≡ true = both_second functions fields (both_first (functions && fields) events three) in
    let q = has_field P M in
    let named = control_fields M ++ variable_fields M in
    record {
      variables = weaker P M (variable_fields M)
          (back q (control_fields M) (variable_fields M)
          (front q named (timer_fields M) (front q (named ++ timer_fields M) (flat_map (inputs_of M) (incoming M)) fields_are)));
      inputs = λ k is. inputs_fit P M fields_are k is;
      outputs = λ k. outputs_fit P M events_are k;
    }
