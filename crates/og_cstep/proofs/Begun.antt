-- How the run of a stimulus begins.
use Rattle.std.proofs.Common.{◌≡◌, ℕ, zero, suc, ◌+◌, ◌<◌, List, [], ◌∷◌, length, map, Bool, true, false, cond, inl, inr, Option, Some, None, slice_get, refl, sym, ap, ◌∙◌, arith}
use Rattle.std.specs.Option.{IfSome}
use Rattle.std.specs.Str.{bytes_eq}
use Rattle.std.proofs.lemmas.Bool.{false≢true, ltb-true}
use Rattle.std.proofs.lemmas.List.{length-map}
use Rattle.std.proofs.lemmas.Option.{none-some, slice_get_cases}
use Rattle.og_names.proofs.Truths.{same_value}
use Rattle.og_model.specs.declared.Model.{Model}
use Rattle.og_model.specs.declared.StimId.{StimId}
use Rattle.og_model.specs.declared.StimId.TheVariants.{Start, Signal, Timer}
use Rattle.og_ir.specs.Cells.{◌>>=◌, Cells}
use Rattle.og_csubset.specs.declared.CProgram.{CProgram}
use Rattle.og_csubset.specs.declared.CFunction.{CFunction}
use Rattle.og_csubset.specs.Kinds.{place_in, function_names, global_names}
use Rattle.og_csubset.specs.Interface.{Field, inputs_of}
use Rattle.og_csubset.specs.Reads.{inputs_set}
use Rattle.og_csubset.specs.Run.{entered, begun}
use Rattle.og_cstep.specs.declared.Advance.{Advance}
use Rattle.og_cstatement.specs.declared.position.Position.{Position}
use Rattle.og_cstatement.specs.Positions.{config_of}
use Rattle.og_cstep.specs.Entries.{joined, signal_entry, timer_entry, entries_among, entries_of, entry_at}
use Rattle.og_cstep.specs.Machines.{Run, stimulus_of, is_signal, is_stimulus_of, function_name, begins}
use Rattle.og_cstep.proofs.Fitted.{range_get}

nothing_set : (model : Model) (names : List (List ℕ)) (fields : List Field) (cells : List Cells) → inputs_set model names fields [] cells ≡ cells
nothing_set model names [] cells = refl
nothing_set model names (field ∷ fields) cells = refl

begun_is : (model : Model) (functions names : List (List ℕ)) (stimulus : StimId) (globals : List Cells)
    → begun model functions names (stimulus_of stimulus) globals ≡ entered (place_in (function_name model stimulus) functions) globals
begun_is model functions names Start globals = refl
begun_is model functions names (Signal k) globals =
    ap (entered (place_in (function_name model (Signal k)) functions)) (nothing_set model names (inputs_of model k) globals)
begun_is model functions names (Timer k) globals = refl

-- ---- the number of the function

stimulus_is : (M : Model) → (names : List (List ℕ)) → (stimulus : StimId) → is_stimulus_of M stimulus ≡ true → entry_at (entries_among names M) stimulus ≡ place_in (function_name M stimulus) names
stimulus_is M names Start h = refl
stimulus_is M names (Signal k) h =
    elim (slice_get_cases M.signals k).1 [
      | inl found ↦ ap joined (range_get (signal_entry names M) 0 (length M.signals) k k found.1 (omega arith))
      | inr none ↦ absurd (false≢true (sym (ap is_signal none.1) ∙ h))
    ]
stimulus_is M names (Timer k) h = ap joined (range_get (timer_entry names M) 0 (length M.timers) k k (ltb-true k (length M.timers) h) (omega arith))

place_below : (name : List ℕ) (names : List (List ℕ)) (k : ℕ) → place_in name names ≡ Some k → k < length names
place_below name [] k e = absurd (none-some k e)
place_below name (other ∷ names) k e = by_test (bytes_eq name other) (place_in name names) refl e (place_below name names)
  where
    by_test : (b : Bool) (o : Option ℕ) → place_in name names ≡ o → cond b (Some 0) (o >>= λ i. Some (i + 1)) ≡ Some k
        → ((i : ℕ) → place_in name names ≡ Some i → i < length names) → k < suc (length names)
    by_test true o is h later = let first : 0 ≡ k = same_value 0 k h in omega (arith, first)
    by_test false None is h later = absurd (none-some k h)
    by_test false (Some i) is h later =
        let next : i + 1 ≡ k = same_value (i + 1) k h in
        let lt = later i is in
        omega (arith, next, lt)

below_by : (n : ℕ) (o : Option ℕ) → ((k : ℕ) → o ≡ Some k → k < n) → IfSome o (λ k. k < n)
below_by n None h = tt
below_by n (Some k) h = h k refl

-- it is one of the program's functions
pub entry_below : (P : CProgram) (M : Model) (stimulus : StimId) (found : Option ℕ) (functions : ℕ) → is_stimulus_of M stimulus ≡ true → found ≡ entry_at (entries_of P M) stimulus
    → functions ≡ length P.functions → IfSome found (λ k. k < functions)
entry_below P M stimulus found functions h e n =
    let is : found ≡ place_in (function_name M stimulus) (function_names P) = e ∙ stimulus_is M (function_names P) stimulus h in
    let many : length (function_names P) ≡ functions = length-map P.functions (λ (f : CFunction). f.name.bytes) ∙ sym n in
    below_by functions found (λ k at. let lt = place_below (function_name M stimulus) (function_names P) k (sym is ∙ at) in omega (arith, lt, many))

-- the run of a stimulus begins in its function
pub begun_run : (P : CProgram) (M : Model) (globals : List Cells) (old position : Position) (last : Option Advance) (stimulus : StimId) (found : Option ℕ)
    → is_stimulus_of M stimulus ≡ true → found ≡ entry_at (entries_of P M) stimulus
    → ((cells : List Cells) → config_of cells position ≡ entered found cells)
    → ◌≡◌ {A = Run} (record { program = P; model = M; cells = globals; config = config_of globals position; last = last })
    (begins stimulus (record { program = P; model = M; cells = globals; config = config_of globals old; last = last }))
begun_run P M globals old position last stimulus found h e enters =
    let start : config_of globals position ≡ begun M (function_names P) (global_names P) (stimulus_of stimulus) globals =
    enters globals
    ∙ ap (λ x. entered x globals) (e ∙ stimulus_is M (function_names P) stimulus h)
    ∙ sym (begun_is M (function_names P) (global_names P) stimulus globals) in
    ap (λ c. record { program = P; model = M; cells = globals; config = c; last = last }) start
