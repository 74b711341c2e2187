-- What a program keeps that breaks no load rule: its types, few cells, and calls of earlier functions alone.
use Rattle.std.proofs.Common.{◌≡◌, ◌⊎◌, inl, inr, ℕ, zero, suc, ◌+◌, ◌≤◌, ◌<◌, ℤ, List, [], ◌∷◌, map, Bool, true, false, cond, nat_lt, Option, Some, None, Result, Ok, Err, slice_get, refl, sym, ap, ◌∙◌, subst, arith}
use Rattle.std.specs.List.{list_all}
use Rattle.std.specs.Option.{option_map}
use Rattle.std.specs.Str.{bytes_eq}
use Rattle.std.proofs.lemmas.Bool.{false≢true}
use Rattle.std.proofs.lemmas.Bool.Decides.{nat_tests}
use Rattle.std.proofs.lemmas.Option.{none-some, slice_get-map}
use Rattle.og_names.specs.declared.Word.{Word}
use Rattle.og_names.proofs.Truths.{both_first as left_of, both_second as right_of, either_true as either, same_value}
use Rattle.og_ir.specs.Cells as cells
use Rattle.og_ir.specs.Arithmetic.{Trouble, Value, ◌>>=◌, or_else}
use Rattle.og_ir.specs.Steps.{Frame}
use Rattle.og_model.specs.declared.Model.{Model}
use Rattle.og_csubset.specs.declared.CProgram.{CProgram}
use Rattle.og_csubset.specs.declared.CFunction.{CFunction}
use Rattle.og_csubset.specs.declared.CPlace.{CPlace}
use Rattle.og_csubset.specs.declared.CExpr.{CExpr, out-CExpr}
use Rattle.og_csubset.specs.declared.CStmt.{CStmt}
use Rattle.og_csubset.specs.declared.CStmt.TheVariants.{Assign, IfGoto, Goto, Label, Switch, Call, Return}
use Rattle.og_csubset.specs.Interface.{events_of}
use Rattle.og_csubset.specs.Kinds.{place_in, is_in, event_names, function_names}
use Rattle.og_csubset.specs.Loading.{structs_known, is_typed, calls_known, functions_known, cells_of_globals, breaks_K3, breaks_K4, breaks_K5, breaks_K6, breaks_K7, breaks_K8, first_load_rule}
use Rattle.og_csubset.specs.Reads.{event_named}
use Rattle.og_csubset.specs.Step.{label_in}
use Rattle.og_csubset.proofs.Extension.{not_false}
use Rattle.og_csubset.proofs.Steady.{all_at, unchained}
use Rattle.og_cstatement.specs.declared.code.Statement.TheVariants as m'
use Rattle.og_cstatement.specs.Meaning as m
use Rattle.og_cstatement.specs.Meaning.{Effect, effect_of, effect_at, effect_there, value_of, holds, place_of, gone, branched, switched, place_of_case}
use Rattle.og_cstatement.specs.Resolved.{place_read, expression_of, test_of, place_of as place_for, case_of, assignment_of, call_of, statement_of, body_of}
use Rattle.og_cstatement.specs.Links.{linked_of}
use Rattle.og_cstatement.specs.Effects.{EntersBelow, CallsEarlier}

pub record Loaded (P : CProgram) : Type 0 where
  pub known : structs_known [] P.structs ≡ true
  pub typed : list_all (λ f. list_all (is_typed P) f.body) P.functions ≡ true
  pub called : functions_known (event_names P) P.functions ≡ true
  pub small : cells_of_globals P ≤ 16777216

few : (n : ℕ) → nat_lt 16777216 n ≡ false → n ≤ 16777216
few n e = grind (arith, nat_tests, e)

pub loaded : (P : CProgram) (M : Model) → first_load_rule P M ≡ None → Loaded P
unfolding first_load_rule
loaded P M h =
    let a = unchained (breaks_K3 P) _ _ h in
    let b = unchained (breaks_K4 P) _ _ a.1 in
    let c = unchained (breaks_K5 P) _ _ b.1 in
    let d = unchained (breaks_K6 P) _ _ c.1 in
    let e = unchained (breaks_K7 P) _ _ d.1 in
    let f = unchained (breaks_K8 P) _ _ e.1 in
    record {
      known = left_of (structs_known [] P.structs) _ (not_false _ b.0);
      typed = not_false _ c.0;
      called = not_false _ e.0;
      small = few (cells_of_globals P) f.0;
    }

-- ---- calls

-- the place of a name among the others, one place later
place_next : (k j : ℕ) (b : Bool) (o : Option ℕ) → cond b (Some 0) (cells.◌>>=◌ o (λ i. Some (i + 1))) ≡ Some j → ((i : ℕ) → o ≡ Some i → i < k) → j < suc k
place_next k j true o e h = let first : 0 ≡ j = same_value 0 j e in omega (arith, first)
place_next k j false None e h = absurd (none-some j e)
place_next k j false (Some i) e h =
    let next : i + 1 ≡ j = same_value (i + 1) j e in
    let lt = h i refl in
    omega (arith, next, lt)

abbrev names_of : List CFunction → List (List ℕ)
names_of functions = map (λ (f : CFunction). f.name.bytes) functions

-- a name that a function calls is known before, or is the name of an earlier function
abbrev Earlier : List (List ℕ) → List CFunction → ℕ → List ℕ → Type 0
Earlier names functions k name = (is_in name names ≡ true) ⊎ ((j : ℕ) → place_in name (names_of functions) ≡ Some j → j < k)

later : (names : List (List ℕ)) (g : CFunction) (functions : List CFunction) (k : ℕ) (name : List ℕ) → Earlier (g.name.bytes ∷ names) functions k name
    → Earlier names (g ∷ functions) (suc k) name
later names g functions k name (inl there) = own (either (bytes_eq name g.name.bytes) (is_in name names) there)
  where
    at_once : (j : ℕ) → Some 0 ≡ Some j → j < suc k
    at_once j e = let first : 0 ≡ j = same_value 0 j e in omega (arith, first)

    own : (bytes_eq name g.name.bytes ≡ true) ⊎ (is_in name names ≡ true) → Earlier names (g ∷ functions) (suc k) name
    own (inl same) = inr (λ j e. at_once j (sym (ap (λ b. cond b (Some 0) (cells.◌>>=◌ (place_in name (names_of functions)) (λ i. Some (i + 1)))) same) ∙ e))
    own (inr before) = inl before
later names g functions k name (inr h) =
    inr (λ j e. place_next k j (bytes_eq name g.name.bytes) (place_in name (names_of functions)) e h)

earlier : (names : List (List ℕ)) (functions : List CFunction) (k : ℕ) (f : CFunction) → functions_known names functions ≡ true → slice_get functions k ≡ Some f
    → (p : ℕ) (name : Word) → slice_get f.body p ≡ Some (Call name) → Earlier names functions k name.bytes
earlier names [] k f h e p name c = absurd (none-some f e)
earlier names (g ∷ functions) zero f h e p name c =
    let calls = left_of (list_all (calls_known names) g.body) (functions_known (g.name.bytes ∷ names) functions) h in
    inl (all_at (calls_known names) g.body p (Call name) calls (subst (λ (i : CFunction). slice_get i.body p ≡ Some (Call name)) (sym (same_value g f e)) c))
earlier names (g ∷ functions) (suc k) f h e p name c =
    later names g functions k name.bytes
    (earlier (g.name.bytes ∷ names) functions k f (right_of (list_all (calls_known names) g.body) (functions_known (g.name.bytes ∷ names) functions) h) e p name c)

-- ---- effects

abbrev Below : ℕ → Result Effect Trouble → Type 0
Below top (Ok effect) = EntersBelow top effect
Below top (Err t) = Unit {0}

bind_below : {A : Type 0} (top : ℕ) (r : Result A Trouble) (f : A → Result Effect Trouble) → ((x : A) → Below top (f x)) → Below top (r >>= f)
bind_below top (Ok x) f h = h x
bind_below top (Err t) f h = tt

gone_below : (top : ℕ) (o : Option ℕ) → Below top (gone o)
gone_below top o = bind_below top (or_else o Value) (λ k. Ok (m.At k)) (λ k. tt)

branched_below : (top : ℕ) (o : Option ℕ) (b : Bool) → Below top (branched o b)
branched_below top o true = gone_below top o
branched_below top o false = tt

assignment_below : (P : CProgram) (xs : List ℤ) (top : ℕ) (place : CPlace) (a : CExpr) (o : Option CPlace) → Below top (effect_of xs (assignment_of P place a o))
assignment_below P xs top place a None =
    bind_below top (place_of xs (place_for P place)) _ (λ at. bind_below top (value_of xs (expression_of P a)) _ (λ z. tt))
assignment_below P xs top place a (Some from) =
    bind_below top (place_of xs (place_for P place)) _ (λ at. bind_below top (place_of xs (place_for P from)) _ (λ k. tt))

function_below : (xs : List ℤ) (top : ℕ) (o : Option ℕ) → ((j : ℕ) → o ≡ Some j → j < top) → Below top (effect_of xs (m'.Call o))
function_below xs top None h = tt
function_below xs top (Some j) h = h j refl

call_below : (P : CProgram) (M : Model) (xs : List ℤ) (top : ℕ) (name : List ℕ) → Earlier (event_names P) P.functions top name → Below top (effect_of xs (call_of P M name))
call_below P M xs top name h = by_event (is_in name (event_names P)) refl
  where
    by_event : (b : Bool) → is_in name (event_names P) ≡ b → Below top (effect_of xs (cond b (m'.Event (event_named M name (events_of M))) (m'.Call (place_in name (function_names P)))))
    by_event true e = bind_below top (or_else (event_named M name (events_of M)) Value) _ (λ id. tt)
    by_event false e = function_below xs top (place_in name (function_names P)) (λ j is. by_earlier h j is)
      where
        by_earlier : Earlier (event_names P) P.functions top name → (j : ℕ) → place_in name (function_names P) ≡ Some j → j < top
        by_earlier (inl there) j is = absurd (false≢true (sym e ∙ there))
        by_earlier (inr before) j is = before j is

statement_below : (P : CProgram) (M : Model) (xs : List ℤ) (top : ℕ) (body : List CStmt) (statement : CStmt)
    → ((name : Word) → statement ≡ Call name → Earlier (event_names P) P.functions top name.bytes) → Below top (effect_of xs (statement_of P M body statement))
statement_below P M xs top body (Assign place a) h = assignment_below P xs top place a (place_read (out-CExpr a))
statement_below P M xs top body (IfGoto test label) h = bind_below top (holds xs (test_of P test)) _ (branched_below top (label_in label.bytes body))
statement_below P M xs top body (Goto label) h = gone_below top (label_in label.bytes body)
statement_below P M xs top body (Label label) h = tt
statement_below P M xs top body (Switch a cases otherwise) h =
    bind_below top (value_of xs (expression_of P a)) _ (λ z. gone_below top (place_of_case z (map (case_of body) cases) (label_in otherwise.bytes body)))
statement_below P M xs top body (Call name) h = call_below P M xs top name.bytes (h name refl)
statement_below P M xs top body Return h = tt

there_below : (P : CProgram) (M : Model) (xs : List ℤ) (top : ℕ) (body : List CStmt) (o : Option CStmt)
    → ((name : Word) → o ≡ Some (Call name) → Earlier (event_names P) P.functions top name.bytes) → Below top (effect_there xs (option_map (statement_of P M body) o))
there_below P M xs top body None h = tt
there_below P M xs top body (Some statement) h = statement_below P M xs top body statement (λ name e. h name (ap Some e))

function_there : (P : CProgram) (M : Model) (xs : List ℤ) (frame : Frame) (o : Option CFunction) → ((f : CFunction) → o ≡ Some f → slice_get P.functions frame.function ≡ Some f)
    → functions_known (event_names P) P.functions ≡ true
    → Below frame.function (or_else (option_map (body_of P M) o) Value >>= λ f. effect_there xs (slice_get f.statements frame.place))
function_there P M xs frame None h called = tt
function_there P M xs frame (Some f) h called =
    subst (λ s. Below frame.function (effect_there xs s)) (sym (slice_get-map (statement_of P M f.body) f.body frame.place))
    (there_below P M xs frame.function f.body (slice_get f.body frame.place) (λ name e. earlier (event_names P) P.functions frame.function f called (h f refl) frame.place name e))

effect_below : (P : CProgram) (M : Model) (xs : List ℤ) (frame : Frame) → functions_known (event_names P) P.functions ≡ true → Below frame.function (effect_at (linked_of P M) xs frame)
unfolding linked_of
effect_below P M xs frame called =
    subst (λ o. Below frame.function (or_else o Value >>= λ f. effect_there xs (slice_get f.statements frame.place))) (sym (slice_get-map (body_of P M) P.functions frame.function))
    (function_there P M xs frame (slice_get P.functions frame.function) (λ f e. e) called)

-- each call of a program that loads leads to an earlier function
pub calls_earlier : (P : CProgram) (M : Model) → Loaded P → CallsEarlier (linked_of P M)
calls_earlier P M loaded = λ frame xs effect e. subst (Below frame.function) e (effect_below P M xs frame loaded.called)
