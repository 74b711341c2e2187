-- A program that loads keeps to cells, functions and labels that are there.
use Rattle.std.proofs.Common.{◌≡◌, ℕ, zero, suc, ◌+◌, ◌<◌, ℤ, List, [], ◌∷◌, ◌++◌, Bool, true, false, cond, not, ◌&&◌, ◌||◌, ◌⊎◌, inl, inr, Option, Some, None, Result, Ok, Err, map, length, replicate, slice_get, refl, sym, ap, subst, ◌∙◌, arith}
use Rattle.std.specs.Prelude.{find, flat_map, is_some, option_map}
use Rattle.std.specs.List.{list_all, list_any, AllByRecursion}
use Rattle.std.specs.Str.{bytes_eq}
use Rattle.std.proofs.lemmas.Bool.{false≢true}
use Rattle.std.proofs.lemmas.Option.{none-some, cond_some}
use Rattle.std.proofs.lemmas.List.Folds.{list_all-append}
use Rattle.std.proofs.lemmas.Slice.Eq.{bytes_eq-Decides}
use Rattle.og_names.specs.declared.Word.{Word}
use Rattle.og_csubset.specs.declared.CProgram.{CProgram}
use Rattle.og_csubset.specs.declared.CStruct.{CStruct}
use Rattle.og_csubset.specs.declared.CMember.{CMember}
use Rattle.og_csubset.specs.declared.CGlobal.{CGlobal}
use Rattle.og_csubset.specs.declared.CType.{CType}
use Rattle.og_csubset.specs.declared.CType.TheVariants.{Int64, Struct}
use Rattle.og_csubset.specs.declared.CFunction.{CFunction}
use Rattle.og_csubset.specs.declared.CStmt.{CStmt}
use Rattle.og_csubset.specs.declared.CStmt.TheVariants.{Assign, IfGoto, Goto, Label, Switch, Call, Return}
use Rattle.og_csubset.specs.declared.CCase.{CCase}
use Rattle.og_csubset.specs.declared.CPlace.{CPlace}
use Rattle.og_csubset.specs.declared.CStep.{CStep}
use Rattle.og_csubset.specs.declared.CExpr.{CExpr, out-CExpr}
use Rattle.og_csubset.specs.declared.CExpr.TheOpen.{CExpr-F, Number, Read, Minus, Op, Pick}
use Rattle.og_csubset.specs.declared.CTest.{CTest}
use Rattle.og_ir.specs.Cells as cells
use Rattle.og_ir.specs.Cells.{Cells, Cell, Empty, Both, row, equal_parts, cells_by}
use Rattle.og_ir.specs.Arithmetic.{Trouble, Overflow, Index, Divide, Value, ◌>>=◌, or_else, is_same}
use Rattle.og_ir.specs.Steps.{Frame, Config, Running, Over, Broken, Ran, quiet, exec, with_value, onward, jumped, returned, called, showing}
use Rattle.og_csubset.specs.Kinds.{place_in, is_in, struct_names, global_names, event_names, function_names, same_type, members_of, sized, blank_within, blank_type, first_globals}
use Rattle.og_csubset.specs.Loading.{has_twice, all_names, is_known, structs_known, is_number, type_of_place, type_of_shape, type_of, agree, is_typed, repeats_case, labels_of, targets_of, has_labels, calls_known, functions_known, breaks_K3, breaks_K4, breaks_K5, breaks_K6, breaks_K7, first_load_rule, Loads}
use Rattle.og_csubset.specs.Step.{value_of, holds, spot_of, assigned, is_label, label_in, gone, case_of, act, fetched, cstep}
use Rattle.og_csubset.specs.Forms.{Row, kind_of_member, one_of, row_of, form_of_type, form_of_sized, HasForm, HaveForms, IsCall, IsSteady}
use Rattle.og_model.specs.declared.Model.{Model}
use Rattle.og_csubset.proofs.Extension.{not_false}
use Rattle.og_csubset.proofs.Forms.{Good, good_bind, FoundSpot, value_good, place_good}
use Rattle.og_names.proofs.Truths.{both_first as left_of, both_second as right_of, either_first as or_first, either_second as or_second, either_true as either, neither_first as or_left, neither_second as or_right, same_value}

-- ---- lists and names

-- what holds of each element holds of the one at a place
pub all_at : {A : Type 0} (p : A → Bool) (xs : List A) (k : ℕ) (x : A) → list_all p xs ≡ true → slice_get xs k ≡ Some x → p x ≡ true
all_at p [] k x h e = absurd (none-some x e)
all_at p (y ∷ xs) zero x h e = subst (λ z. p z ≡ true) (same_value y x e) (left_of (p y) (list_all p xs) h)
all_at p (y ∷ xs) (suc k) x h e = all_at p xs k x (right_of (p y) (list_all p xs) h) e

-- the same of what the elements are mapped to
pub all_of_each : {A B : Type 0} (q : B → Bool) (f : A → List B) (xs : List A) (k : ℕ) (x : A) → list_all q (flat_map f xs) ≡ true → slice_get xs k ≡ Some x → list_all q (f x) ≡ true
all_of_each q f [] k x h e = absurd (none-some x e)
all_of_each q f (y ∷ xs) zero x h e =
    subst (λ z. list_all q (f z) ≡ true) (same_value y x e) (left_of (list_all q (f y)) (list_all q (flat_map f xs)) (sym (list_all-append q (f y) (flat_map f xs)) ∙ h))
all_of_each q f (y ∷ xs) (suc k) x h e =
    all_of_each q f xs k x (right_of (list_all q (f y)) (list_all q (flat_map f xs)) (sym (list_all-append q (f y) (flat_map f xs)) ∙ h)) e

-- one of two tests that hold
-- A name's place, with what stands there.
pub record Named {A : Type 0} (text : A → List ℕ) (xs : List A) (name : List ℕ) : Type 0 where
  pub place : ℕ
  pub found : A
  pub is : place_in name (map text xs) ≡ Some place
  pub stands : slice_get xs place ≡ Some found

named_by : {A : Type 0} (b : Bool) (text : A → List ℕ) (x : A) (xs : List A) (name : List ℕ) → bytes_eq name (text x) ≡ b → (b || is_in name (map text xs)) ≡ true → (is_in name (map text xs) ≡ true → Named text xs name) → Named text (x ∷ xs) name
named_by true text x xs name e h more = record {
  place = 0;
  found = x;
  is = ap (λ b. cond b (Some 0) (cells.◌>>=◌ (place_in name (map text xs)) (λ k. Some (k + 1)))) e;
  stands = refl;
}
named_by false text x xs name e h more =
    let one = more h in
    let next : one.place + 1 ≡ suc one.place = omega arith in
    record {
      place = suc one.place;
      found = one.found;
      is =
          ap (λ b. cond b (Some 0) (cells.◌>>=◌ (place_in name (map text xs)) (λ k. Some (k + 1)))) e
          ∙ ap (λ o. cells.◌>>=◌ o (λ k. Some (k + 1))) one.is ∙ ap Some next;
      stands = one.stands;
    }

-- a name that is in has a place
pub named_place : {A : Type 0} (text : A → List ℕ) (xs : List A) (name : List ℕ) → is_in name (map text xs) ≡ true → Named text xs name
named_place text [] name h = absurd (false≢true h)
named_place text (x ∷ xs) name h = named_by (bytes_eq name (text x)) text x xs name refl h (named_place text xs name)

-- ---- labels

label_by : (b : Bool) (label : List ℕ) (statement : CStmt) (body : List CStmt) → is_label label statement ≡ b → (b ≡ false → (k : ℕ) × (label_in label body ≡ Some k)) → (k : ℕ) × (label_in label (statement ∷ body) ≡ Some k)
label_by true label statement body e more = (0, ap (λ b. cond b (Some 0) (option_map (λ k. k + 1) (label_in label body))) e)
label_by false label statement body e more =
    let one = more refl in
    (one.0 + 1, ap (λ b. cond b (Some 0) (option_map (λ k. k + 1) (label_in label body))) e ∙ ap (option_map (λ k. k + 1)) one.1)

-- a label that is there has a place
label_there : (label : List ℕ) (body : List CStmt) → is_in label (labels_of body) ≡ true → (k : ℕ) × (label_in label body ≡ Some k)
label_there label [] h = absurd (false≢true h)
label_there label (Label name ∷ body) h =
    label_by (bytes_eq label name.bytes) label (Label name) body refl (λ other. label_there label body (subst (λ b. (b || is_in label (labels_of body)) ≡ true) other h))
label_there label (Assign place e ∷ body) h = label_by false label (Assign place e) body refl (λ other. label_there label body h)
label_there label (IfGoto test name ∷ body) h = label_by false label (IfGoto test name) body refl (λ other. label_there label body h)
label_there label (Goto name ∷ body) h = label_by false label (Goto name) body refl (λ other. label_there label body h)
label_there label (Switch e cases otherwise ∷ body) h = label_by false label (Switch e cases otherwise) body refl (λ other. label_there label body h)
label_there label (Call name ∷ body) h = label_by false label (Call name) body refl (λ other. label_there label body h)
label_there label (Return ∷ body) h = label_by false label Return body refl (λ other. label_there label body h)

case_picked : (q : List ℕ → Bool) (b : Bool) (x y : List ℕ) → q x ≡ true → q y ≡ true → q (cond b x y) ≡ true
case_picked q true x y p r = p
case_picked q false x y p r = r

-- the label that a table chooses is one of its labels
case_is_one : (q : List ℕ → Bool) (z : ℤ) (cases : List CCase) (otherwise : List ℕ) → q otherwise ≡ true → list_all q (map (λ (c : CCase). c.label.bytes) cases) ≡ true → q (case_of z cases otherwise) ≡ true
case_is_one q z [] otherwise h all = h
case_is_one q z (c ∷ cases) otherwise h all =
    case_picked q (is_same z c.value) c.label.bytes (case_of z cases otherwise)
    (left_of (q c.label.bytes) (list_all q (map (λ (d : CCase). d.label.bytes) cases)) all)
    (case_is_one q z cases otherwise h (right_of (q c.label.bytes) (list_all q (map (λ (d : CCase). d.label.bytes) cases)) all))

-- ---- calls

-- a call in a function of the list names what was there before, or a function of the list
call_known : (names : List (List ℕ)) (functions : List CFunction) (k : ℕ) (f : CFunction) → functions_known names functions ≡ true → slice_get functions k ≡ Some f → (p : ℕ) (name : Word) → slice_get f.body p ≡ Some (Call name) → (is_in name.bytes names ≡ true) ⊎ (is_in name.bytes (map (λ (g : CFunction). g.name.bytes) functions) ≡ true)
call_known names [] k f h e p name c = absurd (none-some f e)
call_known names (g ∷ functions) zero f h e p name c =
    let calls = left_of (list_all (calls_known names) g.body) (functions_known (g.name.bytes ∷ names) functions) h in
    inl (all_at (calls_known names) g.body p (Call name) calls (subst (λ (i : CFunction). slice_get i.body p ≡ Some (Call name)) (sym (same_value g f e)) c))
call_known names (g ∷ functions) (suc k) f h e p name c =
    shifted (call_known (g.name.bytes ∷ names) functions k f (right_of (list_all (calls_known names) g.body) (functions_known (g.name.bytes ∷ names) functions) h) e p name c)
  where
    own : (bytes_eq name.bytes g.name.bytes ≡ true) ⊎ (is_in name.bytes names ≡ true) → (is_in name.bytes names ≡ true) ⊎ (is_in name.bytes (map (λ (i : CFunction). i.name.bytes) (g ∷ functions)) ≡ true)
    own (inl same) = inr (or_first (bytes_eq name.bytes g.name.bytes) (is_in name.bytes (map (λ (i : CFunction). i.name.bytes) functions)) same)
    own (inr there) = inl there

    shifted : (is_in name.bytes (g.name.bytes ∷ names) ≡ true) ⊎ (is_in name.bytes (map (λ (i : CFunction). i.name.bytes) functions) ≡ true) → (is_in name.bytes names ≡ true) ⊎ (is_in name.bytes (map (λ (i : CFunction). i.name.bytes) (g ∷ functions)) ≡ true)
    shifted (inl there) = own (either (bytes_eq name.bytes g.name.bytes) (is_in name.bytes names) there)
    shifted (inr later) = inr (or_second (bytes_eq name.bytes g.name.bytes) (is_in name.bytes (map (λ (i : CFunction). i.name.bytes) functions)) later)

-- ---- types

same_is : (t u : CType) → same_type t u ≡ true → t ≡ u
same_is Int64 Int64 h = refl
same_is Int64 (Struct name) h = absurd (false≢true h)
same_is (Struct name) Int64 h = absurd (false≢true h)
same_is (Struct name) (Struct other) h =
    ap (λ (bytes : List ℕ). let w : Word = record { bytes = bytes } in Struct w) ((bytes_eq-Decides name.bytes other.bytes).0 h)

-- two types that agree are there, and are one
agreed : (o p : Option CType) → agree o p ≡ true → (t : CType) × (o ≡ Some t) × (p ≡ Some t)
agreed None p h = absurd (false≢true h)
agreed (Some t) None h = absurd (false≢true h)
agreed (Some t) (Some u) h = (t, refl, ap Some (sym (same_is t u h)))

int_of_number : (b : Bool) (t : CType) → cond b (Some Int64) None ≡ Some t → (b ≡ true) × (Int64 ≡ t)
int_of_number b t e = cond_some b Int64 t e

module _ (program : CProgram) (values : List Cells) (formed : HaveForms program.structs program.globals values) where
  -- a number that is assigned is one cell
  one_cell : (e : CExpr) (t : CType) → cond (is_number program e) (Some Int64) None ≡ Some t → Good (λ c. HasForm program.structs c (form_of_type program.structs t)) (value_of program values e >>= λ z. Ok (Cell z))
  one_cell e t h =
      let is = int_of_number (is_number program e) t h in
      good_bind (λ z. Unit {0}) _ (value_of program values e) _ (value_good program values formed e is.0) (λ z u.
      subst (λ s. HasForm program.structs (Cell z) (form_of_type program.structs s)) is.1 tt)

  assigned_good : (e : CExpr) (shape : CExpr-F CExpr CStep CPlace CTest) (t : CType) → type_of_shape program e shape ≡ Some t → Good (λ c. HasForm program.structs c (form_of_type program.structs t)) (assigned program values e shape)
  assigned_good e (Read place) t h =
      good_bind (FoundSpot program values t) _ (spot_of program values place) _ (place_good program values formed place t h) (λ spot found.
      subst (Good (λ c. HasForm program.structs c (form_of_type program.structs t))) (sym found.is) found.formed)
  assigned_good e (Number n) t h = one_cell e t h
  assigned_good e (Minus a) t h = one_cell e t h
  assigned_good e (Op o a b) t h = one_cell e t h
  assigned_good e (Pick test a b) t h = one_cell e t h

  holds_good : (test : CTest) → (is_number program test.left && is_number program test.right) ≡ true → Good (λ b. Unit {0}) (holds program values test)
  holds_good test h =
      good_bind (λ z. Unit {0}) _ (value_of program values test.left) _ (value_good program values formed test.left (left_of (is_number program test.left) (is_number program test.right) h)) (λ x u.
      good_bind (λ z. Unit {0}) _ (value_of program values test.right) _ (value_good program values formed test.right (right_of (is_number program test.left) (is_number program test.right) h)) (λ y v. tt))

-- ---- statements

steady_with : {E A : Type 0} (program : CProgram) (P : A → Type 0) (r : Result A Trouble) (go : A → Ran E) → Good P r → ((x : A) → P x → IsSteady program (go x).config) → IsSteady program (with_value r go).config
steady_with program P (Ok x) go p h = h x p
steady_with program P (Err Overflow) go p h = tt
steady_with program P (Err Index) go p h = tt
steady_with program P (Err Divide) go p h = tt
steady_with program P (Err Value) go p h = p

-- What a program that loads keeps: each statement is typed, each label and each call is there.
pub record Kept (program : CProgram) : Type 0 where
  pub typed : list_all (λ f. list_all (is_typed program) f.body) program.functions ≡ true
  pub labelled : list_all has_labels program.functions ≡ true
  pub called : functions_known (event_names program) program.functions ≡ true

module _ {E : Type 0} (program : CProgram) (kept : Kept program) (shows : List ℕ → List Cells → Option E) (shown : (name : List ℕ) (values : List Cells) → is_some (shows name values) ≡ true) where
  module _ (values : List Cells) (formed : HaveForms program.structs program.globals values) (frame : Frame) (callers : List Frame) (f : CFunction) (at : slice_get program.functions frame.function ≡ Some f) (calls : AllByRecursion (IsCall program) callers) where
    gone_steady : (label : List ℕ) → is_in label (labels_of f.body) ≡ true → IsSteady program (gone {E = E} f.body values frame callers label).config
    gone_steady label h =
        let there = label_there label f.body h in
        subst (λ o. IsSteady program (with_value (or_else o Value) (λ place. quiet {E = E} (Running values (jumped frame place) callers))).config) (sym there.1) (formed, (f, at), calls)

    chosen_steady : (b : Bool) (label : List ℕ) → is_in label (labels_of f.body) ≡ true → IsSteady program (cond b (gone {E = E} f.body values frame callers label) (quiet (Running values (onward frame) callers))).config
    chosen_steady true label h = gone_steady label h
    chosen_steady false label h = (formed, (f, at), calls)

    showing_steady : (o : Option E) → is_some o ≡ true → IsSteady program (showing o values frame callers).config
    showing_steady None h = absurd (false≢true h)
    showing_steady (Some event) h = (formed, (f, at), calls)

    call_steady : (b : Bool) (name : List ℕ) → is_in name (event_names program) ≡ b → (is_in name (event_names program) ≡ true) ⊎ (is_in name (function_names program) ≡ true) → IsSteady program (cond b (showing (shows name values) values frame callers) (with_value (or_else (place_in name (function_names program)) Value) (called values frame callers))).config
    call_steady true name e known = showing_steady (shows name values) (shown name values)
    call_steady false name e (inl event) = absurd (false≢true (sym e ∙ event))
    call_steady false name e (inr function) =
        let one = named_place (λ (g : CFunction). g.name.bytes) program.functions name function in
        subst (λ o. IsSteady program (with_value (or_else o Value) (called {E = E} values frame callers)).config) (sym one.is) (formed, (one.found, one.stands), ((f, at), calls))

    -- the labels that a statement jumps to are in the function
    targets_there : (statement : CStmt) (p : ℕ) → slice_get f.body p ≡ Some statement → list_all (λ l. is_in l (labels_of f.body)) (targets_of statement) ≡ true
    targets_there statement p stands =
        let all = all_at has_labels program.functions frame.function f kept.labelled at in
        let two = left_of (not (has_twice (labels_of f.body)) && list_all (λ l. is_in l (labels_of f.body)) (flat_map targets_of f.body)) (not (list_any repeats_case f.body)) all in
        let targets = right_of (not (has_twice (labels_of f.body))) (list_all (λ l. is_in l (labels_of f.body)) (flat_map targets_of f.body)) two in
        all_of_each (λ l. is_in l (labels_of f.body)) targets_of f.body p statement targets stands

    typed_there : (statement : CStmt) (p : ℕ) → slice_get f.body p ≡ Some statement → is_typed program statement ≡ true
    typed_there statement p stands =
        all_at (is_typed program) f.body p statement (all_at (λ (g : CFunction). list_all (is_typed program) g.body) program.functions frame.function f kept.typed at) stands

    returned_steady : (waiting : List Frame) → AllByRecursion (IsCall program) waiting → IsSteady program (returned {E = E} values waiting).config
    returned_steady [] all = formed
    returned_steady (next ∷ waiting) all = (formed, all.0, all.1)

    act_steady : (statement : CStmt) (p : ℕ) → slice_get f.body p ≡ Some statement → IsSteady program (act shows program f.body values frame callers statement).config
    act_steady (Assign place e) p stands =
        let t = agreed (type_of_place program place) (type_of program e) (typed_there (Assign place e) p stands) in
        steady_with program (FoundSpot program values t.0) (spot_of program values place) _ (place_good program values formed place t.0 t.1) (λ spot found.
        steady_with program (λ c. HasForm program.structs c (form_of_type program.structs t.0)) (assigned program values e (out-CExpr e)) _ (assigned_good program values formed e (out-CExpr e) t.0 t.2) (λ c new.
        (found.put_there c new, (f, at), calls)))
    act_steady (IfGoto test label) p stands =
        steady_with program (λ b. Unit {0}) (holds program values test) _ (holds_good program values formed test (typed_there (IfGoto test label) p stands)) (λ b u.
        chosen_steady b label.bytes (left_of (is_in label.bytes (labels_of f.body)) true (targets_there (IfGoto test label) p stands)))
    act_steady (Goto label) p stands =
        gone_steady label.bytes (left_of (is_in label.bytes (labels_of f.body)) true (targets_there (Goto label) p stands))
    act_steady (Label label) p stands = (formed, (f, at), calls)
    act_steady (Switch e cases otherwise) p stands =
        let labels = targets_there (Switch e cases otherwise) p stands in
        let last = left_of (is_in otherwise.bytes (labels_of f.body)) (list_all (λ l. is_in l (labels_of f.body)) (map (λ (c : CCase). c.label.bytes) cases)) labels in
        let others = right_of (is_in otherwise.bytes (labels_of f.body)) (list_all (λ l. is_in l (labels_of f.body)) (map (λ (c : CCase). c.label.bytes) cases)) labels in
        steady_with program (λ z. Unit {0}) (value_of program values e) _ (value_good program values formed e (typed_there (Switch e cases otherwise) p stands)) (λ z u.
        gone_steady (case_of z cases otherwise.bytes) (case_is_one (λ l. is_in l (labels_of f.body)) z cases otherwise.bytes last others))
    act_steady (Call name) p stands =
        call_steady (is_in name.bytes (event_names program)) name.bytes refl (call_known (event_names program) program.functions frame.function f kept.called at p name stands)
    act_steady Return p stands = returned_steady callers calls

    fetched_steady : (o : Option CStmt) → slice_get f.body frame.place ≡ o → IsSteady program (fetched shows program f.body values frame callers o).config
    fetched_steady None e = returned_steady callers calls
    fetched_steady (Some statement) e = act_steady statement frame.place e

  -- one statement
  step_steady : (config : Config) → IsSteady program config → IsSteady program (cstep shows program config).config
  step_steady (Running values frame callers) h =
      subst (λ o. IsSteady program (with_value (or_else o Value) (λ (f : CFunction). fetched shows program f.body values frame callers (slice_get f.body frame.place))).config) (sym h.1.1)
      (fetched_steady values h.0 frame callers h.1.0 h.1.1 h.2 (slice_get h.1.0.body frame.place) refl)
  step_steady (Over values) h = h
  step_steady (Broken trouble) h = h

  -- any number of statements
  pub run_steady : (n : ℕ) (config : Config) → IsSteady program config → IsSteady program (exec (cstep shows program) n config).config
  run_steady zero config h = h
  run_steady (suc n) config h = run_steady n (cstep shows program config).config (step_steady config h)

-- ---- the cells at load

-- structs that are found by their own names
abbrev AreFound : List CStruct → List CStruct → Type 0
AreFound structs rest = (i : ℕ) (s : CStruct) → slice_get rest i ≡ Some s → members_of structs (Struct s.name) ≡ Some s.members

abbrev IsBlank : List CStruct → ℕ → CType → Type 0
IsBlank structs k t = (d : ℕ) → k < d → HasForm structs (blank_within d structs t) (form_of_type structs t)

equal_formed : (structs : List CStruct) (t : CType) (part : Cells) → HasForm structs part (form_of_type structs t) → (n : ℕ) → HasForm structs (equal_parts n part) (Row (replicate n (one_of t)))
equal_formed structs t part h zero = tt
equal_formed structs t part h (suc n) = (h, equal_formed structs t part h n)

sized_formed : (structs : List CStruct) (size : Option ℕ) (t : CType) (part : Cells) → HasForm structs part (form_of_type structs t) → HasForm structs (sized size part) (form_of_sized structs size t)
sized_formed structs None t part h = h
sized_formed structs (Some n) t part h = equal_formed structs t part h n

members_formed : (structs : List CStruct) (names : List (List ℕ)) (d : ℕ) → ((t : CType) → is_known names t ≡ true → HasForm structs (blank_within d structs t) (form_of_type structs t)) → (members : List CMember) → list_all (λ m. is_known names m.kind) members ≡ true → HasForm structs (row (map (λ (m : CMember). sized m.size (blank_within d structs m.kind)) members)) (Row (map kind_of_member members))
members_formed structs names d blanks [] h = tt
members_formed structs names d blanks (m ∷ members) h = (
  sized_formed structs m.size m.kind (blank_within d structs m.kind) (blanks m.kind (left_of (is_known names m.kind) (list_all (λ m'. is_known names m'.kind) members) h)),
  members_formed structs names d blanks members (right_of (is_known names m.kind) (list_all (λ m'. is_known names m'.kind) members) h),
)

-- a struct whose members are known is blank one level further
struct_formed : (structs : List CStruct) (names : List (List ℕ)) (k d : ℕ) (name : Word) (members : List CMember) → k < d → members_of structs (Struct name) ≡ Some members → ((t : CType) → is_known names t ≡ true → IsBlank structs k t) → list_all (λ m. is_known names m.kind) members ≡ true → HasForm structs (blank_within (suc d) structs (Struct name)) (form_of_type structs (Struct name))
struct_formed structs names k d name members less e blanks h =
    subst (λ o. HasForm structs (cells_by (λ ms. row (map (λ (m : CMember). sized m.size (blank_within d structs m.kind)) ms)) o) (row_of o)) (sym e)
    (members_formed structs names d (λ t known. blanks t known d less) members h)

-- one struct more is known
known_more : (structs : List CStruct) (names : List (List ℕ)) (k : ℕ) (s : CStruct) → members_of structs (Struct s.name) ≡ Some s.members → ((t : CType) → is_known names t ≡ true → IsBlank structs k t) → list_all (λ m. is_known names m.kind) s.members ≡ true → (t : CType) → is_known (s.name.bytes ∷ names) t ≡ true → IsBlank structs (suc k) t
known_more structs names k s e blanks h Int64 known zero less = absurd (omega (arith, less))
known_more structs names k s e blanks h Int64 known (suc d) less = tt
known_more structs names k s e blanks h (Struct name) known zero less = absurd (omega (arith, less))
known_more structs names k s e blanks h (Struct name) known (suc d) less = by_name (either (bytes_eq name.bytes s.name.bytes) (is_in name.bytes names) known)
  where
    by_name : (bytes_eq name.bytes s.name.bytes ≡ true) ⊎ (is_in name.bytes names ≡ true) → HasForm structs (blank_within (suc d) structs (Struct name)) (form_of_type structs (Struct name))
    by_name (inl same) =
        let own : s.name ≡ name = ap (λ (bytes : List ℕ). let w : Word = record { bytes = bytes } in w) (sym ((bytes_eq-Decides name.bytes s.name.bytes).0 same)) in
        struct_formed structs names k d name s.members (omega (arith, less)) (subst (λ (w : Word). members_of structs (Struct w) ≡ Some s.members) own e) blanks h
    by_name (inr there) = blanks (Struct name) there (suc d) (omega (arith, less))

-- every type whose struct is known, or one of the rest, is blank
all_blank : (structs rest : List CStruct) (names : List (List ℕ)) (k : ℕ) → structs_known names rest ≡ true → AreFound structs rest → ((t : CType) → is_known names t ≡ true → IsBlank structs k t) → (t : CType) → (is_known names t ≡ true) ⊎ (is_known (map (λ (s : CStruct). s.name.bytes) rest) t ≡ true) → IsBlank structs (k + length rest) t
all_blank structs [] names k h found blanks t (inl known) d less = blanks t known d (omega (arith, less))
all_blank structs [] names k h found blanks Int64 (inr known) d less = blanks Int64 refl d (omega (arith, less))
all_blank structs [] names k h found blanks (Struct name) (inr known) d less = absurd (false≢true known)
all_blank structs (s ∷ rest) names k h found blanks t known d less =
    all_blank structs rest (s.name.bytes ∷ names) (suc k)
    (right_of (list_all (λ m. is_known names m.kind) s.members) (structs_known (s.name.bytes ∷ names) rest) h)
    (λ i x e. found (suc i) x e)
    (known_more structs names k s (found 0 s refl) blanks (left_of (list_all (λ m. is_known names m.kind) s.members) (structs_known (s.name.bytes ∷ names) rest) h))
    t (shifted t known) d (omega (arith, less))
  where
    split : (name : Word) → (bytes_eq name.bytes s.name.bytes ≡ true) ⊎ (is_in name.bytes (map (λ (x : CStruct). x.name.bytes) rest) ≡ true) → (is_known (s.name.bytes ∷ names) (Struct name) ≡ true) ⊎ (is_known (map (λ (x : CStruct). x.name.bytes) rest) (Struct name) ≡ true)
    split name (inl same) = inl (or_first (bytes_eq name.bytes s.name.bytes) (is_in name.bytes names) same)
    split name (inr later) = inr later

    shifted : (u : CType) → (is_known names u ≡ true) ⊎ (is_known (map (λ (x : CStruct). x.name.bytes) (s ∷ rest)) u ≡ true) → (is_known (s.name.bytes ∷ names) u ≡ true) ⊎ (is_known (map (λ (x : CStruct). x.name.bytes) rest) u ≡ true)
    shifted Int64 known' = inl refl
    shifted (Struct name) (inl there) = inl (or_second (bytes_eq name.bytes s.name.bytes) (is_in name.bytes names) there)
    shifted (Struct name) (inr there) = split name (either (bytes_eq name.bytes s.name.bytes) (is_in name.bytes (map (λ (x : CStruct). x.name.bytes) rest)) there)

-- a struct is found by its name where no name stands twice
find_self : (structs : List CStruct) (i : ℕ) (s : CStruct) → has_twice (map (λ (x : CStruct). x.name.bytes) structs) ≡ false → slice_get structs i ≡ Some s → find (λ (x : CStruct). bytes_eq s.name.bytes x.name.bytes) structs ≡ Some s
find_self [] i s h e = absurd (none-some s e)
find_self (x ∷ structs) zero s h e =
    let same = same_value x s e in
    let test : bytes_eq s.name.bytes x.name.bytes ≡ true = (bytes_eq-Decides s.name.bytes x.name.bytes).1 (ap (λ (y : CStruct). y.name.bytes) (sym same)) in
    ap (λ b. cond b (Some x) (find (λ (y : CStruct). bytes_eq s.name.bytes y.name.bytes) structs)) test ∙ e
find_self (x ∷ structs) (suc i) s h e =
    by_test (bytes_eq s.name.bytes x.name.bytes) refl
    (find_self structs i s (or_right (is_in x.name.bytes (map (λ (y : CStruct). y.name.bytes) structs)) (has_twice (map (λ (y : CStruct). y.name.bytes) structs)) h) e)
  where
    -- what stands later is in
    later : (list : List CStruct) (j : ℕ) → slice_get list j ≡ Some s → is_in s.name.bytes (map (λ (y : CStruct). y.name.bytes) list) ≡ true
    later [] j e' = absurd (none-some s e')
    later (y ∷ list) zero e' = or_first _ _ ((bytes_eq-Decides s.name.bytes y.name.bytes).1 (ap (λ (z : CStruct). z.name.bytes) (sym (same_value y s e'))))
    later (y ∷ list) (suc j) e' = or_second (bytes_eq s.name.bytes y.name.bytes) (is_in s.name.bytes (map (λ (z : CStruct). z.name.bytes) list)) (later list j e')

    by_test : (b : Bool) → bytes_eq s.name.bytes x.name.bytes ≡ b → find (λ (y : CStruct). bytes_eq s.name.bytes y.name.bytes) structs ≡ Some s → find (λ (y : CStruct). bytes_eq s.name.bytes y.name.bytes) (x ∷ structs) ≡ Some s
    by_test true test among =
        let equal : s.name.bytes ≡ x.name.bytes = (bytes_eq-Decides s.name.bytes x.name.bytes).0 test in
        let twice : is_in x.name.bytes (map (λ (y : CStruct). y.name.bytes) structs) ≡ true = subst (λ (n : List ℕ). is_in n (map (λ (y : CStruct). y.name.bytes) structs) ≡ true) equal (later structs i e) in
        absurd (false≢true (sym (or_left (is_in x.name.bytes (map (λ (y : CStruct). y.name.bytes) structs)) (has_twice (map (λ (y : CStruct). y.name.bytes) structs)) h) ∙ twice))
    by_test false test among =
        ap (λ b. cond b (Some x) (find (λ (y : CStruct). bytes_eq s.name.bytes y.name.bytes) structs)) test ∙ among

-- where a name stands twice in the first names, it does in all
in_front : (name : List ℕ) (xs ys : List (List ℕ)) → is_in name (xs ++ ys) ≡ false → is_in name xs ≡ false
in_front name [] ys h = refl
in_front name (x ∷ xs) ys h =
    ap (λ b. b || is_in name xs) (or_left (bytes_eq name x) (is_in name (xs ++ ys)) h) ∙ in_front name xs ys (or_right (bytes_eq name x) (is_in name (xs ++ ys)) h)

twice_in_front : (xs ys : List (List ℕ)) → has_twice (xs ++ ys) ≡ false → has_twice xs ≡ false
twice_in_front [] ys h = refl
twice_in_front (x ∷ xs) ys h =
    ap (λ b. b || has_twice xs) (in_front x xs ys (or_left (is_in x (xs ++ ys)) (has_twice (xs ++ ys)) h))
    ∙ twice_in_front xs ys (or_right (is_in x (xs ++ ys)) (has_twice (xs ++ ys)) h)

-- a chain of tests that comes to nothing
pub unchained : {A : Type 0} (b : Bool) (x : A) (rest : Option A) → cond b (Some x) rest ≡ None → (b ≡ false) × (rest ≡ None)
unchained true x rest e = absurd (none-some x (sym e))
unchained false x rest e = (refl, e)

-- The tests of a program that loads, up to its interface.
record Passed (program : CProgram) : Type 0 where
  k3 : breaks_K3 program ≡ false
  k4 : breaks_K4 program ≡ false
  k5 : breaks_K5 program ≡ false
  k6 : breaks_K6 program ≡ false
  k7 : breaks_K7 program ≡ false

passed : (program : CProgram) (model : Model) → Loads program model → Passed program
unfolding first_load_rule
passed program model h =
    let a = unchained (breaks_K3 program) _ _ h in
    let b = unchained (breaks_K4 program) _ _ a.1 in
    let c = unchained (breaks_K5 program) _ _ b.1 in
    let d = unchained (breaks_K6 program) _ _ c.1 in
    let e = unchained (breaks_K7 program) _ _ d.1 in
    record { k3 = a.0; k4 = b.0; k5 = c.0; k6 = d.0; k7 = e.0 }

globals_formed : (structs : List CStruct) (names : List (List ℕ)) → ((t : CType) → is_known names t ≡ true → HasForm structs (blank_type structs t) (form_of_type structs t)) → (globals : List CGlobal) → list_all (λ g. is_known names g.kind) globals ≡ true → HaveForms structs globals (map (λ (g : CGlobal). blank_type structs g.kind) globals)
globals_formed structs names blanks [] h = tt
globals_formed structs names blanks (g ∷ globals) h = (
  blanks g.kind (left_of (is_known names g.kind) (list_all (λ g'. is_known names g'.kind) globals) h),
  globals_formed structs names blanks globals (right_of (is_known names g.kind) (list_all (λ g'. is_known names g'.kind) globals) h),
)

none_known : (structs : List CStruct) (t : CType) → is_known [] t ≡ true → IsBlank structs 0 t
none_known structs Int64 known zero less = absurd (omega (arith, less))
none_known structs Int64 known (suc d) less = tt
none_known structs (Struct name) known d less = absurd (false≢true known)

-- the cells at load have their forms
pub first_formed : (program : CProgram) (model : Model) → Loads program model → HaveForms program.structs program.globals (first_globals program)
first_formed program model loads =
    let tests = passed program model loads in
    let names = or_left (has_twice (all_names program)) _ tests.k3 in
    let three = twice_in_front (struct_names program ++ global_names program ++ event_names program) (function_names program) names in
    let two = twice_in_front (struct_names program ++ global_names program) (event_names program) three in
    let one = twice_in_front (struct_names program) (global_names program) two in
    let known : (structs_known [] program.structs && list_all (λ g. is_known (struct_names program) g.kind) program.globals) ≡ true = not_false _ tests.k4 in
    let found : AreFound program.structs program.structs = λ i s e. ap (λ o. cells.◌>>=◌ o (λ (x : CStruct). Some x.members)) (find_self program.structs i s one e) in
    globals_formed program.structs (struct_names program)
    (λ t is. all_blank program.structs program.structs [] 0 (left_of (structs_known [] program.structs) (list_all (λ g. is_known (struct_names program) g.kind) program.globals) known) found (none_known program.structs) t (inr is) (length program.structs + 1) (omega arith))
    program.globals (right_of (structs_known [] program.structs) (list_all (λ g. is_known (struct_names program) g.kind) program.globals) known)

-- a program that loads stays steady
pub loaded_steady : {E : Type 0} (program : CProgram) (model : Model) → Loads program model → (shows : List ℕ → List Cells → Option E) → ((name : List ℕ) (values : List Cells) → is_some (shows name values) ≡ true) → (n : ℕ) (config : Config) → IsSteady program config → IsSteady program (exec (cstep shows program) n config).config
loaded_steady program model loads shows shown n config h =
    let tests = passed program model loads in
    run_steady program
    (record {
      typed = not_false (list_all (λ f. list_all (is_typed program) f.body) program.functions) tests.k5;
      labelled = not_false (list_all has_labels program.functions) tests.k6;
      called = not_false (functions_known (event_names program) program.functions) tests.k7;
    })
    shows shown n config h
