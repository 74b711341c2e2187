-- Where the statements of an instruction stand in the body of its function.
use Rattle.std.proofs.Common.{◌≡◌, ℕ, zero, suc, ◌+◌, ◌^◌, ◌<◌, List, [], ◌∷◌, ◌++◌, Bool, true, false, cond, Option, Some, None, length, slice_get, refl, sym, ap, ◌∙◌, arith}
use Rattle.std.specs.Prelude.{option_map}
use Rattle.std.specs.Str.{bytes_eq}
use Rattle.std.proofs.lemmas.Bool.{false≢true}
use Rattle.std.proofs.lemmas.Option.{none-some}
use Rattle.og_names.specs.declared.Word.{Word}
use Rattle.og_model.specs.declared.Model.{Model}
use Rattle.og_ir.specs.declared.Ir.{Ir}
use Rattle.og_ir.specs.declared.FlatFn.{FlatFn}
use Rattle.og_ir.specs.declared.Instr.{Instr}
use Rattle.og_ir.specs.declared.Instr.TheVariants as instr
use Rattle.og_csubset.specs.declared.CStmt.{CStmt}
use Rattle.og_csubset.specs.declared.CStmt.TheVariants.{Label}
use Rattle.og_csubset.specs.Step.{is_label, label_in}
use Rattle.og_cemit.specs.Marks.{is_marked}
use Rattle.og_cemit.specs.Emitted.{label_text, label_at, statement_at, label_before, calls_function, calls_event, statements_from}
use Rattle.og_cemit.proofs.Labels.{labels_differ}
use Rattle.og_cemit.proofs.Names.{same_bytes, other_bytes}

-- how many statements stand for an instruction
abbrev pub width : Bool → ℕ
width false = 1
width true = 2

-- the same at a place, where the end has one
abbrev pub width_of : Bool → Option Instr → ℕ
width_of mark None = 1
width_of mark (Some i) = width mark

-- the statements before the j-th instruction from a place on
abbrev pub before : List Bool → ℕ → List Instr → ℕ → ℕ
before marks place [] j = j
before marks place (i ∷ code) zero = 0
before marks place (i ∷ code) (suc j) = width (is_marked marks place) + before marks (place + 1) code j

pub before_none : (marks : List Bool) (place : ℕ) (code : List Instr) → before marks place code 0 ≡ 0
before_none marks place [] = refl
before_none marks place (i ∷ code) = refl

pub before_next : (marks : List Bool) (place : ℕ) (code : List Instr) (j : ℕ)
    → before marks place code (suc j) ≡ before marks place code j + width_of (is_marked marks (place + j)) (slice_get code j)
before_next marks place [] j = omega arith
before_next marks place (i ∷ code) zero =
    let start = before_none marks (place + 1) code in
    let here : width (is_marked marks place) ≡ width (is_marked marks (place + 0)) = ap (λ n. width (is_marked marks n)) (omega arith) in
    omega (arith, start, here)
before_next marks place (i ∷ code) (suc j) =
    let rest = before_next marks (place + 1) code j in
    let here : width_of (is_marked marks (place + 1 + j)) (slice_get code j) ≡ width_of (is_marked marks (place + suc j)) (slice_get code j) =
    ap (λ n. width_of (is_marked marks n) (slice_get code j)) (omega arith) in
    omega (arith, rest, here)

-- the first statement of an instruction
abbrev pub first_of : Ir → Model → FlatFn → Bool → ℕ → Instr → CStmt
first_of ir model f false place i = statement_at ir model f i
first_of ir model f true place i = Label (label_at f place)

abbrev pub first_at : Ir → Model → FlatFn → Bool → ℕ → Option Instr → Option CStmt
first_at ir model f mark place None = None
first_at ir model f mark place (Some i) = Some (first_of ir model f mark place i)

skip : (mark : Bool) (ir : Ir) (model : Model) (f : FlatFn) (place : ℕ) (i : Instr) (rest : List CStmt) (n : ℕ)
    → slice_get ((label_before mark f place ++ statement_at ir model f i ∷ []) ++ rest) (width mark + n) ≡ slice_get rest n
skip false ir model f place i rest n = ap (slice_get (statement_at ir model f i ∷ rest)) one
  where
    one : 1 + n ≡ suc n
    one = omega arith
skip true ir model f place i rest n = ap (slice_get (Label (label_at f place) ∷ statement_at ir model f i ∷ rest)) two
  where
    two : 2 + n ≡ suc (suc n)
    two = omega arith

first_here : (mark : Bool) (ir : Ir) (model : Model) (f : FlatFn) (place : ℕ) (i : Instr) (rest : List CStmt)
    → slice_get ((label_before mark f place ++ statement_at ir model f i ∷ []) ++ rest) 0 ≡ Some (first_of ir model f mark place i)
first_here false ir model f place i rest = refl
first_here true ir model f place i rest = refl

-- the first statement stands behind those before
pub first_stands : (ir : Ir) (model : Model) (f : FlatFn) (marks : List Bool) (place : ℕ) (code : List Instr) (j : ℕ)
    → slice_get (statements_from ir model f marks place code) (before marks place code j) ≡ first_at ir model f (is_marked marks (place + j)) (place + j) (slice_get code j)
first_stands ir model f marks place [] j = refl
first_stands ir model f marks place (i ∷ code) zero =
    first_here (is_marked marks place) ir model f place i (statements_from ir model f marks (place + 1) code)
    ∙ ap (λ n. Some (first_of ir model f (is_marked marks n) n i)) (omega arith)
first_stands ir model f marks place (i ∷ code) (suc j) =
    skip (is_marked marks place) ir model f place i (statements_from ir model f marks (place + 1) code) (before marks (place + 1) code j)
    ∙ first_stands ir model f marks (place + 1) code j
    ∙ ap (λ n. first_at ir model f (is_marked marks n) n (slice_get code j)) (omega arith)

second_here : (mark : Bool) (ir : Ir) (model : Model) (f : FlatFn) (place : ℕ) (i : Instr) (rest : List CStmt) → mark ≡ true
    → slice_get ((label_before mark f place ++ statement_at ir model f i ∷ []) ++ rest) 1 ≡ Some (statement_at ir model f i)
second_here false ir model f place i rest h = absurd (false≢true h)
second_here true ir model f place i rest h = refl

-- where a label stands the statement follows it
pub second_stands : (ir : Ir) (model : Model) (f : FlatFn) (marks : List Bool) (place : ℕ) (code : List Instr) (j : ℕ) (x : Instr)
    → slice_get code j ≡ Some x → is_marked marks (place + j) ≡ true
    → slice_get (statements_from ir model f marks place code) (before marks place code j + 1) ≡ Some (statement_at ir model f x)
second_stands ir model f marks place [] j x e h = absurd (none-some x e)
second_stands ir model f marks place (i ∷ code) zero x e h =
    let here : place + 0 ≡ place = omega arith in
    let same : i ≡ x = cc (e) in
    second_here (is_marked marks place) ir model f place i (statements_from ir model f marks (place + 1) code) (ap (is_marked marks) (sym here) ∙ h)
    ∙ ap (λ y. Some (statement_at ir model f y)) same
second_stands ir model f marks place (i ∷ code) (suc j) x e h =
    let here : place + 1 + j ≡ place + suc j = omega arith in
    ap (slice_get (statements_from ir model f marks place (i ∷ code))) (omega arith)
    ∙ skip (is_marked marks place) ir model f place i (statements_from ir model f marks (place + 1) code) (before marks (place + 1) code j + 1)
    ∙ second_stands ir model f marks (place + 1) code j x e (ap (is_marked marks) here ∙ h)

-- ---- labels

no_label : (ir : Ir) (model : Model) (f : FlatFn) (name : List ℕ) (i : Instr) → is_label name (statement_at ir model f i) ≡ false
no_label ir model f name (instr.Set slot e) = refl
no_label ir model f name (instr.Copy to from) = refl
no_label ir model f name (instr.Branch test place) = refl
no_label ir model f name (instr.Goto place) = refl
no_label ir model f name (instr.Table e cases otherwise) = refl
no_label ir model f name (instr.Call k) = by_function (slice_get ir.functions k)
  where
    by_function : (o : Option FlatFn) → is_label name (calls_function o) ≡ false
    by_function None = refl
    by_function (Some g) = refl
no_label ir model f name (instr.Emit k) = by_event (slice_get ir.events k)
  where
    by_event : (o : Option Word) → is_label name (calls_event o) ≡ false
    by_event None = refl
    by_event (Some g) = refl
no_label ir model f name instr.Back = refl

-- statements of another place have no such label
other_place : (mark : Bool) (ir : Ir) (model : Model) (f : FlatFn) (place : ℕ) (i : Instr) (rest : List CStmt) (name : List ℕ) (n : ℕ)
    → bytes_eq name (label_text f.labels place) ≡ false → label_in name rest ≡ Some n
    → label_in name ((label_before mark f place ++ statement_at ir model f i ∷ []) ++ rest) ≡ Some (width mark + n)
other_place false ir model f place i rest name n other h =
    ap (λ b. cond b (Some 0) (option_map (λ k. k + 1) (label_in name rest))) (no_label ir model f name i)
    ∙ ap (option_map (λ k. k + 1)) h ∙ ap Some (omega arith)
other_place true ir model f place i rest name n other h =
    ap (λ b. cond b (Some 0) (option_map (λ k. k + 1) (cond (is_label name (statement_at ir model f i)) (Some 0) (option_map (λ k. k + 1) (label_in name rest))))) other
    ∙ ap (λ b. option_map (λ k. k + 1) (cond b (Some 0) (option_map (λ k. k + 1) (label_in name rest)))) (no_label ir model f name i)
    ∙ ap (λ o. option_map (λ k. k + 1) (option_map (λ k. k + 1) o)) h ∙ ap Some (omega arith)

label_here : (mark : Bool) (ir : Ir) (model : Model) (f : FlatFn) (place : ℕ) (i : Instr) (rest : List CStmt) → mark ≡ true
    → label_in (label_text f.labels place) ((label_before mark f place ++ statement_at ir model f i ∷ []) ++ rest) ≡ Some 0
label_here false ir model f place i rest h = absurd (false≢true h)
label_here true ir model f place i rest h =
    ap (λ b. cond b (Some 0) (option_map (λ k. k + 1) (label_in (label_text f.labels place) (statement_at ir model f i ∷ rest)))) (same_bytes (label_text f.labels place))

-- the label of a marked place stands before its instruction
pub label_stands : (ir : Ir) (model : Model) (f : FlatFn) (marks : List Bool) (place : ℕ) (code : List Instr) (j : ℕ) → place + length code < 2 ^ 64
    → j < length code → is_marked marks (place + j) ≡ true
    → label_in (label_text f.labels (place + j)) (statements_from ir model f marks place code) ≡ Some (before marks place code j)
label_stands ir model f marks place [] j small less h = absurd (omega (arith, less))
label_stands ir model f marks place (i ∷ code) zero small less h =
    let here : place + 0 ≡ place = omega arith in
    ap (λ n. label_in (label_text f.labels n) (statements_from ir model f marks place (i ∷ code))) here
    ∙ label_here (is_marked marks place) ir model f place i (statements_from ir model f marks (place + 1) code) (ap (is_marked marks) (sym here) ∙ h)
label_stands ir model f marks place (i ∷ code) (suc j) small less h =
    let here : place + suc j ≡ place + 1 + j = omega arith in
    let other : bytes_eq (label_text f.labels (place + suc j)) (label_text f.labels place) ≡ false =
    other_bytes _ _ (λ e. let same = labels_differ f.labels (place + suc j) place (omega (arith, small, less)) (omega (arith, small)) e in absurd (omega (arith, same))) in
    other_place (is_marked marks place) ir model f place i (statements_from ir model f marks (place + 1) code) (label_text f.labels (place + suc j)) (before marks (place + 1) code j) other
    (ap (λ n. label_in (label_text f.labels n) (statements_from ir model f marks (place + 1) code)) here
    ∙ label_stands ir model f marks (place + 1) code j (omega (arith, small)) (omega (arith, less)) (ap (is_marked marks) (sym here) ∙ h))
