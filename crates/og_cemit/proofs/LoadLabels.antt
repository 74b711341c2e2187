-- Labels and calls of the program are there, and labels and cases differ.
use Rattle.std.proofs.Common.{◌≡◌, ℕ, suc, ◌+◌, ◌^◌, ◌<◌, List, [], ◌∷◌, ◌++◌, Bool, true, false, cond, not, ◌&&◌, ◌||◌, ◌⊎◌, inl, inr, Option, Some, None, map, length, slice_get, nat_lt, refl, sym, ap, ◌∙◌, arith}
use Rattle.std.specs.Prelude.{option_map}
use Rattle.std.specs.List.{list_all, list_any}
use Rattle.std.specs.Str.{bytes_eq}
use Rattle.std.proofs.lemmas.Bool.{ltb-true, ltb-false}
use Rattle.std.proofs.lemmas.Option.{none-some}
use Rattle.og_names.specs.declared.Word.{Word}
use Rattle.og_types.specs.declared.Sort.{Sort}
use Rattle.og_model.specs.declared.Model.{Model}
use Rattle.og_ir.specs.declared.Ir.{Ir}
use Rattle.og_ir.specs.declared.FlatFn.{FlatFn}
use Rattle.og_ir.specs.declared.Instr.{Instr}
use Rattle.og_ir.specs.declared.Instr.TheVariants as instr
use Rattle.og_ir.specs.declared.Case.{Case}
use Rattle.og_ir.specs.Arithmetic.{in_64_bits, is_same}
use Rattle.og_csubset.specs.declared.CStmt.{CStmt}
use Rattle.og_csubset.specs.declared.CStmt.TheVariants.{Assign, IfGoto, Goto, Label, Switch, Call, Return}
use Rattle.og_csubset.specs.declared.CCase.{CCase}
use Rattle.og_csubset.specs.Kinds.{is_in, event_names}
use Rattle.og_csubset.specs.Step.{label_in}
use Rattle.og_csubset.specs.Loading as load
use Rattle.og_csubset.specs.Loading.{has_twice, labels_of, targets_of, repeats_case, has_labels, calls_known, functions_known, breaks_K6, breaks_K7}
use Rattle.og_csubset.specs.Fair.{is_number, is_right, has_equal_cases, Fair}
use Rattle.og_csubset.proofs.Steady.{all_at}
use Rattle.og_cemit.specs.Marks.{is_marked}
use Rattle.og_cemit.specs.Emitted.{label_text, case_at, calls_function, calls_event, statement_at, label_before, statements_from, targets, used, jumps, body_of, function_of, program_of, AreShort}
use Rattle.og_cemit.proofs.Names.{there, within, same_bytes, other_bytes}
use Rattle.og_cemit.proofs.Labels.{labels_differ}
use Rattle.og_cemit.proofs.Marking.{Among, among_left, among_right, target_marked, used_marked}
use Rattle.og_cemit.proofs.Parts.{right_at}
use Rattle.og_cemit.proofs.Bodies.{before, label_stands}
use Rattle.og_cemit.proofs.Declared.{event_declared, short_at}
use Rattle.og_cemit.proofs.LoadNames.{all_each}
use Rattle.og_cemit.proofs.LoadTypes.{body_all, functions_all}
use Rattle.og_names.proofs.Truths.{both_first as left_of, both_second as right_of, both_true as both, either_first as or_first, either_second as or_second, neither_true as neither}

-- ---- labels differ

labels_of_statement : (ir : Ir) (model : Model) (g : FlatFn) (i : Instr) (rest : List CStmt) → labels_of (statement_at ir model g i ∷ rest) ≡ labels_of rest
labels_of_statement ir model g (instr.Set slot e) rest = refl
labels_of_statement ir model g (instr.Copy to from) rest = refl
labels_of_statement ir model g (instr.Branch test to) rest = refl
labels_of_statement ir model g (instr.Goto to) rest = refl
labels_of_statement ir model g (instr.Table e cases otherwise) rest = refl
labels_of_statement ir model g (instr.Call k) rest = by_function (slice_get ir.functions k)
  where
    by_function : (o : Option FlatFn) → labels_of (calls_function o ∷ rest) ≡ labels_of rest
    by_function None = refl
    by_function (Some h) = refl
labels_of_statement ir model g (instr.Emit k) rest = by_event (slice_get ir.events k)
  where
    by_event : (o : Option Word) → labels_of (calls_event o ∷ rest) ≡ labels_of rest
    by_event None = refl
    by_event (Some h) = refl
labels_of_statement ir model g instr.Back rest = refl

abbrev label_if : Bool → FlatFn → ℕ → List (List ℕ) → List (List ℕ)
label_if false g place rest = rest
label_if true g place rest = label_text g.labels place ∷ rest

labels_of_instruction : (mark : Bool) (ir : Ir) (model : Model) (g : FlatFn) (place : ℕ) (i : Instr) (rest : List CStmt)
    → labels_of ((label_before mark g place ++ statement_at ir model g i ∷ []) ++ rest) ≡ label_if mark g place (labels_of rest)
labels_of_instruction false ir model g place i rest = labels_of_statement ir model g i rest
labels_of_instruction true ir model g place i rest = ap (λ l. label_text g.labels place ∷ l) (labels_of_statement ir model g i rest)

-- an earlier label does not come again
label_new : (ir : Ir) (model : Model) (g : FlatFn) (marks : List Bool) (q place : ℕ) (code : List Instr) → q < place → place + length code < 2 ^ 64
    → is_in (label_text g.labels q) (labels_of (statements_from ir model g marks place code)) ≡ false
label_new ir model g marks q place [] less small = refl
label_new ir model g marks q place (i ∷ code) less small =
    ap (is_in (label_text g.labels q)) (labels_of_instruction (is_marked marks place) ir model g place i (statements_from ir model g marks (place + 1) code))
    ∙ by_mark (is_marked marks place) (label_new ir model g marks q (place + 1) code (omega (arith, less)) (omega (arith, small)))
  where
    other : bytes_eq (label_text g.labels q) (label_text g.labels place) ≡ false
    other = other_bytes _ _ (λ e. let same = labels_differ g.labels q place (omega (arith, less, small)) (omega (arith, small)) e in absurd (omega (arith, same, less)))

    by_mark : (mark : Bool) → is_in (label_text g.labels q) (labels_of (statements_from ir model g marks (place + 1) code)) ≡ false
        → is_in (label_text g.labels q) (label_if mark g place (labels_of (statements_from ir model g marks (place + 1) code))) ≡ false
    by_mark false more = more
    by_mark true more = neither _ _ other more

labels_once : (ir : Ir) (model : Model) (g : FlatFn) (marks : List Bool) (place : ℕ) (code : List Instr) → place + length code < 2 ^ 64
    → has_twice (labels_of (statements_from ir model g marks place code)) ≡ false
labels_once ir model g marks place [] small = refl
labels_once ir model g marks place (i ∷ code) small =
    ap has_twice (labels_of_instruction (is_marked marks place) ir model g place i (statements_from ir model g marks (place + 1) code))
    ∙ by_mark (is_marked marks place) (label_new ir model g marks place (place + 1) code (omega arith) (omega (arith, small))) (labels_once ir model g marks (place + 1) code (omega (arith, small)))
  where
    by_mark : (mark : Bool) → is_in (label_text g.labels place) (labels_of (statements_from ir model g marks (place + 1) code)) ≡ false
        → has_twice (labels_of (statements_from ir model g marks (place + 1) code)) ≡ false
        → has_twice (label_if mark g place (labels_of (statements_from ir model g marks (place + 1) code))) ≡ false
    by_mark false new more = more
    by_mark true new more = neither _ _ new more

-- ---- labels are there

skipped : (name : List ℕ) (body : List CStmt) (o : Option ℕ) → label_in name body ≡ o → (k : ℕ) → option_map (λ j. j + 1) o ≡ Some k
    → ((j : ℕ) → label_in name body ≡ Some j → is_in name (labels_of body) ≡ true) → is_in name (labels_of body) ≡ true
skipped name body None e k h more = absurd (none-some k h)
skipped name body (Some j) e k h more = more j e

label_found : (name : List ℕ) (body : List CStmt) (k : ℕ) → label_in name body ≡ Some k → is_in name (labels_of body) ≡ true
label_found name [] k e = absurd (none-some k e)
label_found name (Label w ∷ body) k e = by_test (bytes_eq name w.bytes) e (label_found name body)
  where
    by_test : (b : Bool) → cond b (Some 0) (option_map (λ j. j + 1) (label_in name body)) ≡ Some k
        → ((j : ℕ) → label_in name body ≡ Some j → is_in name (labels_of body) ≡ true) → (b || is_in name (labels_of body)) ≡ true
    by_test true h more = refl
    by_test false h more = skipped name body (label_in name body) refl k h more
label_found name (Assign place x ∷ body) k e = skipped name body (label_in name body) refl k e (label_found name body)
label_found name (IfGoto test w ∷ body) k e = skipped name body (label_in name body) refl k e (label_found name body)
label_found name (Goto w ∷ body) k e = skipped name body (label_in name body) refl k e (label_found name body)
label_found name (Switch x cases otherwise ∷ body) k e = skipped name body (label_in name body) refl k e (label_found name body)
label_found name (Call w ∷ body) k e = skipped name body (label_in name body) refl k e (label_found name body)
label_found name (Return ∷ body) k e = skipped name body (label_in name body) refl k e (label_found name body)

module _ (ir : Ir) (model : Model) (g : FlatFn) (small : length g.code < 2 ^ 64) where
  target_there : (j : ℕ) (i : Instr) (to : ℕ) → slice_get g.code j ≡ Some i → Among to (jumps i) → to < length g.code
      → is_in (label_text g.labels to) (labels_of (body_of ir model g)) ≡ true
  target_there j i to e among less =
      label_found (label_text g.labels to) (body_of ir model g) (before (targets g.code) 0 g.code to)
      (ap (λ n. label_in (label_text g.labels n) (body_of ir model g)) (sym zero_plus)
      ∙ label_stands ir model g (targets g.code) 0 g.code to (omega (arith, small)) less (ap (is_marked (targets g.code)) zero_plus ∙ target_marked g.code j i to e among less))
    where
      zero_plus : 0 + to ≡ to
      zero_plus = omega arith

  abbrev are_there : List (List ℕ) → Bool
  are_there names = list_all (λ label. is_in label (labels_of (body_of ir model g))) names

  cases_there : (cases : List Case)
      → ((to : ℕ) → Among to (map (λ (x : Case). x.to) cases) → to < length g.code → is_in (label_text g.labels to) (labels_of (body_of ir model g)) ≡ true)
      → list_all (λ (x : Case). in_64_bits x.value && nat_lt x.to (length g.code)) cases ≡ true
      → are_there (map (λ (x : CCase). x.label.bytes) (map (case_at g) cases)) ≡ true
  cases_there [] found right = refl
  cases_there (x ∷ cases) found right =
      both _ _ (found x.to (inl refl) (ltb-true x.to (length g.code) (right_of (in_64_bits x.value) _ (left_of (in_64_bits x.value && nat_lt x.to (length g.code)) _ right))))
      (cases_there cases (λ to among less. found to (inr among) less) (right_of (in_64_bits x.value && nat_lt x.to (length g.code)) _ right))

  jumps_there : (sorts : List Sort) (earlier j : ℕ) (i : Instr) → slice_get g.code j ≡ Some i
      → is_right sorts ir earlier (length g.code) i ≡ true → are_there (targets_of (statement_at ir model g i)) ≡ true
  jumps_there sorts earlier j (instr.Set slot e) at right = refl
  jumps_there sorts earlier j (instr.Copy to from) at right = refl
  jumps_there sorts earlier j (instr.Branch test to) at right =
      both _ _ (target_there j (instr.Branch test to) to at (inl refl) (ltb-true to (length g.code) (right_of (is_number sorts ir test.left && is_number sorts ir test.right) _ right))) refl
  jumps_there sorts earlier j (instr.Goto to) at right = both _ _ (target_there j (instr.Goto to) to at (inl refl) (ltb-true to (length g.code) right)) refl
  jumps_there sorts earlier j (instr.Table e cases otherwise) at right =
      let are_cases = list_all (λ (x : Case). in_64_bits x.value && nat_lt x.to (length g.code)) cases in
      let differ = not (has_equal_cases cases) in
      both _ _
      (target_there j (instr.Table e cases otherwise) otherwise at (among_right otherwise (map (λ (x : Case). x.to) cases) (otherwise ∷ []) (inl refl))
      (ltb-true otherwise (length g.code) (right_of ((is_number sorts ir e && are_cases) && differ) _ right)))
      (cases_there cases (λ to among less. target_there j (instr.Table e cases otherwise) to at (among_left to (map (λ (x : Case). x.to) cases) (otherwise ∷ []) among) less)
      (right_of (is_number sorts ir e) are_cases (left_of (is_number sorts ir e && are_cases) differ (left_of ((is_number sorts ir e && are_cases) && differ) _ right))))
  jumps_there sorts earlier j (instr.Call k) at right = by_function (slice_get ir.functions k)
    where
      by_function : (o : Option FlatFn) → are_there (targets_of (calls_function o)) ≡ true
      by_function None = refl
      by_function (Some h) = refl
  jumps_there sorts earlier j (instr.Emit k) at right = by_event (slice_get ir.events k)
    where
      by_event : (o : Option Word) → are_there (targets_of (calls_event o)) ≡ true
      by_event None = refl
      by_event (Some h) = refl
  jumps_there sorts earlier j instr.Back at right = refl

-- ---- cases differ

other_case : (g : FlatFn) (x : Case) (cases : List Case)
    → list_any (λ (other : CCase). is_same x.value other.value) (map (case_at g) cases) ≡ list_any (λ (other : Case). is_same x.value other.value) cases
other_case g x [] = refl
other_case g x (y ∷ cases) = ap (λ b. is_same x.value y.value || b) (other_case g x cases)

equal_cases : (g : FlatFn) (cases : List Case) → load.has_equal_cases (map (case_at g) cases) ≡ has_equal_cases cases
equal_cases g [] = refl
equal_cases g (x ∷ cases) =
    ap (λ b. b || load.has_equal_cases (map (case_at g) cases)) (other_case g x cases) ∙ ap (λ b. list_any (λ (other : Case). is_same x.value other.value) cases || b) (equal_cases g cases)

not_repeated : (ir : Ir) (model : Model) (g : FlatFn) (sorts : List Sort) (earlier : ℕ) (i : Instr) → is_right sorts ir earlier (length g.code) i ≡ true
    → not (repeats_case (statement_at ir model g i)) ≡ true
not_repeated ir model g sorts earlier (instr.Set slot e) right = refl
not_repeated ir model g sorts earlier (instr.Copy to from) right = refl
not_repeated ir model g sorts earlier (instr.Branch test to) right = refl
not_repeated ir model g sorts earlier (instr.Goto to) right = refl
not_repeated ir model g sorts earlier (instr.Table e cases otherwise) right =
    ap not (equal_cases g cases) ∙ right_of (is_number sorts ir e && list_all (λ (x : Case). in_64_bits x.value && nat_lt x.to (length g.code)) cases) (not (has_equal_cases cases)) (left_of _ (nat_lt otherwise (length g.code)) right)
not_repeated ir model g sorts earlier (instr.Call k) right = by_function (slice_get ir.functions k)
  where
    by_function : (o : Option FlatFn) → not (repeats_case (calls_function o)) ≡ true
    by_function None = refl
    by_function (Some h) = refl
not_repeated ir model g sorts earlier (instr.Emit k) right = by_event (slice_get ir.events k)
  where
    by_event : (o : Option Word) → not (repeats_case (calls_event o)) ≡ true
    by_event None = refl
    by_event (Some h) = refl
not_repeated ir model g sorts earlier instr.Back right = refl

none_of : {A : Type 0} (p : A → Bool) (xs : List A) → list_all (λ x. not (p x)) xs ≡ true → not (list_any p xs) ≡ true
none_of p [] h = refl
none_of p (x ∷ xs) h = neither_not (p x) (list_any p xs) (left_of (not (p x)) _ h) (none_of p xs (right_of (not (p x)) _ h))
  where
    neither_not : (a b : Bool) → not a ≡ true → not b ≡ true → not (a || b) ≡ true
    neither_not true b h' k = h'
    neither_not false b h' k = k

-- ---- K6

pub keeps_K6 : (ir : Ir) (model : Model) → Fair ir model → AreShort ir.functions → breaks_K6 (program_of ir model) ≡ false
keeps_K6 ir model fair short =
    ap not (functions_all has_labels ir model ir.functions (λ k g e.
    let small = short_at ir.functions k g short e in
    let right : (j : ℕ) (i : Instr) → slice_get g.code j ≡ Some i → is_right model.types ir (0 + k) (length g.code) i ≡ true =
    λ j i e'. all_at (is_right model.types ir (0 + k) (length g.code)) g.code j i (right_at model.types ir 0 ir.functions k g fair.right e) e' in
    both _ _
    (both _ _
    (ap not (labels_once ir model g (targets g.code) 0 g.code (omega (arith, small))))
    (all_each (λ label. is_in label (labels_of (body_of ir model g))) targets_of (body_of ir model g)
    (body_all (λ s. list_all (λ label. is_in label (labels_of (body_of ir model g))) (targets_of s)) (λ w. refl) ir model g (targets g.code) 0 g.code (λ j i e'. jumps_there ir model g small model.types (0 + k) j i e' (right j i e')))))
    (none_of repeats_case (body_of ir model g)
    (body_all (λ s. not (repeats_case s)) (λ w. refl) ir model g (targets g.code) 0 g.code (λ j i e'. not_repeated ir model g model.types (0 + k) i (right j i e'))))))

-- ---- K7

module _ (ir : Ir) (model : Model) (fair : Fair ir model) where
  call_known : (names : List (List ℕ)) (earlier : ℕ) (g : FlatFn) → slice_get ir.functions earlier ≡ Some g
      → ((k : ℕ) (h : FlatFn) → k < earlier → slice_get ir.functions k ≡ Some h → is_in h.name.bytes names ≡ true)
      → ((name : List ℕ) → is_in name (event_names (program_of ir model)) ≡ true → is_in name names ≡ true)
      → (j : ℕ) (i : Instr) → slice_get g.code j ≡ Some i → is_right model.types ir earlier (length g.code) i ≡ true → calls_known names (statement_at ir model g i) ≡ true
  call_known names earlier g stands below events j (instr.Set slot e) at right = refl
  call_known names earlier g stands below events j (instr.Copy to from) at right = refl
  call_known names earlier g stands below events j (instr.Branch test to) at right = refl
  call_known names earlier g stands below events j (instr.Goto to) at right = refl
  call_known names earlier g stands below events j (instr.Table e cases otherwise) at right = refl
  call_known names earlier g stands below events j (instr.Call k) at right =
      let less = ltb-true k earlier right in
      let inside = within ir.functions earlier g stands in
      let one = there ir.functions k (omega (arith, less, inside)) in
      ap (λ o. calls_known names (calls_function o)) one.1 ∙ below k one.0 less one.1
  call_known names earlier g stands below events j (instr.Emit k) at right =
      let less = ltb-true k (length ir.events) right in
      let one = there ir.events k less in
      let zero_plus : 0 + k ≡ k = omega arith in
      ap (λ o. calls_known names (calls_event o)) one.1
      ∙ events one.0.bytes (event_declared (used ir) 0 ir.events k one.0 one.1 (ap (is_marked (used ir)) zero_plus ∙ used_marked ir g earlier j (instr.Emit k) k stands at (inl refl) less))
  call_known names earlier g stands below events j instr.Back at right = refl

  known_from : (names : List (List ℕ)) (earlier : ℕ) (functions : List FlatFn)
      → ((j : ℕ) → slice_get ir.functions (earlier + j) ≡ slice_get functions j)
      → ((k : ℕ) (h : FlatFn) → k < earlier → slice_get ir.functions k ≡ Some h → is_in h.name.bytes names ≡ true)
      → ((name : List ℕ) → is_in name (event_names (program_of ir model)) ≡ true → is_in name names ≡ true)
      → functions_known names (map (function_of ir model) functions) ≡ true
  known_from names earlier [] same below events = refl
  known_from names earlier (g ∷ functions) same below events =
      both _ _
      (body_all (calls_known names) (λ w. refl) ir model g (targets g.code) 0 g.code (λ j i e. call_known names earlier g stands below events j i e (right j i e)))
      (known_from (g.name.bytes ∷ names) (earlier + 1) functions
      (λ j. let next : earlier + 1 + j ≡ earlier + suc j = omega arith in ap (slice_get ir.functions) next ∙ same (suc j))
      below' (λ name h. or_second (bytes_eq name g.name.bytes) (is_in name names) (events name h)))
    where
      stands : slice_get ir.functions earlier ≡ Some g
      stands = let zero_more : earlier ≡ earlier + 0 = omega arith in ap (slice_get ir.functions) zero_more ∙ same 0

      right : (j : ℕ) (i : Instr) → slice_get g.code j ≡ Some i → is_right model.types ir earlier (length g.code) i ≡ true
      right j i e =
          let zero_plus : earlier ≡ 0 + earlier = omega arith in
          ap (λ n. is_right model.types ir n (length g.code) i) zero_plus
          ∙ all_at (is_right model.types ir (0 + earlier) (length g.code)) g.code j i (right_at model.types ir 0 ir.functions earlier g fair.right stands) e

      below' : (k : ℕ) (h : FlatFn) → k < earlier + 1 → slice_get ir.functions k ≡ Some h → is_in h.name.bytes (g.name.bytes ∷ names) ≡ true
      below' k h less e = by_place (lt_or_eq k earlier less)
        where
          lt_or_eq : (a b : ℕ) → a < b + 1 → (a < b) ⊎ (a ≡ b)
          lt_or_eq a b l = by_test (nat_lt a b) refl
            where
              by_test : (t : Bool) → nat_lt a b ≡ t → (a < b) ⊎ (a ≡ b)
              by_test true e' = inl (ltb-true a b e')
              by_test false e' = inr (let more = ltb-false a b e' in omega (arith, more, l))

          by_place : (k < earlier) ⊎ (k ≡ earlier) → is_in h.name.bytes (g.name.bytes ∷ names) ≡ true
          by_place (inl l) = or_second (bytes_eq h.name.bytes g.name.bytes) (is_in h.name.bytes names) (below k h l e)
          by_place (inr s) =
              let one : Some h ≡ Some g = sym e ∙ ap (slice_get ir.functions) s ∙ stands in
              let two : h ≡ g = cc (one) in
              or_first (bytes_eq h.name.bytes g.name.bytes) (is_in h.name.bytes names) (ap (λ (x : FlatFn). bytes_eq h.name.bytes x.name.bytes) (sym two) ∙ same_bytes h.name.bytes)

  pub keeps_K7 : breaks_K7 (program_of ir model) ≡ false
  keeps_K7 =
      ap not (known_from (event_names (program_of ir model)) 0 ir.functions (λ j. let zero_plus : 0 + j ≡ j = omega arith in ap (slice_get ir.functions) zero_plus) (λ k h less e. absurd (omega (arith, less))) (λ name h. h))
