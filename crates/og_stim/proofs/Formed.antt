-- What is found in a line is its form, and what a text of a value is read as is what it means.
use Rattle.std.proofs.Common.{◌≡◌, ◌⊎◌, ℕ, zero, suc, ◌≤◌, Bool, true, false, cond, ◌&&◌, ◌==◌, if◌then◌else◌, List, [], ◌∷◌, ◌++◌, length, drop, Option, Some, None, option_map, inl, inr, refl, sym, ap, ◌∙◌, subst, arith, length-append}
use Rattle.std.proofs.lemmas.List.{append-nil}
use Rattle.std.proofs.lemmas.Bool.{eqb-true, cases_Bool}
use Rattle.std.proofs.lemmas.Option.{none-some}
use Rattle.std.specs.List.{list_all}
use Rattle.og_names.proofs.Truths.{both_first, both_second, same_value}
use Rattle.og_types.specs.declared.TypeId.{TypeId}
use Rattle.og_types.specs.declared.Value.{Value}
use Rattle.og_model.specs.declared.Model.{Model}
use Rattle.og_value.specs.Bytes.{is_blank, is_word, begins}
use Rattle.og_value.specs.Forms.{IsName, AreBlanks, is_name, HasForm, IsLongest}
use Rattle.og_value.specs.Reads.{Reads, IsReadAt}
use Rattle.og_value.specs.Scans.{and_then, past_blanks, mark_here, name_at, form_at, before, found_in}
use Rattle.og_value.proofs.Runs.{before_is}
use Rattle.og_value.proofs.Fronts.{EndsWord, name_exactly, blanks_off, blanks_end_word, blanks_were}
use Rattle.og_value.proofs.Spelt.{past_to, Follows, follows_end}
use Rattle.og_value.proofs.Exact.{exact}
use Rattle.og_value.proofs.Sound.{sound, found_cases, name_was}
use Rattle.og_value.proofs.Longest.{one_longest}
use Rattle.og_value.proofs.Told.{read_is_found}
use Rattle.og_value.proofs.Again.{found_reads, read_found, whole_is_longest}
use Rattle.og_stim.specs.Scans.{Piece, text_at, ended, piece_by, piece_in, texts_more, texts_by, texts_within, texts_in, form_behind, form_by, form_in}
use Rattle.og_stim.specs.Forms.{Texts, AreValues, is_last, goes_on, IsForm, is_alone, has_values}
use Rattle.og_stim.specs.Stimuli.{value_read}

-- ---- one value of a list

-- what stands behind a value: a comma with what is behind it, or the bracket with blanks
abbrev Ending : Option (List ℕ) → List ℕ → Type 0
Ending (Some more) bs = bs ≡ 44 ∷ more
Ending None bs = (z : List ℕ) × AreBlanks z × (bs ≡ 41 ∷ z)

record IsPiece (bytes text : List ℕ) (more : Option (List ℕ)) : Type 0 where
  x : List ℕ
  y : List ℕ
  behind : List ℕ
  front : bytes ≡ x ++ (text ++ (y ++ behind))
  left : AreBlanks x
  form : HasForm text
  right : AreBlanks y
  ending : Ending more behind

abbrev by_tests : List ℕ → List ℕ → Bool → Bool → Option Piece
by_tests text bs comma bracket = if comma then Some (text, Some bs) else (if bracket then Some (text, None) else None)

ended_was : (text bs : List ℕ) (p : Piece) → ended text bs ≡ Some p → (p.0 ≡ text) × Ending p.1 bs
ended_was text [] p e = absurd (none-some p e)
ended_was text (b ∷ bs) p e = elim (cases_Bool (b == 44)) [
  | inl h ↦
      let same : (text, Some bs) ≡ p = same_value _ p (sym (ap (λ t. by_tests text bs t (b == 41 && list_all is_blank bs)) h) ∙ e) in
      subst (λ (q : Piece). (q.0 ≡ text) × Ending q.1 (b ∷ bs)) same (refl, ap (λ c. c ∷ bs) (eqb-true b 44 h))
  | inr h ↦ elim (cases_Bool (b == 41 && list_all is_blank bs)) [
    | inl g ↦
        let same : (text, None) ≡ p = same_value _ p (sym (λ i. by_tests text bs (h i) (g i)) ∙ e) in
        subst (λ (q : Piece). (q.0 ≡ text) × Ending q.1 (b ∷ bs)) same
        (refl, (bs, both_second _ _ g, ap (λ c. c ∷ bs) (eqb-true b 41 (both_first _ _ g))))
    | inr g ↦ absurd (none-some p (sym (λ i. by_tests text bs (h i) (g i)) ∙ e))
  ]
]

abbrev piece_with : List ℕ → Option (Unit {0} × List ℕ) → Option Piece
piece_with front found = piece_by (and_then found (λ _ rest. Some (before front rest, rest)))

piece_was : (bytes : List ℕ) (p : Piece) → piece_in bytes ≡ Some p → IsPiece bytes p.0 p.1
unfolding piece_in
piece_was bytes p e = elim (found_cases (form_at 64 (past_blanks bytes))) [
  | inl none ↦ absurd (none-some p (sym (ap (piece_with (past_blanks bytes)) none) ∙ e))
  | inr found ↦
      let rest : List ℕ = found.0.1 in
      let spelt = sound 64 (past_blanks bytes) rest found.1 in
      let text : before (past_blanks bytes) rest ≡ spelt.text = ap (λ bs. before bs rest) spelt.front ∙ before_is spelt.text rest in
      let at = ended_was (before (past_blanks bytes) rest) (past_blanks rest) p (sym (ap (piece_with (past_blanks bytes)) found.1) ∙ e) in
      let same : p.0 ≡ spelt.text = at.0 ∙ text in
      let x = blanks_were bytes in
      let y = blanks_were rest in
      record {
        x = x.0;
        y = y.0;
        behind = past_blanks rest;
        front = x.2 ∙ ap (λ bs. x.0 ++ bs) (spelt.front ∙ (λ i. sym same i ++ y.2 i));
        left = x.1;
        form = subst HasForm (sym same) (record { form = spelt.form; spelt = spelt.spelt; nested = spelt.nested });
        right = y.1;
        ending = at.1;
      }
]

piece_is : (x t y r : List ℕ) → AreBlanks x → HasForm t → AreBlanks y → Follows (y ++ r) → piece_in (x ++ (t ++ (y ++ r))) ≡ ended t (past_blanks r)
unfolding piece_in
piece_is x t y r left has right follows =
    ap (λ front. piece_by (text_at front)) (past_to has.spelt x (y ++ r) left)
    ∙ ap (piece_with (t ++ (y ++ r))) (exact has.spelt 64 has.nested (y ++ r) follows)
    ∙ (λ i. ended (before_is t (y ++ r) i) (blanks_off y r right i))

follows_comma : (y r : List ℕ) → AreBlanks y → Follows (y ++ (44 ∷ r))
follows_comma y r right = record {
  word = blanks_end_word y (44 ∷ r) right refl;
  colon = ap (mark_here 58) (blanks_off y (44 ∷ r) right);
}

follows_bracket : (y r : List ℕ) → AreBlanks y → Follows (y ++ (41 ∷ r))
follows_bracket y r right = record {
  word = blanks_end_word y (41 ∷ r) right refl;
  colon = ap (mark_here 58) (blanks_off y (41 ∷ r) right);
}

-- ---- a list

one_text : (n : ℕ) (bytes text : List ℕ) (more : Option (List ℕ)) (ts : Texts) → ((rest : List ℕ) (us : Texts) → texts_within n rest ≡ Some us → AreValues us rest)
    → IsPiece bytes text more → texts_more (texts_within n) text more ≡ Some ts → AreValues ts bytes
one_text n bytes text None ts inner piece e =
    let z = piece.ending in
    subst (λ us. AreValues us bytes) (same_value (text ∷ []) ts e)
    (subst (AreValues (text ∷ [])) (sym (piece.front ∙ ap (λ bs. piece.x ++ (text ++ (piece.y ++ bs))) z.2))
    (is_last piece.x text piece.y z.0 piece.left piece.form piece.right z.1))
one_text n bytes text (Some more) ts inner piece e = elim (found_cases (texts_within n more)) [
  | inl none ↦ absurd (none-some ts (sym (ap (option_map (λ us. text ∷ us)) none) ∙ e))
  | inr found ↦
      subst (λ us. AreValues us bytes) (same_value (text ∷ found.0) ts (sym (ap (option_map (λ us. text ∷ us)) found.1) ∙ e))
      (subst (AreValues (text ∷ found.0)) (sym (piece.front ∙ ap (λ bs. piece.x ++ (text ++ (piece.y ++ bs))) piece.ending))
      (goes_on piece.x text piece.y piece.left piece.form piece.right (inner more found.0 found.1)))
]

texts_were : (n : ℕ) (bytes : List ℕ) (ts : Texts) → texts_within n bytes ≡ Some ts → AreValues ts bytes
unfolding texts_within
texts_were zero bytes ts e = absurd (none-some ts e)
texts_were (suc n) bytes ts e = elim (found_cases (piece_in bytes)) [
  | inl none ↦ absurd (none-some ts (sym (ap (texts_by (texts_within n)) none) ∙ e))
  | inr found ↦
      one_text n bytes found.0.0 found.0.1 ts (λ rest us is. texts_were n rest us is) (piece_was bytes found.0 found.1)
      (sym (ap (texts_by (texts_within n)) found.1) ∙ e)
]

no_room : (x t y r : List ℕ) (m : ℕ) → length (x ++ (t ++ (y ++ (m ∷ r)))) ≤ 0 → ⊥
no_room x t y r m le = absurd (omega (arith, le, length-append x (t ++ (y ++ (m ∷ r))), length-append t (y ++ (m ∷ r)), length-append y (m ∷ r)))

less_room : (x t y r : List ℕ) (m n : ℕ) → length (x ++ (t ++ (y ++ (m ∷ r)))) ≤ suc n → length r ≤ n
less_room x t y r m n le = omega (arith, le, length-append x (t ++ (y ++ (m ∷ r))), length-append t (y ++ (m ∷ r)), length-append y (m ∷ r))

texts_are : {ts : Texts} {bytes : List ℕ} → AreValues ts bytes → (n : ℕ) → length bytes ≤ n → texts_within n bytes ≡ Some ts
unfolding texts_within
texts_are (is_last x t y z left has right blanks) zero le = absurd (no_room x t y z 41 le)
texts_are (is_last x t y z left has right blanks) (suc n) le =
    ap (texts_by (texts_within n)) (piece_is x t y (41 ∷ z) left has right (follows_bracket y z right)
    ∙ ap (λ b. by_tests t z false b) blanks)
texts_are (goes_on x t y {more = more} left has right others) zero le = absurd (no_room x t y more 44 le)
texts_are (goes_on x t y {ts = ts} {more = more} left has right others) (suc n) le =
    ap (texts_by (texts_within n)) (piece_is x t y (44 ∷ more) left has right (follows_comma y more right))
    ∙ ap (option_map (λ us. t ∷ us)) (texts_are others n (less_room x t y more 44 n le))

-- ---- a line

abbrev Behind : List ℕ → List ℕ → List ℕ × Texts → Type 0
Behind name bs p =
    (p.0 ≡ name) × (((bs ≡ []) × (p.1 ≡ [])) ⊎ ((more : List ℕ) × (bs ≡ 40 ∷ more) × AreValues p.1 more))

behind_was : (name bs : List ℕ) (p : List ℕ × Texts) → form_behind name bs ≡ Some p → Behind name bs p
behind_was name [] p e = subst (λ (q : List ℕ × Texts). Behind name [] q) (same_value (name, []) p e) (refl, inl (refl, refl))
behind_was name (b ∷ bs) p e = elim (cases_Bool (b == 40)) [
  | inl h ↦ elim (found_cases (texts_in bs)) [
    | inl none ↦ absurd (none-some p (sym (λ i. if h i then option_map (λ texts. (name, texts)) (none i) else None) ∙ e))
    | inr found ↦
        let same : (name, found.0) ≡ p = same_value _ p (sym (λ i. if h i then option_map (λ texts. (name, texts)) (found.1 i) else None) ∙ e) in
        subst (λ (q : List ℕ × Texts). Behind name (b ∷ bs) q) same
        (refl, inr (bs, ap (λ c. c ∷ bs) (eqb-true b 40 h), texts_were (length bs) bs found.0 found.1))
  ]
  | inr h ↦ absurd (none-some p (sym (ap (λ t. if t then option_map (λ texts. (name, texts)) (texts_in bs) else None) h) ∙ e))
]

pub form_was : (line name : List ℕ) (texts : Texts) → form_in line ≡ Some (name, texts) → IsForm name texts line
unfolding form_in
form_was line name texts e = elim (found_cases (name_at (past_blanks line))) [
  | inl none ↦ absurd (none-some (name, texts) (sym (ap form_by none) ∙ e))
  | inr found ↦
      let word : List ℕ = found.0.0 in
      let rest : List ℕ = found.0.1 in
      let at = name_was (past_blanks line) found.0 found.1 in
      let x = blanks_were line in
      let y = blanks_were rest in
      let behind = behind_was word (past_blanks rest) (name, texts) (sym (ap form_by found.1) ∙ e) in
      let named : IsName name = subst IsName (sym behind.0) at.name in
      let front : line ≡ x.0 ++ (name ++ (y.0 ++ past_blanks rest)) = x.2 ∙ ap (λ bs. x.0 ++ bs) (at.front ∙ (λ i. sym behind.0 i ++ y.2 i)) in
      elim behind.1 [
        | inl alone ↦
            let ends : y.0 ++ past_blanks rest ≡ y.0 = ap (λ bs. y.0 ++ bs) alone.0 ∙ append-nil y.0 in
            subst (λ ts. IsForm name ts line) (sym alone.1)
            (subst (IsForm name []) (sym (front ∙ ap (λ bs. x.0 ++ (name ++ bs)) ends)) (is_alone x.0 name y.0 x.1 named y.1))
        | inr more ↦
            subst (IsForm name texts) (sym (front ∙ ap (λ bs. x.0 ++ (name ++ (y.0 ++ bs))) more.1)) (has_values x.0 name y.0 x.1 named y.1 more.2)
      ]
]

blanks_end : (y : List ℕ) → AreBlanks y → EndsWord y
blanks_end y right = subst EndsWord (append-nil y) (blanks_end_word y [] right refl)

past_all_blanks : (y : List ℕ) → AreBlanks y → past_blanks y ≡ []
past_all_blanks y right = ap past_blanks (sym (append-nil y)) ∙ blanks_off y [] right

at_name : (x w r : List ℕ) → AreBlanks x → IsName w → EndsWord r → form_in (x ++ (w ++ r)) ≡ form_behind w (past_blanks r)
unfolding form_in
at_name x w r left name ends =
    ap (λ bs. form_by (name_at bs)) (past_to (is_name w name) x r left) ∙ ap form_by (name_exactly w r name ends)

pub form_is : {name : List ℕ} {texts : Texts} {line : List ℕ} → IsForm name texts line → form_in line ≡ Some (name, texts)
form_is (is_alone x w y left name right) = at_name x w y left name (blanks_end y right) ∙ ap (form_behind w) (past_all_blanks y right)
form_is (has_values x w y {ts = ts} {more = more} left name right values) =
    at_name x w (y ++ (40 ∷ more)) left name (blanks_end_word y (40 ∷ more) right refl)
    ∙ ap (form_behind w) (blanks_off y (40 ∷ more) right)
    ∙ ap (option_map (λ us. (w, us))) (texts_are values (length more) (omega arith))

-- ---- a value

module _ (M : Model) (sort : TypeId) where
  pub found_value : (text : List ℕ) (v : Value) (n : ℕ) → IsReadAt M.types M.names sort text 0 v n → Some v ≡ value_read M sort text
  unfolding value_read
  found_value text v n read = sym (ap (option_map (λ found. found.0)) (read_found M.types M.names sort text v n read))

  pub no_value : (text : List ℕ) → ((v : Value) (n : ℕ) → IsReadAt M.types M.names sort text 0 v n → ⊥) → None ≡ value_read M sort text
  unfolding value_read
  no_value text never = elim (found_cases (found_in M.types M.names sort text)) [
    | inl none ↦ sym (ap (option_map (λ found. found.0)) none)
    | inr found ↦ absurd (never found.0.0 found.0.1 (found_reads M.types M.names sort text found.0.0 found.0.1 found.1))
  ]

  whole : (text : List ℕ) → HasForm text → IsLongest text text
  whole text has = subst (λ bs. IsLongest bs text) (append-nil text) (whole_is_longest text [] has (record { word = refl; colon = refl }))

  pub value_was : (text : List ℕ) (v : Value) → HasForm text → value_read M sort text ≡ Some v → Reads M.types M.names sort text v
  unfolding value_read
  value_was text v has e = elim (found_cases (found_in M.types M.names sort text)) [
    | inl none ↦ absurd (none-some v (sym (ap (option_map (λ found. found.0)) none) ∙ e))
    | inr found ↦
        let same : found.0.0 ≡ v = same_value _ v (sym (ap (option_map (λ found. found.0)) found.1) ∙ e) in
        let read = found_reads M.types M.names sort text found.0.0 found.0.1 found.1 in
        subst (Reads M.types M.names sort text) same
        (subst (λ t. Reads M.types M.names sort t found.0.0) (one_longest text read.text text read.longest (whole text has)) read.reads)
  ]

  pub value_is : (text : List ℕ) (v : Value) → HasForm text → Reads M.types M.names sort text v → value_read M sort text ≡ Some v
  unfolding value_read
  value_is text v has reads = ap (option_map (λ found. found.0)) (read_is_found M.types M.names sort text text v (whole text has) reads)
