-- What is found in front of bytes is what the longest text there reads as.
use Rattle.std.proofs.Common.{◌≡◌, ℕ, ◌+◌, ◌-◌, List, [], ◌++◌, length, drop, slice_get, Option, Some, None, Err, inl, inr, refl, sym, ap, ◌∙◌, subst}
use Rattle.std.proofs.lemmas.List.{append-nil}
use Rattle.std.proofs.lemmas.Option.{none-some}
use Rattle.og_names.proofs.Truths.{same_value}
use Rattle.og_types.specs.declared.TypeId.{TypeId}
use Rattle.og_types.specs.declared.Sort.{Sort}
use Rattle.og_types.specs.declared.Value.{Value}
use Rattle.std.specs.Result.{IsErrOf}
use Rattle.og_value.specs.declared.ValueError.{ValueError}
use Rattle.og_value.specs.declared.ValueError.TheVariants.{Bad}
use Rattle.og_value.specs.declared.read.ReadValue.{ReadValue}
use Rattle.og_value.specs.Answers.{Gives}
use Rattle.og_value.specs.Forms.{IsLongest}
use Rattle.og_value.specs.Reads.{Names, value_of, Reads, IsReadAt}
use Rattle.og_value.specs.Scans.{kept, before, sized, form_at, value_at, found_before, found_in}
use Rattle.og_value.proofs.Runs.{before_is, front_len}
use Rattle.og_value.proofs.Spelt.{follows_end}
use Rattle.og_value.proofs.Sound.{found_cases}
use Rattle.og_value.proofs.Means.{text_means}
use Rattle.og_value.proofs.Longest.{passed_is_longest, none_passed, one_longest}

module _ (types : List Sort) (names : Names) (id : TypeId) where
  not_found : (bytes : List ℕ) → form_at 64 bytes ≡ None → found_in types names id bytes ≡ None
  unfolding found_in
  not_found bytes none = ap (found_before types names id bytes) none

  -- a text that has the form of a value, with nothing behind it
  whole : (text : List ℕ) (v : Value) → Reads types names id text v → value_at 64 types names id text ≡ Some (v, [])
  whole text v reads =
      ap (value_at 64 types names id) (sym (append-nil text)) ∙ text_means types names reads.spelt 64 reads.nested [] follows_end id
      ∙ ap (λ o. kept o []) reads.means

  -- a text reads as one value
  pub one_value : (text : List ℕ) (v w : Value) → Reads types names id text v → Reads types names id text w → v ≡ w
  one_value text v w a b = ap (λ (p : Value × List ℕ). p.0) (same_value (v, []) (w, []) (sym (whole text v a) ∙ whole text w b))

  -- what is found behind a front that is passed
  found_text : (bytes text rest : List ℕ) → bytes ≡ text ++ rest → form_at 64 bytes ≡ Some (tt, rest) → found_in types names id bytes ≡ sized (length text) (value_at 64 types names id text)
  unfolding found_in
  found_text bytes text rest split e =
      ap (found_before types names id bytes) e
      ∙ ap (λ (xs : List ℕ). sized (length xs - length rest) (value_at 64 types names id (before xs rest))) split
      ∙ ap (λ n. sized n (value_at 64 types names id (before (text ++ rest) rest))) (front_len text rest)
      ∙ ap (λ xs. sized (length text) (value_at 64 types names id xs)) (before_is text rest)

  -- what the longest text in front reads as is found
  pub read_is_found : (bytes text : List ℕ) (v : Value) → IsLongest bytes text → Reads types names id text v → found_in types names id bytes ≡ Some (v, length text)
  read_is_found bytes text v longest reads = elim (found_cases (form_at 64 bytes)) [
    | inl none ↦ absurd (none_passed bytes text none longest)
    | inr found ↦
        let passed = passed_is_longest bytes found.0.1 found.1 in
        let same = one_longest bytes passed.text text passed.longest longest in
        found_text bytes passed.text found.0.1 passed.front found.1
        ∙ ap (λ (xs : List ℕ). sized (length xs) (value_at 64 types names id xs)) same ∙ ap (sized (length text)) (whole text v reads)
  ]

  -- what is found is what the longest text in front reads as
  pub record IsFound (bytes : List ℕ) (v : Value) (n : ℕ) : Type 0 where
    pub text : List ℕ
    pub longest : IsLongest bytes text
    pub reads : Reads types names id text v
    pub len : n ≡ length text

  by_meaning : (bytes text : List ℕ) (v : Value) (n : ℕ) (o : Option Value) → IsLongest bytes text → ((w : Value) → o ≡ Some w → Reads types names id text w)
      → sized (length text) (kept o []) ≡ Some (v, n) → IsFound bytes v n
  by_meaning bytes text v n None longest reads e = absurd (none-some (v, n) e)
  by_meaning bytes text v n (Some w) longest reads e =
      let same : (w, length text) ≡ (v, n) = same_value (w, length text) (v, n) e in
      let value : w ≡ v = ap (λ (p : Value × ℕ). p.0) same in
      record { text = text; longest = longest; reads = subst (Reads types names id text) value (reads w refl); len = sym (ap (λ (p : Value × ℕ). p.1) same) }

  pub found_is_read : (bytes : List ℕ) (v : Value) (n : ℕ) → found_in types names id bytes ≡ Some (v, n) → IsFound bytes v n
  found_is_read bytes v n e = elim (found_cases (form_at 64 bytes)) [
    | inl none ↦ absurd (none-some (v, n) (sym (not_found bytes none) ∙ e))
    | inr found ↦
        let passed = passed_is_longest bytes found.0.1 found.1 in
        let form = passed.longest.form in
        by_meaning bytes passed.text v n (value_of types names (slice_get types id.0) form.form) passed.longest
        (λ w means. record { form = form.form; spelt = form.spelt; nested = form.nested; means = means })
        (sym (ap (sized (length passed.text)) (ap (value_at 64 types names id) (sym (append-nil passed.text)) ∙ text_means types names form.spelt 64 form.nested [] follows_end id))
        ∙ sym (found_text bytes passed.text found.0.1 passed.front found.1) ∙ e)
  ]

-- ---- what the call answers

pub told_value : (types now : List Sort) (names : Names) (id : TypeId) (text bytes : List ℕ) (at n : ℕ) (v : Value) → types ≡ now → bytes ≡ drop at text
    → found_in types names id bytes ≡ Some (v, n) → IsReadAt now names id text at v (at + n)
told_value types now names id text bytes at n v t b e =
    let found = found_is_read now names id (drop at text) v n ((λ i. found_in (sym t i) names id (sym b i)) ∙ e) in
    record { text = found.text; longest = found.longest; reads = found.reads; ends = ap (λ k. at + k) found.len }

pub told_bad : (types now : List Sort) (names : Names) (id : TypeId) (text bytes : List ℕ) (at : ℕ) (error : ValueError) → types ≡ now → bytes ≡ drop at text
    → Gives {X = Value × ℕ} (λ x. x) (Err error) (found_in types names id bytes) → IsErrOf {T = ReadValue} (Err error) Bad → (v : Value) (next : ℕ) → IsReadAt now names id text at v next → ⊥
told_bad types now names id text bytes at error t b gives is v next read =
    let same : error ≡ Bad = cc in
    let none : found_in types names id bytes ≡ None = subst (λ (e : ValueError). Gives {X = Value × ℕ} (λ x. x) (Err e) (found_in types names id bytes)) same gives in
    none-some (v, length read.text)
    (sym none ∙ (λ i. found_in (t i) names id (b i)) ∙ read_is_found now names id (drop at text) read.text v read.longest read.reads)
