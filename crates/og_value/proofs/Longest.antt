-- The reader of forms passes the longest text of a value.
use Rattle.std.proofs.Common.{◌≡◌, ℕ, zero, suc, ◌-◌, ◌≤◌, max, Bool, true, List, ◌∷◌, ◌++◌, length, take, drop, Option, Some, None, inl, inr, sym, ap, ◌∙◌, subst, arith, length-append, append_assoc}
use Rattle.std.proofs.lemmas.List.{length-drop}
use Rattle.std.specs.List.{list_all}
use Rattle.std.proofs.lemmas.Option.{none-some}
use Rattle.og_names.proofs.Truths.{same_value}
use Rattle.og_value.proofs.Runs.{take_front}
use Rattle.og_value.specs.Bytes.{is_letter, is_digit, is_word, begins, run, behind, truth_of}
use Rattle.og_value.specs.Forms.{Form, Spells, is_number, is_negative, is_truth, is_name, is_alternative, are_none, are_items, are_parts, nesting, nesting_of_items, nesting_of_parts, IsLongest, HasTextAt, HasNoText}
use Rattle.og_value.specs.Scans.{Found, Reader, rest_or, past_blanks, mark_at, digits_at, part_by, colon_by, past_choice, past_word, form_at, inner_form}
use Rattle.og_value.proofs.Steps.{form_is}
use Rattle.og_value.proofs.Fronts.{digits_front, word_front, behind_le, begins_front, blanks_were}
use Rattle.og_value.proofs.Spelt.{past_to, truth_letter, truth_all, follows_close, items_close, parts_close}
use Rattle.og_value.proofs.Exact.{by_digits, by_minus, by_word, by_alternative, by_none, by_items, by_parts, closed_is, front_of, deeper, at_depth, no_digits_at_minus, exact, items_exact, parts_exact}
use Rattle.og_value.proofs.Sound.{then_was, mark_at_was, found_cases, sound}

-- something is found, and what stands behind it is no longer than this
pub record Reaches (found : Found (Unit {0})) (r : List ℕ) : Type 0 where
  pub rest : List ℕ
  pub is : found ≡ Some (tt, rest)
  pub far : length rest ≤ length r

-- ---- what is found is a front

abbrev Shortens : Reader (Unit {0}) → Type 0
Shortens one = (bytes rest : List ℕ) → one bytes ≡ Some (tt, rest) → length rest ≤ length bytes

behind_text : (t r : List ℕ) → length r ≤ length (t ++ r)
behind_text t r = omega (arith, length-append t r)

form_shortens : (d : ℕ) → Shortens (form_at d)
form_shortens d bytes rest e =
    let found = sound d bytes rest e in
    subst (λ (bs : List ℕ). length rest ≤ length bs) (sym found.front) (behind_text found.text rest)

pub rest_within : (d : ℕ) (bytes rest : List ℕ) → Some (tt, rest) ≡ form_at d bytes → length rest ≤ length bytes
rest_within d bytes rest e = form_shortens d bytes rest (sym e)

abbrev InnerShortens : Option (Reader (Unit {0})) → Type 0
InnerShortens None = Unit {0}
InnerShortens (Some one) = Shortens one

inner_shortens : (d : ℕ) → InnerShortens (inner_form d)
inner_shortens zero = tt
inner_shortens (suc d) = form_shortens d

colon_shortens : (one : Reader (Unit {0})) → Shortens one → (r : List ℕ) (p : Unit {0} × List ℕ) → colon_by one r ≡ Some p → length p.1 ≤ length r
unfolding colon_by
colon_shortens one short r p e =
    let colon = then_was (mark_at 58 r) (λ _ more. one (past_blanks more)) p e in
    let mark = mark_at_was 58 r (colon.here, colon.rest) colon.is in
    let y = blanks_were colon.rest in
    omega (arith, short (past_blanks colon.rest) p.1 colon.on, ap length mark.front, length-append mark.blanks (58 ∷ colon.rest), ap length y.2, length-append y.0 (past_blanks colon.rest))

choice_le : (inner : Option (Reader (Unit {0}))) → InnerShortens inner → (r : List ℕ) → length (past_choice inner r) ≤ length r
choice_le None short r = omega arith
choice_le (Some one) short r = elim (found_cases (colon_by one r)) [
  | inl none ↦ subst (λ (bs : List ℕ). length bs ≤ length r) (sym (ap (λ o. rest_or o r) none)) (omega arith)
  | inr found ↦ subst (λ (bs : List ℕ). length bs ≤ length r) (sym (ap (λ o. rest_or o r) found.1)) (colon_shortens one short r found.0 found.1)
]

past_le : (inner : Option (Reader (Unit {0}))) → InnerShortens inner → (o : Option Bool) (r : List ℕ) → length (past_word inner o r) ≤ length r
past_le inner short (Some b) r = omega arith
past_le inner short None r = choice_le inner short r

-- ---- each form

word_reaches : (d : ℕ) (w r : List ℕ) → begins is_letter w ≡ true → list_all is_word w ≡ true → Reaches (form_at d (w ++ r)) r
word_reaches d w r letter all = record {
  rest = past_word (inner_form d) (truth_of (run is_word (w ++ r))) (behind is_word r);
  is = form_is d (w ++ r) ∙ by_word (inner_form d) (w ++ r) (run is_word (w ++ r)) (behind is_word r) (begins_front is_letter w r letter) (word_front w r letter all);
  far = omega (arith, past_le (inner_form d) (inner_shortens d) (truth_of (run is_word (w ++ r))) (behind is_word r), behind_le is_word r);
}

pub longest : {f : Form} {t : List ℕ} → Spells f t → (d : ℕ) → nesting f ≤ d → (r : List ℕ) → Reaches (form_at d (t ++ r)) r
longest (is_number ds digits) d h r = record {
  rest = behind is_digit r;
  is = form_is d (ds ++ r) ∙ by_digits (inner_form d) (ds ++ r) (run is_digit (ds ++ r)) (behind is_digit r) (digits_front ds r digits);
  far = behind_le is_digit r;
}
longest (is_negative x ds blanks digits) d h r = record {
  rest = behind is_digit r;
  is = form_is d ((45 ∷ (x ++ ds)) ++ r)
      ∙ by_minus (inner_form d) _ (run is_digit (ds ++ r)) (behind is_digit r) (no_digits_at_minus _)
      (ap digits_at (ap past_blanks (append_assoc x ds r) ∙ past_to (is_number ds digits) x r blanks) ∙ digits_front ds r digits);
  far = behind_le is_digit r;
}
longest (is_truth b w e) d h r = word_reaches d w r (truth_letter w b e) (truth_all w b e)
longest (is_name w name) d h r = word_reaches d w r name.letter name.all
longest (is_alternative w x y name bx by s) d h r =
    let inner = deeper d _ h in
    let value = longest s inner.less inner.enough r in
    record {
      rest = value.rest;
      is = at_depth d inner.less _ inner.is ∙ by_alternative (form_at inner.less) w x y r value.rest name bx by s value.is;
      far = value.far;
    }
longest (are_none x bx) d h r =
    let inner = deeper d 0 h in
    record { rest = r; is = at_depth d inner.less _ inner.is ∙ by_none (form_at inner.less) x r bx; far = omega arith }
longest (are_items x y {f = f} {fs = fs} {more = more} bx s by others) d h r =
    let inner = deeper d (max (nesting f) (nesting_of_items fs)) h in
    record {
      rest = r;
      is = at_depth d inner.less _ inner.is
          ∙ by_items inner.less x y more r bx s by (items_close others r)
          (exact s inner.less (omega (arith, inner.enough)) (y ++ (more ++ r)) (follows_close y (more ++ r) by (items_close others r)))
          (closed_is (form_at inner.less) _ r (items_exact others inner.less (omega (arith, inner.enough)) y r by (length (y ++ (more ++ r))) (front_of y more r)));
      far = omega arith;
    }
longest (are_parts x w g y {f = f} {fs = fs} {more = more} bx name bg apart s by others) d h r =
    let inner = deeper d (max (nesting f) (nesting_of_parts fs)) h in
    record {
      rest = r;
      is = at_depth d inner.less _ inner.is
          ∙ by_parts (form_at inner.less) x w g y more r bx name bg apart s
          (exact s inner.less (omega (arith, inner.enough)) (y ++ (more ++ r)) (follows_close y (more ++ r) by (parts_close others r)))
          (closed_is (part_by (form_at inner.less)) _ r (parts_exact others inner.less (omega (arith, inner.enough)) y r by (length (y ++ (more ++ r))) (front_of y more r)));
      far = omega arith;
    }

-- ---- the longest front

same_rest : (found : Found (Unit {0})) (r s : List ℕ) → found ≡ Some (tt, r) → found ≡ Some (tt, s) → r ≡ s
same_rest found r s e f = ap (λ (p : Unit {0} × List ℕ). p.1) (same_value (tt, r) (tt, s) (sym e ∙ f))

-- a front of the bytes that stands before these
pub record Passed (bytes rest : List ℕ) : Type 0 where
  pub text : List ℕ
  pub front : bytes ≡ text ++ rest
  pub longest : IsLongest bytes text

-- what the reader passes is the longest front that has the form of a value
pub passed_is_longest : (bytes rest : List ℕ) → form_at 64 bytes ≡ Some (tt, rest) → Passed bytes rest
passed_is_longest bytes rest e =
    let found = sound 64 bytes rest e in
    record {
      text = found.text;
      front = found.front;
      longest = record {
        rest = rest;
        front = found.front;
        form = record { form = found.form; spelt = found.spelt; nested = found.nested };
        longest = λ other others split has.
            let reached = longest has.spelt 64 has.nested others in
            let same = same_rest (form_at 64 (other ++ others)) rest reached.rest (ap (form_at 64) (sym split) ∙ e) reached.is in
            omega (arith, reached.far, ap length same, ap length split, ap length found.front, length-append other others, length-append found.text rest);
      };
    }

-- where it passes none there is none
pub none_passed : (bytes text : List ℕ) → form_at 64 bytes ≡ None → IsLongest bytes text → ⊥
none_passed bytes text none is =
    let reached = longest is.form.spelt 64 is.form.nested is.rest in
    none-some (tt, reached.rest) (sym none ∙ ap (form_at 64) is.front ∙ reached.is)

-- fronts of one length are one
pub same_front : (xs ys r s : List ℕ) → xs ++ r ≡ ys ++ s → length xs ≡ length ys → xs ≡ ys
same_front xs ys r s e n = sym (take_front xs r) ∙ ap (take (length xs)) e ∙ ap (λ k. take k (ys ++ s)) n ∙ take_front ys s

-- there is one longest front
pub one_longest : (bytes a b : List ℕ) → IsLongest bytes a → IsLongest bytes b → a ≡ b
one_longest bytes a b x y =
    let below = x.longest b y.rest y.front y.form in
    let above = y.longest a x.rest x.front x.form in
    same_front a b x.rest y.rest (sym x.front ∙ y.front) (omega arith)

-- ---- what the call answers

pub text_at : (text bytes rest : List ℕ) (at : ℕ) → at ≤ length text → bytes ≡ drop at text → Some (tt, rest) ≡ form_at 64 bytes → HasTextAt text at (length text - length rest)
text_at text bytes rest at le b e =
    let passed = passed_is_longest (drop at text) rest (ap (form_at 64) (sym b) ∙ sym e) in
    record {
      text = passed.text;
      longest = passed.longest;
      ends = omega (arith, le, length-drop at text, ap length passed.front, length-append passed.text rest);
    }

pub no_text_at : (text bytes : List ℕ) (at : ℕ) → bytes ≡ drop at text → None ≡ form_at 64 bytes → HasNoText text at
no_text_at text bytes at b none front rest split has =
    let reached = longest has.spelt 64 has.nested rest in
    none-some (tt, reached.rest) (none ∙ ap (form_at 64) (b ∙ split) ∙ reached.is)
