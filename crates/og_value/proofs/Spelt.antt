-- How texts of values begin, and what may stand behind them.
use Rattle.std.proofs.Common.{◌≡◌, ◌⊎◌, ℕ, Bool, true, false, cond, ◌||◌, ◌==◌, List, [], ◌∷◌, ◌++◌, bytes_eq, Some, None, inl, inr, refl, sym, ap, ◌∙◌, subst}
use Rattle.std.specs.Prelude.{codes}
use Rattle.std.specs.List.{list_all}
use Rattle.std.proofs.lemmas.Bool.{false≢true, eqb-true, cases_Bool}
use Rattle.std.proofs.lemmas.Option.{none-some}
use Rattle.std.proofs.lemmas.Slice.Eq.{bytes_eq-Decides}
use Rattle.og_value.specs.Bytes.{is_blank, is_letter, is_digit, is_word, begins, truth_of}
use Rattle.og_value.specs.Forms.{Form, Forms, Fields, AreBlanks, Spells, is_number, is_negative, is_truth, is_name, is_alternative, are_none, are_items, are_parts, ItemsGoOn, no_more_items, further_item, PartsGoOn, no_more_parts, further_part}
use Rattle.og_value.specs.Scans.{past_blanks, mark_here, mark_at}
use Rattle.og_value.proofs.Fronts.{EndsWord, never, blank_is, begins_front, blanks_off, blanks_stop, blanks_end_word, no_mark}
use Rattle.og_names.proofs.Truths.{either_first, either_second, either_true}

-- a byte that a text of a value may begin with
abbrev pub starts : ℕ → Bool
starts b = is_digit b || (is_letter b || (b == 45 || b == 123))

pub starts_unblank : (b : ℕ) → starts b ≡ true → is_blank b ≡ false
starts_unblank b h = never (is_blank b) (λ blank. false≢true (sym (blank_is (λ c. starts c ≡ false) refl refl b blank) ∙ h))

begins_more : (p q : ℕ → Bool) → ((b : ℕ) → p b ≡ true → q b ≡ true) → (bs : List ℕ) → begins p bs ≡ true → begins q bs ≡ true
begins_more p q sub [] h = h
begins_more p q sub (b ∷ bs) h = sub b h

-- TRUE or FALSE
pub truth_word : (w : List ℕ) (b : Bool) → truth_of w ≡ Some b → (w ≡ codes "TRUE") ⊎ (w ≡ codes "FALSE")
truth_word w b h = elim (cases_Bool (bytes_eq w (codes "TRUE"))) [
  | inl same ↦ inl ((bytes_eq-Decides w (codes "TRUE")).0 same)
  | inr differ ↦ elim (cases_Bool (bytes_eq w (codes "FALSE"))) [
    | inl same ↦ inr ((bytes_eq-Decides w (codes "FALSE")).0 same)
    | inr other ↦ absurd (none-some b (sym (λ i. cond (differ i) (Some true) (cond (other i) (Some false) None)) ∙ h))
  ]
]

pub truth_letter : (w : List ℕ) (b : Bool) → truth_of w ≡ Some b → begins is_letter w ≡ true
truth_letter w b h = elim (truth_word w b h) [ inl e ↦ ap (begins is_letter) e | inr e ↦ ap (begins is_letter) e ]

pub truth_all : (w : List ℕ) (b : Bool) → truth_of w ≡ Some b → list_all is_word w ≡ true
truth_all w b h = elim (truth_word w b h) [ inl e ↦ ap (list_all is_word) e | inr e ↦ ap (list_all is_word) e ]

digit_starts : (bs : List ℕ) → begins is_digit bs ≡ true → begins starts bs ≡ true
digit_starts bs h = begins_more is_digit starts (λ b d. either_first _ _ d) bs h

letter_starts : (bs : List ℕ) → begins is_letter bs ≡ true → begins starts bs ≡ true
letter_starts bs h = begins_more is_letter starts (λ b l. either_second (is_digit b) _ (either_first _ _ l)) bs h

pub spelt_starts : {f : Form} {t : List ℕ} → Spells f t → begins starts t ≡ true
spelt_starts (is_number ds digits) = digit_starts ds digits.some
spelt_starts (is_negative x ds blanks digits) = refl
spelt_starts (is_truth b w h) = letter_starts w (truth_letter w b h)
spelt_starts (is_name w name) = letter_starts w name.letter
spelt_starts (is_alternative w x y name bx by s) = begins_front starts w _ (letter_starts w name.letter)
spelt_starts (are_none x bx) = refl
spelt_starts (are_items x y bx s by more) = refl
spelt_starts (are_parts x w g y bx name bg apart s by more) = refl

-- a text of a value stands where it stands, blanks or not
pub spelt_here : {f : Form} {t : List ℕ} → Spells f t → (r : List ℕ) → past_blanks (t ++ r) ≡ t ++ r
spelt_here {t = t} s r = blanks_stop starts (t ++ r) starts_unblank (begins_front starts t r (spelt_starts s))

pub past_to : {f : Form} {t : List ℕ} → Spells f t → (x r : List ℕ) → AreBlanks x → past_blanks (x ++ (t ++ r)) ≡ t ++ r
past_to {t = t} s x r blanks = blanks_off x (t ++ r) blanks ∙ spelt_here s r

pub spelt_no_mark : {f : Form} {t : List ℕ} → Spells f t → (m : ℕ) (r : List ℕ) → starts m ≡ false → mark_here m (t ++ r) ≡ None
spelt_no_mark {t = t} s m r fails = no_mark starts m (t ++ r) fails (begins_front starts t r (spelt_starts s))

-- ---- what may stand behind a text

pub record Follows (r : List ℕ) : Type 0 where
  pub word : EndsWord r
  pub colon : mark_at 58 r ≡ None

-- a byte that ends a value in braces
abbrev pub closes : ℕ → Bool
closes b = b == 44 || b == 125

pub closing : (P : ℕ → Type 0) → P 44 → P 125 → (b : ℕ) → closes b ≡ true → P b
closing P comma brace b h = elim (either_true _ _ h) [
  | inl e ↦ subst P (sym (eqb-true b 44 e)) comma
  | inr e ↦ subst P (sym (eqb-true b 125 e)) brace
]

pub follows_close : (y r : List ℕ) → AreBlanks y → begins closes r ≡ true → Follows (y ++ r)
follows_close y [] blanks h = absurd (false≢true h)
follows_close y (b ∷ r) blanks h = record {
  word = blanks_end_word y (b ∷ r) blanks (closing (λ c. is_word c ≡ false) refl refl b h);
  colon = ap (mark_here 58) (blanks_off y (b ∷ r) blanks) ∙ closing (λ c. mark_here 58 (past_blanks (c ∷ r)) ≡ None) refl refl b h;
}

pub closes_behind : (y r : List ℕ) → AreBlanks y → begins closes r ≡ true → begins closes (past_blanks (y ++ r)) ≡ true
closes_behind y [] blanks h = absurd (false≢true h)
closes_behind y (b ∷ r) blanks h =
    ap (begins closes) (blanks_off y (b ∷ r) blanks) ∙ closing (λ c. begins closes (past_blanks (c ∷ r)) ≡ true) refl refl b h

pub items_close : {fs : Forms} {more : List ℕ} → ItemsGoOn fs more → (r : List ℕ) → begins closes (more ++ r) ≡ true
items_close no_more_items r = refl
items_close (further_item x y bx s by more) r = refl

pub parts_close : {fs : Fields} {more : List ℕ} → PartsGoOn fs more → (r : List ℕ) → begins closes (more ++ r) ≡ true
parts_close no_more_parts r = refl
parts_close (further_part x w g y bx name bg apart s by more) r = refl

-- nothing stands behind a whole text
pub follows_end : Follows []
follows_end = record { word = refl; colon = refl }
