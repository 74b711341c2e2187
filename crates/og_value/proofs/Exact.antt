-- A text of a value is read to its end, where nothing behind it goes on with it.
use Rattle.std.proofs.Common.{◌≡◌, ℕ, zero, suc, ◌≤◌, max, Bool, true, false, cond, not, ◌||◌, ◌==◌, List, [], ◌∷◌, ◌++◌, length, Option, Some, None, inl, inr, refl, sym, ap, ◌∙◌, subst, arith, length-append, append_assoc}
use Rattle.std.specs.Option.{is_none}
use Rattle.std.proofs.lemmas.Bool.{false≢true, eqb-true}
use Rattle.og_names.proofs.Truths.{both_first, either_first, either_true, not_true}
use Rattle.og_value.specs.Bytes.{is_letter, is_digit, is_word, begins, truth_of}
use Rattle.og_value.specs.Forms.{Form, Forms, Fields, IsDigits, IsName, AreBlanks, AreApart, Spells, is_number, is_negative, is_truth, is_name, is_alternative, are_none, are_items, are_parts, ItemsGoOn, no_more_items, further_item, PartsGoOn, no_more_parts, further_part, nesting, nesting_of_items, nesting_of_parts}
use Rattle.og_value.specs.Scans.{Reader, and_then, found_or, rest_or, unless_truth, past_blanks, mark_here, mark_at, digits_at, minus_digits_at, word_at, name_at, comma_by, past_by, past_all, part_by, closed_by, braces_by, open_by, colon_by, past_choice, past_word, form_by, form_at, inner_form}
use Rattle.og_value.proofs.Steps.{form_is}
use Rattle.og_value.proofs.Fronts.{EndsWord, digits_exactly, ends_digits, word_exactly, name_exactly, no_digits, no_word, no_minus, blanks_off, blanks_end_word, blanks_words, begins_front}
use Rattle.og_value.proofs.Spelt.{starts, closes, closing, spelt_starts, past_to, spelt_no_mark, truth_letter, truth_all, Follows, follows_close, closes_behind, items_close, parts_close}

-- ---- one level

-- what begins with digits
pub by_digits : (inner : Option (Reader (Unit {0}))) (bytes ds r : List ℕ) → digits_at bytes ≡ Some (ds, r) → form_by inner bytes ≡ Some (tt, r)
unfolding form_by
by_digits inner bytes ds r e =
    ap (λ found. found_or found (found_or (minus_digits_at bytes) (found_or (word_at bytes) (open_by inner bytes) (λ w rest. Some (tt, past_word inner (truth_of w) rest))) (λ _ rest. Some (tt, rest))) (λ _ rest. Some (tt, rest))) e

-- what begins with a sign
pub by_minus : (inner : Option (Reader (Unit {0}))) (bytes ds r : List ℕ) → digits_at bytes ≡ None → minus_digits_at bytes ≡ Some (ds, r) → form_by inner bytes ≡ Some (tt, r)
unfolding form_by
by_minus inner bytes ds r none e = rw (none, e) refl

-- what begins with a word
pub by_word : (inner : Option (Reader (Unit {0}))) (bytes w r : List ℕ) → begins is_letter bytes ≡ true → word_at bytes ≡ Some (w, r)
    → form_by inner bytes ≡ Some (tt, past_word inner (truth_of w) r)
unfolding form_by
by_word inner bytes w r letter e = rw (no_digits bytes letter, no_minus bytes letter, e) refl

-- what begins with a brace
by_brace : (one : Reader (Unit {0})) (more : List ℕ) → form_by (Some one) (123 ∷ more) ≡ braces_by one (past_blanks more)
unfolding form_by digits_at word_at
by_brace one more = refl

-- ---- nothing begins so

abbrev pub stops : ℕ → Bool
stops b = closes b || b == 58

pub stopping : (P : ℕ → Type 0) → P 44 → P 125 → P 58 → (b : ℕ) → stops b ≡ true → P b
stopping P comma brace colon b h = elim (either_true (closes b) (b == 58) h) [
  | inl close ↦ closing P comma brace b close
  | inr e ↦ subst P (sym (eqb-true b 58 e)) colon
]

none_at_comma : (inner : Option (Reader (Unit {0}))) (bs : List ℕ) → form_by inner (44 ∷ bs) ≡ None
unfolding form_by digits_at word_at
none_at_comma None bs = refl
none_at_comma (Some one) bs = refl

none_at_brace : (inner : Option (Reader (Unit {0}))) (bs : List ℕ) → form_by inner (125 ∷ bs) ≡ None
unfolding form_by digits_at word_at
none_at_brace None bs = refl
none_at_brace (Some one) bs = refl

none_at_colon : (inner : Option (Reader (Unit {0}))) (bs : List ℕ) → form_by inner (58 ∷ bs) ≡ None
unfolding form_by digits_at word_at
none_at_colon None bs = refl
none_at_colon (Some one) bs = refl

pub no_form : (d b : ℕ) (bs : List ℕ) → stops b ≡ true → form_at d (b ∷ bs) ≡ None
no_form d b bs h =
    form_is d (b ∷ bs)
    ∙ stopping (λ c. form_by (inner_form d) (c ∷ bs) ≡ None) (none_at_comma (inner_form d) bs) (none_at_brace (inner_form d) bs) (none_at_colon (inner_form d) bs) b h

no_form_behind : (d : ℕ) (bs : List ℕ) → begins stops bs ≡ true → form_at d bs ≡ None
no_form_behind d [] h = absurd (false≢true h)
no_form_behind d (b ∷ bs) h = no_form d b bs h

-- ---- words

colon_none : (one : Reader (Unit {0})) (r : List ℕ) → mark_at 58 r ≡ None → colon_by one r ≡ None
unfolding colon_by
colon_none one r none = ap (λ found. and_then found (λ _ more. one (past_blanks more))) none

past_name : (inner : Option (Reader (Unit {0}))) (r : List ℕ) → mark_at 58 r ≡ None → past_choice inner r ≡ r
past_name None r none = refl
past_name (Some one) r none = ap (λ found. rest_or found r) (colon_none one r none)

-- a colon and a value behind a name
colon_found : (one : Reader (Unit {0})) (x y : List ℕ) {f : Form} {t : List ℕ} (r rest : List ℕ) → AreBlanks x → AreBlanks y → Spells f t
    → one (t ++ r) ≡ Some (tt, rest) → colon_by one (x ++ (58 ∷ (y ++ (t ++ r)))) ≡ Some (tt, rest)
unfolding colon_by
colon_found one x y {t = t} r rest bx by s e =
    ap (λ found. and_then found (λ _ more. one (past_blanks more))) (ap (mark_here 58) (blanks_off x (58 ∷ (y ++ (t ++ r))) bx))
    ∙ ap one (past_to s y r by) ∙ e

-- what stands behind a name and blanks before a mark ends the name
pub ends_before : (x : List ℕ) (m : ℕ) (bs : List ℕ) → AreBlanks x → is_word m ≡ false → EndsWord (x ++ (m ∷ bs))
ends_before x m bs bx h = blanks_end_word x (m ∷ bs) bx h

pub group4 : (w x : List ℕ) (m : ℕ) (y t r : List ℕ) → (w ++ (x ++ (m ∷ (y ++ t)))) ++ r ≡ w ++ (x ++ (m ∷ (y ++ (t ++ r))))
group4 w x m y t r = simp append_assoc

-- an alternative, where its value is read up to some rest
pub by_alternative : (one : Reader (Unit {0})) (w x y : List ℕ) {f : Form} {t : List ℕ} (r rest : List ℕ) → IsName w → AreBlanks x → AreBlanks y → Spells f t
    → one (t ++ r) ≡ Some (tt, rest) → form_by (Some one) ((w ++ (x ++ (58 ∷ (y ++ t)))) ++ r) ≡ Some (tt, rest)
by_alternative one w x y {t = t} r rest name bx by s e =
    ap (form_by (Some one)) (group4 w x 58 y t r)
    ∙ by_word (Some one) _ w (x ++ (58 ∷ (y ++ (t ++ r)))) (begins_front is_letter w _ name.letter)
    (word_exactly w (x ++ (58 ∷ (y ++ (t ++ r)))) name.letter name.all (ends_before x 58 (y ++ (t ++ r)) bx refl))
    ∙ ap (λ b. Some (tt, past_word (Some one) b (x ++ (58 ∷ (y ++ (t ++ r)))))) name.no_truth
    ∙ ap (λ found. Some (tt, rest_or found (x ++ (58 ∷ (y ++ (t ++ r)))))) (colon_found one x y r rest bx by s e)

-- ---- braces

-- the end of braces behind blanks
mark_behind : (m : ℕ) (y bs : List ℕ) → AreBlanks y → past_blanks (m ∷ bs) ≡ m ∷ bs → mark_here m (m ∷ bs) ≡ Some (tt, bs) → mark_at m (y ++ (m ∷ bs)) ≡ Some (tt, bs)
mark_behind m y bs by here found = ap (mark_here m) (blanks_off y (m ∷ bs) by ∙ here) ∙ found

pub brace_behind : (y bs : List ℕ) → AreBlanks y → mark_at 125 (y ++ (125 ∷ bs)) ≡ Some (tt, bs)
brace_behind y bs by = mark_behind 125 y bs by refl refl

pub comma_behind : (y bs : List ℕ) → AreBlanks y → mark_at 44 (y ++ (44 ∷ bs)) ≡ Some (tt, bs)
comma_behind y bs by = mark_behind 44 y bs by refl refl

pub no_comma : (y bs : List ℕ) → AreBlanks y → mark_at 44 (y ++ (125 ∷ bs)) ≡ None
no_comma y bs by = ap (mark_here 44) (blanks_off y (125 ∷ bs) by)

pub comma_none : {A : Type 0} (one : Reader A) (bytes : List ℕ) → mark_at 44 bytes ≡ None → comma_by one bytes ≡ None
unfolding comma_by
comma_none one bytes none = ap (λ found. and_then found (λ _ more. one (past_blanks more))) none

pub comma_found : {A : Type 0} (one : Reader A) (bytes more : List ℕ) → mark_at 44 bytes ≡ Some (tt, more) → comma_by one bytes ≡ one (past_blanks more)
unfolding comma_by
comma_found one bytes more found = ap (λ p. and_then p (λ _ more. one (past_blanks more))) found

past_none : (one : Reader (Unit {0})) (n : ℕ) (bytes : List ℕ) → one bytes ≡ None → past_all one n bytes ≡ bytes
unfolding past_all
past_none one zero bytes none = refl
past_none one (suc n) bytes none = ap (past_by (past_all one n) bytes) none

past_one : (one : Reader (Unit {0})) (n : ℕ) (bytes rest : List ℕ) → one bytes ≡ Some (tt, rest) → past_all one (suc n) bytes ≡ past_all one n rest
unfolding past_all
past_one one n bytes rest found = ap (past_by (past_all one n) bytes) found

-- no name stands where no letter does
pub no_name : (bytes : List ℕ) → word_at bytes ≡ None → name_at bytes ≡ None
unfolding name_at
no_name bytes none = ap (λ found. and_then found unless_truth) none

pub truth_no_name : (w q : List ℕ) (b : Bool) → truth_of w ≡ Some b → EndsWord q → name_at (w ++ q) ≡ None
unfolding name_at
truth_no_name w q b h ends =
    ap (λ found. and_then found unless_truth) (word_exactly w q (truth_letter w b h) (truth_all w b h) ends)
    ∙ ap (λ o. cond (is_none o) (Some (w, q)) None) h

part_none : (one : Reader (Unit {0})) (bytes : List ℕ) → name_at bytes ≡ None → part_by one bytes ≡ None
unfolding part_by
part_none one bytes none = ap (λ found. and_then found (λ w rest. one (past_blanks rest))) none

part_named : (one : Reader (Unit {0})) (bytes w rest : List ℕ) → name_at bytes ≡ Some (w, rest) → part_by one bytes ≡ one (past_blanks rest)
unfolding part_by
part_named one bytes w rest found = ap (λ p. and_then p (λ w rest. one (past_blanks rest))) found

pub close_stops : (bs : List ℕ) → begins closes bs ≡ true → begins stops bs ≡ true
close_stops [] h = h
close_stops (b ∷ bs) h = either_first (closes b) (b == 58) h

pub no_word_at_brace : (bs : List ℕ) → word_at (123 ∷ bs) ≡ None
unfolding word_at
no_word_at_brace bs = refl

pub no_digits_at_minus : (bs : List ℕ) → digits_at (45 ∷ bs) ≡ None
unfolding digits_at
no_digits_at_minus bs = refl

pub no_word_at_minus : (bs : List ℕ) → word_at (45 ∷ bs) ≡ None
unfolding word_at
no_word_at_minus bs = refl

-- no component begins where a value stands that a comma or the end of braces follows
pub no_part : (d : ℕ) {f : Form} {t : List ℕ} → Spells f t → (q : List ℕ) → EndsWord q → begins closes (past_blanks q) ≡ true → part_by (form_at d) (t ++ q) ≡ None
no_part d (is_number ds digits) q ends close =
    part_none (form_at d) (ds ++ q) (no_name (ds ++ q) (no_word (ds ++ q) (begins_front is_digit ds q digits.some)))
no_part d (is_negative x ds blanks digits) q ends close = part_none (form_at d) _ (no_name _ (no_word_at_minus _))
no_part d (is_truth b w h) q ends close = part_none (form_at d) (w ++ q) (truth_no_name w q b h ends)
no_part d (is_name w name) q ends close =
    part_named (form_at d) (w ++ q) w q (name_exactly w q name ends) ∙ no_form_behind d (past_blanks q) (close_stops (past_blanks q) close)
no_part d (is_alternative w x y {t = t} name bx by s) q ends close =
    ap (part_by (form_at d)) (group4 w x 58 y t q)
    ∙ part_named (form_at d) _ w _ (name_exactly w (x ++ (58 ∷ (y ++ (t ++ q)))) name (ends_before x 58 (y ++ (t ++ q)) bx refl))
    ∙ ap (form_at d) (blanks_off x (58 ∷ (y ++ (t ++ q))) bx) ∙ no_form d 58 (y ++ (t ++ q)) refl
no_part d (are_none x bx) q ends close = part_none (form_at d) _ (no_name _ (no_word_at_brace _))
no_part d (are_items x y bx s by more) q ends close = part_none (form_at d) _ (no_name _ (no_word_at_brace _))
no_part d (are_parts x w g y bx name bg apart s by more) q ends close = part_none (form_at d) _ (no_name _ (no_word_at_brace _))

-- what stands behind a component's name ends the name
starts_apart : (t q : List ℕ) → begins starts t ≡ true → not (begins is_word t) ≡ true → EndsWord (t ++ q)
starts_apart [] q some h = absurd (false≢true some)
starts_apart (b ∷ t) q some h = not_true (is_word b) h

pub ends_apart : (g t q : List ℕ) → AreBlanks g → AreApart g t → begins starts t ≡ true → EndsWord (g ++ (t ++ q))
ends_apart [] t q bg apart some = starts_apart t q some apart
ends_apart (b ∷ g) t q bg apart some = blanks_words b (both_first _ _ bg)

-- a component, where its value is read up to some rest
pub part_found : (one : Reader (Unit {0})) (w g : List ℕ) {f : Form} {t : List ℕ} (q rest : List ℕ) → IsName w → AreBlanks g → AreApart g t → Spells f t
    → one (t ++ q) ≡ Some (tt, rest) → part_by one (w ++ (g ++ (t ++ q))) ≡ Some (tt, rest)
part_found one w g {t = t} q rest name bg apart s e =
    part_named one _ w (g ++ (t ++ q)) (name_exactly w (g ++ (t ++ q)) name (ends_apart g t q bg apart (spelt_starts s)))
    ∙ ap one (past_to s g q bg) ∙ e

braces_none : (one : Reader (Unit {0})) (bytes : List ℕ) → braces_by one (125 ∷ bytes) ≡ Some (tt, bytes)
unfolding braces_by
braces_none one bytes = refl

braces_items : (one : Reader (Unit {0})) (bytes rest end : List ℕ) → mark_here 125 bytes ≡ None → part_by one bytes ≡ None → one bytes ≡ Some (tt, rest)
    → closed_by one rest ≡ Some (tt, end) → braces_by one bytes ≡ Some (tt, end)
unfolding braces_by
braces_items one bytes rest end none no_name found closed = rw (none, no_name, found) closed

braces_parts : (one : Reader (Unit {0})) (bytes rest end : List ℕ) → mark_here 125 bytes ≡ None → part_by one bytes ≡ Some (tt, rest)
    → closed_by (part_by one) rest ≡ Some (tt, end) → braces_by one bytes ≡ Some (tt, end)
unfolding braces_by
braces_parts one bytes rest end none found closed = rw (none, found) closed

-- ---- leaves

negative_exact : (inner : Option (Reader (Unit {0}))) (x ds r : List ℕ) → AreBlanks x → IsDigits ds → Follows r → form_by inner ((45 ∷ (x ++ ds)) ++ r) ≡ Some (tt, r)
negative_exact inner x ds r blanks digits follows =
    by_minus inner _ ds r (no_digits_at_minus _)
    (ap digits_at (ap past_blanks (append_assoc x ds r) ∙ past_to (is_number ds digits) x r blanks) ∙ digits_exactly ds r digits (ends_digits r follows.word))

truth_exact : (inner : Option (Reader (Unit {0}))) (w r : List ℕ) (b : Bool) → truth_of w ≡ Some b → Follows r → form_by inner (w ++ r) ≡ Some (tt, r)
truth_exact inner w r b e follows =
    by_word inner (w ++ r) w r (begins_front is_letter w r (truth_letter w b e)) (word_exactly w r (truth_letter w b e) (truth_all w b e) follows.word)
    ∙ ap (λ o. Some (tt, past_word inner o r)) e

name_exact : (inner : Option (Reader (Unit {0}))) (w r : List ℕ) → IsName w → Follows r → form_by inner (w ++ r) ≡ Some (tt, r)
name_exact inner w r name follows =
    by_word inner (w ++ r) w r (begins_front is_letter w r name.letter) (word_exactly w r name.letter name.all follows.word)
    ∙ ap (λ o. Some (tt, past_word inner o r)) name.no_truth ∙ ap (λ rest. Some (tt, rest)) (past_name inner r follows.colon)

-- ---- whole texts

pub group_none : (x r : List ℕ) → (x ++ (125 ∷ [])) ++ r ≡ x ++ (125 ∷ r)
group_none x r = simp append_assoc

pub group_items : (x t y more r : List ℕ) → (x ++ (t ++ (y ++ more))) ++ r ≡ x ++ (t ++ (y ++ (more ++ r)))
group_items x t y more r = simp append_assoc

pub group_parts : (x w g t y more r : List ℕ) → (x ++ (w ++ (g ++ (t ++ (y ++ more))))) ++ r ≡ x ++ (w ++ (g ++ (t ++ (y ++ (more ++ r)))))
group_parts x w g t y more r = simp append_assoc

-- one level less
pub record Deeper (d n : ℕ) : Type 0 where
  pub less : ℕ
  pub is : d ≡ suc less
  pub enough : n ≤ less

pub deeper : (d n : ℕ) → suc n ≤ d → Deeper d n
deeper zero n h = absurd (omega (arith, h))
deeper (suc d) n h = record { less = d; is = refl; enough = omega (arith, h) }

pub at_depth : (d less : ℕ) (bytes : List ℕ) → d ≡ suc less → form_at d bytes ≡ form_by (Some (form_at less)) bytes
at_depth d less bytes e = form_is d bytes ∙ ap (λ k. form_by (inner_form k) bytes) e

pub by_none : (one : Reader (Unit {0})) (x r : List ℕ) → AreBlanks x → form_by (Some one) ((123 ∷ (x ++ (125 ∷ []))) ++ r) ≡ Some (tt, r)
by_none one x r bx =
    ap (λ bs. form_by (Some one) (123 ∷ bs)) (group_none x r) ∙ by_brace one (x ++ (125 ∷ r))
    ∙ ap (braces_by one) (blanks_off x (125 ∷ r) bx) ∙ braces_none one r

pub by_items : (d : ℕ) (x y more r : List ℕ) {f : Form} {t : List ℕ} → AreBlanks x → Spells f t → AreBlanks y → begins closes (more ++ r) ≡ true
    → form_at d (t ++ (y ++ (more ++ r))) ≡ Some (tt, y ++ (more ++ r)) → closed_by (form_at d) (y ++ (more ++ r)) ≡ Some (tt, r)
    → form_by (Some (form_at d)) ((123 ∷ (x ++ (t ++ (y ++ more)))) ++ r) ≡ Some (tt, r)
by_items d x y more r {t = t} bx s by close e closed =
    let q = y ++ (more ++ r) in
    let follows : Follows q = follows_close y (more ++ r) by close in
    ap (λ bs. form_by (Some (form_at d)) (123 ∷ bs)) (group_items x t y more r) ∙ by_brace (form_at d) (x ++ (t ++ q))
    ∙ ap (braces_by (form_at d)) (past_to s x q bx)
    ∙ braces_items (form_at d) (t ++ q) q r (spelt_no_mark s 125 q refl) (no_part d s q follows.word (closes_behind y (more ++ r) by close)) e closed

pub by_parts : (one : Reader (Unit {0})) (x w g y more r : List ℕ) {f : Form} {t : List ℕ} → AreBlanks x → IsName w → AreBlanks g → AreApart g t → Spells f t
    → one (t ++ (y ++ (more ++ r))) ≡ Some (tt, y ++ (more ++ r)) → closed_by (part_by one) (y ++ (more ++ r)) ≡ Some (tt, r)
    → form_by (Some one) ((123 ∷ (x ++ (w ++ (g ++ (t ++ (y ++ more)))))) ++ r) ≡ Some (tt, r)
by_parts one x w g y more r {t = t} bx name bg apart s e closed =
    let q = y ++ (more ++ r) in
    ap (λ bs. form_by (Some one) (123 ∷ bs)) (group_parts x w g t y more r) ∙ by_brace one (x ++ (w ++ (g ++ (t ++ q))))
    ∙ ap (braces_by one) (past_to (is_name w name) x (g ++ (t ++ q)) bx)
    ∙ braces_parts one (w ++ (g ++ (t ++ q))) q r (spelt_no_mark (is_name w name) 125 (g ++ (t ++ q)) refl) (part_found one w g q q name bg apart s e) closed

-- the end of braces is met
closed_here : (one : Reader (Unit {0})) (n : ℕ) (y r : List ℕ) → AreBlanks y → mark_at 125 (past_all (comma_by one) n (y ++ ((125 ∷ []) ++ r))) ≡ Some (tt, r)
closed_here one n y r by =
    ap (mark_at 125) (past_none (comma_by one) n (y ++ (125 ∷ r)) (comma_none one (y ++ (125 ∷ r)) (no_comma y r by))) ∙ brace_behind y r by

-- one more turn
closed_more : (one : Reader (Unit {0})) (n : ℕ) (y bytes rest r : List ℕ) → AreBlanks y → one (past_blanks bytes) ≡ Some (tt, rest)
    → mark_at 125 (past_all (comma_by one) n rest) ≡ Some (tt, r) → mark_at 125 (past_all (comma_by one) (suc n) (y ++ (44 ∷ bytes))) ≡ Some (tt, r)
closed_more one n y bytes rest r by e closed =
    ap (mark_at 125) (past_one (comma_by one) n (y ++ (44 ∷ bytes)) rest (comma_found one (y ++ (44 ∷ bytes)) bytes (comma_behind y bytes by) ∙ e)) ∙ closed

pub front_of : (y more r : List ℕ) → length more ≤ length (y ++ (more ++ r))
front_of y more r = omega (arith, length-append y (more ++ r), length-append more r)

pub tail_le : (x t y more : List ℕ) → length more ≤ length (x ++ (t ++ (y ++ more)))
tail_le x t y more = omega (arith, length-append x (t ++ (y ++ more)), length-append t (y ++ more), length-append y more)

pub tails_le : (x w g t y more : List ℕ) → length more ≤ length (x ++ (w ++ (g ++ (t ++ (y ++ more)))))
tails_le x w g t y more = omega (arith, tail_le g t y more, tail_le x w [] (g ++ (t ++ (y ++ more))))

pub closed_is : (one : Reader (Unit {0})) (rest end : List ℕ) → mark_at 125 (past_all (comma_by one) (length rest) rest) ≡ Some (tt, end) → closed_by one rest ≡ Some (tt, end)
unfolding closed_by
closed_is one rest end h = h

mutual
  pub exact : {f : Form} {t : List ℕ} → Spells f t → (d : ℕ) → nesting f ≤ d → (r : List ℕ) → Follows r → form_at d (t ++ r) ≡ Some (tt, r)
  exact (is_number ds digits) d h r follows =
      form_is d (ds ++ r) ∙ by_digits (inner_form d) (ds ++ r) ds r (digits_exactly ds r digits (ends_digits r follows.word))
  exact (is_negative x ds blanks digits) d h r follows = form_is d _ ∙ negative_exact (inner_form d) x ds r blanks digits follows
  exact (is_truth b w e) d h r follows = form_is d (w ++ r) ∙ truth_exact (inner_form d) w r b e follows
  exact (is_name w name) d h r follows = form_is d (w ++ r) ∙ name_exact (inner_form d) w r name follows
  exact (is_alternative w x y name bx by s) d h r follows =
      let inner = deeper d _ h in
      at_depth d inner.less _ inner.is
      ∙ by_alternative (form_at inner.less) w x y r r name bx by s (exact s inner.less inner.enough r follows)
  exact (are_none x bx) d h r follows =
      let inner = deeper d 0 h in at_depth d inner.less _ inner.is ∙ by_none (form_at inner.less) x r bx
  exact (are_items x y {f = f} {fs = fs} {more = more} bx s by others) d h r follows =
      let inner = deeper d (max (nesting f) (nesting_of_items fs)) h in
      at_depth d inner.less _ inner.is
      ∙ by_items inner.less x y more r bx s by (items_close others r)
      (exact s inner.less (omega (arith, inner.enough)) (y ++ (more ++ r)) (follows_close y (more ++ r) by (items_close others r)))
      (closed_is (form_at inner.less) _ r (items_exact others inner.less (omega (arith, inner.enough)) y r by (length (y ++ (more ++ r))) (front_of y more r)))
  exact (are_parts x w g y {f = f} {fs = fs} {more = more} bx name bg apart s by others) d h r follows =
      let inner = deeper d (max (nesting f) (nesting_of_parts fs)) h in
      at_depth d inner.less _ inner.is
      ∙ by_parts (form_at inner.less) x w g y more r bx name bg apart s
      (exact s inner.less (omega (arith, inner.enough)) (y ++ (more ++ r)) (follows_close y (more ++ r) by (parts_close others r)))
      (closed_is (part_by (form_at inner.less)) _ r (parts_exact others inner.less (omega (arith, inner.enough)) y r by (length (y ++ (more ++ r))) (front_of y more r)))

  pub items_exact : {fs : Forms} {more : List ℕ} → ItemsGoOn fs more → (d : ℕ) → nesting_of_items fs ≤ d → (y r : List ℕ) → AreBlanks y → (n : ℕ) → length more ≤ n
      → mark_at 125 (past_all (comma_by (form_at d)) n (y ++ (more ++ r))) ≡ Some (tt, r)
  items_exact no_more_items d h y r by n le = closed_here (form_at d) n y r by
  items_exact (further_item x y' {f = f} {fs = fs} {t = t} {more = more} bx s by' others) d h y r by n le =
      let m = deeper n (length (x ++ (t ++ (y' ++ more)))) le in
      ap (λ k. mark_at 125 (past_all (comma_by (form_at d)) k (y ++ ((44 ∷ (x ++ (t ++ (y' ++ more)))) ++ r)))) m.is
      ∙ ap (λ bs. mark_at 125 (past_all (comma_by (form_at d)) (suc m.less) (y ++ (44 ∷ bs)))) (group_items x t y' more r)
      ∙ closed_more (form_at d) m.less y (x ++ (t ++ (y' ++ (more ++ r)))) (y' ++ (more ++ r)) r by
      (ap (form_at d) (past_to s x (y' ++ (more ++ r)) bx) ∙ exact s d (omega (arith, h)) (y' ++ (more ++ r)) (follows_close y' (more ++ r) by' (items_close others r)))
      (items_exact others d (omega (arith, h)) y' r by' m.less (omega (arith, m.enough, tail_le x t y' more)))

  pub parts_exact : {fs : Fields} {more : List ℕ} → PartsGoOn fs more → (d : ℕ) → nesting_of_parts fs ≤ d → (y r : List ℕ) → AreBlanks y → (n : ℕ) → length more ≤ n
      → mark_at 125 (past_all (comma_by (part_by (form_at d))) n (y ++ (more ++ r))) ≡ Some (tt, r)
  parts_exact no_more_parts d h y r by n le = closed_here (part_by (form_at d)) n y r by
  parts_exact (further_part x w g y' {f = f} {fs = fs} {t = t} {more = more} bx name bg apart s by' others) d h y r by n le =
      let m = deeper n (length (x ++ (w ++ (g ++ (t ++ (y' ++ more)))))) le in
      let one = part_by (form_at d) in
      let q = y' ++ (more ++ r) in
      ap (λ k. mark_at 125 (past_all (comma_by one) k (y ++ ((44 ∷ (x ++ (w ++ (g ++ (t ++ (y' ++ more)))))) ++ r)))) m.is
      ∙ ap (λ bs. mark_at 125 (past_all (comma_by one) (suc m.less) (y ++ (44 ∷ bs)))) (group_parts x w g t y' more r)
      ∙ closed_more one m.less y (x ++ (w ++ (g ++ (t ++ q)))) q r by
      (ap one (past_to (is_name w name) x (g ++ (t ++ q)) bx)
      ∙ part_found (form_at d) w g q q name bg apart s (exact s d (omega (arith, h)) q (follows_close y' (more ++ r) by' (parts_close others r))))
      (parts_exact others d (omega (arith, h)) y' r by' m.less (omega (arith, m.enough, tails_le x w g t y' more)))
