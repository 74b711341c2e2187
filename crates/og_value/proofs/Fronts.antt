-- Tokens in front of a text whose parts are known.
use Rattle.std.proofs.Common.{◌≡◌, ℕ, ◌<◌, ◌≤◌, Bool, true, false, cond, ◌&&◌, ◌||◌, ◌==◌, nat_le, List, [], ◌∷◌, ◌++◌, length, Some, None, inl, inr, refl, sym, ap, ◌∙◌, subst, arith}
use Rattle.std.proofs.lemmas.Bool.{false≢true, leb-true, eqb-true, cases_Bool}
use Rattle.std.specs.List.{list_all}
use Rattle.std.specs.Option.{is_none}
use Rattle.std.specs.Int.{is_in_range}
use Rattle.og_value.specs.Bytes.{is_blank, is_letter, is_digit, is_word, begins, run, behind}
use Rattle.og_value.specs.Forms.{IsDigits, IsName, AreBlanks}
use Rattle.og_value.specs.Scans.{and_then, unless_truth, past_blanks, mark_here, digits_at, word_at, name_at, minus_digits_at}
use Rattle.std.proofs.lemmas.Option.{none-some}
use Rattle.og_names.proofs.Truths.{both_true, both_first, both_second, either_first, either_true, same_value}
use Rattle.og_value.proofs.Runs.{run_joined}

-- ---- tests of bytes

-- a byte that passes is none that does not
pub other_byte : (p : ℕ → Bool) (b m : ℕ) → p b ≡ true → p m ≡ false → (b == m) ≡ false
other_byte p b m passes fails = elim (cases_Bool (b == m)) [
  | inl same ↦ absurd (false≢true (sym fails ∙ ap p (sym (eqb-true b m same)) ∙ passes))
  | inr differ ↦ differ
]

-- no byte passes both tests
abbrev Apart : (ℕ → Bool) → (ℕ → Bool) → Type 0
Apart p q = (b : ℕ) → p b ≡ true → q b ≡ false

-- no number is in both of two ranges
ranges_apart : (b lo hi lo' hi' : ℕ) → hi < lo' → (nat_le lo b && nat_le b hi) ≡ true → (nat_le lo' b && nat_le b hi') ≡ true → ⊥
ranges_apart b lo hi lo' hi' h p q =
    absurd (omega (arith, leb-true b hi (both_second _ _ p), leb-true lo' b (both_first _ _ q), h))

pub never : (b : Bool) → (b ≡ true → ⊥) → b ≡ false
never true h = absurd (h refl)
never false h = refl

pub letters_digits : Apart is_letter is_digit
letters_digits b h = never (is_digit b) (λ d. elim (either_true _ _ h) [
  | inl upper ↦ ranges_apart b 48 57 65 90 (omega arith) d upper
  | inr lower ↦ ranges_apart b 48 57 97 122 (omega arith) d lower
])

pub digits_letters : Apart is_digit is_letter
digits_letters b h = never (is_letter b) (λ l. false≢true (sym (letters_digits b l) ∙ h))

pub blank_is : (P : ℕ → Type 0) → P 32 → P 9 → (b : ℕ) → is_blank b ≡ true → P b
blank_is P space tab b h = elim (either_true _ _ h) [
  | inl e ↦ subst P (sym (eqb-true b 32 e)) space
  | inr e ↦ subst P (sym (eqb-true b 9 e)) tab
]

pub blanks_words : Apart is_blank is_word
blanks_words b h = blank_is (λ c. is_word c ≡ false) refl refl b h

-- ---- runs

pub run_front : (p : ℕ → Bool) (xs r : List ℕ) → list_all p xs ≡ true → begins p r ≡ false → run p (xs ++ r) ≡ xs
run_front p [] [] all stop = refl
run_front p [] (b ∷ r) all stop = ap (λ t. cond t (b ∷ run p r) []) stop
run_front p (x ∷ xs) r all stop =
    ap (λ t. cond t (x ∷ run p (xs ++ r)) []) (both_first _ _ all) ∙ ap (λ ys. x ∷ ys) (run_front p xs r (both_second _ _ all) stop)

pub behind_front : (p : ℕ → Bool) (xs r : List ℕ) → list_all p xs ≡ true → behind p (xs ++ r) ≡ behind p r
behind_front p [] r all = refl
behind_front p (x ∷ xs) r all = ap (λ t. cond t (behind p (xs ++ r)) (x ∷ (xs ++ r))) (both_first _ _ all) ∙ behind_front p xs r (both_second _ _ all)

pub behind_stop : (p : ℕ → Bool) (r : List ℕ) → begins p r ≡ false → behind p r ≡ r
behind_stop p [] stop = refl
behind_stop p (b ∷ r) stop = ap (λ t. cond t (behind p r) (b ∷ r)) stop

shorter : (t : Bool) (b : ℕ) (xs r : List ℕ) → length xs ≤ length r → length (cond t xs (b ∷ r)) ≤ length (b ∷ r)
shorter true b xs r h = omega (arith, h)
shorter false b xs r h = omega arith

pub behind_le : (p : ℕ → Bool) (r : List ℕ) → length (behind p r) ≤ length r
behind_le p [] = omega arith
behind_le p (b ∷ r) = shorter (p b) b (behind p r) r (behind_le p r)

run_all : (p : ℕ → Bool) (bytes : List ℕ) → list_all p (run p bytes) ≡ true
run_all p [] = refl
run_all p (b ∷ bs) = elim (cases_Bool (p b)) [
  | inl h ↦ ap (λ t. list_all p (cond t (b ∷ run p bs) [])) h ∙ both_true _ _ h (run_all p bs)
  | inr h ↦ ap (λ t. list_all p (cond t (b ∷ run p bs) [])) h
]

behind_begins : (p : ℕ → Bool) (bytes : List ℕ) → begins p (behind p bytes) ≡ false
behind_begins p [] = refl
behind_begins p (b ∷ bs) = elim (cases_Bool (p b)) [
  | inl h ↦ ap (λ t. begins p (cond t (behind p bs) (b ∷ bs))) h ∙ behind_begins p bs
  | inr h ↦ ap (λ t. begins p (cond t (behind p bs) (b ∷ bs))) h ∙ h
]

run_begins : (p first : ℕ → Bool) → ((b : ℕ) → first b ≡ true → p b ≡ true) → (bytes : List ℕ) → begins first bytes ≡ true → begins first (run p bytes) ≡ true
run_begins p first sub [] h = h
run_begins p first sub (b ∷ bs) h = ap (λ t. begins first (cond t (b ∷ run p bs) [])) (sub b h) ∙ h

-- ---- tokens of a known text

-- what stands behind a text is no part of its last word
abbrev pub EndsWord : List ℕ → Type 0
EndsWord r = begins is_word r ≡ false

digit_is_word : (b : ℕ) → is_digit b ≡ true → is_word b ≡ true
digit_is_word b h = either_first _ _ (either_first _ _ (either_first _ _ h))

letter_or : (d u l x : Bool) → (u || l) ≡ true → (((d || u) || l) || x) ≡ true
letter_or true u l x h = refl
letter_or false true l x h = refl
letter_or false false true x h = refl
letter_or false false false x h = absurd (false≢true h)

letter_is_word : (b : ℕ) → is_letter b ≡ true → is_word b ≡ true
letter_is_word b h = letter_or (is_in_range 48 57 b) (is_in_range 65 90 b) (is_in_range 97 122 b) (b == 95) h

pub begins_front : (p : ℕ → Bool) (xs r : List ℕ) → begins p xs ≡ true → begins p (xs ++ r) ≡ true
begins_front p [] r h = absurd (false≢true h)
begins_front p (x ∷ xs) r h = h

begins_less : (p q : ℕ → Bool) → ((b : ℕ) → p b ≡ true → q b ≡ true) → (r : List ℕ) → begins q r ≡ false → begins p r ≡ false
begins_less p q sub [] h = refl
begins_less p q sub (b ∷ r) h = never (p b) (λ passes. false≢true (sym h ∙ sub b passes))

pub ends_digits : (r : List ℕ) → EndsWord r → begins is_digit r ≡ false
ends_digits r h = begins_less is_digit is_word digit_is_word r h

-- digits, whatever stands behind them
pub digits_front : (ds r : List ℕ) → IsDigits ds → digits_at (ds ++ r) ≡ Some (run is_digit (ds ++ r), behind is_digit r)
unfolding digits_at
digits_front ds r digits =
    ap (λ t. cond t (Some (run is_digit (ds ++ r), behind is_digit (ds ++ r))) None) (begins_front is_digit ds r digits.some)
    ∙ ap (λ q. Some (run is_digit (ds ++ r), q)) (behind_front is_digit ds r digits.all)

pub digits_exactly : (ds r : List ℕ) → IsDigits ds → begins is_digit r ≡ false → digits_at (ds ++ r) ≡ Some (ds, r)
digits_exactly ds r digits stop = digits_front ds r digits ∙ (λ i. Some (run_front is_digit ds r digits.all stop i, behind_stop is_digit r stop i))

-- a word, whatever stands behind it
pub word_front : (w r : List ℕ) → begins is_letter w ≡ true → list_all is_word w ≡ true → word_at (w ++ r) ≡ Some (run is_word (w ++ r), behind is_word r)
unfolding word_at
word_front w r letter all =
    ap (λ t. cond t (Some (run is_word (w ++ r), behind is_word (w ++ r))) None) (begins_front is_letter w r letter)
    ∙ ap (λ q. Some (run is_word (w ++ r), q)) (behind_front is_word w r all)

pub word_exactly : (w r : List ℕ) → begins is_letter w ≡ true → list_all is_word w ≡ true → EndsWord r → word_at (w ++ r) ≡ Some (w, r)
word_exactly w r letter all stop = word_front w r letter all ∙ (λ i. Some (run_front is_word w r all stop i, behind_stop is_word r stop i))

pub name_exactly : (w r : List ℕ) → IsName w → EndsWord r → name_at (w ++ r) ≡ Some (w, r)
unfolding name_at
name_exactly w r name stop =
    ap (λ found. and_then found unless_truth) (word_exactly w r name.letter name.all stop)
    ∙ ap (λ t. cond (is_none t) (Some (w, r)) None) name.no_truth

-- where one is, the other is not
pub no_digits : (bs : List ℕ) → begins is_letter bs ≡ true → digits_at bs ≡ None
unfolding digits_at
no_digits [] h = refl
no_digits (b ∷ bs) h = ap (λ t. cond t (Some (run is_digit (b ∷ bs), behind is_digit (b ∷ bs))) None) (letters_digits b h)

pub no_word : (bs : List ℕ) → begins is_digit bs ≡ true → word_at bs ≡ None
unfolding word_at
no_word [] h = refl
no_word (b ∷ bs) h = ap (λ t. cond t (Some (run is_word (b ∷ bs), behind is_word (b ∷ bs))) None) (digits_letters b h)

pub no_mark : (p : ℕ → Bool) (m : ℕ) (bs : List ℕ) → p m ≡ false → begins p bs ≡ true → mark_here m bs ≡ None
no_mark p m [] fails h = refl
no_mark p m (b ∷ bs) fails h = ap (λ t. cond t (Some (tt, bs)) None) (other_byte p b m h fails)

pub no_minus : (bs : List ℕ) → begins is_letter bs ≡ true → minus_digits_at bs ≡ None
no_minus bs h = ap (λ found. and_then found (λ _ more. digits_at (past_blanks more))) (no_mark is_letter 45 bs refl h)

-- ---- blanks

pub blanks_off : (x r : List ℕ) → AreBlanks x → past_blanks (x ++ r) ≡ past_blanks r
blanks_off x r blanks = behind_front is_blank x r blanks

pub blanks_stop : (p : ℕ → Bool) (bs : List ℕ) → ((b : ℕ) → p b ≡ true → is_blank b ≡ false) → begins p bs ≡ true → past_blanks bs ≡ bs
blanks_stop p [] apart h = refl
blanks_stop p (b ∷ bs) apart h = behind_stop is_blank (b ∷ bs) (apart b h)

pub blanks_end_word : (x r : List ℕ) → AreBlanks x → EndsWord r → EndsWord (x ++ r)
blanks_end_word [] r blanks ends = ends
blanks_end_word (b ∷ x) r blanks ends = blanks_words b (both_first _ _ blanks)

-- ---- what was found

pub digits_were : (bytes : List ℕ) (p : List ℕ × List ℕ) → digits_at bytes ≡ Some p → IsDigits p.0 × (bytes ≡ p.0 ++ p.1)
unfolding digits_at
digits_were bytes p e = elim (cases_Bool (begins is_digit bytes)) [
  | inl h ↦
      let same : (run is_digit bytes, behind is_digit bytes) ≡ p = same_value _ p (sym (ap (λ t. cond t (Some (run is_digit bytes, behind is_digit bytes)) None) h) ∙ e) in
      subst (λ (q : List ℕ × List ℕ). IsDigits q.0 × (bytes ≡ q.0 ++ q.1)) same
      (record { some = run_begins is_digit is_digit (λ b x. x) bytes h; all = run_all is_digit bytes }, sym (run_joined is_digit bytes))
  | inr h ↦ absurd (none-some p (sym (ap (λ t. cond t (Some (run is_digit bytes, behind is_digit bytes)) None) h) ∙ e))
]

pub record IsWordAt (bytes w rest : List ℕ) : Type 0 where
  pub letter : begins is_letter w ≡ true
  pub all : list_all is_word w ≡ true
  pub front : bytes ≡ w ++ rest
  pub ends : EndsWord rest

pub word_was : (bytes : List ℕ) (p : List ℕ × List ℕ) → word_at bytes ≡ Some p → IsWordAt bytes p.0 p.1
unfolding word_at
word_was bytes p e = elim (cases_Bool (begins is_letter bytes)) [
  | inl h ↦
      let same : (run is_word bytes, behind is_word bytes) ≡ p = same_value _ p (sym (ap (λ t. cond t (Some (run is_word bytes, behind is_word bytes)) None) h) ∙ e) in
      subst (λ (q : List ℕ × List ℕ). IsWordAt bytes q.0 q.1) same (record {
        letter = run_begins is_word is_letter letter_is_word bytes h;
        all = run_all is_word bytes;
        front = sym (run_joined is_word bytes);
        ends = behind_begins is_word bytes;
      })
  | inr h ↦ absurd (none-some p (sym (ap (λ t. cond t (Some (run is_word bytes, behind is_word bytes)) None) h) ∙ e))
]

pub mark_was : (m : ℕ) (bytes : List ℕ) (p : Unit {0} × List ℕ) → mark_here m bytes ≡ Some p → bytes ≡ m ∷ p.1
mark_was m [] p e = absurd (none-some p e)
mark_was m (b ∷ bs) p e = elim (cases_Bool (b == m)) [
  | inl h ↦
      let same : (tt, bs) ≡ p = same_value _ p (sym (ap (λ t. cond t (Some (tt, bs)) None) h) ∙ e) in
      λ i. eqb-true b m h i ∷ (same i).1
  | inr h ↦ absurd (none-some p (sym (ap (λ t. cond t (Some (tt, bs)) None) h) ∙ e))
]

-- the blanks in front
pub blanks_were : (bytes : List ℕ) → (x : List ℕ) × AreBlanks x × (bytes ≡ x ++ past_blanks bytes)
blanks_were bytes = (run is_blank bytes, run_all is_blank bytes, sym (run_joined is_blank bytes))
