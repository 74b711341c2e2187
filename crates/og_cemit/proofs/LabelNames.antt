-- Labels are C names: each ends in a digit, as no reserved word does.
use Rattle.std.proofs.Common.{◌≡◌, ℕ, ◌^◌, ◌<◌, List, [], ◌∷◌, ◌++◌, Bool, true, false, cond, not, ◌||◌, ◌==◌, Option, Some, None, length, slice_get, refl, sym, ap, ◌∙◌, arith}
use Rattle.std.specs.Prelude.{codes, decimal}
use Rattle.std.specs.List.{list_all, list_any}
use Rattle.std.specs.Str.{bytes_eq}
use Rattle.std.proofs.lemmas.Bool.{false≢true}
use Rattle.std.proofs.lemmas.Fmt.{decimal_nonempty}
use Rattle.og_types.specs.Table.{is_empty}
use Rattle.og_names.specs.declared.Word.{Word}
use Rattle.og_ir.specs.declared.FlatFn.{FlatFn}
use Rattle.og_csubset.specs.Tokens.{is_letter, is_digit, is_word_byte, is_word, reserved_words, is_name}
use Rattle.og_csubset.specs.Fair.{is_label, is_labelled}
use Rattle.og_csubset.proofs.Steady.{all_at}
use Rattle.og_cemit.specs.Emitted.{hint, label_text}
use Rattle.og_cemit.proofs.Names.{other_bytes}
use Rattle.og_csubset.proofs.Digits.{decimal_digits}
use Rattle.og_cemit.proofs.Tests.{all_append}
use Rattle.og_names.proofs.Truths.{both_first as left_of, both_second as right_of, both_true as both, either_first as or_first, either_second as or_second, neither_true as neither}

-- ---- words

pub digits_words : (xs : List ℕ) → list_all is_digit xs ≡ true → list_all is_word_byte xs ≡ true
digits_words [] h = refl
digits_words (x ∷ xs) h =
    both (is_word_byte x) (list_all is_word_byte xs)
    (or_first (is_letter x || is_digit x) (x == 95) (or_second (is_letter x) (is_digit x) (left_of (is_digit x) (list_all is_digit xs) h)))
    (digits_words xs (right_of (is_digit x) (list_all is_digit xs) h))

word_append : (xs ys : List ℕ) → is_word xs ≡ true → list_all is_word_byte ys ≡ true → is_word (xs ++ ys) ≡ true
word_append [] ys h k = absurd (false≢true h)
word_append (x ∷ xs) ys h k =
    both (is_letter x) (list_all is_word_byte (xs ++ ys)) (left_of (is_letter x) (list_all is_word_byte xs) h)
    (all_append is_word_byte xs ys (right_of (is_letter x) (list_all is_word_byte xs) h) k)

hint_is_word : (o : Option Word) → ((w : Word) → o ≡ Some w → is_label w.bytes ≡ true) → is_word (hint o) ≡ true
hint_is_word None h = refl
hint_is_word (Some w) h = by_bytes w.bytes (h w refl)
  where
    by_bytes : (bytes : List ℕ) → is_label bytes ≡ true → is_word (cond (is_empty bytes) (codes "at") bytes) ≡ true
    by_bytes [] k = refl
    by_bytes (x ∷ xs) k = k

-- ---- reserved words

-- whether the last byte is a digit
abbrev last_digit : Bool → List ℕ → Bool
last_digit last [] = last
last_digit last (x ∷ xs) = last_digit (is_digit x) xs

last_digit-append : (last : Bool) (xs ys : List ℕ) → last_digit last (xs ++ ys) ≡ last_digit (last_digit last xs) ys
last_digit-append last [] ys = refl
last_digit-append last (x ∷ xs) ys = last_digit-append (is_digit x) xs ys

digits_last : (xs : List ℕ) → list_all is_digit xs ≡ true → last_digit true xs ≡ true
digits_last [] h = refl
digits_last (x ∷ xs) h =
    ap (λ b. last_digit b xs) (left_of (is_digit x) (list_all is_digit xs) h) ∙ digits_last xs (right_of (is_digit x) (list_all is_digit xs) h)

some_digits_last : (last : Bool) (xs : List ℕ) → 0 < length xs → list_all is_digit xs ≡ true → last_digit last xs ≡ true
some_digits_last last [] less h = absurd (omega (arith, less))
some_digits_last last (x ∷ xs) less h =
    ap (λ b. last_digit b xs) (left_of (is_digit x) (list_all is_digit xs) h) ∙ digits_last xs (right_of (is_digit x) (list_all is_digit xs) h)

not_among : (w : List ℕ) → last_digit false w ≡ true → (words : List (List ℕ)) → list_all (λ r. not (last_digit false r)) words ≡ true
    → list_any (bytes_eq w) words ≡ false
not_among w h [] k = refl
not_among w h (r ∷ words) k =
    neither (bytes_eq w r) (list_any (bytes_eq w) words)
    (other_bytes w r (λ same. false≢true (sym (ap not (sym (ap (last_digit false) same) ∙ h)) ∙ left_of (not (last_digit false r)) _ k)))
    (not_among w h words (right_of (not (last_digit false r)) _ k))

none_reserved : list_all (λ r. not (last_digit false r)) reserved_words ≡ true
none_reserved = refl

pub label_is_name : (g : FlatFn) (place : ℕ) → is_labelled g ≡ true → place < 2 ^ 64 → is_name (label_text g.labels place) ≡ true
unfolding label_text
label_is_name g place labelled small =
    both _ _
    (word_append (hint (slice_get g.labels place)) (codes "__" ++ decimal place)
    (hint_is_word (slice_get g.labels place) (λ w e. all_at (λ (label : Word). is_label label.bytes) g.labels place w (right_of (length g.labels == length g.code) _ labelled) e))
    (digits_words (decimal place) (decimal_digits place)))
    (ap not (not_among (hint (slice_get g.labels place) ++ (codes "__" ++ decimal place))
    (last_digit-append false (hint (slice_get g.labels place)) (codes "__" ++ decimal place) ∙ some_digits_last _ (decimal place) (decimal_nonempty place small) (decimal_digits place))
    reserved_words none_reserved))
