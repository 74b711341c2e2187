-- The tree of a text has names and places such as stand in a text.
use Rattle.std.proofs.Common.{◌≡◌, ℕ, ◌+◌, ◌≤◌, Bool, true, false, ◌&&◌, ◌||◌, nat_le, nat_lt, ◌<◌, if◌then◌else◌, List, [], ◌∷◌, take, refl, sym, ap, subst, ◌∙◌, arith, IsTrue}
use Rattle.std.specs.Prelude.{slice_range, ◌==◌}
use Rattle.std.specs.List.{AllByRecursion, list_all}
use Rattle.std.specs.Char.{is_ascii_alphabetic}
use Rattle.std.proofs.lemmas.Bool.Decides.{nat_tests}
use Rattle.og_base.specs.declared.Place.{Place}
use Rattle.og_names.specs.declared.Word.{Word}
use Rattle.og_lexer.specs.declared.Spanned.{Spanned}
use Rattle.og_lexer.specs.declared.Token.{Token}
use Rattle.og_lexer.specs.declared.Token.TheVariants as token
use Rattle.og_lexer.specs.declared.words.Class.{Class}
use Rattle.og_lexer.specs.declared.words.Class.TheVariants as class
use Rattle.og_lexer.specs.declared.Mark.{Mark}
use Rattle.og_lexer.specs.Bytes.{class_of, sign_class, is_word, is_word_class}
use Rattle.og_lexer.specs.Pieces.{IsWord}
use Rattle.og_lexer.specs.Places.{first_place, next_place, place_after, place_at}
use Rattle.og_lexer.specs.Texts.{IsWritten, AreInPlace}
use Rattle.og_model.specs.Resolved.{is_name, is_name_byte}
use Rattle.og_model.specs.WellSorted.{is_place}
use Rattle.og_front.specs.declared.syntax.SystemText.{SystemText}
use Rattle.og_front.specs.Grammar.{Form, Reserved, ReservedAt, Sign, Named, Last, Begins, system_forms, Spells}
use Rattle.og_front.specs.Written.{IsWrittenForm, IsWrittenTree}
use Rattle.og_front.proofs.Sentences.{spelt_forms}
use Rattle.og_names.proofs.Truths.{both_first as first, both_second as second, both_true as both}

-- ---- letters

-- a class that is none of a byte of a word
abbrev is_other : Class → Bool
is_other (class.Sign m) = true
is_other class.Foreign = true
is_other _ = false

or_sign : (b : Bool) (m : Mark) (c : Class) → is_other c ≡ true → is_other (if b then class.Sign m else c) ≡ true
or_sign true m c h = refl
or_sign false m c h = h

sign_is_other : (b : ℕ) → is_other (sign_class b) ≡ true
sign_is_other b =
    or_sign (b == 59) _ _ (or_sign (b == 44) _ _ (or_sign (b == 58) _ _ (or_sign (b == 40) _ _ (or_sign (b == 41) _ _ (or_sign (b == 123) _ _ (or_sign (b == 125) _ _ (or_sign (b == 46) _ _
    (or_sign (b == 33) _ _ (or_sign (b == 43) _ _ (or_sign (b == 45) _ _ (or_sign (b == 42) _ _ (or_sign (b == 47) _ _ (or_sign (b == 61) _ _ (or_sign (b == 60) _ _ (or_sign (b == 62) _ _ refl)))))))))))))))

abbrev is_letter_class : Class → Bool
is_letter_class class.Letter = true
is_letter_class _ = false

-- what the class of a byte says of its tests
letter_test : (white letter digit line quote : Bool) (c : Class) → is_other c ≡ true
    → is_letter_class (if white then class.White else (if letter then class.Letter else (if digit then class.Digit else (if line then class.Underline else (if quote then class.Quote else c))))) ≡ true → letter ≡ true
letter_test true letter digit line quote c other h = cc
letter_test false true digit line quote c other h = refl
letter_test false false true line quote c other h = cc
letter_test false false false true quote c other h = cc
letter_test false false false false true c other h = cc
letter_test false false false false false class.White other h = cc
letter_test false false false false false class.Letter other h = cc
letter_test false false false false false class.Digit other h = cc
letter_test false false false false false class.Underline other h = cc
letter_test false false false false false class.Quote other h = cc
letter_test false false false false false (class.Sign m) other h = cc
letter_test false false false false false class.Foreign other h = cc

word_test : (white letter digit line quote : Bool) (c : Class) → is_other c ≡ true
    → is_word_class (if white then class.White else (if letter then class.Letter else (if digit then class.Digit else (if line then class.Underline else (if quote then class.Quote else c))))) ≡ true
    → (letter || digit) || line ≡ true
word_test true letter digit line quote c other h = cc
word_test false true digit line quote c other h = refl
word_test false false true line quote c other h = refl
word_test false false false true quote c other h = refl
word_test false false false false true c other h = cc
word_test false false false false false class.White other h = cc
word_test false false false false false class.Letter other h = cc
word_test false false false false false class.Digit other h = cc
word_test false false false false false class.Underline other h = cc
word_test false false false false false class.Quote other h = cc
word_test false false false false false (class.Sign m) other h = cc
word_test false false false false false class.Foreign other h = cc

regroup : (upper lower digit line : Bool) → ((upper || lower) || digit) || line ≡ true → ((digit || upper) || lower) || line ≡ true
regroup upper lower true line h = refl
regroup true lower false line h = refl
regroup false true false line h = refl
regroup false false false true h = refl
regroup false false false false h = cc

letter_is : (b : ℕ) → class_of b ≡ class.Letter → IsTrue (is_ascii_alphabetic b)
unfolding class_of
letter_is b e =
    letter_test ((b == 32) || (b == 9) || (b == 13) || (b == 10)) ((nat_le 65 b && nat_le b 90) || (nat_le 97 b && nat_le b 122)) (nat_le 48 b && nat_le b 57) (b == 95) (b == 39) (sign_class b) (sign_is_other b)
    (ap is_letter_class e)

word_byte_is : (b : ℕ) → IsTrue (is_word b) → IsTrue (is_name_byte b)
unfolding class_of
word_byte_is b h =
    regroup (nat_le 65 b && nat_le b 90) (nat_le 97 b && nat_le b 122) (nat_le 48 b && nat_le b 57) (b == 95)
    (word_test ((b == 32) || (b == 9) || (b == 13) || (b == 10)) ((nat_le 65 b && nat_le b 90) || (nat_le 97 b && nat_le b 122)) (nat_le 48 b && nat_le b 57) (b == 95) (b == 39) (sign_class b) (sign_is_other b) h)

word_bytes_are : (bytes : List ℕ) → IsTrue (list_all is_word bytes) → IsTrue (list_all is_name_byte bytes)
word_bytes_are [] h = refl
word_bytes_are (b ∷ bs) h =
    both (is_name_byte b) (list_all is_name_byte bs) (word_byte_is b (first (is_word b) (list_all is_word bs) h)) (word_bytes_are bs (second (is_word b) (list_all is_word bs) h))

word_is_name : (bytes : List ℕ) → IsWord bytes → IsTrue (is_name bytes)
word_is_name [] h = absurd h
word_is_name (b ∷ bs) h = both (is_ascii_alphabetic b) (list_all is_name_byte bs) (letter_is b h.0) (word_bytes_are bs h.1)

-- ---- places

-- a place of one of the files, counted from 1
record IsIn (p : Place) : Type 0 where
  pub file : p.file < 64
  pub line : 1 ≤ p.line
  pub column : 1 ≤ p.column

next_in : (p : Place) (b : ℕ) → IsIn p → IsIn (next_place p b)
next_in p b h = by (b == 10)
  where
    by : (c : Bool) → IsIn (if c then record { file = p.file; line = p.line + 1; column = 1 } else record { file = p.file; line = p.line; column = p.column + 1 })
    by true = record { file = h.file; line = omega arith; column = omega arith }
    by false = record { file = h.file; line = h.line; column = omega arith }

after_in : (p : Place) (bytes : List ℕ) → IsIn p → IsIn (place_after p bytes)
after_in p [] h = h
after_in p (b ∷ bs) h = after_in (next_place p b) bs (next_in p b h)

le_test : (m n : ℕ) → m ≤ n → nat_le m n ≡ true
le_test m n h = grind (arith, nat_tests)

lt_test : (m n : ℕ) → m < n → nat_lt m n ≡ true
lt_test m n h = grind (arith, nat_tests)

in_is_place : (p : Place) → IsIn p → IsTrue (is_place p)
in_is_place p h = both (nat_lt p.file 64) (nat_le 1 p.line && nat_le 1 p.column) (lt_test p.file 64 h.file) (both (nat_le 1 p.line) (nat_le 1 p.column) (le_test 1 p.line h.line) (le_test 1 p.column h.column))

place_is : (file : ℕ) (bytes : List ℕ) (at : ℕ) → file < 64 → IsTrue (is_place (place_at file bytes at))
place_is file bytes at few = in_is_place (place_at file bytes at) (after_in (first_place file) (take at bytes) (record { file = few; line = omega arith; column = omega arith }))

-- ---- tokens

written_word : (t : Token) (word : Word) (text : List ℕ) → t ≡ token.Name word → IsWritten t text → IsTrue (is_name word.bytes)
written_word t word text e written =
    let w = subst (λ k. IsWritten k text) e written in
    subst (λ bytes. IsTrue (is_name bytes)) w.0 (word_is_name text w.1)

placed_is : (file : ℕ) (bytes : List ℕ) (p : Place) (q : Place) (at : ℕ) → file < 64 → q ≡ place_at file bytes at → q ≡ p → IsTrue (is_place p)
placed_is file bytes p q at few e same = subst (λ r. IsTrue (is_place r)) (sym e ∙ same) (place_is file bytes at few)

begun_written : (file : ℕ) (bytes : List ℕ) (at : ℕ) → file < 64 → (forms : List Form) (tokens rest : List Spanned) → Begins forms tokens rest → AreInPlace file bytes at tokens → AllByRecursion IsWrittenForm forms
begun_written file bytes at few [] tokens rest h placed = tt
begun_written file bytes at few (Reserved word ∷ forms) tokens rest h placed =
    let p = subst (λ ts. AreInPlace file bytes at ts) h.2 placed in (tt, begun_written file bytes h.0.end few forms h.1 rest h.4 p.2)
begun_written file bytes at few (ReservedAt word place ∷ forms) tokens rest h placed =
    let p = subst (λ ts. AreInPlace file bytes at ts) h.2 placed in (placed_is file bytes place h.0.place h.0.start few p.1.placed h.3.1, begun_written file bytes h.0.end few forms h.1 rest h.4 p.2)
begun_written file bytes at few (Sign mark ∷ forms) tokens rest h placed =
    let p = subst (λ ts. AreInPlace file bytes at ts) h.2 placed in (tt, begun_written file bytes h.0.end few forms h.1 rest h.4 p.2)
begun_written file bytes at few (Named name ∷ forms) tokens rest h placed =
    let p = subst (λ ts. AreInPlace file bytes at ts) h.2 placed in (
      record {
        letters = written_word h.0.token name.word (slice_range bytes h.0.start h.0.end) h.3.0 p.1.written;
        place = placed_is file bytes name.place h.0.place h.0.start few p.1.placed h.3.1;
      },
      begun_written file bytes h.0.end few forms h.1 rest h.4 p.2,
    )
begun_written file bytes at few (Last ∷ forms) tokens rest h placed =
    let p = subst (λ ts. AreInPlace file bytes at ts) h.2 placed in (tt, begun_written file bytes h.0.end few forms h.1 rest h.4 p.2)

-- the tree of tokens that stand in their places is such as a text has
pub written_spelt : (system : SystemText) (tokens : List Spanned) (file : ℕ) (bytes : List ℕ) (at : ℕ) → file < 64 → Spells system tokens → AreInPlace file bytes at tokens → IsWrittenTree system
written_spelt system tokens file bytes at few spells placed = record { each = begun_written file bytes at few (system_forms system) tokens [] (spelt_forms system tokens spells) placed }
