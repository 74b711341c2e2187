-- Each reader finds the item that stands in front, and what it finds stands there.
use Rattle.std.proofs.Common.{◌≡◌, ℕ, Bool, true, false, cond, ◌&&◌, List, [], ◌∷◌, ◌++◌, ◌+◌, suc, take, drop, map, codes, arith, refl, sym, ap, ◌∙◌, subst, append_assoc, ℤ}
use Rattle.std.specs.Prelude.{◌==◌, Option, Some, None}
use Rattle.std.specs.List.{list_all, prefix_len}
use Rattle.std.specs.Char.{to_ascii_uppercase, is_ascii_alphabetic, is_ascii_digit}
use Rattle.std.specs.Str.{bytes_eq}
use Rattle.std.proofs.lemmas.Bool.{and_parts, and_from, cond-true, cond-false, eq-eqb, eqb-true}
use Rattle.std.proofs.lemmas.Slice.Eq.{bytes_eq-Decides}
use Rattle.std.proofs.lemmas.Bool.Decides.{nat_tests}
use Rattle.og_cif.specs.declared.Symbol.{Symbol}
use Rattle.og_cif.specs.declared.Symbol.TheVariants.{Start}
use Rattle.og_cif.specs.declared.symbols.TheConstants.{SYMBOLS}
use Rattle.og_cif.specs.Form.{is_white, AreWhite, symbol_text, Item, word, white, sign, number, begins, IsDigits, signed, integer, in_32_bits, IsNumber, Leads, Stand, pair_items}
use Rattle.og_cif.specs.Scans.{Found, and_then, kept, run, behind, past_white, capitals_at, behind_letters, sign_here, sign_at, cif_at, symbol_in, symbol_at, number_of_sign, digits_here, number_here, number_at, pair_at}
use Rattle.og_cif.proofs.Fronts.{StopsAt, run_is, behind_is, cut_of, all_joined, white_past}

-- something was found, and behind it the items stand
pub record Passes {A : Type 0} (found : Found A) (x : A) (items : List Item) : Type 0 where
  pub rest : List ℕ
  pub is : found ≡ Some (x, rest)
  pub stand : Stand items rest

-- what was found, without its value
pub found_same : {A : Type 0} (x y : A) (xs ys : List ℕ) → ◌≡◌ {A = Found A} (Some (x, xs)) (Some (y, ys)) → ◌≡◌ {A = A × List ℕ} (x, xs) (y, ys)
found_same x y xs ys e = cc

rest_same : {A : Type 0} (x y : A) (xs ys : List ℕ) → ◌≡◌ {A = Found A} (Some (x, xs)) (Some (y, ys)) → xs ≡ ys
rest_same x y xs ys e = ap (λ p. p.1) (found_same x y xs ys e)

value_same : {A : Type 0} (x y : A) (xs ys : List ℕ) → ◌≡◌ {A = Found A} (Some (x, xs)) (Some (y, ys)) → x ≡ y
value_same x y xs ys e = ap (λ p. p.0) (found_same x y xs ys e)

nothing : {A : Type 0} {B : Type 0} (x : A) → ◌≡◌ {A = Option A} None (Some x) → B
nothing x e = absurd (let no : ⊥ = cc in no)

-- ---- signs

pub sign_in : (s : ℕ) (items : List Item) (text : List ℕ) → is_white s ≡ false → Stand (sign s ∷ items) text → Passes (sign_at s text) tt items
sign_in s items text black st =
    let l = st.1 in
    let past : past_white text ≡ s ∷ st.0 =
    ap past_white (l.joined ∙ ap (λ w. l.space ++ (w ++ st.0)) l.is) ∙ white_past l.space (s ∷ st.0) l.is_space black in
    record { rest = st.0; is = ap (sign_here s) past ∙ cond-true (s == s) (Some (tt, st.0)) None (eq-eqb s s refl); stand = st.2 }

pub front_sign : (s : ℕ) (bytes rest : List ℕ) (u : Unit {0}) → sign_here s bytes ≡ Some (u, rest) → bytes ≡ s ∷ rest
front_sign s [] rest u e = nothing (u, rest) e
front_sign s (b ∷ bs) rest u e = by_test (b == s) refl e
  where
    by_test : (t : Bool) → (b == s) ≡ t → cond {A = Found (Unit {0})} t (Some (tt, bs)) None ≡ Some (u, rest) → b ∷ bs ≡ s ∷ rest
    by_test true is e = ap (λ x. x ∷ bs) (eqb-true b s is) ∙ ap (λ xs. s ∷ xs) (rest_same tt u bs rest e)
    by_test false is e = nothing (u, rest) e

pub sign_out : (s : ℕ) (items : List Item) (text rest : List ℕ) (u : Unit {0}) → sign_at s text ≡ Some (u, rest) → Stand items rest → Stand (sign s ∷ items) text
sign_out s items text rest u e st =
    let c = cut_of is_white text in
    let leads : Leads (sign s) text rest = record {
      space = run is_white text;
      spelt = s ∷ [];
      joined = c.joined ∙ ap (λ ys. run is_white text ++ ys) (front_sign s (past_white text) rest u e);
      is_space = c.all;
      is = refl;
    } in
    (rest, leads, st)

-- ---- words

-- upper case is that of a letter exactly for letters
letter_test : (b : ℕ) → is_ascii_alphabetic (to_ascii_uppercase b) ≡ is_ascii_alphabetic b
letter_test b = grind (arith, nat_tests)

letters_test : (w : List ℕ) → list_all is_ascii_alphabetic (map to_ascii_uppercase w) ≡ list_all is_ascii_alphabetic w
letters_test [] = refl
letters_test (b ∷ bs) = ap (λ t. t && list_all is_ascii_alphabetic (map to_ascii_uppercase bs)) (letter_test b) ∙ ap (λ t. is_ascii_alphabetic b && t) (letters_test bs)

-- a letter is no white space
black_letter : (b : ℕ) → is_ascii_alphabetic b ≡ true → is_white b ≡ false
black_letter b is = grind (arith, nat_tests, is)

-- a word of letters, which is not empty
pub record IsWord (capitals : List ℕ) : Type 0 where
  pub all : list_all is_ascii_alphabetic capitals ≡ true
  pub some : begins is_ascii_alphabetic capitals ≡ true

black_first : (w rest : List ℕ) → IsWord (map to_ascii_uppercase w) → StopsAt is_white (w ++ rest)
black_first [] rest is = absurd (let no : ⊥ = cc in no)
black_first (b ∷ bs) rest is = black_letter b (sym (letter_test b) ∙ is.some)

pub word_in : (capitals : List ℕ) (text rest : List ℕ) → IsWord capitals → StopsAt is_ascii_alphabetic rest → Leads (word capitals) text rest
    → (capitals_at text ≡ capitals) × (behind_letters text ≡ rest)
word_in capitals text rest is stop l =
    let spelt_word : IsWord (map to_ascii_uppercase l.spelt) = subst (λ (w : List ℕ). IsWord w) (sym l.is) is in
    let all : list_all is_ascii_alphabetic l.spelt ≡ true = sym (letters_test l.spelt) ∙ spelt_word.all in
    let past : past_white text ≡ l.spelt ++ rest =
    ap past_white l.joined ∙ white_past l.space (l.spelt ++ rest) l.is_space (black_first l.spelt rest spelt_word) in (
      ap (λ t. map to_ascii_uppercase (run is_ascii_alphabetic t)) past ∙ ap (map to_ascii_uppercase) (run_is is_ascii_alphabetic l.spelt rest all stop) ∙ l.is,
      ap (behind is_ascii_alphabetic) past ∙ behind_is is_ascii_alphabetic l.spelt rest all stop,
    )

pub word_out : (capitals : List ℕ) (text : List ℕ) → capitals_at text ≡ capitals → Leads (word capitals) text (behind_letters text)
word_out capitals text is =
    let w = cut_of is_white text in
    let l = cut_of is_ascii_alphabetic (past_white text) in
    record {
      space = run is_white text;
      spelt = run is_ascii_alphabetic (past_white text);
      joined = w.joined ∙ ap (λ ys. run is_white text ++ ys) l.joined;
      is_space = w.all;
      is = is;
    }

symbol_word : (s : Symbol) → IsWord (symbol_text s)
unfolding symbol_text
symbol_word Start = record { all = refl; some = refl }
symbol_word s = record { all = refl; some = refl }

-- each symbol is found by its own spelling
symbol_found : (s : Symbol) → symbol_in SYMBOLS (symbol_text s) ≡ Some s
unfolding symbol_text
symbol_found Start = refl
symbol_found s = refl

found_step : (j k : Symbol) (w : List ℕ) (rest : Option Symbol) (t : Bool) → bytes_eq w (symbol_text j) ≡ t → (rest ≡ Some k → w ≡ symbol_text k) → cond t (Some j) rest ≡ Some k → w ≡ symbol_text k
found_step j k w rest true is later e = (bytes_eq-Decides w (symbol_text j)).0 is ∙ ap symbol_text (let same : j ≡ k = cc in same)
found_step j k w rest false is later e = later e

-- what is found is spelt so
symbol_spelt : (ss : List Symbol) (w : List ℕ) (k : Symbol) → symbol_in ss w ≡ Some k → w ≡ symbol_text k
symbol_spelt [] w k e = nothing k e
symbol_spelt (j ∷ ss) w k e = found_step j k w (symbol_in ss w) (bytes_eq w (symbol_text j)) refl (symbol_spelt ss w k) e

pub symbol_at_in : (s : Symbol) (items : List Item) (text : List ℕ) → ((rest : List ℕ) → Stand items rest → StopsAt is_ascii_alphabetic rest)
    → Stand (word (symbol_text s) ∷ items) text → Passes (symbol_at text) s items
unfolding symbol_at
symbol_at_in s items text stops st =
    let w = word_in (symbol_text s) text st.0 (symbol_word s) (stops st.0 st.2) st.1 in
    record {
      rest = st.0;
      is = ap (λ c. kept (symbol_in SYMBOLS c) (behind_letters text)) w.0 ∙ ap (λ f. kept f (behind_letters text)) (symbol_found s) ∙ ap (λ r. Some (s, r)) w.1;
      stand = st.2;
    }

kept_is : {A : Type 0} (o : Option A) (x : A) (rest behind' : List ℕ) → kept o rest ≡ Some (x, behind') → (o ≡ Some x) × (rest ≡ behind')
kept_is None x rest behind' e = nothing (x, behind') e
kept_is (Some y) x rest behind' e = (ap Some (value_same y x rest behind' e), rest_same y x rest behind' e)

pub symbol_out : (s : Symbol) (items : List Item) (text rest : List ℕ) → symbol_at text ≡ Some (s, rest) → Stand items rest → Stand (word (symbol_text s) ∷ items) text
unfolding symbol_at
symbol_out s items text rest e st =
    let k = kept_is (symbol_in SYMBOLS (capitals_at text)) s (behind_letters text) rest e in
    let leads = word_out (symbol_text s) text (symbol_spelt SYMBOLS (capitals_at text) s k.0) in
    (rest, subst (λ (r : List ℕ). Leads (word (symbol_text s)) text r) k.1 leads, st)

-- ---- CIF

-- white space in front of items belongs to them
pub further : (space : List ℕ) (item : Item) (items : List Item) (text : List ℕ) → AreWhite space → Stand (item ∷ items) text → Stand (item ∷ items) (space ++ text)
further space item items text white_space st =
    let l = st.1 in
    let leads : Leads item (space ++ text) st.0 = record {
      space = space ++ l.space;
      spelt = l.spelt;
      joined = ap (λ t. space ++ t) l.joined ∙ sym (append_assoc space l.space (l.spelt ++ st.0));
      is_space = all_joined is_white space l.space white_space l.is_space;
      is = l.is;
    } in
    (st.0, leads, st.2)

white_front : (space : List ℕ) (b : ℕ) (rest : List ℕ) → AreWhite space → is_white b ≡ true → begins is_white (space ++ (b ∷ rest)) ≡ true
white_front [] b rest all is = is
white_front (a ∷ as') b rest all is = (and_parts (is_white a) (list_all is_white as') all).0

-- a byte of white space stands in front, and no letter
white_begins : (items : List Item) (text : List ℕ) → Stand (white ∷ items) text → begins is_white text ≡ true
white_begins items text st =
    let l = st.1 in
    subst (λ (t : List ℕ). begins is_white t ≡ true) (sym (l.joined ∙ ap (λ w. l.space ++ (w ++ st.0)) l.is.spelt)) (white_front l.space l.is.byte st.0 l.is_space l.is.passes)

white_no_letter : (text : List ℕ) → begins is_white text ≡ true → StopsAt is_ascii_alphabetic text
white_no_letter [] is = absurd (let no : ⊥ = cc in no)
white_no_letter (b ∷ bs) is = grind (arith, nat_tests, is)

-- what stands behind a byte of white space stands behind it and what is before it
white_dropped : (item : Item) (items : List Item) (text : List ℕ) → Stand (white ∷ (item ∷ items)) text → Stand (item ∷ items) text
white_dropped item items text st =
    let l = st.1 in
    let b = l.is.byte in
    let one : Stand (item ∷ items) (b ∷ st.0) = further (b ∷ []) item items st.0 (and_from (is_white b) true l.is.passes refl) st.2 in
    subst (λ (t : List ℕ). Stand (item ∷ items) t) (sym (l.joined ∙ ap (λ w. l.space ++ (w ++ st.0)) l.is.spelt)) (further l.space item items (b ∷ st.0) l.is_space one)

cif_word : IsWord (codes "CIF")
cif_word = record { all = refl; some = refl }

pub cif_in : (item : Item) (items : List Item) (text : List ℕ) → Stand (word (codes "CIF") ∷ white ∷ item ∷ items) text → Passes (cif_at text) tt (item ∷ items)
unfolding cif_at
cif_in item items text st =
    let starts = white_begins (item ∷ items) st.0 st.2 in
    let w = word_in (codes "CIF") text st.0 cif_word (white_no_letter st.0 starts) st.1 in
    let is_cif : bytes_eq (capitals_at text) (codes "CIF") ≡ true = (bytes_eq-Decides (capitals_at text) (codes "CIF")).1 w.0 in
    let is_apart : begins is_white (behind_letters text) ≡ true = ap (begins is_white) w.1 ∙ starts in
    record {
      rest = st.0;
      is = cond-true _ (Some (tt, behind_letters text)) None (and_from _ _ is_cif is_apart) ∙ ap (λ r. Some (tt, r)) w.1;
      stand = white_dropped item items st.0 st.2;
    }

white_skipped : (b : ℕ) (bs : List ℕ) → is_white b ≡ true → past_white (b ∷ bs) ≡ past_white bs
white_skipped b bs is =
    ap (λ n. drop n (b ∷ bs)) (cond-true (is_white b) (1 + prefix_len is_white bs) 0 is ∙ (let e : 1 + prefix_len is_white bs ≡ suc (prefix_len is_white bs) = omega arith in e))

symbol_skips : (b : ℕ) (bs : List ℕ) → is_white b ≡ true → symbol_at (b ∷ bs) ≡ symbol_at bs
unfolding symbol_at
symbol_skips b bs is = ap (λ t. kept (symbol_in SYMBOLS (map to_ascii_uppercase (run is_ascii_alphabetic t))) (behind is_ascii_alphabetic t)) (white_skipped b bs is)

white_then : (items : List Item) (b : ℕ) (bs : List ℕ) → is_white b ≡ true → Stand items bs → Stand (white ∷ items) (b ∷ bs)
white_then items b bs is st =
    let leads : Leads white (b ∷ bs) bs = record { space = []; spelt = b ∷ []; joined = refl; is_space = refl; is = record { byte = b; spelt = refl; passes = is } } in
    (bs, leads, st)

white_word : (s : Symbol) (items : List Item) (text rest : List ℕ) → begins is_white text ≡ true → symbol_at text ≡ Some (s, rest) → Stand items rest
    → Stand (white ∷ word (symbol_text s) ∷ items) text
white_word s items [] rest is e st = absurd (let no : ⊥ = cc in no)
white_word s items (b ∷ bs) rest is e st =
    white_then (word (symbol_text s) ∷ items) b bs is (symbol_out s items bs rest (sym (symbol_skips b bs is) ∙ e) st)

pub cif_out : (s : Symbol) (items : List Item) (text rest more : List ℕ) (u : Unit {0}) → cif_at text ≡ Some (u, rest) → symbol_at rest ≡ Some (s, more) → Stand items more
    → Stand (word (codes "CIF") ∷ white ∷ word (symbol_text s) ∷ items) text
unfolding cif_at
cif_out s items text rest more u e f st = by_test (bytes_eq (capitals_at text) (codes "CIF") && begins is_white (behind_letters text)) refl e
  where
    by_test : (t : Bool) → (bytes_eq (capitals_at text) (codes "CIF") && begins is_white (behind_letters text)) ≡ t → cond {A = Found (Unit {0})} t (Some (tt, behind_letters text)) None ≡ Some (u, rest)
        → Stand (word (codes "CIF") ∷ white ∷ word (symbol_text s) ∷ items) text
    by_test true is e =
        let parts = and_parts _ _ is in
        let here : behind_letters text ≡ rest = rest_same tt u (behind_letters text) rest e in
        let leads = word_out (codes "CIF") text ((bytes_eq-Decides (capitals_at text) (codes "CIF")).0 parts.0) in
        (behind_letters text, leads, white_word s items (behind_letters text) more parts.1 (ap symbol_at here ∙ f) st)
    by_test false is e = nothing (u, rest) e

-- ---- numbers

digit_black : (b : ℕ) → is_ascii_digit b ≡ true → is_white b ≡ false
digit_black b is = grind (arith, nat_tests, is)

digit_no_sign : (b : ℕ) → is_ascii_digit b ≡ true → (b == 45) ≡ false
digit_no_sign b is = grind (arith, nat_tests, is)

digits_begin : (digits rest : List ℕ) → IsDigits digits → begins is_ascii_digit (digits ++ rest) ≡ true
digits_begin [] rest is = absurd (let no : ⊥ = cc in no)
digits_begin (d ∷ ds) rest is = is.some

digits_in : (negative : Bool) (digits rest : List ℕ) → IsDigits digits → StopsAt is_ascii_digit rest → in_32_bits (integer negative digits) ≡ true
    → digits_here negative (digits ++ rest) ≡ Some (integer negative digits, rest)
digits_in negative digits rest is stop fits =
    cond-true _ (kept (number_of_sign negative (run is_ascii_digit (digits ++ rest))) (behind is_ascii_digit (digits ++ rest))) None (digits_begin digits rest is)
    ∙ ap (λ ds. kept (number_of_sign negative ds) (behind is_ascii_digit (digits ++ rest))) (run_is is_ascii_digit digits rest is.all stop)
    ∙ ap (λ r. kept (number_of_sign negative digits) r) (behind_is is_ascii_digit digits rest is.all stop)
    ∙ ap (λ o. kept o rest) (cond-true _ (Some (integer negative digits)) None fits)

number_here_in : (negative : Bool) (digits rest : List ℕ) → IsDigits digits → StopsAt is_ascii_digit rest → in_32_bits (integer negative digits) ≡ true
    → number_here (signed negative digits ++ rest) ≡ Some (integer negative digits, rest)
number_here_in true digits rest is stop fits = digits_in true digits rest is stop fits
number_here_in false [] rest is stop fits = absurd (let no : ⊥ = let e = is.some in cc in no)
number_here_in false (d ∷ ds) rest is stop fits =
    cond-false (d == 45) (digits_here true (ds ++ rest)) (digits_here false (d ∷ (ds ++ rest))) (digit_no_sign d is.some)
    ∙ digits_in false (d ∷ ds) rest is stop fits

number_black : (negative : Bool) (digits rest : List ℕ) → IsDigits digits → StopsAt is_white (signed negative digits ++ rest)
number_black true digits rest is = refl
number_black false [] rest is = absurd (let no : ⊥ = let e = is.some in cc in no)
number_black false (d ∷ ds) rest is = digit_black d is.some

pub number_in : (z : ℤ) (items : List Item) (text : List ℕ) → ((rest : List ℕ) → Stand items rest → StopsAt is_ascii_digit rest)
    → Stand (number z ∷ items) text → Passes (number_at text) z items
unfolding number_at
number_in z items text stops st =
    let l = st.1 in
    let n = l.is in
    let fits : in_32_bits (integer n.negative n.digits) ≡ true = subst (λ v. in_32_bits v ≡ true) n.is n.fits in
    let past : past_white text ≡ signed n.negative n.digits ++ st.0 =
    ap past_white (l.joined ∙ ap (λ w. l.space ++ (w ++ st.0)) n.spelt)
    ∙ white_past l.space (signed n.negative n.digits ++ st.0) l.is_space (number_black n.negative n.digits st.0 n.are_digits) in
    record {
      rest = st.0;
      is = ap number_here past ∙ number_here_in n.negative n.digits st.0 n.are_digits (stops st.0 st.2) fits ∙ ap (λ v. Some (v, st.0)) (sym n.is);
      stand = st.2;
    }

-- a number stands in front
pub record Begins (z : ℤ) (bytes rest : List ℕ) : Type 0 where
  pub spelt : List ℕ
  pub joined : bytes ≡ spelt ++ rest
  pub is : IsNumber z spelt

fits_when : (negative : Bool) (digits : List ℕ) (z : ℤ) (t : Bool) → in_32_bits (integer negative digits) ≡ t → cond {A = Option ℤ} t (Some (integer negative digits)) None ≡ Some z
    → (integer negative digits ≡ z) × (in_32_bits z ≡ true)
fits_when negative digits z true is e = let same : integer negative digits ≡ z = cc in (same, ap in_32_bits (sym same) ∙ is)
fits_when negative digits z false is e = nothing z e

first_of_run : (bytes : List ℕ) → begins is_ascii_digit bytes ≡ true → begins is_ascii_digit (run is_ascii_digit bytes) ≡ true
first_of_run [] is = absurd (let no : ⊥ = cc in no)
first_of_run (b ∷ bs) is =
    ap (λ n. begins is_ascii_digit (take n (b ∷ bs)))
    (cond-true (is_ascii_digit b) (1 + prefix_len is_ascii_digit bs) 0 is ∙ (let e : 1 + prefix_len is_ascii_digit bs ≡ suc (prefix_len is_ascii_digit bs) = omega arith in e))
    ∙ is

digits_out : (negative : Bool) (bytes rest : List ℕ) (z : ℤ) → digits_here negative bytes ≡ Some (z, rest) → Begins z (signed negative bytes) rest
digits_out negative bytes rest z e = by_test (begins is_ascii_digit bytes) refl e
  where
    shifted : (negative : Bool) (xs ys : List ℕ) → bytes ≡ xs ++ ys → signed negative bytes ≡ signed negative xs ++ ys
    shifted true xs ys is = ap (λ t. 45 ∷ t) is
    shifted false xs ys is = is

    by_test : (t : Bool) → begins is_ascii_digit bytes ≡ t
        → cond t (kept (number_of_sign negative (run is_ascii_digit bytes)) (behind is_ascii_digit bytes)) None ≡ Some (z, rest) → Begins z (signed negative bytes) rest
    by_test true is e =
        let k = kept_is (number_of_sign negative (run is_ascii_digit bytes)) z (behind is_ascii_digit bytes) rest e in
        let f = fits_when negative (run is_ascii_digit bytes) z (in_32_bits (integer negative (run is_ascii_digit bytes))) refl k.0 in
        let c = cut_of is_ascii_digit bytes in
        record {
          spelt = signed negative (run is_ascii_digit bytes);
          joined = shifted negative (run is_ascii_digit bytes) rest (c.joined ∙ ap (λ ys. run is_ascii_digit bytes ++ ys) k.1);
          is = record {
            negative = negative;
            digits = run is_ascii_digit bytes;
            are_digits = record { some = first_of_run bytes is; all = c.all };
            spelt = refl;
            is = sym f.0;
            fits = f.1;
          };
        }
    by_test false is e = nothing (z, rest) e

number_here_out : (bytes rest : List ℕ) (z : ℤ) → number_here bytes ≡ Some (z, rest) → Begins z bytes rest
number_here_out [] rest z e = nothing (z, rest) e
number_here_out (b ∷ bs) rest z e = by_test (b == 45) refl e
  where
    by_test : (t : Bool) → (b == 45) ≡ t → cond t (digits_here true bs) (digits_here false (b ∷ bs)) ≡ Some (z, rest) → Begins z (b ∷ bs) rest
    by_test true is e = subst (λ (x : ℕ). Begins z (x ∷ bs) rest) (sym (eqb-true b 45 is)) (digits_out true bs rest z e)
    by_test false is e = digits_out false (b ∷ bs) rest z e

pub number_out : (z : ℤ) (items : List Item) (text rest : List ℕ) → number_at text ≡ Some (z, rest) → Stand items rest → Stand (number z ∷ items) text
unfolding number_at
number_out z items text rest e st =
    let c = cut_of is_white text in
    let n = number_here_out (past_white text) rest z e in
    let leads : Leads (number z) text rest = record {
      space = run is_white text;
      spelt = n.spelt;
      joined = c.joined ∙ ap (λ ys. run is_white text ++ ys) n.joined;
      is_space = c.all;
      is = n.is;
    } in
    (rest, leads, st)

-- ---- pairs

white_no_digit : (b : ℕ) → is_white b ≡ true → is_ascii_digit b ≡ false
white_no_digit b is = grind (arith, nat_tests, is)

white_is_no_letter : (b : ℕ) → is_white b ≡ true → is_ascii_alphabetic b ≡ false
white_is_no_letter b is = grind (arith, nat_tests, is)

stops_behind : (p : ℕ → Bool) (space : List ℕ) (s : ℕ) (rest : List ℕ) → ((b : ℕ) → is_white b ≡ true → p b ≡ false) → AreWhite space → p s ≡ false → StopsAt p (space ++ (s ∷ rest))
stops_behind p [] s rest fails all other = other
stops_behind p (b ∷ bs) s rest fails all other = fails b (and_parts (is_white b) (list_all is_white bs) all).0

sign_stops : (p : ℕ → Bool) (s : ℕ) (items : List Item) → ((b : ℕ) → is_white b ≡ true → p b ≡ false) → p s ≡ false
    → (text : List ℕ) → Stand (sign s ∷ items) text → StopsAt p text
sign_stops p s items fails other text st =
    let l = st.1 in
    subst (λ (t : List ℕ). StopsAt p t) (sym (l.joined ∙ ap (λ w. l.space ++ (w ++ st.0)) l.is)) (stops_behind p l.space s st.0 fails l.is_space other)

-- a sign ends a number, and a word
pub sign_ends_number : (s : ℕ) (items : List Item) → is_ascii_digit s ≡ false → (text : List ℕ) → Stand (sign s ∷ items) text → StopsAt is_ascii_digit text
sign_ends_number s items other text st = sign_stops is_ascii_digit s items white_no_digit other text st

pub sign_ends_word : (s : ℕ) (items : List Item) → is_ascii_alphabetic s ≡ false → (text : List ℕ) → Stand (sign s ∷ items) text → StopsAt is_ascii_alphabetic text
sign_ends_word s items other text st = sign_stops is_ascii_alphabetic s items white_is_no_letter other text st

pub pair_in : (a b : ℤ) (items : List Item) (text : List ℕ) → Stand (pair_items a b items) text → Passes (pair_at text) (a, b) items
unfolding pair_at
pair_in a b items text st =
    let p = sign_in 40 (number a ∷ sign 44 ∷ number b ∷ sign 41 ∷ items) text refl st in
    let q = number_in a (sign 44 ∷ number b ∷ sign 41 ∷ items) p.rest (sign_ends_number 44 (number b ∷ sign 41 ∷ items) refl) p.stand in
    let r = sign_in 44 (number b ∷ sign 41 ∷ items) q.rest refl q.stand in
    let s = number_in b (sign 41 ∷ items) r.rest (sign_ends_number 41 items refl) r.stand in
    let t = sign_in 41 items s.rest refl s.stand in
    record { rest = t.rest; is = rw (p.is, q.is, r.is, s.is, t.is); stand = t.stand }

pub seen_then : {A B : Type 0} (o : Found A) (go : A → List ℕ → Option B) (r : B) → and_then o go ≡ Some r
    → (x : A) × (rest : List ℕ) × (o ≡ Some (x, rest)) × (go x rest ≡ Some r)
seen_then None go r h = nothing r h
seen_then (Some p) go r h = (p.0, p.1, refl, h)

pub pair_out : (p : ℤ × ℤ) (items : List Item) (text rest : List ℕ) → pair_at text ≡ Some (p, rest) → Stand items rest → Stand (pair_items p.0 p.1 items) text
unfolding pair_at
pair_out p items text rest e st =
    let o = seen_then (sign_at 40 text) _ (p, rest) e in
    let x = seen_then (number_at o.1) _ (p, rest) o.3 in
    let c = seen_then (sign_at 44 x.1) _ (p, rest) x.3 in
    let y = seen_then (number_at c.1) _ (p, rest) c.3 in
    let z = seen_then (sign_at 41 y.1) _ (p, rest) y.3 in
    let both : (x.0, y.0) ≡ p = value_same (x.0, y.0) p z.1 rest z.3 in
    let ends : z.1 ≡ rest = rest_same (x.0, y.0) p z.1 rest z.3 in
    let all : Stand (pair_items x.0 y.0 items) text =
    sign_out 40 (number x.0 ∷ sign 44 ∷ number y.0 ∷ sign 41 ∷ items) text o.1 o.0 o.2 (number_out x.0 (sign 44 ∷ number y.0 ∷ sign 41 ∷ items) o.1 x.1 x.2
    (sign_out 44 (number y.0 ∷ sign 41 ∷ items) x.1 c.1 c.0 c.2 (number_out y.0 (sign 41 ∷ items) c.1 y.1 y.2
    (sign_out 41 items y.1 z.1 z.0 z.2 (subst (λ (t : List ℕ). Stand items t) (sym ends) st))))) in
    subst (λ (q : ℤ × ℤ). Stand (pair_items q.0 q.1 items) text) both all
