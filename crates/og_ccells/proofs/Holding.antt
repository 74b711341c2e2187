-- Whether cells in a vector hold a value, part by part.
use Rattle.std.proofs.Common.{◌≡◌, ◌≢◌, ℕ, zero, suc, ◌+◌, ◌-◌, ◌^◌, ◌<◌, ◌≤◌, min, ℤ, pos, List, [], ◌∷◌, length, map, take, get_or, Bool, true, false, ◌&&◌, nat_le, is_some, ◌⊎◌, Option, Some, None, slice_get, refl, sym, ap, ◌∙◌, inl, inr, arith}
use Rattle.std.proofs.lemmas.List.{get_or_past, get_or_default}
use Rattle.std.proofs.lemmas.Bool.{cases_lt}
use Rattle.std.proofs.lemmas.Option.{none-some}
use Rattle.std.specs.Option.{option_map}
use Rattle.std.proofs.lemmas.Bool.Decides.{nat_tests}
use Rattle.og_names.proofs.Loops.{Left, left_more, left_stop}
use Rattle.og_types.specs.declared.Part.{Part}
use Rattle.og_types.specs.declared.Sort.{Sort}
use Rattle.og_types.specs.declared.Sort.TheVariants as sort
use Rattle.og_types.specs.declared.TypeId.{TypeId}
use Rattle.og_types.specs.declared.Value.{Value}
use Rattle.og_types.specs.declared.Value.TheVariants as made
use Rattle.og_ir.specs.Cells.{◌>>=◌, Cells, Cell, Empty, Both, row, equal_parts, cells_by, part, count}
use Rattle.og_ir.specs.Reading.{natural, only_if, read_within, read_sort, read_parts, read_items, read_choice, read_seq_of, read_array, value_in, blank_sort, blank_within, blank}
use Rattle.og_ccells.specs.Layouts.{up_to, counted}
use Rattle.og_ccells.specs.Vectors.{filled, numbers_before}
use Rattle.og_ccells.specs.Views.{zero_choice, zero_seq_of}
use Rattle.og_ccells.proofs.Filling.{number, moved, same_numbers, part_filled}
use Rattle.og_ccells.proofs.Widths.{up_to_small}

-- ---- places

-- past the end each number is 0
past_end : (s : Cells) (a b : ℕ) (xs : List ℤ) → length xs ≤ a → length xs ≤ b → filled a s xs ≡ filled b s xs
past_end s a b xs le le' =
    same_numbers s a b xs xs (λ k lt. get_or_past xs (a + k) (pos 0) (omega (arith, le)) ∙ sym (get_or_past xs (b + k) (pos 0) (omega (arith, le'))))

-- a place that is cut at the end
pub cut : (s : Cells) (xs : List ℤ) (a b n : ℕ) → a ≡ min b (length xs) → filled (a + n) s xs ≡ filled (b + n) s xs
cut s xs a b n e =
    elim (cases_lt b (length xs)) [
      | inl inside ↦ moved s (a + n) (b + n) xs (omega (arith, e, inside))
      | inr outside ↦ past_end s (a + n) (b + n) xs (omega (arith, e, outside)) (omega (arith, outside))
    ]

-- the place behind so many cells
pub behind_is : (s : Cells) (xs : List ℤ) (at w n next : ℕ) → w ≡ counted n → next ≡ min (at + w) (length xs) → length xs < 2 ^ 64 → filled next s xs ≡ filled (at + n) s xs
unfolding up_to
behind_is s xs at w n next width place fits =
    elim (cases_lt (at + n) (length xs)) [
      | inl inside ↦ moved s next (at + n) xs (omega (arith, width, place, fits, inside))
      | inr outside ↦ past_end s next (at + n) xs (omega (arith, width, place, fits, outside)) outside
    ]

-- ---- down one level

pub within_none : (depth : ℕ) (sorts : List Sort) (t : TypeId) (c : Cells) → depth ≡ 0 → false ≡ is_some (read_within depth sorts t c)
within_none depth sorts t c e = ap (λ d. is_some (read_within d sorts t c)) (sym e)

pub within_unknown : (depth : ℕ) (sorts : List Sort) (t : TypeId) (c : Cells) → None ≡ slice_get sorts t.0 → false ≡ is_some (read_within depth sorts t c)
within_unknown zero sorts t c e = refl
within_unknown (suc depth) sorts t c e = ap (λ o. is_some (o >>= λ s. read_sort (read_within depth sorts) s c)) e

pub within_some : (depth : ℕ) (sorts : List Sort) (t : TypeId) (s : Sort) (at : ℕ) (xs : List ℤ) → depth ≢ 0 → Some s ≡ slice_get sorts t.0
    → is_some (read_sort (read_within (depth - 1) sorts) s (filled at (blank_sort (blank_within (depth - 1) sorts) s) xs)) ≡ is_some (read_within depth sorts t (filled at (blank_within depth sorts t) xs))
within_some zero sorts t s at xs ne e = absurd (ne refl)
within_some (suc depth) sorts t s at xs ne e =
    let less : suc depth - 1 ≡ depth = omega arith in
    ap (λ d. is_some (read_sort (read_within d sorts) s (filled at (blank_sort (blank_within d sorts) s) xs))) less
    ∙ ap (λ o. is_some (o >>= λ r. read_sort (read_within depth sorts) r (filled at (cells_by (blank_sort (blank_within depth sorts)) o) xs))) e

pub value_is : (sorts : List Sort) (t : TypeId) (at : ℕ) (xs : List ℤ) → value_in sorts t (filled at (blank sorts t) xs) ≡ read_within (t.0 + 1) sorts t (filled at (blank_within (t.0 + 1) sorts t) xs)
unfolding value_in blank
value_is sorts t at xs = refl

pub sort_same : (read : TypeId → Cells → Option Value) (blank : TypeId → Cells) (s r : Sort) (at : ℕ) (xs : List ℤ) → s ≡ r
    → is_some (read_sort read s (filled at (blank_sort blank s) xs)) ≡ is_some (read_sort read r (filled at (blank_sort blank r) xs))
sort_same read blank s r at xs e = ap (λ x. is_some (read_sort read x (filled at (blank_sort blank x) xs))) e

kept : {A B : Type 0} (f : A → B) (a : Option A) → is_some (a >>= λ x. Some (f x)) ≡ is_some a
kept f None = refl
kept f (Some x) = refl

there : {A B C : Type 0} (f : A → B → C) (a : Option A) (b : Option B) → is_some (a >>= λ x. b >>= λ y. Some (f x y)) ≡ (is_some a && is_some b)
there f None b = refl
there f (Some x) None = refl
there f (Some x) (Some y) = refl

-- ---- parts

abbrev pub parts_held : (TypeId → Cells → Option Value) → (TypeId → Cells) → List ℤ → ℕ → List Part → Bool
parts_held read blank xs at parts = is_some (read_parts read parts (filled at (row (map (λ (p : Part). blank p.sort) parts)) xs))

module _ (read : TypeId → Cells → Option Value) (blank : TypeId → Cells) (xs : List ℤ) where
  first_held : (at : ℕ) (p : Part) (parts : List Part)
      → parts_held read blank xs at (p ∷ parts) ≡ (is_some (read p.sort (filled at (blank p.sort) xs)) && parts_held read blank xs (at + count (blank p.sort)) parts)
  first_held at p parts =
      there (λ v vs. v ∷ vs) (read p.sort (filled at (blank p.sort) xs))
      (read_parts read parts (filled (at + count (blank p.sort)) (row (map (λ (q : Part). blank q.sort) parts)) xs))

  pub parts_bad : (parts : List Part) (i at : ℕ) (p : Part) (total : Bool) → i < length parts → false ≡ is_some (read (get_or parts i p).sort (filled at (blank (get_or parts i p).sort) xs))
      → Left (λ ys. parts_held read blank xs at ys) parts i total → false ≡ total
  parts_bad parts i at p total lt bad left =
      left_stop (λ ys. parts_held read blank xs at ys) parts i (get_or parts i p) false total lt (get_or_default parts i p (get_or parts i p) lt)
      (λ ys. first_held at (get_or parts i p) ys ∙ ap (λ b. b && parts_held read blank xs (at + count (blank (get_or parts i p).sort)) ys) (sym bad)) left

  pub parts_more : (parts : List Part) (i at w next : ℕ) (p : Part) (total : Bool) → i < length parts → true ≡ is_some (read (get_or parts i p).sort (filled at (blank (get_or parts i p).sort) xs))
      → w ≡ counted (count (blank (get_or parts i p).sort)) → next ≡ min (at + w) (length xs) → length xs < 2 ^ 64
      → Left (λ ys. parts_held read blank xs at ys) parts i total → Left (λ ys. parts_held read blank xs next ys) parts (i + 1) total
  parts_more parts i at w next p total lt good width place fits left =
      left_more (λ ys. parts_held read blank xs at ys) (λ ys. parts_held read blank xs next ys) parts i (get_or parts i p) total lt (get_or_default parts i p (get_or parts i p) lt)
      (λ ys. first_held at (get_or parts i p) ys ∙ ap (λ b. b && parts_held read blank xs (at + count (blank (get_or parts i p).sort)) ys) (sym good)
      ∙ ap (λ c. is_some (read_parts read ys c)) (sym (behind_is (row (map (λ (q : Part). blank q.sort) ys)) xs at w (count (blank (get_or parts i p).sort)) next width place fits))) left

  -- ---- alternatives

  pub before_parts : (parts : List Part) (k : ℕ) → numbers_before k (row (map (λ (p : Part). blank p.sort) parts)) ≡ count (row (map (λ (p : Part). blank p.sort) (take k parts)))
  before_parts [] zero = refl
  before_parts [] (suc k) = refl
  before_parts (p ∷ parts) zero = refl
  before_parts (p ∷ parts) (suc k) = ap (λ n. count (blank p.sort) + n) (before_parts parts k)

  pub part_of : (parts : List Part) (k : ℕ) (p : Part) → slice_get parts k ≡ Some p → part k (row (map (λ (q : Part). blank q.sort) parts)) ≡ Some (blank p.sort)
  part_of [] k p e = absurd (none-some p e)
  part_of (q ∷ parts) zero p e = ap (λ o. option_map (λ (r : Part). blank r.sort) o) e
  part_of (q ∷ parts) (suc k) p e = part_of parts k p e

  abbrev chosen : List Part → Option ℕ → Cells → Option Value
  chosen parts number others = number >>= λ k. slice_get parts k >>= λ p. part k others >>= λ c. read p.sort c >>= λ v. Some (made.Choice k v)

  abbrev others_of : List Part → ℕ → Cells
  others_of parts at = filled (at + 1) (row (map (λ (p : Part). blank p.sort) parts)) xs

  pub choice_no_number : (parts : List Part) (at : ℕ) → None ≡ natural (number xs at) → false ≡ is_some (read_choice read parts (filled at (zero_choice blank parts) xs))
  choice_no_number parts at none = ap (λ o. is_some (chosen parts o (others_of parts at))) none

  pub choice_no_part : (parts : List Part) (at k : ℕ) → Some k ≡ natural (number xs at) → None ≡ slice_get parts k
      → false ≡ is_some (read_choice read parts (filled at (zero_choice blank parts) xs))
  choice_no_part parts at k some none =
      ap (λ o. is_some (o >>= λ p. part k (others_of parts at) >>= λ c. read p.sort c >>= λ v. Some (made.Choice k v))) none
      ∙ ap (λ o. is_some (chosen parts o (others_of parts at))) some

  pub choice_part : (parts front : List Part) (at k first next w : ℕ) (p : Part) → Some k ≡ natural (number xs at) → Some p ≡ slice_get parts k
      → first ≡ min (at + 1) (length xs) → front ≡ take k parts → w ≡ counted (count (row (map (λ (p : Part). blank p.sort) front))) → next ≡ min (first + w) (length xs) → length xs < 2 ^ 64
      → is_some (read p.sort (filled next (blank p.sort) xs)) ≡ is_some (read_choice read parts (filled at (zero_choice blank parts) xs))
  choice_part parts front at k first next w p some found begins fronts width place fits =
      let before = numbers_before k (row (map (λ (p : Part). blank p.sort) parts)) in
      let w_is : w ≡ counted before = width ∙ ap (λ ps. counted (count (row (map (λ (p : Part). blank p.sort) ps)))) fronts ∙ ap counted (sym (before_parts parts k)) in
      let stands : filled next (blank p.sort) xs ≡ filled (at + 1 + before) (blank p.sort) xs =
      behind_is (blank p.sort) xs first w before next w_is place fits
      ∙ cut (blank p.sort) xs first (at + 1) before begins in
      ap (λ c. is_some (read p.sort c)) stands
      ∙ sym (kept (λ v. made.Choice k v) (read p.sort (filled (at + 1 + before) (blank p.sort) xs)))
      ∙ ap (λ o. is_some (o >>= λ c. read p.sort c >>= λ v. Some (made.Choice k v)))
      (sym (part_filled (row (map (λ (p : Part). blank p.sort) parts)) k (at + 1) xs (blank p.sort) (part_of parts k p (sym found))))
      ∙ ap (λ o. is_some (o >>= λ q. part k (others_of parts at) >>= λ c. read q.sort c >>= λ v. Some (made.Choice k v))) found
      ∙ ap (λ o. is_some (chosen parts o (others_of parts at))) some

-- ---- items

pub record Elements (read : Cells → Option Value) (b : Cells) (xs : List ℤ) (count size at i : ℕ) (total : Bool) : Type 0 where
  pub is : is_some (read_items read (count - i) (filled at (equal_parts (size - i) b) xs)) ≡ total

module _ (read : Cells → Option Value) (b : Cells) (xs : List ℤ) (count' size : ℕ) where
  pub items_first : (at : ℕ) → Elements read b xs count' size at 0 (is_some (read_items read count' (filled at (equal_parts size b) xs)))
  items_first at =
      let all : count' - 0 ≡ count' = omega arith in
      let whole : size - 0 ≡ size = omega arith in
      record { is = ap (λ n. is_some (read_items read n (filled at (equal_parts (size - 0) b) xs))) all ∙ ap (λ n. is_some (read_items read count' (filled at (equal_parts n b) xs))) whole }

  items_both : (at i : ℕ) (total : Bool) → i < count' → count' ≤ size → Elements read b xs count' size at i total
      → (is_some (read (filled at b xs)) && is_some (read_items read (count' - (i + 1)) (filled (at + count b) (equal_parts (size - (i + 1)) b) xs))) ≡ total
  items_both at i total lt le left =
      let n : count' - i ≡ suc (count' - (i + 1)) = omega (arith, lt) in
      let m : size - i ≡ suc (size - (i + 1)) = omega (arith, lt, le) in
      sym (ap (λ j. is_some (read_items read j (filled at (equal_parts (size - i) b) xs))) n
      ∙ ap (λ j. is_some (read_items read (suc (count' - (i + 1))) (filled at (equal_parts j b) xs))) m
      ∙ there (λ v vs. v ∷ vs) (read (filled at b xs)) (read_items read (count' - (i + 1)) (filled (at + count b) (equal_parts (size - (i + 1)) b) xs)))
      ∙ left.is

  pub items_bad : (at i : ℕ) (total : Bool) → i < count' → count' ≤ size → false ≡ is_some (read (filled at b xs)) → Elements read b xs count' size at i total → false ≡ total
  items_bad at i total lt le bad left =
      ap (λ t. t && is_some (read_items read (count' - (i + 1)) (filled (at + count b) (equal_parts (size - (i + 1)) b) xs))) bad ∙ items_both at i total lt le left

  pub items_more : (at i w next : ℕ) (total : Bool) → i < count' → count' ≤ size → true ≡ is_some (read (filled at b xs)) → w ≡ counted (count b) → next ≡ min (at + w) (length xs)
      → length xs < 2 ^ 64 → Elements read b xs count' size at i total → Elements read b xs count' size next (i + 1) total
  items_more at i w next total lt le good width place fits left = record {
    is = ap (λ c. is_some (read_items read (count' - (i + 1)) c)) (behind_is (equal_parts (size - (i + 1)) b) xs at w (count b) next width place fits)
        ∙ ap (λ t. t && is_some (read_items read (count' - (i + 1)) (filled (at + count b) (equal_parts (size - (i + 1)) b) xs))) good
        ∙ items_both at i total lt le left;
  }

  pub items_end : (at i : ℕ) (total : Bool) → count' ≤ i → Elements read b xs count' size at i total → true ≡ total
  items_end at i total le left =
      let none : 0 ≡ count' - i = omega (arith, le) in ap (λ n. is_some (read_items read n (filled at (equal_parts (size - i) b) xs))) none ∙ left.is

-- ---- lengths

module _ (read : TypeId → Cells → Option Value) (blank : TypeId → Cells) (item : TypeId) (xs : List ℤ) (lo hi at : ℕ) where
  pub array_items : (n : ℕ) (array : Cells) → read_array (read item) n (Both array Empty) ≡ read_items (read item) n array
  array_items zero array = refl
  array_items (suc n) array = refl

  abbrev sized : ℕ → Cells → Option Value
  sized n others = only_if (nat_le lo n && nat_le n hi) n >>= λ len. read_array (read item) len others >>= λ items. Some (made.SeqOf items)

  abbrev counted_items : Option ℕ → Cells → Option Value
  counted_items number others = number >>= λ n. sized n others

  pub by_size : (h : ℕ) (o : Option ℕ) → o ≡ natural (number xs at) → (others : Cells)
      → read_seq_of (read item) lo h (Both (Cell (number xs at)) others) ≡ (o >>= λ n. only_if (nat_le lo n && nat_le n h) n >>= λ len. read_array (read item) len others >>= λ items. Some (made.SeqOf items))
  by_size h o e others = sym (ap (λ p. p >>= λ n. only_if (nat_le lo n && nat_le n h) n >>= λ len. read_array (read item) len others >>= λ items. Some (made.SeqOf items)) e)

pub seq_of_no_number : (read : TypeId → Cells → Option Value) (blank : TypeId → Cells) (item : TypeId) (xs : List ℤ) (lo hi at : ℕ) → None ≡ natural (number xs at)
    → false ≡ is_some (read_seq_of (read item) lo hi (filled at (zero_seq_of blank lo hi item) xs))
seq_of_no_number read blank item xs lo zero at none = sym (ap is_some (by_size read blank item xs lo zero at zero None none Empty))
seq_of_no_number read blank item xs lo (suc hi) at none = sym (ap is_some (by_size read blank item xs lo (suc hi) at (suc hi) None none _))

pub outside : (lo hi n : ℕ) → (n < lo) ⊎ (hi < n) → (nat_le lo n && nat_le n hi) ≡ false
outside lo hi n (inl lt) = grind (arith, nat_tests)
outside lo hi n (inr lt) = grind (arith, nat_tests)

pub within : (lo hi n : ℕ) → lo ≤ n → n ≤ hi → (nat_le lo n && nat_le n hi) ≡ true
within lo hi n le le' = grind (arith, nat_tests)

pub seq_of_outside : (read : TypeId → Cells → Option Value) (blank : TypeId → Cells) (item : TypeId) (xs : List ℤ) (lo hi at n : ℕ) → Some n ≡ natural (number xs at)
    → (n < lo) ⊎ (hi < n) → false ≡ is_some (read_seq_of (read item) lo hi (filled at (zero_seq_of blank lo hi item) xs))
seq_of_outside read blank item xs lo zero at n some out =
    sym (ap is_some (by_size read blank item xs lo zero at zero (Some n) some Empty)
    ∙ ap (λ t. is_some (only_if t n >>= λ len. read_array (read item) len Empty >>= λ items. Some (made.SeqOf items))) (outside lo zero n out))
seq_of_outside read blank item xs lo (suc hi) at n some out =
    let others = filled (at + 1) (Both (equal_parts (suc hi) (blank item)) Empty) xs in
    sym (ap is_some (by_size read blank item xs lo (suc hi) at (suc hi) (Some n) some others)
    ∙ ap (λ t. is_some (only_if t n >>= λ len. read_array (read item) len others >>= λ items. Some (made.SeqOf items))) (outside lo (suc hi) n out))

pub seq_of_items : (read : TypeId → Cells → Option Value) (blank : TypeId → Cells) (item : TypeId) (xs : List ℤ) (lo hi at n first : ℕ) → Some n ≡ natural (number xs at)
    → lo ≤ n → n ≤ hi → first ≡ min (at + 1) (length xs)
    → is_some (read_items (read item) n (filled first (equal_parts hi (blank item)) xs)) ≡ is_some (read_seq_of (read item) lo hi (filled at (zero_seq_of blank lo hi item) xs))
seq_of_items read blank item xs lo zero at n first some above below place =
    let none : n ≡ 0 = omega (arith, below) in
    ap (λ k. is_some (read_items (read item) k Empty)) none
    ∙ sym (ap is_some (by_size read blank item xs lo zero at zero (Some n) some Empty)
    ∙ ap (λ t. is_some (only_if t n >>= λ len. read_array (read item) len Empty >>= λ items. Some (made.SeqOf items))) (within lo zero n above below)
    ∙ ap (λ k. is_some (read_array (read item) k Empty >>= λ items. Some (made.SeqOf items))) none)
seq_of_items read blank item xs lo (suc hi) at n first some above below place =
    let others = filled (at + 1) (Both (equal_parts (suc hi) (blank item)) Empty) xs in
    let array = filled (at + 1) (equal_parts (suc hi) (blank item)) xs in
    let begins : filled first (equal_parts (suc hi) (blank item)) xs ≡ array =
    moved (equal_parts (suc hi) (blank item)) first (first + 0) xs (omega arith) ∙ cut (equal_parts (suc hi) (blank item)) xs first (at + 1) 0 place
    ∙ moved (equal_parts (suc hi) (blank item)) (at + 1 + 0) (at + 1) xs (omega arith) in
    ap (λ c. is_some (read_items (read item) n c)) begins
    ∙ sym (ap is_some (by_size read blank item xs lo (suc hi) at (suc hi) (Some n) some others)
    ∙ ap (λ t. is_some (only_if t n >>= λ len. read_array (read item) len others >>= λ items. Some (made.SeqOf items))) (within lo (suc hi) n above below)
    ∙ ap (λ o. is_some (o >>= λ items. Some (made.SeqOf items))) (array_items read blank item xs lo (suc hi) at n array)
    ∙ kept (λ items. made.SeqOf items) (read_items (read item) n array))

pub ruleset holding = (within_none, within_unknown, within_some, value_is, sort_same, choice_no_number, choice_no_part, seq_of_no_number)
