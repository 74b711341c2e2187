-- The value that cells in a vector hold, part by part.
use Rattle.std.proofs.Common.{◌≡◌, ◌≢◌, ℕ, zero, suc, ◌+◌, ◌-◌, ◌^◌, ◌<◌, ◌≤◌, min, ℤ, pos, List, [], ◌∷◌, ◌++◌, length, map, take, get_or, ◌&&◌, nat_le, ◌⊎◌, Option, Some, None, slice_get, refl, sym, ap, ◌∙◌, arith}
use Rattle.std.proofs.lemmas.List.{get_or_default}
use Rattle.og_names.proofs.Loops.{Left, left_more, left_stop}
use Rattle.og_types.specs.declared.Part.{Part}
use Rattle.og_types.specs.declared.Sort.{Sort}
use Rattle.og_types.specs.declared.TypeId.{TypeId}
use Rattle.og_types.specs.declared.Value.{Value}
use Rattle.og_types.specs.declared.Value.TheVariants as made
use Rattle.og_ir.specs.Cells.{◌>>=◌, Cells, Cell, Empty, Both, row, equal_parts, cells_by, part, count}
use Rattle.og_ir.specs.Reading.{natural, only_if, read_within, read_sort, read_parts, read_items, read_choice, read_seq_of, read_array, value_in, blank_sort, blank_within, blank}
use Rattle.og_cload.proofs.Grown.{grown_one, none}
use Rattle.og_ccells.specs.Layouts.{counted}
use Rattle.og_ccells.specs.Vectors.{filled, numbers_before}
use Rattle.og_ccells.specs.Views.{zero_choice, zero_seq_of}
use Rattle.og_ccells.proofs.Filling.{number, moved, part_filled}
use Rattle.og_ccells.proofs.Holding.{behind_is, cut, before_parts, part_of, by_size, array_items, outside, within}

-- ---- down one level

pub within_none : (depth : ℕ) (sorts : List Sort) (t : TypeId) (c : Cells) → depth ≡ 0 → None ≡ read_within depth sorts t c
within_none depth sorts t c e = ap (λ d. read_within d sorts t c) (sym e)

pub within_unknown : (depth : ℕ) (sorts : List Sort) (t : TypeId) (c : Cells) → None ≡ slice_get sorts t.0 → None ≡ read_within depth sorts t c
within_unknown zero sorts t c e = refl
within_unknown (suc depth) sorts t c e = ap (λ o. o >>= λ s. read_sort (read_within depth sorts) s c) e

pub within_some : (depth : ℕ) (sorts : List Sort) (t : TypeId) (s : Sort) (at : ℕ) (xs : List ℤ) → depth ≢ 0 → Some s ≡ slice_get sorts t.0
    → read_sort (read_within (depth - 1) sorts) s (filled at (blank_sort (blank_within (depth - 1) sorts) s) xs) ≡ read_within depth sorts t (filled at (blank_within depth sorts t) xs)
within_some zero sorts t s at xs ne e = absurd (ne refl)
within_some (suc depth) sorts t s at xs ne e =
    let less : suc depth - 1 ≡ depth = omega arith in
    ap (λ d. read_sort (read_within d sorts) s (filled at (blank_sort (blank_within d sorts) s) xs)) less
    ∙ ap (λ o. o >>= λ r. read_sort (read_within depth sorts) r (filled at (cells_by (blank_sort (blank_within depth sorts)) o) xs)) e

pub value_is : (sorts : List Sort) (t : TypeId) (at : ℕ) (xs : List ℤ) → value_in sorts t (filled at (blank sorts t) xs) ≡ read_within (t.0 + 1) sorts t (filled at (blank_within (t.0 + 1) sorts t) xs)
unfolding value_in blank
value_is sorts t at xs = refl

pub sort_same : (read : TypeId → Cells → Option Value) (blank : TypeId → Cells) (s r : Sort) (at : ℕ) (xs : List ℤ) → s ≡ r
    → read_sort read s (filled at (blank_sort blank s) xs) ≡ read_sort read r (filled at (blank_sort blank r) xs)
sort_same read blank s r at xs e = ap (λ x. read_sort read x (filled at (blank_sort blank x) xs)) e

-- ---- parts

abbrev pub parts_read : (TypeId → Cells → Option Value) → (TypeId → Cells) → List ℤ → ℕ → List Part → Option (List Value)
parts_read read blank xs at parts = read_parts read parts (filled at (row (map (λ (p : Part). blank p.sort) parts)) xs)

-- values behind those so far
abbrev pub with_front : List Value → Option (List Value) → Option (List Value)
with_front front o = o >>= λ vs. Some (front ++ vs)

pub no_front : (o : Option (List Value)) → with_front [] o ≡ o
no_front None = refl
no_front (Some vs) = refl

one_front : (front : List Value) (v : Value) (o : Option (List Value)) → with_front front (o >>= λ vs. Some (v ∷ vs)) ≡ with_front (front ++ v ∷ []) o
one_front front v None = refl
one_front front v (Some vs) = ap Some (grown_one front v vs)

abbrev first_then : List Value → Option Value → Option (List Value) → Option (List Value)
first_then front a b = with_front front (a >>= λ v. b >>= λ vs. Some (v ∷ vs))

module _ (read : TypeId → Cells → Option Value) (blank : TypeId → Cells) (xs : List ℤ) where
  pub parts_first : (at : ℕ) (parts : List Part) (values : List Value) → values ≡ [] → Left (λ ys. with_front values (parts_read read blank xs at ys)) parts 0 (parts_read read blank xs at parts)
  parts_first at parts values e = record { is = ap (λ f. with_front f (parts_read read blank xs at parts)) e ∙ no_front (parts_read read blank xs at parts) }

  pub parts_bad : (parts : List Part) (i at : ℕ) (p : Part) (values : List Value) (total : Option (List Value)) → i < length parts
      → None ≡ read (get_or parts i p).sort (filled at (blank (get_or parts i p).sort) xs)
      → Left (λ ys. with_front values (parts_read read blank xs at ys)) parts i total → None ≡ total
  parts_bad parts i at p values total lt bad left =
      left_stop (λ ys. with_front values (parts_read read blank xs at ys)) parts i (get_or parts i p) None total lt (get_or_default parts i p (get_or parts i p) lt)
      (λ ys. ap (λ a. first_then values a (parts_read read blank xs (at + count (blank (get_or parts i p).sort)) ys)) (sym bad)) left

  pub parts_more : (parts : List Part) (i at w next : ℕ) (p : Part) (v : Value) (values grown : List Value) (total : Option (List Value)) → i < length parts
      → Some v ≡ read (get_or parts i p).sort (filled at (blank (get_or parts i p).sort) xs) → grown ≡ values ++ v ∷ []
      → w ≡ counted (count (blank (get_or parts i p).sort)) → next ≡ min (at + w) (length xs) → length xs < 2 ^ 64
      → Left (λ ys. with_front values (parts_read read blank xs at ys)) parts i total → Left (λ ys. with_front grown (parts_read read blank xs next ys)) parts (i + 1) total
  parts_more parts i at w next p v values grown total lt good grows width place fits left =
      left_more (λ ys. with_front values (parts_read read blank xs at ys)) (λ ys. with_front grown (parts_read read blank xs next ys)) parts i (get_or parts i p) total lt
      (get_or_default parts i p (get_or parts i p) lt)
      (λ ys. ap (λ a. first_then values a (parts_read read blank xs (at + count (blank (get_or parts i p).sort)) ys)) (sym good)
      ∙ one_front values v (parts_read read blank xs (at + count (blank (get_or parts i p).sort)) ys)
      ∙ ap (λ c. with_front (values ++ v ∷ []) (read_parts read ys c))
      (sym (behind_is (row (map (λ (q : Part). blank q.sort) ys)) xs at w (count (blank (get_or parts i p).sort)) next width place fits))
      ∙ ap (λ f. with_front f (parts_read read blank xs next ys)) (sym grows)) left

  -- ---- alternatives

  abbrev chosen : List Part → Option ℕ → Cells → Option Value
  chosen parts number others = number >>= λ k. slice_get parts k >>= λ p. part k others >>= λ c. read p.sort c >>= λ v. Some (made.Choice k v)

  abbrev others_of : List Part → ℕ → Cells
  others_of parts at = filled (at + 1) (row (map (λ (p : Part). blank p.sort) parts)) xs

  pub choice_no_number : (parts : List Part) (at : ℕ) → None ≡ natural (number xs at) → None ≡ read_choice read parts (filled at (zero_choice blank parts) xs)
  choice_no_number parts at none = ap (λ o. chosen parts o (others_of parts at)) none

  pub choice_no_part : (parts : List Part) (at k : ℕ) → Some k ≡ natural (number xs at) → None ≡ slice_get parts k → None ≡ read_choice read parts (filled at (zero_choice blank parts) xs)
  choice_no_part parts at k some none =
      ap (λ o. o >>= λ p. part k (others_of parts at) >>= λ c. read p.sort c >>= λ v. Some (made.Choice k v)) none ∙ ap (λ o. chosen parts o (others_of parts at)) some

  pub choice_part : (parts front : List Part) (at k first next w : ℕ) (p : Part) → Some k ≡ natural (number xs at) → Some p ≡ slice_get parts k
      → first ≡ min (at + 1) (length xs) → front ≡ take k parts → w ≡ counted (count (row (map (λ (p : Part). blank p.sort) front))) → next ≡ min (first + w) (length xs) → length xs < 2 ^ 64
      → (read p.sort (filled next (blank p.sort) xs) >>= λ v. Some (made.Choice k v)) ≡ read_choice read parts (filled at (zero_choice blank parts) xs)
  choice_part parts front at k first next w p some found begins fronts width place fits =
      let before = numbers_before k (row (map (λ (p : Part). blank p.sort) parts)) in
      let w_is : w ≡ counted before =
      width ∙ ap (λ ps. counted (count (row (map (λ (p : Part). blank p.sort) ps)))) fronts ∙ ap counted (sym (before_parts read blank xs parts k)) in
      let stands : filled next (blank p.sort) xs ≡ filled (at + 1 + before) (blank p.sort) xs =
      behind_is (blank p.sort) xs first w before next w_is place fits ∙ cut (blank p.sort) xs first (at + 1) before begins in
      ap (λ c. read p.sort c >>= λ v. Some (made.Choice k v)) stands
      ∙ ap (λ o. o >>= λ c. read p.sort c >>= λ v. Some (made.Choice k v))
      (sym (part_filled (row (map (λ (p : Part). blank p.sort) parts)) k (at + 1) xs (blank p.sort) (part_of read blank xs parts k p (sym found))))
      ∙ ap (λ o. o >>= λ q. part k (others_of parts at) >>= λ c. read q.sort c >>= λ v. Some (made.Choice k v)) found
      ∙ ap (λ o. chosen parts o (others_of parts at)) some

-- ---- items

pub record ItemsLeft (read : Cells → Option Value) (b : Cells) (xs : List ℤ) (count size : ℕ) (values : List Value) (at i : ℕ) (total : Option (List Value)) : Type 0 where
  pub is : with_front values (read_items read (count - i) (filled at (equal_parts (size - i) b) xs)) ≡ total

module _ (read : Cells → Option Value) (b : Cells) (xs : List ℤ) (count' size : ℕ) where
  pub items_first : (at : ℕ) (values : List Value) → values ≡ [] → ItemsLeft read b xs count' size values at 0 (read_items read count' (filled at (equal_parts size b) xs))
  items_first at values e =
      let all : count' - 0 ≡ count' = omega arith in
      let whole : size - 0 ≡ size = omega arith in
      record {
        is = ap (λ f. with_front f (read_items read (count' - 0) (filled at (equal_parts (size - 0) b) xs))) e
            ∙ no_front (read_items read (count' - 0) (filled at (equal_parts (size - 0) b) xs))
            ∙ ap (λ n. read_items read n (filled at (equal_parts (size - 0) b) xs)) all ∙ ap (λ n. read_items read count' (filled at (equal_parts n b) xs)) whole;
      }

  items_both : (at i : ℕ) (values : List Value) (total : Option (List Value)) → i < count' → count' ≤ size → ItemsLeft read b xs count' size values at i total
      → first_then values (read (filled at b xs)) (read_items read (count' - (i + 1)) (filled (at + count b) (equal_parts (size - (i + 1)) b) xs)) ≡ total
  items_both at i values total lt le left =
      let n : count' - i ≡ suc (count' - (i + 1)) = omega (arith, lt) in
      let m : size - i ≡ suc (size - (i + 1)) = omega (arith, lt, le) in
      sym (ap (λ j. with_front values (read_items read j (filled at (equal_parts (size - i) b) xs))) n
      ∙ ap (λ j. with_front values (read_items read (suc (count' - (i + 1))) (filled at (equal_parts j b) xs))) m)
      ∙ left.is

  pub items_bad : (at i : ℕ) (values : List Value) (total : Option (List Value)) → i < count' → count' ≤ size → None ≡ read (filled at b xs) → ItemsLeft read b xs count' size values at i total → None ≡ total
  items_bad at i values total lt le bad left =
      ap (λ a. first_then values a (read_items read (count' - (i + 1)) (filled (at + count b) (equal_parts (size - (i + 1)) b) xs))) bad ∙ items_both at i values total lt le left

  pub items_more : (at i w next : ℕ) (v : Value) (values grown : List Value) (total : Option (List Value)) → i < count' → count' ≤ size → Some v ≡ read (filled at b xs) → grown ≡ values ++ v ∷ []
      → w ≡ counted (count b) → next ≡ min (at + w) (length xs) → length xs < 2 ^ 64
      → ItemsLeft read b xs count' size values at i total → ItemsLeft read b xs count' size grown next (i + 1) total
  items_more at i w next v values grown total lt le good grows width place fits left =
      let rest = read_items read (count' - (i + 1)) (filled (at + count b) (equal_parts (size - (i + 1)) b) xs) in
      record {
        is = ap (λ c. with_front grown (read_items read (count' - (i + 1)) c)) (behind_is (equal_parts (size - (i + 1)) b) xs at w (count b) next width place fits)
            ∙ ap (λ f. with_front f rest) grows ∙ sym (one_front values v rest) ∙ ap (λ a. first_then values a rest) good ∙ items_both at i values total lt le left;
      }

  pub items_end : (at i : ℕ) (values : List Value) (total : Option (List Value)) → count' ≤ i → ItemsLeft read b xs count' size values at i total → Some values ≡ total
  items_end at i values total le left =
      let none_left : 0 ≡ count' - i = omega (arith, le) in
      ap Some (sym (none values)) ∙ ap (λ n. with_front values (read_items read n (filled at (equal_parts (size - i) b) xs))) none_left ∙ left.is

-- ---- lengths

pub seq_of_no_number : (read : TypeId → Cells → Option Value) (blank : TypeId → Cells) (item : TypeId) (xs : List ℤ) (lo hi at : ℕ) → None ≡ natural (number xs at)
    → None ≡ read_seq_of (read item) lo hi (filled at (zero_seq_of blank lo hi item) xs)
seq_of_no_number read blank item xs lo zero at none = sym (by_size read blank item xs lo zero at zero None none Empty)
seq_of_no_number read blank item xs lo (suc hi) at none = sym (by_size read blank item xs lo (suc hi) at (suc hi) None none _)

abbrev items_of : (TypeId → Cells → Option Value) → TypeId → ℕ → Cells → Option ℕ → Option Value
items_of read item n others o = o >>= λ len. read_array (read item) len others >>= λ items. Some (made.SeqOf items)

pub seq_of_outside : (read : TypeId → Cells → Option Value) (blank : TypeId → Cells) (item : TypeId) (xs : List ℤ) (lo hi at n : ℕ) → Some n ≡ natural (number xs at)
    → (n < lo) ⊎ (hi < n) → None ≡ read_seq_of (read item) lo hi (filled at (zero_seq_of blank lo hi item) xs)
seq_of_outside read blank item xs lo zero at n some out =
    sym (by_size read blank item xs lo zero at zero (Some n) some Empty ∙ ap (λ t. items_of read item n Empty (only_if t n)) (outside lo zero n out))
seq_of_outside read blank item xs lo (suc hi) at n some out =
    let others = filled (at + 1) (Both (equal_parts (suc hi) (blank item)) Empty) xs in
    sym (by_size read blank item xs lo (suc hi) at (suc hi) (Some n) some others ∙ ap (λ t. items_of read item n others (only_if t n)) (outside lo (suc hi) n out))

pub seq_of_items : (read : TypeId → Cells → Option Value) (blank : TypeId → Cells) (item : TypeId) (xs : List ℤ) (lo hi at n first : ℕ) → Some n ≡ natural (number xs at)
    → lo ≤ n → n ≤ hi → first ≡ min (at + 1) (length xs)
    → (read_items (read item) n (filled first (equal_parts hi (blank item)) xs) >>= λ items. Some (made.SeqOf items)) ≡ read_seq_of (read item) lo hi (filled at (zero_seq_of blank lo hi item) xs)
seq_of_items read blank item xs lo zero at n first some above below place =
    let none_left : n ≡ 0 = omega (arith, below) in
    ap (λ k. read_items (read item) k Empty >>= λ items. Some (made.SeqOf items)) none_left
    ∙ sym (by_size read blank item xs lo zero at zero (Some n) some Empty
    ∙ ap (λ t. items_of read item n Empty (only_if t n)) (within lo zero n above below)
    ∙ ap (λ k. read_array (read item) k Empty >>= λ items. Some (made.SeqOf items)) none_left)
seq_of_items read blank item xs lo (suc hi) at n first some above below place =
    let others = filled (at + 1) (Both (equal_parts (suc hi) (blank item)) Empty) xs in
    let array = filled (at + 1) (equal_parts (suc hi) (blank item)) xs in
    let begins : filled first (equal_parts (suc hi) (blank item)) xs ≡ array =
    moved (equal_parts (suc hi) (blank item)) first (first + 0) xs (omega arith) ∙ cut (equal_parts (suc hi) (blank item)) xs first (at + 1) 0 place
    ∙ moved (equal_parts (suc hi) (blank item)) (at + 1 + 0) (at + 1) xs (omega arith) in
    ap (λ c. read_items (read item) n c >>= λ items. Some (made.SeqOf items)) begins
    ∙ sym (by_size read blank item xs lo (suc hi) at (suc hi) (Some n) some others
    ∙ ap (λ t. items_of read item n others (only_if t n)) (within lo (suc hi) n above below)
    ∙ ap (λ o. o >>= λ items. Some (made.SeqOf items)) (array_items read blank item xs lo (suc hi) at n array))

pub ruleset valued = (within_none, within_unknown, within_some, value_is, sort_same, choice_no_number, choice_no_part, seq_of_no_number, seq_of_outside, parts_first, items_first)
