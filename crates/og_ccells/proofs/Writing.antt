-- The cells of a value, put into a vector part by part.
use Rattle.std.proofs.Common.{◌≡◌, ◌≢◌, ℕ, zero, suc, ◌+◌, ◌-◌, ◌*◌, ◌^◌, ◌<◌, ◌≤◌, min, ℤ, pos, List, [], ◌∷◌, ◌++◌, length, map, drop, get_or, replicate, slice_set, cond, nat_eq, ◌==◌, inl, inr, Option, Some, None, slice_get, refl, sym, ap, ◌∙◌, arith, length-append, append_assoc}
use Rattle.std.specs.Option.{option_map}
use Rattle.std.proofs.lemmas.Option.{none-some}
use Rattle.std.proofs.lemmas.List.{at_drop_more, length-replicate, drop_all, append-nil}
use Rattle.std.proofs.lemmas.Bool.{cases_lt, false≢true}
use Rattle.std.proofs.lemmas.Bool.Decides.{nat_tests}
use Rattle.std.specs.Prelude as prelude
use Rattle.og_types.specs.declared.Part.{Part}
use Rattle.og_types.specs.declared.Sort.{Sort}
use Rattle.og_types.specs.declared.Sort.TheVariants as sort
use Rattle.og_types.specs.declared.TypeId.{TypeId}
use Rattle.og_types.specs.declared.Value.{Value, out-Value}
use Rattle.og_types.specs.declared.Value.TheViews.{outs-Int, outs-Bool, outs-Enumerated, outs-Sequence, outs-Choice, outs-SeqOf}
use Rattle.og_types.specs.declared.Value.TheOpen.{Value-F, Int, Bool, Enumerated, Sequence, Choice, SeqOf}
use Rattle.og_ir.specs.Cells.{Cells, Cell, Empty, Both, row, equal_parts, cells_by, count}
use Rattle.og_ir.specs.Reading as reading
use Rattle.og_ir.specs.Reading.{blank_within, blank_sort, write_within, write_sort, write_parts, write_items, write_alternatives}
use Rattle.og_ccells.specs.Layouts.{up_to, counted}
use Rattle.og_ccells.specs.Vectors.{numbers_of, overwritten, put_cells, SameShape}
use Rattle.og_ccells.specs.Views as view
use Rattle.og_ccells.proofs.Counting.{count_equal}
use Rattle.og_ccells.proofs.TypeWidths.{product_width}
use Rattle.og_ccells.proofs.Widths.{up_to_small}
use Rattle.og_ccells.proofs.Overwriting.{length-overwritten, overwritten-append, overwritten_past, overwritten_behind}
use Rattle.og_ccells.proofs.Shapes.{same_count, length-numbers}

-- ---- down one level

pub written_none : (depth : ℕ) (sorts : List Sort) (t : TypeId) (v : Value) (at : ℕ) (xs : List ℤ) → depth ≡ 0 → xs ≡ put_cells at (write_within depth sorts t v) xs
written_none depth sorts t v at xs e = sym (ap (λ d. put_cells at (write_within d sorts t v) xs) e)

abbrev by_sort : ℕ → List Sort → Value → Sort → Cells
by_sort depth sorts v s = write_sort (blank_within depth sorts) (write_within depth sorts) s (out-Value v)

pub written_unknown : (depth : ℕ) (sorts : List Sort) (t : TypeId) (v : Value) (at : ℕ) (xs : List ℤ) → None ≡ slice_get sorts t.0 → xs ≡ put_cells at (write_within depth sorts t v) xs
written_unknown zero sorts t v at xs none = refl
written_unknown (suc depth) sorts t v at xs none = ap (λ o. put_cells at (cells_by (by_sort depth sorts v) o) xs) none

pub written_known : (depth : ℕ) (sorts : List Sort) (t : TypeId) (s : Sort) (v : Value) → depth ≢ 0 → Some s ≡ slice_get sorts t.0
    → write_within depth sorts t v ≡ write_sort (blank_within (depth - 1) sorts) (write_within (depth - 1) sorts) s (out-Value v)
written_known zero sorts t s v ne found = absurd (ne refl)
written_known (suc depth) sorts t s v ne found =
    let less : depth ≡ suc depth - 1 = omega arith in
    ap (cells_by (by_sort depth sorts v)) (sym found) ∙ ap (λ d. by_sort d sorts v s) less

pub cells_is : (sorts : List Sort) (t : TypeId) (v : Value) → reading.cells_of sorts t v ≡ write_within (t.0 + 1) sorts t v
unfolding reading.cells_of
cells_is sorts t v = refl

-- ---- the kinds of types

pub as_integer : (b : TypeId → Cells) (w : TypeId → Value → Cells) (lo hi : ℤ) (v : Value-F Value) → write_sort b w (sort.Int lo hi) v ≡ Cell (view.integer v)
as_integer b w lo hi (Int n) = refl
as_integer b w lo hi (Bool x) = refl
as_integer b w lo hi (Enumerated k) = refl
as_integer b w lo hi (Sequence vs) = refl
as_integer b w lo hi (Choice k x) = refl
as_integer b w lo hi (SeqOf vs) = refl

pub as_truth : (b : TypeId → Cells) (w : TypeId → Value → Cells) (v : Value-F Value) → write_sort b w sort.Bool v ≡ Cell (view.truth v)
as_truth b w (Int n) = refl
as_truth b w (Bool x) = refl
as_truth b w (Enumerated k) = refl
as_truth b w (Sequence vs) = refl
as_truth b w (Choice k x) = refl
as_truth b w (SeqOf vs) = refl

pub as_enumerator : (b : TypeId → Cells) (w : TypeId → Value → Cells) (names : _) (numbers : _) (v : Value-F Value) → write_sort b w (sort.Enumerated names numbers) v ≡ Cell (view.enumerator v)
as_enumerator b w names numbers (Int n) = refl
as_enumerator b w names numbers (Bool x) = refl
as_enumerator b w names numbers (Enumerated k) = refl
as_enumerator b w names numbers (Sequence vs) = refl
as_enumerator b w names numbers (Choice k x) = refl
as_enumerator b w names numbers (SeqOf vs) = refl

pub as_sequence : (b : TypeId → Cells) (w : TypeId → Value → Cells) (parts : List Part) (v : Value-F Value) → write_sort b w (sort.Sequence parts) v ≡ view.sequence b w parts (view.parts_of v)
as_sequence b w parts (Int n) = refl
as_sequence b w parts (Bool x) = refl
as_sequence b w parts (Enumerated k) = refl
as_sequence b w parts (Sequence vs) = refl
as_sequence b w parts (Choice k x) = refl
as_sequence b w parts (SeqOf vs) = refl

pub as_choice : (b : TypeId → Cells) (w : TypeId → Value → Cells) (parts : List Part) (v : Value-F Value)
    → write_sort b w (sort.Choice parts) v ≡ view.choice b w parts (view.number_of_choice v) (view.chosen v)
as_choice b w parts (Int n) = refl
as_choice b w parts (Bool x) = refl
as_choice b w parts (Enumerated k) = refl
as_choice b w parts (Sequence vs) = refl
as_choice b w parts (Choice k x) = refl
as_choice b w parts (SeqOf vs) = refl

pub zero_seq_is : (b : TypeId → Cells) (lo hi : ℕ) (item : TypeId) → blank_sort b (sort.SeqOf lo hi item) ≡ view.zero_seq_of b 0 hi item
zero_seq_is b lo zero item = refl
zero_seq_is b lo (suc hi) item = refl

pub as_seq_of : (b : TypeId → Cells) (w : TypeId → Value → Cells) (lo hi : ℕ) (item : TypeId) (v : Value-F Value)
    → write_sort b w (sort.SeqOf lo hi item) v ≡ view.seq_of b w hi item (view.items_of v)
as_seq_of b w lo hi item (Int n) = zero_seq_is b lo hi item
as_seq_of b w lo hi item (Bool x) = zero_seq_is b lo hi item
as_seq_of b w lo hi item (Enumerated k) = zero_seq_is b lo hi item
as_seq_of b w lo hi item (Sequence vs) = zero_seq_is b lo hi item
as_seq_of b w lo hi item (Choice k x) = zero_seq_is b lo hi item
as_seq_of b w lo hi item (SeqOf vs) = refl

pub as_opaque : (b : TypeId → Cells) (w : TypeId → Value → Cells) (v : Value-F Value) → write_sort b w sort.Opaque v ≡ Empty
as_opaque b w (Int n) = refl
as_opaque b w (Bool x) = refl
as_opaque b w (Enumerated k) = refl
as_opaque b w (Sequence vs) = refl
as_opaque b w (Choice k x) = refl
as_opaque b w (SeqOf vs) = refl

-- ---- cells that are 0

abbrev zeros : ℕ → List ℤ
zeros n = replicate n (pos 0)

zeros_more : (m n : ℕ) → zeros m ++ zeros n ≡ zeros (m + n)
zeros_more zero n = ap zeros (omega arith)
zeros_more (suc m) n = (let more : suc (m + n) ≡ suc m + n = omega arith in ap (λ l. pos 0 ∷ l) (zeros_more m n) ∙ ap zeros more)

abbrev Zeros : Cells → Type 0
Zeros c = numbers_of c ≡ zeros (count c)

both_zeros : (a b : Cells) → Zeros a → Zeros b → Zeros (Both a b)
both_zeros a b p q = ap (λ l. l ++ numbers_of b) p ∙ ap (λ l. zeros (count a) ++ l) q ∙ zeros_more (count a) (count b)

row_zeros : (b : TypeId → Cells) → ((t : TypeId) → Zeros (b t)) → (parts : List Part) → Zeros (row (map (λ (p : Part). b p.sort) parts))
row_zeros b z [] = refl
row_zeros b z (p ∷ parts) = both_zeros (b p.sort) (row (map (λ (q : Part). b q.sort) parts)) (z p.sort) (row_zeros b z parts)

equal_zeros : (n : ℕ) (c : Cells) → Zeros c → Zeros (equal_parts n c)
equal_zeros zero c z = refl
equal_zeros (suc n) c z = both_zeros c (equal_parts n c) z (equal_zeros n c z)

one_zero : Zeros (Cell (pos 0))
one_zero = refl

sort_zeros : (b : TypeId → Cells) → ((t : TypeId) → Zeros (b t)) → (s : Sort) → Zeros (blank_sort b s)
sort_zeros b z (sort.Int lo hi) = one_zero
sort_zeros b z sort.Bool = one_zero
sort_zeros b z (sort.Enumerated names numbers) = one_zero
sort_zeros b z (sort.Sequence []) = one_zero
sort_zeros b z (sort.Sequence (p ∷ parts)) = row_zeros b z (p ∷ parts)
sort_zeros b z (sort.Choice parts) = both_zeros (Cell (pos 0)) (row (map (λ (p : Part). b p.sort) parts)) one_zero (row_zeros b z parts)
sort_zeros b z (sort.SeqOf lo zero item) = both_zeros (Cell (pos 0)) Empty one_zero refl
sort_zeros b z (sort.SeqOf lo (suc hi) item) =
    both_zeros (Cell (pos 0)) (Both (equal_parts (suc hi) (b item)) Empty) one_zero (both_zeros (equal_parts (suc hi) (b item)) Empty (equal_zeros (suc hi) (b item) (z item)) refl)
sort_zeros b z sort.Opaque = refl

by_zeros : (b : TypeId → Cells) → ((t : TypeId) → Zeros (b t)) → (o : Option Sort) → Zeros (cells_by (blank_sort b) o)
by_zeros b z None = refl
by_zeros b z (Some s) = sort_zeros b z s

pub within_zeros : (depth : ℕ) (sorts : List Sort) (t : TypeId) → Zeros (blank_within depth sorts t)
within_zeros zero sorts t = refl
within_zeros (suc depth) sorts t = by_zeros (blank_within depth sorts) (within_zeros depth sorts) (slice_get sorts t.0)

-- ---- putting zeros

before_more : (xs : List ℤ) (at k : ℕ) → at ≤ k → overwritten at (zeros (k + 1 - at)) xs ≡ slice_set (overwritten at (zeros (k - at)) xs) k (pos 0)
before_more xs at k le =
    let more : k - at + 1 ≡ k + 1 - at = omega (arith, le) in
    let size : at + length (zeros (k - at)) ≡ k = (let n = length-replicate (k - at) (pos 0) in omega (arith, le, n)) in
    ap (λ n. overwritten at (zeros n) xs) (sym more)
    ∙ ap (λ l. overwritten at l xs) (sym (zeros_more (k - at) 1))
    ∙ overwritten-append (zeros (k - at)) (pos 0 ∷ []) xs at
    ∙ ap (λ n. slice_set (overwritten at (zeros (k - at)) xs) n (pos 0)) size

-- one zero more
pub clear_more : (old xs : List ℤ) (at k : ℕ) → at ≤ k → xs ≡ overwritten at (zeros (k - at)) old → slice_set xs k (pos 0) ≡ overwritten at (zeros (k + 1 - at)) old
clear_more old xs at k le e = ap (λ l. slice_set l k (pos 0)) e ∙ sym (before_more old at k le)

-- further zeros do nothing past the end
enough : (xs : List ℤ) (at m n : ℕ) → m ≤ n → length xs ≤ at + m → overwritten at (zeros m) xs ≡ overwritten at (zeros n) xs
enough xs at m n le past =
    let rest : m + (n - m) ≡ n = omega (arith, le) in
    let size = length-replicate m (pos 0) in
    let long = length-overwritten (zeros m) xs at in
    sym (ap (λ k. overwritten at (zeros k) xs) (sym rest)
    ∙ ap (λ l. overwritten at l xs) (sym (zeros_more m (n - m)))
    ∙ overwritten-append (zeros m) (zeros (n - m)) xs at
    ∙ overwritten_past (zeros (n - m)) (overwritten at (zeros m) xs) (at + length (zeros m)) (omega (arith, size, long, past)))

-- all zeros
pub clear_all : (old xs : List ℤ) (at k end width : ℕ) → at ≤ k → end ≡ min (at + width) (length old) → (at ≤ end → k ≤ end) → end ≤ k
    → xs ≡ overwritten at (zeros (k - at)) old → xs ≡ overwritten at (zeros width) old
clear_all old xs at k end width le place upper past e =
    elim (cases_lt end at) [
      | inl none ↦ e ∙ none_left none
      | inr some ↦ e ∙ some_left (upper some)
    ]
  where
    none_left : end < at → overwritten at (zeros (k - at)) old ≡ overwritten at (zeros width) old
    none_left none = overwritten_past (zeros (k - at)) old at (omega (arith, place, none)) ∙ sym (overwritten_past (zeros width) old at (omega (arith, place, none)))

    some_left : k ≤ end → overwritten at (zeros (k - at)) old ≡ overwritten at (zeros width) old
    some_left top =
        elim (cases_lt (at + width) (length old)) [
          | inl inside ↦ (let same : k - at ≡ width = omega (arith, place, inside, top, past, le) in ap (λ n. overwritten at (zeros n) old) same)
          | inr outside ↦ enough old at (k - at) width (omega (arith, place, top, le)) (omega (arith, place, outside, past))
        ]

counted_zeros : (xs : List ℤ) (at w n : ℕ) → w ≡ counted n → length xs < 2 ^ 64 → overwritten at (zeros w) xs ≡ overwritten at (zeros n) xs
unfolding up_to
counted_zeros xs at w n width fits =
    elim (cases_lt w n) [
      | inl less ↦ enough xs at w n (omega (arith, less)) (omega (arith, width, less, fits))
      | inr all ↦ (let same : w ≡ n = omega (arith, width, all) in ap (λ k. overwritten at (zeros k) xs) same)
    ]

-- cells that are 0
pub put_zeros : (c : Cells) (xs next : List ℤ) (at w : ℕ) → Zeros c → w ≡ counted (count c) → length xs < 2 ^ 64 → next ≡ overwritten at (zeros w) xs → next ≡ put_cells at c xs
put_zeros c xs next at w z width fits e = e ∙ counted_zeros xs at w (count c) width fits ∙ ap (λ l. overwritten at l xs) (sym z)

-- ---- cells one behind the other

pub put-Both : (a b : Cells) (at : ℕ) (xs : List ℤ) → put_cells at (Both a b) xs ≡ put_cells (at + count a) b (put_cells at a xs)
put-Both a b at xs = overwritten-append (numbers_of a) (numbers_of b) xs at ∙ ap (λ n. overwritten (at + n) (numbers_of b) (put_cells at a xs)) (length-numbers a)

length-put : (c : Cells) (xs : List ℤ) (at : ℕ) → length (put_cells at c xs) ≡ length xs
length-put c xs at = length-overwritten (numbers_of c) xs at

put_behind : (c : Cells) (xs : List ℤ) (at w n next : ℕ) → w ≡ counted n → next ≡ min (at + w) (length xs) → length xs < 2 ^ 64 → put_cells next c xs ≡ put_cells (at + n) c xs
put_behind c xs at w n next width place fits = overwritten_behind (numbers_of c) xs at w n next width place fits

-- two parts, where the place of the second one was found before the first one was put
pub both_put : (a b : Cells) (xs mid end : List ℤ) (at w first : ℕ) → mid ≡ put_cells at a xs → w ≡ counted (count a) → first ≡ min (at + w) (length xs) → length xs < 2 ^ 64
    → end ≡ put_cells first b mid → end ≡ put_cells at (Both a b) xs
both_put a b xs mid end at w first put width place fits more =
    let long : length mid ≡ length xs = ap length put ∙ length-put a xs at in
    more ∙ put_behind b mid at w (count a) first width (place ∙ ap (λ n. min (at + w) n) (sym long)) (omega (arith, long, fits))
    ∙ ap (put_cells (at + count a) b) put ∙ sym (put-Both a b at xs)

-- a number, and then cells
pub number_put : (z : ℤ) (b : Cells) (xs mid end : List ℤ) (at first : ℕ) → mid ≡ slice_set xs at z → first ≡ min (at + 1) (length xs) → length xs < 2 ^ 64
    → end ≡ put_cells first b mid → end ≡ put_cells at (Both (Cell z) b) xs
number_put z b xs mid end at first put place fits more = both_put (Cell z) b xs mid end at 1 first put (sym (up_to_small (2 ^ 64 - 1) 1 (omega arith))) place fits more

-- the next part, where its place is found behind the one before
next_put : (a b : Cells) (xs mid : List ℤ) (at w n next : ℕ) (total : List ℤ) → count a ≡ n → mid ≡ put_cells at a xs → w ≡ counted n → next ≡ min (at + w) (length mid)
    → length mid < 2 ^ 64 → put_cells at (Both a b) xs ≡ total → put_cells next b mid ≡ total
next_put a b xs mid at w n next total size put width place fits all =
    put_behind b mid at w n next width place fits ∙ ap (λ k. put_cells (at + k) b mid) (sym size) ∙ ap (put_cells (at + count a) b) put ∙ sym (put-Both a b at xs) ∙ all

-- ---- alternatives, numbered from a place on

abbrev pub alternatives_from : (TypeId → Cells) → (TypeId → Value → Cells) → ℕ → ℕ → Value → List Part → Cells
alternatives_from b w i k v [] = Empty
alternatives_from b w i k v (p ∷ parts) = Both (cond (nat_eq i k) (w p.sort v) (b p.sort)) (alternatives_from b w (i + 1) k v parts)

either_count : (b : Cells) (w : Value → Cells) → ((v : Value) → SameShape b (w v)) → (o : Option Value) → count (view.written_or b w o) ≡ count b
either_count b w same None = refl
either_count b w same (Some v) = sym (same_count b (w v) (same v))

parts_step : (b : TypeId → Cells) (w : TypeId → Value → Cells) (p : Part) (ps : List Part) (vs : List Value) (i j : ℕ) → suc i ≡ j
    → write_parts b w (p ∷ ps) (drop i vs) ≡ Both (view.written_or (b p.sort) (w p.sort) (slice_get vs i)) (write_parts b w ps (drop j vs))
parts_step b w p ps vs i j e = parts_by vs i ∙ ap (λ n. Both (view.written_or (b p.sort) (w p.sort) (slice_get vs i)) (write_parts b w ps (drop n vs))) e
  where
    parts_by : (vs : List Value) (i : ℕ) → write_parts b w (p ∷ ps) (drop i vs) ≡ Both (view.written_or (b p.sort) (w p.sort) (slice_get vs i)) (write_parts b w ps (drop (suc i) vs))
    parts_by [] zero = refl
    parts_by [] (suc i) = refl
    parts_by (v ∷ vs) zero = refl
    parts_by (v ∷ vs) (suc i) = parts_by vs i

items_step : (unused : Cells) (w : Value → Cells) (n : ℕ) (vs : List Value) (i : ℕ)
    → write_items unused w (suc n) (drop i vs) ≡ Both (view.written_or unused w (slice_get vs i)) (write_items unused w n (drop (suc i) vs))
items_step unused w n [] zero = refl
items_step unused w n [] (suc i) = refl
items_step unused w n (v ∷ vs) zero = refl
items_step unused w n (v ∷ vs) (suc i) = items_step unused w n vs i

module _ (b : TypeId → Cells) (w : TypeId → Value → Cells) (same : (t : TypeId) (v : Value) → SameShape (b t) (w t v)) where
  pub parts_more : (parts : List Part) (vs : List Value) (i at width next : ℕ) (d : Part) (xs mid total : List ℤ) → i < length parts
      → mid ≡ put_cells at (view.written_or (b (get_or parts i d).sort) (w (get_or parts i d).sort) (slice_get vs i)) xs → width ≡ counted (count (b (get_or parts i d).sort))
      → next ≡ min (at + width) (length mid) → length mid < 2 ^ 64 → put_cells at (write_parts b w (drop i parts) (drop i vs)) xs ≡ total
      → put_cells next (write_parts b w (drop (i + 1) parts) (drop (i + 1) vs)) mid ≡ total
  parts_more parts vs i at width next d xs mid total lt put size place fits left =
      let p = get_or parts i d in
      next_put (view.written_or (b p.sort) (w p.sort) (slice_get vs i)) (write_parts b w (drop (i + 1) parts) (drop (i + 1) vs)) xs mid at width (count (b p.sort)) next total
      (either_count (b p.sort) (w p.sort) (same p.sort) (slice_get vs i)) put size place fits
      (ap (λ c. put_cells at c xs) (sym (at_drop_more (λ ps. write_parts b w ps (drop i vs)) parts i d lt ∙ parts_step b w p (drop (i + 1) parts) vs i (i + 1) (omega arith))) ∙ left)

  pub parts_end : (parts : List Part) (vs : List Value) (i at : ℕ) (xs total : List ℤ) → length parts ≤ i → put_cells at (write_parts b w (drop i parts) (drop i vs)) xs ≡ total → xs ≡ total
  parts_end parts vs i at xs total le left = sym (ap (λ ps. put_cells at (write_parts b w ps (drop i vs)) xs) (drop_all i parts le)) ∙ left

  pub items_more : (item : TypeId) (hi : ℕ) (vs : List Value) (i at width next : ℕ) (xs mid total : List ℤ) → i < hi
      → mid ≡ put_cells at (view.written_or (b item) (w item) (slice_get vs i)) xs → width ≡ counted (count (b item))
      → next ≡ min (at + width) (length mid) → length mid < 2 ^ 64 → put_cells at (write_items (b item) (w item) (hi - i) (drop i vs)) xs ≡ total
      → put_cells next (write_items (b item) (w item) (hi - (i + 1)) (drop (i + 1) vs)) mid ≡ total
  items_more item hi vs i at width next xs mid total lt put size place fits left =
      let n : hi - i ≡ suc (hi - (i + 1)) = omega (arith, lt) in
      let more : suc i ≡ i + 1 = omega arith in
      next_put (view.written_or (b item) (w item) (slice_get vs i)) (write_items (b item) (w item) (hi - (i + 1)) (drop (i + 1) vs)) xs mid at width (count (b item)) next total
      (either_count (b item) (w item) (same item) (slice_get vs i)) put size place fits
      (ap (λ c. put_cells at c xs) (sym (ap (λ k. write_items (b item) (w item) k (drop i vs)) n ∙ items_step (b item) (w item) (hi - (i + 1)) vs i
      ∙ ap (λ k. Both (view.written_or (b item) (w item) (slice_get vs i)) (write_items (b item) (w item) (hi - (i + 1)) (drop k vs))) more)) ∙ left)

  pub items_end : (item : TypeId) (hi : ℕ) (vs : List Value) (i at : ℕ) (xs total : List ℤ) → hi ≤ i → put_cells at (write_items (b item) (w item) (hi - i) (drop i vs)) xs ≡ total → xs ≡ total
  items_end item hi vs i at xs total le left =
      let none : hi - i ≡ 0 = omega (arith, le) in sym (ap (λ n. put_cells at (write_items (b item) (w item) n (drop i vs)) xs) none) ∙ left

  chosen_count : (p : Part) (v : Value) (t : prelude.Bool) → count (cond t (w p.sort v) (b p.sort)) ≡ count (b p.sort)
  chosen_count p v prelude.true = sym (same_count (b p.sort) (w p.sort v) (same p.sort v))
  chosen_count p v prelude.false = refl

  pub alternatives_more : (parts : List Part) (k : ℕ) (v : Value) (i at width next : ℕ) (d : Part) (xs mid total : List ℤ) → i < length parts
      → mid ≡ put_cells at (cond (nat_eq i k) (w (get_or parts i d).sort v) (b (get_or parts i d).sort)) xs → width ≡ counted (count (b (get_or parts i d).sort))
      → next ≡ min (at + width) (length mid) → length mid < 2 ^ 64 → put_cells at (alternatives_from b w i k v (drop i parts)) xs ≡ total
      → put_cells next (alternatives_from b w (i + 1) k v (drop (i + 1) parts)) mid ≡ total
  alternatives_more parts k v i at width next d xs mid total lt put size place fits left =
      let p = get_or parts i d in
      next_put (cond (nat_eq i k) (w p.sort v) (b p.sort)) (alternatives_from b w (i + 1) k v (drop (i + 1) parts)) xs mid at width (count (b p.sort)) next total
      (chosen_count p v (nat_eq i k)) put size place fits
      (ap (λ c. put_cells at c xs) (sym (at_drop_more (λ ps. alternatives_from b w i k v ps) parts i d lt)) ∙ left)

  pub alternatives_end : (parts : List Part) (k : ℕ) (v : Value) (i at : ℕ) (xs total : List ℤ) → length parts ≤ i → put_cells at (alternatives_from b w i k v (drop i parts)) xs ≡ total → xs ≡ total
  alternatives_end parts k v i at xs total le left = sym (ap (λ ps. put_cells at (alternatives_from b w i k v ps) xs) (drop_all i parts le)) ∙ left

same_place : (i j : ℕ) → i ≡ j → nat_eq i j ≡ prelude.true
same_place i j e = grind (arith, nat_tests)

other_place : (i j : ℕ) → i ≢ j → nat_eq i j ≡ prelude.false
other_place i j ne = grind (arith, nat_tests)

passed : (b : TypeId → Cells) (w : TypeId → Value → Cells) (parts : List Part) (i k : ℕ) (v : Value) → k < i → alternatives_from b w i k v parts ≡ row (map (λ (p : Part). b p.sort) parts)
passed b w [] i k v lt = refl
passed b w (p ∷ parts) i k v lt =
    ap (λ t. Both (cond t (w p.sort v) (b p.sort)) (alternatives_from b w (i + 1) k v parts)) (other_place i k (omega (arith, lt)))
    ∙ ap (Both (b p.sort)) (passed b w parts (i + 1) k v (omega (arith, lt)))

numbered : (b : TypeId → Cells) (w : TypeId → Value → Cells) (parts : List Part) (i k n : ℕ) (v : Value) → n ≡ i + k → alternatives_from b w i n v parts ≡ write_alternatives b w parts k v
numbered b w [] i zero n v e = refl
numbered b w [] i (suc k) n v e = refl
numbered b w (p ∷ parts) i zero n v e =
    ap (λ t. Both (cond t (w p.sort v) (b p.sort)) (alternatives_from b w (i + 1) n v parts)) (same_place i n (omega (arith, e)))
    ∙ ap (Both (w p.sort v)) (passed b w parts (i + 1) n v (omega (arith, e)))
numbered b w (p ∷ parts) i (suc k) n v e =
    ap (λ t. Both (cond t (w p.sort v) (b p.sort)) (alternatives_from b w (i + 1) n v parts)) (other_place i n (omega (arith, e)))
    ∙ ap (Both (b p.sort)) (numbered b w parts (i + 1) k n v (omega (arith, e)))

pub alternatives_is : (b : TypeId → Cells) (w : TypeId → Value → Cells) (parts : List Part) (k : ℕ) (v : Value) → alternatives_from b w 0 k v parts ≡ write_alternatives b w parts k v
alternatives_is b w parts k v = numbered b w parts 0 k k v (omega arith)

-- ---- types with parts, all 0

pub choice_cleared : (depth : ℕ) (sorts : List Sort) (parts : List Part) (xs mid end : List ℤ) (at first w : ℕ) → mid ≡ slice_set xs at (pos 0) → first ≡ min (at + 1) (length xs)
    → length xs < 2 ^ 64 → length mid < 2 ^ 64 → w ≡ counted (count (row (map (λ (p : Part). blank_within depth sorts p.sort) parts))) → end ≡ overwritten first (replicate w (pos 0)) mid
    → end ≡ put_cells at (view.zero_choice (blank_within depth sorts) parts) xs
choice_cleared depth sorts parts xs mid end at first w put place fits fits' width cleared =
    let others = row (map (λ (p : Part). blank_within depth sorts p.sort) parts) in
    number_put (pos 0) others xs mid end at first put place fits
    (put_zeros others mid end first w (row_zeros (blank_within depth sorts) (within_zeros depth sorts) parts) width fits' cleared)

pub seq_of_cleared : (depth : ℕ) (sorts : List Sort) (hi : ℕ) (item : TypeId) (xs mid end : List ℤ) (at first v w : ℕ) → mid ≡ slice_set xs at (pos 0) → first ≡ min (at + 1) (length xs)
    → length xs < 2 ^ 64 → length mid < 2 ^ 64 → v ≡ counted (count (blank_within depth sorts item)) → w ≡ min (v * hi) (2 ^ 64 - 1) → end ≡ overwritten first (replicate w (pos 0)) mid
    → end ≡ put_cells at (view.zero_seq_of (blank_within depth sorts) 0 hi item) xs
seq_of_cleared depth sorts zero item xs mid end at first v w put place fits fits' one width cleared =
    let none : w ≡ 0 = omega (arith, width) in
    number_put (pos 0) Empty xs mid end at first put place fits (cleared ∙ ap (λ n. overwritten first (zeros n) mid) none)
seq_of_cleared depth sorts (suc hi) item xs mid end at first v w put place fits fits' one width cleared =
    let array : Cells = Both (equal_parts (suc hi) (blank_within depth sorts item)) Empty in
    let size : count (blank_within depth sorts item) * suc hi ≡ count array = (let n = count_equal (suc hi) (blank_within depth sorts item) in omega (arith, n)) in
    let all : w ≡ counted (count array) = product_width (suc hi) (count (blank_within depth sorts item)) v w one width ∙ ap counted size in
    number_put (pos 0) array xs mid end at first put place fits
    (put_zeros array mid end first w
    (both_zeros (equal_parts (suc hi) (blank_within depth sorts item)) Empty (equal_zeros (suc hi) (blank_within depth sorts item) (within_zeros depth sorts item)) refl) all fits' cleared)

pub sequence_cleared : (depth : ℕ) (sorts : List Sort) (parts : List Part) (xs end : List ℤ) (at w : ℕ) → (parts ≡ [] → ⊥) → length xs < 2 ^ 64
    → w ≡ counted (count (row (map (λ (p : Part). blank_within depth sorts p.sort) parts))) → end ≡ overwritten at (replicate w (pos 0)) xs
    → end ≡ put_cells at (view.zero_sequence (blank_within depth sorts) parts) xs
sequence_cleared depth sorts [] xs end at w ne fits width cleared = absurd (ne refl)
sequence_cleared depth sorts (p ∷ parts) xs end at w ne fits width cleared =
    put_zeros (row (map (λ (q : Part). blank_within depth sorts q.sort) (p ∷ parts))) xs end at w (row_zeros (blank_within depth sorts) (within_zeros depth sorts) (p ∷ parts)) width fits cleared

pub not_empty : (parts : List Part) → prelude.false ≡ (length parts == 0) → parts ≡ [] → ⊥
not_empty parts e none = false≢true (e ∙ ap (λ ps. length ps == 0) none)

-- a length, and then items
pub items_put : (b : TypeId → Cells) (w : TypeId → Value → Cells) (hi : ℕ) (item : TypeId) (vs : List Value) (xs mid end : List ℤ) (at first : ℕ) → mid ≡ slice_set xs at (pos (length vs))
    → first ≡ min (at + 1) (length xs) → length xs < 2 ^ 64 → end ≡ put_cells first (write_items (b item) (w item) hi vs) mid → end ≡ put_cells at (view.seq_of b w hi item (Some vs)) xs
items_put b w zero item vs xs mid end at first put place fits more = number_put (pos (length vs)) Empty xs mid end at first put place fits more
items_put b w (suc hi) item vs xs mid end at first put place fits more =
    number_put (pos (length vs)) (Both (write_items (b item) (w item) (suc hi) vs) Empty) xs mid end at first put place fits
    (more ∙ ap (λ l. overwritten first l mid) (sym (append-nil (numbers_of (write_items (b item) (w item) (suc hi) vs)))))

pub ruleset writing = (written_none, written_unknown, written_known, cells_is, as_integer, as_truth, as_enumerator, as_sequence, as_choice, zero_seq_is, as_seq_of, as_opaque, outs-Int, outs-Bool, outs-Enumerated, outs-Sequence, outs-Choice, outs-SeqOf)
