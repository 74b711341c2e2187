-- Cells of one shape: those of a type and those of a value of it.
use Rattle.std.proofs.Common.{◌≡◌, ℕ, zero, suc, ◌+◌, ◌<◌, ◌≤◌, ℤ, pos, List, [], ◌∷◌, ◌++◌, length, map, replicate, get_or, Option, Some, None, slice_get, refl, sym, ap, ◌∙◌, subst, arith, length-append, append_assoc}
use Rattle.std.proofs.lemmas.List.{get_or_append_left, get_or-append-add, length-replicate}
use Rattle.og_types.specs.declared.Part.{Part}
use Rattle.og_types.specs.declared.Sort.{Sort}
use Rattle.og_types.specs.declared.Sort.TheVariants as sort
use Rattle.og_types.specs.declared.TypeId.{TypeId}
use Rattle.og_types.specs.declared.Value.{Value, out-Value}
use Rattle.og_types.specs.declared.Value.TheOpen.{Value-F, Int, Bool, Enumerated, Sequence, Choice, SeqOf}
use Rattle.og_ir.specs.Cells.{Cells, Cell, Empty, Both, row, equal_parts, cells_by, count, part_at, put_at}
use Rattle.og_ir.specs.Reading as reading
use Rattle.og_ir.specs.Reading.{blank, blank_within, blank_sort, write_within, write_sort, write_parts, write_items, write_alternatives}
use Rattle.og_ccells.specs.Vectors.{filled, numbers_of, numbers_before_path, put_cells, SameShape}
use Rattle.og_ccells.proofs.Filling.{number, same_numbers, Written, path_inside, put_filled}
use Rattle.og_ccells.proofs.Overwriting.{overwritten_written}

pub same_self : (c : Cells) → SameShape c c
same_self (Cell z) = tt
same_self Empty = tt
same_self (Both a b) = (same_self a, same_self b)

pub same_count : (s c : Cells) → SameShape s c → count s ≡ count c
same_count (Cell z) (Cell w) h = refl
same_count (Cell z) Empty h = absurd h
same_count (Cell z) (Both c d) h = absurd h
same_count Empty (Cell w) h = absurd h
same_count Empty Empty h = refl
same_count Empty (Both c d) h = absurd h
same_count (Both a b) (Cell w) h = absurd h
same_count (Both a b) Empty h = absurd h
same_count (Both a b) (Both c d) h = let p = same_count a c h.0 in let q = same_count b d h.1 in omega (arith, p, q)

pub length-numbers : (c : Cells) → length (numbers_of c) ≡ count c
length-numbers (Cell z) = omega arith
length-numbers Empty = refl
length-numbers (Both a b) = length-append (numbers_of a) (numbers_of b) ∙ ap (λ n. n + length (numbers_of b)) (length-numbers a) ∙ ap (λ n. count a + n) (length-numbers b)

in_front : (c : Cells) (xs : List ℤ) (k : ℕ) → k < count c → number (numbers_of c ++ xs) (0 + k) ≡ number (numbers_of c) (0 + k)
in_front c xs k lt = let n = length-numbers c in get_or_append_left (numbers_of c) xs (pos 0) (0 + k) (omega (arith, n, lt))

in_back : (c : Cells) (xs : List ℤ) (k : ℕ) → number (numbers_of c ++ xs) (0 + count c + k) ≡ number xs (0 + k)
in_back c xs k =
    let n = length-numbers c in
    let place : 0 + count c + k ≡ length (numbers_of c) + k = omega (arith, n) in
    ap (number (numbers_of c ++ xs)) place ∙ get_or-append-add (numbers_of c) xs k (pos 0) ∙ ap (number xs) (omega arith)

-- cells by their shape and numbers
pub refilled : (s c : Cells) → SameShape s c → filled 0 s (numbers_of c) ≡ c
refilled (Cell z) (Cell w) h = refl
refilled (Cell z) Empty h = absurd h
refilled (Cell z) (Both c d) h = absurd h
refilled Empty (Cell w) h = absurd h
refilled Empty Empty h = refl
refilled Empty (Both c d) h = absurd h
refilled (Both a b) (Cell w) h = absurd h
refilled (Both a b) Empty h = absurd h
refilled (Both a b) (Both c d) h =
    let size = same_count a c h.0 in
    ap (λ x. Both x (filled (0 + count a) b (numbers_of c ++ numbers_of d)))
    (same_numbers a 0 0 (numbers_of c ++ numbers_of d) (numbers_of c) (λ k lt. in_front c (numbers_of d) k (omega (arith, lt, size))) ∙ refilled a c h.0)
    ∙ ap (Both c)
    (same_numbers b (0 + count a) 0 (numbers_of c ++ numbers_of d) (numbers_of d) (λ k lt. ap (λ n. number (numbers_of c ++ numbers_of d) (0 + n + k)) size ∙ in_back c (numbers_of d) k)
    ∙ refilled b d h.1)

-- ---- the cells of a value

module _ (blank : TypeId → Cells) (write : TypeId → Value → Cells) (same : (t : TypeId) (v : Value) → SameShape (blank t) (write t v)) where
  parts_shape : (parts : List Part) (vs : List Value) → SameShape (row (map (λ (p : Part). blank p.sort) parts)) (write_parts blank write parts vs)
  parts_shape [] vs = tt
  parts_shape (p ∷ parts) [] = (same_self (blank p.sort), parts_shape parts [])
  parts_shape (p ∷ parts) (v ∷ vs) = (same p.sort v, parts_shape parts vs)

  alternatives_shape : (parts : List Part) (k : ℕ) (v : Value) → SameShape (row (map (λ (p : Part). blank p.sort) parts)) (write_alternatives blank write parts k v)
  alternatives_shape [] k v = tt
  alternatives_shape (p ∷ parts) zero v = (same p.sort v, same_self (row (map (λ (q : Part). blank q.sort) parts)))
  alternatives_shape (p ∷ parts) (suc k) v = (same_self (blank p.sort), alternatives_shape parts k v)

  items_shape : (item : TypeId) (n : ℕ) (vs : List Value) → SameShape (equal_parts n (blank item)) (write_items (blank item) (write item) n vs)
  items_shape item zero vs = tt
  items_shape item (suc n) [] = (same_self (blank item), items_shape item n [])
  items_shape item (suc n) (v ∷ vs) = (same item v, items_shape item n vs)

  sequence_shape : (parts : List Part) (vs : List Value) → SameShape (blank_sort blank (sort.Sequence parts)) (reading.write_sequence blank write parts vs)
  sequence_shape [] vs = tt
  sequence_shape (p ∷ parts) vs = parts_shape (p ∷ parts) vs

  seq_of_shape : (lo hi : ℕ) (item : TypeId) (vs : List Value) → SameShape (blank_sort blank (sort.SeqOf lo hi item)) (reading.write_seq_of (blank item) (write item) hi vs)
  seq_of_shape lo zero item vs = (tt, tt)
  seq_of_shape lo (suc hi) item vs = (tt, (items_shape item (suc hi) vs, tt))

  sort_shape : (s : Sort) (v : Value-F Value) → SameShape (blank_sort blank s) (write_sort blank write s v)
  sort_shape (sort.Int lo hi) (Int n) = tt
  sort_shape sort.Bool (Bool b) = tt
  sort_shape (sort.Enumerated names numbers) (Enumerated k) = tt
  sort_shape (sort.Sequence parts) (Sequence vs) = sequence_shape parts vs
  sort_shape (sort.Choice parts) (Choice k v) = (tt, alternatives_shape parts k v)
  sort_shape (sort.SeqOf lo hi item) (SeqOf vs) = seq_of_shape lo hi item vs
  sort_shape s v = same_self (blank_sort blank s)

  by_shape : (s : Option Sort) (v : Value) → SameShape (cells_by (blank_sort blank) s) (cells_by (λ r. write_sort blank write r (out-Value v)) s)
  by_shape None v = tt
  by_shape (Some s) v = sort_shape s (out-Value v)

pub within_shape : (depth : ℕ) (sorts : List Sort) (t : TypeId) (v : Value) → SameShape (blank_within depth sorts t) (write_within depth sorts t v)
within_shape zero sorts t v = tt
within_shape (suc depth) sorts t v = by_shape (blank_within depth sorts) (write_within depth sorts) (within_shape depth sorts) (slice_get sorts t.0) v

pub value_shape : (sorts : List Sort) (t : TypeId) (v : Value) → SameShape (blank sorts t) (reading.cells_of sorts t v)
unfolding blank reading.cells_of
value_shape sorts t v = within_shape (t.0 + 1) sorts t v

-- cells of the shape of a part, put where it stands
pub part_put : (s p new : Cells) (path : List ℕ) (at : ℕ) (xs : List ℤ) → part_at path s ≡ Some p → SameShape p new → at + count s ≤ length xs
    → put_at path new (filled at s xs) ≡ filled at s (put_cells (at + numbers_before_path path s) new xs)
part_put s p new path at xs found same fits =
    let inside = path_inside path s p found in
    let size = same_count p new same in
    let long = length-numbers new in
    let W : ℕ → Type 0 = λ n. Written xs (put_cells (at + numbers_before_path path s) new xs) (numbers_of new) (at + numbers_before_path path s) 0 n in
    let width : length (numbers_of new) ≡ count p = long ∙ sym size in
    ap (λ c. put_at path c (filled at s xs)) (sym (refilled p new same))
    ∙ put_filled path s at p xs (put_cells (at + numbers_before_path path s) new xs) (numbers_of new) 0 found
    (subst W width (overwritten_written (numbers_of new) xs (at + numbers_before_path path s) (omega (arith, inside, size, long, fits))))
