-- The cells of a value of a type (X.680). An integer, a truth value and an enumerator are one number, FALSE being 0, TRUE
-- being 1, and an enumerator its place in the text from 0. A sequence is a row of its parts, and one number where it has no
-- part. A choice is a row of the number of its alternative and of all alternatives. A sequence of items is a row of its
-- length and of an array of its greatest length, which is left out where that is 0. Cells of alternatives that are not
-- chosen and of items past the length may hold anything. A type refers to types of smaller numbers: so a type of number k
-- is looked at by going down at most k + 1 times.
use Rattle.std.specs.Prelude.{ℕ, zero, suc, ◌+◌, ℤ, pos, negsuc, List, [], ◌∷◌, Option, Some, None, Bool, if◌then◌else◌, ◌&&◌, ◌==◌, int_le, nat_lt, nat_le, length, map, slice_get}
use Rattle.og_types.specs.declared.Part.{Part}
use Rattle.og_types.specs.declared.Sort.{Sort}
use Rattle.og_types.specs.declared.Sort.TheVariants as sort
use Rattle.og_types.specs.declared.TypeId.{TypeId}
use Rattle.og_types.specs.declared.Value.{Value, out-Value}
use Rattle.og_types.specs.declared.Value.TheVariants as made
use Rattle.og_types.specs.declared.Value.TheOpen as value
use Rattle.og_types.specs.declared.Value.TheOpen.{Value-F}
use Rattle.og_ir.specs.Cells.{◌>>=◌, Cells, Cell, Empty, Both, row, equal_parts, number_in, part, cells_by}

-- a number from 0 up
abbrev pub natural : ℤ → Option ℕ
natural (pos n) = Some n
natural (negsuc n) = None

-- the value, if the test holds
abbrev pub only_if : {A : Type 0} → Bool → A → Option A
only_if b x = if b then Some x else None

-- a number below a bound
abbrev pub below : ℕ → ℤ → Option ℕ
below bound z = natural z >>= λ n. only_if (nat_lt n bound) n

-- FALSE is 0, and TRUE is 1
abbrev pub truth_in : ℤ → Option Bool
truth_in z = below 2 z >>= λ n. Some (n == 1)

-- the values of the parts, one after the other
abbrev pub read_parts : (TypeId → Cells → Option Value) → List Part → Cells → Option (List Value)
read_parts read [] cells = Some []
read_parts read (p ∷ parts) (Cell n) = None
read_parts read (p ∷ parts) Empty = None
read_parts read (p ∷ parts) (Both first others) = do
  v ← read p.sort first
  vs ← read_parts read parts others
  Some (v ∷ vs)

-- the values of the first items
abbrev pub read_items : (Cells → Option Value) → ℕ → Cells → Option (List Value)
read_items read zero cells = Some []
read_items read (suc n) (Cell z) = None
read_items read (suc n) Empty = None
read_items read (suc n) (Both first others) = do
  v ← read first
  vs ← read_items read n others
  Some (v ∷ vs)

-- a sequence without parts is any number
abbrev pub read_sequence : (TypeId → Cells → Option Value) → List Part → Cells → Option Value
read_sequence read [] cells = number_in cells >>= λ _. Some (made.Sequence [])
read_sequence read (p ∷ parts) cells = read_parts read (p ∷ parts) cells >>= λ vs. Some (made.Sequence vs)

-- the value of the alternative of this number
abbrev pub read_choice : (TypeId → Cells → Option Value) → List Part → Cells → Option Value
read_choice read parts (Cell n) = None
read_choice read parts Empty = None
read_choice read parts (Both first others) = do
  z ← number_in first
  k ← natural z
  p ← slice_get parts k
  cells ← part k others
  v ← read p.sort cells
  Some (made.Choice k v)

-- the first items of the array, which is left out where there are none
abbrev pub read_array : (Cells → Option Value) → ℕ → Cells → Option (List Value)
read_array read zero cells = Some []
read_array read (suc n) (Cell z) = None
read_array read (suc n) Empty = None
read_array read (suc n) (Both array others) = read_items read (suc n) array

-- as many items as the length says, if the size is allowed
abbrev pub read_seq_of : (Cells → Option Value) → ℕ → ℕ → Cells → Option Value
read_seq_of read lo hi (Cell n) = None
read_seq_of read lo hi Empty = None
read_seq_of read lo hi (Both first others) = do
  z ← number_in first
  n ← natural z
  len ← only_if (nat_le lo n && nat_le n hi) n
  items ← read_array read len others
  Some (made.SeqOf items)

-- the value of a type, where the parts' types are read so
abbrev pub read_sort : (TypeId → Cells → Option Value) → Sort → Cells → Option Value
read_sort read (sort.Int lo hi) cells = number_in cells >>= λ z. only_if (int_le lo z && int_le z hi) (made.Int z)
read_sort read sort.Bool cells = number_in cells >>= truth_in >>= λ b. Some (made.Bool b)
read_sort read (sort.Enumerated names numbers) cells =
    number_in cells >>= below (length names) >>= λ k. Some (made.Enumerated k)
read_sort read (sort.Sequence parts) cells = read_sequence read parts cells
read_sort read (sort.Choice parts) cells = read_choice read parts cells
read_sort read (sort.SeqOf lo hi item) cells = read_seq_of (read item) lo hi cells
read_sort read sort.Opaque cells = None

-- the same, going down at most so many times
abbrev pub read_within : ℕ → List Sort → TypeId → Cells → Option Value
read_within zero sorts t cells = None
read_within (suc depth) sorts t cells = slice_get sorts t.0 >>= λ s. read_sort (read_within depth sorts) s cells

-- the value of the type that the cells hold, where they hold one
unfoldable pub value_in : List Sort → TypeId → Cells → Option Value
value_in sorts t cells = read_within (t.0 + 1) sorts t cells

-- each cell of the type is 0
abbrev pub blank_sort : (TypeId → Cells) → Sort → Cells
blank_sort blank (sort.Int lo hi) = Cell (pos 0)
blank_sort blank sort.Bool = Cell (pos 0)
blank_sort blank (sort.Enumerated names numbers) = Cell (pos 0)
blank_sort blank (sort.Sequence []) = Cell (pos 0)
blank_sort blank (sort.Sequence (p ∷ parts)) = row (map (λ q. blank q.sort) (p ∷ parts))
blank_sort blank (sort.Choice parts) = Both (Cell (pos 0)) (row (map (λ p. blank p.sort) parts))
blank_sort blank (sort.SeqOf lo zero item) = Both (Cell (pos 0)) Empty
blank_sort blank (sort.SeqOf lo (suc hi) item) = Both (Cell (pos 0)) (Both (equal_parts (suc hi) (blank item)) Empty)
blank_sort blank sort.Opaque = Empty

abbrev pub blank_within : ℕ → List Sort → TypeId → Cells
blank_within zero sorts t = Empty
blank_within (suc depth) sorts t = cells_by (blank_sort (blank_within depth sorts)) (slice_get sorts t.0)

-- the cells of a type, each of them 0
unfoldable pub blank : List Sort → TypeId → Cells
blank sorts t = blank_within (t.0 + 1) sorts t

-- the values of the parts in their cells, and 0 where there is none
abbrev pub write_parts : (TypeId → Cells) → (TypeId → Value → Cells) → List Part → List Value → Cells
write_parts blank write [] vs = Empty
write_parts blank write (p ∷ parts) [] = Both (blank p.sort) (write_parts blank write parts [])
write_parts blank write (p ∷ parts) (v ∷ vs) = Both (write p.sort v) (write_parts blank write parts vs)

-- the value of one alternative, and 0 in the others
abbrev pub write_alternatives : (TypeId → Cells) → (TypeId → Value → Cells) → List Part → ℕ → Value → Cells
write_alternatives blank write [] k v = Empty
write_alternatives blank write (p ∷ parts) zero v = Both (write p.sort v) (row (map (λ q. blank q.sort) parts))
write_alternatives blank write (p ∷ parts) (suc k) v =
    Both (blank p.sort) (write_alternatives blank write parts k v)

-- the items, and 0 past them
abbrev pub write_items : Cells → (Value → Cells) → ℕ → List Value → Cells
write_items unused write zero vs = Empty
write_items unused write (suc n) [] = Both unused (write_items unused write n [])
write_items unused write (suc n) (v ∷ vs) = Both (write v) (write_items unused write n vs)

abbrev pub write_sequence : (TypeId → Cells) → (TypeId → Value → Cells) → List Part → List Value → Cells
write_sequence blank write [] vs = Cell (pos 0)
write_sequence blank write (p ∷ parts) vs = write_parts blank write (p ∷ parts) vs

abbrev pub write_seq_of : Cells → (Value → Cells) → ℕ → List Value → Cells
write_seq_of unused write zero vs = Both (Cell (pos (length vs))) Empty
write_seq_of unused write (suc hi) vs =
    Both (Cell (pos (length vs))) (Both (write_items unused write (suc hi) vs) Empty)

-- a value in the cells of its type, with 0 in cells that it does not use; a value of another kind leaves them 0
abbrev pub write_sort : (TypeId → Cells) → (TypeId → Value → Cells) → Sort → Value-F Value → Cells
write_sort blank write (sort.Int lo hi) (value.Int n) = Cell n
write_sort blank write sort.Bool (value.Bool b) = Cell (pos (if b then 1 else 0))
write_sort blank write (sort.Enumerated names numbers) (value.Enumerated k) = Cell (pos k)
write_sort blank write (sort.Sequence parts) (value.Sequence vs) = write_sequence blank write parts vs
write_sort blank write (sort.Choice parts) (value.Choice k v) =
    Both (Cell (pos k)) (write_alternatives blank write parts k v)
write_sort blank write (sort.SeqOf lo hi item) (value.SeqOf vs) = write_seq_of (blank item) (write item) hi vs
write_sort blank write s v = blank_sort blank s

abbrev pub write_within : ℕ → List Sort → TypeId → Value → Cells
write_within zero sorts t v = Empty
write_within (suc depth) sorts t v =
    cells_by (λ s. write_sort (blank_within depth sorts) (write_within depth sorts) s (out-Value v)) (slice_get sorts t.0)

-- the cells of a type that hold a value of it
unfoldable pub cells_of : List Sort → TypeId → Value → Cells
cells_of sorts t v = write_within (t.0 + 1) sorts t v
