-- The cells of a type with parts, each of them 0, and the cells of a value by the kind of its type: of a value of another kind
-- each cell is 0.
use Rattle.std.specs.Prelude.{ℕ, zero, suc, ℤ, pos, List, Option, Some, None, if◌then◌else◌, int_le, ◌&&◌}
use Rattle.og_types.specs.declared.Part.{Part}
use Rattle.og_types.specs.declared.Sort.TheVariants as sort
use Rattle.og_types.specs.declared.TypeId.{TypeId}
use Rattle.og_types.specs.declared.Value.{Value}
use Rattle.og_types.specs.declared.Value.TheOpen.{Value-F, Int, Bool, Enumerated, Sequence, Choice, SeqOf}
use Rattle.og_types.specs.declared.Value.TheVariants as made
use Rattle.og_ir.specs.Cells.{◌>>=◌, Cells, Cell, Both}
use Rattle.og_ir.specs.Reading.{only_if, truth_in, below, blank_sort, write_sequence, write_alternatives, write_seq_of}

abbrev pub zero_sequence : (TypeId → Cells) → List Part → Cells
zero_sequence blank parts = blank_sort blank (sort.Sequence parts)

abbrev pub zero_choice : (TypeId → Cells) → List Part → Cells
zero_choice blank parts = blank_sort blank (sort.Choice parts)

abbrev pub zero_seq_of : (TypeId → Cells) → ℕ → ℕ → TypeId → Cells
zero_seq_of blank lo hi item = blank_sort blank (sort.SeqOf lo hi item)

-- ---- values that are one number

abbrev pub integer_at : ℤ → ℤ → ℤ → Option Value
integer_at lo hi z = only_if (int_le lo z && int_le z hi) (made.Int z)

abbrev pub truth_at : ℤ → Option Value
truth_at z = truth_in z >>= λ b. Some (made.Bool b)

abbrev pub enumerator_at : ℕ → ℤ → Option Value
enumerator_at bound z = below bound z >>= λ k. Some (made.Enumerated k)

-- ---- values

abbrev pub integer : Value-F Value → ℤ
integer (Int n) = n
integer (Bool b) = pos 0
integer (Enumerated k) = pos 0
integer (Sequence vs) = pos 0
integer (Choice k v) = pos 0
integer (SeqOf vs) = pos 0

abbrev pub truth : Value-F Value → ℤ
truth (Int n) = pos 0
truth (Bool b) = pos (if b then 1 else 0)
truth (Enumerated k) = pos 0
truth (Sequence vs) = pos 0
truth (Choice k v) = pos 0
truth (SeqOf vs) = pos 0

abbrev pub enumerator : Value-F Value → ℤ
enumerator (Int n) = pos 0
enumerator (Bool b) = pos 0
enumerator (Enumerated k) = pos k
enumerator (Sequence vs) = pos 0
enumerator (Choice k v) = pos 0
enumerator (SeqOf vs) = pos 0

-- the values of a sequence's parts
abbrev pub parts_of : Value-F Value → Option (List Value)
parts_of (Int n) = None
parts_of (Bool b) = None
parts_of (Enumerated k) = None
parts_of (Sequence vs) = Some vs
parts_of (Choice k v) = None
parts_of (SeqOf vs) = None

abbrev pub number_of_choice : Value-F Value → Option ℕ
number_of_choice (Int n) = None
number_of_choice (Bool b) = None
number_of_choice (Enumerated k) = None
number_of_choice (Sequence vs) = None
number_of_choice (Choice k v) = Some k
number_of_choice (SeqOf vs) = None

abbrev pub chosen : Value-F Value → Option Value
chosen (Int n) = None
chosen (Bool b) = None
chosen (Enumerated k) = None
chosen (Sequence vs) = None
chosen (Choice k v) = Some v
chosen (SeqOf vs) = None

abbrev pub items_of : Value-F Value → Option (List Value)
items_of (Int n) = None
items_of (Bool b) = None
items_of (Enumerated k) = None
items_of (Sequence vs) = None
items_of (Choice k v) = None
items_of (SeqOf vs) = Some vs

-- the value, or the cells that are 0
abbrev pub written_or : Cells → (Value → Cells) → Option Value → Cells
written_or unused write None = unused
written_or unused write (Some v) = write v

abbrev pub sequence : (TypeId → Cells) → (TypeId → Value → Cells) → List Part → Option (List Value) → Cells
sequence blank write parts None = zero_sequence blank parts
sequence blank write parts (Some vs) = write_sequence blank write parts vs

abbrev pub choice : (TypeId → Cells) → (TypeId → Value → Cells) → List Part → Option ℕ → Option Value → Cells
choice blank write parts None inner = zero_choice blank parts
choice blank write parts (Some k) None = zero_choice blank parts
choice blank write parts (Some k) (Some v) = Both (Cell (pos k)) (write_alternatives blank write parts k v)

abbrev pub seq_of : (TypeId → Cells) → (TypeId → Value → Cells) → ℕ → TypeId → Option (List Value) → Cells
seq_of blank write hi item None = zero_seq_of blank 0 hi item
seq_of blank write hi item (Some vs) = write_seq_of (blank item) (write item) hi vs
