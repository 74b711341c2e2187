-- What a global of a program, or a slot of flat code, holds (C99 6.2.5): one number, or the cells of the members of a
-- struct, or of the elements of an array, one after the other. A part of it is found by a path of numbers from the outside
-- inward, each the place of a member or of an element, counted from 0.
use Rattle.std.specs.Prelude.{ℕ, zero, suc, ◌+◌, ℤ, List, [], ◌∷◌, Option, Some, None}

infixl 10 ◌>>=◌
-- goes on with a value where there is one
abbrev pub ◌>>=◌ : {A B : Type 0} → Option A → (A → Option B) → Option B
None >>= f = None
(Some x) >>= f = f x

-- A row of cells is Empty, or its first part and the others.
pub data Cells : Type 0 where
  Cell : (number : ℤ) → Cells
  Empty : Cells
  Both : (first others : Cells) → Cells

-- the parts one after the other
abbrev pub row : List Cells → Cells
row [] = Empty
row (part ∷ parts) = Both part (row parts)

-- so many equal parts
abbrev pub equal_parts : ℕ → Cells → Cells
equal_parts zero part = Empty
equal_parts (suc n) part = Both part (equal_parts n part)

-- the cells that there are
abbrev pub cells_by : {A : Type 0} → (A → Cells) → Option A → Cells
cells_by f None = Empty
cells_by f (Some x) = f x

-- the number that stands in one cell
abbrev pub number_in : Cells → Option ℤ
number_in (Cell n) = Some n
number_in Empty = None
number_in (Both first others) = None

-- the part at a place
abbrev pub part : ℕ → Cells → Option Cells
part k (Cell n) = None
part k Empty = None
part zero (Both first others) = Some first
part (suc k) (Both first others) = part k others

-- changes the part at a place, where there is one
abbrev pub change : ℕ → (Cells → Cells) → Cells → Cells
change k f (Cell n) = Cell n
change k f Empty = Empty
change zero f (Both first others) = Both (f first) others
change (suc k) f (Both first others) = Both first (change k f others)

-- the part to which a path leads
abbrev pub part_at : List ℕ → Cells → Option Cells
part_at [] cells = Some cells
part_at (k ∷ path) cells = part k cells >>= part_at path

-- puts new cells where a path leads
abbrev pub put_at : List ℕ → Cells → Cells → Cells
put_at [] new cells = new
put_at (k ∷ path) new cells = change k (put_at path new) cells

-- how many numbers there are
abbrev pub count : Cells → ℕ
count (Cell n) = 1
count Empty = 0
count (Both first others) = count first + count others

-- the cells of a global, by its number
abbrev pub global : ℕ → List Cells → Option Cells
global k [] = None
global zero (cells ∷ globals) = Some cells
global (suc k) (cells ∷ globals) = global k globals

-- changes the cells of a global, where there is one
abbrev pub change_global : ℕ → (Cells → Cells) → List Cells → List Cells
change_global k f [] = []
change_global zero f (cells ∷ globals) = f cells ∷ globals
change_global (suc k) f (cells ∷ globals) = cells ∷ change_global k f globals
