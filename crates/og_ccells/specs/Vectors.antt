-- Cells in one vector (C99 6.2.5): the numbers of a tree of cells, from the outside inward and from the first part to the last,
-- stand one after the other. So a tree of a known shape is the shape and a place in the vector, and a part of it lies behind
-- the parts before it.
use Rattle.std.specs.Prelude.{ℕ, zero, suc, ◌+◌, ℤ, pos, length, List, [], ◌∷◌, ◌++◌, ◌&&◌, nat_le, if◌then◌else◌, Option, Some, None, slice_index_or, slice_set}
use Rattle.std.specs.List.{copy_within}
use Rattle.og_ir.specs.Cells.{Cells, Cell, Empty, Both, part, count}
use Rattle.og_csubset.specs.declared.CProgram.{CProgram}
use Rattle.og_csubset.specs.Kinds.{first_globals}

-- a tree of this shape, whose numbers stand in the vector from a place on; past the end of the vector each number is 0
abbrev pub filled : ℕ → Cells → List ℤ → Cells
filled at (Cell z) xs = Cell (slice_index_or xs at (pos 0))
filled at Empty xs = Empty
filled at (Both first others) xs = Both (filled at first xs) (filled (at + count first) others xs)

-- several trees, one behind the other
abbrev pub all_filled : ℕ → List Cells → List ℤ → List Cells
all_filled at [] xs = []
all_filled at (shape ∷ shapes) xs = filled at shape xs ∷ all_filled (at + count shape) shapes xs

-- the cells of a program's globals, whose numbers stand in one vector
unfoldable pub trees_of : CProgram → List ℤ → List Cells
trees_of program xs = all_filled 0 (first_globals program) xs

-- how many numbers stand before the part at a place
abbrev pub numbers_before : ℕ → Cells → ℕ
numbers_before k (Cell z) = 0
numbers_before k Empty = 0
numbers_before zero (Both first others) = 0
numbers_before (suc k) (Both first others) = count first + numbers_before k others

-- how many numbers stand before the part to which a path leads
abbrev pub before_inside : (Cells → ℕ) → Option Cells → ℕ
before_inside f None = 0
before_inside f (Some cells) = f cells

abbrev pub numbers_before_path : List ℕ → Cells → ℕ
numbers_before_path [] cells = 0
numbers_before_path (k ∷ path) cells = numbers_before k cells + before_inside (numbers_before_path path) (part k cells)

-- the numbers of cells, one after the other
abbrev pub numbers_of : Cells → List ℤ
numbers_of (Cell z) = z ∷ []
numbers_of Empty = []
numbers_of (Both first others) = numbers_of first ++ numbers_of others

-- numbers are put into the vector from a place on, as far as it reaches
abbrev pub overwritten : ℕ → List ℤ → List ℤ → List ℤ
overwritten at [] xs = xs
overwritten at (y ∷ ys) xs = overwritten (at + 1) ys (slice_set xs at y)

-- so many numbers are put where others stand, if both places lie in the vector
abbrev pub copied : ℕ → ℕ → ℕ → List ℤ → List ℤ
copied to from width xs =
    if nat_le (to + width) (length xs) && nat_le (from + width) (length xs) then copy_within xs from (from + width) to else xs

-- the numbers of cells are put into the vector from a place on
abbrev pub put_cells : ℕ → Cells → List ℤ → List ℤ
put_cells at cells xs = overwritten at (numbers_of cells) xs

-- cells that differ in their numbers alone
abbrev pub SameShape : Cells → Cells → Type 0
SameShape (Cell z) (Cell w) = Unit {0}
SameShape (Cell z) Empty = ⊥
SameShape (Cell z) (Both c d) = ⊥
SameShape Empty (Cell w) = ⊥
SameShape Empty Empty = Unit {0}
SameShape Empty (Both c d) = ⊥
SameShape (Both a b) (Cell w) = ⊥
SameShape (Both a b) Empty = ⊥
SameShape (Both a b) (Both c d) = SameShape a c × SameShape b d
