-- Marks by number: which places of a function something jumps to, which events something shows, which types are needed. A mark
-- past the end is not set.
use Rattle.std.specs.Prelude.{ℕ, List, [], ◌∷◌, Bool, true, false, slice_set, slice_index_or}

-- the mark of this number, and none past the end
abbrev pub is_marked : List Bool → ℕ → Bool
is_marked marks k = slice_index_or marks k false

-- sets a mark, where there is one
abbrev pub marked : ℕ → List Bool → List Bool
marked k marks = slice_set marks k true

abbrev pub all_marked : List ℕ → List Bool → List Bool
all_marked [] marks = marks
all_marked (k ∷ ks) marks = all_marked ks (marked k marks)
