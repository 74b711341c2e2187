-- Why a text is refused, and where. Of the two rules the one that is broken first counts: at the first token that passes the
-- limit of nesting, if the text has not gone wrong at or before it, and otherwise where the text goes wrong. A place is told
-- by the bytes before it. Lines end at LF; lines and columns count from 1, columns in bytes.
use Rattle.std.specs.Prelude.{◌≡◌, ℕ, ◌+◌, ◌<◌, ◌≤◌, List, [], ◌∷◌, length, cond, ◌==◌}
use Rattle.og_base.specs.declared.Place.{Place}
use Rattle.og_csubset.specs.Nesting.{PassesNesting}
use Rattle.og_csubset.specs.Wrong.{GoesWrong}

-- rule K2: a token right behind `before` passes the limit, and the text goes wrong at most later
pub record IsTooDeep (limit : ℕ) (text before : List ℕ) : Type 0 where
  pub passes : PassesNesting limit text before
  pub wrong_later : (other : List ℕ) → GoesWrong text other → length before < length other

-- rule K1: the text goes wrong right behind `before`, and no token before that passes the limit
pub record IsBad (limit : ℕ) (text before : List ℕ) : Type 0 where
  pub wrong : GoesWrong text before
  pub passes_later : (other : List ℕ) → PassesNesting limit text other → length before ≤ length other

-- the line and the column right behind these bytes
abbrev pub line_behind : List ℕ → ℕ
line_behind [] = 1
line_behind (byte ∷ bytes) = cond (byte == 10) (line_behind bytes + 1) (line_behind bytes)

abbrev pub column_from : ℕ → List ℕ → ℕ
column_from column [] = column
column_from column (byte ∷ bytes) = cond (byte == 10) (column_from 1 bytes) (column_from (column + 1) bytes)

-- the place right behind these bytes, in a text that is no model file
abbrev pub place_behind : List ℕ → Place
place_behind bytes = record { file = 0; line = line_behind bytes; column = column_from 1 bytes }

-- the text goes wrong in this line at this column
abbrev pub GoesWrongAt : List ℕ → ℕ → ℕ → Type 0
GoesWrongAt text line column =
    (before : List ℕ) × GoesWrong text before × (place_behind before ≡ record { file = 0; line = line; column = column })
