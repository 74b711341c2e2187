-- Places in a file: lines end at a line feed, lines and columns count from 1, columns in bytes. So the first byte stands in
-- line 1 at column 1, and what follows a last line feed stands in a line of its own.
use Rattle.std.specs.Prelude.{ℕ, ◌+◌, List, [], ◌∷◌, take, if◌then◌else◌, ◌==◌}
use Rattle.og_base.specs.declared.Place.{Place}

-- where the first byte of the file stands
abbrev pub first_place : ℕ → Place
first_place file = record { file = file; line = 1; column = 1 }

-- the place one byte on
abbrev pub next_place : Place → ℕ → Place
next_place p b = if b == 10 then record { file = p.file; line = p.line + 1; column = 1 } else record { file = p.file; line = p.line; column = p.column + 1 }

-- the place behind these bytes
abbrev pub place_after : Place → List ℕ → Place
place_after p [] = p
place_after p (b ∷ bs) = place_after (next_place p b) bs

-- the place of the byte with this number, counted from 0, or of the file's end
abbrev pub place_at : ℕ → List ℕ → ℕ → Place
place_at file bytes at = place_after (first_place file) (take at bytes)
