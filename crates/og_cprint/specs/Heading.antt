-- How the text of a program of the C subset begins: with the line that brings in `int64_t` (C99 7.18).
use Rattle.std.specs.Prelude.{◌≡◌, ℕ, ◌∷◌, List, [], ◌++◌, codes}

-- the first line, with its end
abbrev pub heading : List ℕ
heading = codes "#include <stdint.h>" ++ 10 ∷ []

abbrev pub BeginsWithHeading : List ℕ → Type 0
BeginsWithHeading text = (rest : List ℕ) × (text ≡ heading ++ rest)
