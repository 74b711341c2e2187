-- The lines of a text. A line ends at LF or at the end of the text; one CR right before LF is dropped with it. White space in a
-- line is the blank and the tab.
use Rattle.std.specs.Prelude.{ℕ, Bool, false, not, List, [], ◌∷◌, if◌then◌else◌, ◌&&◌, ◌||◌, ◌==◌}
use Rattle.std.specs.List.{list_all}
use Rattle.og_value.specs.Bytes.{is_blank}
use Rattle.og_stim.specs.declared.lines.Class.{Class}
use Rattle.og_stim.specs.declared.lines.Class.TheVariants as class

abbrev pub begins_with : ℕ → List ℕ → Bool
begins_with byte [] = false
begins_with byte (b ∷ bs) = b == byte

-- one byte more at the beginning of the first line
abbrev pub in_front : ℕ → List (List ℕ) → List (List ℕ)
in_front byte [] = (byte ∷ []) ∷ []
in_front byte (line ∷ lines) = (byte ∷ line) ∷ lines

-- 10 is LF and 13 is CR
abbrev pub lines_of : List ℕ → List (List ℕ)
lines_of [] = []
lines_of (b ∷ bs) =
    if b == 10 then [] ∷ lines_of bs else (if b == 13 && begins_with 10 bs then lines_of bs else in_front b (lines_of bs))

-- all but the end of a line
abbrev pub is_line_byte : ℕ → Bool
is_line_byte b = not (b == 10)

-- the bytes of a class
abbrev pub test_of : Class → ℕ → Bool
test_of class.Line = is_line_byte
test_of class.Blank = is_blank

-- without a CR at the end
abbrev pub without_return : List ℕ → List ℕ
without_return [] = []
without_return (b ∷ []) = if b == 13 then [] else b ∷ []
without_return (b ∷ c ∷ bs) = b ∷ without_return (c ∷ bs)

-- a line of blanks alone, or a comment, whose first byte is `#`
abbrev pub is_skipped : List ℕ → Bool
is_skipped line = list_all is_blank line || begins_with 35 line
