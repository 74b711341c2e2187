-- The bytes of which texts of values consist: blanks, letters, digits and underlines. A word is what a name of SDL may be
-- (Z.101 clause 6.1), a letter followed by letters, digits and underlines, and TRUE and FALSE are words that are no names
-- where they stand in capitals. The form of these texts is this project's own.
use Rattle.std.specs.Prelude.{ℕ, ◌+◌, ◌*◌, ◌-◌, Bool, true, false, List, [], ◌∷◌, ◌||◌, ◌==◌, codes, Option, Some, None, if◌then◌else◌}
use Rattle.std.specs.Char.{is_ascii_alphabetic, is_ascii_alphanumeric, is_ascii_digit}
use Rattle.std.specs.Str.{bytes_eq}

-- a space or a tab
abbrev pub is_blank : ℕ → Bool
is_blank b = b == 32 || b == 9

abbrev pub is_letter : ℕ → Bool
is_letter b = is_ascii_alphabetic b

abbrev pub is_digit : ℕ → Bool
is_digit b = is_ascii_digit b

-- a letter, a digit or an underline
abbrev pub is_word : ℕ → Bool
is_word b = is_ascii_alphanumeric b || b == 95

-- a byte that passes stands in front
abbrev pub begins : (ℕ → Bool) → List ℕ → Bool
begins passes [] = false
begins passes (b ∷ bs) = passes b

-- the longest front whose bytes pass, and what stands behind it
abbrev pub run : (ℕ → Bool) → List ℕ → List ℕ
run passes [] = []
run passes (b ∷ bs) = if passes b then b ∷ run passes bs else []

abbrev pub behind : (ℕ → Bool) → List ℕ → List ℕ
behind passes [] = []
behind passes (b ∷ bs) = if passes b then behind passes bs else b ∷ bs

-- the truth value of the word
abbrev pub truth_of : List ℕ → Option Bool
truth_of word = if bytes_eq word (codes "TRUE") then Some true else (if bytes_eq word (codes "FALSE") then Some false else None)

-- the number of decimal digits that stand behind the digits of n
abbrev pub number_from : ℕ → List ℕ → ℕ
number_from n [] = n
number_from n (b ∷ bs) = number_from (10 * n + (b - 48)) bs

-- the number of decimal digits, however many
abbrev pub number_of : List ℕ → ℕ
number_of digits = number_from 0 digits
