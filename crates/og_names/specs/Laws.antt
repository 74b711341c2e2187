-- Laws of numbering names: two names have one number exactly where they fold alike, a number leads back to its folded name,
-- and a number that was given out stays when more names are added.
use Rattle.std.specs.Prelude.{◌≡◌, ℕ, List, Some, None, slice_get, Contains, ◌↔◌}
use Rattle.og_names.specs.Folding.{folded, place_of, with_name}

-- of two names with numbers, the numbers are equal exactly where the names fold alike
abbrev pub OneNumberForOneName : Type 0
OneNumberForOneName =
    (names : List (List ℕ)) (a b : List ℕ) (m n : ℕ) → place_of names (folded a) ≡ Some m → place_of names (folded b) ≡ Some n
    → (m ≡ n) ↔ (folded a ≡ folded b)

-- at the number of a name stands its folded form
abbrev pub NumbersLeadBack : Type 0
NumbersLeadBack = (names : List (List ℕ)) (name : List ℕ) (n : ℕ) → place_of names (folded name) ≡ Some n → slice_get names n ≡ Some (folded name)

-- a name has no number exactly where its folded form stands nowhere
abbrev pub AbsentNamesHaveNone : Type 0
AbsentNamesHaveNone = (names : List (List ℕ)) (name : List ℕ) → (place_of names (folded name) ≡ None) ↔ (Contains names (folded name) → ⊥)

-- a number stays when a further name is added
abbrev pub EarlierNumbersStay : Type 0
EarlierNumbersStay =
    (names : List (List ℕ)) (name more : List ℕ) (n : ℕ) → place_of names name ≡ Some n → place_of (with_name names more) name ≡ Some n

-- folding twice is folding once
abbrev pub FoldingTwice : Type 0
FoldingTwice = (name : List ℕ) → folded (folded name) ≡ folded name
