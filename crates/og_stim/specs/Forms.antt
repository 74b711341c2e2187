-- The form of a line that is not skipped: a name, alone or with values in brackets behind it, a comma between two of them. Blanks
-- and tabs stand freely between these and at both ends of the line. A name is a word other than TRUE and FALSE in capitals,
-- and the texts of values are those of og_value, which nest at most 64 deep. No brackets stand without a value. The form of
-- stimuli files is this project's own.
use Rattle.std.specs.Prelude.{List, [], ◌∷◌, ◌++◌, ℕ}
use Rattle.og_value.specs.Forms.{IsName, AreBlanks, HasForm}

abbrev pub Texts : Type 0
Texts = List (List ℕ)

-- what stands behind the bracket, with the texts of its values: 44 is `,` and 41 is `)`
pub data AreValues : Texts → List ℕ → Type 0 where
  is_last : (x t y z : List ℕ) → AreBlanks x → HasForm t → AreBlanks y → AreBlanks z → AreValues (t ∷ []) (x ++ (t ++ (y ++ (41 ∷ z))))
  goes_on : (x t y : List ℕ) {ts : Texts} {more : List ℕ} → AreBlanks x → HasForm t → AreBlanks y → AreValues ts more
      → AreValues (t ∷ ts) (x ++ (t ++ (y ++ (44 ∷ more))))

-- a line, with its name and the texts of its values: 40 is `(`
pub data IsForm : List ℕ → Texts → List ℕ → Type 0 where
  is_alone : (x w y : List ℕ) → AreBlanks x → IsName w → AreBlanks y → IsForm w [] (x ++ (w ++ y))
  has_values : (x w y : List ℕ) {ts : Texts} {more : List ℕ} → AreBlanks x → IsName w → AreBlanks y → AreValues ts more
      → IsForm w ts (x ++ (w ++ (y ++ (40 ∷ more))))
