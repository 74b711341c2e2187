-- Which texts have the form of a value, whatever its type: a number with a sign or without, TRUE and FALSE in capitals, a name,
-- a name with `:` and a value, and braces round values, or round components, each of them a name and a value. Blanks and tabs
-- stand freely between the parts of a text, and neither before the first nor behind the last. A number has any length and
-- any zeros in front. Values nest at most 64 deep: each brace that is open counts, and each `:`. The form is this project's
-- own, after the value notation of ASN.1 (X.680 clauses 17 to 29).
use Rattle.std.specs.Prelude.{◌≡◌, ◌≤◌, ⊤, ℕ, ◌+◌, suc, max, Bool, true, false, not, IsTrue, List, [], ◌∷◌, ◌++◌, length, drop, Some, None}
use Rattle.std.specs.List.{list_all}
use Rattle.og_value.specs.Bytes.{is_blank, is_letter, is_digit, is_word, begins, truth_of}

mutual
  -- what a text says: names and digits are kept as they are spelt
  pub data Form : Type 0 where
    Number : (negative : Bool) (digits : List ℕ) → Form
    Truth : (truth : Bool) → Form
    Name : (name : List ℕ) → Form
    Alternative : (name : List ℕ) (value : Form) → Form
    Items : (items : Forms) → Form
    Parts : (parts : Fields) → Form

  pub data Forms : Type 0 where
    no_item : Forms
    item : (value : Form) (others : Forms) → Forms

  pub data Fields : Type 0 where
    no_part : Fields
    part : (name : List ℕ) (value : Form) (others : Fields) → Fields

-- ---- parts of a text

pub record IsDigits (text : List ℕ) : Type 0 where
  pub some : IsTrue (begins is_digit text)
  pub all : IsTrue (list_all is_digit text)

pub record IsName (text : List ℕ) : Type 0 where
  pub letter : IsTrue (begins is_letter text)
  pub all : IsTrue (list_all is_word text)
  pub no_truth : truth_of text ≡ None

abbrev pub AreBlanks : List ℕ → Type 0
AreBlanks text = IsTrue (list_all is_blank text)

-- a name with these blanks behind it and this text are two words: there is a blank, or the text begins none
abbrev pub AreApart : List ℕ → List ℕ → Type 0
AreApart [] text = IsTrue (not (begins is_word text))
AreApart (blank ∷ blanks) text = ⊤

-- ---- texts

-- 45 is `-`, 58 is `:`, 44 is `,`, 123 is `{` and 125 is `}`
mutual
  -- the form is spelt by the text
  pub data Spells : Form → List ℕ → Type 0 where
    is_number : (ds : List ℕ) → IsDigits ds → Spells (Number false ds) ds
    is_negative : (x ds : List ℕ) → AreBlanks x → IsDigits ds → Spells (Number true ds) (45 ∷ (x ++ ds))
    is_truth : (b : Bool) (w : List ℕ) → truth_of w ≡ Some b → Spells (Truth b) w
    is_name : (w : List ℕ) → IsName w → Spells (Name w) w
    is_alternative : (w x y : List ℕ) {f : Form} {t : List ℕ} → IsName w → AreBlanks x → AreBlanks y → Spells f t
        → Spells (Alternative w f) (w ++ (x ++ (58 ∷ (y ++ t))))
    are_none : (x : List ℕ) → AreBlanks x → Spells (Items no_item) (123 ∷ (x ++ (125 ∷ [])))
    are_items : (x y : List ℕ) {f : Form} {fs : Forms} {t more : List ℕ} → AreBlanks x → Spells f t → AreBlanks y → ItemsGoOn fs more
        → Spells (Items (item f fs)) (123 ∷ (x ++ (t ++ (y ++ more))))
    are_parts : (x w g y : List ℕ) {f : Form} {fs : Fields} {t more : List ℕ} → AreBlanks x → IsName w → AreBlanks g → AreApart g t → Spells f t
        → AreBlanks y → PartsGoOn fs more → Spells (Parts (part w f fs)) (123 ∷ (x ++ (w ++ (g ++ (t ++ (y ++ more))))))

  -- the text behind a first value and its blanks: further values, and the end of the braces
  pub data ItemsGoOn : Forms → List ℕ → Type 0 where
    no_more_items : ItemsGoOn no_item (125 ∷ [])
    further_item : (x y : List ℕ) {f : Form} {fs : Forms} {t more : List ℕ} → AreBlanks x → Spells f t → AreBlanks y → ItemsGoOn fs more
        → ItemsGoOn (item f fs) (44 ∷ (x ++ (t ++ (y ++ more))))

  -- the same of components
  pub data PartsGoOn : Fields → List ℕ → Type 0 where
    no_more_parts : PartsGoOn no_part (125 ∷ [])
    further_part : (x w g y : List ℕ) {f : Form} {fs : Fields} {t more : List ℕ} → AreBlanks x → IsName w → AreBlanks g → AreApart g t → Spells f t
        → AreBlanks y → PartsGoOn fs more → PartsGoOn (part w f fs) (44 ∷ (x ++ (w ++ (g ++ (t ++ (y ++ more))))))

-- ---- nesting

abbrev mutual
  -- how many braces and `:` are open at the deepest
  pub nesting : Form → ℕ
  nesting (Number sign ds) = 0
  nesting (Truth b) = 0
  nesting (Name w) = 0
  nesting (Alternative w f) = suc (nesting f)
  nesting (Items fs) = suc (nesting_of_items fs)
  nesting (Parts fs) = suc (nesting_of_parts fs)

  pub nesting_of_items : Forms → ℕ
  nesting_of_items no_item = 0
  nesting_of_items (item f fs) = max (nesting f) (nesting_of_items fs)

  pub nesting_of_parts : Fields → ℕ
  nesting_of_parts no_part = 0
  nesting_of_parts (part w f fs) = max (nesting f) (nesting_of_parts fs)

-- the text has the form of a value
pub record HasForm (text : List ℕ) : Type 0 where
  pub form : Form
  pub spelt : Spells form text
  pub nested : nesting form ≤ 64

-- of all fronts of the bytes that have the form of a value, the text is the longest
pub record IsLongest (bytes text : List ℕ) : Type 0 where
  pub rest : List ℕ
  pub front : bytes ≡ text ++ rest
  pub form : HasForm text
  pub longest : (other others : List ℕ) → bytes ≡ other ++ others → HasForm other → length other ≤ length text

-- the longest text at a place ends at the next place
pub record HasTextAt (bytes : List ℕ) (at next : ℕ) : Type 0 where
  pub text : List ℕ
  pub longest : IsLongest (drop at bytes) text
  pub ends : next ≡ at + length text

-- no text that stands at the place has the form of a value
abbrev pub HasNoText : List ℕ → ℕ → Type 0
HasNoText bytes at = (text rest : List ℕ) → drop at bytes ≡ text ++ rest → HasForm text → ⊥
