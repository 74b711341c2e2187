-- What holds of texts of values. Their form and their reading are this project's own, after the value notation of ASN.1
-- (X.680 clauses 17 to 29).
use Rattle.std.specs.Prelude.{◌≡◌, ◌↔◌, ℕ, ◌+◌, true, false, List, ◌++◌, length, Some, ◌==◌}
use Rattle.og_names.specs.Table.{IsTable}
use Rattle.og_types.specs.declared.TypeId.{TypeId}
use Rattle.og_types.specs.declared.Sort.{Sort}
use Rattle.og_types.specs.declared.Value.{Value}
use Rattle.og_types.specs.Values.{is_in}
use Rattle.og_types.specs.Table.{is_table}
use Rattle.og_value.specs.Bytes.{is_blank, is_word, begins, behind}
use Rattle.og_value.specs.Forms.{HasForm, IsLongest, HasTextAt}
use Rattle.og_value.specs.Reads.{Names, Reads, IsReadAt}
use Rattle.og_value.specs.Scans.{found_in}
use Rattle.og_value.specs.Shows.{shown}
use Rattle.og_value.specs.Named.{has_names}

-- a text reads as one value of a type, and at a place there is one text that is read, whatever the type
pub record TextsReadAsOneValue : Type 0 where
  pub value : (types : List Sort) (names : Names) (id : TypeId) (text : List ℕ) (v w : Value) → Reads types names id text v → Reads types names id text w → v ≡ w
  pub place : (types : List Sort) (names : Names) (id : TypeId) (bytes : List ℕ) (at : ℕ) (v w : Value) (m n : ℕ)
      → IsReadAt types names id bytes at v m → IsReadAt types names id bytes at w n → (v ≡ w) × (m ≡ n)
  pub end : (types : List Sort) (names : Names) (id : TypeId) (bytes : List ℕ) (at : ℕ) (v : Value) (m n : ℕ)
      → IsReadAt types names id bytes at v m → HasTextAt bytes at n → m ≡ n

-- what can be computed for given bytes is what the longest text in front of them reads as
abbrev pub WhatIsFoundIsRead : Type 0
WhatIsFoundIsRead =
    (types : List Sort) (names : Names) (id : TypeId) (bytes : List ℕ) (v : Value) (n : ℕ)
    → (found_in types names id bytes ≡ Some (v, n)) ↔ IsReadAt types names id bytes 0 v n

-- what a text reads as is a value of the type
abbrev pub ReadValuesAreInTheirTypes : Type 0
ReadValuesAreInTheirTypes =
    (types : List Sort) → is_table types ≡ true → (names : Names) (id : TypeId) (text : List ℕ) (v : Value) → Reads types names id text v → is_in types id v ≡ true

-- these bytes go on with no text of a value: no word goes on, and no colon comes behind blanks
pub record GoOnWithNone (bytes : List ℕ) : Type 0 where
  pub word : begins is_word bytes ≡ false
  pub colon : begins (λ b. b == 58) (behind is_blank bytes) ≡ false

-- a text that has the form of a value is the longest where nothing goes on with it
abbrev pub WholeTextsAreLongest : Type 0
WholeTextsAreLongest = (text others : List ℕ) → HasForm text → GoOnWithNone others → IsLongest (text ++ others) text

-- the text that a value shows gives the value where it is read
abbrev pub ShownTextsReadBack : Type 0
ShownTextsReadBack =
    (types : List Sort) (names : Names) → is_table types ≡ true → IsTable names
    → (id : TypeId) (v : Value) → is_in types id v ≡ true → has_names types names id ≡ true
    → (before others : List ℕ) → GoOnWithNone others
    → IsReadAt types names id (before ++ (shown types names id v ++ others)) (length before) v (length before + length (shown types names id v))
