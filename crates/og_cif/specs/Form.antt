-- Boxes of CIF (Z.106): `/* CIF SYMBOL (x, y), (w, h) */`. CIF and the symbol are in any case; white space is free before
-- each part and before the comment ends, and stands between CIF and the symbol. Numbers are decimal, with any zeros in
-- front and a minus sign or none, and have 32 bits. Which symbols there are is this project's own choice.
use Rattle.std.specs.Prelude.{◌≡◌, ℕ, Bool, false, ◌&&◌, ◌||◌, IsTrue, List, [], ◌∷◌, ◌++◌, ◌==◌, map, codes, ℤ, pos, negsuc, neg_ℤ, int_le, if◌then◌else◌}
use Rattle.std.specs.List.{list_all}
use Rattle.std.specs.Char.{to_ascii_uppercase, is_ascii_digit}
use Rattle.og_lexer.specs.Bytes.{number_of}
use Rattle.og_cif.specs.declared.Symbol.{Symbol}
use Rattle.og_cif.specs.declared.Symbol.TheVariants as symbol
use Rattle.og_cif.specs.declared.CifBox.{CifBox}

-- space, tab, carriage return and line feed
abbrev pub is_white : ℕ → Bool
is_white b = (b == 32) || ((b == 9) || ((b == 13) || (b == 10)))

abbrev pub AreWhite : List ℕ → Type 0
AreWhite text = IsTrue (list_all is_white text)

-- the symbol in capitals
unfoldable pub symbol_text : Symbol → List ℕ
symbol_text symbol.Start = codes "START"
symbol_text symbol.State = codes "STATE"
symbol_text symbol.Input = codes "INPUT"
symbol_text symbol.Output = codes "OUTPUT"
symbol_text symbol.Task = codes "TASK"
symbol_text symbol.Decision = codes "DECISION"
symbol_text symbol.Answer = codes "ANSWER"
symbol_text symbol.Nextstate = codes "NEXTSTATE"
symbol_text symbol.Join = codes "JOIN"
symbol_text symbol.Label = codes "LABEL"
symbol_text symbol.Procedurecall = codes "PROCEDURECALL"
symbol_text symbol.Procedure = codes "PROCEDURE"
symbol_text symbol.Provided = codes "PROVIDED"
symbol_text symbol.Connect = codes "CONNECT"
symbol_text symbol.Return = codes "RETURN"
symbol_text symbol.Stop = codes "STOP"
symbol_text symbol.Text = codes "TEXT"
symbol_text symbol.Comment = codes "COMMENT"
symbol_text symbol.Process = codes "PROCESS"

-- a part of a box
pub data Item : Type 0 where
  word : (capitals : List ℕ) → Item
  white : Item
  sign : (byte : ℕ) → Item
  number : (value : ℤ) → Item

-- ---- numbers

-- a byte that passes stands in front
abbrev pub begins : (ℕ → Bool) → List ℕ → Bool
begins passes [] = false
begins passes (b ∷ bs) = passes b

pub record IsDigits (digits : List ℕ) : Type 0 where
  pub some : IsTrue (begins is_ascii_digit digits)
  pub all : IsTrue (list_all is_ascii_digit digits)

-- 45 is `-`
abbrev pub signed : Bool → List ℕ → List ℕ
signed negative digits = if negative then 45 ∷ digits else digits

abbrev pub integer : Bool → List ℕ → ℤ
integer negative digits = if negative then neg_ℤ (pos (number_of digits)) else pos (number_of digits)

abbrev pub in_32_bits : ℤ → Bool
in_32_bits z = int_le (negsuc 2147483647) z && int_le z (pos 2147483647)

pub record IsNumber (value : ℤ) (text : List ℕ) : Type 0 where
  pub negative : Bool
  pub digits : List ℕ
  pub are_digits : IsDigits digits
  pub spelt : text ≡ signed negative digits
  pub is : value ≡ integer negative digits
  pub fits : IsTrue (in_32_bits value)

-- ---- boxes

-- one byte of white space
pub record IsWhite (text : List ℕ) : Type 0 where
  pub byte : ℕ
  pub spelt : text ≡ byte ∷ []
  pub passes : IsTrue (is_white byte)

abbrev pub IsSpelt : Item → List ℕ → Type 0
IsSpelt (word capitals) text = map to_ascii_uppercase text ≡ capitals
IsSpelt white text = IsWhite text
IsSpelt (sign byte) text = text ≡ byte ∷ []
IsSpelt (number value) text = IsNumber value text

-- the item stands in front, behind white space or none
pub record Leads (item : Item) (text rest : List ℕ) : Type 0 where
  pub space : List ℕ
  pub spelt : List ℕ
  pub joined : text ≡ space ++ (spelt ++ rest)
  pub is_space : AreWhite space
  pub is : IsSpelt item spelt

-- the end of a comment, behind white space or none; 42 is `*` and 47 is `/`
pub record Closes (text : List ℕ) : Type 0 where
  pub space : List ℕ
  pub joined : text ≡ space ++ (42 ∷ 47 ∷ [])
  pub is_space : AreWhite space

-- the items stand one behind the other, and then the end of the comment
abbrev pub Stand : List Item → List ℕ → Type 0
Stand [] text = Closes text
Stand (item ∷ items) text = (rest : List ℕ) × Leads item text rest × Stand items rest

-- `(`, a number, `,`, a number, `)`
abbrev pub pair_items : ℤ → ℤ → List Item → List Item
pair_items a b behind = sign 40 ∷ number a ∷ sign 44 ∷ number b ∷ sign 41 ∷ behind

abbrev pub items_of : CifBox → List Item
items_of box = word (codes "CIF") ∷ white ∷ word (symbol_text box.symbol) ∷ pair_items box.x box.y (sign 44 ∷ pair_items box.w box.h [])

-- the comment is this box
pub record IsBox (box : CifBox) (comment : List ℕ) : Type 0 where
  pub inside : List ℕ
  pub begun : comment ≡ 47 ∷ 42 ∷ inside
  pub stands : Stand (items_of box) inside
