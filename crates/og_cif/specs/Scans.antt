-- What the readers of the code find in front of bytes: a part of a box (Z.106) and what stands behind it, or nothing. Form says
-- by relations what a box is; the public call ties the two.
use Rattle.std.specs.Prelude.{ℕ, Bool, true, false, ◌==◌, ◌&&◌, List, [], ◌∷◌, map, take, drop, codes, ℤ, Option, Some, None, if◌then◌else◌}
use Rattle.std.specs.Char.{to_ascii_uppercase, is_ascii_digit, is_ascii_alphabetic}
use Rattle.std.specs.Str.{bytes_eq}
use Rattle.std.specs.List.{prefix_len}
use Rattle.og_cif.specs.declared.Symbol.{Symbol}
use Rattle.og_cif.specs.declared.CifBox.{CifBox}
use Rattle.og_cif.specs.declared.symbols.TheConstants.{SYMBOLS}
use Rattle.og_cif.specs.declared.read.Class.{Class}
use Rattle.og_cif.specs.declared.read.Class.TheVariants as class
use Rattle.og_cif.specs.Form.{is_white, symbol_text, begins, integer, in_32_bits}

abbrev pub Found : Type 0 → Type 0
Found A = Option (A × List ℕ)

-- goes on behind what was found
abbrev pub and_then : {A B : Type 0} → Found A → (A → List ℕ → Option B) → Option B
and_then None go = None
and_then (Some p) go = go p.0 p.1

abbrev pub kept : {A : Type 0} → Option A → List ℕ → Found A
kept None rest = None
kept (Some x) rest = Some (x, rest)

abbrev pub test_of : Class → ℕ → Bool
test_of class.White = is_white
test_of class.Digit = is_ascii_digit
test_of class.Letter = is_ascii_alphabetic

-- the longest front whose bytes pass, and what stands behind it
abbrev pub run : (ℕ → Bool) → List ℕ → List ℕ
run passes bytes = take (prefix_len passes bytes) bytes

abbrev pub behind : (ℕ → Bool) → List ℕ → List ℕ
behind passes bytes = drop (prefix_len passes bytes) bytes

abbrev pub past_white : List ℕ → List ℕ
past_white bytes = behind is_white bytes

-- the letters behind white space, in capitals
abbrev pub capitals_at : List ℕ → List ℕ
capitals_at bytes = map to_ascii_uppercase (run is_ascii_alphabetic (past_white bytes))

abbrev pub behind_letters : List ℕ → List ℕ
behind_letters bytes = behind is_ascii_alphabetic (past_white bytes)

abbrev pub sign_here : ℕ → List ℕ → Found (Unit {0})
sign_here s [] = None
sign_here s (b ∷ bs) = if b == s then Some (tt, bs) else None

-- this sign
abbrev pub sign_at : ℕ → List ℕ → Found (Unit {0})
sign_at s bytes = sign_here s (past_white bytes)

-- CIF, and white space behind it
unfoldable pub cif_at : List ℕ → Found (Unit {0})
cif_at bytes = if bytes_eq (capitals_at bytes) (codes "CIF") && begins is_white (behind_letters bytes) then Some (tt, behind_letters bytes) else None

-- the first of the symbols that is spelt so
abbrev pub symbol_in : List Symbol → List ℕ → Option Symbol
symbol_in [] word = None
symbol_in (s ∷ ss) word = if bytes_eq word (symbol_text s) then Some s else symbol_in ss word

unfoldable pub symbol_at : List ℕ → Found Symbol
symbol_at bytes = kept (symbol_in SYMBOLS (capitals_at bytes)) (behind_letters bytes)

-- the number, where it has 32 bits
abbrev pub number_of_sign : Bool → List ℕ → Option ℤ
number_of_sign negative digits = if in_32_bits (integer negative digits) then Some (integer negative digits) else None

abbrev pub digits_here : Bool → List ℕ → Found ℤ
digits_here negative bytes =
    if begins is_ascii_digit bytes then kept (number_of_sign negative (run is_ascii_digit bytes)) (behind is_ascii_digit bytes) else None

abbrev pub number_here : List ℕ → Found ℤ
number_here [] = None
number_here (b ∷ bs) = if b == 45 then digits_here true bs else digits_here false (b ∷ bs)

unfoldable pub number_at : List ℕ → Found ℤ
number_at bytes = number_here (past_white bytes)

unfoldable pub pair_at : List ℕ → Found (ℤ × ℤ)
pair_at bytes =
    and_then (sign_at 40 bytes) (λ _ a. and_then (number_at a) (λ x b. and_then (sign_at 44 b) (λ _ c. and_then (number_at c) (λ y d. and_then (sign_at 41 d)
    (λ _ rest. Some ((x, y), rest))))))

-- the box, where the comment ends behind it
abbrev pub closed : CifBox → List ℕ → Option CifBox
closed box rest = if bytes_eq (past_white rest) (codes "*/") then Some box else None

unfoldable pub box_at : List ℕ → Option CifBox
box_at bytes =
    and_then (cif_at bytes) (λ _ a. and_then (symbol_at a) (λ s b. and_then (pair_at b) (λ p c. and_then (sign_at 44 c) (λ _ d. and_then (pair_at d)
    (λ q rest. closed (record { symbol = s; x = p.0; y = p.1; w = q.0; h = q.1 }) rest)))))

-- 47 is `/` and 42 is `*`
unfoldable pub box_of : List ℕ → Option CifBox
box_of bytes = and_then (sign_here 47 bytes) (λ _ a. and_then (sign_here 42 a) (λ _ inside. box_at inside))
