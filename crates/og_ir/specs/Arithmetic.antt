-- Whole numbers as a program computes with them (C99 6.5.5 and 6.5.6), and the ways in which it cannot go on. Which numbers
-- there are is a test: those of 64 bits with a sign (C99 7.18.1.1), or all. A quotient is truncated toward zero, and a
-- remainder asks that its quotient be there too, as C99 6.5.5 does.
use Rattle.std.specs.Prelude.{zero, suc, ◌-◌, ◌^◌, ℤ, pos, negsuc, ◌+ℤ◌, ◌-ℤ◌, ◌*ℤ◌, neg_ℤ, Bool, true, false, if◌then◌else◌, ◌&&◌, int_le, int_lt, int_div, int_rem, Option, Some, None, Result, Ok, Err}

-- A number that there is not, an index outside its array, a divisor of zero, or a number where a value of a type is read
-- that is none.
pub data Trouble : Type 0 where
  Overflow : Trouble
  Index : Trouble
  Divide : Trouble
  Value : Trouble

infixl 10 ◌>>=◌
-- goes on with a value, or stops at the first trouble
abbrev pub ◌>>=◌ : {A B : Type 0} → Result A Trouble → (A → Result B Trouble) → Result B Trouble
(Ok x) >>= f = f x
(Err t) >>= f = Err t

-- the value, or the trouble where there is none
abbrev pub or_else : {A : Type 0} → Option A → Trouble → Result A Trouble
or_else (Some x) t = Ok x
or_else None t = Err t

-- from -2^63 to 2^63 - 1
abbrev pub in_64_bits : ℤ → Bool
in_64_bits z = int_le (negsuc (2 ^ 63 - 1)) z && int_lt z (pos (2 ^ 63))

abbrev pub any_number : ℤ → Bool
any_number z = true

abbrev pub is_zero : ℤ → Bool
is_zero (pos zero) = true
is_zero (pos (suc n)) = false
is_zero (negsuc n) = false

-- the number, if there is such a one
abbrev pub kept : (ℤ → Bool) → ℤ → Result ℤ Trouble
kept is_there z = if is_there z then Ok z else Err Overflow

abbrev pub sum_of : (ℤ → Bool) → ℤ → ℤ → Result ℤ Trouble
sum_of is_there x y = kept is_there (x +ℤ y)

abbrev pub difference_of : (ℤ → Bool) → ℤ → ℤ → Result ℤ Trouble
difference_of is_there x y = kept is_there (x -ℤ y)

abbrev pub product_of : (ℤ → Bool) → ℤ → ℤ → Result ℤ Trouble
product_of is_there x y = kept is_there (x *ℤ y)

abbrev pub quotient_of : (ℤ → Bool) → ℤ → ℤ → Result ℤ Trouble
quotient_of is_there x y = if is_zero y then Err Divide else kept is_there (int_div x y)

abbrev pub remainder_of : (ℤ → Bool) → ℤ → ℤ → Result ℤ Trouble
remainder_of is_there x y = quotient_of is_there x y >>= λ _. Ok (int_rem x y)

abbrev pub negative_of : (ℤ → Bool) → ℤ → Result ℤ Trouble
negative_of is_there x = kept is_there (neg_ℤ x)

abbrev pub is_same : ℤ → ℤ → Bool
is_same x y = int_le x y && int_le y x
