-- How deep texts nest that are put together, and texts of instructions in which numbers and cases are any.
use Rattle.std.proofs.Common.{ℕ, suc, ◌-◌, ◌^◌, ◌≤◌, ℤ, pos, negsuc, List, [], ◌∷◌, ◌++◌, Bool, true, false, cond, ◌==◌, None, Some, arith}
use Rattle.og_ir.specs.declared.Case.{Case}
use Rattle.og_csubset.specs.declared.COp.TheVariants.{Sub}
use Rattle.og_csubset.specs.Tokens.{Token, name, operator, keyword, mark, case_, default_, open_brace, close_brace, semicolon, colon, equals}
use Rattle.og_csubset.specs.Spelling.{literal, least_text}
use Rattle.og_csubset.specs.Nesting.{Nest, outermost, opened, after_token, after_tokens, nesting_from}
use Rattle.og_csubset.specs.Plain.{Piece, piece, plain_constant, each, jump}
use Rattle.og_csubset.specs.FlatText.{no_name, case_text}

-- a front nests no deeper than the whole
pub nesting_front : (nest : Nest) (front rest : List Token) (limit : ℕ) → nesting_from nest (front ++ rest) ≤ limit → nesting_from nest front ≤ limit
nesting_front nest [] rest limit h = omega arith
nesting_front nest (token ∷ front) rest limit h =
    let next = after_token token nest in
    let more = nesting_front next front rest limit (omega (arith, h)) in omega (arith, h, more)

-- nor does what is left behind it
pub nesting_behind : (nest : Nest) (front rest : List Token) (limit : ℕ) → nesting_from nest (front ++ rest) ≤ limit → nesting_from (after_tokens front nest) rest ≤ limit
nesting_behind nest [] rest limit h = h
nesting_behind nest (token ∷ front) rest limit h = nesting_behind (after_token token nest) front rest limit (omega (arith, h))

-- and both together nest no deeper than each
pub nesting_joined : (nest : Nest) (front rest : List Token) (limit : ℕ) → nesting_from nest front ≤ limit → nesting_from (after_tokens front nest) rest ≤ limit
    → nesting_from nest (front ++ rest) ≤ limit
nesting_joined nest [] rest limit h more = more
nesting_joined nest (token ∷ front) rest limit h more =
    let inner = nesting_joined (after_token token nest) front rest limit (omega (arith, h)) more in omega (arith, h, inner)

-- in the braces of a function, and in those of a table
abbrev pub in_function : Nest
in_function = opened true outermost

abbrev pub in_table : Nest
in_table = opened true in_function

-- a constant of a table is shallow, whatever its number
pub constant_shallow : (z : ℤ) → nesting_from in_table (plain_constant z []) ≤ 256
constant_shallow (pos n) = omega arith
constant_shallow (negsuc n) = by_test (n == 2 ^ 63 - 1)
  where
    by_test : (b : Bool) → nesting_from in_table ((cond {A = Piece} b (piece 0 least_text None) (piece 1 (λ rest. operator Sub ∷ literal (suc n) rest) (Some (negsuc n)))).bare []) ≤ 256
    by_test true = omega arith
    by_test false = omega arith

case_shallow : (z : ℤ) (rest : List Token) → nesting_from in_table rest ≤ 256
    → nesting_from in_table (keyword case_ ∷ plain_constant z (mark colon ∷ jump no_name rest)) ≤ 256
case_shallow (pos n) rest h = nesting_joined in_table (keyword case_ ∷ plain_constant (pos n) (mark colon ∷ jump no_name [])) rest 256 (omega arith) h
case_shallow (negsuc n) rest h = by_test (n == 2 ^ 63 - 1)
  where
    by_test : (b : Bool)
        → nesting_from in_table (keyword case_ ∷ (cond {A = Piece} b (piece 0 least_text None) (piece 1 (λ rest. operator Sub ∷ literal (suc n) rest) (Some (negsuc n)))).bare (mark colon ∷ jump no_name rest)) ≤ 256
    by_test true = nesting_joined in_table (keyword case_ ∷ least_text (mark colon ∷ jump no_name [])) rest 256 (omega arith) h
    by_test false = nesting_joined in_table (keyword case_ ∷ operator Sub ∷ literal (suc n) (mark colon ∷ jump no_name [])) rest 256 (omega arith) h

cases_shallow : (cases : List Case) (rest : List Token) → nesting_from in_table rest ≤ 256 → nesting_from in_table (each case_text cases rest) ≤ 256
cases_shallow [] rest h = h
cases_shallow (c ∷ cases) rest h = case_shallow c.value (each case_text cases rest) (cases_shallow cases rest h)

-- the braces of a table, with any cases
pub table_shallow : (cases : List Case)
    → nesting_from in_function (mark open_brace ∷ each case_text cases (keyword default_ ∷ mark colon ∷ jump no_name (mark close_brace ∷ []))) ≤ 256
table_shallow cases =
    let inner = cases_shallow cases (keyword default_ ∷ mark colon ∷ jump no_name (mark close_brace ∷ [])) (omega arith) in omega (arith, inner)

-- a name is set to any number
pub set_shallow : (w : List ℕ) (z : ℤ) → nesting_from in_function (name w ∷ mark equals ∷ plain_constant z (mark semicolon ∷ [])) ≤ 256
set_shallow w (pos n) = omega arith
set_shallow w (negsuc n) = by_test (n == 2 ^ 63 - 1)
  where
    by_test : (b : Bool)
        → nesting_from in_function (name w ∷ mark equals ∷ (cond {A = Piece} b (piece 0 least_text None) (piece 1 (λ rest. operator Sub ∷ literal (suc n) rest) (Some (negsuc n)))).bare (mark semicolon ∷ [])) ≤ 256
    by_test true = omega arith
    by_test false = omega arith
