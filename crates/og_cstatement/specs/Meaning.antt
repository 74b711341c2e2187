-- What the parts of a program mean whose names are numbers and whose places lie in one vector of cells, as for programs of the C
-- subset (C99 6.5): operands are computed from left to right, and each index is tested where it is computed. What has no number
-- because its name has no meaning is of no value at the place where the name would be looked up.
use Rattle.std.specs.Prelude.{ℕ, ◌+◌, ◌-◌, ◌*◌, ◌^◌, min, ℤ, pos, List, [], ◌∷◌, Bool, true, false, if◌then◌else◌, Option, Some, None, Result, Ok, slice_get, slice_set, slice_index_or}
use Rattle.og_model.specs.declared.EventId.{EventId}
use Rattle.og_csubset.specs.Step.{operation, relation}
use Rattle.og_ir.specs.Reading.{below}
use Rattle.og_ir.specs.Arithmetic.{Trouble, Index, Value, ◌>>=◌, or_else, in_64_bits, negative_of, is_same}
use Rattle.og_ir.specs.Steps.{Frame}
use Rattle.og_ccells.specs.Vectors.{copied}
use Rattle.og_cstatement.specs.declared.code.Expression.{Expression, Expression-F, fold-Expression}
use Rattle.og_cstatement.specs.declared.code.Expression.TheOpen.{Literal, Read, Minus, Op, Choice}
use Rattle.og_cstatement.specs.declared.code.Term.{Term, Term-F, fold-Term}
use Rattle.og_cstatement.specs.declared.code.Place.{Place, Place-F, fold-Place}
use Rattle.og_cstatement.specs.declared.code.Test.{Test, Test-F, fold-Test}
use Rattle.og_cstatement.specs.declared.code.Case.{Case}
use Rattle.og_cstatement.specs.declared.code.Statement.{Statement}
use Rattle.og_cstatement.specs.declared.code.Statement.TheVariants as statement
use Rattle.og_cstatement.specs.declared.linking.Linked.{Linked}

-- ---- numbers

abbrev pub Number : Type 0
Number = Result ℤ Trouble

-- the number at a place of the vector
abbrev pub number_at : List ℤ → ℕ → ℤ
number_at cells at = slice_index_or cells at (pos 0)

-- a place, moved by each index in turn; no place is further than the largest number of 64 bits
abbrev pub reached : ℕ → List (Result ℕ Trouble) → Result ℕ Trouble
reached at [] = Ok at
reached at (one ∷ more) = one >>= λ n. reached (min (at + n) (2 ^ 64 - 1)) more

abbrev pub chosen : Number → Number → Bool → Number
chosen a b true = a
chosen a b false = b

abbrev pub number_layer : List ℤ → Expression-F Number (Result ℕ Trouble) (Result ℕ Trouble) (Result Bool Trouble) → Number
number_layer cells (Literal z) = Ok z
number_layer cells (Read place) = place >>= λ at. Ok (number_at cells at)
number_layer cells (Minus x) = x >>= negative_of in_64_bits
number_layer cells (Op o a b) = do
  x ← a
  y ← b
  operation o x y
number_layer cells (Choice test a b) = test >>= chosen a b

-- how far an index inside an array of such a size leads
abbrev pub index_in : ℕ → ℕ → ℤ → Result ℕ Trouble
index_in bound stride z = or_else (below bound z) Index >>= λ k. Ok (k * stride)

abbrev pub term_layer : Term-F Number (Result ℕ Trouble) (Result ℕ Trouble) (Result Bool Trouble) → Result ℕ Trouble
term_layer term = term.index >>= index_in term.bound term.stride

abbrev pub place_layer : Place-F Number (Result ℕ Trouble) (Result ℕ Trouble) (Result Bool Trouble) → Result ℕ Trouble
place_layer place = reached place.offset place.terms

abbrev pub test_layer : Test-F Number (Result ℕ Trouble) (Result ℕ Trouble) (Result Bool Trouble) → Result Bool Trouble
test_layer test = do
  x ← test.left
  y ← test.right
  Ok (relation test.op x y)

-- the value of an expression
unfoldable pub value_of : List ℤ → Expression → Number
value_of cells e = fold-Expression Number (Result ℕ Trouble) (Result ℕ Trouble) (Result Bool Trouble) (number_layer cells) place_layer term_layer test_layer e

-- how far an index moves a place
unfoldable pub distance_of : List ℤ → Term → Result ℕ Trouble
distance_of cells term = fold-Term Number (Result ℕ Trouble) (Result ℕ Trouble) (Result Bool Trouble) (number_layer cells) place_layer term_layer test_layer term

-- where a place lies in the vector
unfoldable pub place_of : List ℤ → Place → Result ℕ Trouble
place_of cells place = fold-Place Number (Result ℕ Trouble) (Result ℕ Trouble) (Result Bool Trouble) (number_layer cells) place_layer term_layer test_layer place

-- whether a test holds
unfoldable pub holds : List ℤ → Test → Result Bool Trouble
holds cells test = fold-Test Number (Result ℕ Trouble) (Result ℕ Trouble) (Result Bool Trouble) (number_layer cells) place_layer term_layer test_layer test

-- ---- statements

-- What a statement does: goes on behind it, goes on at a place of the body, puts a number, copies so many cells, calls a
-- function, shows an event, or returns.
pub data Effect : Type 0 where
  Onward : Effect
  At : (place : ℕ) → Effect
  Put : (place : ℕ) (number : ℤ) → Effect
  Copy : (to from width : ℕ) → Effect
  Enter : (function : ℕ) → Effect
  Show : (event : EventId) → Effect
  Back : Effect

-- the place of the case that has the value, or else the last one
abbrev pub place_of_case : ℤ → List Case → Option ℕ → Option ℕ
place_of_case z [] otherwise = otherwise
place_of_case z (c ∷ cases) otherwise = if is_same z c.value then c.place else place_of_case z cases otherwise

-- goes on at a place that is there
abbrev pub gone : Option ℕ → Result Effect Trouble
gone place = or_else place Value >>= λ k. Ok (At k)

abbrev pub branched : Option ℕ → Bool → Result Effect Trouble
branched place true = gone place
branched place false = Ok Onward

-- a number is put, where the place is found before the number
abbrev pub assigned : List ℤ → Place → Expression → Result Effect Trouble
assigned cells place e = do
  at ← place_of cells place
  z ← value_of cells e
  Ok (Put at z)

-- the same of the cells of another place
abbrev pub copied_from : List ℤ → Place → Place → ℕ → Result Effect Trouble
copied_from cells place from width = do
  to ← place_of cells place
  source ← place_of cells from
  Ok (Copy to source width)

abbrev pub switched : List Case → Option ℕ → ℤ → Result Effect Trouble
switched cases otherwise z = gone (place_of_case z cases otherwise)

abbrev pub effect_of : List ℤ → Statement → Result Effect Trouble
effect_of cells (statement.Assign place e) = assigned cells place e
effect_of cells (statement.Copy place from width) = copied_from cells place from width
effect_of cells (statement.Branch test place) = holds cells test >>= branched place
effect_of cells (statement.Goto place) = gone place
effect_of cells statement.Label = Ok Onward
effect_of cells (statement.Switch e cases otherwise) = value_of cells e >>= switched cases otherwise
effect_of cells (statement.Event event) = or_else event Value >>= λ id. Ok (Show id)
effect_of cells (statement.Call function) = or_else function Value >>= λ k. Ok (Enter k)
effect_of cells statement.Return = Ok Back

-- the statement of a place, or the end of the function
abbrev pub effect_there : List ℤ → Option Statement → Result Effect Trouble
effect_there cells None = Ok Back
effect_there cells (Some statement) = effect_of cells statement

-- the statement where a function stands
abbrev pub effect_at : Linked → List ℤ → Frame → Result Effect Trouble
effect_at linked cells frame =
    or_else (slice_get linked.functions frame.function) Value >>= λ f. effect_there cells (slice_get f.statements frame.place)

-- the cells after an effect
abbrev pub cells_by : Effect → List ℤ → List ℤ
cells_by Onward cells = cells
cells_by (At place) cells = cells
cells_by (Put place z) cells = slice_set cells place z
cells_by (Copy to from width) cells = copied to from width cells
cells_by (Enter function) cells = cells
cells_by (Show event) cells = cells
cells_by Back cells = cells
