-- Numbers and tests mean over the vector what they mean over the trees of cells.
use Rattle.std.proofs.Common.{◌≡◌, ℕ, zero, suc, ◌≤◌, ℤ, List, Bool, true, false, ◌&&◌, Option, Some, None, Ok, refl, sym, ap, ◌∙◌, subst, arith}
use Rattle.std.proofs.lemmas.Bool.{false≢true}
use Rattle.og_names.proofs.Truths.{both_first as left_of, both_second as right_of}
use Rattle.og_ir.specs.Cells.{number_in}
use Rattle.og_ir.specs.Arithmetic.{Value, ◌>>=◌, or_else, in_64_bits, negative_of}
use Rattle.og_ir.specs.FlatSteps.{Spot, cells_at}
use Rattle.og_csubset.specs.declared.CProgram.{CProgram}
use Rattle.og_csubset.specs.declared.CType.{CType}
use Rattle.og_csubset.specs.declared.CType.TheVariants.{Int64, Struct}
use Rattle.og_csubset.specs.declared.CPlace.{CPlace, size-CPlace}
use Rattle.og_csubset.specs.declared.CStep.{CStep}
use Rattle.og_csubset.specs.declared.CExpr.{CExpr, CExpr-F, out-CExpr, roll-CExpr, roll-out-CExpr, fold-roll-CExpr, size-CExpr}
use Rattle.og_csubset.specs.declared.CExpr.TheOpen as open'
use Rattle.og_csubset.specs.declared.CTest.{CTest, size-CTest}
use Rattle.og_csubset.specs.Kinds.{first_globals, blank_type}
use Rattle.og_csubset.specs.Loading.{is_number_type, type_by, number_by, is_number, type_of_place}
use Rattle.og_csubset.specs.Step as s
use Rattle.og_csubset.specs.Step.{side, value_by, operation, relation}
use Rattle.og_csubset.proofs.Depth.{depth_of_parts, depth_is, left_below, right_below, bind_same, value_is, is_number_is}
use Rattle.og_ccells.specs.Vectors.{filled, trees_of}
use Rattle.og_ccells.proofs.Steady.{number_laid}
use Rattle.og_ccells.proofs.Globals.{spot_read}
use Rattle.og_cstatement.specs.declared.code.Expression as e
use Rattle.og_cstatement.specs.declared.code.Expression.{Expression}
use Rattle.og_cstatement.specs.declared.code.Place.{Place}
use Rattle.og_cstatement.specs.declared.code.Test.{Test}
use Rattle.og_cstatement.specs.Meaning as m
use Rattle.og_cstatement.specs.Meaning.{Number, number_at, chosen}
use Rattle.og_cstatement.specs.Resolved.{Leads, number_layer, step_layer, place_layer, test_layer, expression_of, place_of, test_of}
use Rattle.og_cstatement.proofs.Valued.{value_Literal, value-Read, value-Minus, value-Op, value-Choice, holds-is}
use Rattle.og_cstatement.proofs.Numbered.{test-is}
use Rattle.og_cstatement.proofs.Alike.{Alike, alike_bind, same_of}
use Rattle.og_cstatement.proofs.Spotted.{Fits, Lands, spot_alike}

-- ---- the form of an expression

abbrev pub made : CProgram → CExpr-F CExpr CStep CPlace CTest → Expression
made P (open'.Number z) = e.Literal z
made P (open'.Read place) = e.Read (place_of P place)
made P (open'.Minus a) = e.Minus (expression_of P a)
made P (open'.Op o a b) = e.Op o (expression_of P a) (expression_of P b)
made P (open'.Pick test a b) = e.Choice (test_of P test) (expression_of P a) (expression_of P b)

rolled : (P : CProgram) (shape : CExpr-F CExpr CStep CPlace CTest) → expression_of P (roll-CExpr shape) ≡ made P shape
unfolding expression_of place_of test_of
rolled P (open'.Number z) = fold-roll-CExpr Expression Leads Place Test number_layer (step_layer P) (place_layer P) test_layer (open'.Number z)
rolled P (open'.Read place) = fold-roll-CExpr Expression Leads Place Test number_layer (step_layer P) (place_layer P) test_layer (open'.Read place)
rolled P (open'.Minus a) = fold-roll-CExpr Expression Leads Place Test number_layer (step_layer P) (place_layer P) test_layer (open'.Minus a)
rolled P (open'.Op o a b) = fold-roll-CExpr Expression Leads Place Test number_layer (step_layer P) (place_layer P) test_layer (open'.Op o a b)
rolled P (open'.Pick test a b) = fold-roll-CExpr Expression Leads Place Test number_layer (step_layer P) (place_layer P) test_layer (open'.Pick test a b)

expression_out : (P : CProgram) (a : CExpr) → expression_of P a ≡ made P (out-CExpr a)
expression_out P a = ap (expression_of P) (sym (roll-out-CExpr a)) ∙ rolled P (out-CExpr a)

-- ---- numbers that are read

-- the cells of a spot
pub cells_there : (P : CProgram) (xs : List ℤ) (t : CType) (spot : Spot) (at : ℕ) → Lands P t spot at → cells_at (trees_of P xs) spot ≡ Ok (filled at (blank_type P.structs t) xs)
unfolding trees_of
cells_there P xs t spot at lands =
    spot_read (first_globals P) xs spot.base spot.path (blank_type P.structs t) lands.there
    ∙ ap (λ k. Ok (filled k (blank_type P.structs t) xs)) lands.at_is

number_there : (P : CProgram) (xs : List ℤ) (spot : Spot) (at : ℕ) → Lands P Int64 spot at → (cells_at (trees_of P xs) spot >>= λ c. or_else (number_in c) Value) ≡ Ok (number_at xs at)
number_there P xs spot at lands =
    ap (λ r. r >>= λ c. or_else (number_in c) Value) (cells_there P xs Int64 spot at lands)
    ∙ ap (λ c. or_else (number_in (filled at c xs)) Value) (number_laid P.structs)

number_type : (o : Option CType) → is_number_type o ≡ true → o ≡ Some Int64
number_type None e = absurd (false≢true e)
number_type (Some Int64) e = refl
number_type (Some (Struct name)) e = absurd (false≢true e)

module _ (P : CProgram) (xs : List ℤ) (fits : Fits P) where
  -- ---- parts of which no one is deeper

  abbrev SameTo : ℕ → Type 0
  SameTo d = (a : CExpr) → size-CExpr a ≤ d → is_number P a ≡ true → s.value_of P (trees_of P xs) a ≡ m.value_of xs (expression_of P a)

  read_same : (d : ℕ) → SameTo d → (place : CPlace) → size-CPlace place ≤ d → is_number_type (type_by (is_number P) P place) ≡ true
      → (s.spot_of P (trees_of P xs) place >>= λ spot. cells_at (trees_of P xs) spot >>= λ c. or_else (number_in c) Value) ≡ (m.place_of xs (place_of P place) >>= λ at. Ok (number_at xs at))
  read_same d same place low h =
      same_of _ _
      (alike_bind (Lands P Int64) (λ x y. x ≡ y) (s.spot_of P (trees_of P xs) place) (m.place_of xs (place_of P place)) _ (λ at. Ok (number_at xs at))
      (spot_alike P xs fits (s.value_of P (trees_of P xs)) (is_number P) d same place Int64 low (number_type (type_by (is_number P) P place) h))
      (λ spot at lands. subst (λ r. Alike (λ x y. x ≡ y) r (Ok (number_at xs at))) (sym (number_there P xs spot at lands)) refl))

  test_same : (d : ℕ) → SameTo d → (test : CTest) → size-CTest test ≤ d → is_number P test.left ≡ true → is_number P test.right ≡ true
      → s.holds P (trees_of P xs) test ≡ m.holds xs (test_of P test)
  test_same d same test low left right =
      bind_same _ _ _ _ (same test.left (left_below test d low) left) (λ x.
      bind_same _ _ _ _ (same test.right (right_below test d low) right) (λ y. refl))
      ∙ sym (ap (m.holds xs) (test-is P test) ∙ holds-is xs (record { op = test.op; left = expression_of P test.left; right = expression_of P test.right }))

  side_same : (a b : CExpr) (x y : Number) → s.value_of P (trees_of P xs) a ≡ x → s.value_of P (trees_of P xs) b ≡ y → (taken : Bool) → side (s.value_of P (trees_of P xs)) a b taken ≡ chosen x y taken
  side_same a b x y p q true = p
  side_same a b x y p q false = q

  shape_same : (d : ℕ) → SameTo d → (shape : CExpr-F CExpr CStep CPlace CTest) → depth_of_parts shape ≤ d → number_by (is_number P) P shape ≡ true
      → value_by (s.value_of P (trees_of P xs)) P (trees_of P xs) shape ≡ m.value_of xs (made P shape)
  shape_same d same (open'.Number z) low h = sym (value_Literal xs z)
  shape_same d same (open'.Read place) low h = read_same d same place low h ∙ sym (value-Read xs (place_of P place))
  shape_same d same (open'.Minus a) low h = ap (λ r. r >>= negative_of in_64_bits) (same a low h) ∙ sym (value-Minus xs (expression_of P a))
  shape_same d same (open'.Op o a b) low h =
      bind_same _ _ _ _ (same a (omega (arith, low)) (left_of (is_number P a) (is_number P b) h)) (λ x.
      bind_same _ _ _ _ (same b (omega (arith, low)) (right_of (is_number P a) (is_number P b) h)) (λ y. refl))
      ∙ sym (value-Op xs o (expression_of P a) (expression_of P b))
  shape_same d same (open'.Pick test a b) low h =
      let num = is_number P in
      let three = left_of (num test.left && num test.right && num a) (num b) h in
      let two = left_of (num test.left && num test.right) (num a) three in
      bind_same _ _ _ _ (test_same d same test (omega (arith, low)) (left_of (num test.left) (num test.right) two) (right_of (num test.left) (num test.right) two))
      (side_same a b (m.value_of xs (expression_of P a)) (m.value_of xs (expression_of P b)) (same a (omega (arith, low)) (right_of (num test.left && num test.right) (num a) three))
      (same b (omega (arith, low)) (right_of (num test.left && num test.right && num a) (num b) h)))
      ∙ sym (value-Choice xs (test_of P test) (expression_of P a) (expression_of P b))

  same_to : (d : ℕ) → SameTo d
  same_to zero a low h = absurd (let deep = depth_is a in omega (arith, deep, low))
  same_to (suc d) a low h =
      let deep = depth_is a in
      value_is P (trees_of P xs) a ∙ shape_same d (same_to d) (out-CExpr a) (omega (arith, deep, low)) (sym (is_number_is P a) ∙ h) ∙ ap (m.value_of xs) (sym (expression_out P a))

  pub same_value : (a : CExpr) → is_number P a ≡ true → s.value_of P (trees_of P xs) a ≡ m.value_of xs (expression_of P a)
  same_value a h = same_to (size-CExpr a) a (omega arith) h

  pub same_test : (test : CTest) → is_number P test.left ≡ true → is_number P test.right ≡ true → s.holds P (trees_of P xs) test ≡ m.holds xs (test_of P test)
  same_test test left right = test_same (size-CTest test) (same_to (size-CTest test)) test (omega arith) left right

  pub same_spot : (place : CPlace) (t : CType) → type_of_place P place ≡ Some t → Alike (Lands P t) (s.spot_of P (trees_of P xs) place) (m.place_of xs (place_of P place))
  same_spot place t h = spot_alike P xs fits (s.value_of P (trees_of P xs)) (is_number P) (size-CPlace place) (same_to (size-CPlace place)) place t (omega arith) h
