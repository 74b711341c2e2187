-- The parts of a tree are smaller.
use Rattle.std.proofs.Common.{ℕ, suc, ◌<◌, ◌≤◌, List, [], ◌∷◌, arith}
use Rattle.std.specs.Prelude.{⊤}
use Rattle.og_names.specs.declared.Word.{Word}
use Rattle.og_csubset.specs.declared.CPlace.{CPlace, size-CPlace, size_is-CPlace}
use Rattle.og_csubset.specs.declared.CStep.{CStep, At, size-CStep}
use Rattle.og_csubset.specs.declared.CExpr.{CExpr, Read, Minus, Op, Pick, size-CExpr}
use Rattle.og_csubset.specs.declared.CTest.{CTest, size-CTest, size_is-CTest}
use Rattle.og_csubset.specs.declared.COp.{COp}
use Rattle.og_csubset.specs.declared.CRel.{CRel}
use Rattle.og_csubset.specs.declared.CExpr.TheViews.{sized-Op, sized-Minus, sized-Read, sized-Pick, sized-At}

pub op_left : (op : COp) (a b : CExpr) → size-CExpr a < size-CExpr (Op op a b)
op_left op a b = omega (arith, sized-Op op a b)

pub op_right : (op : COp) (a b : CExpr) → size-CExpr b < size-CExpr (Op op a b)
op_right op a b = omega (arith, sized-Op op a b)

pub minus_part : (a : CExpr) → size-CExpr a < size-CExpr (Minus a)
minus_part a = omega (arith, sized-Minus a)

pub pick_first : (t : CTest) (a b : CExpr) → size-CExpr a < size-CExpr (Pick t a b)
pick_first t a b = omega (arith, sized-Pick t a b)

pub pick_second : (t : CTest) (a b : CExpr) → size-CExpr b < size-CExpr (Pick t a b)
pick_second t a b = omega (arith, sized-Pick t a b)

pub pick_test : (t : CTest) (a b : CExpr) → size-CTest t < size-CExpr (Pick t a b)
pick_test t a b = omega (arith, sized-Pick t a b)

pub read_place : (p : CPlace) → size-CPlace p < size-CExpr (Read p)
read_place p = omega (arith, sized-Read p)

pub test_left : (op : CRel) (a b : CExpr) → size-CExpr a < size-CTest (record { op = op; left = a; right = b })
test_left op a b = omega (arith, size_is-CTest (record { op = op; left = a; right = b }))

pub test_right : (op : CRel) (a b : CExpr) → size-CExpr b < size-CTest (record { op = op; left = a; right = b })
test_right op a b = omega (arith, size_is-CTest (record { op = op; left = a; right = b }))

-- each of the steps has at most this size
abbrev pub Within : ℕ → List CStep → Type 0
Within d [] = ⊤
Within d (s ∷ ss) = (size-CStep s ≤ d) × Within d ss

place_first : (w : Word) (s : CStep) (ss : List CStep) → size-CStep s < size-CPlace (record { name = w; path = s ∷ ss })
place_first w s ss = omega (arith, size_is-CPlace (record { name = w; path = s ∷ ss }))

place_rest : (w : Word) (s : CStep) (ss : List CStep) → size-CPlace (record { name = w; path = ss }) ≤ size-CPlace (record { name = w; path = s ∷ ss })
place_rest w s ss = omega (arith, size_is-CPlace (record { name = w; path = s ∷ ss }), size_is-CPlace (record { name = w; path = ss }))

pub place_within : (d : ℕ) (w : Word) (steps : List CStep) → size-CPlace (record { name = w; path = steps }) ≤ suc d → Within d steps
place_within d w [] h = tt
place_within d w (s ∷ ss) h = (omega (arith, place_first w s ss), place_within d w ss (omega (arith, place_rest w s ss)))

pub at_part : (e : CExpr) → size-CExpr e < size-CStep (At e)
at_part e = omega (arith, sized-At e)
