-- The plain text of each tree, from the plain texts of its parts.
use Rattle.std.proofs.Common.{◌≡◌, List, ◌∷◌, map, ℤ, None, sym, ap, ◌∙◌}
use Rattle.og_names.specs.declared.Word.{Word}
use Rattle.og_csubset.specs.declared.CPlace.{CPlace, fold-roll-CPlace}
use Rattle.og_csubset.specs.declared.CStep.{CStep, Member, At, fold-CStep, fold-roll-CStep, roll-CStep}
use Rattle.og_csubset.specs.declared.CExpr.{CExpr, Number, Read, Minus, Op, Pick, fold-roll-CExpr}
use Rattle.og_csubset.specs.declared.CExpr.TheOpen as open'
use Rattle.og_csubset.specs.declared.CExpr.TheVariants.{rolls-Number, rolls-Read, rolls-Minus, rolls-Op, rolls-Pick}
use Rattle.og_csubset.specs.declared.CTest.{CTest, fold-roll-CTest}
use Rattle.og_csubset.specs.declared.COp.{COp}
use Rattle.og_csubset.specs.declared.COp.TheVariants.{Sub}
use Rattle.og_csubset.specs.declared.CRel.{CRel}
use Rattle.og_csubset.specs.Tokens.{name, operator, relation, mark, open_round, close_round, open_square, close_square, question, colon, dot}
use Rattle.og_csubset.specs.Plain.{Text, Piece, piece, number_piece, behind_sign, op_piece, expression_piece, step_text, joined, place_text, test_text, plain_piece, plain_place, plain_test, plain_number}

pub plain_step : CStep → Text
plain_step s = fold-CStep Piece Text Text Text expression_piece step_text place_text test_text s

pub piece-Number : (z : ℤ) → plain_piece (Number z) ≡ number_piece z
unfolding plain_piece
piece-Number z = ap plain_piece (sym (rolls-Number z)) ∙ fold-roll-CExpr Piece Text Text Text expression_piece step_text place_text test_text (open'.Number z)

pub piece-Read : (p : CPlace) → plain_piece (Read p) ≡ piece 0 (plain_place p) None
unfolding plain_piece plain_place
piece-Read p = ap plain_piece (sym (rolls-Read p)) ∙ fold-roll-CExpr Piece Text Text Text expression_piece step_text place_text test_text (open'.Read p)

pub piece-Minus : (e : CExpr) → plain_piece (Minus e) ≡ piece 1 (λ rest. operator Sub ∷ behind_sign (plain_piece e) rest) None
unfolding plain_piece
piece-Minus e = ap plain_piece (sym (rolls-Minus e)) ∙ fold-roll-CExpr Piece Text Text Text expression_piece step_text place_text test_text (open'.Minus e)

pub piece-Op : (op : COp) (a b : CExpr) → plain_piece (Op op a b) ≡ op_piece op (plain_piece a) (plain_piece b)
unfolding plain_piece
piece-Op op a b = ap plain_piece (sym (rolls-Op op a b)) ∙ fold-roll-CExpr Piece Text Text Text expression_piece step_text place_text test_text (open'.Op op a b)

pub piece-Pick : (t : CTest) (a b : CExpr) → plain_piece (Pick t a b)
    ≡ piece 0 (λ rest. mark open_round ∷ plain_test t (mark question ∷ plain_number a (mark colon ∷ plain_number b (mark close_round ∷ rest)))) None
unfolding plain_piece plain_test
piece-Pick t a b = ap plain_piece (sym (rolls-Pick t a b)) ∙ fold-roll-CExpr Piece Text Text Text expression_piece step_text place_text test_text (open'.Pick t a b)

pub step-Member : (w : Word) → plain_step (Member w) ≡ (λ rest. mark dot ∷ name w.bytes ∷ rest)
unfolding plain_step roll-CStep denote.Hole.Carrier.roll
step-Member w = fold-roll-CStep Piece Text Text Text expression_piece step_text place_text test_text (open'.Member w)

pub step-At : (e : CExpr) → plain_step (At e) ≡ (λ rest. mark open_square ∷ plain_number e (mark close_square ∷ rest))
unfolding plain_step plain_piece roll-CStep denote.Hole.Carrier.roll
step-At e = fold-roll-CStep Piece Text Text Text expression_piece step_text place_text test_text (open'.At e)

pub place-text : (w : Word) (steps : List CStep) → plain_place (record { name = w; path = steps }) ≡ (λ rest. name w.bytes ∷ joined (map plain_step steps) rest)
unfolding plain_place plain_step
place-text w steps = fold-roll-CPlace Piece Text Text Text expression_piece step_text place_text test_text (record { name = w; path = steps })

pub test-text : (op : CRel) (a b : CExpr) → plain_test (record { op = op; left = a; right = b }) ≡ (λ rest. plain_number a (relation op ∷ plain_number b rest))
unfolding plain_test plain_piece
test-text op a b = fold-roll-CTest Piece Text Text Text expression_piece step_text place_text test_text (record { op = op; left = a; right = b })
