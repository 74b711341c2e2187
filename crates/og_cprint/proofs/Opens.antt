-- The text of each tree, from the texts of its parts.
use Rattle.std.proofs.Common.{◌≡◌, ◌++◌, ℤ, sym, ap, ◌∙◌}
use Rattle.std.specs.List.{flat_map}
use Rattle.std.proofs.lemmas.List.Folds.{flat_map-map}
use Rattle.og_names.specs.declared.Word.{Word}
use Rattle.og_csubset.specs.declared.CPlace.{CPlace, fold-roll-CPlace}
use Rattle.og_csubset.specs.declared.CStep.{Member, At, fold-roll-CStep, roll-CStep}
use Rattle.og_csubset.specs.declared.CExpr.{CExpr, Number, Read, Minus, Op, Pick, fold-roll-CExpr}
use Rattle.og_csubset.specs.declared.CExpr.TheOpen as open'
use Rattle.og_csubset.specs.declared.CExpr.TheVariants.{rolls-Number, rolls-Read, rolls-Minus, rolls-Op, rolls-Pick}
use Rattle.og_csubset.specs.declared.CTest.{CTest, fold-roll-CTest}
use Rattle.og_csubset.specs.declared.COp.{COp}
use Rattle.og_cprint.specs.declared.expression.Slot.TheVariants.{Sum}
use Rattle.og_cprint.specs.Printed.{Bytes, Printed, number_printed, place_printed, minus_printed, operation_printed, pick_printed, relation_bytes, expression_layer, step_layer, place_layer, test_layer, printed, step_bytes, place_bytes, test_bytes}
use Rattle.std.specs.Prelude.{codes}

pub printed-Number : (z : ℤ) → printed (Number z) ≡ number_printed z
unfolding printed
printed-Number z = ap printed (sym (rolls-Number z)) ∙ fold-roll-CExpr Printed Bytes Bytes Bytes expression_layer step_layer place_layer test_layer (open'.Number z)

pub printed-Read : (p : CPlace) → printed (Read p) ≡ place_printed (place_bytes p)
unfolding printed place_bytes
printed-Read p = ap printed (sym (rolls-Read p)) ∙ fold-roll-CExpr Printed Bytes Bytes Bytes expression_layer step_layer place_layer test_layer (open'.Read p)

pub printed-Minus : (e : CExpr) → printed (Minus e) ≡ minus_printed (printed e)
unfolding printed
printed-Minus e = ap printed (sym (rolls-Minus e)) ∙ fold-roll-CExpr Printed Bytes Bytes Bytes expression_layer step_layer place_layer test_layer (open'.Minus e)

pub printed-Op : (op : COp) (a b : CExpr) → printed (Op op a b) ≡ operation_printed op (printed a) (printed b)
unfolding printed
printed-Op op a b = ap printed (sym (rolls-Op op a b)) ∙ fold-roll-CExpr Printed Bytes Bytes Bytes expression_layer step_layer place_layer test_layer (open'.Op op a b)

pub printed-Pick : (t : CTest) (a b : CExpr) → printed (Pick t a b) ≡ pick_printed (test_bytes t) (printed a) (printed b)
unfolding printed test_bytes
printed-Pick t a b = ap printed (sym (rolls-Pick t a b)) ∙ fold-roll-CExpr Printed Bytes Bytes Bytes expression_layer step_layer place_layer test_layer (open'.Pick t a b)

pub step-Member : (w : Word) → step_bytes (Member w) ≡ codes "." ++ w.bytes
unfolding step_bytes roll-CStep denote.Hole.Carrier.roll
step-Member w = fold-roll-CStep Printed Bytes Bytes Bytes expression_layer step_layer place_layer test_layer (open'.Member w)

pub step-At : (e : CExpr) → step_bytes (At e) ≡ codes "[" ++ ((printed e).at Sum ++ codes "]")
unfolding step_bytes printed roll-CStep denote.Hole.Carrier.roll
step-At e = fold-roll-CStep Printed Bytes Bytes Bytes expression_layer step_layer place_layer test_layer (open'.At e)

pub place-bytes : (p : CPlace) → place_bytes p ≡ p.name.bytes ++ flat_map step_bytes p.path
unfolding place_bytes step_bytes
place-bytes p =
    fold-roll-CPlace Printed Bytes Bytes Bytes expression_layer step_layer place_layer test_layer (record { name = p.name; path = p.path })
    ∙ ap (λ l. p.name.bytes ++ l) (flat_map-map (λ step. step) step_bytes p.path)

pub test-bytes : (t : CTest) → test_bytes t ≡ (printed t.left).at Sum ++ (relation_bytes t.op ++ (printed t.right).at Sum)
unfolding test_bytes printed
test-bytes t = fold-roll-CTest Printed Bytes Bytes Bytes expression_layer step_layer place_layer test_layer (record { op = t.op; left = t.left; right = t.right })

pub ruleset opens = (printed-Number, printed-Read, printed-Minus, printed-Op, printed-Pick, step-Member, step-At, place-bytes, test-bytes)
