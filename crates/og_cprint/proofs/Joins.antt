-- Texts that are put together piece by piece.
use Rattle.std.proofs.Common.{◌≡◌, Bool, List, [], ◌∷◌, ◌++◌, sym, ap, ◌∙◌, append_assoc}
use Rattle.std.specs.Prelude.{codes}
use Rattle.std.specs.List.{flat_map}
use Rattle.og_csubset.specs.declared.CExpr.{CExpr, Minus, Op, Pick}
use Rattle.og_csubset.specs.declared.CStep.{CStep, Member, At}
use Rattle.og_csubset.specs.declared.CPlace.{CPlace}
use Rattle.og_csubset.specs.declared.CTest.{CTest}
use Rattle.og_csubset.specs.declared.CStmt.{CStmt}
use Rattle.og_csubset.specs.declared.CStmt.TheVariants.{Switch}
use Rattle.og_csubset.specs.declared.CCase.{CCase}
use Rattle.og_csubset.specs.declared.COp.{COp}
use Rattle.og_names.specs.declared.Word.{Word}
use Rattle.og_cprint.specs.declared.expression.Slot.{Slot}
use Rattle.og_cprint.specs.declared.expression.Slot.TheVariants.{Sum, Primary}
use Rattle.og_cprint.specs.Printed.{Bytes, when, Printed, is_primary, operation_bracket, is_least_in, left_slot, right_slot, operator_bytes, relation_bytes, operation_at, printed, step_bytes, place_bytes, test_bytes, case_bytes, default_bytes, statement_bytes}
use Rattle.og_cprint.proofs.Opens.{printed-Minus, printed-Op, printed-Pick, step-Member, step-At, place-bytes, test-bytes}

-- one piece more
pub record Adds (o a p : Bytes) : Type 0 where
  pub by : p ≡ o ++ a

adds : (o a p : Bytes) → p ≡ o ++ a → Adds o a p
adds o a p h = record { by = h }

-- one piece after another
after : {o p q a b : Bytes} → Adds o a p → Adds p b q → Adds o (a ++ b) q
after {o} {p} {q} {a} {b} h k = record { by = k.by ∙ ap (λ l. l ++ b) h.by ∙ append_assoc o a b }

pub minus_put : (e x : CExpr) (slot : Slot) (b : Bool) (o : Bytes) {p q r s : Bytes} → e ≡ Minus x → b ≡ is_primary slot → p ≡ o ++ when b (codes "(")
    → q ≡ p ++ codes "-" → r ≡ q ++ (printed x).at Primary → s ≡ r ++ when b (codes ")") → s ≡ o ++ (printed e).at slot
minus_put e x slot b o {p} {q} {r} {s} is f h k l m =
    (after (adds o (when b (codes "(")) p h) (after (adds p (codes "-") q k) (after (adds q ((printed x).at Primary) r l) (adds r (when b (codes ")")) s m)))).by
    ∙ ap (λ t. o ++ t)
    (ap (λ c. when c (codes "(") ++ (codes "-" ++ ((printed x).at Primary ++ when c (codes ")")))) f
    ∙ sym (ap (λ t. (printed t).at slot) is ∙ ap (λ (t : Printed). t.at slot) (printed-Minus x)))

pub operation_put : (e x y : CExpr) (op : COp) (slot left right : Slot) (b : Bool) (sign o : Bytes) {p q r s t : Bytes} → e ≡ Op op x y
    → b ≡ operation_bracket op slot → left ≡ left_slot op (is_least_in op b (printed x).value (printed y).value) → sign ≡ operator_bytes op
    → right ≡ right_slot op → p ≡ o ++ when b (codes "(") → q ≡ p ++ (printed x).at left → r ≡ q ++ sign → s ≡ r ++ (printed y).at right
    → t ≡ s ++ when b (codes ")") → t ≡ o ++ (printed e).at slot
operation_put e x y op slot left right b sign o {p} {q} {r} {s} {t} is f g h i j k l m n =
    (after (adds o (when b (codes "(")) p j) (after (adds p ((printed x).at left) q k)
    (after (adds q sign r l) (after (adds r ((printed y).at right) s m) (adds s (when b (codes ")")) t n))))).by
    ∙ ap (λ u. o ++ u)
    (ap (λ u. when b (codes "(") ++ ((printed x).at u ++ (sign ++ ((printed y).at right ++ when b (codes ")"))))) g
    ∙ ap (λ u. when b (codes "(") ++ ((printed x).at (left_slot op (is_least_in op b (printed x).value (printed y).value)) ++ (u ++ ((printed y).at right ++ when b (codes ")"))))) h
    ∙ ap (λ u. when b (codes "(") ++ ((printed x).at (left_slot op (is_least_in op b (printed x).value (printed y).value)) ++ (operator_bytes op ++ ((printed y).at u ++ when b (codes ")"))))) i
    ∙ ap (λ c. operation_at op (printed x) (printed y) c) f
    ∙ sym (ap (λ u. (printed u).at slot) is ∙ ap (λ (u : Printed). u.at slot) (printed-Op op x y)))

pub pick_put : (e x y : CExpr) (test : CTest) (slot : Slot) (o : Bytes) {p q r s t u v : Bytes} → e ≡ Pick test x y → p ≡ o ++ codes "("
    → q ≡ p ++ test_bytes test → r ≡ q ++ codes " ? " → s ≡ r ++ (printed x).at Sum → t ≡ s ++ codes " : " → u ≡ t ++ (printed y).at Sum
    → v ≡ u ++ codes ")" → v ≡ o ++ (printed e).at slot
pick_put e x y test slot o {p} {q} {r} {s} {t} {u} {v} is h i j k l m n =
    (after (adds o (codes "(") p h) (after (adds p (test_bytes test) q i) (after (adds q (codes " ? ") r j) (after (adds r ((printed x).at Sum) s k)
    (after (adds s (codes " : ") t l) (after (adds t ((printed y).at Sum) u m) (adds u (codes ")") v n))))))).by
    ∙ ap (λ w. o ++ w) (sym (ap (λ w. (printed w).at slot) is ∙ ap (λ (w : Printed). w.at slot) (printed-Pick test x y)))

pub member_put : (s : CStep) (w : Word) (o : Bytes) {p q : Bytes} → s ≡ Member w → p ≡ o ++ codes "." → q ≡ p ++ w.bytes → q ≡ o ++ step_bytes s
member_put s w o {p} {q} is h k =
    (after (adds o (codes ".") p h) (adds p w.bytes q k)).by ∙ ap (λ l. o ++ l) (sym (ap step_bytes is ∙ step-Member w))

pub at_put : (s : CStep) (e : CExpr) (o : Bytes) {p q r : Bytes} → s ≡ At e → p ≡ o ++ codes "[" → q ≡ p ++ (printed e).at Sum → r ≡ q ++ codes "]"
    → r ≡ o ++ step_bytes s
at_put s e o {p} {q} {r} is h k l =
    (after (adds o (codes "[") p h) (after (adds p ((printed e).at Sum) q k) (adds q (codes "]") r l))).by
    ∙ ap (λ l. o ++ l) (sym (ap step_bytes is ∙ step-At e))

pub test_put : (t : CTest) (sign o : Bytes) {p q r : Bytes} → sign ≡ relation_bytes t.op → p ≡ o ++ (printed t.left).at Sum → q ≡ p ++ sign
    → r ≡ q ++ (printed t.right).at Sum → r ≡ o ++ test_bytes t
test_put t sign o {p} {q} {r} f h k l =
    (after (adds o ((printed t.left).at Sum) p h) (after (adds p sign q k) (adds q ((printed t.right).at Sum) r l))).by
    ∙ ap (λ l. o ++ l)
    (ap (λ s. (printed t.left).at Sum ++ (s ++ (printed t.right).at Sum)) f ∙ sym (test-bytes t))

pub place_put : (p : CPlace) (o : Bytes) {q r : Bytes} → q ≡ o ++ p.name.bytes → r ≡ q ++ flat_map step_bytes p.path → r ≡ o ++ place_bytes p
place_put p o {q} {r} h k = (after (adds o p.name.bytes q h) (adds q (flat_map step_bytes p.path) r k)).by ∙ ap (λ l. o ++ l) (sym (place-bytes p))

pub switch_put : (s : CStmt) (e : CExpr) (cases : List CCase) (l : Word) (o : Bytes) {p q r t u : Bytes} → s ≡ Switch e cases l
    → p ≡ o ++ codes "    switch (" → q ≡ p ++ (printed e).at Sum → r ≡ q ++ (codes ") {" ++ 10 ∷ []) → t ≡ r ++ flat_map case_bytes cases
    → u ≡ t ++ default_bytes l → u ≡ o ++ statement_bytes s
unfolding statement_bytes
switch_put s e cases l o {p} {q} {r} {t} {u} is h i j k m =
    (after (adds o (codes "    switch (") p h) (after (adds p ((printed e).at Sum) q i) (after (adds q (codes ") {" ++ 10 ∷ []) r j)
    (after (adds r (flat_map case_bytes cases) t k) (adds t (default_bytes l) u m))))).by ∙ ap (λ w. o ++ w) (sym (ap statement_bytes is))
