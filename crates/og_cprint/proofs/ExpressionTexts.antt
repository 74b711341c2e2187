-- What is printed of an expression, a place and a test is their plain text.
use Rattle.std.proofs.Common.{◌≡◌, ℕ, zero, suc, ◌-◌, ◌^◌, ◌≤◌, Bool, true, false, cond, not, ◌&&◌, ◌==◌, List, [], ◌∷◌, ◌++◌, map, ℤ, pos, negsuc, Option, Some, None, refl, sym, ap, ap₂, subst, eqb-true, arith}
use Rattle.std.specs.Prelude.{codes}
use Rattle.std.specs.List.{flat_map}
use Rattle.std.specs.Fmt.{digits}
use Rattle.std.proofs.lemmas.Bool.{true≢false, and_parts}
use Rattle.std.proofs.lemmas.Bool.Decides.{nat_tests}
use Rattle.og_csubset.specs.declared.CPlace.{CPlace, size-CPlace}
use Rattle.og_csubset.specs.declared.CStep.{CStep, Member, At}
use Rattle.og_csubset.specs.declared.CExpr.{CExpr, Number, Read, Minus, Op, Pick, size-CExpr, out-CExpr, roll-CExpr, roll-out-CExpr, size_is-CExpr}
use Rattle.og_csubset.specs.declared.CExpr.TheOpen as open'
use Rattle.og_csubset.specs.declared.CExpr.TheVariants.{rolls-Number, rolls-Read, rolls-Minus, rolls-Op, rolls-Pick}
use Rattle.og_csubset.specs.declared.CTest.{CTest, size-CTest}
use Rattle.og_csubset.specs.declared.COp.{COp}
use Rattle.og_csubset.specs.declared.COp.TheVariants.{Add, Sub, Mul, Div, Rem}
use Rattle.og_csubset.specs.declared.CRel.{CRel}
use Rattle.og_csubset.specs.declared.CRel.TheVariants.{Eq, Ne, Lt, Le, Gt, Ge}
use Rattle.og_csubset.specs.Tokens.{Token, name, number, operator, relation, keyword, mark, INT64_C, open_square, close_square, open_round, close_round, colon, question, dot}
use Rattle.og_csubset.specs.Spelling.{literal, least_text}
use Rattle.og_csubset.specs.Plain.{Text, Piece, piece, bracketed, shown, number_piece, is_value, behind_sign, is_least_sum, operation, op_piece, joined, plain_piece, plain_place, plain_test, plain_number}
use Rattle.og_csubset.proofs.Sizes.{op_left, op_right, minus_part, pick_first, pick_second, pick_test, read_place, test_left, test_right, Within, place_within, at_part}
use Rattle.og_csubset.proofs.PlainTexts.{plain_step, piece-Number, piece-Read, piece-Minus, piece-Op, piece-Pick, place-text, test-text}
use Rattle.og_csubset.proofs.PlainTexts as plain'
use Rattle.og_cprint.specs.declared.expression.Slot.TheVariants.{Sum, Product, Unary, Primary}
use Rattle.og_cprint.specs.Printed.{Bytes, when, literal_bytes, least_bytes, number_bytes, is_number, left_slot, operator_bytes, relation_bytes, operation_at, operation_printed, minus_printed, pick_printed, place_printed, number_printed, Printed, printed, step_bytes, place_bytes, test_bytes}
use Rattle.og_cprint.proofs.Opens.{printed-Number, printed-Read, printed-Minus, printed-Op, printed-Pick, step-Member, step-At, place-bytes, test-bytes}
use Rattle.og_cprint.proofs.TextLays.{EndsWord, Lays, free, ended, tight, blank, word_lays, number_lays, fixed, behind, right_behind, BehindSign, signed}

opens : Lays false (λ ts. mark open_round ∷ ts) (codes "(")
opens = fixed (right_behind (mark open_round) ∷ []) [] refl

closes : Lays false (λ ts. mark close_round ∷ ts) (codes ")")
closes = fixed (right_behind (mark close_round) ∷ []) [] refl

literal_lays : (n : ℕ) → Lays false (literal n) (literal_bytes n)
literal_lays n =
    free (fixed (right_behind (keyword INT64_C) ∷ right_behind (mark open_round) ∷ []) [] refl)
    (ended (number_lays n) closes (λ bs fits. refl))

least_lays : Lays false least_text least_bytes
unfolding digits
least_lays =
    fixed (right_behind (mark open_round) ∷ right_behind (operator Sub) ∷ right_behind (keyword INT64_C) ∷ right_behind (mark open_round)
    ∷ right_behind (number (2 ^ 63 - 1)) ∷ right_behind (mark close_round) ∷ behind (codes " ") (operator Sub) ∷ behind (codes " ") (keyword INT64_C)
    ∷ right_behind (mark open_round) ∷ right_behind (number 1) ∷ right_behind (mark close_round) ∷ right_behind (mark close_round) ∷ []) [] refl

-- without a bracket, and with one
bare : {t : Text} {b : Bytes} → Lays true t b → Lays true t ([] ++ (b ++ []))
bare h = free (blank false [] refl) (ended h (blank true [] refl) (λ bs fits. fits))

in_bracket : {t : Text} {b : Bytes} → Lays true t b → Lays true (λ ts. mark open_round ∷ t (mark close_round ∷ ts)) (codes "(" ++ (b ++ codes ")"))
in_bracket h = tight (free opens (ended h closes (λ bs fits. refl)))

operator_lays : (op : COp) → Lays false (λ ts. operator op ∷ ts) (operator_bytes op)
operator_lays Add = fixed (behind (codes " ") (operator Add) ∷ []) (codes " ") refl
operator_lays Sub = fixed (behind (codes " ") (operator Sub) ∷ []) (codes " ") refl
operator_lays Mul = fixed (behind (codes " ") (operator Mul) ∷ []) (codes " ") refl
operator_lays Div = fixed (behind (codes " ") (operator Div) ∷ []) (codes " ") refl
operator_lays Rem = fixed (behind (codes " ") (operator Rem) ∷ []) (codes " ") refl

operator_ends : (op : COp) (b c : Bytes) → EndsWord ((operator_bytes op ++ b) ++ c)
operator_ends Add b c = refl
operator_ends Sub b c = refl
operator_ends Mul b c = refl
operator_ends Div b c = refl
operator_ends Rem b c = refl

relation_lays : (op : CRel) → Lays false (λ ts. relation op ∷ ts) (relation_bytes op)
relation_lays Eq = fixed (behind (codes " ") (relation Eq) ∷ []) (codes " ") refl
relation_lays Ne = fixed (behind (codes " ") (relation Ne) ∷ []) (codes " ") refl
relation_lays Lt = fixed (behind (codes " ") (relation Lt) ∷ []) (codes " ") refl
relation_lays Le = fixed (behind (codes " ") (relation Le) ∷ []) (codes " ") refl
relation_lays Gt = fixed (behind (codes " ") (relation Gt) ∷ []) (codes " ") refl
relation_lays Ge = fixed (behind (codes " ") (relation Ge) ∷ []) (codes " ") refl

relation_ends : (op : CRel) (b c : Bytes) → EndsWord ((relation_bytes op ++ b) ++ c)
relation_ends Eq b c = refl
relation_ends Ne b c = refl
relation_ends Lt b c = refl
relation_ends Le b c = refl
relation_ends Gt b c = refl
relation_ends Ge b c = refl

operation_bare : (op : COp) {t s : Text} {b c : Bytes} → Lays true t b → Lays true s c
    → Lays true (λ ts. t (operator op ∷ s ts)) ([] ++ (b ++ (operator_bytes op ++ (c ++ []))))
operation_bare op h k =
    free (blank false [] refl)
    (ended h (free (operator_lays op) (ended k (blank true [] refl) (λ bs fits. fits))) (λ bs fits. operator_ends op _ bs))

operation_bracketed : (op : COp) {t s : Text} {b c : Bytes} → Lays true t b → Lays true s c
    → Lays true (λ ts. mark open_round ∷ t (operator op ∷ s (mark close_round ∷ ts))) (codes "(" ++ (b ++ (operator_bytes op ++ (c ++ codes ")"))))
operation_bracketed op h k =
    tight (free opens (ended h (free (operator_lays op) (ended k closes (λ bs fits. refl))) (λ bs fits. operator_ends op _ bs)))

-- the literal whose difference with 1 would be -2^63 in a bracket
abbrev above : ℤ
above = negsuc (2 ^ 63 - 2)

-- An expression's plain text agrees with what is printed in each of the four slots: in a sum, in a product, behind a product's
-- operator and behind a sign. `apart` is for the number above the least one, whose text in a bracket is printed as behind a sign;
-- `sign` says what a sign stands before; `left` and `right` are the tests by which both sides know the difference that is -2^63.
record Agrees (p : Piece) (v : Option ℤ) (in_sum in_product unary_ primary_ : Bytes) : Type 0 where
  sum : Lays true p.bare in_sum
  left_sum : Lays true (shown 3 p) in_sum
  product : Lays true (shown 2 p) in_product
  unary : Lays true (shown 1 p) unary_
  primary : Lays true (behind_sign p) primary_
  apart : is_value above p.value ≡ true → Lays true (bracketed p) primary_
  sign : (ts : List Token) → BehindSign (behind_sign p ts)
  left : is_value above p.value ≡ is_number v above
  right : is_value (pos 1) p.value ≡ is_number v (pos 1)

abbrev PrintsAs : Piece → Printed → Type 0
PrintsAs p q = Agrees p q.value (q.at Sum) (q.at Product) (q.at Unary) (q.at Primary)

same_number : (n m : ℕ) → (n == m) ≡ (m == n)
same_number n m = grind (arith, nat_tests)

literal_primary : (n : ℕ) → Lays true (behind_sign (number_piece (pos n))) ((number_printed (pos n)).at Primary)
literal_primary n = go (0 == n) (n == 0) (same_number 0 n)
  where
    go : (c d : Bool) → c ≡ d
        → Lays true (cond {A = Text} c (literal n) (shown 0 (number_piece (pos n))))
        (when (not d) (codes "(") ++ (literal_bytes n ++ when (not d) (codes ")")))
    go true true e = bare (tight (literal_lays n))
    go false false e = in_bracket (tight (literal_lays n))
    go true false e = absurd (true≢false e)
    go false true e = absurd (true≢false (sym e))

literal_sign : (n : ℕ) (ts : List Token) → BehindSign (behind_sign (number_piece (pos n)) ts)
literal_sign n ts = go (0 == n)
  where
    go : (c : Bool) → BehindSign (cond {A = Text} c (literal n) (shown 0 (number_piece (pos n))) ts)
    go true = tt
    go false = tt

-- a negative number: whether it is the least one, and whether a bracket stands round it
abbrev negative_in : Bool → Bool → ℕ → Bytes
negative_in c b n = when b (codes "(") ++ (cond c least_bytes (codes "-" ++ literal_bytes (suc n)) ++ when b (codes ")"))

number_agrees : (z : ℤ) → PrintsAs (number_piece z) (number_printed z)
number_agrees (pos n) = record {
  sum = bare (tight (literal_lays n));
  left_sum = bare (tight (literal_lays n));
  product = bare (tight (literal_lays n));
  unary = bare (tight (literal_lays n));
  primary = literal_primary n;
  apart = λ e. absurd (true≢false (sym e));
  sign = literal_sign n;
  left = refl;
  right = same_number 1 n;
}
number_agrees (negsuc n) = go (n == 2 ^ 63 - 1) refl
  where
    go : (c : Bool) → (n == 2 ^ 63 - 1) ≡ c
        → Agrees (cond c (piece 0 least_text None) (piece 1 (λ rest. operator Sub ∷ literal (suc n) rest) (Some (negsuc n)))) (Some (negsuc n))
        (negative_in c false n) (negative_in c false n) (negative_in c false n) (negative_in c (not c) n)
    go true e = record {
      sum = bare (tight least_lays);
      left_sum = bare (tight least_lays);
      product = bare (tight least_lays);
      unary = bare (tight least_lays);
      primary = bare (tight least_lays);
      apart = λ k. absurd (true≢false (sym k));
      sign = λ ts. tt;
      left = sym (ap (λ k. k == 2 ^ 63 - 2) (eqb-true n (2 ^ 63 - 1) e));
      right = refl;
    }
    go false e =
        let text : Lays true (λ ts. operator Sub ∷ literal (suc n) ts) (codes "-" ++ literal_bytes (suc n)) =
        tight (signed (literal_lays (suc n)) (λ ts. tt)) in
        record {
          sum = bare text;
          left_sum = bare text;
          product = bare text;
          unary = bare text;
          primary = in_bracket text;
          apart = λ k. in_bracket text;
          sign = λ ts. tt;
          left = same_number (2 ^ 63 - 2) n;
          right = refl;
        }

-- what stands unchanged in each slot
alone_agrees : (t : Text) (b : Bytes) → Lays true t b → ((ts : List Token) → BehindSign (t ts)) → Agrees (piece 0 t None) None b b b b
alone_agrees t b h k = record {
  sum = h;
  left_sum = h;
  product = h;
  unary = h;
  primary = h;
  apart = λ e. absurd (true≢false (sym e));
  sign = k;
  left = refl;
  right = refl;
}

minus_agrees : (p : Piece) (q : Printed) → PrintsAs p q → PrintsAs (piece 1 (λ rest. operator Sub ∷ behind_sign p rest) None) (minus_printed q)
minus_agrees p q h =
    let text : Lays true (λ ts. operator Sub ∷ behind_sign p ts) ([] ++ (codes "-" ++ (q.at Primary ++ []))) =
    free (blank false [] refl) (signed (ended h.primary (blank true [] refl) (λ bs fits. fits)) h.sign) in
    let inside : Lays true (λ ts. mark open_round ∷ operator Sub ∷ behind_sign p (mark close_round ∷ ts))
    (codes "(" ++ (codes "-" ++ (q.at Primary ++ codes ")"))) =
    tight (free opens (signed (ended h.primary closes (λ bs fits. refl)) (λ ts. h.sign (mark close_round ∷ ts)))) in
    record {
      sum = text;
      left_sum = text;
      product = text;
      unary = text;
      primary = inside;
      apart = λ e. absurd (true≢false (sym e));
      sign = λ ts. tt;
      left = refl;
      right = refl;
    }

product_agrees : (op : COp) (p q : Piece) (b c : Bytes) → Lays true (shown 2 p) b → Lays true (shown 1 q) c
    → Agrees (record { level = 2; bare = operation 2 op p q; inside = operation 2 op p q; value = None }) None
    ([] ++ (b ++ (operator_bytes op ++ (c ++ [])))) ([] ++ (b ++ (operator_bytes op ++ (c ++ []))))
    (codes "(" ++ (b ++ (operator_bytes op ++ (c ++ codes ")")))) (codes "(" ++ (b ++ (operator_bytes op ++ (c ++ codes ")"))))
product_agrees op p q b c h k = record {
  sum = operation_bare op h k;
  left_sum = operation_bare op h k;
  product = operation_bare op h k;
  unary = operation_bracketed op h k;
  primary = operation_bracketed op h k;
  apart = λ e. absurd (true≢false (sym e));
  sign = λ ts. tt;
  left = refl;
  right = refl;
}

sum_agrees : (op : COp) (p q : Piece) (inside : Text) (b c d : Bytes) → Lays true (shown 3 p) b → Lays true (shown 2 q) c
    → Lays true (λ ts. mark open_round ∷ inside (mark close_round ∷ ts)) d
    → Agrees (record { level = 3; bare = operation 3 op p q; inside = inside; value = None }) None
    ([] ++ (b ++ (operator_bytes op ++ (c ++ [])))) d d d
sum_agrees op p q inside b c d h k within = record {
  sum = operation_bare op h k;
  left_sum = operation_bare op h k;
  product = within;
  unary = within;
  primary = within;
  apart = λ e. absurd (true≢false (sym e));
  sign = λ ts. tt;
  left = refl;
  right = refl;
}

-- the difference in a bracket
difference : (p q : Piece) (x y : Printed) → PrintsAs p x → PrintsAs q y
    → Lays true (λ ts. mark open_round ∷ (op_piece Sub p q).inside (mark close_round ∷ ts)) (operation_at Sub x y true)
difference p q x y h k =
    subst (λ (m : Bool). Lays true (λ ts. mark open_round ∷ (op_piece Sub p q).inside (mark close_round ∷ ts))
    (codes "(" ++ (x.at (left_slot Sub m) ++ (codes " - " ++ (y.at Product ++ codes ")")))))
    (ap₂ (λ l r. l && r) h.left k.right) (go (is_least_sum Sub p q) refl)
  where
    go : (m : Bool) → is_least_sum Sub p q ≡ m
        → Lays true
        (λ ts. mark open_round ∷ (cond {A = Text} m (λ us. bracketed p (operator Sub ∷ shown 2 q us)) (operation 3 Sub p q)) (mark close_round ∷ ts))
        (codes "(" ++ (x.at (left_slot Sub m) ++ (codes " - " ++ (y.at Product ++ codes ")"))))
    go true e = operation_bracketed Sub (h.apart (and_parts (is_value above p.value) (is_value (pos 1) q.value) e).0) k.product
    go false e = operation_bracketed Sub h.left_sum k.product

op_agrees : (op : COp) (p q : Piece) (x y : Printed) → PrintsAs p x → PrintsAs q y → PrintsAs (op_piece op p q) (operation_printed op x y)
op_agrees Add p q x y h k =
    sum_agrees Add p q (operation 3 Add p q) (x.at Sum) (y.at Product) (operation_at Add x y true) h.left_sum k.product
    (operation_bracketed Add h.left_sum k.product)
op_agrees Sub p q x y h k =
    sum_agrees Sub p q (op_piece Sub p q).inside (x.at Sum) (y.at Product) (operation_at Sub x y true) h.left_sum k.product (difference p q x y h k)
op_agrees Mul p q x y h k = product_agrees Mul p q (x.at Product) (y.at Unary) h.product k.unary
op_agrees Div p q x y h k = product_agrees Div p q (x.at Product) (y.at Unary) h.product k.unary
op_agrees Rem p q x y h k = product_agrees Rem p q (x.at Product) (y.at Unary) h.product k.unary

pick_lays : {t s r : Text} {a b c : Bytes} → Lays true t a → Lays true s b → Lays true r c
    → Lays true (λ ts. mark open_round ∷ t (mark question ∷ s (mark colon ∷ r (mark close_round ∷ ts))))
    (codes "(" ++ (a ++ (codes " ? " ++ (b ++ (codes " : " ++ (c ++ codes ")"))))))
pick_lays h k l =
    tight (free opens
    (ended h (free (fixed (behind (codes " ") (mark question) ∷ []) (codes " ") refl)
    (ended k (free (fixed (behind (codes " ") (mark colon) ∷ []) (codes " ") refl) (ended l closes (λ bs fits. refl)))
    (λ bs fits. refl))) (λ bs fits. refl)))

-- the forms of an expression
data Form : CExpr → Type 0 where
  of_number : (z : ℤ) → Form (Number z)
  of_read : (p : CPlace) → Form (Read p)
  of_minus : (e : CExpr) → Form (Minus e)
  of_op : (op : COp) (a b : CExpr) → Form (Op op a b)
  of_pick : (t : CTest) (a b : CExpr) → Form (Pick t a b)

form_of : (o : open'.CExpr-F CExpr CStep CPlace CTest) → Form (roll-CExpr o)
form_of (open'.Number z) = subst Form (sym (rolls-Number z)) (of_number z)
form_of (open'.Read p) = subst Form (sym (rolls-Read p)) (of_read p)
form_of (open'.Minus e) = subst Form (sym (rolls-Minus e)) (of_minus e)
form_of (open'.Op op a b) = subst Form (sym (rolls-Op op a b)) (of_op op a b)
form_of (open'.Pick t a b) = subst Form (sym (rolls-Pick t a b)) (of_pick t a b)

form : (e : CExpr) → Form e
form e = subst Form (roll-out-CExpr e) (form_of (out-CExpr e))

-- the expressions up to this size are printed as their texts
PrintsBelow : ℕ → Type 0
PrintsBelow d = (e : CExpr) → size-CExpr e ≤ d → PrintsAs (plain_piece e) (printed e)

-- a selector begins with a mark
steps_end : (steps : List CStep) (bs : Bytes) → EndsWord bs → EndsWord (flat_map step_bytes steps ++ bs)
steps_end [] bs h = h
steps_end (Member w ∷ steps) bs h = subst (λ b. EndsWord ((b ++ flat_map step_bytes steps) ++ bs)) (sym (step-Member w)) refl
steps_end (At e ∷ steps) bs h = subst (λ b. EndsWord ((b ++ flat_map step_bytes steps) ++ bs)) (sym (step-At e)) refl

steps_lay : (d : ℕ) → PrintsBelow d → (steps : List CStep) → Within d steps → Lays true (joined (map plain_step steps)) (flat_map step_bytes steps)
unfolding PrintsBelow
steps_lay d prints [] h = blank true [] refl
steps_lay d prints (Member w ∷ steps) h =
    subst (λ t. Lays true (λ ts. t (joined (map plain_step steps) ts)) (flat_map step_bytes (Member w ∷ steps))) (sym (plain'.step-Member w))
    (subst (λ b. Lays true (λ ts. mark dot ∷ name w.bytes ∷ joined (map plain_step steps) ts) (b ++ flat_map step_bytes steps)) (sym (step-Member w))
    (ended (free (fixed (right_behind (mark dot) ∷ []) [] refl) (word_lays w.bytes)) (steps_lay d prints steps h.1) (steps_end steps)))
steps_lay d prints (At e ∷ steps) h =
    let g = prints e (omega (arith, at_part e, h.0)) in
    subst (λ t. Lays true (λ ts. t (joined (map plain_step steps) ts)) (flat_map step_bytes (At e ∷ steps))) (sym (plain'.step-At e))
    (subst (λ b. Lays true (λ ts. mark open_square ∷ plain_number e (mark close_square ∷ joined (map plain_step steps) ts)) (b ++ flat_map step_bytes steps))
    (sym (step-At e))
    (free (free (fixed (right_behind (mark open_square) ∷ []) [] refl)
    (ended g.sum (fixed (right_behind (mark close_square) ∷ []) [] refl) (λ bs fits. refl)))
    (steps_lay d prints steps h.1)))

place_lays_below : (d : ℕ) → PrintsBelow d → (p : CPlace) → size-CPlace p ≤ suc d → Lays true (plain_place p) (place_bytes p)
place_lays_below d prints p h =
    subst (λ t. Lays true t (place_bytes p)) (sym (place-text p.name p.path))
    (subst (λ b. Lays true (λ ts. name p.name.bytes ∷ joined (map plain_step p.path) ts) b) (sym (place-bytes p))
    (ended (word_lays p.name.bytes) (steps_lay d prints p.path (place_within d p.name p.path h)) (steps_end p.path)))

place_sign : (p : CPlace) (ts : List Token) → BehindSign (plain_place p ts)
place_sign p ts = subst (λ t. BehindSign (t ts)) (sym (place-text p.name p.path)) tt

test_lays_below : (d : ℕ) → PrintsBelow d → (t : CTest) → size-CTest t ≤ suc d → Lays true (plain_test t) (test_bytes t)
unfolding PrintsBelow
test_lays_below d prints t h =
    let g = prints t.left (omega (arith, test_left t.op t.left t.right)) in
    let k = prints t.right (omega (arith, test_right t.op t.left t.right)) in
    subst (λ f. Lays true f (test_bytes t)) (sym (test-text t.op t.left t.right))
    (subst (λ b. Lays true (λ ts. plain_number t.left (relation t.op ∷ plain_number t.right ts)) b) (sym (test-bytes t))
    (ended g.sum (free (relation_lays t.op) k.sum) (λ bs fits. relation_ends t.op _ bs)))

-- the same, where the two texts of the form are known
prints_by : (e : CExpr) (p : Piece) (q : Printed) → plain_piece e ≡ p → printed e ≡ q → PrintsAs p q → PrintsAs (plain_piece e) (printed e)
prints_by e p q h k agrees = subst (λ x. PrintsAs x (printed e)) (sym h) (subst (λ x. PrintsAs p x) (sym k) agrees)

prints : (d : ℕ) (e : CExpr) → size-CExpr e ≤ d → PrintsAs (plain_piece e) (printed e)
unfolding PrintsBelow
prints zero e h = absurd (omega (arith, h, size_is-CExpr e))
prints (suc d) e h = go (prints d) (form e) h
  where
    go : PrintsBelow d → {f : CExpr} → Form f → size-CExpr f ≤ suc d → PrintsAs (plain_piece f) (printed f)
    go below (of_number z) k = prints_by (Number z) (number_piece z) (number_printed z) (piece-Number z) (printed-Number z) (number_agrees z)
    go below (of_read p) k =
        prints_by (Read p) (piece 0 (plain_place p) None) (place_printed (place_bytes p)) (piece-Read p) (printed-Read p)
        (alone_agrees (plain_place p) (place_bytes p) (place_lays_below d below p (omega (arith, k, read_place p))) (place_sign p))
    go below (of_minus a) k =
        prints_by (Minus a) _ (minus_printed (printed a)) (piece-Minus a) (printed-Minus a)
        (minus_agrees (plain_piece a) (printed a) (below a (omega (arith, k, minus_part a))))
    go below (of_op op a b) k =
        prints_by (Op op a b) _ (operation_printed op (printed a) (printed b)) (piece-Op op a b) (printed-Op op a b)
        (op_agrees op (plain_piece a) (plain_piece b) (printed a) (printed b)
        (below a (omega (arith, k, op_left op a b))) (below b (omega (arith, k, op_right op a b))))
    go below (of_pick t a b) k =
        let g = below a (omega (arith, k, pick_first t a b)) in
        let h = below b (omega (arith, k, pick_second t a b)) in
        prints_by (Pick t a b) _ (pick_printed (test_bytes t) (printed a) (printed b)) (piece-Pick t a b) (printed-Pick t a b)
        (alone_agrees _ _ (pick_lays (test_lays_below d below t (omega (arith, k, pick_test t a b))) g.sum h.sum) (λ ts. tt))

all_print : (d : ℕ) → PrintsBelow d
unfolding PrintsBelow
all_print d e h = prints d e h

pub expression_lays : (e : CExpr) → Lays true (plain_number e) ((printed e).at Sum)
expression_lays e = (prints (size-CExpr e) e (omega arith)).sum

pub place_lays : (p : CPlace) → Lays true (plain_place p) (place_bytes p)
place_lays p = place_lays_below (size-CPlace p) (all_print (size-CPlace p)) p (omega arith)

pub test_lays : (t : CTest) → Lays true (plain_test t) (test_bytes t)
test_lays t = test_lays_below (size-CTest t) (all_print (size-CTest t)) t (omega arith)

-- a number of a case
pub constant_lays : (z : ℤ) → Lays false (number_piece z).bare (number_bytes z)
constant_lays (pos n) = literal_lays n
constant_lays (negsuc n) = go (n == 2 ^ 63 - 1)
  where
    go : (c : Bool) → Lays false (cond c (piece 0 least_text None) (piece 1 (λ rest. operator Sub ∷ literal (suc n) rest) (Some (negsuc n)))).bare
        (cond c least_bytes (codes "-" ++ literal_bytes (suc n)))
    go true = least_lays
    go false = signed (literal_lays (suc n)) (λ ts. tt)
