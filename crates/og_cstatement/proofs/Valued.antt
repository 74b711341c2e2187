-- Values by their parts.
use Rattle.std.proofs.Common.{◌≡◌, ℕ, ◌+◌, ◌-◌, ◌^◌, min, ℤ, List, ◌∷◌, map, true, false, Result, Ok, Err, sym, ap, ◌∙◌}
use Rattle.og_ir.specs.Arithmetic.{Trouble, ◌>>=◌, in_64_bits, negative_of}
use Rattle.og_csubset.specs.declared.COp.{COp}
use Rattle.og_csubset.specs.Step.{operation, relation}
use Rattle.og_cstatement.specs.declared.code.Expression.{Expression, Literal, Read, Minus, Op, Choice, fold-roll-Expression}
use Rattle.og_cstatement.specs.declared.code.Expression.TheVariants.{rolls-Literal, rolls-Read, rolls-Minus, rolls-Op, rolls-Choice}
use Rattle.og_cstatement.specs.declared.code.Expression.TheOpen as open'
use Rattle.og_cstatement.specs.declared.code.Term.{Term, fold-roll-Term}
use Rattle.og_cstatement.specs.declared.code.Place.{Place, out-Place, roll-Place, roll-out-Place, out-roll-Place, fold-roll-Place}
use Rattle.og_cstatement.specs.declared.code.Test.{Test, fold-roll-Test}
use Rattle.og_cstatement.specs.Meaning.{Number, number_at, reached, chosen, number_layer, index_in, term_layer, place_layer, test_layer, value_of, distance_of, place_of, holds}

-- ---- going on with a value

pub bound : {A B : Type 0} (r : Result A Trouble) (f : A → Result B Trouble) (x : A) → r ≡ Ok x → (r >>= f) ≡ f x
bound r f x e = ap (λ s. s >>= f) e

pub stopped : {A B : Type 0} (t : Trouble) (r : Result A Trouble) (f : A → Result B Trouble) → r ≡ Err t → (r >>= f) ≡ Err t
stopped t r f e = ap (λ s. s >>= f) e

-- ---- one layer of each tree

pub value_Literal : (G : List ℤ) (z : ℤ) → value_of G (Literal z) ≡ Ok z
unfolding value_of
value_Literal G z = ap (value_of G) (sym (rolls-Literal z)) ∙ fold-roll-Expression Number _ _ _ (number_layer G) place_layer term_layer test_layer (open'.Literal z)

pub value-Read : (G : List ℤ) (p : Place) → value_of G (Read p) ≡ (place_of G p >>= λ at. Ok (number_at G at))
unfolding value_of place_of
value-Read G p = ap (value_of G) (sym (rolls-Read p)) ∙ fold-roll-Expression Number _ _ _ (number_layer G) place_layer term_layer test_layer (open'.Read p)

pub value-Minus : (G : List ℤ) (a : Expression) → value_of G (Minus a) ≡ (value_of G a >>= negative_of in_64_bits)
unfolding value_of
value-Minus G a = ap (value_of G) (sym (rolls-Minus a)) ∙ fold-roll-Expression Number _ _ _ (number_layer G) place_layer term_layer test_layer (open'.Minus a)

pub value-Op : (G : List ℤ) (o : COp) (a b : Expression) → value_of G (Op o a b) ≡ (value_of G a >>= λ x. value_of G b >>= λ y. operation o x y)
unfolding value_of
value-Op G o a b = ap (value_of G) (sym (rolls-Op o a b)) ∙ fold-roll-Expression Number _ _ _ (number_layer G) place_layer term_layer test_layer (open'.Op o a b)

pub value-Choice : (G : List ℤ) (t : Test) (a b : Expression) → value_of G (Choice t a b) ≡ (holds G t >>= chosen (value_of G a) (value_of G b))
unfolding value_of holds
value-Choice G t a b = ap (value_of G) (sym (rolls-Choice t a b)) ∙ fold-roll-Expression Number _ _ _ (number_layer G) place_layer term_layer test_layer (open'.Choice t a b)

pub distance-is : (G : List ℤ) (t : Term) → distance_of G t ≡ (value_of G t.index >>= index_in t.bound t.stride)
unfolding distance_of value_of
distance-is G t = fold-roll-Term Number _ _ _ (number_layer G) place_layer term_layer test_layer (record { bound = t.bound; stride = t.stride; index = t.index })

pub place-is : (G : List ℤ) (p : Place) → place_of G p ≡ reached (out-Place p).offset (map (distance_of G) (out-Place p).terms)
unfolding place_of distance_of
place-is G p = ap (place_of G) (sym (roll-out-Place p)) ∙ fold-roll-Place Number _ _ _ (number_layer G) place_layer term_layer test_layer (out-Place p)

pub place_rolled : (G : List ℤ) (offset : ℕ) (terms : List Term) → place_of G (roll-Place (record { offset = offset; terms = terms })) ≡ reached offset (map (distance_of G) terms)
place_rolled G offset terms =
    place-is G (roll-Place (record { offset = offset; terms = terms })) ∙ ap (λ s. reached s.offset (map (distance_of G) s.terms)) (out-roll-Place (record { offset = offset; terms = terms }))

pub holds-is : (G : List ℤ) (t : Test) → holds G t ≡ (value_of G t.left >>= λ x. value_of G t.right >>= λ y. Ok (relation t.op x y))
unfolding holds value_of
holds-is G t = fold-roll-Test Number _ _ _ (number_layer G) place_layer term_layer test_layer (record { op = t.op; left = t.left; right = t.right })

-- ---- values by their parts

pub value_Read : (G : List ℤ) (p : Place) (at : ℕ) → place_of G p ≡ Ok at → value_of G (Read p) ≡ Ok (number_at G at)
value_Read G p at e = value-Read G p ∙ bound (place_of G p) (λ k. Ok (number_at G k)) at e

pub read_halts : (x : Trouble) (G : List ℤ) (p : Place) → place_of G p ≡ Err x → value_of G (Read p) ≡ Err x
read_halts x G p e = value-Read G p ∙ stopped x (place_of G p) (λ k. Ok (number_at G k)) e

pub value_Minus : (G : List ℤ) (a : Expression) (x : ℤ) → value_of G a ≡ Ok x → value_of G (Minus a) ≡ negative_of in_64_bits x
value_Minus G a x e = value-Minus G a ∙ bound (value_of G a) (negative_of in_64_bits) x e

pub minus_halts : (x : Trouble) (G : List ℤ) (a : Expression) → value_of G a ≡ Err x → value_of G (Minus a) ≡ Err x
minus_halts x G a e = value-Minus G a ∙ stopped x (value_of G a) (negative_of in_64_bits) e

pub value_Op : (G : List ℤ) (o : COp) (a b : Expression) (x y : ℤ) → value_of G a ≡ Ok x → value_of G b ≡ Ok y → value_of G (Op o a b) ≡ operation o x y
value_Op G o a b x y p q =
    value-Op G o a b ∙ bound (value_of G a) (λ u. value_of G b >>= λ v. operation o u v) x p ∙ bound (value_of G b) (λ v. operation o x v) y q

pub same_operands : (o : COp) (x y x' y' : ℤ) → x' ≡ x → y' ≡ y → operation o x y ≡ operation o x' y'
same_operands o x y x' y' p q = ap (λ u. operation o u y) (sym p) ∙ ap (λ v. operation o x' v) (sym q)

pub left_halts : (x : Trouble) (G : List ℤ) (o : COp) (a b : Expression) → value_of G a ≡ Err x → value_of G (Op o a b) ≡ Err x
left_halts x G o a b e = value-Op G o a b ∙ stopped x (value_of G a) (λ u. value_of G b >>= λ v. operation o u v) e

pub right_halts : (x : Trouble) (G : List ℤ) (o : COp) (a b : Expression) (z : ℤ) → value_of G a ≡ Ok z → value_of G b ≡ Err x → value_of G (Op o a b) ≡ Err x
right_halts x G o a b z p e =
    value-Op G o a b ∙ bound (value_of G a) (λ u. value_of G b >>= λ v. operation o u v) z p ∙ stopped x (value_of G b) (λ v. operation o z v) e

pub value_yes : (G : List ℤ) (t : Test) (a b : Expression) → holds G t ≡ Ok true → value_of G (Choice t a b) ≡ value_of G a
value_yes G t a b e = value-Choice G t a b ∙ bound (holds G t) (chosen (value_of G a) (value_of G b)) true e

pub value_no : (G : List ℤ) (t : Test) (a b : Expression) → holds G t ≡ Ok false → value_of G (Choice t a b) ≡ value_of G b
value_no G t a b e = value-Choice G t a b ∙ bound (holds G t) (chosen (value_of G a) (value_of G b)) false e

pub test_halts : (x : Trouble) (G : List ℤ) (t : Test) (a b : Expression) → holds G t ≡ Err x → value_of G (Choice t a b) ≡ Err x
test_halts x G t a b e = value-Choice G t a b ∙ stopped x (holds G t) (chosen (value_of G a) (value_of G b)) e

-- ---- tests

pub holds_left : (x : Trouble) (G : List ℤ) (t : Test) → value_of G t.left ≡ Err x → holds G t ≡ Err x
holds_left x G t e = holds-is G t ∙ stopped x (value_of G t.left) (λ y. value_of G t.right >>= λ z. Ok (relation t.op y z)) e

pub holds_right : (x : Trouble) (G : List ℤ) (t : Test) (y : ℤ) → value_of G t.left ≡ Ok y → value_of G t.right ≡ Err x → holds G t ≡ Err x
holds_right x G t y p e =
    holds-is G t ∙ bound (value_of G t.left) (λ y. value_of G t.right >>= λ z. Ok (relation t.op y z)) y p ∙ stopped x (value_of G t.right) (λ z. Ok (relation t.op y z)) e

pub holds_both : (G : List ℤ) (t : Test) (x y : ℤ) → value_of G t.left ≡ Ok x → value_of G t.right ≡ Ok y → holds G t ≡ Ok (relation t.op x y)
holds_both G t x y p q =
    holds-is G t ∙ bound (value_of G t.left) (λ x. value_of G t.right >>= λ y. Ok (relation t.op x y)) x p ∙ bound (value_of G t.right) (λ y. Ok (relation t.op x y)) y q

-- ---- places

pub distance_led : (G : List ℤ) (t : Term) (z : ℤ) → value_of G t.index ≡ Ok z → distance_of G t ≡ index_in t.bound t.stride z
distance_led G t z e = distance-is G t ∙ bound (value_of G t.index) (index_in t.bound t.stride) z e

pub distance_halts : (x : Trouble) (G : List ℤ) (t : Term) → value_of G t.index ≡ Err x → distance_of G t ≡ Err x
distance_halts x G t e = distance-is G t ∙ stopped x (value_of G t.index) (index_in t.bound t.stride) e

-- one index more
pub reached_more : (G : List ℤ) (at n next : ℕ) (t : Term) (ts : List Term) → distance_of G t ≡ Ok n → next ≡ min (at + n) (2 ^ 64 - 1)
    → reached at (map (distance_of G) (t ∷ ts)) ≡ reached next (map (distance_of G) ts)
reached_more G at n next t ts e grows =
    bound (distance_of G t) (λ k. reached (min (at + k) (2 ^ 64 - 1)) (map (distance_of G) ts)) n e ∙ ap (λ k. reached k (map (distance_of G) ts)) (sym grows)

pub reached_halts : (x : Trouble) (G : List ℤ) (at : ℕ) (t : Term) (ts : List Term) → distance_of G t ≡ Err x → reached at (map (distance_of G) (t ∷ ts)) ≡ Err x
reached_halts x G at t ts e = stopped x (distance_of G t) (λ k. reached (min (at + k) (2 ^ 64 - 1)) (map (distance_of G) ts)) e

pub ruleset valued = (value_Literal, value_Read, read_halts, value_Minus, minus_halts, value_Op, left_halts, right_halts, value_yes, value_no, test_halts, holds_left, holds_right, holds_both, place-is, distance_led, distance_halts, reached_more, reached_halts)
