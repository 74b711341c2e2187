-- How deep an expression goes does not matter: its value is made of the values of its parts.
use Rattle.std.proofs.Common.{◌≡◌, ℕ, zero, suc, ◌+◌, ◌≤◌, max, ℤ, List, [], ◌∷◌, Bool, true, false, cond, ◌&&◌, Option, Some, None, Result, Ok, Err, refl, ap, ◌∙◌, arith}
use Rattle.og_csubset.specs.declared.CProgram.{CProgram}
use Rattle.og_csubset.specs.declared.CStruct.{CStruct}
use Rattle.og_csubset.specs.declared.CPlace.{CPlace, size-CPlace, size_is-CPlace}
use Rattle.og_csubset.specs.declared.CStep.{CStep, size-CStep}
use Rattle.og_csubset.specs.declared.CStep.TheVariants.{Member, At}
use Rattle.og_csubset.specs.declared.CExpr.{CExpr, out-CExpr, size-CExpr, size_is-CExpr}
use Rattle.og_csubset.specs.declared.CExpr.TheOpen.{CExpr-F, Number, Read, Minus, Op, Pick}
use Rattle.og_csubset.specs.declared.CExpr.TheBlock.{weighs-CExpr, the_members, the_sigs, the_carrier, the_depth}
use Rattle.og_csubset.specs.declared.CTest.{CTest, size-CTest, size_is-CTest}
use Rattle.og_csubset.specs.declared.CExpr.TheViews.{deep-At}
use Rattle.og_ir.specs.Cells.{Cells}
use Rattle.og_ir.specs.Cells as cells
use Rattle.og_ir.specs.Arithmetic.{Trouble, Value, Index, ◌>>=◌, or_else}
use Rattle.og_ir.specs.Reading.{below as below'}
use Rattle.og_csubset.specs.Kinds.{Kind, place_in, global_names, global_kind, member_of, element_of, type_of_one}
use Rattle.og_csubset.specs.Step.{walk, spot_by, holds_by, side, value_by, value_within, value_of}
use Rattle.og_csubset.specs.Loading.{is_number_type, kind_after, type_by, number_by, number_within, is_number}
use denote.Hole.Carrier.{Values}
use denote.Param.Weighed.{most}

-- ---- depths

-- the depth of the deepest part
abbrev pub depth_of_parts : CExpr-F CExpr CStep CPlace CTest → ℕ
depth_of_parts (Number n) = 0
depth_of_parts (Read place) = size-CPlace place
depth_of_parts (Minus e) = size-CExpr e
depth_of_parts (Op o a b) = max (size-CExpr a) (size-CExpr b)
depth_of_parts (Pick test a b) = max (size-CTest test) (max (size-CExpr a) (size-CExpr b))

weight_is : (shape : CExpr-F CExpr CStep CPlace CTest) → (weighs-CExpr).weight (Values the_members the_sigs the_carrier) the_depth shape + 1 ≡ suc (depth_of_parts shape)
weight_is (Number n) = omega arith
weight_is (Read place) = omega arith
weight_is (Minus e) = omega arith
weight_is (Op o a b) = omega arith
weight_is (Pick test a b) = omega arith

-- an expression is one deeper than its deepest part
pub depth_is : (e : CExpr) → size-CExpr e ≡ suc (depth_of_parts (out-CExpr e))
depth_is e = size_is-CExpr e ∙ weight_is (out-CExpr e)

-- the sides of a test are less deep than it
pub left_below : (test : CTest) (d : ℕ) → size-CTest test ≤ d → size-CExpr test.left ≤ d
left_below test d h = let e = size_is-CTest test in omega (arith, e, h)

pub right_below : (test : CTest) (d : ℕ) → size-CTest test ≤ d → size-CExpr test.right ≤ d
right_below test d h = let e = size_is-CTest test in omega (arith, e, h)

-- the selectors of a place are less deep than it
pub path_below : (place : CPlace) (d : ℕ) → size-CPlace place ≤ d → most size-CStep place.path ≤ d
path_below place d h = let e = size_is-CPlace place in omega (arith, e, h)

-- an index is less deep than its selector
pub index_below : (e : CExpr) (steps : List CStep) (d : ℕ) → most size-CStep (At e ∷ steps) ≤ d → size-CExpr e ≤ d
index_below e steps d h = let deep = deep-At e in omega (arith, deep, h)

-- ---- two ways of giving values to the parts, which agree up to a depth

bind_on : {A B : Type 0} (r : Result A Trouble) (f g : A → Result B Trouble) → ((x : A) → f x ≡ g x) → (r >>= f) ≡ (r >>= g)
bind_on (Ok x) f g h = h x
bind_on (Err t) f g h = refl

pub bind_same : {A B : Type 0} (r s : Result A Trouble) (f g : A → Result B Trouble) → r ≡ s → ((x : A) → f x ≡ g x) → (r >>= f) ≡ (s >>= g)
bind_same r s f g e h = ap (λ x. x >>= f) e ∙ bind_on s f g h

walk_same : (f g : CExpr → Result ℤ Trouble) (d : ℕ) → ((e : CExpr) → size-CExpr e ≤ d → f e ≡ g e) → (structs : List CStruct) (kind : Kind) (steps : List CStep) → most size-CStep steps ≤ d → walk f structs kind steps ≡ walk g structs kind steps
walk_same f g d h structs kind [] below = refl
walk_same f g d h structs kind (Member name ∷ steps) below =
    bind_on (or_else (member_of structs kind name.bytes) Value) _ _ (λ found. bind_same _ _ _ _ (walk_same f g d h structs found.1 steps (omega (arith, below))) (λ path. refl))
walk_same f g d h structs kind (At e ∷ steps) below =
    bind_same _ _ _ _ (h e (index_below e steps d below)) (λ z.
    bind_on (or_else (element_of kind) Value) _ _ (λ element. bind_on (or_else kind.size Value) _ _ (λ size. bind_on (or_else (below' size z) Index) _ _ (λ k.
    bind_same _ _ _ _ (walk_same f g d h structs element steps (omega (arith, below))) (λ path. refl)))))

spot_same : (f g : CExpr → Result ℤ Trouble) (d : ℕ) → ((e : CExpr) → size-CExpr e ≤ d → f e ≡ g e) → (program : CProgram) (place : CPlace) → size-CPlace place ≤ d → spot_by f program place ≡ spot_by g program place
spot_same f g d h program place below =
    bind_on (or_else (place_in place.name.bytes (global_names program)) Value) _ _ (λ base. bind_on (or_else (global_kind program place.name.bytes) Value) _ _ (λ kind.
    bind_same _ _ _ _ (walk_same f g d h program.structs kind place.path (path_below place d below)) (λ path. refl)))

holds_same : (f g : CExpr → Result ℤ Trouble) (d : ℕ) → ((e : CExpr) → size-CExpr e ≤ d → f e ≡ g e) → (test : CTest) → size-CTest test ≤ d → holds_by f test ≡ holds_by g test
holds_same f g d h test below =
    bind_same _ _ _ _ (h test.left (left_below test d below)) (λ x.
    bind_same _ _ _ _ (h test.right (right_below test d below)) (λ y. refl))

side_same : (f g : CExpr → Result ℤ Trouble) (a b : CExpr) → f a ≡ g a → f b ≡ g b → (taken : Bool) → side f a b taken ≡ side g a b taken
side_same f g a b p q true = p
side_same f g a b p q false = q

value_by_same : (f g : CExpr → Result ℤ Trouble) (d : ℕ) → ((e : CExpr) → size-CExpr e ≤ d → f e ≡ g e) → (program : CProgram) (globals : List Cells) (shape : CExpr-F CExpr CStep CPlace CTest) → depth_of_parts shape ≤ d → value_by f program globals shape ≡ value_by g program globals shape
value_by_same f g d h program globals (Number n) below = refl
value_by_same f g d h program globals (Read place) below =
    bind_same _ _ _ _ (spot_same f g d h program place below) (λ spot. refl)
value_by_same f g d h program globals (Minus e) below = bind_same _ _ _ _ (h e below) (λ x. refl)
value_by_same f g d h program globals (Op o a b) below =
    bind_same _ _ _ _ (h a (omega (arith, below))) (λ x. bind_same _ _ _ _ (h b (omega (arith, below))) (λ y. refl))
value_by_same f g d h program globals (Pick test a b) below =
    bind_same _ _ _ _ (holds_same f g d h test (omega (arith, below))) (side_same f g a b (h a (omega (arith, below))) (h b (omega (arith, below))))

-- going down further changes nothing
value_within_same : (d d' : ℕ) (program : CProgram) (globals : List Cells) (e : CExpr) → size-CExpr e ≤ d → size-CExpr e ≤ d' → value_within d program globals e ≡ value_within d' program globals e
value_within_same zero d' program globals e p q = absurd (let deep = depth_is e in omega (arith, deep, p))
value_within_same (suc d) zero program globals e p q = absurd (let deep = depth_is e in omega (arith, deep, q))
value_within_same (suc d) (suc d') program globals e p q =
    let deep = depth_is e in
    value_by_same (value_within d program globals) (value_within d' program globals) (depth_of_parts (out-CExpr e))
    (λ part below. value_within_same d d' program globals part (omega (arith, deep, p, below)) (omega (arith, deep, q, below)))
    program globals (out-CExpr e) (omega arith)

-- a value is made of the values of the parts
pub value_is : (program : CProgram) (globals : List Cells) (e : CExpr) → value_of program globals e ≡ value_by (value_of program globals) program globals (out-CExpr e)
unfolding value_of
value_is program globals e =
    let deep = depth_is e in
    let parts = depth_of_parts (out-CExpr e) in
    ap (λ d. value_within d program globals e) deep
    ∙ value_by_same (value_within parts program globals) (λ part. value_within (size-CExpr part) program globals part) parts
    (λ part below. value_within_same parts (size-CExpr part) program globals part below (omega arith))
    program globals (out-CExpr e) (omega arith)

-- ---- the same of being a number

both_same : {a b x y : Bool} → a ≡ b → x ≡ y → (a && x) ≡ (b && y)
both_same {a} {b} {x} {y} p q = ap (λ t. t && x) p ∙ ap (λ t. b && t) q

option_bind_on : {A B : Type 0} (o : Option A) (f g : A → Option B) → ((x : A) → f x ≡ g x) → (cells.◌>>=◌ o f) ≡ (cells.◌>>=◌ o g)
option_bind_on None f g h = refl
option_bind_on (Some x) f g h = h x

kind_after_same : (f g : CExpr → Bool) (d : ℕ) → ((e : CExpr) → size-CExpr e ≤ d → f e ≡ g e) → (structs : List CStruct) (kind : Kind) (steps : List CStep) → most size-CStep steps ≤ d → kind_after f structs kind steps ≡ kind_after g structs kind steps
kind_after_same f g d h structs kind [] below = refl
kind_after_same f g d h structs kind (Member name ∷ steps) below =
    option_bind_on (member_of structs kind name.bytes) _ _ (λ found. kind_after_same f g d h structs found.1 steps (omega (arith, below)))
kind_after_same f g d h structs kind (At e ∷ steps) below =
    ap (λ b. cond b (cells.◌>>=◌ (element_of kind) (λ element. kind_after f structs element steps)) None) (h e (index_below e steps d below))
    ∙ ap (λ o. cond (g e) o None) (option_bind_on (element_of kind) _ _ (λ element. kind_after_same f g d h structs element steps (omega (arith, below))))

type_by_same : (f g : CExpr → Bool) (d : ℕ) → ((e : CExpr) → size-CExpr e ≤ d → f e ≡ g e) → (program : CProgram) (place : CPlace) → size-CPlace place ≤ d → type_by f program place ≡ type_by g program place
type_by_same f g d h program place below =
    option_bind_on (global_kind program place.name.bytes) _ _ (λ kind.
    ap (λ o. cells.◌>>=◌ o type_of_one) (kind_after_same f g d h program.structs kind place.path (path_below place d below)))

number_by_same : (f g : CExpr → Bool) (d : ℕ) → ((e : CExpr) → size-CExpr e ≤ d → f e ≡ g e) → (program : CProgram) (shape : CExpr-F CExpr CStep CPlace CTest) → depth_of_parts shape ≤ d → number_by f program shape ≡ number_by g program shape
number_by_same f g d h program (Number n) below = refl
number_by_same f g d h program (Read place) below = ap is_number_type (type_by_same f g d h program place below)
number_by_same f g d h program (Minus e) below = h e below
number_by_same f g d h program (Op o a b) below = both_same (h a (omega (arith, below))) (h b (omega (arith, below)))
number_by_same f g d h program (Pick test a b) below =
    let sides : size-CTest test ≤ d = omega (arith, below) in
    both_same
    (both_same
    (both_same (h test.left (left_below test d sides)) (h test.right (right_below test d sides)))
    (h a (omega (arith, below))))
    (h b (omega (arith, below)))

number_within_same : (d d' : ℕ) (program : CProgram) (e : CExpr) → size-CExpr e ≤ d → size-CExpr e ≤ d' → number_within d program e ≡ number_within d' program e
number_within_same zero d' program e p q = absurd (let deep = depth_is e in omega (arith, deep, p))
number_within_same (suc d) zero program e p q = absurd (let deep = depth_is e in omega (arith, deep, q))
number_within_same (suc d) (suc d') program e p q =
    let deep = depth_is e in
    number_by_same (number_within d program) (number_within d' program) (depth_of_parts (out-CExpr e))
    (λ part below. number_within_same d d' program part (omega (arith, deep, p, below)) (omega (arith, deep, q, below)))
    program (out-CExpr e) (omega arith)

-- an expression is a number where its parts are
pub is_number_is : (program : CProgram) (e : CExpr) → is_number program e ≡ number_by (is_number program) program (out-CExpr e)
unfolding is_number
is_number_is program e =
    let deep = depth_is e in
    let parts = depth_of_parts (out-CExpr e) in
    ap (λ d. number_within d program e) deep
    ∙ number_by_same (number_within parts program) (λ part. number_within (size-CExpr part) program part) parts
    (λ part below. number_within_same parts (size-CExpr part) program part below (omega arith))
    program (out-CExpr e) (omega arith)
