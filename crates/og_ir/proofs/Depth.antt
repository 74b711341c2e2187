-- How deep an expression of flat code goes does not matter: its value is made of the values of its parts.
use Rattle.std.proofs.Common.{◌≡◌, ℕ, zero, suc, ◌+◌, ◌≤◌, max, ℤ, List, [], ◌∷◌, Bool, Result, Ok, Err, refl, ap, ◌∙◌, arith}
use Rattle.og_ir.specs.declared.Slot.{Slot, size-Slot, size_is-Slot}
use Rattle.og_ir.specs.declared.Step2.{Step2, size-Step2}
use Rattle.og_ir.specs.declared.Step2.TheVariants as step
use Rattle.og_ir.specs.declared.Flat.{Flat, out-Flat, size-Flat, size_is-Flat}
use Rattle.og_ir.specs.declared.Flat.TheOpen.{Flat-F, Number, Read, Op}
use Rattle.og_ir.specs.declared.Flat.TheBlock.{weighs-Flat, the_members, the_sigs, the_carrier, the_depth}
use Rattle.og_ir.specs.declared.Flat.TheViews.{deep-Index}
use Rattle.og_ir.specs.Cells.{Cells, part, global}
use Rattle.og_ir.specs.Reading.{natural}
use Rattle.og_ir.specs.Arithmetic.{Trouble, Index, ◌>>=◌, or_else}
use Rattle.og_ir.specs.FlatSteps.{walk, spot_of, value_by, value_within, value_of}
use denote.Hole.Carrier.{Values}
use denote.Param.Weighed.{most}

-- the depth of the deepest part
abbrev pub depth_of_parts : Flat-F Flat Step2 Slot → ℕ
depth_of_parts (Number n) = 0
depth_of_parts (Read slot) = size-Slot slot
depth_of_parts (Op o a b) = max (size-Flat a) (size-Flat b)

weight_is : (shape : Flat-F Flat Step2 Slot) → (weighs-Flat).weight (Values the_members the_sigs the_carrier) the_depth shape + 1 ≡ suc (depth_of_parts shape)
weight_is (Number n) = omega arith
weight_is (Read slot) = omega arith
weight_is (Op o a b) = omega arith

-- an expression is one deeper than its deepest part
pub depth_is : (e : Flat) → size-Flat e ≡ suc (depth_of_parts (out-Flat e))
depth_is e = size_is-Flat e ∙ weight_is (out-Flat e)

-- the selectors of a slot are less deep than it
pub path_below : (slot : Slot) (d : ℕ) → size-Slot slot ≤ d → most size-Step2 slot.path ≤ d
path_below slot d h = let e = size_is-Slot slot in omega (arith, e, h)

-- an index is less deep than its selector
pub index_below : (e : Flat) (steps : List Step2) (d : ℕ) → most size-Step2 (step.Index e ∷ steps) ≤ d → size-Flat e ≤ d
index_below e steps d h = let deep = deep-Index e in omega (arith, deep, h)

pub bind_on : {A B : Type 0} (r : Result A Trouble) (f g : A → Result B Trouble) → ((x : A) → f x ≡ g x) → (r >>= f) ≡ (r >>= g)
bind_on (Ok x) f g h = h x
bind_on (Err t) f g h = refl

pub bind_same : {A B : Type 0} (r s : Result A Trouble) (f g : A → Result B Trouble) → r ≡ s → ((x : A) → f x ≡ g x) → (r >>= f) ≡ (s >>= g)
bind_same r s f g e h = ap (λ x. x >>= f) e ∙ bind_on s f g h

walk_same : (f g : Flat → Result ℤ Trouble) (d : ℕ) → ((e : Flat) → size-Flat e ≤ d → f e ≡ g e) → (steps : List Step2) (cells : Cells) → most size-Step2 steps ≤ d → walk f steps cells ≡ walk g steps cells
walk_same f g d h [] cells below = refl
walk_same f g d h (step.Field k ∷ steps) cells below =
    bind_on (or_else (part k cells) Index) _ _ (λ inner.
    bind_same _ _ _ _ (walk_same f g d h steps inner (omega (arith, below))) (λ path. refl))
walk_same f g d h (step.Index e ∷ steps) cells below =
    bind_same _ _ _ _ (h e (index_below e steps d below)) (λ z.
    bind_on (or_else (natural z) Index) _ _ (λ k. bind_on (or_else (part k cells) Index) _ _ (λ inner.
    bind_same _ _ _ _ (walk_same f g d h steps inner (omega (arith, below))) (λ path. refl))))

spot_same : (f g : Flat → Result ℤ Trouble) (d : ℕ) → ((e : Flat) → size-Flat e ≤ d → f e ≡ g e) → (slots : List Cells) (slot : Slot) → size-Slot slot ≤ d → spot_of f slots slot ≡ spot_of g slots slot
spot_same f g d h slots slot below =
    bind_on (or_else (global slot.base slots) Index) _ _ (λ cells.
    bind_same _ _ _ _ (walk_same f g d h slot.path cells (path_below slot d below)) (λ path. refl))

value_by_same : (f g : Flat → Result ℤ Trouble) (d : ℕ) → ((e : Flat) → size-Flat e ≤ d → f e ≡ g e) → (is_there : ℤ → Bool) (slots : List Cells) (shape : Flat-F Flat Step2 Slot) → depth_of_parts shape ≤ d → value_by f is_there slots shape ≡ value_by g is_there slots shape
value_by_same f g d h is_there slots (Number n) below = refl
value_by_same f g d h is_there slots (Read slot) below =
    bind_same _ _ _ _ (spot_same f g d h slots slot below) (λ spot. refl)
value_by_same f g d h is_there slots (Op o a b) below =
    bind_same _ _ _ _ (h a (omega (arith, below))) (λ x. bind_same _ _ _ _ (h b (omega (arith, below))) (λ y. refl))

-- going down further changes nothing
value_within_same : (d d' : ℕ) (is_there : ℤ → Bool) (slots : List Cells) (e : Flat) → size-Flat e ≤ d → size-Flat e ≤ d' → value_within d is_there slots e ≡ value_within d' is_there slots e
value_within_same zero d' is_there slots e p q = absurd (let deep = depth_is e in omega (arith, deep, p))
value_within_same (suc d) zero is_there slots e p q = absurd (let deep = depth_is e in omega (arith, deep, q))
value_within_same (suc d) (suc d') is_there slots e p q =
    let deep = depth_is e in
    value_by_same (value_within d is_there slots) (value_within d' is_there slots) (depth_of_parts (out-Flat e))
    (λ part below. value_within_same d d' is_there slots part (omega (arith, deep, p, below)) (omega (arith, deep, q, below)))
    is_there slots (out-Flat e) (omega arith)

-- a value is made of the values of the parts
pub value_is : (is_there : ℤ → Bool) (slots : List Cells) (e : Flat) → value_of is_there slots e ≡ value_by (value_of is_there slots) is_there slots (out-Flat e)
unfolding value_of
value_is is_there slots e =
    let deep = depth_is e in
    let parts = depth_of_parts (out-Flat e) in
    ap (λ d. value_within d is_there slots e) deep
    ∙ value_by_same (value_within parts is_there slots) (λ part. value_within (size-Flat part) is_there slots part) parts
    (λ part below. value_within_same parts (size-Flat part) is_there slots part below (omega arith))
    is_there slots (out-Flat e) (omega arith)
