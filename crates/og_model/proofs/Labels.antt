-- What stands behind a label in a block, by its parts: the depth by which the search recurses changes nothing once it
-- covers the block.
use Rattle.std.proofs.Common.{◌≡◌, ℕ, zero, suc, ◌+◌, ◌≤◌, max, cond, List, [], ◌∷◌, Option, Some, None, refl, ap, ap₂, ◌∙◌, le_refl, le_trans, arith}
use Rattle.std.specs.Option.{option_or}
use denote.Param.Weighed.{most}
use denote.Hole.Carrier
use Rattle.og_names.specs.declared.NameId.{NameId}
use Rattle.og_model.specs.declared.Ending.{Ending}
use Rattle.og_model.specs.declared.Action.{Action, Action-F, out-Action, size-Action, size_is-Action}
use Rattle.og_model.specs.declared.Action.TheOpen.{Nothing, Assign, Output, SetTimer, ResetTimer, Append, Call, Decide}
use Rattle.og_model.specs.declared.Action.TheBlock as Blocks
use Rattle.og_model.specs.declared.Block.{Block, out-Block, size-Block, size_is-Block}
use Rattle.og_model.specs.declared.Branch.{Branch, out-Branch, size-Branch, size_is-Branch}
use Rattle.og_model.specs.declared.Step.{Step, size-Step, size_is-Step}
use Rattle.og_model.specs.Actions.{Piece, Remainder, Tails, is_name, followed_by, tail_of_branches, tail_of_action, tail_of_steps, tail_within, tail_in}

-- ---- depths of parts

abbrev size_if : Option Block → ℕ
size_if None = 0
size_if (Some block) = size-Block block

abbrev inside_action : Action-F Action Block Branch Step → ℕ
inside_action (Decide question branches other) = max (most size-Branch branches) (size_if other)
inside_action _ = 0

weight_action : (x : Action-F Action Block Branch Step)
    → inside_action x ≤ (Blocks.weighs-Action).weight (Carrier.Values Blocks.the_members Blocks.the_sigs Blocks.the_carrier) Blocks.the_depth x
weight_action Nothing = omega arith
weight_action (Assign target e) = omega arith
weight_action (Output k es) = omega arith
weight_action (SetTimer t e) = omega arith
weight_action (ResetTimer t) = omega arith
weight_action (Append target e) = omega arith
weight_action (Call p args x) = omega arith
weight_action (Decide question branches None) = omega arith
weight_action (Decide question branches (Some block)) = omega arith

pub below_action : (a : Action) → inside_action (out-Action a) + 1 ≤ size-Action a
below_action a = let e = size_is-Action a in let h = weight_action (out-Action a) in omega (arith, e, h)

pub below_step : (x : Step) → size-Action x.action + 1 ≤ size-Step x
below_step x = let e = size_is-Step x in omega (arith, e)

pub below_block : (b : Block) → most size-Step (out-Block b).steps + 1 ≤ size-Block b
below_block b = let e = size_is-Block b in omega (arith, e)

pub below_branch : (x : Branch) → size-Block (out-Branch x).block + 1 ≤ size-Branch x
below_branch x = let e = size_is-Branch x in omega (arith, e)

-- ---- the same tails of the blocks inside give the same tail

abbrev pub Agree : ℕ → Tails → Tails → Type 0
Agree k inner inner' = (b : Block) → size-Block b ≤ k → inner b ≡ inner' b

left_most : (a b k : ℕ) → max a b ≤ k → a ≤ k
left_most a b k p = omega (arith, p)

right_most : (a b k : ℕ) → max a b ≤ k → b ≤ k
right_most a b k p = omega (arith, p)

branch_within : (x : Branch) (k : ℕ) → size-Branch x ≤ k → size-Block (out-Branch x).block ≤ k
branch_within x k p = let h = below_branch x in omega (arith, p, h)

branches_same : (inner inner' : Tails) (k : ℕ) → Agree k inner inner' → (later : Piece) (xs : List Branch) (other : Option Block)
    → max (most size-Branch xs) (size_if other) ≤ k → tail_of_branches inner later xs other ≡ tail_of_branches inner' later xs other
branches_same inner inner' k h later [] None p = refl
branches_same inner inner' k h later [] (Some block) p = ap (followed_by later) (h block (right_most 0 (size-Block block) k p))
branches_same inner inner' k h later (x ∷ xs) other p =
    ap₂ option_or
    (ap (followed_by later) (h (out-Branch x).block (branch_within x k (first_within (size-Branch x) (most size-Branch xs) (size_if other) p))))
    (branches_same inner inner' k h later xs other (rest_within (size-Branch x) (most size-Branch xs) (size_if other) p))
  where
    first_within : (a b c : ℕ) → max (max a b) c ≤ k → a ≤ k
    first_within a b c q = omega (arith, q)

    rest_within : (a b c : ℕ) → max (max a b) c ≤ k → max b c ≤ k
    rest_within a b c q = omega (arith, q)

action_same : (inner inner' : Tails) (k : ℕ) → Agree k inner inner' → (later : Piece) (x : Action-F Action Block Branch Step)
    → inside_action x ≤ k → tail_of_action inner later x ≡ tail_of_action inner' later x
action_same inner inner' k h later (Decide question branches other) p = branches_same inner inner' k h later branches other p
action_same inner inner' k h later _ p = refl

step_within : (x : Step) (k : ℕ) → size-Step x ≤ k → inside_action (out-Action x.action) ≤ k
step_within x k p = let h = below_step x in let i = below_action x.action in omega (arith, p, h, i)

pub steps_same : (inner inner' : Tails) (k : ℕ) → Agree k inner inner' → (l : NameId) (xs : List Step) (end : Option Ending)
    → most size-Step xs ≤ k → tail_of_steps inner l xs end ≡ tail_of_steps inner' l xs end
steps_same inner inner' k h l [] end p = refl
steps_same inner inner' k h l (x ∷ xs) end p =
    ap (λ (rest : Option Remainder). cond (is_name l x.label) (Some (record { steps = x ∷ xs; end = end } ∷ [])) rest)
    (ap₂ option_or
    (action_same inner inner' k h (record { steps = xs; end = end }) (out-Action x.action)
    (step_within x k (left_most (size-Step x) (most size-Step xs) k p)))
    (steps_same inner inner' k h l xs end (right_most (size-Step x) (most size-Step xs) k p)))

-- ---- any depth that covers the block

no_depth : (b : Block) → size-Block b ≤ 0 → ⊥
no_depth b p = let h = below_block b in omega (arith, p, h)

inside_block : (b : Block) (d : ℕ) → size-Block b ≤ suc d → most size-Step (out-Block b).steps ≤ d
inside_block b d p = let h = below_block b in omega (arith, p, h)

pub tail_within_same : (d d' : ℕ) (l : NameId) (b : Block) → size-Block b ≤ d → size-Block b ≤ d' → tail_within d l b ≡ tail_within d' l b
tail_within_same zero d' l b p q = absurd (no_depth b p)
tail_within_same (suc d) zero l b p q = absurd (no_depth b q)
tail_within_same (suc d) (suc d') l b p q =
    steps_same (tail_within d l) (tail_within d' l) (most size-Step (out-Block b).steps)
    (λ x r. tail_within_same d d' l x (le_trans r (inside_block b d p)) (le_trans r (inside_block b d' q)))
    l (out-Block b).steps (out-Block b).end (le_refl _)

one_deeper : (n : ℕ) → n ≤ suc n
one_deeper n = omega arith

pub tail_in_is : (l : NameId) (b : Block) → tail_in l b ≡ tail_of_steps (tail_in l) l (out-Block b).steps (out-Block b).end
unfolding tail_in
tail_in_is l b =
    tail_within_same (size-Block b) (suc (size-Block b)) l b (le_refl _) (one_deeper (size-Block b))
    ∙ steps_same (tail_within (size-Block b) l) (tail_in l) (size-Block b)
    (λ x r. tail_within_same (size-Block b) (size-Block x) l x r (le_refl _))
    l (out-Block b).steps (out-Block b).end (inside_block b (size-Block b) (one_deeper (size-Block b)))
