-- A scope has the leaves and regions that its states have, at any depth: the depth by which `insides_of` recurses changes
-- nothing once it covers the tree.
use Rattle.std.proofs.Common.{◌≡◌, ℕ, zero, suc, ◌+◌, ◌≤◌, max, List, [], ◌∷◌, ◌++◌, false, refl, ap, ◌∙◌, le_refl, le_trans, arith}
use denote.Param.Weighed.{most}
use denote.Hole.Carrier
use Rattle.og_model.specs.declared.Scope.{Scope, out-Scope, size-Scope, size_is-Scope}
use Rattle.og_model.specs.declared.StateDef.{StateDef, size-StateDef, size_is-StateDef}
use Rattle.og_model.specs.declared.Partition.{Partition, out-Partition, size-Partition, size_is-Partition}
use Rattle.og_model.specs.declared.StateKind.{StateKind, out-StateKind, size-StateKind, size_is-StateKind}
use Rattle.og_model.specs.declared.StateKind.TheOpen.{Basic, Composite, Aggregation}
use Rattle.og_model.specs.declared.StateKind.TheBlock as Block
use Rattle.og_model.specs.Configuration.{Kind}
use Rattle.og_model.specs.RegionTypes.{Region}
use Rattle.og_model.specs.Regions.{Insides, partition_regions, regions_of_partitions, kind_insides, state_insides, states_insides, insides_under, followed_by, one_leaf, insides_within, insides_of}

-- ---- depths of parts

abbrev inside_kind : Kind → ℕ
inside_kind Basic = 0
inside_kind (Composite entry exit m) = size-Scope m
inside_kind (Aggregation entry exit ps) = most size-Partition ps

weight_kind : (x : Kind) → inside_kind x ≤ (Block.weighs-StateKind).weight (Carrier.Values Block.the_members Block.the_sigs Block.the_carrier) Block.the_depth x
weight_kind Basic = omega arith
weight_kind (Composite entry exit m) = omega arith
weight_kind (Aggregation entry exit ps) = omega arith

below_kind : (k : StateKind) → inside_kind (out-StateKind k) + 1 ≤ size-StateKind k
below_kind k = let e = size_is-StateKind k in let h = weight_kind (out-StateKind k) in omega (arith, e, h)

below_state : (d : StateDef) → size-StateKind d.kind + 1 ≤ size-StateDef d
below_state d = let h = size_is-StateDef d in omega (arith, h)

below_partition : (p : Partition) → size-Scope (out-Partition p).inner + 1 ≤ size-Partition p
below_partition p = let h = size_is-Partition p in omega (arith, h)

below_scope : (m : Scope) → most size-StateDef (out-Scope m).states + 1 ≤ size-Scope m
below_scope m = let h = size_is-Scope m in omega (arith, h)

left_most : (a b k : ℕ) → max a b ≤ k → a ≤ k
left_most a b k p = omega (arith, p)

right_most : (a b k : ℕ) → max a b ≤ k → b ≤ k
right_most a b k p = omega (arith, p)

inside_of : (a b k : ℕ) → a + 1 ≤ b → b ≤ k → a ≤ k
inside_of a b k p q = omega (arith, p, q)

-- ---- the same insides of the parts give the same insides

abbrev Agree : ℕ → (Scope → Insides) → (Scope → Insides) → Type 0
Agree k within within' = (m : Scope) → size-Scope m ≤ k → within m ≡ within' m

partitions_same : (within within' : Scope → Insides) (k : ℕ) → Agree k within within' → (ps : List Partition) → most size-Partition ps ≤ k
    → regions_of_partitions within ps ≡ regions_of_partitions within' ps
partitions_same within within' k h [] p = refl
partitions_same within within' k h (q ∷ qs) p =
    ap (λ (x : Insides). partition_regions q x ++ regions_of_partitions within qs)
    (h (out-Partition q).inner (inside_of _ _ k (below_partition q) (left_most (size-Partition q) (most size-Partition qs) k p)))
    ∙ ap (λ (rs : List Region). partition_regions q (within' (out-Partition q).inner) ++ rs)
    (partitions_same within within' k h qs (right_most (size-Partition q) (most size-Partition qs) k p))

kind_same : (within within' : Scope → Insides) (k : ℕ) → Agree k within within' → (x : Kind) → inside_kind x ≤ k
    → kind_insides within x ≡ kind_insides within' x
kind_same within within' k h Basic p = refl
kind_same within within' k h (Composite entry exit m) p = h m p
kind_same within within' k h (Aggregation entry exit ps) p =
    ap (λ (rs : List Region). record { leaves = one_leaf false; regions = rs }) (partitions_same within within' k h ps p)

state_same : (within within' : Scope → Insides) (k : ℕ) → Agree k within within' → (d : StateDef) → size-StateDef d ≤ k
    → state_insides within d ≡ state_insides within' d
state_same within within' k h d p =
    ap (insides_under d.name) (kind_same within within' k h (out-StateKind d.kind)
    (inside_of _ _ k (below_kind d.kind) (inside_of _ _ k (below_state d) p)))

states_same : (within within' : Scope → Insides) (k : ℕ) → Agree k within within' → (ds : List StateDef) → most size-StateDef ds ≤ k
    → states_insides within ds ≡ states_insides within' ds
states_same within within' k h [] p = refl
states_same within within' k h (d ∷ ds) p =
    ap (λ (x : Insides). followed_by x (states_insides within ds))
    (state_same within within' k h d (left_most (size-StateDef d) (most size-StateDef ds) k p))
    ∙ ap (followed_by (state_insides within' d))
    (states_same within within' k h ds (right_most (size-StateDef d) (most size-StateDef ds) k p))

-- ---- any depth that covers the tree

no_depth : (m : Scope) → size-Scope m ≤ 0 → ⊥
no_depth m p = let h = below_scope m in omega (arith, p, h)

inside_scope : (m : Scope) (d : ℕ) → size-Scope m ≤ suc d → most size-StateDef (out-Scope m).states ≤ d
inside_scope m d p = let h = below_scope m in omega (arith, p, h)

within_same : (d d' : ℕ) (m : Scope) → size-Scope m ≤ d → size-Scope m ≤ d' → insides_within d m ≡ insides_within d' m
within_same zero d' m p q = absurd (no_depth m p)
within_same (suc d) zero m p q = absurd (no_depth m q)
within_same (suc d) (suc d') m p q =
    states_same (insides_within d) (insides_within d') (most size-StateDef (out-Scope m).states)
    (λ x r. within_same d d' x (le_trans r (inside_scope m d p)) (le_trans r (inside_scope m d' q)))
    (out-Scope m).states (le_refl _)

one_deeper : (n : ℕ) → n ≤ suc n
one_deeper n = omega arith

-- a scope by its states
pub insides_is : (m : Scope) → insides_of m ≡ states_insides insides_of (out-Scope m).states
insides_is m =
    within_same (size-Scope m) (suc (size-Scope m)) m (le_refl _) (one_deeper (size-Scope m))
    ∙ states_same (insides_within (size-Scope m)) insides_of (size-Scope m)
    (λ x r. within_same (size-Scope m) (size-Scope x) x r (le_refl _))
    (out-Scope m).states (inside_scope m (size-Scope m) (one_deeper (size-Scope m)))
