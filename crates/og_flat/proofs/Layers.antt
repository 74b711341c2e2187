-- A type is laid out as one layer of it says of its parts, at any depth: the depth by which `nodes_of` recurses changes nothing
-- once it covers the tree.
use Rattle.std.proofs.Common.{◌≡◌, ℕ, zero, suc, ◌+◌, ◌≤◌, List, [], ◌∷◌, ◌++◌, length, refl, ap, ◌∙◌, le_refl, arith}
use denote.Param.Weighed.{most}
use denote.Hole.Carrier
use Rattle.og_asn1.specs.declared.syntax.TypeTree.{TypeTree, size-TypeTree, size_is-TypeTree}
use Rattle.og_asn1.specs.declared.syntax.BaseTree.{BaseTree, BaseTree-F, out-BaseTree, size-BaseTree, size_is-BaseTree}
use Rattle.og_asn1.specs.declared.syntax.BaseTree.TheOpen.{Integer, Boolean, Reference, Enumerated, Choice, Sequence, Set, SequenceOf, SetOf, Real, Null, OctetString, ObjectIdentifier, BitString, CompTree-F, Part, Extension}
use Rattle.og_asn1.specs.declared.syntax.BaseTree.TheBlock as Block
use Rattle.og_asn1.specs.declared.syntax.OfTree.{OfTree, out-OfTree, size-OfTree, size_is-OfTree}
use Rattle.og_asn1.specs.declared.syntax.CompTree.{CompTree, out-CompTree, size-CompTree, size_is-CompTree}
use Rattle.og_flat.specs.declared.flat.Node.{Node}
use Rattle.og_flat.specs.declared.flat.Node.TheVariants as node
use Rattle.og_flat.specs.Limits.{limits_of_size}
use Rattle.og_flat.specs.Flattening.{Parts, with_part, opened, last_of, parts_by, parts_of, nodes_by, nodes_within, nodes_of}

-- ---- sizes of parts

abbrev pub inside_base : BaseTree-F BaseTree CompTree OfTree TypeTree → ℕ
inside_base (Choice comps) = most size-CompTree comps
inside_base (Sequence comps) = most size-CompTree comps
inside_base (SequenceOf of) = size-OfTree of
inside_base (SetOf of) = size-OfTree of
inside_base _ = 0

weight_base : (x : BaseTree-F BaseTree CompTree OfTree TypeTree) → inside_base x ≤ (Block.weighs-BaseTree).weight (Carrier.Values Block.the_members Block.the_sigs Block.the_carrier) Block.the_depth x
weight_base (Choice comps) = omega arith
weight_base (Sequence comps) = omega arith
weight_base (SequenceOf of) = omega arith
weight_base (SetOf of) = omega arith
weight_base (Integer names limits) = omega arith
weight_base Boolean = omega arith
weight_base (Reference name limits) = omega arith
weight_base (Enumerated items) = omega arith
weight_base (Set run) = omega arith
weight_base (Real limits) = omega arith
weight_base Null = omega arith
weight_base (OctetString limits) = omega arith
weight_base ObjectIdentifier = omega arith
weight_base (BitString names limits) = omega arith

pub below_base : (b : BaseTree) → inside_base (out-BaseTree b) + 1 ≤ size-BaseTree b
below_base b = let e = size_is-BaseTree b in let h = weight_base (out-BaseTree b) in omega (arith, e, h)

pub below_type : (t : TypeTree) → size-BaseTree t.base + 1 ≤ size-TypeTree t
below_type t = let h = size_is-TypeTree t in omega (arith, h)

abbrev pub inside_comp : CompTree-F BaseTree CompTree OfTree TypeTree → ℕ
inside_comp (Part name kind presence) = size-TypeTree kind
inside_comp (Extension place) = 0

weight_comp : (x : CompTree-F BaseTree CompTree OfTree TypeTree) → inside_comp x ≤ (Block.weighs-CompTree).weight (Carrier.Values Block.the_members Block.the_sigs Block.the_carrier) Block.the_depth x
weight_comp (Part name kind presence) = omega arith
weight_comp (Extension place) = omega arith

pub below_comp : (c : CompTree) → inside_comp (out-CompTree c) + 1 ≤ size-CompTree c
below_comp c = let e = size_is-CompTree c in let h = weight_comp (out-CompTree c) in omega (arith, e, h)

pub below_of : (o : OfTree) → size-TypeTree (out-OfTree o).item + 1 ≤ size-OfTree o
below_of o = let h = size_is-OfTree o in omega (arith, h)

-- ---- the same of the parts gives the same

abbrev Agree : ℕ → (ℕ → TypeTree → List Node) → (ℕ → TypeTree → List Node) → Type 0
Agree k f g = (n : ℕ) (t : TypeTree) → size-TypeTree t ≤ k → f n t ≡ g n t

part_same : (f g : ℕ → TypeTree → List Node) (k : ℕ) → Agree k f g → (n : ℕ) (c : CompTree-F BaseTree CompTree OfTree TypeTree) (more more' : ℕ → Parts)
    → inside_comp c ≤ k → ((m : ℕ) → more m ≡ more' m) → parts_by f n c more ≡ parts_by g n c more'
part_same f g k h n (Part name kind presence) more more' p e =
    ap (λ (nodes : List Node). with_part n name presence nodes (more (n + length nodes))) (h n kind p)
    ∙ ap (with_part n name presence (g n kind)) (e (n + length (g n kind)))
part_same f g k h n (Extension place) more more' p e = ap opened (e n)

parts_same : (f g : ℕ → TypeTree → List Node) (k : ℕ) → Agree k f g → (cs : List CompTree) → most size-CompTree cs ≤ k → (n : ℕ) → parts_of f cs n ≡ parts_of g cs n
parts_same f g k h [] p n = refl
parts_same f g k h (c ∷ cs) p n =
    let below = below_comp c in
    part_same f g k h n (out-CompTree c) (parts_of f cs) (parts_of g cs) (omega (arith, below, p)) (λ m. parts_same f g k h cs (omega (arith, p)) m)

base_same : (f g : ℕ → TypeTree → List Node) (k : ℕ) → Agree k f g → (n : ℕ) (b : BaseTree-F BaseTree CompTree OfTree TypeTree)
    → inside_base b ≤ k → nodes_by f n b ≡ nodes_by g n b
base_same f g k h n (Choice comps) p = ap (λ (ps : Parts). ps.nodes ++ node.Choice ps.parts ps.is_plain ∷ []) (parts_same f g k h comps p n)
base_same f g k h n (Sequence comps) p = ap (λ (ps : Parts). ps.nodes ++ node.Sequence ps.parts ps.is_plain ∷ []) (parts_same f g k h comps p n)
base_same f g k h n (SequenceOf of) p =
    let below = below_of of in
    ap (λ (nodes : List Node). nodes ++ node.SequenceOf (limits_of_size (out-OfTree of).size) (last_of n nodes) ∷ []) (h n (out-OfTree of).item (omega (arith, below, p)))
base_same f g k h n (SetOf of) p =
    let below = below_of of in
    ap (λ (nodes : List Node). nodes ++ node.Other (limits_of_size (out-OfTree of).size) ∷ []) (h n (out-OfTree of).item (omega (arith, below, p)))
base_same f g k h n (Integer names limits) p = refl
base_same f g k h n Boolean p = refl
base_same f g k h n (Reference name limits) p = refl
base_same f g k h n (Enumerated items) p = refl
base_same f g k h n (Set run) p = refl
base_same f g k h n (Real limits) p = refl
base_same f g k h n Null p = refl
base_same f g k h n (OctetString limits) p = refl
base_same f g k h n ObjectIdentifier p = refl
base_same f g k h n (BitString names limits) p = refl

-- ---- any depth

pub no_depth : (t : TypeTree) (A : Type 0) → size-TypeTree t ≤ 0 → A
no_depth t A p = let h = below_type t in absurd (omega (arith, h, p))

pub steady : (d e n : ℕ) (t : TypeTree) → size-TypeTree t ≤ d → size-TypeTree t ≤ e → nodes_within d n t ≡ nodes_within e n t
steady zero e n t p q = no_depth t _ p
steady (suc d) zero n t p q = no_depth t _ q
steady (suc d) (suc e) n t p q =
    let base = below_base t.base in
    let type = below_type t in
    base_same (nodes_within d) (nodes_within e) (inside_base (out-BaseTree t.base))
    (λ m u r. steady d e m u (omega (arith, base, type, p, r)) (omega (arith, base, type, q, r))) n (out-BaseTree t.base) (le_refl _)

layer_by : (d n : ℕ) (t : TypeTree) → size-TypeTree t ≤ d → nodes_within d n t ≡ nodes_by nodes_of n (out-BaseTree t.base)
layer_by zero n t p = no_depth t _ p
layer_by (suc d) n t p =
    let base = below_base t.base in
    let type = below_type t in
    base_same (nodes_within d) nodes_of (inside_base (out-BaseTree t.base))
    (λ m u r. steady d (size-TypeTree u) m u (omega (arith, base, type, p, r)) (le_refl _)) n (out-BaseTree t.base) (le_refl _)

pub nodes_layer : (n : ℕ) (t : TypeTree) → nodes_of n t ≡ nodes_by nodes_of n (out-BaseTree t.base)
nodes_layer n t = layer_by (size-TypeTree t) n t (le_refl _)
