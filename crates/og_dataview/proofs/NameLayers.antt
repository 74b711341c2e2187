-- The names in a type are those that one layer of it says, at any depth, and a table that names are added to keeps its own.
use Rattle.std.proofs.Common.{◌≡◌, ℕ, zero, suc, ◌≤◌, List, [], ◌∷◌, ◌++◌, refl, ap, le_refl, arith}
use denote.Param.Weighed.{most}
use Rattle.og_asn1.specs.declared.syntax.Name.{Name}
use Rattle.og_asn1.specs.declared.syntax.TypeTree.{TypeTree, size-TypeTree}
use Rattle.og_asn1.specs.declared.syntax.BaseTree.{BaseTree, BaseTree-F, out-BaseTree}
use Rattle.og_asn1.specs.declared.syntax.BaseTree.TheOpen.{Integer, Boolean, Reference, Enumerated, Choice, Sequence, Set, SequenceOf, SetOf, Real, Null, OctetString, ObjectIdentifier, BitString, CompTree-F, Part, Extension}
use Rattle.og_asn1.specs.declared.syntax.OfTree.{OfTree, out-OfTree}
use Rattle.og_asn1.specs.declared.syntax.CompTree.{CompTree, out-CompTree, size-CompTree}
use Rattle.og_dataview.specs.View.{names_by_part, names_in_parts, names_by, names_within, names_in}
use Rattle.og_flat.proofs.Layers.{inside_base, inside_comp, below_base, below_type, below_comp, below_of, no_depth}

abbrev Agree : ℕ → (TypeTree → List Name) → (TypeTree → List Name) → Type 0
Agree k f g = (t : TypeTree) → size-TypeTree t ≤ k → f t ≡ g t

part_same : (f g : TypeTree → List Name) (k : ℕ) → Agree k f g → (c : CompTree-F BaseTree CompTree OfTree TypeTree) → inside_comp c ≤ k → names_by_part f c ≡ names_by_part g c
part_same f g k h (Part name kind presence) p = ap (λ (ns : List Name). name ∷ ns) (h kind p)
part_same f g k h (Extension place) p = refl

parts_same : (f g : TypeTree → List Name) (k : ℕ) → Agree k f g → (cs : List CompTree) → most size-CompTree cs ≤ k → names_in_parts f cs ≡ names_in_parts g cs
parts_same f g k h [] p = refl
parts_same f g k h (c ∷ cs) p =
    let below = below_comp c in
    let one = part_same f g k h (out-CompTree c) (omega (arith, below, p)) in
    let others = parts_same f g k h cs (omega (arith, p)) in
    λ i. one i ++ others i

base_same : (f g : TypeTree → List Name) (k : ℕ) → Agree k f g → (b : BaseTree-F BaseTree CompTree OfTree TypeTree) → inside_base b ≤ k → names_by f b ≡ names_by g b
base_same f g k h (Choice comps) p = parts_same f g k h comps p
base_same f g k h (Sequence comps) p = parts_same f g k h comps p
base_same f g k h (SequenceOf of) p = let below = below_of of in h (out-OfTree of).item (omega (arith, below, p))
base_same f g k h (SetOf of) p = let below = below_of of in h (out-OfTree of).item (omega (arith, below, p))
base_same f g k h (Enumerated items) p = refl
base_same f g k h (Integer names limits) p = refl
base_same f g k h Boolean p = refl
base_same f g k h (Reference name limits) p = refl
base_same f g k h (Set run) p = refl
base_same f g k h (Real limits) p = refl
base_same f g k h Null p = refl
base_same f g k h (OctetString limits) p = refl
base_same f g k h ObjectIdentifier p = refl
base_same f g k h (BitString names limits) p = refl

steady : (d e : ℕ) (t : TypeTree) → size-TypeTree t ≤ d → size-TypeTree t ≤ e → names_within d t ≡ names_within e t
steady zero e t p q = no_depth t _ p
steady (suc d) zero t p q = no_depth t _ q
steady (suc d) (suc e) t p q =
    let base = below_base t.base in
    let type = below_type t in
    base_same (names_within d) (names_within e) (inside_base (out-BaseTree t.base))
    (λ u r. steady d e u (omega (arith, base, type, p, r)) (omega (arith, base, type, q, r))) (out-BaseTree t.base) (le_refl _)

layer_by : (d : ℕ) (t : TypeTree) → size-TypeTree t ≤ d → names_within d t ≡ names_by names_in (out-BaseTree t.base)
layer_by zero t p = no_depth t _ p
layer_by (suc d) t p =
    let base = below_base t.base in
    let type = below_type t in
    base_same (names_within d) names_in (inside_base (out-BaseTree t.base))
    (λ u r. steady d (size-TypeTree u) u (omega (arith, base, type, p, r)) (le_refl _)) (out-BaseTree t.base) (le_refl _)

pub names_layer : (t : TypeTree) → names_in t ≡ names_by names_in (out-BaseTree t.base)
names_layer t = layer_by (size-TypeTree t) t (le_refl _)
