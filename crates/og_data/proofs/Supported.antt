-- Enumerations that are supported have their written numbers in 64 bits.
use Rattle.std.proofs.Common.{◌≡◌, ℕ, zero, suc, Bool, true, false, not, ◌&&◌, List, slice_get, Option, Some, None, refl, sym, ap, ◌∙◌}
use Rattle.std.specs.List.{list_all, flat_map}
use Rattle.og_types.specs.Table.{in_64_bits}
use Rattle.og_names.proofs.Truths.{both_first, both_second}
use Rattle.og_flat.specs.declared.flat.Flat.{Flat}
use Rattle.og_flat.specs.declared.flat.Enumerator.{Enumerator}
use Rattle.og_flat.specs.declared.flat.Node.{Node}
use Rattle.og_flat.specs.declared.flat.Node.TheVariants as node
use Rattle.og_dataview.specs.Violations.{given}
use Rattle.og_dataview.specs.View.{has_form, needed, same_as, is_supported, is_within}
use Rattle.og_datatypes.proofs.Depths.{own_if}
use Rattle.og_datatypes.proofs.Behind.{depth_is}

-- a type that is no reference has its own number
pub own_enumerated : (flat : Flat) (p : ℕ) (items : List Enumerator) (is_open : Bool) → slice_get flat.nodes p ≡ Some (node.Enumerated items is_open) → same_as flat p ≡ p
own_enumerated flat p items is_open at = own_if flat p (rw at refl)

pub enumerated_given : (flat : Flat) (p : ℕ) (items : List Enumerator) (is_open : Bool) → slice_get flat.nodes p ≡ Some (node.Enumerated items is_open) → is_supported flat p ≡ true
    → list_all in_64_bits (flat_map given items) ≡ true
enumerated_given flat p items is_open at supported =
    let within : is_within flat 64 p ≡ true = ap (λ d. is_within flat d p) (sym depth_is) ∙ supported in
    let there : Option Node = slice_get flat.nodes (same_as flat p) in
    let form : has_form flat (same_as flat p) there ≡ true = both_first (has_form flat (same_as flat p) there) (list_all (is_within flat 63) (needed there)) within in
    let own = own_enumerated flat p items is_open at in
    let here : has_form flat p (Some (node.Enumerated items is_open)) ≡ true = (λ i. has_form flat p (sym at i)) ∙ (λ i. has_form flat (sym own i) (slice_get flat.nodes (sym own i))) ∙ form in
    both_second _ _ (both_second _ _ here)
