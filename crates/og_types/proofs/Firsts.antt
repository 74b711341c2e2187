-- The first value of a type, one level down.
use Rattle.std.proofs.Common.{◌≡◌, ◌≢◌, ℕ, zero, suc, ◌-◌, List, slice_get, Some, refl, sym, ap, ◌∙◌, arith}
use Rattle.og_types.specs.declared.TypeId.{TypeId}
use Rattle.og_types.specs.declared.Sort.{Sort}
use Rattle.og_types.specs.Values.{first_of_sort, first_within}

pub first_at : (depth : ℕ) (types : List Sort) (id : TypeId) (t : Sort) → depth ≢ 0 → Some t ≡ slice_get types id.0
    → first_within depth types id ≡ first_of_sort (first_within (depth - 1) types) (Some t)
first_at zero types id t ne e = absurd (ne refl)
first_at (suc depth) types id t ne e =
    let less : depth ≡ suc depth - 1 = omega arith in
    ap (first_of_sort (first_within depth types)) (sym e) ∙ ap (λ (d : ℕ). first_of_sort (first_within d types) (Some t)) less
