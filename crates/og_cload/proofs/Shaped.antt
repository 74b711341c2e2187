-- Shapes by the depth of types.
use Rattle.std.proofs.Common.{◌≡◌, ◌≢◌, ℕ, zero, suc, ◌-◌, List, [], ◌∷◌, length, Bool, true, false, ◌&&◌, not, is_some, slice_get, refl, sym, ap, arith}
use Rattle.og_types.specs.declared.Part.{Part}
use Rattle.og_types.specs.declared.Sort.{Sort}
use Rattle.og_types.specs.declared.TypeId.{TypeId}
use Rattle.og_csubset.specs.declared.CStruct.{CStruct}
use Rattle.og_csubset.specs.declared.CMember.{CMember}
use Rattle.og_csubset.specs.declared.CType.{CType}
use Rattle.og_csubset.specs.Loading.{have_shapes, is_one_number, is_seq_of, shape_by, shape_within}
use Rattle.og_cload.specs.Shaping.{array_by}

nothing : (a b : Bool) → false ≡ b → false ≡ (a && b)
nothing true b e = e
nothing false b e = refl

-- members and parts of another number
pub uneven : (f : CType → TypeId → Bool) (members : List CMember) (parts : List Part) → length members ≢ length parts → false ≡ have_shapes f members parts
uneven f [] [] ne = absurd (ne refl)
uneven f [] (p ∷ parts) ne = refl
uneven f (m ∷ members) [] ne = refl
uneven f (m ∷ members) (p ∷ parts) ne =
    ap (λ b. b) (nothing (not (is_some m.size) && f m.kind p.sort) (have_shapes f members parts) (uneven f members parts (λ e. ne (ap suc e))))

drops : (a : Bool) → (a && false) ≡ false
drops true = refl
drops false = refl

ends : (a : Bool) → (a && true) ≡ a
ends true = refl
ends false = refl

-- the length, and then what stands behind it
pub seq_of_is : (f : CType → TypeId → Bool) (hi : ℕ) (item : TypeId) (m : CMember) (members : List CMember) → is_seq_of f hi item (m ∷ members) ≡ (is_one_number m && array_by f hi item members)
seq_of_is f zero item m [] = sym (ends (is_one_number m))
seq_of_is f zero item m (array ∷ members) = sym (drops (is_one_number m))
seq_of_is f (suc hi) item m [] = sym (drops (is_one_number m))
seq_of_is f (suc hi) item m (array ∷ []) = refl
seq_of_is f (suc hi) item m (array ∷ more ∷ members) = sym (drops (is_one_number m))

pub within_is : (depth : ℕ) (structs : List CStruct) (sorts : List Sort) (t : CType) (id : TypeId) → depth ≢ 0
    → shape_within depth structs sorts t id ≡ shape_by (shape_within (depth - 1) structs sorts) structs t (slice_get sorts id.0)
within_is zero structs sorts t id ne = absurd (ne refl)
within_is (suc depth) structs sorts t id ne =
    let less : depth ≡ suc depth - 1 = omega arith in ap (λ d. shape_by (shape_within d structs sorts) structs t (slice_get sorts id.0)) less

pub within_none : (depth : ℕ) (structs : List CStruct) (sorts : List Sort) (t : CType) (id : TypeId) → depth ≡ 0 → false ≡ shape_within depth structs sorts t id
within_none depth structs sorts t id e = ap (λ d. shape_within d structs sorts t id) (sym e)

pub ruleset shaped = (uneven, seq_of_is, within_is, within_none)
