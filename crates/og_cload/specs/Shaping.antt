-- Parts of what it is for a type of the C subset to be as a value of a model's type asks.
use Rattle.std.specs.Prelude.{ℕ, zero, suc, List, [], ◌∷◌, Bool, true, false}
use Rattle.og_types.specs.declared.Part.{Part}
use Rattle.og_types.specs.declared.Sort.TheVariants as sort
use Rattle.og_types.specs.declared.TypeId.{TypeId}
use Rattle.std.specs.Prelude.{Some}
use Rattle.og_csubset.specs.declared.CStruct.{CStruct}
use Rattle.og_csubset.specs.declared.CMember.{CMember}
use Rattle.og_csubset.specs.declared.CType.{CType}
use Rattle.og_csubset.specs.Loading.{shape_by, is_array}

abbrev pub sequence_by : (CType → TypeId → Bool) → List CStruct → CType → List Part → Bool
sequence_by has_shape structs t parts = shape_by has_shape structs t (Some (sort.Sequence parts))

-- what stands behind the length: an array, or nothing where its length would be 0
abbrev pub array_by : (CType → TypeId → Bool) → ℕ → TypeId → List CMember → Bool
array_by has_shape zero item [] = true
array_by has_shape zero item (m ∷ members) = false
array_by has_shape (suc hi) item [] = false
array_by has_shape (suc hi) item (m ∷ []) = is_array has_shape (suc hi) item m
array_by has_shape (suc hi) item (m ∷ more ∷ members) = false
