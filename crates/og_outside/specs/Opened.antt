-- Files that are opened by name and then read at places. std says what a seek does to a place and what a read does to the bytes
-- that are still to come; for a file the two are one: what is still to come is what stands behind the place.
use Rattle.std.specs.Prelude.{◌≡◌, ℕ, List, Option, Some, IsSome, IfSome, drop}
use Rattle.og_base.specs.Store.{Files}

-- of each reader of this kind, what is still to come is what stands behind its place
abbrev pub IsFile : {F : Type 0} → (F → Option (List ℕ)) → (F → Option ℕ) → (F → Option (List ℕ)) → Type 0
IsFile {F} bytes_of place_of rest_of = (file : F) (bytes : List ℕ) (at : ℕ) → bytes_of file ≡ Some bytes → place_of file ≡ Some at → rest_of file ≡ Some (drop at bytes)

-- where the folder tells its files, this is the file of the name
abbrev pub Opens : {F : Type 0} → Option Files → List ℕ → (F → Option (List ℕ)) → (F → Option ℕ) → (F → Option (List ℕ)) → F → Type 0
Opens told name bytes_of place_of rest_of file = IfSome told (λ files. (files name ≡ bytes_of file) × IsSome (bytes_of file) × IsSome (place_of file) × IsFile bytes_of place_of rest_of)
