-- What tables of types keep (X.680 sections 18 to 20, 25, 26 and 29). The values of a type, its first value, its cells, its
-- depth and whether it is supported go by those of the types that it refers to, whatever their numbers. Types that come
-- behind a table change nothing of its types.
use Rattle.std.specs.Prelude.{◌≡◌, ◌<◌, ◌↔◌, true, List, [], ◌∷◌, ◌++◌, length, slice_get}
use Rattle.og_types.specs.declared.TypeId.{TypeId}
use Rattle.og_types.specs.declared.Sort.{Sort}
use Rattle.og_types.specs.declared.Value.{Value, out-Value}
use Rattle.og_types.specs.Table.{is_table, depth, depth_of_sort, MayStandBehind}
use Rattle.og_types.specs.Values.{is_in, in_sort, first, first_of_sort, all_cells, cells_of_sort, is_supported, is_supported_sort, IsDownward}

pub record TypesAreByParts : Type 0 where
  pub values : (types : List Sort) → IsDownward types → (id : TypeId) (v : Value) → is_in types id v ≡ in_sort (is_in types) (slice_get types id.0) (out-Value v)
  pub firsts : (types : List Sort) → IsDownward types → (id : TypeId) → first types id ≡ first_of_sort (first types) (slice_get types id.0)
  pub counts : (types : List Sort) → IsDownward types → (id : TypeId) → all_cells types id ≡ cells_of_sort (all_cells types) (slice_get types id.0)
  pub depths : (types : List Sort) → IsDownward types → (id : TypeId) → depth types id ≡ depth_of_sort (depth types) (slice_get types id.0)
  pub supports : (types : List Sort) → IsDownward types → (id : TypeId) → is_supported types id ≡ is_supported_sort (is_supported types) (slice_get types id.0)

-- in a table the types refer downward
abbrev pub TablesAreDownward : Type 0
TablesAreDownward = (types : List Sort) → is_table types ≡ true → IsDownward types

-- a type behind a table makes a table of them exactly where it may stand there
abbrev pub FurtherTypesMakeTables : Type 0
FurtherTypesMakeTables = (types : List Sort) (t : Sort) → is_table types ≡ true → MayStandBehind types t ↔ (is_table (types ++ t ∷ []) ≡ true)

-- types that come behind a table change nothing of its types
pub record EarlierTypesStay : Type 0 where
  pub values : (types others : List Sort) → is_table types ≡ true → (id : TypeId) → id.0 < length types → (v : Value) → is_in (types ++ others) id v ≡ is_in types id v
  pub firsts : (types others : List Sort) → is_table types ≡ true → (id : TypeId) → id.0 < length types → first (types ++ others) id ≡ first types id
  pub counts : (types others : List Sort) → is_table types ≡ true → (id : TypeId) → id.0 < length types → all_cells (types ++ others) id ≡ all_cells types id
  pub depths : (types others : List Sort) → is_table types ≡ true → (id : TypeId) → id.0 < length types → depth (types ++ others) id ≡ depth types id
  pub supports : (types others : List Sort) → is_table types ≡ true → (id : TypeId) → id.0 < length types → is_supported (types ++ others) id ≡ is_supported types id

-- the first value of a type is one of it
abbrev pub FirstValuesAreInTheirTypes : Type 0
FirstValuesAreInTheirTypes = (types : List Sort) → is_table types ≡ true → (id : TypeId) → is_supported types id ≡ true → is_in types id (first types id) ≡ true
