-- What a table of types keeps of each type beside the type: how deep it is, how many cells it takes, and whether it is
-- supported. The types are those of a subset of ASN.1 (X.680 sections 18 to 20, 25, 26 and 29); the three answers are this
-- project's own. A type may be referred to many times, so they are found once, where the type comes into the table.
use Rattle.std.specs.Prelude.{◌≡◌, ◌<◌, ◌^◌, ℕ, Bool, false, IsTrue, List, length, slice_get, Some, unwrap_or}
use Rattle.og_types.specs.declared.TypeId.{TypeId}
use Rattle.og_types.specs.declared.Sort.{Sort}
use Rattle.og_types.specs.declared.measures.Measure.{Measure}
use Rattle.og_types.specs.Values.{cells, is_supported}
use Rattle.og_types.specs.Table.{depth, is_table}

-- of a type of the table
abbrev pub measure : List Sort → TypeId → Measure
measure types id = record { depth = depth types id; cells = cells types id; supported = is_supported types id }

-- what stands for the measure of a type that is not there
abbrev pub no_measure : Measure
no_measure = record { depth = 0; cells = 0; supported = false }

-- of the type of this number, in a list of measures
abbrev pub measure_in : List Measure → TypeId → Measure
measure_in measures id = unwrap_or (slice_get measures id.0) no_measure

abbrev pub depth_in : List Measure → TypeId → ℕ
depth_in measures id = (measure_in measures id).depth

abbrev pub cells_in : List Measure → TypeId → ℕ
cells_in measures id = (measure_in measures id).cells

abbrev pub supported_in : List Measure → TypeId → Bool
supported_in measures id = (measure_in measures id).supported

-- the types are a table, and these are their measures
pub record IsKept (types : List Sort) (measures : List Measure) : Type 0 where
  pub table : IsTrue (is_table types)
  pub few : length types < 2 ^ 32
  pub as_many : length measures ≡ length types
  pub each : (n : ℕ) → n < length types → slice_get measures n ≡ Some (measure types (record { 0 = n }))
