-- Lists that keep what is found once of each type and of each constant. A place that a list does not have stands for
-- none: it has no numbers, no value and no mark. The types and constants are those of modules laid out flat (X.680
-- clauses 16, 18 to 20 and 25).
use Rattle.std.specs.Prelude.{◌≡◌, ◌==◌, ℕ, Bool, false, List, Option, None, unwrap_or, slice_get, ℤ, pos, if◌then◌else◌}
use Rattle.og_types.specs.Table.{in_64_bits}
use Rattle.og_flat.specs.declared.flat.Flat.{Flat}
use Rattle.og_dataview.specs.declared.numbers.Interval.{Interval}
use Rattle.og_dataview.specs.Following.{number_of, numbers_on, numbers_of, nothing}
use Rattle.og_dataview.specs.View.{same_as, has_form}
use Rattle.og_dataview.specs.Ways.{step_in}
use Rattle.og_datatypes.specs.declared.limits.Bounds.{Bounds}
use Rattle.og_datatypes.specs.declared.limits.Lengths.{Lengths}

-- the value of a constant
abbrev pub value_at : List (Option ℤ) → ℕ → Option ℤ
value_at values i = unwrap_or (slice_get values i) None

-- the numbers of a type
abbrev pub range_at : List Interval → ℕ → Interval
range_at ranges p = unwrap_or (slice_get ranges p) nothing

-- whether a type is marked
abbrev pub is_marked : List Bool → ℕ → Bool
is_marked marks p = unwrap_or (slice_get marks p) false

-- the numbers of the constants
pub record AreValues (flat : Flat) (values : List (Option ℤ)) : Type 0 where
  pub each : (i : ℕ) → value_at values i ≡ number_of flat i

-- the numbers that are left on ways of so many steps
pub record Leaves (next : ℕ → ℕ) (own : ℕ → Interval) (steps : ℕ) (ranges : List Interval) : Type 0 where
  pub each : (p : ℕ) → range_at ranges p ≡ numbers_on next own steps p

-- the numbers of the types
pub record AreRanges (flat : Flat) (ranges : List Interval) : Type 0 where
  pub each : (p : ℕ) → range_at ranges p ≡ numbers_of flat p

-- where a way has come to by one list, if it ends there by the other
abbrev pub ended_in : List ℕ → List ℕ → ℕ → ℕ
ended_in nexts ends p = let e = step_in ends p in if step_in nexts e == e then e else p

-- the types with which types share their numbers
pub record AreSame (flat : Flat) (sames : List ℕ) : Type 0 where
  pub each : (p : ℕ) → step_in sames p ≡ same_as flat p

-- the marks are those of the types of which this holds
pub record AreMarked (holds : ℕ → Bool) (marks : List Bool) : Type 0 where
  pub each : (p : ℕ) → is_marked marks p ≡ holds p

-- ---- forms

abbrev pub as_interval : Bounds → Interval
as_interval b = record { lo = b.lo; hi = b.hi }

abbrev pub as_lengths : Lengths → Interval
as_lengths l = record { lo = pos l.lo; hi = pos l.hi }

abbrev pub form_at : Flat → ℕ → Bool
form_at flat p = has_form flat p (slice_get flat.nodes p)

-- ---- numbers

-- a number of more than 64 bits is left out
abbrev pub in_64_bits_or_0 : ℤ → ℤ
in_64_bits_or_0 z = if in_64_bits z then z else pos 0
