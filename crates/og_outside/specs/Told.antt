-- What a sink tells of its writer.
use Rattle.std.specs.Prelude.{ℕ, Bool, true, false, List, Option, None}

-- what the writer holds, where it always tells it
abbrev pub told : Bool → Option (List ℕ) → Option (List ℕ)
told true contents = contents
told false contents = None
