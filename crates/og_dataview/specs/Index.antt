-- What an index of names keeps: it finds the first place at which a folded name stands among those that were declared.
use Rattle.std.specs.Prelude.{◌≡◌, ℕ, List, length, slice_get}
use Rattle.std.specs.Option.{option_and_then}
use Rattle.og_names.specs.Folding.{place_of}
use Rattle.og_dataview.specs.declared.index.Index.{Index}

pub record IsIndex (keys : List (List ℕ)) (index : Index) : Type 0 where
  pub finds : (k : List ℕ) → option_and_then (slice_get index.firsts.items) (place_of index.names k) ≡ place_of keys k
  pub as_many : length index.firsts.items ≡ length index.names
