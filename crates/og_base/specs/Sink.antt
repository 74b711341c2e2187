-- The outside that is written to: bytes in order. A sink may tell what was written, and counts how often writing failed.
use Rattle.std.specs.Prelude.{◌≡◌, ℕ, ◌++◌, List, Option, Some, None}

-- what was written grows at its end
abbrev pub grown : List ℕ → Option (List ℕ) → Option (List ℕ)
grown more None = None
grown more (Some old) = Some (old ++ more)

-- a front of the bytes was written, where the sink tells it
abbrev pub WroteFront : List ℕ → Option (List ℕ) → Option (List ℕ) → Type 0
WroteFront bytes old new = (front : List ℕ) × (back : List ℕ) × (bytes ≡ front ++ back) × (new ≡ grown front old)
