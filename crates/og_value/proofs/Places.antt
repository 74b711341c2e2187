-- The place of a name among others, as a loop finds it.
use Rattle.std.proofs.Common.{ℕ, ◌+◌, Option, option_map}

-- so many places on
abbrev pub shifted : ℕ → Option ℕ → Option ℕ
shifted n found = option_map (λ k. n + k) found
