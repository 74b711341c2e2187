-- Numbers of cells, which are counted no further than one past the most that a program may have.
use Rattle.std.specs.Prelude.{ℕ, min}

unfoldable pub many : ℕ
many = 16777217

unfoldable pub capped : ℕ → ℕ
capped n = min many n
