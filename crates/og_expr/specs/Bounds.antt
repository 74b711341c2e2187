-- How much code an expression has, and how many temporaries: at most 40 instructions for each node of it, and at most
-- one temporary more than it is deep.
use Rattle.std.specs.Prelude.{ℕ, ◌+◌, ◌*◌, ◌≤◌, length}
use Rattle.og_model.specs.declared.Expr.{Expr}
use Rattle.og_model.specs.declared.Proc.{Proc}
use Rattle.og_model.specs.Size.{Extras, expression_within}
use Rattle.og_expr.specs.Lowering.{Around, lowered}

-- nothing counts besides the nodes
abbrev pub nodes_alone : Extras
nodes_alone = record { each = 0; around = λ (p : Proc). 0 }

-- the nodes of an expression
unfoldable pub nodes_of : Expr → ℕ
nodes_of e = expression_within 64 nodes_alone e

abbrev pub CodeIsBounded : Type 0
CodeIsBounded = (a : Around) (level at : ℕ) (e : Expr) → length (lowered a level at e).code ≤ 40 * nodes_of e

-- no expression is more than 64 deep, and one temporary more holds a divisor
abbrev pub TemporariesAreFew : Type 0
TemporariesAreFew = (a : Around) (level at : ℕ) (e : Expr) → (lowered a level at e).temps ≤ level + 65
