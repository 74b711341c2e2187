-- All violations of the rules on what systems and blocks declare, in the units of all files: N2 and N4 space by space, then N1 and N3 at
-- the types of the parameters of signals.
use Rattle.std.specs.Prelude.{ℕ, List, ◌++◌, flat_map, Option}
use Rattle.og_base.specs.declared.Violation.{Violation}
use Rattle.og_base.specs.Order.{first_of}
use Rattle.og_ast.specs.declared.system.Unit.{Unit as UnitTree}
use Rattle.og_declared.specs.Spaces.{spaces, in_space}
use Rattle.og_declared.specs.Sorts.{in_sorts}

-- where the types and the constants of ASN.1 have these names
abbrev pub violations : List (List ℕ) → List (List ℕ) → List UnitTree → List Violation
violations types constants units = flat_map in_space (spaces units) ++ in_sorts types constants units

abbrev pub first_violation : List (List ℕ) → List (List ℕ) → List UnitTree → Option Violation
first_violation types constants units = first_of (violations types constants units)
