-- What holds of all lists of modules: either no rule on names is broken, or there is one first violation among those that there are.
-- That none of them comes before it is a law on lists of violations.
use Rattle.std.specs.Prelude.{◌≡◌, ◌⊎◌, List, [], Some, None, Contains}
use Rattle.og_base.specs.declared.Violation.{Violation}
use Rattle.og_asn1.specs.declared.syntax.ModuleTree.{ModuleTree}
use Rattle.og_dataview.specs.Violations.{violations, first_violation}

abbrev pub KeepsAll : List ModuleTree → Type 0
KeepsAll modules = (violations modules ≡ []) × (first_violation modules ≡ None)

abbrev pub BreaksFirst : List ModuleTree → Violation → Type 0
BreaksFirst modules v = (first_violation modules ≡ Some v) × Contains (violations modules) v

abbrev pub EachHasOneAnswer : Type 0
EachHasOneAnswer = (modules : List ModuleTree) → KeepsAll modules ⊎ ((v : Violation) × BreaksFirst modules v)
