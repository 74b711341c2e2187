-- Which violation is reported: the one with the least place, and of two at one place the one whose rule comes first in the
-- table of rules.
use Rattle.std.specs.Prelude.{ℕ, Bool, ◌||◌, ◌&&◌, ◌==◌, nat_lt, List, [], ◌∷◌, Option, Some, None, if◌then◌else◌}
use Rattle.og_base.specs.declared.Place.{Place}
use Rattle.og_base.specs.declared.Rule.{Rule}
use Rattle.og_base.specs.declared.Rule.TheVariants as rule
use Rattle.og_base.specs.declared.Violation.{Violation}

-- by file, then line, then column
abbrev pub is_before : Place → Place → Bool
is_before a b = nat_lt a.file b.file || ((a.file == b.file) && (nat_lt a.line b.line || ((a.line == b.line) && nat_lt a.column b.column)))

-- the place of a rule in the table, counted from 0
abbrev pub rank : Rule → ℕ
rank rule.L1 = 0
rank rule.L2 = 1
rank rule.L3 = 2
rank rule.L4 = 3
rank rule.S1 = 4
rank rule.S2 = 5
rank rule.F1 = 6
rank rule.N1 = 7
rank rule.N2 = 8
rank rule.N3 = 9
rank rule.N4 = 10
rank rule.N5 = 11
rank rule.N6 = 12
rank rule.N7 = 13
rank rule.T1 = 14
rank rule.T2 = 15
rank rule.T3 = 16
rank rule.T4 = 17
rank rule.T6 = 18
rank rule.T7 = 19
rank rule.G1 = 20
rank rule.G2 = 21
rank rule.G3 = 22
rank rule.G4 = 23
rank rule.G5 = 24
rank rule.A1 = 25
rank rule.A2 = 26
rank rule.A3 = 27
rank rule.A4 = 28
rank rule.A5 = 29
rank rule.A6 = 30
rank rule.A7 = 31
rank rule.A8 = 32
rank rule.A9 = 33
rank rule.A10 = 34
rank rule.A11 = 35
rank rule.A12 = 36
rank rule.M1 = 37
rank rule.M2 = 38
rank rule.M3 = 39
rank rule.M4 = 40

-- by place, then by rule
abbrev pub comes_before : Violation → Violation → Bool
comes_before v w = is_before v.place w.place || ((v.place.file == w.place.file) && (v.place.line == w.place.line) && (v.place.column == w.place.column) && nat_lt (rank v.rule) (rank w.rule))

-- the one of these that is reported
abbrev pub sooner : Option Violation → Violation → Option Violation
sooner None v = Some v
sooner (Some w) v = if comes_before v w then Some v else Some w

abbrev pub first_from : Option Violation → List Violation → Option Violation
first_from best [] = best
first_from best (v ∷ vs) = first_from (sooner best v) vs

-- the first violation of a list
abbrev pub first_of : List Violation → Option Violation
first_of violations = first_from None violations
