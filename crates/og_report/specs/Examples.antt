-- Lines of reports, written by hand.
use Rattle.std.specs.Prelude.{◌≡◌, ℕ, ◌++◌, pos, negsuc, List, [], ◌∷◌, Option, Some, None, codes}
use Rattle.og_base.specs.declared.Place.{Place}
use Rattle.og_base.specs.declared.Rule.{Rule}
use Rattle.og_base.specs.declared.Rule.TheVariants as rule
use Rattle.og_cif.specs.declared.Symbol.TheVariants as symbol
use Rattle.og_cif.specs.declared.CifBox.{CifBox}
use Rattle.og_report.specs.declared.Report.{Report}
use Rattle.og_report.specs.Line.{report_line}
use Rattle.og_report.specs.Report.{bytes_before}

abbrev pub at : ℕ → ℕ → Place
at line column = record { file = 0; line = line; column = column }

abbrev pub report_at : Rule → Place → Option CifBox → Report
report_at rule place frame = record { rule = rule; place = place; frame = frame }

-- a text of 200 by 140 at the corner of the drawing
abbrev pub a_text : CifBox
a_text = record { symbol = symbol.Text; x = pos 0; y = pos 0; w = pos 200; h = pos 140 }

-- a decision left of the corner and above it
abbrev pub a_decision : CifBox
a_decision = record { symbol = symbol.Decision; x = negsuc 0; y = negsuc 2147483647; w = pos 70; h = pos 35 }

abbrev pub WithBox : Type 0
WithBox =
    report_line (report_at rule.F1 (at 5 1) (Some a_text)) (codes "counter.pr") ≡ codes "refused F1 counter.pr:5:1 in TEXT (0, 0), (200, 140)" ++ 10 ∷ []

abbrev pub WithoutBox : Type 0
WithoutBox = report_line (report_at rule.A12 (at 120 7) None) (codes "m.pr") ≡ codes "refused A12 m.pr:120:7" ++ 10 ∷ []

abbrev pub BelowZero : Type 0
BelowZero =
    report_line (report_at rule.N1 (at 1 1) (Some a_decision)) (codes "m.pr")
    ≡ codes "refused N1 m.pr:1:1 in DECISION (-1, -2147483648), (70, 35)" ++ 10 ∷ []

-- `ab` on the first line, `cd` on the second
abbrev pub two_lines : List ℕ
two_lines = 97 ∷ 98 ∷ 10 ∷ 99 ∷ 100 ∷ []

abbrev pub BytesStandBefore : Type 0
BytesStandBefore =
    ((bytes_before (at 1 1) two_lines ≡ []) × (bytes_before (at 1 2) two_lines ≡ 97 ∷ [])) × ((bytes_before (at 2 1) two_lines ≡ 97 ∷ 98 ∷ 10 ∷ [])
    × (bytes_before (at 2 2) two_lines ≡ 97 ∷ 98 ∷ 10 ∷ 99 ∷ []) × (bytes_before (at 9 1) two_lines ≡ two_lines))
