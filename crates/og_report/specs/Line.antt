-- The line that names a violation: the rule, the file as it was given, the line and the column, and the box of CIF (Z.106) in
-- which the symbol is drawn, where there is one. The forms of the line are this project's own choice.
use Rattle.std.specs.Prelude.{ℕ, suc, ℤ, pos, negsuc, List, [], ◌∷◌, ◌++◌, Option, Some, None, codes, decimal}
use Rattle.og_base.specs.declared.Place.{Place}
use Rattle.og_base.specs.declared.Rule.{Rule}
use Rattle.og_base.specs.declared.Rule.TheVariants as rule
use Rattle.og_cif.specs.declared.CifBox.{CifBox}
use Rattle.og_cif.specs.Form.{symbol_text}
use Rattle.og_report.specs.declared.Report.{Report}

-- the name of a rule, as users see it
abbrev pub rule_text : Rule → List ℕ
rule_text rule.L1 = codes "L1"
rule_text rule.L2 = codes "L2"
rule_text rule.L3 = codes "L3"
rule_text rule.L4 = codes "L4"
rule_text rule.S1 = codes "S1"
rule_text rule.S2 = codes "S2"
rule_text rule.F1 = codes "F1"
rule_text rule.N1 = codes "N1"
rule_text rule.N2 = codes "N2"
rule_text rule.N3 = codes "N3"
rule_text rule.N4 = codes "N4"
rule_text rule.N5 = codes "N5"
rule_text rule.N6 = codes "N6"
rule_text rule.N7 = codes "N7"
rule_text rule.T1 = codes "T1"
rule_text rule.T2 = codes "T2"
rule_text rule.T3 = codes "T3"
rule_text rule.T4 = codes "T4"
rule_text rule.T6 = codes "T6"
rule_text rule.T7 = codes "T7"
rule_text rule.G1 = codes "G1"
rule_text rule.G2 = codes "G2"
rule_text rule.G3 = codes "G3"
rule_text rule.G4 = codes "G4"
rule_text rule.G5 = codes "G5"
rule_text rule.A1 = codes "A1"
rule_text rule.A2 = codes "A2"
rule_text rule.A3 = codes "A3"
rule_text rule.A4 = codes "A4"
rule_text rule.A5 = codes "A5"
rule_text rule.A6 = codes "A6"
rule_text rule.A7 = codes "A7"
rule_text rule.A8 = codes "A8"
rule_text rule.A9 = codes "A9"
rule_text rule.A10 = codes "A10"
rule_text rule.A11 = codes "A11"
rule_text rule.A12 = codes "A12"
rule_text rule.M1 = codes "M1"
rule_text rule.M2 = codes "M2"
rule_text rule.M3 = codes "M3"
rule_text rule.M4 = codes "M4"

-- a number, with a minus sign where it is below zero
abbrev pub number_text : ℤ → List ℕ
number_text (pos n) = decimal n
number_text (negsuc n) = codes "-" ++ decimal (suc n)

-- (x, y)
unfoldable pub pair_text : ℤ → ℤ → List ℕ
pair_text x y = codes "(" ++ number_text x ++ codes ", " ++ number_text y ++ codes ")"

-- (x, y), (w, h)
unfoldable pub area_text : CifBox → List ℕ
area_text b = pair_text b.x b.y ++ codes ", " ++ pair_text b.w b.h

-- SYMBOL (x, y), (w, h)
abbrev pub box_text : CifBox → List ℕ
box_text b = symbol_text b.symbol ++ codes " " ++ area_text b

-- what stands behind the place
abbrev pub behind_place : Option CifBox → List ℕ
behind_place None = []
behind_place (Some box) = codes " in " ++ box_text box

-- FILE:LINE:COLUMN
abbrev pub place_text : List ℕ → Place → List ℕ
place_text file p = file ++ codes ":" ++ decimal p.line ++ codes ":" ++ decimal p.column

-- refused RULE FILE:LINE:COLUMN, and the box
abbrev pub report_line : Report → List ℕ → List ℕ
report_line report file = codes "refused " ++ rule_text report.rule ++ codes " " ++ place_text file report.place ++ behind_place report.frame ++ 10 ∷ []
