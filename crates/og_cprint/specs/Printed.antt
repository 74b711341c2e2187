-- The text that a program is printed as, byte by byte: one statement a line with four spaces before it, labels at the margin,
-- a blank line before each group, and no bracket beyond need.
use Rattle.std.specs.Prelude.{ℕ, suc, ◌-◌, ◌^◌, ℤ, pos, negsuc, Bool, true, false, cond, not, ◌&&◌, ◌==◌, List, [], ◌∷◌, ◌++◌, length, Option, Some, None, codes, decimal}
use Rattle.std.specs.List.{flat_map}
use Rattle.og_names.specs.declared.Word.{Word}
use Rattle.og_csubset.specs.declared.CProgram.{CProgram}
use Rattle.og_csubset.specs.declared.CStruct.{CStruct}
use Rattle.og_csubset.specs.declared.CMember.{CMember}
use Rattle.og_csubset.specs.declared.CGlobal.{CGlobal}
use Rattle.og_csubset.specs.declared.CType.{CType}
use Rattle.og_csubset.specs.declared.CType.TheVariants.{Int64, Struct}
use Rattle.og_csubset.specs.declared.CFunction.{CFunction}
use Rattle.og_csubset.specs.declared.CStmt.{CStmt}
use Rattle.og_csubset.specs.declared.CStmt.TheVariants.{Assign, IfGoto, Goto, Label, Switch, Call, Return}
use Rattle.og_csubset.specs.declared.CCase.{CCase}
use Rattle.og_csubset.specs.declared.CPlace.{CPlace, CPlace-F, fold-CPlace}
use Rattle.og_csubset.specs.declared.CStep.{CStep, CStep-F, fold-CStep}
use Rattle.og_csubset.specs.declared.CExpr.{CExpr, CExpr-F, fold-CExpr}
use Rattle.og_csubset.specs.declared.CExpr.TheOpen.{Number, Read, Minus, Op, Pick, Member, At}
use Rattle.og_csubset.specs.declared.CTest.{CTest, CTest-F, fold-CTest}
use Rattle.og_csubset.specs.declared.COp.{COp}
use Rattle.og_csubset.specs.declared.COp.TheVariants.{Add, Sub, Mul, Div, Rem}
use Rattle.og_csubset.specs.declared.CRel.{CRel}
use Rattle.og_csubset.specs.declared.CRel.TheVariants.{Eq, Ne, Lt, Le, Gt, Ge}
use Rattle.og_csubset.specs.Spelling.{is_sum}
use Rattle.og_cprint.specs.declared.expression.Slot.{Slot}
use Rattle.og_cprint.specs.declared.expression.Slot.TheVariants.{Sum, Product, Unary, Primary}
use Rattle.og_cprint.specs.Heading.{heading}

abbrev pub Bytes : Type 0
Bytes = List ℕ

-- these bytes, or none
abbrev pub when : Bool → Bytes → Bytes
when true bytes = bytes
when false bytes = []

abbrev pub literal_bytes : ℕ → Bytes
literal_bytes n = codes "INT64_C(" ++ (decimal n ++ codes ")")

abbrev pub least_bytes : Bytes
least_bytes = codes "(-INT64_C(9223372036854775807) - INT64_C(1))"

abbrev pub number_bytes : ℤ → Bytes
number_bytes (pos n) = literal_bytes n
number_bytes (negsuc n) = cond (n == 2 ^ 63 - 1) least_bytes (codes "-" ++ literal_bytes (suc n))

-- whether a bracket stands round the number behind a sign
abbrev pub is_literal : ℤ → Bool
is_literal (pos n) = not (n == 0)
is_literal (negsuc n) = not (n == 2 ^ 63 - 1)

abbrev pub literal_bracket : ℤ → Slot → Bool
literal_bracket z Sum = false
literal_bracket z Product = false
literal_bracket z Unary = false
literal_bracket z Primary = is_literal z

abbrev pub operation_bracket : COp → Slot → Bool
operation_bracket op Sum = false
operation_bracket op Product = is_sum op
operation_bracket op Unary = true
operation_bracket op Primary = true

abbrev pub is_primary : Slot → Bool
is_primary Sum = false
is_primary Product = false
is_primary Unary = false
is_primary Primary = true

-- whether the literal is this number
abbrev pub is_number : Option ℤ → ℤ → Bool
is_number None z = false
is_number (Some (pos n)) (pos m) = n == m
is_number (Some (pos n)) (negsuc m) = false
is_number (Some (negsuc n)) (pos m) = false
is_number (Some (negsuc n)) (negsuc m) = n == m

-- whether the difference of these, in a bracket, would be read as -2^63
abbrev pub is_least_in : COp → Bool → Option ℤ → Option ℤ → Bool
is_least_in Add bracketed a b = false
is_least_in Sub bracketed a b = bracketed && (is_number a (negsuc (2 ^ 63 - 2)) && is_number b (pos 1))
is_least_in Mul bracketed a b = false
is_least_in Div bracketed a b = false
is_least_in Rem bracketed a b = false

abbrev pub left_slot : COp → Bool → Slot
left_slot op true = Primary
left_slot op false = cond (is_sum op) Sum Product

abbrev pub right_slot : COp → Slot
right_slot op = cond (is_sum op) Product Unary

abbrev pub operator_bytes : COp → Bytes
operator_bytes Add = codes " + "
operator_bytes Sub = codes " - "
operator_bytes Mul = codes " * "
operator_bytes Div = codes " / "
operator_bytes Rem = codes " % "

abbrev pub relation_bytes : CRel → Bytes
relation_bytes Eq = codes " == "
relation_bytes Ne = codes " != "
relation_bytes Lt = codes " < "
relation_bytes Le = codes " <= "
relation_bytes Gt = codes " > "
relation_bytes Ge = codes " >= "

-- an expression: its number where it is one, and its text where it stands
pub record Printed : Type 0 where
  pub value : Option ℤ
  pub at : Slot → Bytes

abbrev pub number_printed : ℤ → Printed
number_printed z = record {
  value = Some z;
  at = λ slot. when (literal_bracket z slot) (codes "(") ++ (number_bytes z ++ when (literal_bracket z slot) (codes ")"));
}

abbrev pub place_printed : Bytes → Printed
place_printed place = record { value = None; at = λ slot. place }

abbrev pub minus_printed : Printed → Printed
minus_printed p = record {
  value = None;
  at = λ slot. when (is_primary slot) (codes "(") ++ (codes "-" ++ (p.at Primary ++ when (is_primary slot) (codes ")")));
}

abbrev pub operation_at : COp → Printed → Printed → Bool → Bytes
operation_at op p q bracketed =
    when bracketed (codes "(") ++ (p.at (left_slot op (is_least_in op bracketed p.value q.value))
    ++ (operator_bytes op ++ (q.at (right_slot op) ++ when bracketed (codes ")"))))

abbrev pub operation_printed : COp → Printed → Printed → Printed
operation_printed op p q = record { value = None; at = λ slot. operation_at op p q (operation_bracket op slot) }

abbrev pub pick_printed : Bytes → Printed → Printed → Printed
pick_printed test p q = record {
  value = None;
  at = λ slot. codes "(" ++ (test ++ (codes " ? " ++ (p.at Sum ++ (codes " : " ++ (q.at Sum ++ codes ")")))));
}

abbrev pub expression_layer : CExpr-F Printed Bytes Bytes Bytes → Printed
expression_layer (Number z) = number_printed z
expression_layer (Read place) = place_printed place
expression_layer (Minus p) = minus_printed p
expression_layer (Op op p q) = operation_printed op p q
expression_layer (Pick test p q) = pick_printed test p q

abbrev pub step_layer : CStep-F Printed Bytes Bytes Bytes → Bytes
step_layer (Member m) = codes "." ++ m.bytes
step_layer (At p) = codes "[" ++ (p.at Sum ++ codes "]")

abbrev pub place_layer : CPlace-F Printed Bytes Bytes Bytes → Bytes
place_layer p = p.name.bytes ++ flat_map (λ step. step) p.path

abbrev pub test_layer : CTest-F Printed Bytes Bytes Bytes → Bytes
test_layer t = t.left.at Sum ++ (relation_bytes t.op ++ t.right.at Sum)

unfoldable pub printed : CExpr → Printed
printed e = fold-CExpr Printed Bytes Bytes Bytes expression_layer step_layer place_layer test_layer e

unfoldable pub step_bytes : CStep → Bytes
step_bytes s = fold-CStep Printed Bytes Bytes Bytes expression_layer step_layer place_layer test_layer s

unfoldable pub place_bytes : CPlace → Bytes
place_bytes p = fold-CPlace Printed Bytes Bytes Bytes expression_layer step_layer place_layer test_layer p

unfoldable pub test_bytes : CTest → Bytes
test_bytes t = fold-CTest Printed Bytes Bytes Bytes expression_layer step_layer place_layer test_layer t

-- what leads to the label, the label and the end of the line
abbrev pub goto_bytes : Bytes → Word → Bytes
goto_bytes before label = before ++ (label.bytes ++ (codes ";" ++ 10 ∷ []))

abbrev pub default_bytes : Word → Bytes
default_bytes l = goto_bytes (codes "    default: goto ") l ++ (codes "    }" ++ 10 ∷ [])

abbrev pub case_bytes : CCase → Bytes
case_bytes c = codes "    case " ++ (number_bytes c.value ++ goto_bytes (codes ": goto ") c.label)

unfoldable pub statement_bytes : CStmt → Bytes
statement_bytes (Assign p e) = codes "    " ++ (place_bytes p ++ (codes " = " ++ ((printed e).at Sum ++ (codes ";" ++ 10 ∷ []))))
statement_bytes (IfGoto t l) = codes "    if (" ++ (test_bytes t ++ goto_bytes (codes ") goto ") l)
statement_bytes (Goto l) = goto_bytes (codes "    goto ") l
statement_bytes (Label l) = l.bytes ++ (codes ":;" ++ 10 ∷ [])
statement_bytes (Switch e cases l) =
    codes "    switch (" ++ ((printed e).at Sum ++ ((codes ") {" ++ 10 ∷ []) ++ (flat_map case_bytes cases ++ default_bytes l)))
statement_bytes (Call f) = codes "    " ++ (f.bytes ++ (codes "();" ++ 10 ∷ []))
statement_bytes Return = codes "    return;" ++ 10 ∷ []

abbrev pub type_bytes : CType → Bytes
type_bytes Int64 = codes "int64_t"
type_bytes (Struct s) = s.bytes

abbrev pub size_bytes : Option ℕ → Bytes
size_bytes None = []
size_bytes (Some n) = codes "[" ++ (decimal n ++ codes "]")

abbrev pub member_bytes : CMember → Bytes
member_bytes m = codes "    " ++ (type_bytes m.kind ++ (codes " " ++ (m.name.bytes ++ (size_bytes m.size ++ (codes ";" ++ 10 ∷ [])))))

unfoldable pub struct_bytes : CStruct → Bytes
struct_bytes s =
    (10 ∷ codes "typedef struct {" ++ 10 ∷ []) ++ (flat_map member_bytes s.members ++ (codes "} " ++ (s.name.bytes ++ (codes ";" ++ 10 ∷ []))))

abbrev pub global_bytes : CGlobal → Bytes
global_bytes g = type_bytes g.kind ++ (codes " " ++ (g.name.bytes ++ (codes ";" ++ 10 ∷ [])))

abbrev pub event_bytes : Word → Bytes
event_bytes e = codes "void " ++ (e.bytes ++ (codes "(void);" ++ 10 ∷ []))

unfoldable pub function_bytes : CFunction → Bytes
function_bytes f =
    (10 ∷ codes "void ") ++ (f.name.bytes ++ ((codes "(void)" ++ 10 ∷ codes "{" ++ 10 ∷ []) ++ (flat_map statement_bytes f.body ++ (codes "}" ++ 10 ∷ []))))

-- a blank line before a group that has something
abbrev pub gap : Bool → Bytes
gap nothing = when (not nothing) (10 ∷ [])

abbrev pub globals_bytes : List CGlobal → Bytes
globals_bytes globals = gap (length globals == 0) ++ flat_map global_bytes globals

abbrev pub events_bytes : List Word → Bytes
events_bytes events = gap (length events == 0) ++ flat_map event_bytes events

abbrev pub body_bytes : CProgram → Bytes
body_bytes P = flat_map struct_bytes P.structs ++ (globals_bytes P.globals ++ (events_bytes P.events ++ flat_map function_bytes P.functions))

-- the text of a program
abbrev pub printed_text : CProgram → Bytes
printed_text P = heading ++ body_bytes P
